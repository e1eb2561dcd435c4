-- The automaton as far as it is made.
use Rattle.std.specs.Prelude.{◌<◌}
use Rattle.ly_lr0.specs.declared.construct.Construction.{Construction}
use Rattle.ly_lr0.specs.Private.Closing.{AreByLeft}
use Rattle.ly_lr0.specs.Private.Found.{IsFound}
use Rattle.ly_lr0.specs.Private.Nonkernel.{AreNonkernel}
use Rattle.ly_lr0.specs.Private.Shared.{AreMovesBefore}

-- The rows that are found are whole, and what is kept beside them is that of their grammar and of the last of them.
pub record IsConstruction (c : Construction) : Type 0 where
  pub found : IsFound c.found
  pub by_left : AreByLeft c.found.reduced.now.grammar c.by_left
  pub room : c.found.reduced.now.grammar.accept < c.entered.below
  pub nonkernel : AreNonkernel c.found.reduced.now.grammar c.nonkernel.entered.items c.nonkernel
  pub before : AreMovesBefore c.found c.before.items
