use Rattle.std.proofs.Common.{Some, length}
use Rattle.std.specs.Prelude.{All}
use Rattle.std.proofs.lemmas.List.Elements.{All-pop}
use Rattle.ly_ere.specs.Private.Levels.{ArePartsBelow}
use Rattle.ly_ere.proofs.LevelLemmas.{close_step, grows_trans, within_grown}
use Rattle.ly_ere.proofs.read.close.Goals as goal

-- the parts of the groups round the last one, and of that one
around : (c : goal.In_ok-with_atom) → All (ArePartsBelow (length c.args.arena.now)) c.pop.new.self.items
    × ArePartsBelow (length c.args.arena.now) c.in-Some.around
around c = All-pop (ArePartsBelow (length c.args.arena.now)) c.args.outer.now.items c.pop.new.self.items
    (Some c.in-Some.around) c.in-Some.ensures.items c.requires.outer_parts

pub returns-clause-outer_parts : goal.returns-clause-outer_parts
returns-clause-outer_parts c
    = within_grown c.args.arena.now _ _
    (grows_trans c.args.arena.now c.whole.new.arena _ c.in_ok-atom.ensures.grown c.in_ok-with_atom.ensures.grown)
    (around c).0

pub returns-clause-closed : goal.returns-clause-closed
returns-clause-closed c
    = close_step c.args.arena.now c.whole.new.arena c.with_atom.new.arena c.pop.new.self.items c.args.level
    c.in_ok-atom.ensures.grown c.in_ok-with_atom.ensures.grown
    (around c).0 c.args.outer.now.items c.in-Some.around c.in_ok-with_atom.field-0 c.in_ok-atom.atom
    c.in-Some.ensures.items
    (around c).1 c.in_ok-atom.ensures.whole c.in_ok-with_atom.ensures.atom
