-- The nonkernel items of a state: the rules of the nonterminals that were entered, with nothing before their dots.
use Rattle.std.specs.Prelude.{◌≡◌, ◌↔◌, ℕ, List, Contains}
use Rattle.ly_join.specs.Grammar.{Grammar, GrammarRule, IsRule}
use Rattle.ly_lr0.specs.declared.item.Item.{Item}
use Rattle.ly_lr0.specs.declared.item.Move.{Move}
use Rattle.ly_lr0.specs.declared.nonkernel.Nonkernel.{Nonkernel}
use Rattle.ly_lr0.specs.Private.Closing.{IsMoveOfOne, IsRuleAtEnd}

-- the item is a rule of one of the nonterminals, with nothing before its dot
abbrev pub IsNonkernel : Grammar → List ℕ → Item → Type 0
IsNonkernel G entered i = (A : ℕ) × Contains entered A × (r : GrammarRule) × IsRule G i.rule r × (r.left ≡ A)
    × (i.dot ≡ 0)

-- The items of some nonterminals, what they move to, and the rules that are complete among them.
pub record AreNonkernel (G : Grammar) (entered : List ℕ) (n : Nonkernel) : Type 0 where
  pub of_these : n.entered.items ≡ entered
  pub items : (i : Item) → Contains n.items.items i ↔ IsNonkernel G entered i
  pub moves : (m : Move) → Contains n.moves.items m ↔ IsMoveOfOne G n.items.items m
  pub complete : (p : ℕ) → Contains n.complete.items p ↔ IsRuleAtEnd G n.items.items p
