-- Two automata with the positions of the same rules have as many.
use Rattle.std.proofs.Common.{◌≡◌, ℕ, ◌≤◌, List, length, ◌∙◌, sym, arith}
use Rattle.ly_base.proofs.PigeonholeLemmas.{pigeonhole}
use Rattle.ly_ere.specs.Expression.{Expression}
use Rattle.ly_ere.specs.declared.pattern.Rule.{Rule}
use Rattle.ly_position.specs.Nfa.{Nfa}
use Rattle.ly_position.specs.Spots.{HasPositions}
use Rattle.ly_position.specs.Laws.{PositionsAreAsMany}

no_more : (names : List Expression) (rules : List Rule) (c d : ℕ) (nfa other : Nfa) → HasPositions names rules c nfa
    → HasPositions names rules d other → length nfa.positions ≤ length other.positions
no_more names rules c d nfa other a b
    = pigeonhole (length nfa.positions) (length other.positions) (λ p q. b.0 q ≡ a.0 p)
    (λ p l. b.1.each (a.0 p) (a.1.is_spot p l)) (λ p h q l m e f. a.1.once p h l m (sym e ∙ f))

pub positions_are_as_many : PositionsAreAsMany
positions_are_as_many names rules c d nfa other a b =
    let l = no_more names rules c d nfa other a b in let m = no_more names rules d c other nfa b a in omega arith
