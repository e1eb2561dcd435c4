-- Winners and splits are determined.
use Rattle.std.proofs.Common.{◌≡◌, ℕ, ◌-◌, ◌≤◌, List, length, take, drop, Option, Some, None, sym, ap, subst, arith}
use Rattle.std.proofs.Common.{length-take, length-drop, le_antisymm}
use Rattle.ly_base.specs.declared.cut.Cut.{Cut}
use Rattle.ly_base.specs.declared.cut.Cut.TheVariants.{Whole, Head, Tail}
use Rattle.ly_ere.specs.Expression.{Expression, Matches}
use Rattle.ly_ere.specs.Winner.{Candidate, CutHolds, InTail}
use Rattle.ly_ere.specs.Laws.{WinnerIsOne, SplitIsOne}

-- the winner's length and rule
pub winner_one : WinnerIsOne
winner_one ds rules condition line rest i n m j k l a b =
    same_rule (le_antisymm (b.longest i n m a.is_candidate) (a.longest j k l b.is_candidate))
  where
    same_rule : n ≡ k → (i ≡ j) × (n ≡ k)
    same_rule e =
        let one : i ≤ j = a.first j l (subst (λ x. Candidate ds rules condition line rest j x l) (sym e) b.is_candidate)
        in
        let two : j ≤ i = b.first i m (subst (λ x. Candidate ds rules condition line rest i x m) e a.is_candidate) in
        (le_antisymm one two, e)

-- the split of a match
split_by : (ds : List Expression) (head : Expression) (tail : Option Expression) (cut : Cut) (rest : List ℕ) (n m l : ℕ)
    → CutHolds ds head tail cut → (m ≤ n) → (l ≤ n) → n ≤ length rest → Matches ds head (take m rest)
    → Matches ds head (take l rest) → InTail ds tail (take (n - m) (drop m rest))
    → InTail ds tail (take (n - l) (drop l rest)) → m ≡ l
split_by ds head None Whole rest n m l c mn ln within hm hl tm tl
    = omega (
      arith,
      ap length tm,
      ap length tl,
      length-take (n - m) (drop m rest),
      length-take (n - l) (drop l rest),
      length-drop m rest,
      length-drop l rest,
    )
split_by ds head None (Head x) rest n m l c mn ln within hm hl tm tl = absurd c
split_by ds head None (Tail x) rest n m l c mn ln within hm hl tm tl = absurd c
split_by ds head (Some t) Whole rest n m l c mn ln within hm hl tm tl = absurd c
split_by ds head (Some t) (Head x) rest n m l c mn ln within hm hl tm tl
    = omega (arith, c (take m rest) hm, c (take l rest) hl, length-take m rest, length-take l rest)
split_by ds head (Some t) (Tail x) rest n m l c mn ln within hm hl tm tl
    = omega (
      arith,
      c (take (n - m) (drop m rest)) tm,
      c (take (n - l) (drop l rest)) tl,
      length-take (n - m) (drop m rest),
      length-take (n - l) (drop l rest),
      length-drop m rest,
      length-drop l rest,
    )

pub split_one : SplitIsOne
split_one ds p rest n m l c f g
    = split_by ds p.head p.tail p.cut rest n m l c f.token_within g.token_within f.within f.in_head g.in_head f.in_tail
    g.in_tail
