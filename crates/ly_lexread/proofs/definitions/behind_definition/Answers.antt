use Rattle.std.proofs.Common.{ℕ, List, sym, subst, MatchOption}
use Rattle.ly_lexread.specs.Private.Definitions.{Ends}
use Rattle.ly_lexread.proofs.definitions.behind_definition.Goals as goal

pub returns-in-Comment-clause-these : goal.returns-in-Comment-clause-these
returns-in-Comment-clause-these c = subst (λ k. MatchOption c.behind_comment.result
    ((rest : List ℕ) → Ends k c.args.text.bytes.now c.args.behind.bytes.now rest → ⊥)
    (λ rest. Ends k c.args.text.bytes.now c.args.behind.bytes.now rest.bytes.now)) (sym c.in-Comment.is)
    c.behind_comment.ensures.these
