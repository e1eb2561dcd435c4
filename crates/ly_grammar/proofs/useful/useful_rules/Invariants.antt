use Rattle.std.proofs.Common.{◌≡◌, ◌⊎◌, slice_index_or, true, false}
use Rattle.ly_grammar.specs.Reduction.{restricted}
use Rattle.ly_grammar.specs.Private.Reach.{IsReachedBy}
use Rattle.ly_grammar.proofs.MarksLemmas.{AreMarks}
use Rattle.ly_grammar.proofs.useful.useful_rules.Given as goal

-- the rules before this one are marked where they are productive and led to, and rule 0 is
abbrev pub invariant-loop-number : goal.invariant-loop-number
invariant-loop-number l = AreMarks l.grammar
    (λ p r. (p ≡ 0) ⊎ ((slice_index_or l.productive.items p false ≡ true)
    × IsReachedBy (restricted l.productive.items l.grammar) r.left)) l.useful.items l.number
