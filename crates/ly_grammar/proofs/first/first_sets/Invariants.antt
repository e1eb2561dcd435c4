use Rattle.ly_grammar.specs.Reduction.{restricted}
use Rattle.ly_grammar.proofs.FirstLemmas.{AreFirsts}
use Rattle.ly_grammar.proofs.first.first_sets.Given as goal

-- the rules before this one were added
abbrev pub invariant-loop-number : goal.invariant-loop-number
invariant-loop-number l = AreFirsts (restricted l.kept l.grammar) l.nullable l.graph l.sets l.number
