use Rattle.std.proofs.Common.{true}
use Rattle.ly_grammar.specs.Private.Search.{SymbolsPass}
use Rattle.ly_grammar.proofs.MarksLemmas.{AreMarks}
use Rattle.ly_grammar.proofs.useful.productive_rules.Given as goal

-- the rules before this one are marked where their bodies pass
abbrev pub invariant-loop-number : goal.invariant-loop-number
invariant-loop-number l
    = AreMarks l.grammar (λ p r. SymbolsPass l.found.items true r.body) l.productive.items l.number
