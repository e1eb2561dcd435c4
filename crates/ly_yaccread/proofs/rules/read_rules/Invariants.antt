use Rattle.std.proofs.Common.{length}
use Rattle.ly_yaccread.specs.Private.Read.{last_of, left}
use Rattle.ly_yaccread.proofs.RuleLemmas.{RulesGoOn}
use Rattle.ly_yaccread.proofs.rules.read_rules.Given as goal

abbrev pub invariant-loop-last : goal.invariant-loop-last
invariant-loop-last l = RulesGoOn (left l.words) l.rules.items l.standings.items (last_of l.last) (left l.rest)

abbrev pub decreases-loop-last : goal.decreases-loop-last
decreases-loop-last l = length (left l.rest)
