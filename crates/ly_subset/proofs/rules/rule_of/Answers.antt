use Rattle.std.proofs.Common.{ap, sym, subst}
use Rattle.std.specs.Prelude.{option_map}
use Rattle.ly_subset.specs.Private.Members.{listed}
use Rattle.ly_subset.specs.Subsets.{HasEnd, IsLeastRule}
use Rattle.ly_subset.proofs.RuleLemmas.{least_of_all, least_of_ends}
use Rattle.ly_subset.proofs.rules.rule_of.Goals as goal

pub returns-then-len-long : goal.returns-then-len-long
returns-then-len-long c = subst
    (λ ps. IsLeastRule (HasEnd c.args.nfa.now ps) (option_map (λ r. r.0) c.least_end.result))
    (sym (ap listed c.in-Span.is))
    (least_of_ends c.args.nfa.now _ (listed c.args.ends.now) c.in-Span.span _ c.requires.ends c.len-long.ensures.fits
    c.least_end.ensures)

pub returns : goal.returns
returns c = least_of_all c.args.nfa.now (listed c.args.positions.now) _ c.least_end-2.ensures
