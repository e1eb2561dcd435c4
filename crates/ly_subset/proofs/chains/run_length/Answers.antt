use Rattle.std.proofs.Common.{◌∙◌, ◌-◌, ◌+◌, sym}
use Rattle.std.proofs.lemmas.List.FromFn.{length-range_with_len}
use Rattle.ly_subset.proofs.chains.run_length.Goals as goal

pub returns-clause-count : goal.returns-clause-count
returns-clause-count c = c.saturating_sub.ensures
    ∙ sym (length-range_with_len c.args.first (c.args.last + 1 - c.args.first))
