use Rattle.std.proofs.Common.{◌∙◌, ◌-◌, ◌+◌, arith, sym}
use Rattle.std.specs.List.{range_with_len}
use Rattle.std.proofs.lemmas.List.{get_or_default}
use Rattle.std.proofs.lemmas.List.FromFn.{get_or-range_with_len, length-range_with_len}
use Rattle.ly_subset.proofs.chains.run_number.Goals as goal

pub overflow_cast-result : goal.overflow_cast-result
overflow_cast-result c = let last = c.ranges.last.fits in let place = c.requires in omega (
  arith,
  length-range_with_len c.args.first (c.args.last + 1 - c.args.first),
)

pub overflow_add-result : goal.overflow_add-result
overflow_add-result c = let last = c.ranges.last.fits in let place = c.requires in omega (
  arith,
  length-range_with_len c.args.first (c.args.last + 1 - c.args.first),
)

pub returns : goal.returns
returns c =
    let n = c.args.last + 1 - c.args.first in
    let at = c.args.first + c.args.place in
    let place = c.requires in
    sym (get_or_default (range_with_len c.args.first n) c.args.place 0 at c.requires
    ∙ get_or-range_with_len c.args.first n c.args.place at (omega (arith, length-range_with_len c.args.first n)))
