use Rattle.std.proofs.Common.{◌++◌, ◌∷◌, [], codes}
use Rattle.std.specs.Fmt.{decimal}
use Rattle.ly_base.specs.Bytes.{newline}
use Rattle.ly_report.proofs.LineLemmas.{joined}
use Rattle.ly_report.proofs.counts.push_counts.Goals as goal

pub returns : goal.returns
returns c =
    let shifts = decimal c.args.counts.now.shift_reduce in
    let reductions = decimal c.args.counts.now.reduce_reduce in
    let end = codes " reduce/reduce" ++ newline ∷ [] in
    let from_reductions = joined c.extend_from_slice-2.new.self.items reductions end
    c.in_ok-extend_from_slice-3.ensures.items c.in_ok-push_decimal-2.ensures in
    let from_kind = joined c.push_decimal.new.out.items (codes " shift/reduce, ") (reductions ++ end) from_reductions
    c.in_ok-extend_from_slice-2.ensures.items in
    let from_shifts = joined c.extend_from_slice.new.self.items shifts (codes " shift/reduce, " ++ (reductions ++ end))
    from_kind c.in_ok-push_decimal.ensures in
    joined c.args.out.now.items (codes "conflicts: ") (shifts ++ (codes " shift/reduce, " ++ (reductions ++ end)))
    from_shifts c.in_ok-extend_from_slice.ensures.items
