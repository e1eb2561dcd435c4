use Rattle.std.proofs.Common.{◌++◌, ◌∷◌, [], codes}
use Rattle.std.specs.Fmt.{decimal}
use Rattle.ly_base.specs.Bytes.{newline}
use Rattle.ly_report.proofs.LineLemmas.{joined}
use Rattle.ly_report.proofs.write_report.push_removed_count.Goals as goal

pub returns : goal.returns
returns c =
    let count = decimal c.args.count in
    let end = newline ∷ [] in
    joined c.args.out.now.items (codes "removed rules: ") (count ++ end)
    (joined c.extend_from_slice.new.self.items count end c.in_ok-push.ensures.items c.in_ok-push_decimal.ensures)
    c.in_ok-extend_from_slice.ensures.items
