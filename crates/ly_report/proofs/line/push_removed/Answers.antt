use Rattle.std.proofs.Common.{◌++◌, ◌∷◌, [], codes, slice_get}
use Rattle.std.specs.Fmt.{decimal}
use Rattle.ly_base.specs.Bytes.{newline}
use Rattle.ly_report.specs.Report.{rule_text}
use Rattle.ly_report.proofs.LineLemmas.{joined}
use Rattle.ly_report.proofs.line.push_removed.Goals as goal

pub returns : goal.returns
returns c =
    let number = decimal c.args.number in
    let rule = rule_text c.args.spec.now (slice_get c.args.spec.now.grammar.rules c.args.number) in
    let end = newline ∷ [] in
    let from_rule = joined c.extend_from_slice-2.new.self.items rule end c.in_ok-push.ensures.items
    c.in_ok-push_rule.ensures in
    let from_colon = joined c.push_decimal.new.out.items (codes ": ") (rule ++ end) from_rule
    c.in_ok-extend_from_slice-2.ensures.items in
    let from_number = joined c.extend_from_slice.new.self.items number (codes ": " ++ (rule ++ end)) from_colon
    c.in_ok-push_decimal.ensures in
    joined c.args.out.now.items (codes "removed rule ") (number ++ (codes ": " ++ (rule ++ end))) from_number
    c.in_ok-extend_from_slice.ensures.items
