use Rattle.std.proofs.Common.{◌∙◌, ◌<◌, ◌*◌, ap, arith, length, map, option_map, subst, sym}
use Rattle.std.specs.Prelude.{IfSome, slice_index}
use Rattle.ly_base.specs.declared.numbers.RuleNo.{RuleNo}
use Rattle.ly_feed.specs.ScanPart.{states_from}
use Rattle.ly_pack.specs.Rows.{comb_entry}
use Rattle.ly_scan.specs.StateRows.{row_entry, row_width}
use Rattle.ly_feed.proofs.lexer_of_set.parts_of.Goals as goal

pub returns : goal.returns
returns c =
    let s = c.args.set.now in
    let rows = c.in_ok-spread.field-0 in
    let copied = c.in_ok-rules_of.ensures in
    let count = ap (λ xs. length xs) copied in
    record {
      conditions = c.conditions.result.now;
      all_conditions = c.conditions.ensures;
      starts = c.in_ok-starts_of.ensures;
      accepted = ap (map (option_map (λ (r : RuleNo). r.0))) copied ∙ c.accepted-accepted.ensures;
      rules = c.scan_rules.result.now;
      all_rules = c.scan_rules.ensures;
      cuts = c.in_ok-cuts_of.ensures;
      full = c.in_ok-spread.ensures.count ∙ ap (λ n. n * row_width) (sym count);
      rows = λ state byte row lt. c.in_ok-spread.ensures.same state byte (omega (arith, row, count)) lt
          ∙ ap (λ comb. states_from (comb_entry comb) state (slice_index c.classes.result.now byte)) c.scan_rows.ensures
          ∙ ap (λ classes. states_from (comb_entry s.scan_rows) state (slice_index classes byte)) c.classes.ensures;
      targets = λ state byte row lt. subst (λ n. IfSome (row_entry rows state byte) (λ next. next < n)) (sym count)
          (c.in_ok-spread.ensures.within state byte (omega (arith, row, count)) lt);
    }
