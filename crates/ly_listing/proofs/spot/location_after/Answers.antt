use Rattle.std.proofs.Common.{◌≡◌, ◌∙◌, ◌+◌, ap, arith, get_or, sym, take, true, false}
use Rattle.std.proofs.lemmas.List.Sums.{count_by_more_no, count_by_more_yes}
use Rattle.std.specs.Prelude.{if◌then◌else◌}
use Rattle.ly_base.specs.Location.{is_newline}
use Rattle.ly_listing.specs.Private.Spot.{column_on}
use Rattle.ly_listing.proofs.SpotLemmas.{column_more, not_newline}
use Rattle.ly_listing.proofs.spot.location_after.Goals as goal
use Rattle.ly_listing.proofs.spot.location_after.Goals.{then-byte-eq10, else-byte-eq10}

pub loop-byte-preserved : goal.loop-byte-preserved
loop-byte-preserved c =
    let now = c.loop-byte in
    let bytes = c.args.bytes.now in
    let i = now.byte-index in
    let lt = c.loop-byte-test.true in
    let before = column_on c.args.location.column (take i bytes) in elim c.if-byte-eq10.branch [
      | then-byte-eq10 w ↦
          let is : is_newline (get_or bytes i 0) ≡ true = ap is_newline w.if-byte-eq10.true in record {
            line = omega (arith, w.line-is, now.invariant.line, count_by_more_yes is_newline bytes i 0 lt is);
            column = w.column-is ∙ sym (column_more c.args.location.column bytes i 0 lt
                ∙ ap (λ b. if b then 1 else before + 1) is);
            line_within = omega (arith, w.line-is, now.invariant.line_within);
            column_within = omega (arith, w.column-is);
          }
      | else-byte-eq10 w ↦
          let is : is_newline (get_or bytes i 0) ≡ false = not_newline _ w.if-byte-eq10.false in record {
            line = omega (arith, w.line-is, now.invariant.line, count_by_more_no is_newline bytes i 0 lt is);
            column = w.column-is ∙ ap (λ n. n + 1) now.invariant.column
                ∙ sym (column_more c.args.location.column bytes i 0 lt ∙ ap (λ b. if b then 1 else before + 1) is);
            line_within = omega (arith, w.line-is, now.invariant.line_within);
            column_within = omega (arith, w.column-is, now.invariant.column_within);
          }
    ]
