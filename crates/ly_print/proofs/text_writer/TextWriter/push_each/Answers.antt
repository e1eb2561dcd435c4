use Rattle.std.proofs.Common.{◌≡◌, Err, ap, arith, get_or, length, take}
use Rattle.std.proofs.lemmas.List.Folds.{length-flat_map-take}
use Rattle.ly_print.specs.Private.ByteForm.{written_as}
use Rattle.ly_print.proofs.TextLemmas.{split_at}
use Rattle.ly_print.proofs.TextWriterLemmas.{appended_twice, failed_before, same_bytes}
use Rattle.ly_print.proofs.text_writer.TextWriter.push_each.Goals as goal

pub push_bytes-requires : goal.push_bytes-requires
push_bytes-requires g c =
    let now = c.loop-byte in
    let byte : take c.put_byte-end.result c.put_byte-end.new.room
    ≡ written_as c.args.form (get_or c.args.bytes.now now.byte-index 0) = c.put_byte-end.ensures.bytes in record {
      countable = omega (
        arith,
        length-flat_map-take (written_as c.args.form) c.args.bytes.now now.byte-index 0 c.loop-byte-test.true,
        ap length byte,
      );
    }

pub returns-in_err-push_bytes-clause-text : goal.returns-in_err-push_bytes-clause-text
returns-in_err-push_bytes-clause-text g c =
    let now = c.loop-byte in
    let fault = c.in_err-push_bytes.field-0.0 in
    failed_before c.args.self.now now.self _ _ _ _ _ _ _ fault
    (split_at (written_as c.args.form) c.args.bytes.now now.byte-index c.loop-byte-test.true)
    c.from_residual.ensures.1
    (appended_twice c.args.self.now now.self now.self _ _ _ _ _ tt (Err fault) now.invariant.so_far
    (same_bytes now.self c.push_bytes.new.self _ _ _ (written_as c.args.form (get_or c.args.bytes.now now.byte-index 0))
    (Err fault) c.put_byte-end.ensures.bytes c.in_err-push_bytes.ensures.text))
