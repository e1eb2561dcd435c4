use Rattle.std.proofs.Common.{subst, sym}
use Rattle.ly_tables.specs.Private.RawValues.{raw_from}
use Rattle.ly_tables.specs.TableText.{TableText}
use Rattle.ly_tables.specs.Values.{set_of}
use Rattle.ly_tables.proofs.ReadingLemmas.{handed_unsteady, text_of_numbers}
use Rattle.ly_tables.proofs.VersionLemmas.{within_2}
use Rattle.ly_tables.proofs.reading.read_tables.Goals as goal

pub steady_set-requires : goal.steady_set-requires
steady_set-requires c = within_2 c.in_ok-raw.version (set_of c.in_ok-parts.parts) c.in_ok-parts.ensures.within

pub returns-in_err-set-clause-refused : goal.returns-in_err-set-clause-refused
returns-in_err-set-clause-refused c =
    let read = set_of c.in_ok-parts.parts in
    let error = c.in_err-set in let handed = c.from_residual-in_err-set in
    let text = text_of_numbers c.in_ok-raw.version c.args.bytes.now (raw_from c.in_ok-raw.raw) read
    c.in_ok-raw.ensures.spelled c.in_ok-parts.ensures.same c.in_ok-parts.ensures.within in
    handed_unsteady c.in_ok-raw.version c.args.bytes.now read text handed.result error.field-0.0 handed.ensures.1
    error.ensures.refused

pub returns-clause-spelled : goal.returns-clause-spelled
returns-clause-spelled c =
    let read = set_of c.in_ok-parts.parts in
    let text = text_of_numbers c.in_ok-raw.version c.args.bytes.now (raw_from c.in_ok-raw.raw) read
    c.in_ok-raw.ensures.spelled c.in_ok-parts.ensures.same c.in_ok-parts.ensures.within in
    subst (TableText c.args.bytes.now c.in_ok-raw.version) (sym c.in_ok-set.ensures.same) text
