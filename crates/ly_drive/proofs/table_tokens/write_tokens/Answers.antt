use Rattle.std.proofs.Common.{◌≡◌, ◌∙◌, Err, ap, subst}
use Rattle.ly_base.specs.declared.lexeme.End.TheVariants.{BadCut}
use Rattle.ly_drive.proofs.SetLabelLemmas.{listing_of_run}
use Rattle.ly_drive.specs.TableTokens.{token_name_in}
use Rattle.ly_feed.specs.ScanPart.{condition_in, scan_part_of, scanner_in}
use Rattle.ly_listing.proofs.ListingLemmas.{named_listing}
use Rattle.ly_listing.specs.Labels.{IsLabelListing}
use Rattle.ly_listing.specs.Listings.{end_of}
use Rattle.ly_print.specs.TextWriter.{IsCutShort}
use Rattle.ly_scan.specs.Lexers.{scanner_of}
use Rattle.ly_drive.proofs.table_tokens.write_tokens.Goals as goal

pub write-requires : goal.write-requires
write-requires g c = record {
  passed = c.in_ok-labels.ensures.passed c.in_ok-lexer.lexer.passed c.in_ok-lexer.ensures.passed;
  clean = λ is. absurd cc;
}

pub returns-in-Ok-clause-answered : goal.returns-in-Ok-clause-answered
returns-in-Ok-clause-answered g c =
    let s = c.args.set.now in
    let form = c.args.form in
    let text = c.args.text.now in
    let l = c.in_ok-labels.labels in
    let are = c.in_ok-labels.ensures in
    let scanner = c.in_ok-lexer.ensures.scanner in
    let told = c.in-Ok.ensures.answered in
    let e = end_of c.in-Ok.end in (
      told.0,
      named_listing form (scanner_in (scan_part_of s)) l text e told.0 (token_name_in s) (condition_in (scan_part_of s)) are.labels are.begins
          c.are_bytes.ensures (subst (λ x. IsLabelListing form x l text e told.0) scanner told.1),
      told.2,
    )

pub returns-in-Err-BadCut-clause-faulty : goal.returns-in-Err-BadCut-clause-faulty
returns-in-Err-BadCut-clause-faulty g c = λ is.
    let s = c.args.set.now in
    let form = c.args.form in
    let text = c.args.text.now in
    let l = c.in_ok-labels.labels in
    let are = c.in_ok-labels.ensures in
    let scanner = c.in_ok-lexer.ensures.scanner in
    let cut = c.in-Err-BadCut.ensures.bad_cut (ap Err c.in-Err-BadCut.field-0-is) in
    let listed = listing_of_run form (scanner_of c.in_ok-lexer.lexer.scanner) l text (BadCut cut.0) cut.1 in (
      cut.0,
      listed.0,
      named_listing form (scanner_in (scan_part_of s)) l text (BadCut cut.0) listed.0 (token_name_in s) (condition_in (scan_part_of s)) are.labels
          are.begins c.are_bytes.ensures
          (subst (λ x. IsLabelListing form x l text (BadCut cut.0) listed.0) scanner listed.1),
    )

pub returns-in-Err-Write-clause-beginning : goal.returns-in-Err-Write-clause-beginning
returns-in-Err-Write-clause-beginning g c = λ written is.
    let s = c.args.set.now in
    let form = c.args.form in
    let text = c.args.text.now in
    let l = c.in_ok-labels.labels in
    let are = c.in_ok-labels.ensures in
    let scanner = c.in_ok-lexer.ensures.scanner in
    let short = c.in-Err-Write.ensures.beginning c.in-Err-Write.written (ap Err c.in-Err-Write.field-0-is) in
    let same : c.in-Err-Write.written ≡ written = cc in (
      short.0,
      short.1.0,
      named_listing form (scanner_in (scan_part_of s)) l text short.0 short.1.0 (token_name_in s) (condition_in (scan_part_of s)) are.labels
          are.begins c.are_bytes.ensures (subst (λ x. IsLabelListing form x l text short.0 short.1.0) scanner short.1.1),
      subst (λ k. IsCutShort (g.W.Sink.contents c.args.writer.now) (g.W.Sink.contents c.write.new.writer) k short.1.0)
          same short.1.2,
    )
