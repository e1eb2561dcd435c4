use Rattle.std.proofs.Common.{◌≡◌, ◌∙◌, ℕ, Err, Bool, ap, false, subst, sym, true}
use Rattle.std.specs.Bool.{OnTrue}
use Rattle.ly_base.specs.Lexed.{start_of}
use Rattle.ly_ere.specs.Names.{defined}
use Rattle.ly_listing.proofs.ListingLemmas.{named_listing}
use Rattle.ly_listing.specs.Labels.{begin_by}
use Rattle.ly_listing.specs.Listings.{end_of}
use Rattle.ly_print.specs.TextWriter.{IsCutShort}
use Rattle.ly_scan.specs.Lexers.{scanner_of}
use Rattle.ly_tokens.specs.Answering.{names_by}
use Rattle.ly_tokens.specs.Printing.{condition_set}
use Rattle.ly_tokens.specs.Private.Clean.{BeginsEverywhere}
use Rattle.ly_tokens.specs.Private.Labels.{AreLabelsOf}
use Rattle.ly_tokens.proofs.AnswerLemmas.{answer_of, run_leaves_tokens}
use Rattle.ly_tokens.proofs.CleanLemmas.{clean_everywhere}
use Rattle.ly_tokens.proofs.write_tokens.write_answer_by.Goals as goal

on_true : (b : Bool) (P : Type 0) → OnTrue b P → b ≡ true → P
on_true true P h is = h
on_true false P h is = absurd cc

pub write-requires-clause-clean : goal.write-requires-clause-clean
write-requires-clause-clean g c = λ yes.
    let file = c.args.file.now in
    let names = defined file.names in
    let s = scanner_of c.args.lexer.now.scanner in
    let text = c.args.text.now in
    let labels = c.in_ok-labels.labels in
    let are = subst (λ a. AreLabelsOf c.args.form a labels) c.deref.ensures.value c.in_ok-labels.ensures in
    clean_everywhere s (begin_by labels) file.conditions text
    (subst (λ t. BeginsEverywhere (scanner_of t) file.conditions) c.scanner.ensures
    (on_true c.begins_everywhere.result _ c.begins_everywhere.ensures yes))
    (λ i n set. c.requires.below i n (sym (are.begins i) ∙ set)) c.requires.some c.are_bytes.ensures
    (λ ts e run. run_leaves_tokens names file.rules.items (begin_by labels) s text ts e c.requires.agrees run)

pub returns-in-Ok-clause-answered : goal.returns-in-Ok-clause-answered
returns-in-Ok-clause-answered g c =
    let file = c.args.file.now in
    let names = defined file.names in
    let s = scanner_of c.args.lexer.now.scanner in
    let text = c.args.text.now in
    let labels = c.in_ok-labels.labels in
    let are = subst (λ a. AreLabelsOf c.args.form a labels) c.deref.ensures.value c.in_ok-labels.ensures in
    let e = end_of c.in-Ok.end in
    let told = c.in-Ok.ensures.answered in (
      told.0,
      answer_of c.args.form names file.rules.items file.actions.items s text e told.0 c.requires.agrees
          (named_listing c.args.form s labels text e told.0 (names_by file.actions.items)
          (condition_set file.actions.items) are.labels are.begins c.are_bytes.ensures told.1),
      told.2,
    )

pub returns-in-Err-Write-clause-beginning : goal.returns-in-Err-Write-clause-beginning
returns-in-Err-Write-clause-beginning g c = λ written is.
    let file = c.args.file.now in
    let names = defined file.names in
    let s = scanner_of c.args.lexer.now.scanner in
    let text = c.args.text.now in
    let labels = c.in_ok-labels.labels in
    let are = subst (λ a. AreLabelsOf c.args.form a labels) c.deref.ensures.value c.in_ok-labels.ensures in
    let short = c.in-Err-Write.ensures.beginning c.in-Err-Write.written (ap Err c.in-Err-Write.field-0-is) in
    let same : c.in-Err-Write.written ≡ written = cc in (
      short.0,
      (
        short.1.0,
        answer_of c.args.form names file.rules.items file.actions.items s text short.0 short.1.0 c.requires.agrees
            (named_listing c.args.form s labels text short.0 short.1.0 (names_by file.actions.items)
            (condition_set file.actions.items) are.labels are.begins c.are_bytes.ensures short.1.1),
        subst (λ k. IsCutShort (g.W.Sink.contents c.args.writer.now) (g.W.Sink.contents c.write.new.writer) k short.1.0)
            same short.1.2,
      ),
    )

pub unreachable-requires : goal.unreachable-requires
unreachable-requires g c =
    let file = c.args.file.now in
    let cut = c.in-Err-BadCut.ensures.bad_cut (ap Err c.in-Err-BadCut.field-0-is) in
    run_leaves_tokens (defined file.names) file.rules.items (begin_by c.in_ok-labels.labels)
    (scanner_of c.args.lexer.now.scanner) c.args.text.now cut.1.0 _ c.requires.agrees cut.1.1
