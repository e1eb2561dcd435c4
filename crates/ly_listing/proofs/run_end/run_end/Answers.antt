use Rattle.std.proofs.Common.{[], length, refl}
use Rattle.ly_base.specs.Lexed.{start_of}
use Rattle.ly_listing.proofs.MarkLemmas.{marked_to, none_marked}
use Rattle.ly_scan.specs.Lexers.{scanner_of}
use Rattle.ly_listing.proofs.run_end.run_end.Goals as goal

pub returns-then-clean-clause-marked : goal.returns-then-clean-clause-marked
returns-then-clean-clause-marked c =
    let labels = c.args.labels.now in
    let s = scanner_of c.args.lexer.now.scanner in
    marked_to labels s c.args.text.now (start_of c.args.text.now) c.start.result [] c.new.result.items
    (length c.args.text.now) c.start.ensures c.new.ensures.items
    (none_marked labels s c.args.text.now (start_of c.args.text.now) [] (length c.args.text.now) refl refl refl)
