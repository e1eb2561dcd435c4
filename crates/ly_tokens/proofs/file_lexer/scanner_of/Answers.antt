use Rattle.std.proofs.Common.{◌∙◌, ap}
use Rattle.ly_scan.specs.Lexers.{scanner_of}
use Rattle.ly_tokens.proofs.RowTableLemmas.{leads, same}
use Rattle.ly_tokens.proofs.file_lexer.scanner_of.Goals as goal

pub new-requires : goal.new-requires
new-requires c = leads c.args.dfa.now c.args.rules.now _ c.in_ok-parts_of.ensures

pub returns : goal.returns
returns c = ap scanner_of c.new.ensures ∙ same c.args.dfa.now c.args.rules.now _ c.in_ok-parts_of.ensures
