use Rattle.std.proofs.Common.{◌∙◌, ap}
use Rattle.ly_feed.proofs.LexerOfLemmas.{leads, same}
use Rattle.ly_scan.specs.Lexers.{scanner_of}
use Rattle.ly_feed.proofs.lexer_of_set.scanner_of.Goals as goal

pub new-requires : goal.new-requires
new-requires c = leads c.args.set.now c.machine-machine.ensures.within _ c.in_ok-parts_of.ensures

pub returns : goal.returns
returns c = ap scanner_of c.new.ensures
    ∙ same c.args.set.now c.machine-machine.ensures.within _ c.in_ok-parts_of.ensures
