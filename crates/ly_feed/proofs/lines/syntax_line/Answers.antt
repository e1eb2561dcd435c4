use Rattle.ly_feed.proofs.LineLemmas.{end_named}
use Rattle.ly_feed.specs.Private.Running.{words_of}
use Rattle.ly_feed.proofs.lines.syntax_line.Goals as goal

pub returns-then-token-eq0 : goal.returns-then-token-eq0
returns-then-token-eq0 c = end_named (words_of c.args.names.now) c.args.number c.args.token.now.terminal.0
    c.args.token.now.at c.args.token.now.text c.end_line.result c.if-token-eq0.true c.end_line.ensures
