use Rattle.ly_scan.proofs.StateTableLemmas.{begun_anywhere}
use Rattle.ly_scan.proofs.scanner.Scanner.anywhere.Goals as goal

pub returns : goal.returns
returns c = begun_anywhere c.args.self.now c.in_ok-start.start c.in_ok-start.ensures.stands c.in_ok-start.ensures.there
    (c.minds_lines.ensures c.if-minds_lines.false)
