use Rattle.ly_scan.specs.Lexer.{Scanner}
use Rattle.ly_tokens.proofs.CleanLemmas.{conditions_below}
use Rattle.ly_tokens.proofs.clean.begins_everywhere.Goals as goal

pub loop-condition-preserved : goal.loop-condition-preserved
loop-condition-preserved g c =
    let scanner : Scanner
    = record { walk = g.S.Steps.walk c.args.steps.now; cut = g.S.Steps.cut_of c.args.steps.now } in
    conditions_below scanner c.loop-condition.condition c.loop-condition.invariant c.if-not-elsewhere.ensures
    c.if-not-at_line.ensures
