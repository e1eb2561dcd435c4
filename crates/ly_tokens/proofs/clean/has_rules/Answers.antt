use Rattle.ly_scan.specs.Lexer.{Scanner}
use Rattle.ly_tokens.proofs.CleanLemmas.{rules_below}
use Rattle.ly_tokens.proofs.clean.has_rules.Goals as goal

pub loop-byte-preserved : goal.loop-byte-preserved
loop-byte-preserved g c =
    let scanner : Scanner
    = record { walk = g.S.Steps.walk c.args.steps.now; cut = g.S.Steps.cut_of c.args.steps.now } in
    rules_below scanner c.args.condition c.args.line c.loop-byte.byte c.loop-byte.invariant c.if-not-has_rule.ensures
