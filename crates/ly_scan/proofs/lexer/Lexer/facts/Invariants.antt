use Rattle.std.proofs.Common.{◌≡◌, map, take}
use Rattle.ly_scan.specs.Facts.{fact_by}
use Rattle.ly_scan.proofs.lexer.Lexer.facts.Given as goal

-- there are the facts of the states so far
abbrev pub invariant-loop-rule : goal.invariant-loop-rule
invariant-loop-rule l = l.facts.items ≡ map (fact_by l.self.scanner l.by_rule) (take l.rule-index l.rules)
