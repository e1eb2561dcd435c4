use Rattle.ly_scan.specs.LoneBytes.{AreLone}
use Rattle.ly_scan.proofs.lone_bytes.LoneBytes.find.Given as goal

abbrev pub invariant-loop-byte : goal.invariant-loop-byte
invariant-loop-byte g l = record {
  lone : AreLone (record { walk = g.S.Steps.walk l.steps; cut = g.S.Steps.cut_of l.steps }) l.passed l.lone;
}
