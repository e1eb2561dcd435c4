use Rattle.std.proofs.Common.{◌≡◌, ◌≤◌, take, min}
use Rattle.ly_base.specs.Private.Escapes.{base_of, test_of}
use Rattle.ly_base.specs.Escapes.{AllPass, number}
use Rattle.ly_base.proofs.escapes.Digits.leading.Given as goal

abbrev pub invariant-loop-count : goal.invariant-loop-count
invariant-loop-count l = record {
  few : l.count ≤ l.most;
  pass : AllPass (test_of l.radix) (take l.count l.text);
  value : l.value ≡ min (number (base_of l.radix) (take l.count l.text)) 256;
}
