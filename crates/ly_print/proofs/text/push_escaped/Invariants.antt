use Rattle.std.proofs.Common.{◌≡◌, ◌≤◌, ◌-◌, ◌++◌, take, drop}
use Rattle.ly_print.specs.Text.{escaped}
use Rattle.ly_print.proofs.text.push_escaped.Given as goal

-- what was appended, with the run that is not copied yet, is the bytes so far between quotes
abbrev pub invariant-loop-at : goal.invariant-loop-at
invariant-loop-at l = record {
  behind : l.start ≤ l.at;
  so_far : l.out.items ++ take (l.at - l.start) (drop l.start l.bytes) ≡ l.initial.out.items ++ escaped l.quote
      (take l.at l.bytes);
}
