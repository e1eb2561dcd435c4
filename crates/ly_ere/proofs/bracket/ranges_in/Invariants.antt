use Rattle.std.proofs.Common.{◌≡◌, drop}
use Rattle.ly_ere.specs.Private.Brackets.{as_classes}
use Rattle.ly_ere.specs.Elements.{found_in}
use Rattle.ly_ere.proofs.bracket.ranges_in.Given as goal

abbrev pub invariant-loop-known : goal.invariant-loop-known
invariant-loop-known l = found_in (as_classes l.table) l.name
    ≡ found_in (as_classes (drop l.known-index l.table)) l.name
