use Rattle.std.proofs.Common.{◌≡◌, [], map, take}
use Rattle.std.specs.Str.{bytes_eq}
use Rattle.ly_yaccread.specs.File.{ruling_of}
use Rattle.ly_join.specs.Private.Numbering.{with_all}
use Rattle.ly_join.proofs.numbering.number_nonterminals.Given as goal

abbrev pub invariant-loop-production : goal.invariant-loop-production
invariant-loop-production l = l.nonterminals ≡ with_all bytes_eq []
    (take l.production-index (map (λ r. r.left) (map ruling_of l.production-items)))
