use Rattle.std.proofs.Common.{◌≡◌, take}
use Rattle.ly_ere.specs.Definitions.{named_texts}
use Rattle.ly_ere.specs.Definitions.{known_names}
use Rattle.ly_ere.proofs.definitions.all_known.Given as goal

abbrev pub invariant-loop-definition : goal.invariant-loop-definition
invariant-loop-definition l = record {
  so_far : l.known ≡ known_names (named_texts (take l.definition-index l.list));
}
