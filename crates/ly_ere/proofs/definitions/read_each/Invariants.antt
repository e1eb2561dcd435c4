use Rattle.std.proofs.Common.{take}
use Rattle.ly_ere.specs.Definitions.{named_texts}
use Rattle.ly_ere.specs.Private.Definitions.{AreRead}
use Rattle.ly_ere.proofs.definitions.read_each.Given as goal

abbrev pub invariant-loop-definition : goal.invariant-loop-definition
invariant-loop-definition l = record {
  so_far : AreRead l.known (named_texts (take l.definition-index l.list)) l.texts;
}
