use Rattle.std.proofs.Common.{List, ℕ, length, ◌≡◌}
use Rattle.ly_lexread.specs.Definitions.{at_first, Definitions, Preamble}
use Rattle.ly_lexread.specs.Private.Definitions.{preamble_of}
use Rattle.ly_lexread.proofs.definitions.read_definitions.Given as goal

-- the definitions go on in what is left
abbrev pub invariant-loop-line : goal.invariant-loop-line
invariant-loop-line l = record {
  sound : (all : Preamble) (rest : List ℕ) → Definitions (preamble_of l.preamble) l.left.bytes.now all rest
      → Definitions at_first l.text.bytes.now all rest;
  complete : (all : Preamble) (rest : List ℕ) → Definitions at_first l.text.bytes.now all rest
      → Definitions (preamble_of l.preamble) l.left.bytes.now all rest;
  whole : l.left.whole ≡ l.text.whole;
}

abbrev pub decreases-loop-line : goal.decreases-loop-line
decreases-loop-line l = length l.left.bytes.now
