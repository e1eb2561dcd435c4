-- The definitions, as they are read.
use Rattle.std.specs.Prelude.{◌≡◌, ◌≢◌, ℕ, List, Result, Ok, Err, length}
use Rattle.ly_lexread.specs.Definitions.{CommentEnds, DefinitionLine, DirectiveLine, Preamble}
use Rattle.ly_lexread.specs.Faults.{IsTooHeavy}
use Rattle.ly_lexread.specs.Lines.{BlockEnds, left_in}
use Rattle.ly_lexread.specs.declared.definitions.Preamble.{Preamble as ReadPreamble}
use Rattle.ly_lexread.specs.declared.fault.LexFault.{LexFault}
use Rattle.ly_lexread.specs.declared.fault.LexFault.TheVariants.{OutOfMemory}
use Rattle.ly_lexread.specs.declared.kind.LineKind.{LineKind}
use Rattle.ly_lexread.specs.declared.kind.LineKind.TheVariants.{Mark, Unused, Block, Comment, Directive, Plain}

-- Is says what the text says: an answer is that, and a fault says that there is nothing.
abbrev pub IsDirected : {T : Type 0} → (T → Type 0) → Result T LexFault → Type 0
IsDirected Is (Ok x) = Is x
IsDirected {T} Is (Err fault) = (IsTooHeavy fault → ⊥) × (fault ≢ OutOfMemory → (x : T) → Is x → ⊥)

-- Is says what the text says and what is left: an answer is that, and a fault says that there is nothing.
abbrev pub IsFound : {T X : Type 0} → (X → List ℕ → Type 0) → (T → X) → (T → List ℕ) → Result T LexFault → Type 0
IsFound Is value rest (Ok found) = Is (value found) (rest found)
IsFound {T} {X} Is value rest (Err fault) = (IsTooHeavy fault → ⊥)
    × (fault ≢ OutOfMemory → (x : X) (r : List ℕ) → Is x r → ⊥)

-- what was read of the definitions
abbrev pub preamble_of : ReadPreamble → Preamble
preamble_of p = record { conditions = p.conditions; definitions = p.definitions }

-- what is left behind a line of a kind, and those that go with it
abbrev pub Ends : LineKind → List ℕ → List ℕ → List ℕ → Type 0
Ends Mark text behind rest = ⊥
Ends Unused text behind rest = rest ≡ behind
Ends Block text behind rest = BlockEnds behind rest
Ends Comment text behind rest = CommentEnds text rest
Ends Directive text behind rest = rest ≡ behind
Ends Plain text behind rest = rest ≡ behind

-- what is said behind such a line, from what was said before it
abbrev pub Adds : LineKind → Preamble → List ℕ → List ℕ → Preamble → Type 0
Adds Mark p text line q = q ≡ p
Adds Unused p text line q = q ≡ p
Adds Block p text line q = q ≡ p
Adds Comment p text line q = q ≡ p
Adds Directive p text line q = (q.definitions ≡ p.definitions)
    × DirectiveLine (left_in text line) p.conditions line q.conditions
Adds Plain p text line q = (q.conditions ≡ p.conditions)
    × DefinitionLine (length text) p.definitions line q.definitions
