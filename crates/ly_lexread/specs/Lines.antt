-- The lines of a file.
use Rattle.std.specs.Prelude.{◌≡◌, ◌≢◌, ◌-◌, ℕ, length, Bool, true, List, [], ◌∷◌, ◌++◌, not, nat_eq, codes, drop}
use Rattle.std.specs.Prelude.{if◌then◌else◌}
use Rattle.std.specs.List.{starts_with}
use Rattle.ly_base.specs.Blank.{is_blank}
use Rattle.ly_base.specs.Bytes.{newline}
use Rattle.ly_base.specs.Escapes.{AllPass, Stops}
use Rattle.ly_lexread.specs.declared.kind.LineKind.{LineKind}
use Rattle.ly_lexread.specs.declared.kind.LineKind.TheVariants.{Mark, Unused, Block, Comment, Directive, Plain}

-- the byte may occur in a line
abbrev pub in_line : ℕ → Bool
in_line b = not (nat_eq b newline)

-- the text is a line and what follows it: nothing, or a newline and more
abbrev pub LineOf : List ℕ → List ℕ → List ℕ → Type 0
LineOf text line end = AllPass in_line line × Stops in_line end × (text ≡ line ++ end)

-- the text has a first line, without its newline, then comes the rest
abbrev pub LineBefore : List ℕ → List ℕ → List ℕ → Type 0
LineBefore text line rest = (text ≢ []) × (end : List ℕ) × LineOf text line end × (rest ≡ drop 1 end)

-- the number of bytes of the text from this end of its first line on
abbrev pub left_in : List ℕ → List ℕ → List ℕ → ℕ
left_in text line left = length text - (length line - length left)

-- an empty line, or one that starts with a blank
abbrev pub is_unused : List ℕ → Bool
is_unused [] = true
is_unused (b ∷ line) = is_blank b

-- the kind of a line, by its first bytes
abbrev pub kind_of : List ℕ → LineKind
kind_of line = if is_unused line then Unused else
    (if starts_with nat_eq line (codes "%%") then Mark else
    (if starts_with nat_eq line (codes "%{") then Block else
    (if starts_with nat_eq line (codes "%") then Directive else
    (if starts_with nat_eq line (codes "/*") then Comment else Plain))))

-- the text starts with this
abbrev pub BeginsWith : List ℕ → List ℕ → Type 0
BeginsWith line front = (rest : List ℕ) × (line ≡ front ++ rest)

-- lines up to one that begins with `%}`, then the rest
pub data BlockEnds : List ℕ → List ℕ → Type 0 where
  last : (text line rest : List ℕ) → LineBefore text line rest → BeginsWith line (codes "%}") → BlockEnds text rest
  more : (text line behind rest : List ℕ) → LineBefore text line behind → (BeginsWith line (codes "%}") → ⊥)
      → BlockEnds behind rest → BlockEnds text rest
