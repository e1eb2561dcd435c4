-- Bytes, tokens and output as printed text.
use Rattle.std.specs.Prelude.{ℕ, ◌/◌, ◌%◌, List, [], ◌∷◌, ◌++◌, Bool, not, false, ◌&&◌, nat_eq, nat_le, codes}
use Rattle.std.specs.Prelude.{if◌then◌else◌}
use Rattle.std.specs.Fmt.{decimal, digit_glyph}
use Rattle.std.specs.List.{flat_map}
use Rattle.ly_base.specs.Bytes.{backslash, double_quote, newline, single_quote, tab}
use Rattle.ly_print.specs.declared.text.Terminal as code
use Rattle.ly_print.specs.declared.text.Terminal.TheVariants.{Token, Literal}

-- bytes 32 to 126 are written as they are, but not `\` and the quote in use
abbrev pub is_plain : ℕ → ℕ → Bool
is_plain quote b = nat_le 32 b && nat_le b 126 && not (nat_eq b backslash) && not (nat_eq b quote)

-- the escape of a byte: `\n`, `\t`, a backslash before the byte, or `\x` and two hexadecimal digits
abbrev pub escape_for : ℕ → List ℕ
escape_for b = if nat_eq b newline then codes "\\n" else
    (if nat_eq b tab then codes "\\t" else
    (if nat_le 32 b && nat_le b 126 then backslash ∷ b ∷ []
    else codes "\\x" ++ digit_glyph false (b / 16) ∷ digit_glyph false
    (b % 16) ∷ []))

-- a byte between quotes
abbrev pub escaped_byte : ℕ → ℕ → List ℕ
escaped_byte quote b = if is_plain quote b then b ∷ [] else escape_for b

-- bytes between quotes
abbrev pub escaped : ℕ → List ℕ → List ℕ
escaped quote bytes = flat_map (escaped_byte quote) bytes

-- a terminal as it is printed: a token by its name, or a literal by its byte
pub data Terminal : Type 0 where
  token : List ℕ → Terminal
  literal : ℕ → Terminal

abbrev pub named : code.Terminal → Terminal
named (Token name) = token name.now
named (Literal b) = literal b

-- a terminal's printed name: a token's as it is, a literal's byte in single quotes
abbrev pub name_of : Terminal → List ℕ
name_of (token name) = name
name_of (literal b) = single_quote ∷ (escaped_byte single_quote b ++ single_quote ∷ [])

-- what precedes a leaf's text: the terminal's name and a double quote
abbrev pub before_leaf : Terminal → List ℕ
before_leaf terminal = name_of terminal ++ double_quote ∷ []

-- a label, then a text as the inside of a double-quoted string with the closing quote
abbrev pub quoted : List ℕ → List ℕ → List ℕ
quoted label text = label ++ (escaped double_quote text ++ double_quote ∷ [])

-- a line of such a label and text
abbrev pub quoted_line : List ℕ → List ℕ → List ℕ
quoted_line label text = quoted label text ++ newline ∷ []

-- a leaf: the terminal's name, then the text in double quotes
abbrev pub leaf_of : Terminal → List ℕ → List ℕ
leaf_of terminal text = name_of terminal ++ double_quote ∷ (escaped double_quote text ++ double_quote ∷ [])

-- a line of a leaf
abbrev pub leaf_line : Terminal → List ℕ → List ℕ
leaf_line terminal text = leaf_of terminal text ++ newline ∷ []

-- the line that reports where no rule matches
abbrev pub no_rule_line : ℕ → List ℕ
no_rule_line byte = codes "no rule matches at byte " ++ decimal byte ++ newline ∷ []
