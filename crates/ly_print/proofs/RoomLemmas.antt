-- How many bytes printed text has at most.
use Rattle.std.proofs.Common.{◌<◌, ◌≤◌, ◌+◌, ◌*◌, ◌^◌, ◌++◌, ◌∷◌, [], ℕ, List, true, false, length}
use Rattle.std.proofs.Common.{arith, codes, length-append}
use Rattle.std.specs.Fmt.{decimal}
use Rattle.std.proofs.lemmas.Fmt.{length-decimal-le}
use Rattle.ly_base.specs.Bytes.{double_quote, newline, single_quote, tab}
use Rattle.ly_print.specs.Text.{escape_for, escaped, escaped_byte, is_plain, leaf_line, name_of, no_rule_line}
use Rattle.ly_print.specs.Text.{Terminal, literal, token}
use Rattle.ly_print.specs.Private.Room.{name_room}
use Rattle.std.specs.Prelude.{nat_eq, nat_le, ◌&&◌, if◌then◌else◌, Bool}

-- either of two texts
pub either_len : (c : Bool) (k : ℕ) (xs ys : List ℕ) → length xs ≤ k → length ys ≤ k → length (if c then xs else ys) ≤ k
either_len true k xs ys p q = p
either_len false k xs ys p q = q

-- a byte that doesn't stand for itself
escape_len : (b : ℕ) → length (escape_for b) ≤ 4
escape_len b = either_len (nat_eq b newline) 4 _ _ (omega arith) (either_len (nat_eq b tab) 4 _ _ (omega arith)
    (either_len (nat_le 32 b && nat_le b 126) 4 _ _ (omega arith) (omega arith)))

-- a byte between quotes
byte_len : (quote b : ℕ) → length (escaped_byte quote b) ≤ 4
byte_len quote b = either_len (is_plain quote b) 4 _ _ (omega arith) (escape_len b)

-- bytes between quotes
pub escaped_len : (quote : ℕ) (bytes : List ℕ) → length (escaped quote bytes) ≤ 4 * length bytes
escaped_len quote [] = omega arith
escaped_len quote (b ∷ bs) = omega (
  arith,
  length-append (escaped_byte quote b) (escaped quote bs),
  byte_len quote b,
  escaped_len quote bs,
)

-- a name
name_len : (n : Terminal) → length (name_of n) ≤ name_room n
name_len (token name) = omega arith
name_len (literal b) = omega (
  arith,
  length-append (escaped_byte single_quote b) (single_quote ∷ []),
  byte_len single_quote b,
)

-- a line of a leaf
pub line_len : (n : Terminal) (text : List ℕ) → length (leaf_line n text) ≤ name_room n + 4 * length text + 3
line_len n text =
    let quoted = escaped double_quote text ++ double_quote ∷ [] in
    omega (
      arith,
      length-append (name_of n ++ double_quote ∷ quoted) (newline ∷ []),
      length-append (name_of n) (double_quote ∷ quoted),
      length-append (escaped double_quote text) (double_quote ∷ []),
      name_len n,
      escaped_len double_quote text,
    )

-- the line that says where no rule matches
pub no_rule_len : (byte : ℕ) → byte < 2 ^ 64 → length (no_rule_line byte) ≤ 45
no_rule_len byte fits = omega (
  arith,
  length-append (codes "no rule matches at byte ") (decimal byte ++ newline ∷ []),
  length-append (decimal byte) (newline ∷ []),
  length-decimal-le 20 byte (omega arith) (omega (arith, fits)) fits,
)
