-- Lemmas on bytes in JSON.
use Rattle.std.proofs.Common.{◌≡◌, ◌∙◌, ◌<◌, ◌≤◌, ◌+◌, ◌*◌, ◌++◌, ◌∷◌, [], suc, List, ℕ, Bool}
use Rattle.std.proofs.Common.{true, false, Result, Ok, Err, MatchResult}
use Rattle.std.proofs.Common.{ap, append_assoc, arith, codes, get_or, length, length-append, refl, sym, take}
use Rattle.std.proofs.lemmas.Fmt.{length-decimal-le}
use Rattle.std.specs.Fmt.{decimal}
use Rattle.std.specs.Char.{encode_utf8}
use Rattle.std.specs.List.{flat_map}
use Rattle.std.proofs.lemmas.Grind.{flat_map-append}
use Rattle.std.specs.Prelude.{◌||◌, is_ok, nat_eq, nat_lt, All}
use Rattle.std.specs.Str.{is_utf8, IsUtf8}
use Rattle.std.proofs.lemmas.Str.{is_utf8-from_IsUtf8, IsUtf8-from_is_utf8}
use Rattle.ly_base.specs.Bytes.{backslash, double_quote, newline, tab}
use Rattle.ly_print.proofs.RoomLemmas.{either_len}
use Rattle.ly_print.specs.Json.{control_escape, json_content, numbers, other_number, string_body, string_byte}
use Rattle.ly_print.proofs.TextLemmas.{next_behind}

-- reading bytes as a text says whether they are UTF-8
pub utf8_told : {A E : Type 0} (bytes : List ℕ) (P : A → Type 0) (Q : E → Type 0) (r : Result A E)
    → MatchResult r (λ s. P s × IsUtf8 bytes) (λ e. (IsUtf8 bytes → ⊥) × Q e) → is_ok r ≡ is_utf8 bytes
utf8_told bytes P Q (Ok s) h = sym (is_utf8-from_IsUtf8 bytes h.1)
utf8_told bytes P Q (Err e) h = by (is_utf8 bytes) refl
  where
    by : (b : Bool) → is_utf8 bytes ≡ b → false ≡ is_utf8 bytes
    by true is = absurd (h.0 (IsUtf8-from_is_utf8 bytes is))
    by false is = sym is

-- one more character of a name
pub name_more : (before name : List ℕ) (at : ℕ) → at < length name
    → (before ++ string_body (flat_map encode_utf8 (take at name))) ++ string_body (encode_utf8 (get_or name at 0))
    ≡ before ++ string_body (flat_map encode_utf8 (take (at + 1) name))
name_more before name at within =
    let so_far = flat_map encode_utf8 (take at name) in
    let next = encode_utf8 (get_or name at 0) in
    append_assoc before (string_body so_far) (string_body next)
    ∙ ap (λ t. before ++ t) (sym (flat_map-append string_byte so_far next)
    ∙ ap string_body (next_behind encode_utf8 [] name at within))

-- a byte in a string
string_byte_len : (b : ℕ) → length (string_byte b) ≤ 6
string_byte_len b = either_len (nat_eq b double_quote || nat_eq b backslash) 6 _ _ (omega arith)
    (either_len (nat_lt b 32) 6 _ _ (control_len b) (omega arith))
  where
    control_len : (b : ℕ) → length (control_escape b) ≤ 6
    control_len b = either_len (nat_eq b 8) 6 _ _ (omega arith) (either_len (nat_eq b tab) 6 _ _ (omega arith)
        (either_len (nat_eq b newline) 6 _ _ (omega arith) (either_len (nat_eq b 12) 6 _ _ (omega arith)
        (either_len (nat_eq b 13) 6 _ _ (omega arith) (omega arith)))))

-- bytes in a string
string_body_len : (bytes : List ℕ) → length (string_body bytes) ≤ 6 * length bytes
string_body_len [] = omega arith
string_body_len (b ∷ bs) =
    omega (arith, length-append (string_byte b) (string_body bs), string_byte_len b, string_body_len bs)

-- the number of a byte
number_len : (b : ℕ) → b < 256 → length (decimal b) ≤ 3
number_len b fits = length-decimal-le 3 b (omega arith) (omega (arith, fits)) (omega (arith, fits))

other_numbers_len : (bytes : List ℕ) → All (λ b. b < 256) bytes
    → length (flat_map other_number bytes) ≤ 4 * length bytes
other_numbers_len [] all = omega arith
other_numbers_len (b ∷ bs) all =
    omega (
      arith,
      length-append (other_number b) (flat_map other_number bs),
      number_len b (all 0 b (omega arith)),
      other_numbers_len bs (λ k d l. all (suc k) d (omega arith)),
    )

numbers_len : (bytes : List ℕ) → All (λ b. b < 256) bytes → length (numbers bytes) ≤ 4 * length bytes
numbers_len [] all = omega arith
numbers_len (b ∷ bs) all =
    omega (
      arith,
      length-append (decimal b) (flat_map other_number bs),
      number_len b (all 0 b (omega arith)),
      other_numbers_len bs (λ k d l. all (suc k) d (omega arith)),
    )

-- what a token consists of
pub json_content_len : (text : List ℕ) → All (λ b. b < 256) text → length (json_content text) ≤ 6 * length text + 10
json_content_len text all = either_len (is_utf8 text) (6 * length text + 10) _ _
    (omega (arith, length-append (string_body text) (double_quote ∷ []), string_body_len text))
    (omega (arith, length-append (numbers text) (codes "]"), numbers_len text all))
