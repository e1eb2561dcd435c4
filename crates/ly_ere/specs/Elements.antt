-- The elements of an expression, its tokens, and how each is written (POSIX, XBD 9.4 and 9.3.5, as lex changes them).
use Rattle.std.specs.Prelude.{◌≡◌, ◌≢◌, ℕ, zero, suc, ◌≤◌, List, [], ◌∷◌, ◌++◌, Bool, true, false, not, ◌||◌}
use Rattle.std.specs.Prelude.{◌&&◌, nat_eq, nat_le, codes, Option, Some, None, if◌then◌else◌}
use Rattle.ly_base.specs.Bytes.{backslash, circumflex, colon, double_quote, equals_sign, full_stop, hyphen}
use Rattle.ly_base.specs.Bytes.{left_bracket, newline, right_bracket}
use Rattle.ly_base.specs.ByteSet.{bytes_where}
use Rattle.ly_base.specs.Escapes.{Escape, number}
use Rattle.ly_base.specs.Language.{DigitsBefore, NameBefore}
use Rattle.ly_base.specs.declared.language.Language.TheVariants.{Lex}

-- An element: one byte of a set, a string, a name in braces, the bounds of an interval, or a sign. A set, a string and
-- a name are lists of bytes.
pub data Element : Type 0 where
  one_of : List ℕ → Element
  string : List ℕ → Element
  named : List ℕ → Element
  interval : ℕ → Option ℕ → Element
  opening : Element
  closing : Element
  bar : Element
  asterisk : Element
  plus_sign : Element
  question_mark : Element
  caret : Element
  dollar_sign : Element
  slash : Element

-- The text after a quote, up to the next quote, is these bytes, then comes the rest.
pub data Quoted : List ℕ → List ℕ → List ℕ → Type 0 where
  closed : (rest : List ℕ) → Quoted (double_quote ∷ rest) [] rest
  byte : (b : ℕ) (t bs rest : List ℕ) → b ≢ double_quote → b ≢ backslash → b ≢ newline → Quoted t bs rest
      → Quoted (b ∷ t) (b ∷ bs) rest
  escape : (t more : List ℕ) (b : ℕ) (bs rest : List ℕ) → Escape t b more → Quoted more bs rest
      → Quoted (backslash ∷ t) (b ∷ bs) rest

-- the byte is in one of the ranges
abbrev pub in_ranges : List (ℕ × ℕ) → ℕ → Bool
in_ranges [] b = false
in_ranges (r ∷ rs) b = (nat_le r.0 b && nat_le b r.1) || in_ranges rs b

-- the texts are equal
abbrev pub same_text : List ℕ → List ℕ → Bool
same_text [] [] = true
same_text [] (c ∷ cs) = false
same_text (b ∷ bs) [] = false
same_text (b ∷ bs) (c ∷ cs) = nat_eq b c && same_text bs cs

-- the text has this byte at the index
abbrev pub stands_at : List ℕ → ℕ → ℕ → Bool
stands_at [] n b = false
stands_at (c ∷ t) zero b = nat_eq c b
stands_at (c ∷ t) (suc n) b = stands_at t n b

-- the text starts with `[` and this mark
abbrev pub begins : List ℕ → ℕ → Bool
begins t mark = stands_at t 0 left_bracket && stands_at t 1 mark

-- the classes of the POSIX locale, each name with its ranges
abbrev pub classes : List (List ℕ × List (ℕ × ℕ))
classes =
    (codes "upper", (65, 90) ∷ [])
    ∷ (codes "lower", (97, 122) ∷ [])
    ∷ (codes "alpha", (65, 90) ∷ (97, 122) ∷ [])
    ∷ (codes "digit", (48, 57) ∷ [])
    ∷ (codes "alnum", (48, 57) ∷ (65, 90) ∷ (97, 122) ∷ [])
    ∷ (codes "xdigit", (48, 57) ∷ (65, 70) ∷ (97, 102) ∷ [])
    ∷ (codes "blank", (9, 9) ∷ (32, 32) ∷ [])
    ∷ (codes "space", (9, 13) ∷ (32, 32) ∷ [])
    ∷ (codes "cntrl", (0, 31) ∷ (127, 127) ∷ [])
    ∷ (codes "graph", (33, 126) ∷ [])
    ∷ (codes "print", (32, 126) ∷ [])
    ∷ (codes "punct", (33, 47) ∷ (58, 64) ∷ (91, 96) ∷ (123, 126) ∷ [])
    ∷ []

-- the entry of a name in a list
abbrev pub found_in : List (List ℕ × List (ℕ × ℕ)) → List ℕ → Option (List (ℕ × ℕ))
found_in [] name = None
found_in (c ∷ cs) name = if same_text c.0 name then Some c.1 else found_in cs name

-- the ranges of the class with this name
abbrev pub class_of : List ℕ → Option (List (ℕ × ℕ))
class_of name = found_in classes name

-- the text starts with `[:`, `[.` or `[=`
abbrev pub begins_named : List ℕ → Bool
begins_named t = begins t colon || begins t full_stop || begins t equals_sign

-- A byte of a bracket expression, written as itself, as an escape, or as `[. .]`.
pub data Point : List ℕ → ℕ → List ℕ → Type 0 where
  bare : (b : ℕ) (rest : List ℕ) → b ≢ newline → b ≢ backslash → begins_named (b ∷ rest) ≡ false
      → Point (b ∷ rest) b rest
  escaped : (t rest : List ℕ) (b : ℕ) → Escape t b rest → Point (backslash ∷ t) b rest
  named : (b : ℕ) (rest : List ℕ) → b ≢ newline
      → Point (left_bracket ∷ full_stop ∷ b ∷ full_stop ∷ right_bracket ∷ rest) b rest

-- a `-` that isn't the last item
abbrev pub begins_range : List ℕ → Bool
begins_range t = stands_at t 0 hyphen && not (stands_at t 1 right_bracket)

-- A byte, or a range from one to another, as ranges.
pub data Points : List ℕ → List (ℕ × ℕ) → List ℕ → Type 0 where
  single : (t rest : List ℕ) (b : ℕ) → Point t b rest → begins_range rest ≡ false → Points t ((b, b) ∷ []) rest
  range : (t behind rest : List ℕ) (low high : ℕ) → Point t low (hyphen ∷ behind)
      → begins_range (hyphen ∷ behind) ≡ true
      → Point behind high rest → low ≤ high → Points t ((low, high) ∷ []) rest

-- the text starts with a class, which adds these ranges
abbrev pub IsClass : List ℕ → List (ℕ × ℕ) → List ℕ → Type 0
IsClass t rs rest = (name : List ℕ) × (class_of name ≡ Some rs)
    × (t ≡ left_bracket ∷ colon ∷ (name ++ colon ∷ right_bracket ∷ rest))

-- An item and the ranges that it adds. A `-` at its start is allowed only in the first item or the last.
pub data Item : Bool → List ℕ → List (ℕ × ℕ) → List ℕ → Type 0 where
  class : (first : Bool) (t rest : List ℕ) (rs : List (ℕ × ℕ)) → IsClass t rs rest → Item first t rs rest
  equivalent : (first : Bool) (b : ℕ) (rest : List ℕ) → b ≢ newline
      → Item first (left_bracket ∷ equals_sign ∷ b ∷ equals_sign ∷ right_bracket ∷ rest) ((b, b) ∷ []) rest
  points : (first : Bool) (t rest : List ℕ) (rs : List (ℕ × ℕ)) → (first ≡ false → begins_range t ≡ false)
      → Points t rs rest → Item first t rs rest

-- Items up to the `]` that ends them, and all their ranges. There is at least one, and `]` denotes itself only as the
-- first.
pub data Items : Bool → List ℕ → List (ℕ × ℕ) → List ℕ → Type 0 where
  no_more : (rest : List ℕ) → Items false (right_bracket ∷ rest) [] rest
  more : (first : Bool) (t behind rest : List ℕ) (rs ss : List (ℕ × ℕ))
      → (first ≡ false → stands_at t 0 right_bracket ≡ false)
      → Item first t rs behind → Items false behind ss rest → Items first t (rs ++ ss) rest

-- The text after the `[` of a bracket expression: its bytes, one or more.
pub data Bracketed : List ℕ → List ℕ → List ℕ → Type 0 where
  listed : (t rest : List ℕ) (rs : List (ℕ × ℕ)) → stands_at t 0 circumflex ≡ false → Items true t rs rest
      → bytes_where (in_ranges rs) ≢ [] → Bracketed t (bytes_where (in_ranges rs)) rest
  excluded : (t rest : List ℕ) (rs : List (ℕ × ℕ)) → Items true t rs rest → bytes_where (λ b. not (in_ranges rs b)) ≢ []
      → Bracketed (circumflex ∷ t) (bytes_where (λ b. not (in_ranges rs b))) rest

-- the byte of a text of one byte
abbrev pub byte_of : List ℕ → ℕ
byte_of [] = 0
byte_of (b ∷ bs) = b

-- the elements that are a single byte
abbrev pub sign_of : ℕ → Option Element
sign_of b = if nat_eq b (byte_of (codes "(")) then Some opening else
    (if nat_eq b (byte_of (codes ")")) then Some closing else
    (if nat_eq b (byte_of (codes "|")) then Some bar else
    (if nat_eq b (byte_of (codes "*")) then Some asterisk else
    (if nat_eq b (byte_of (codes "+")) then Some plus_sign else
    (if nat_eq b (byte_of (codes "?")) then Some question_mark else
    (if nat_eq b (byte_of (codes "^")) then Some caret else
    (if nat_eq b (byte_of (codes "$")) then Some dollar_sign else
    (if nat_eq b (byte_of (codes "/")) then Some slash else None))))))))

-- the bytes with a special meaning: newline, tab, space and operators
abbrev pub own_meaning : List ℕ
own_meaning = codes "\n\t \"\\[(){*+?|/^$."

-- the list contains the byte
abbrev pub is_among : List ℕ → ℕ → Bool
is_among [] b = false
is_among (c ∷ cs) b = nat_eq b c || is_among cs b

-- the text is a decimal number of repetitions, at most 255, then the rest
abbrev pub Times : List ℕ → ℕ → List ℕ → Type 0
Times t m rest = (ds : List ℕ) × DigitsBefore t ds rest × (m ≡ number 10 ds) × (m ≤ 255)

-- The text after the `{` of an interval: `m}`, `m,}` or `m,n}`, the last with m at most n.
pub data Bounds : List ℕ → ℕ → Option ℕ → List ℕ → Type 0 where
  exactly : (t rest : List ℕ) (m : ℕ) → Times t m (codes "}" ++ rest) → Bounds t m (Some m) rest
  at_least : (t rest : List ℕ) (m : ℕ) → Times t m (codes ",}" ++ rest) → Bounds t m None rest
  between : (t behind rest : List ℕ) (m n : ℕ) → Times t m (codes "," ++ behind) → Times behind n (codes "}" ++ rest)
      → m ≤ n → Bounds t m (Some n) rest

-- the byte that opens a name in braces or an interval
abbrev pub left_brace : ℕ
left_brace = byte_of (codes "{")

-- A text that starts with an element, and the rest after it. A set has at least one byte.
pub data IsElement : List ℕ → Element → List ℕ → Type 0 where
  plain : (b : ℕ) (rest : List ℕ) → is_among own_meaning b ≡ false → IsElement (b ∷ rest) (one_of (b ∷ [])) rest
  dot : (rest : List ℕ) → IsElement (full_stop ∷ rest) (one_of (bytes_where (λ b. not (nat_eq b newline)))) rest
  escaped_element : (t rest : List ℕ) (b : ℕ) → Escape t b rest → IsElement (backslash ∷ t) (one_of (b ∷ [])) rest
  bracket : (t bytes rest : List ℕ) → Bracketed t bytes rest → IsElement (left_bracket ∷ t) (one_of bytes) rest
  quoted : (t bs rest : List ℕ) → Quoted t bs rest → IsElement (double_quote ∷ t) (string bs) rest
  braced_name : (t name rest : List ℕ) → NameBefore Lex t name (codes "}" ++ rest)
      → IsElement (left_brace ∷ t) (named name) rest
  bounds : (t : List ℕ) (m : ℕ) (n : Option ℕ) (rest : List ℕ) → Bounds t m n rest
      → IsElement (left_brace ∷ t) (interval m n) rest
  sign : (b : ℕ) (w : Element) (rest : List ℕ) → sign_of b ≡ Some w → IsElement (b ∷ rest) w rest

-- The text is these elements, one after another.
pub data AreElements : List ℕ → List Element → Type 0 where
  end : AreElements [] []
  element : (t rest : List ℕ) (w : Element) (ws : List Element) → IsElement t w rest → AreElements rest ws
      → AreElements t (w ∷ ws)
