-- A JSON text that begins with a term says which one.
use Rattle.std.proofs.Common.{◌≡◌, ◌∙◌, ◌<◌, ◌≤◌, ◌+◌, ◌-◌, ◌*◌, ◌^◌, ◌%◌, ◌++◌, ◌∷◌, [], ℕ, zero, suc, List}
use Rattle.std.proofs.Common.{true, false, Bool, subst, length, sym, ap, ap₂, refl, arith}
use Rattle.std.proofs.Common.{append_assoc, append-nil, get_or}
use Rattle.std.proofs.Math.Nat.{eq-or-lt_of_le}
use Rattle.std.specs.Char.{encode_utf8}
use Rattle.std.specs.Fmt.{decimal}
use Rattle.std.specs.List.{flat_map}
use Rattle.std.specs.Prelude.{◌&&◌, All, codes, if◌then◌else◌, nat_eq, nat_le}
use Rattle.std.specs.Str.{encode_utf8_all, is_utf8}
use Rattle.std.proofs.lemmas.Bool.{eqb-false, le-leb, le-ltb}
use Rattle.std.proofs.lemmas.Bool.Decides.{eqb_tells, leb_tells}
use Rattle.std.proofs.lemmas.Fmt.{decimal_by_steps, decimal_injective, decimal_nonempty}
use Rattle.std.proofs.lemmas.List.{append_cancel_left}
use Rattle.std.proofs.lemmas.Str.{encodes_same}
use mathlib.Core.Logic.{inl, inr}
use Rattle.ly_print.specs.Json.{bytes_member, json_content, json_name, json_string, numbers, other_number, string_body}
use Rattle.ly_print.specs.Json.{string_byte, text_member}
use Rattle.ly_tree.specs.Json.{before_children, jsons}
use Rattle.ly_tree.specs.JsonLaws.{all_named, json_named, jsons_named, named, others_named, AllNamed, AreNamedOfBytes}
use Rattle.ly_tree.specs.JsonLaws.{IsNamedOfBytes, IsOfNames, Named, SaysOneTree, built, leaf, more, none, nothing}
use Rattle.ly_tree.specs.Shown.{Vocabulary}
use Rattle.ly_tree.specs.Term as term
use Rattle.ly_tree.specs.Term.{Term, Terms}

-- the byte that a letter behind a backslash stands for
abbrev letter : ℕ → ℕ
letter c = if nat_eq c 98 then 8 else (if nat_eq c 116 then 9 else (if nat_eq c 110 then 10 else
    (if nat_eq c 102 then 12 else (if nat_eq c 114 then 13 else c))))

abbrev two_digits : ℕ → ℕ → ℕ
two_digits h l = 16 * (if nat_le 97 h then h - 87 else h - 48) + (if nat_le 97 l then l - 87 else l - 48)

abbrev by_number : List ℕ → ℕ × List ℕ
by_number (a ∷ b ∷ h ∷ l ∷ rest) = (two_digits h l, rest)
by_number rest = (0, rest)

abbrev behind : List ℕ → ℕ × List ℕ
behind [] = (0, [])
behind (c ∷ rest) = if nat_eq c 117 then by_number rest else (letter c, rest)

abbrev first_byte : List ℕ → ℕ × List ℕ
first_byte [] = (0, [])
first_byte (c ∷ rest) = if nat_eq c 92 then behind rest else (c, rest)

-- of each number below
abbrev AllBelow : (ℕ → Type 0) → ℕ → Type 0
AllBelow P zero = Unit {0}
AllBelow P (suc n) = AllBelow P n × P n

one_below : (P : ℕ → Type 0) (n : ℕ) → AllBelow P n → (b : ℕ) → b < n → P b
one_below P zero all b less = absurd (omega arith)
one_below P (suc n) all b less =
    let least : b ≤ n = omega arith in
    elim (eq-or-lt_of_le least) as (λ _. P b) [
      | inl e ↦ subst P (sym e) all.1
      | inr l ↦ one_below P n all.0 b l
    ]

abbrev Reads : ℕ → Type 0
Reads b = (r : List ℕ) → first_byte (string_byte b ++ r) ≡ (b, r)

first_eight : AllBelow Reads 8
first_eight =
    ((((((((tt, λ r. refl), λ r. refl), λ r. refl), λ r. refl), λ r. refl), λ r. refl), λ r. refl), λ r. refl)

first_sixteen : AllBelow Reads 16
first_sixteen =
    ((((((((first_eight, λ r. refl), λ r. refl), λ r. refl), λ r. refl), λ r. refl), λ r. refl), λ r. refl), λ r. refl)

first_twenty_four : AllBelow Reads 24
first_twenty_four =
    let half : AllBelow Reads 20 = ((((first_sixteen, λ r. refl), λ r. refl), λ r. refl), λ r. refl) in
    ((((half, λ r. refl), λ r. refl), λ r. refl), λ r. refl)

controls_read : AllBelow Reads 32
controls_read =
    let half : AllBelow Reads 28 = ((((first_twenty_four, λ r. refl), λ r. refl), λ r. refl), λ r. refl) in
    ((((half, λ r. refl), λ r. refl), λ r. refl), λ r. refl)

-- a byte in a string is read by what it is written as
reads : (b : ℕ) → Reads b
reads b r = elim (eqb_tells b 34) as (λ _. first_byte (string_byte b ++ r) ≡ (b, r)) [
  | inl same ↦ subst (λ (x : ℕ). first_byte (string_byte x ++ r) ≡ (x, r)) (sym same.1) refl
  | inr quote ↦ elim (eqb_tells b 92) as (λ _. first_byte (string_byte b ++ r) ≡ (b, r)) [
    | inl same ↦ subst (λ (x : ℕ). first_byte (string_byte x ++ r) ≡ (x, r)) (sym same.1) refl
    | inr slash ↦ elim (leb_tells 32 b) as (λ _. first_byte (string_byte b ++ r) ≡ (b, r)) [
      | inl plain ↦ rw quote.0 (rw slash.0 (rw (le-ltb b 32 plain.1) (rw slash.0 refl)))
      | inr less ↦ one_below Reads 32 controls_read b less.1 r
    ]
  ]
]

-- a byte in a string is no quote
no_quote : (b : ℕ) (r : List ℕ) → get_or (string_byte b ++ r) 0 0 ≡ 34 → ⊥
no_quote b r is = elim (eqb_tells b 34) as (λ _. ⊥) [
  | inl same ↦ let no : get_or (string_byte 34 ++ r) 0 0 ≡ 34
      = subst (λ (x : ℕ). get_or (string_byte x ++ r) 0 0 ≡ 34) same.1 is in
      absurd (eqb-false 92 34 refl no)
  | inr quote ↦ let read = reads b r in absurd (quote.1 (first_is_quote (string_byte b ++ r) b r is read))
]
  where
    -- a text that begins with a quote is read as one
    first_is_quote : (text : List ℕ) (b : ℕ) (r : List ℕ) → get_or text 0 0 ≡ 34 → first_byte text ≡ (b, r) → b ≡ 34
    first_is_quote [] b r is read = absurd (eqb-false 0 34 refl is)
    first_is_quote (c ∷ rest) b r is read =
        sym (ap (λ p. p.0) read) ∙ ap (λ x. (first_byte (x ∷ rest)).0) is

pub heads : (x y : ℕ) (a b : List ℕ) → x ∷ a ≡ y ∷ b → x ≡ y
heads x y a b e = ap (λ l. get_or l 0 0) e

pub tails : (x y : ℕ) (a b : List ℕ) → x ∷ a ≡ y ∷ b → a ≡ b
tails x y a b e = ap tail_of e
  where
    tail_of : List ℕ → List ℕ
    tail_of [] = []
    tail_of (z ∷ zs) = zs

-- the bytes up to the quote that closes a string
body_one : (a b r q : List ℕ) → string_body a ++ 34 ∷ r ≡ string_body b ++ 34 ∷ q → (a ≡ b) × (r ≡ q)
body_one [] [] r q e = (refl, tails 34 34 r q e)
body_one [] (y ∷ b) r q e = absurd (no_quote y (string_body b ++ 34 ∷ q)
    (sym (ap (λ l. get_or l 0 0) (e ∙ append_assoc (string_byte y) (string_body b) (34 ∷ q)))))
body_one (x ∷ a) [] r q e = absurd (no_quote x (string_body a ++ 34 ∷ r)
    (ap (λ l. get_or l 0 0) (sym (append_assoc (string_byte x) (string_body a) (34 ∷ r)) ∙ e)))
body_one (x ∷ a) (y ∷ b) r q e =
    let both : string_byte x ++ (string_body a ++ 34 ∷ r) ≡ string_byte y ++ (string_body b ++ 34 ∷ q)
    = sym (append_assoc (string_byte x) (string_body a) (34 ∷ r)) ∙ e
    ∙ append_assoc (string_byte y) (string_body b) (34 ∷ q) in
    let read : (x, string_body a ++ 34 ∷ r) ≡ (y, string_body b ++ 34 ∷ q)
    = sym (reads x (string_body a ++ 34 ∷ r)) ∙ ap first_byte both ∙ reads y (string_body b ++ 34 ∷ q) in
    let first : x ≡ y = ap (λ p. p.0) read in
    let rest = body_one a b r q (ap (λ p. p.1) read) in
    (ap₂ (λ z zs. z ∷ zs) first rest.0, rest.1)

string_one : (a b r q : List ℕ) → json_string a ++ r ≡ json_string b ++ q → (a ≡ b) × (r ≡ q)
string_one a b r q e = body_one a b r q
    (sym (append_assoc (string_body a) (34 ∷ []) r) ∙ tails 34 34 _ _ e ∙ append_assoc (string_body b) (34 ∷ []) q)

characters : (name : List ℕ) → flat_map encode_utf8 name ≡ encode_utf8_all name
characters [] = refl
characters (b ∷ bs) = ap (λ t. encode_utf8 b ++ t) (characters bs)

pub name_one : (a b r q : List ℕ) → json_name a ++ r ≡ json_name b ++ q → (a ≡ b) × (r ≡ q)
name_one a b r q e =
    let read = string_one (flat_map encode_utf8 a) (flat_map encode_utf8 b) r q e in
    (encodes_same a b (sym (characters a) ∙ read.0 ∙ characters b), read.1)

abbrev is_figure : ℕ → Bool
is_figure c = nat_le 48 c && nat_le c 57

abbrev AllFigures : List ℕ → Type 0
AllFigures [] = Unit {0}
AllFigures (d ∷ ds) = (is_figure d ≡ true) × AllFigures ds

-- no further figure follows
abbrev pub EndsNumber : List ℕ → Type 0
EndsNumber r = is_figure (get_or r 0 0) ≡ false

figures_one : (a b r q : List ℕ) → AllFigures a → AllFigures b → EndsNumber r → EndsNumber q → a ++ r ≡ b ++ q
    → (a ≡ b) × (r ≡ q)
figures_one [] [] r q f g h i e = (refl, e)
figures_one [] (y ∷ b) r q f g h i e =
    let no : is_figure y ≡ false = ap (λ l. is_figure (get_or l 0 0)) (sym e) ∙ h in
    absurd (let never : true ≡ false = sym g.0 ∙ no in cc)
figures_one (x ∷ a) [] r q f g h i e =
    let no : is_figure x ≡ false = ap (λ l. is_figure (get_or l 0 0)) e ∙ i in
    absurd (let never : true ≡ false = sym f.0 ∙ no in cc)
figures_one (x ∷ a) (y ∷ b) r q f g h i e =
    let first : x ≡ y = heads x y (a ++ r) (b ++ q) e in
    let rest = figures_one a b r q f.1 g.1 h i (tails x y (a ++ r) (b ++ q) e) in
    (ap₂ (λ z zs. z ∷ zs) first rest.0, rest.1)

figure : (n : ℕ) → n < 10 → is_figure (48 + n) ≡ true
figure n less = rw (le-leb 48 (48 + n) (omega arith)) (rw (le-leb (48 + n) 57 (omega arith)) refl)

figures_more : (ds : List ℕ) (d : ℕ) → AllFigures ds → is_figure d ≡ true → AllFigures (ds ++ d ∷ [])
figures_more [] d all is = (is, tt)
figures_more (e ∷ ds) d all is = (all.0, figures_more ds d all.1 is)

all_figures : (n : ℕ) → n < 2 ^ 64 → AllFigures (decimal n)
all_figures n less = decimal_by_steps (λ _ ds. AllFigures ds) (λ k small. (figure k small, tt))
    (λ k ds _ all. figures_more ds (48 + k % 10) all (figure (k % 10) (omega arith))) n less

pub decimal_one : (m n : ℕ) (r q : List ℕ) → m < 2 ^ 64 → n < 2 ^ 64 → EndsNumber r → EndsNumber q
    → decimal m ++ r ≡ decimal n ++ q → (m ≡ n) × (r ≡ q)
decimal_one m n r q mm nn h i e =
    let parts = figures_one (decimal m) (decimal n) r q (all_figures m mm) (all_figures n nn) h i e in
    (decimal_injective m n mm nn parts.0, parts.1)

-- a number doesn't begin with what ends one
begins_number : (ds x r : List ℕ) → AllFigures ds → 0 < length ds → EndsNumber r → r ≡ ds ++ x → ⊥
begins_number [] x r all some h e = absurd (omega arith)
begins_number (d ∷ ds) x r all some h e =
    let no : is_figure d ≡ false = ap (λ l. is_figure (get_or l 0 0)) (sym e) ∙ h in
    absurd (let never : true ≡ false = sym all.0 ∙ no in cc)

abbrev other_numbers : List ℕ → List ℕ
other_numbers ns = flat_map other_number ns

abbrev pub AreBytes : List ℕ → Type 0
AreBytes bytes = All (λ b. b < 256) bytes

small : (n : ℕ) → n < 256 → n < 2 ^ 64
small n less = omega arith

front : (b : ℕ) (bs : List ℕ) → AreBytes (b ∷ bs) → b < 2 ^ 64
front b bs all = small b (all 0 b (omega arith))

rest_of : (b : ℕ) (bs : List ℕ) → AreBytes (b ∷ bs) → AreBytes bs
rest_of b bs all = λ k d less. all (suc k) d (omega arith)

ends_other : (ns r : List ℕ) → EndsNumber (other_numbers ns ++ 93 ∷ r)
ends_other [] r = refl
ends_other (n ∷ ns) r = refl

other_numbers_one : (a b r q : List ℕ) → AreBytes a → AreBytes b
    → other_numbers a ++ 93 ∷ r ≡ other_numbers b ++ 93 ∷ q → (a ≡ b) × (r ≡ q)
other_numbers_one [] [] r q f g e = (refl, tails 93 93 r q e)
other_numbers_one [] (y ∷ b) r q f g e = absurd (eqb-false 93 44 refl (ap (λ l. get_or l 0 0) e))
other_numbers_one (x ∷ a) [] r q f g e = absurd (eqb-false 44 93 refl (ap (λ l. get_or l 0 0) e))
other_numbers_one (x ∷ a) (y ∷ b) r q f g e =
    let both = sym (append_assoc (decimal x) (other_numbers a) (93 ∷ r)) ∙ tails 44 44 _ _ e
    ∙ append_assoc (decimal y) (other_numbers b) (93 ∷ q) in
    let first = decimal_one x y _ _ (front x a f) (front y b g) (ends_other a r) (ends_other b q) both in
    let rest = other_numbers_one a b r q (rest_of x a f) (rest_of y b g) first.1 in
    (ap₂ (λ z zs. z ∷ zs) first.0 rest.0, rest.1)

numbers_one : (a b r q : List ℕ) → AreBytes a → AreBytes b → numbers a ++ 93 ∷ r ≡ numbers b ++ 93 ∷ q
    → (a ≡ b) × (r ≡ q)
numbers_one [] [] r q f g e = (refl, tails 93 93 r q e)
numbers_one [] (y ∷ b) r q f g e = absurd (begins_number (decimal y) (other_numbers b ++ 93 ∷ q) (93 ∷ r)
    (all_figures y (front y b g)) (decimal_nonempty y (front y b g)) refl
    (e ∙ append_assoc (decimal y) (other_numbers b) (93 ∷ q)))
numbers_one (x ∷ a) [] r q f g e = absurd (begins_number (decimal x) (other_numbers a ++ 93 ∷ r) (93 ∷ q)
    (all_figures x (front x a f)) (decimal_nonempty x (front x a f)) refl
    (sym (sym (append_assoc (decimal x) (other_numbers a) (93 ∷ r)) ∙ e)))
numbers_one (x ∷ a) (y ∷ b) r q f g e =
    let both = sym (append_assoc (decimal x) (other_numbers a) (93 ∷ r)) ∙ e
    ∙ append_assoc (decimal y) (other_numbers b) (93 ∷ q) in
    let first = decimal_one x y _ _ (front x a f) (front y b g) (ends_other a r) (ends_other b q) both in
    let rest = other_numbers_one a b r q (rest_of x a f) (rest_of y b g) first.1 in
    (ap₂ (λ z zs. z ∷ zs) first.0 rest.0, rest.1)

-- what stands behind a common beginning
pub peel : (w x y r q : List ℕ) → (w ++ x) ++ r ≡ (w ++ y) ++ q → x ++ r ≡ y ++ q
peel w x y r q e = append_cancel_left w (x ++ r) (y ++ q)
    (sym (append_assoc w x r) ∙ e ∙ append_assoc w y q)

-- what stands behind two texts
pub apart : (v w x y r q : List ℕ) → (v ++ x) ++ r ≡ (w ++ y) ++ q → v ++ (x ++ r) ≡ w ++ (y ++ q)
apart v w x y r q e = sym (append_assoc v x r) ∙ e ∙ append_assoc w y q

abbrev pub content_by : Bool → List ℕ → List ℕ
content_by utf8 text = if utf8 then text_member text else bytes_member text

pub content_one : (u v : Bool) (a b r q : List ℕ) → AreBytes a → AreBytes b
    → content_by u a ++ r ≡ content_by v b ++ q → (a ≡ b) × (r ≡ q)
content_one true true a b r q f g e
    = string_one a b r q (peel (codes "\"text\":") (json_string a) (json_string b) r q e)
content_one false false a b r q f g e =
    let inner = peel (codes "\"bytes\":[") (numbers a ++ codes "]") (numbers b ++ codes "]") r q e in
    numbers_one a b r q f g (apart (numbers a) (numbers b) (codes "]") (codes "]") r q inner)
content_one true false a b r q f g e = absurd (eqb-false 116 98 refl (ap (λ l. get_or l 1 0) e))
content_one false true a b r q f g e = absurd (eqb-false 98 116 refl (ap (λ l. get_or l 1 0) e))

-- what stands behind a label with a name
label_one : (w c a b x y r q : List ℕ)
    → ((w ++ (json_name a ++ c)) ++ x) ++ r ≡ ((w ++ (json_name b ++ c)) ++ y) ++ q → (a ≡ b) × (x ++ r ≡ y ++ q)
label_one w c a b x y r q e =
    let e1 = apart (w ++ (json_name a ++ c)) (w ++ (json_name b ++ c)) x y r q e in
    let e2 = peel w (json_name a ++ c) (json_name b ++ c) (x ++ r) (y ++ q) e1 in
    let e3 = apart (json_name a) (json_name b) c c (x ++ r) (y ++ q) e2 in
    let read = name_one a b (c ++ (x ++ r)) (c ++ (y ++ q)) e3 in
    (read.0, append_cancel_left c (x ++ r) (y ++ q) read.1)

-- a term's text begins with an `n` or a brace, so with no bracket
begins : (t : Named) (r : List ℕ) → get_or (json_named t ++ r) 0 0 ≡ 93 → ⊥
begins nothing r is = absurd (eqb-false 110 93 refl is)
begins (leaf name bytes) r is = absurd (eqb-false 123 93 refl is)
begins (built name ts) r is = absurd (eqb-false 123 93 refl is)

mutual
  term_one : (s t : Named) (r q : List ℕ) → IsNamedOfBytes s → IsNamedOfBytes t → json_named s ++ r ≡ json_named t ++ q
      → (s ≡ t) × (r ≡ q)
  term_one nothing nothing r q f g e = (refl, append_cancel_left (codes "null") r q e)
  term_one (leaf a x) (leaf b y) r q f g e =
      let read = label_one (codes "{\"token\":") (codes ",") a b (json_content x ++ codes "}")
      (json_content y ++ codes "}") r q e in
      let bytes = content_one (is_utf8 x) (is_utf8 y) x y (codes "}" ++ r) (codes "}" ++ q) f g
      (apart (json_content x) (json_content y) (codes "}") (codes "}") r q read.1) in
      (ap₂ leaf read.0 bytes.0, append_cancel_left (codes "}") r q bytes.1)
  term_one (built a ts) (built b us) r q f g e =
      let read = label_one (codes "{\"node\":") (codes ",\"children\":[") a b (jsons_named ts ++ codes "]}")
      (jsons_named us ++ codes "]}") r q e in
      let terms = terms_one ts us (125 ∷ r) (125 ∷ q) f g
      (apart (jsons_named ts) (jsons_named us) (codes "]}") (codes "]}") r q read.1) in
      (ap₂ built read.0 terms.0, tails 125 125 r q terms.1)
  term_one nothing (leaf b y) r q f g e = absurd (eqb-false 110 123 refl (ap (λ l. get_or l 0 0) e))
  term_one nothing (built b us) r q f g e = absurd (eqb-false 110 123 refl (ap (λ l. get_or l 0 0) e))
  term_one (leaf a x) nothing r q f g e = absurd (eqb-false 123 110 refl (ap (λ l. get_or l 0 0) e))
  term_one (built a ts) nothing r q f g e = absurd (eqb-false 123 110 refl (ap (λ l. get_or l 0 0) e))
  term_one (leaf a x) (built b us) r q f g e = absurd (eqb-false 116 110 refl (ap (λ l. get_or l 2 0) e))
  term_one (built a ts) (leaf b y) r q f g e = absurd (eqb-false 110 116 refl (ap (λ l. get_or l 2 0) e))

  terms_one : (ts us : AllNamed) (r q : List ℕ) → AreNamedOfBytes ts → AreNamedOfBytes us
      → jsons_named ts ++ 93 ∷ r ≡ jsons_named us ++ 93 ∷ q → (ts ≡ us) × (r ≡ q)
  terms_one none none r q f g e = (refl, tails 93 93 r q e)
  terms_one none (more u us) r q f g e = absurd (begins u (others_named us ++ 93 ∷ q)
      (sym (ap (λ l. get_or l 0 0) (e ∙ append_assoc (json_named u) (others_named us) (93 ∷ q)))))
  terms_one (more t ts) none r q f g e = absurd (begins t (others_named ts ++ 93 ∷ r)
      (ap (λ l. get_or l 0 0) (sym (append_assoc (json_named t) (others_named ts) (93 ∷ r)) ∙ e)))
  terms_one (more t ts) (more u us) r q f g e =
      let both = apart (json_named t) (json_named u) (others_named ts) (others_named us) (93 ∷ r) (93 ∷ q) e in
      let first = term_one t u (others_named ts ++ 93 ∷ r) (others_named us ++ 93 ∷ q) f.0 g.0 both in
      let rest = others_one ts us r q f.1 g.1 first.1 in
      (ap₂ more first.0 rest.0, rest.1)

  others_one : (ts us : AllNamed) (r q : List ℕ) → AreNamedOfBytes ts → AreNamedOfBytes us
      → others_named ts ++ 93 ∷ r ≡ others_named us ++ 93 ∷ q → (ts ≡ us) × (r ≡ q)
  others_one none none r q f g e = (refl, tails 93 93 r q e)
  others_one none (more u us) r q f g e = absurd (eqb-false 93 44 refl (ap (λ l. get_or l 0 0) e))
  others_one (more t ts) none r q f g e = absurd (eqb-false 44 93 refl (ap (λ l. get_or l 0 0) e))
  others_one (more t ts) (more u us) r q f g e =
      let both = apart (json_named t) (json_named u) (others_named ts) (others_named us) (93 ∷ r) (93 ∷ q)
      (tails 44 44 _ _ e) in
      let first = term_one t u (others_named ts ++ 93 ∷ r) (others_named us ++ 93 ∷ q) f.0 g.0 both in
      let rest = others_one ts us r q f.1 g.1 first.1 in
      (ap₂ more first.0 rest.0, rest.1)

pub says_one : SaysOneTree
says_one s t r q f g e = term_one s t r q f g e

mutual
  pub of_names : IsOfNames
  of_names v term.nothing = refl
  of_names v (term.leaf t bytes) = refl
  of_names v (term.built p ts) =
      append_assoc (before_children (v.constructor p)) (jsons v ts) (codes "]}")
      ∙ ap (λ t. before_children (v.constructor p) ++ (t ++ codes "]}")) (all_of_names v ts)

  all_of_names : (v : Vocabulary) (ts : Terms) → jsons v ts ≡ jsons_named (all_named v ts)
  all_of_names v term.none = refl
  all_of_names v (term.more t term.none) = of_names v t ∙ sym (append-nil (json_named (named v t)))
  all_of_names v (term.more t (term.more u ts)) =
      ap₂ (λ first others. (first ++ codes ",") ++ others) (of_names v t) (all_of_names v (term.more u ts))
      ∙ append_assoc (json_named (named v t)) (codes ",") (jsons_named (all_named v (term.more u ts)))
