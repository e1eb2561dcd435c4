-- What is spelled at the front of a text is spelled there too where the text ends sooner behind it.
use Rattle.std.proofs.Common.{◌≡◌, ◌≢◌, ℕ, ◌<◌, List, [], ◌∷◌, ◌++◌, length, Bool, true, false, refl, sym, ap, ◌∙◌}
use Rattle.std.proofs.Common.{subst}
use Rattle.std.proofs.Common.{append_assoc, arith, drop, get_or, Option}
use Rattle.std.specs.Prelude.{nat_eq, ◌&&◌, ◌||◌}
use Rattle.std.proofs.lemmas.Bool.{ne_eqb}
use Rattle.ly_base.specs.Language.{NameBefore}
use Rattle.ly_base.specs.declared.language.Language.TheVariants.{Lex}
use Rattle.ly_base.specs.Escapes.{Escape, Stops, bare_x, hexadecimal, is_hexadecimal, is_octal, letter, octal}
use Rattle.ly_ere.specs.Elements.{Bracketed, Element, Item, Items, Point, Points, Quoted, IsElement, begins_named}
use Rattle.ly_ere.specs.Elements.{begins_range, stands_at}
use Rattle.ly_ere.specs.Elements as elements
use Rattle.ly_ere.proofs.AppendLemmas.{items_some}

-- the text has a front before these bytes, of which this holds
abbrev pub HasFront : (List ℕ → Type 0) → List ℕ → List ℕ → Type 0
HasFront Holds text more = (t : List ℕ) × (text ≡ t ++ more) × Holds t

stops_cut : (p : ℕ → Bool) (rest more : List ℕ) → Stops p (rest ++ more) → Stops p rest
stops_cut p [] more s = tt
stops_cut p (b ∷ rest) more s = s

escape_cut : {u r : List ℕ} {b : ℕ} → Escape u b r → (rest more : List ℕ) → r ≡ rest ++ more
    → HasFront (λ t. Escape t b rest) u more
escape_cut (octal ds r a l m s n) rest more e = (
  ds ++ rest,
  ap (λ x. ds ++ x) e ∙ sym (append_assoc ds rest more),
  octal ds rest a l m (λ h. stops_cut is_octal rest more (subst (Stops is_octal) e (s h))) n,
)
escape_cut (hexadecimal ds r a l s n) rest more e = (
  120 ∷ (ds ++ rest),
  ap (λ x. 120 ∷ x) (ap (λ x. ds ++ x) e ∙ sym (append_assoc ds rest more)),
  hexadecimal ds rest a l (stops_cut is_hexadecimal rest more (subst (Stops is_hexadecimal) e s)) n,
)
escape_cut (bare_x r s) rest more e = (
  120 ∷ rest,
  ap (λ x. 120 ∷ x) e,
  bare_x rest (stops_cut is_hexadecimal rest more (subst (Stops is_hexadecimal) e s)),
)
escape_cut (letter b r o x n) rest more e = (b ∷ rest, ap (λ x. b ∷ x) e, letter b rest o x n)

quoted_cut : {u bs r : List ℕ} → Quoted u bs r → (rest more : List ℕ) → r ≡ rest ++ more
    → HasFront (λ t. Quoted t bs rest) u more
quoted_cut (elements.closed r) rest more e = (34 ∷ rest, ap (λ x. 34 ∷ x) e, elements.closed rest)
quoted_cut (elements.byte b u bs r p q s k) rest more e = let c = quoted_cut k rest more e
    in (b ∷ c.0, ap (λ x. b ∷ x) c.1, elements.byte b c.0 bs rest p q s c.2)
quoted_cut (elements.escape u left b bs r h k) rest more e =
    let c = quoted_cut k rest more e in
    let d = escape_cut h c.0 more c.1 in
    (92 ∷ d.0, ap (λ x. 92 ∷ x) d.1, elements.escape d.0 c.0 b bs rest d.2 c.2)

-- tests of the front
named_cut : (b : ℕ) (rest more : List ℕ) → begins_named (b ∷ (rest ++ more)) ≡ false → begins_named (b ∷ rest) ≡ false
named_cut b [] more e = by (nat_eq b 91)
  where
    by : (x : Bool) → ((x && false) || (x && false) || (x && false)) ≡ false
    by true = refl
    by false = refl
named_cut b (c ∷ rest) more e = e

stands_cut : (t more : List ℕ) (b : ℕ) → stands_at (t ++ more) 0 b ≡ false → stands_at t 0 b ≡ false
stands_cut [] more b e = refl
stands_cut (c ∷ t) more b e = e

range_cut : (t more : List ℕ) → begins_range (45 ∷ (t ++ more)) ≡ true → begins_range (45 ∷ t) ≡ true
range_cut [] more e = refl
range_cut (c ∷ t) more e = e

no_range_cut : (t more : List ℕ) → begins_range (t ++ more) ≡ false → t ≢ 45 ∷ [] → begins_range t ≡ false
no_range_cut [] more e alone = refl
no_range_cut (b ∷ []) more e alone = let other : b ≢ 45 = λ same. alone (ap (λ x. x ∷ []) same)
    in rw (ne_eqb b 45 other) refl
no_range_cut (b ∷ c ∷ t) more e alone = e

point_cut : {u r : List ℕ} {b : ℕ} → Point u b r → (rest more : List ℕ) → r ≡ rest ++ more
    → HasFront (λ t. Point t b rest) u more
point_cut (elements.bare b r p q n) rest more e = (
  b ∷ rest,
  ap (λ x. b ∷ x) e,
  elements.bare b rest p q (named_cut b rest more (subst (λ x. begins_named (b ∷ x) ≡ false) e n)),
)
point_cut (elements.escaped u r b h) rest more e = let d = escape_cut h rest more e
    in (92 ∷ d.0, ap (λ x. 92 ∷ x) d.1, elements.escaped d.0 rest b d.2)
point_cut (elements.named b r p) rest more e
    = (91 ∷ 46 ∷ b ∷ 46 ∷ 93 ∷ rest, ap (λ x. 91 ∷ 46 ∷ b ∷ 46 ∷ 93 ∷ x) e, elements.named b rest p)

-- a single `-` is nothing but a byte
other_first : (t : List ℕ) (b : ℕ) → b ∷ t ≡ 45 ∷ [] → b ≢ 45 → ⊥
other_first t b e n = n (ap (λ x. get_or x 0 0) e)

point_dash : {t rest : List ℕ} {b : ℕ} → Point t b rest → t ≡ 45 ∷ [] → rest ≡ []
point_dash (elements.bare b rest p q n) e = ap (drop 1) e
point_dash (elements.escaped t rest b h) e = absurd (other_first t 92 e (λ f. absurd (omega (arith, f))))
point_dash (elements.named b rest p) e = absurd (other_first _ 91 e (λ f. absurd (omega (arith, f))))

points_dash : {t rest : List ℕ} {rs : List (ℕ × ℕ)} → Points t rs rest → t ≡ 45 ∷ [] → rest ≡ []
points_dash (elements.single t rest b p n) e = point_dash p e
points_dash (elements.range t behind rest low high p b q le) e = absurd (omega (arith, ap length (point_dash p e)))

item_dash : {first : Bool} {t rest : List ℕ} {rs : List (ℕ × ℕ)} → Item first t rs rest → t ≡ 45 ∷ [] → rest ≡ []
item_dash (elements.class first t rest rs c) e
    = absurd (other_first _ 91 (sym c.2 ∙ e) (λ f. absurd (omega (arith, f))))
item_dash (elements.equivalent first b rest p) e = absurd (other_first _ 91 e (λ f. absurd (omega (arith, f))))
item_dash (elements.points first t rest rs n p) e = points_dash p e

items_dash : {first : Bool} {t rest : List ℕ} {rs : List (ℕ × ℕ)} → Items first t rs rest → t ≢ 45 ∷ []
items_dash (elements.no_more rest) e = other_first rest 93 e (λ f. absurd (omega (arith, f)))
items_dash (elements.more first t behind rest rs ss n i k) e
    = absurd (omega (arith, items_some k, ap length (item_dash i e)))

points_cut : {u r : List ℕ} {rs : List (ℕ × ℕ)} → Points u rs r → (rest more : List ℕ) → r ≡ rest ++ more
    → rest ≢ 45 ∷ [] → HasFront (λ t. Points t rs rest) u more
points_cut (elements.single u r b p n) rest more e alone = let d = point_cut p rest more e in (
  d.0,
  d.1,
  elements.single d.0 rest b d.2 (no_range_cut rest more (subst (λ x. begins_range x ≡ false) e n) alone),
)
points_cut (elements.range u behind r low high p b q le) rest more e alone =
    let d = point_cut q rest more e in
    let c = point_cut p (45 ∷ d.0) more (ap (λ x. 45 ∷ x) d.1) in (
      c.0,
      c.1,
      elements.range c.0 d.0 rest low high c.2
          (range_cut d.0 more (subst (λ x. begins_range (45 ∷ x) ≡ true) d.1 b)) d.2 le,
    )

item_cut : {first : Bool} {u r : List ℕ} {rs : List (ℕ × ℕ)} → Item first u rs r → (rest more : List ℕ)
    → r ≡ rest ++ more → rest ≢ 45 ∷ [] → 0 < length rest → HasFront (λ t. Item first t rs rest) u more
item_cut (elements.class first u r rs c) rest more e alone some = (
  91 ∷ 58 ∷ (c.0 ++ 58 ∷ 93 ∷ rest),
  c.2 ∙ (ap (λ x. 91 ∷ 58 ∷ (c.0 ++ 58 ∷ 93 ∷ x)) e
      ∙ ap (λ x. 91 ∷ 58 ∷ x) (sym (append_assoc c.0 (58 ∷ 93 ∷ rest) more))),
  elements.class first (91 ∷ 58 ∷ (c.0 ++ 58 ∷ 93 ∷ rest)) rest rs (c.0, c.1, refl),
)
item_cut (elements.equivalent first b r p) rest more e alone some
    = (91 ∷ 61 ∷ b ∷ 61 ∷ 93 ∷ rest, ap (λ x. 91 ∷ 61 ∷ b ∷ 61 ∷ 93 ∷ x) e, elements.equivalent first b rest p)
item_cut (elements.points first u r rs n p) rest more e alone some = let d = points_cut p rest more e alone in (
  d.0,
  d.1,
  elements.points first d.0 rest rs
      (λ h. no_range_cut d.0 more (subst (λ x. begins_range x ≡ false) d.1 (n h))
      (λ f. absurd (omega (arith, ap length (points_dash d.2 f), some)))) d.2,
)

items_cut : {first : Bool} {u r : List ℕ} {rs : List (ℕ × ℕ)} → Items first u rs r → (rest more : List ℕ)
    → r ≡ rest ++ more → HasFront (λ t. Items first t rs rest) u more
items_cut (elements.no_more r) rest more e = (93 ∷ rest, ap (λ x. 93 ∷ x) e, elements.no_more rest)
items_cut (elements.more first u behind r rs ss n i k) rest more e =
    let c = items_cut k rest more e in
    let d = item_cut i c.0 more c.1 (items_dash c.2) (items_some c.2) in (
      d.0,
      d.1,
      elements.more first d.0 c.0 rest rs ss
          (λ h. stands_cut d.0 more 93 (subst (λ x. stands_at x 0 93 ≡ false) d.1 (n h))) d.2 c.2,
    )

bracketed_cut : {u bytes r : List ℕ} → Bracketed u bytes r → (rest more : List ℕ) → r ≡ rest ++ more
    → HasFront (λ t. Bracketed t bytes rest) u more
bracketed_cut (elements.listed u r rs n i some) rest more e = let d = items_cut i rest more e in (
  d.0,
  d.1,
  elements.listed d.0 rest rs (stands_cut d.0 more 94 (subst (λ x. stands_at x 0 94 ≡ false) d.1 n)) d.2 some,
)
bracketed_cut (elements.excluded u r rs i some) rest more e = let d = items_cut i rest more e
    in (94 ∷ d.0, ap (λ x. 94 ∷ x) d.1, elements.excluded d.0 rest rs d.2 some)

name_cut : (u name r : List ℕ) → NameBefore Lex u name (125 ∷ r) → (rest more : List ℕ) → r ≡ rest ++ more
    → HasFront (λ t. NameBefore Lex t name (125 ∷ rest)) u more
name_cut u name r h rest more e = (
  name ++ 125 ∷ rest,
  h.2 ∙ (ap (λ x. name ++ 125 ∷ x) e ∙ sym (append_assoc name (125 ∷ rest) more)),
  (h.0, h.1, refl),
)

times_cut : (u : List ℕ) (m b : ℕ) (r : List ℕ) → elements.Times u m (b ∷ r) → (rest more : List ℕ) → r ≡ rest ++ more
    → HasFront (λ t. elements.Times t m (b ∷ rest)) u more
times_cut u m b r h rest more e = (
  h.0 ++ b ∷ rest,
  h.1.3 ∙ (ap (λ x. h.0 ++ b ∷ x) e ∙ sym (append_assoc h.0 (b ∷ rest) more)),
  (h.0, (h.1.0, h.1.1, h.1.2, refl), h.2, h.3),
)

bounds_cut : {u r : List ℕ} {m : ℕ} {n : Option ℕ} → elements.Bounds u m n r → (rest more : List ℕ)
    → r ≡ rest ++ more → HasFront (λ t. elements.Bounds t m n rest) u more
bounds_cut (elements.exactly u r m h) rest more e = let d = times_cut u m 125 r h rest more e
    in (d.0, d.1, elements.exactly d.0 rest m d.2)
bounds_cut (elements.at_least u r m h) rest more e =
    let d = times_cut u m 44 (125 ∷ r) h (125 ∷ rest) more (ap (λ x. 125 ∷ x) e) in
    (d.0, d.1, elements.at_least d.0 rest m d.2)
bounds_cut (elements.between u behind r m n h k le) rest more e =
    let c = times_cut behind n 125 r k rest more e in
    let d = times_cut u m 44 behind h c.0 more c.1 in
    (d.0, d.1, elements.between d.0 c.0 rest m n d.2 c.2 le)

pub element_cut : {u r : List ℕ} {w : Element} → IsElement u w r → (rest more : List ℕ) → r ≡ rest ++ more
    → HasFront (λ t. IsElement t w rest) u more
element_cut (elements.plain b r p) rest more e = (b ∷ rest, ap (λ x. b ∷ x) e, elements.plain b rest p)
element_cut (elements.dot r) rest more e = (46 ∷ rest, ap (λ x. 46 ∷ x) e, elements.dot rest)
element_cut (elements.escaped_element u r b h) rest more e = let d = escape_cut h rest more e
    in (92 ∷ d.0, ap (λ x. 92 ∷ x) d.1, elements.escaped_element d.0 rest b d.2)
element_cut (elements.bracket u bytes r h) rest more e = let d = bracketed_cut h rest more e
    in (91 ∷ d.0, ap (λ x. 91 ∷ x) d.1, elements.bracket d.0 bytes rest d.2)
element_cut (elements.quoted u bs r h) rest more e = let d = quoted_cut h rest more e
    in (34 ∷ d.0, ap (λ x. 34 ∷ x) d.1, elements.quoted d.0 bs rest d.2)
element_cut (elements.sign b w r p) rest more e = (b ∷ rest, ap (λ x. b ∷ x) e, elements.sign b w rest p)
element_cut (elements.braced_name u name r h) rest more e = let d = name_cut u name r h rest more e
    in (123 ∷ d.0, ap (λ x. 123 ∷ x) d.1, elements.braced_name d.0 name rest d.2)
element_cut (elements.bounds u m n r h) rest more e = let d = bounds_cut h rest more e
    in (123 ∷ d.0, ap (λ x. 123 ∷ x) d.1, elements.bounds d.0 m n rest d.2)
