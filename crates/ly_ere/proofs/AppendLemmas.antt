-- What is spelled at the front of a text is spelled there too where more stands behind the text.
use Rattle.std.proofs.Common.{◌≡◌, ℕ, ◌<◌, List, [], ◌∷◌, ◌++◌, length, Bool, true, false, refl, ap, ◌∙◌, append_assoc}
use Rattle.std.proofs.Common.{arith, inl, inr, ◌⊎◌, IsTrue, Option}
use Rattle.std.proofs.lemmas.Bool.{eqb-true, or_cases}
use Rattle.ly_base.specs.Blank.{is_blank}
use Rattle.std.specs.Prelude.{not, nat_eq, ◌&&◌, ◌||◌}
use Rattle.ly_base.specs.Language.{NameBefore}
use Rattle.ly_base.specs.declared.language.Language.TheVariants.{Lex}
use Rattle.ly_base.specs.Escapes.{Escape, Stops, bare_x, hexadecimal, is_hexadecimal, is_octal, letter, octal}
use Rattle.ly_ere.specs.Patterns.{IsBehind}
use Rattle.ly_ere.specs.Private.Front.{CanEnd}
use Rattle.ly_ere.specs.Elements.{stands_at}
use Rattle.ly_ere.specs.Elements.{Bracketed, Item, Items, Point, Points, Quoted, IsElement, begins_named, begins_range}
use Rattle.ly_ere.specs.Elements as elements

-- a space or a tab
pub blank_cases : (b : ℕ) → IsTrue (is_blank b) → (b ≡ 32) ⊎ (b ≡ 9)
blank_cases b h
    = elim (or_cases (nat_eq b 32) (nat_eq b 9) h) [ inl e ↦ inl (eqb-true b 32 e) | inr e ↦ inr (eqb-true b 9 e) ]

-- a blank, `/` or `$`
pub end_cases : (b : ℕ) → IsTrue (is_blank b || nat_eq b 47 || nat_eq b 36) → (b ≡ 32)
    ⊎ ((b ≡ 9) ⊎ ((b ≡ 47) ⊎ (b ≡ 36)))
end_cases b h = elim (or_cases (is_blank b || nat_eq b 47) (nat_eq b 36) h) [
  | inl e ↦ elim (or_cases (is_blank b) (nat_eq b 47) e) [
    | inl x ↦ elim (blank_cases b x) [ inl y ↦ inl y | inr y ↦ inr (inl y) ]
    | inr x ↦ inr (inr (inl (eqb-true b 47 x)))
  ]
  | inr x ↦ inr (inr (inr (eqb-true b 36 x)))
]

-- what may stand behind a pattern may stand behind a side of one
pub behind_end : (line : List ℕ) → IsBehind line → CanEnd line
behind_end [] h = tt
behind_end (b ∷ line) h = elim (blank_cases b h) [ inl e ↦ rw e refl | inr e ↦ rw e refl ]

-- what may follow what is left: where nothing is, a digit would belong to an escape that ends there
abbrev pub CanFollow : List ℕ → List ℕ → Type 0
CanFollow [] more = CanEnd more
CanFollow (b ∷ rest) more = Unit {0}

follows_some : (rest more : List ℕ) → 0 < length rest → CanFollow rest more
follows_some [] more l = absurd (omega arith)
follows_some (b ∷ rest) more l = tt

pub end_follows : (rest more : List ℕ) → CanEnd more → CanFollow rest more
end_follows [] more b = b
end_follows (c ∷ rest) more b = tt

-- none of these bytes passes the test
record StopsAtEnds (p : ℕ → Bool) : Type 0 where
  space : p 32 ≡ false
  tab : p 9 ≡ false
  slash : p 47 ≡ false
  dollar : p 36 ≡ false

octal_stops : StopsAtEnds is_octal
octal_stops = record { space = refl; tab = refl; slash = refl; dollar = refl }

hexadecimal_stops : StopsAtEnds is_hexadecimal
hexadecimal_stops = record { space = refl; tab = refl; slash = refl; dollar = refl }

stops_append : (p : ℕ → Bool) → StopsAtEnds p → (rest more : List ℕ) → CanFollow rest more → Stops p rest
    → Stops p (rest ++ more)
stops_append p ends [] [] f s = tt
stops_append p ends [] (b ∷ more) f s = elim (end_cases b f) [
  | inl e ↦ ap p e ∙ ends.space
  | inr o ↦ elim o [
    | inl e ↦ ap p e ∙ ends.tab
    | inr q ↦ elim q [ inl e ↦ ap p e ∙ ends.slash | inr e ↦ ap p e ∙ ends.dollar ]
  ]
]
stops_append p ends (b ∷ rest) more f s = s

escape_append : {t rest : List ℕ} {b : ℕ} → Escape t b rest → (more : List ℕ) → CanFollow rest more
    → Escape (t ++ more) b (rest ++ more)
escape_append (octal ds rest a l m s n) more f
    = rw append_assoc (octal ds (rest ++ more) a l m (λ h. stops_append is_octal octal_stops rest more f (s h)) n)
escape_append (hexadecimal ds rest a l s n) more f
    = rw append_assoc (hexadecimal ds (rest ++ more) a l
    (stops_append is_hexadecimal hexadecimal_stops rest more f s) n)
escape_append (bare_x rest s) more f = bare_x (rest ++ more)
    (stops_append is_hexadecimal hexadecimal_stops rest more f s)
escape_append (letter b rest o x n) more f = letter b (rest ++ more) o x n

quoted_some : {t bs rest : List ℕ} → Quoted t bs rest → 0 < length t
quoted_some (elements.closed rest) = omega arith
quoted_some (elements.byte b t bs rest p q r k) = omega arith
quoted_some (elements.escape t left b bs rest h k) = omega arith

quoted_append : {t bs rest : List ℕ} → Quoted t bs rest → (more : List ℕ) → Quoted (t ++ more) bs (rest ++ more)
quoted_append (elements.closed rest) more = elements.closed (rest ++ more)
quoted_append (elements.byte b t bs rest p q r k) more
    = elements.byte b (t ++ more) bs (rest ++ more) p q r (quoted_append k more)
quoted_append (elements.escape t left b bs rest h k) more
    = elements.escape (t ++ more) (left ++ more) b bs (rest ++ more)
    (escape_append h more (follows_some left more (quoted_some k))) (quoted_append k more)

-- tests of the front of a text that isn't empty
named_append : (b : ℕ) (rest more : List ℕ) → 0 < length rest
    → begins_named (b ∷ (rest ++ more)) ≡ begins_named (b ∷ rest)
named_append b [] more l = absurd (omega arith)
named_append b (c ∷ rest) more l = refl

stands_append : (t more : List ℕ) (b : ℕ) → 0 < length t → stands_at (t ++ more) 0 b ≡ stands_at t 0 b
stands_append [] more b l = absurd (omega arith)
stands_append (c ∷ t) more b l = refl

no_range_append : (t more : List ℕ) → 0 < length t → begins_range t ≡ false → begins_range (t ++ more) ≡ false
no_range_append [] more l e = absurd (omega arith)
no_range_append (b ∷ []) more l e = by (nat_eq b 45) (not (stands_at more 0 93)) e
  where
    by : (x y : Bool) → (x && true) ≡ false → (x && y) ≡ false
    by true y e = absurd (cc)
    by false y e = refl
no_range_append (b ∷ c ∷ t) more l e = e

range_append : (b : ℕ) (t more : List ℕ) → 0 < length t → begins_range (b ∷ (t ++ more)) ≡ begins_range (b ∷ t)
range_append b [] more l = absurd (omega arith)
range_append b (c ∷ t) more l = refl

point_some : {t rest : List ℕ} {b : ℕ} → Point t b rest → 0 < length t
point_some (elements.bare b rest p q r) = omega arith
point_some (elements.escaped t rest b h) = omega arith
point_some (elements.named b rest p) = omega arith

point_append : {t rest : List ℕ} {b : ℕ} → Point t b rest → (more : List ℕ) → 0 < length rest
    → Point (t ++ more) b (rest ++ more)
point_append (elements.bare b rest p q r) more l = elements.bare b (rest ++ more) p q (named_append b rest more l ∙ r)
point_append (elements.escaped t rest b h) more l
    = elements.escaped (t ++ more) (rest ++ more) b (escape_append h more (follows_some rest more l))
point_append (elements.named b rest p) more l = elements.named b (rest ++ more) p

points_append : {t rest : List ℕ} {rs : List (ℕ × ℕ)} → Points t rs rest → (more : List ℕ) → 0 < length rest
    → Points (t ++ more) rs (rest ++ more)
points_append (elements.single t rest b p n) more l
    = elements.single (t ++ more) (rest ++ more) b (point_append p more l)
    (no_range_append rest more l n)
points_append (elements.range t behind rest low high p r q le) more l =
    elements.range (t ++ more) (behind ++ more) (rest ++ more) low high (point_append p more (omega arith))
    (range_append 45 behind more (point_some q) ∙ r) (point_append q more l) le

points_some : {t rest : List ℕ} {rs : List (ℕ × ℕ)} → Points t rs rest → 0 < length t
points_some (elements.single t rest b p n) = point_some p
points_some (elements.range t behind rest low high p r q le) = point_some p

item_some : {first : Bool} {t rest : List ℕ} {rs : List (ℕ × ℕ)} → Item first t rs rest → 0 < length t
item_some (elements.class first t rest rs c) = rw c.2 (omega arith)
item_some (elements.equivalent first b rest p) = omega arith
item_some (elements.points first t rest rs n p) = points_some p

item_append : {first : Bool} {t rest : List ℕ} {rs : List (ℕ × ℕ)} → Item first t rs rest → (more : List ℕ)
    → 0 < length rest → Item first (t ++ more) rs (rest ++ more)
item_append (elements.class first t rest rs c) more l
    = elements.class first (t ++ more) (rest ++ more) rs (
      c.0,
      c.1,
      ap (λ u. u ++ more) c.2
          ∙ ap (λ u. 91 ∷ 58 ∷ u) (append_assoc c.0 (58 ∷ 93 ∷ rest) more),
    )
item_append (elements.equivalent first b rest p) more l = elements.equivalent first b (rest ++ more) p
item_append (elements.points first t rest rs n p) more l
    = elements.points first (t ++ more) (rest ++ more) rs (λ h. no_range_append t more (points_some p) (n h))
    (points_append p more l)

pub items_some : {first : Bool} {t rest : List ℕ} {rs : List (ℕ × ℕ)} → Items first t rs rest → 0 < length t
items_some (elements.no_more rest) = omega arith
items_some (elements.more first t behind rest rs ss n i k) = item_some i

items_append : {first : Bool} {t rest : List ℕ} {rs : List (ℕ × ℕ)} → Items first t rs rest → (more : List ℕ)
    → Items first (t ++ more) rs (rest ++ more)
items_append (elements.no_more rest) more = elements.no_more (rest ++ more)
items_append (elements.more first t behind rest rs ss n i k) more =
    elements.more first (t ++ more) (behind ++ more) (rest ++ more) rs ss (λ h. stands_append t more 93 (item_some i)
    ∙ n h) (item_append i more (items_some k)) (items_append k more)

bracketed_append : {t bytes rest : List ℕ} → Bracketed t bytes rest → (more : List ℕ)
    → Bracketed (t ++ more) bytes (rest ++ more)
bracketed_append (elements.listed t rest rs n i some) more
    = elements.listed (t ++ more) (rest ++ more) rs (stands_append t more 94 (items_some i) ∙ n)
    (items_append i more) some
bracketed_append (elements.excluded t rest rs i some) more
    = elements.excluded (t ++ more) (rest ++ more) rs (items_append i more) some

name_append : (t name rest : List ℕ) → NameBefore Lex t name (125 ∷ rest) → (more : List ℕ)
    → NameBefore Lex (t ++ more) name (125 ∷ (rest ++ more))
name_append t name rest h more = (
  h.0,
  h.1,
  ap (λ u. u ++ more) h.2 ∙ append_assoc name (125 ∷ rest) more,
)

times_append : (t : List ℕ) (m b : ℕ) (rest : List ℕ) → elements.Times t m (b ∷ rest) → (more : List ℕ)
    → elements.Times (t ++ more) m (b ∷ (rest ++ more))
times_append t m b rest h more = (
  h.0,
  (h.1.0, h.1.1, h.1.2, ap (λ u. u ++ more) h.1.3 ∙ append_assoc h.0 (b ∷ rest) more),
  h.2,
  h.3,
)

bounds_append : {t rest : List ℕ} {m : ℕ} {n : Option ℕ} → elements.Bounds t m n rest → (more : List ℕ)
    → elements.Bounds (t ++ more) m n (rest ++ more)
bounds_append (elements.exactly t rest m h) more
    = elements.exactly (t ++ more) (rest ++ more) m (times_append t m 125 rest h more)
bounds_append (elements.at_least t rest m h) more
    = elements.at_least (t ++ more) (rest ++ more) m (times_append t m 44 (125 ∷ rest) h more)
bounds_append (elements.between t behind rest m n h k le) more
    = elements.between (t ++ more) (behind ++ more) (rest ++ more) m n (times_append t m 44 behind h more)
    (times_append behind n 125 rest k more) le

pub element_append : {t rest : List ℕ} {w : elements.Element} → IsElement t w rest → (more : List ℕ)
    → CanFollow rest more
    → IsElement (t ++ more) w (rest ++ more)
element_append (elements.plain b rest p) more f = elements.plain b (rest ++ more) p
element_append (elements.dot rest) more f = elements.dot (rest ++ more)
element_append (elements.escaped_element t rest b h) more f
    = elements.escaped_element (t ++ more) (rest ++ more) b (escape_append h more f)
element_append (elements.bracket t bytes rest h) more f
    = elements.bracket (t ++ more) bytes (rest ++ more) (bracketed_append h more)
element_append (elements.quoted t bs rest h) more f
    = elements.quoted (t ++ more) bs (rest ++ more) (quoted_append h more)
element_append (elements.sign b w rest p) more f = elements.sign b w (rest ++ more) p
element_append (elements.braced_name t name rest h) more f
    = elements.braced_name (t ++ more) name (rest ++ more) (name_append t name rest h more)
element_append (elements.bounds t m n rest h) more f
    = elements.bounds (t ++ more) m n (rest ++ more) (bounds_append h more)
