-- The element at the front of a text is determined.
use Rattle.std.proofs.Common.{◌≡◌, ℕ, ◌≤◌, List, [], ◌∷◌, refl, ap, ◌++◌, false, Option, Some, arith, inl, inr, get_or}
use Rattle.std.proofs.Common.{sym, subst, ◌∙◌, drop, None, true, IsTrue, ◌⊎◌}
use Rattle.std.proofs.lemmas.Bool.{false≢true}
use Rattle.std.proofs.lemmas.Bool.Decides.{nat_tests}
use Rattle.ly_base.specs.Escapes.{number}
use Rattle.ly_base.specs.Language.{DigitsBefore, NameBefore, is_decimal, is_letter}
use Rattle.ly_base.specs.declared.language.Language.TheVariants.{Lex}
use Rattle.ly_base.proofs.EscapeLemmas.{escape_one}
use Rattle.ly_base.proofs.NameLemmas.{digits_one, name_one}
use Rattle.ly_ere.specs.Private.Front.{CanEnd}
use Rattle.ly_ere.specs.Elements.{Element, one_of, string, Quoted, IsElement, plain, dot, escaped_element, bracket}
use Rattle.ly_ere.specs.Elements.{quoted, braced_name, bounds, sign, named, interval, caret, dollar_sign, slash}
use Rattle.ly_ere.specs.Elements.{Times, Bounds, exactly, at_least, between}
use Rattle.ly_ere.specs.Elements.{sign_of, is_among, own_meaning}
use Rattle.ly_ere.proofs.AppendLemmas.{end_cases}
use Rattle.ly_ere.proofs.ItemLemmas.{listed_one}
use Rattle.ly_ere.proofs.QuotedLemmas.{quoted_one}

-- a byte that stands for itself is no sign
plain_is_no_sign : (b : ℕ) (w : Element) → is_among own_meaning b ≡ false → sign_of b ≡ Some w → ⊥
plain_is_no_sign b w p q = grind (arith, nat_tests)

-- the digits of a number of times end at one place
pub times_one : (t : List ℕ) (m n : ℕ) (r s : List ℕ) → Times t m r → Times t n s → (m ≡ n) × (r ≡ s)
times_one t m n r s h k = by h.0 k.0 h.1 k.1 h.2 k.2
  where
    by : (ds es : List ℕ) → DigitsBefore t ds r → DigitsBefore t es s → m ≡ number 10 ds → n ≡ number 10 es
        → (m ≡ n) × (r ≡ s)
    by ds es p q d e = let one = digits_one t ds es r s p q in (d ∙ (ap (number 10) one.0 ∙ sym e), one.1)

-- no number begins with a byte that is no digit
no_digit : (b : ℕ) (rest ds r : List ℕ) → is_decimal b ≡ false → DigitsBefore (b ∷ rest) ds r → ⊥
no_digit b rest [] r p h = h.1 refl
no_digit b rest (d ∷ ds) r p h =
    let same : b ≡ d = ap (λ x. get_or x 0 0) h.3 in
    let yes : is_decimal b ≡ true = ap is_decimal same ∙ h.0.0 in
    false≢true (sym p ∙ yes)

-- a closing brace is no digit
no_times : (rest r : List ℕ) (n : ℕ) → Times (125 ∷ rest) n r → ⊥
no_times rest r n h = no_digit 125 rest h.0 r refl h.1

same_rest : {b : ℕ} {r s : List ℕ} → b ∷ r ≡ b ∷ s → r ≡ s
same_rest e = ap (drop 1) e

other_byte : {b c : ℕ} {r s : List ℕ} → b ∷ r ≡ c ∷ s → (b ≡ c → ⊥) → ⊥
other_byte e n = n (ap (λ x. get_or x 0 0) e)

-- the bounds of an interval, by what stands behind the first number
pub bounds_parts : {t rest : List ℕ} {m : ℕ} {n : Option ℕ} → Bounds t m n rest → (b : List ℕ) × Times t m b
    × (((b ≡ 125 ∷ rest) × (n ≡ Some m)) ⊎ ((c : List ℕ) × (b ≡ 44 ∷ c) × (((c ≡ 125 ∷ rest) × (n ≡ None))
    ⊎ ((k : ℕ) × Times c k (125 ∷ rest) × (n ≡ Some k) × (m ≤ k)))))
bounds_parts (exactly t rest m h) = (125 ∷ rest, h, inl (refl, refl))
bounds_parts (at_least t rest m h) = (44 ∷ 125 ∷ rest, h, inr (125 ∷ rest, refl, inl (refl, refl)))
bounds_parts (between t behind rest m n h k le) = (44 ∷ behind, h, inr (behind, refl, inr (n, k, refl, le)))

bounds_one : {t rest left : List ℕ} {m k : ℕ} {n l : Option ℕ} → Bounds t m n rest → Bounds t k l left
    → (m ≡ k) × (n ≡ l) × (rest ≡ left)
bounds_one (exactly t rest m h) (exactly u left k g) = let one = times_one t m k _ _ h g
    in (one.0, ap Some one.0, same_rest one.1)
bounds_one (exactly t rest m h) (at_least u left k g) = let one = times_one t m k _ _ h g
    in absurd (other_byte one.1 (λ e. absurd (omega (arith, e))))
bounds_one (exactly t rest m h) (between u behind left k l g f le) = let one = times_one t m k _ _ h g
    in absurd (other_byte one.1 (λ e. absurd (omega (arith, e))))
bounds_one (at_least t rest m h) (exactly u left k g) = let one = times_one t m k _ _ h g
    in absurd (other_byte one.1 (λ e. absurd (omega (arith, e))))
bounds_one (at_least t rest m h) (at_least u left k g) = let one = times_one t m k _ _ h g
    in (one.0, refl, same_rest (same_rest one.1))
bounds_one (at_least t rest m h) (between u behind left k l g f le) =
    let one = times_one t m k _ _ h g in
    absurd (no_times rest _ l (subst (λ x. Times x l (125 ∷ left)) (sym (same_rest one.1)) f))
bounds_one (between t behind rest m n h f le) (exactly u left k g) = let one = times_one t m k _ _ h g
    in absurd (other_byte one.1 (λ e. absurd (omega (arith, e))))
bounds_one (between t behind rest m n h f le) (at_least u left k g) =
    let one = times_one t m k _ _ h g in
    absurd (no_times left _ n (subst (λ x. Times x n (125 ∷ rest)) (same_rest one.1) f))
bounds_one (between t behind rest m n h f le) (between u other left k l g e les) =
    let one = times_one t m k _ _ h g in
    let two = times_one behind n l _ _ f (subst (λ x. Times x l (125 ∷ left)) (sym (same_rest one.1)) e) in
    (one.0, ap Some two.0, same_rest two.1)

-- a digit begins no name
no_letter : (b : ℕ) → IsTrue (is_letter b) → is_decimal b ≡ false
no_letter b h = grind (arith, nat_tests)

no_name_times : (t name ds r s : List ℕ) → NameBefore Lex t name r → DigitsBefore t ds s → ⊥
no_name_times t [] ds r s h k = h.0
no_name_times t (b ∷ bs) ds r s h k
    = no_digit b (bs ++ r) ds s (no_letter b h.0.0) (subst (λ x. DigitsBefore x ds s) h.2 k)

pub no_name_bounds : {t rest : List ℕ} {m : ℕ} {n : Option ℕ} (name r : List ℕ) → NameBefore Lex t name r
    → Bounds t m n rest → ⊥
no_name_bounds {t} name r h b = let k = bounds_parts b in no_name_times t name k.1.0 r k.0 h k.1.1

-- a name or an interval, by its opening brace
pub spelled_braced : {t rest : List ℕ} {w : Element} → IsElement (123 ∷ t) w rest
    → ((name : List ℕ) × NameBefore Lex t name (125 ∷ rest) × (w ≡ named name))
    ⊎ ((m : ℕ) × (n : Option ℕ) × Bounds t m n rest × (w ≡ interval m n))
spelled_braced (plain b rest p) = absurd (cc)
spelled_braced (braced_name t name rest h) = inl (name, h, refl)
spelled_braced (bounds t m n rest h) = inr (m, n, h, refl)
spelled_braced (sign b w rest p) = absurd (cc)

-- a string, by its opening quote
pub spelled_quoted : {t rest : List ℕ} {w : Element} → IsElement (34 ∷ t) w rest → (bs : List ℕ) × Quoted t bs rest
    × (w ≡ string bs)
spelled_quoted (plain b rest p) = absurd (cc)
spelled_quoted (quoted t bs rest h) = (bs, h, refl)
spelled_quoted (sign b w rest p) = absurd (cc)

-- a text begins with at most one element
pub front_one : {t rest left : List ℕ} {w v : Element} → IsElement t w rest → IsElement t v left
    → (w ≡ v) × (rest ≡ left)
front_one (plain b rest p) (plain c left q) = (refl, refl)
front_one (plain b rest p) (dot left) = absurd (cc)
front_one (plain b rest p) (escaped_element t left c h) = absurd (cc)
front_one (plain b rest p) (bracket t bytes left h) = absurd (cc)
front_one (plain b rest p) (quoted t bs left h) = absurd (cc)
front_one (plain b rest p) (braced_name t name left h) = absurd (cc)
front_one (plain b rest p) (bounds t m n left h) = absurd (cc)
front_one (plain b rest p) (sign c v left q) = absurd (plain_is_no_sign b v p q)
front_one (dot rest) (plain c left q) = absurd (cc)
front_one (dot rest) (dot left) = (refl, refl)
front_one (dot rest) (sign c v left q) = absurd (cc)
front_one (escaped_element t rest b h) (plain c left q) = absurd (cc)
front_one (escaped_element t rest b h) (escaped_element u left c k) = let one = escape_one t b c rest left h k
    in (ap (λ x. one_of (x ∷ [])) one.0, one.1)
front_one (escaped_element t rest b h) (sign c v left q) = absurd (cc)
front_one (bracket t bytes rest h) (plain c left q) = absurd (cc)
front_one (bracket t bytes rest h) (bracket u others left k) = let one = listed_one h k in (ap one_of one.0, one.1)
front_one (bracket t bytes rest h) (sign c v left q) = absurd (cc)
front_one (quoted t bs rest h) (plain c left q) = absurd (cc)
front_one (quoted t bs rest h) (quoted u cs left k) = let one = quoted_one h k in (ap string one.0, one.1)
front_one (quoted t bs rest h) (sign c v left q) = absurd (cc)
front_one (braced_name t name rest h) (plain c left q) = absurd (cc)
front_one (braced_name t name rest h) (braced_name u other left k) = let one = name_one Lex t name other _ _ h k
    in (ap named one.0, cc)
front_one (braced_name t name rest h) (bounds u m n left k) = absurd (no_name_bounds name _ h k)
front_one (braced_name t name rest h) (sign c v left q) = absurd (cc)
front_one (bounds t m n rest h) (plain c left q) = absurd (cc)
front_one (bounds t m n rest h) (braced_name u other left k) = absurd (no_name_bounds other _ k h)
front_one (bounds t m n rest h) (bounds u k l left g) = let one = bounds_one h g in (cc, one.2)
front_one (bounds t m n rest h) (sign c v left q) = absurd (cc)
front_one (sign b w rest p) (braced_name u other left k) = absurd (cc)
front_one (sign b w rest p) (bounds u m n left k) = absurd (cc)
front_one (sign b w rest p) (plain c left q) = absurd (plain_is_no_sign b w q p)
front_one (sign b w rest p) (dot left) = absurd (cc)
front_one (sign b w rest p) (escaped_element t left c h) = absurd (cc)
front_one (sign b w rest p) (bracket t bytes left h) = absurd (cc)
front_one (sign b w rest p) (quoted t bs left h) = absurd (cc)
front_one (sign b w rest p) (sign c v left q) = (cc, refl)

-- the element is no mark of a whole pattern
abbrev pub IsInside : Element → Type 0
IsInside caret = ⊥
IsInside dollar_sign = ⊥
IsInside slash = ⊥
IsInside _ = Unit {0}

-- no element begins with a blank, or where nothing stands
no_element_space : {t rest : List ℕ} {w : Element} → IsElement (32 ∷ t) w rest → ⊥
no_element_space (plain b rest p) = absurd (cc)
no_element_space (sign b w rest p) = absurd (cc)

no_element_tab : {t rest : List ℕ} {w : Element} → IsElement (9 ∷ t) w rest → ⊥
no_element_tab (plain b rest p) = absurd (cc)
no_element_tab (sign b w rest p) = absurd (cc)

-- `/` and `$` begin marks alone
pub slash_at : (t : List ℕ) → IsElement (47 ∷ t) slash t
slash_at t = sign 47 slash t refl

pub dollar_at : (t : List ℕ) → IsElement (36 ∷ t) dollar_sign t
dollar_at t = sign 36 dollar_sign t refl

pub caret_at : (t : List ℕ) → IsElement (94 ∷ t) caret t
caret_at t = sign 94 caret t refl

pub element_is_ahead : (t : List ℕ) {rest : List ℕ} {w : Element} → IsElement t w rest → IsInside w → (more : List ℕ)
    → CanEnd (t ++ more) → ⊥
element_is_ahead [] s inside more h = elim s [ ]
element_is_ahead (b ∷ t) {rest} {w} s inside more h = elim (end_cases b h) [
  | inl e ↦ no_element_space (rw e at s)
  | inr o ↦ elim o [
    | inl e ↦ no_element_tab (rw e at s)
    | inr q ↦ elim q [
      | inl e ↦ subst IsInside (front_one (rw e at s) (slash_at t)).0 inside
      | inr e ↦ subst IsInside (front_one (rw e at s) (dollar_at t)).0 inside
    ]
  ]
]
