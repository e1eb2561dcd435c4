-- A byte or a range of a bracket expression is determined by its text.
use Rattle.std.proofs.Common.{◌≡◌, ◌≢◌, ℕ, ◌+◌, ◌<◌, ◌≤◌, List, [], ◌∷◌, length, drop, get_or, Bool, true, false, Some}
use Rattle.std.proofs.Common.{None, Result, Ok, Err, IfOk, refl, sym, ap, subst, ◌∙◌, arith, nat_eq}
use Rattle.std.specs.Prelude.{not, ◌&&◌, if◌then◌else◌}
use Rattle.std.proofs.lemmas.Bool.{and_parts, eq-eqb, eqb-false, eqb-true, ne_eqb, not-true, or_from, or_parts}
use Rattle.std.proofs.lemmas.List.{drop-drop}
use Rattle.ly_base.specs.Escapes.{Escape}
use Rattle.ly_base.proofs.EscapeLemmas.{byte_at, escape_one}
use Rattle.ly_ere.specs.Private.Brackets.{names}
use Rattle.ly_ere.specs.Elements.{begins}
use Rattle.ly_ere.specs.Elements.{Point, bare, escaped, named, Points, single, range, begins_named, begins_range}
use Rattle.ly_ere.proofs.FrontLemmas.{first_is}

named_parts : (t : List ℕ) → begins_named t ≡ false → (begins t 58 ≡ false) × (begins t 46 ≡ false)
    × (begins t 61 ≡ false)
named_parts t e =
    let h = or_parts _ _ e in
    let k = or_parts _ _ h.0 in
    (k.0, k.1, h.1)

-- no point begins with `[:` or `[=`
point_begins : {t rest : List ℕ} {b : ℕ} → Point t b rest → (begins t 58 ≡ false) × (begins t 61 ≡ false)
point_begins (bare b rest p q n) = let h = named_parts (b ∷ rest) n in (h.0, h.2)
point_begins (escaped t rest b h) = (refl, refl)
point_begins (named b rest p) = (refl, refl)

-- the byte that is named
pub names_byte : (m b : ℕ) (rest : List ℕ) → b ≢ 10 → names (91 ∷ m ∷ b ∷ m ∷ 93 ∷ rest) m ≡ Some b
names_byte m b rest p = rw (eq-eqb m m refl, ne_eqb b 10 p) refl

-- a point is determined
pub point_one : {t rest left : List ℕ} {b c : ℕ} → Point t b rest → Point t c left → (b ≡ c) × (rest ≡ left)
point_one (bare b rest p q n) (bare c left r s m) = (refl, refl)
point_one (bare b rest p q n) (escaped t left c h) = absurd (q refl)
point_one (bare b rest p q n) (named c left r) = absurd (cc)
point_one (escaped t rest b h) (bare c left r s m) = absurd (s refl)
point_one (escaped t rest b h) (escaped u left c k) = escape_one t b c rest left h k
point_one (named b rest p) (bare c left r s m) = absurd (cc)
point_one (named b rest p) (named c left r) = (refl, refl)

-- the byte that a range begins with, and its end
pub points_range : {t rest : List ℕ} {rs : List (ℕ × ℕ)} → Points t rs rest → (low : ℕ) (left : List ℕ)
    → Point t low left → begins_range left ≡ true → (high : ℕ) × Point (drop 1 left) high rest × (low ≤ high)
    × (rs ≡ (low, high) ∷ [])
points_range (single t rest b h n) low left k m = let e = ap begins_range (point_one h k).1 in absurd (cc)
points_range (range t behind rest a high h n q l) low left k m =
    let e = point_one h k in
    (high, subst (λ x. Point (drop 1 x) high rest) e.1 q, omega (arith, e.0), ap (λ x. (x, high) ∷ []) e.0)

-- a byte or a range is determined
pub points_one : {t rest left : List ℕ} {rs ss : List (ℕ × ℕ)} → Points t rs rest → Points t ss left
    → (rs ≡ ss) × (rest ≡ left)
points_one (single t rest b h n) (single u left c k m) = let e = point_one h k in (ap (λ x. (x, x) ∷ []) e.0, e.1)
points_one (single t rest b h n) (range u behind left low high k m q l) = let e = ap begins_range (point_one h k).1
    in absurd (cc)
points_one (range t behind rest low high h n q l) k =
    let e = points_range k low (45 ∷ behind) h n in
    let f = point_one q e.1 in
    (ap (λ x. (low, x) ∷ []) f.0 ∙ sym e.3, f.1)

pub points_begin : {t rest : List ℕ} {rs : List (ℕ × ℕ)} → Points t rs rest → (begins t 58 ≡ false)
    × (begins t 61 ≡ false)
points_begin (single t rest b h n) = point_begins h
points_begin (range t behind rest low high h n q l) = point_begins h

-- what `[. .]` or `[= =]` is that names a byte
pub name_at : (t : List ℕ) (m b : ℕ) → begins t m ≡ true → names t m ≡ Some b → (t ≡ 91 ∷ m ∷ b ∷ m ∷ 93 ∷ drop 5 t)
    × (b ≢ 10)
name_at (a ∷ k ∷ c ∷ n ∷ e ∷ rest) m b h q = by (nat_eq n m && nat_eq e 93 && not (nat_eq c 10)) refl q
  where
    by : (x : Bool) → (nat_eq n m && nat_eq e 93 && not (nat_eq c 10)) ≡ x → (if x then Some c else None) ≡ Some b
        → (a ∷ k ∷ c ∷ n ∷ e ∷ rest ≡ 91 ∷ m ∷ b ∷ m ∷ 93 ∷ rest) × (b ≢ 10)
    by true p q =
        let front = and_parts _ _ h in
        let back = and_parts _ _ p in
        let marks = and_parts _ _ back.0 in
        let first = eqb-true a 91 front.0 in
        let mark = eqb-true k m front.1 in
        let again = eqb-true n m marks.0 in
        let close = eqb-true e 93 marks.1 in
        let same : c ≡ b = cc in
        (cc, λ e. eqb-false c 10 (not-true _ back.1) (same ∙ e))
    by false p q = absurd (cc)
name_at _ m b h q = absurd (cc)

pub named_point : {E : Type 0} (t : List ℕ) (r : Result (ℕ × ℕ) E) → begins t 46 ≡ true
    → IfOk r (λ found. (found.1 ≡ 5) × (5 ≤ length t)) → IfOk r (λ found. names t 46 ≡ Some found.0)
    → IfOk r (λ found. Point t found.0 (drop found.1 t))
named_point t (Ok found) h l q =
    let k = name_at t 46 found.0 h q in
    let P : List ℕ → Type 0 = λ x. Point x found.0 (drop 5 t) in
    rw l.0 (subst P (sym k.0) (named found.0 (drop 5 t) k.1))
named_point t (Err e) h l q = tt

pub escaped_point : (t : List ℕ) (b n : ℕ) → 0 < length t → get_or t 0 0 ≡ 92 → Escape (drop 1 t) b (drop n t)
    → Point t b (drop n t)
escaped_point t b n some e h =
    let P : List ℕ → Type 0 = λ x. Point x b (drop n t) in
    subst P (sym (byte_at t 0 92 some e)) (escaped (drop 1 t) (drop n t) b h)

pub bare_point : (t : List ℕ) (b : ℕ) → 0 < length t → get_or t 0 0 ≡ b → b ≢ 10 → b ≢ 92 → begins t 58 ≡ false
    → begins t 46 ≡ false → begins t 61 ≡ false → Point t b (drop 1 t)
bare_point [] b some e p q x y z = absurd (omega arith)
bare_point (a ∷ t) b some e p q x y z = rw (← e) (bare a t (rw e p) (rw e q) (or_from _ _ (or_from _ _ x y) z))

pub ranged : (t : List ℕ) (low high n m : ℕ) → Point t low (drop n t) → begins_range (drop n t) ≡ true
    → Point (drop 1 (drop n t)) high (drop m (drop 1 (drop n t))) → low ≤ high
    → Points t ((low, high) ∷ []) (drop (n + 1 + m) t)
ranged t low high n m p e q l =
    let mark = first_is (drop n t) 45 (and_parts _ _ e).0 in
    let k = range t (drop 1 (drop n t)) (drop m (drop 1 (drop n t))) low high (rw mark at p) (rw mark at e) q l in
    rw (← drop-drop m (n + 1) t, ← drop-drop 1 n t) k
