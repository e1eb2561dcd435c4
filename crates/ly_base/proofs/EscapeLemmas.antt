-- An escape is determined by its text.
use Rattle.std.proofs.Common.{◌≡◌, ◌≢◌, ℕ, zero, suc, ◌+◌, ◌-◌, ◌*◌, ◌<◌, ◌≤◌, List, [], ◌∷◌, ◌++◌, length}
use Rattle.std.proofs.Common.{length-append, take, drop, Bool, true, false, Some, None, refl, sym, ap, subst, ◌∙◌}
use Rattle.std.proofs.Common.{arith, nat_eq, nat_lt}
use Rattle.std.specs.Prelude.{if◌then◌else◌}
use Rattle.std.proofs.lemmas.Bool.{eq-eqb, ne_eqb, eqb-true, eqb-false, lt-ltb, ltb-true, false_from_ne_true}
use Rattle.std.proofs.lemmas.Bool.Decides.{nat_tests}
use Rattle.std.proofs.lemmas.List.{drop-drop, drop_more, take_all, length-drop}
use Rattle.std.proofs.Common.{get_or, add-one, length-take, min}
use Rattle.std.proofs.Math.Seq.{take-suc}
use Rattle.std.proofs.Math.ListN.{take-append-drop}
use Rattle.ly_base.specs.declared.escapes.Radix.{Radix}
use Rattle.ly_base.specs.declared.escapes.Radix.TheVariants.{Octal, Hexadecimal}
use Rattle.ly_base.specs.Private.Escapes.{base_of, counts}
use Rattle.ly_base.specs.Escapes.{is_octal, is_hexadecimal, digit, number_from, number, AllPass, Stops}
use Rattle.ly_base.specs.Private.Escapes.{digits, found_escape, by_octal}
use Rattle.ly_base.specs.Escapes.{meaning, Escape, octal, hexadecimal, bare_x, letter}
use Rattle.ly_base.specs.Private.Escapes.{by_letter, by_hexadecimal, byte_or_none, byte_when, letter_when}

pub digits_pass : (p : ℕ → Bool) (n : ℕ) (t : List ℕ) → AllPass p (digits p n t)
digits_pass p zero t = tt
digits_pass p (suc n) [] = tt
digits_pass p (suc n) (b ∷ t) = by (p b) refl (digits_pass p n t)
  where
    by : (x : Bool) → p b ≡ x → AllPass p (digits p n t) → AllPass p (if x then b ∷ digits p n t else [])
    by true e h = (e, h)
    by false e h = tt

-- more digits make no number less
pub number_grows : (n : ℕ) (ds : List ℕ) → n ≤ number_from 10 n ds
number_grows n [] = omega arith
number_grows n (d ∷ ds) = omega (arith, number_grows (n * 10 + digit d) ds)

-- the digits, and what is behind them
pub digits_rest : (p : ℕ → Bool) (n : ℕ) (t : List ℕ) → t ≡ digits p n t ++ drop (length (digits p n t)) t
digits_rest p zero t = refl
digits_rest p (suc n) [] = refl
digits_rest p (suc n) (b ∷ t) = by (p b) (digits_rest p n t)
  where
    by : (x : Bool) → t ≡ digits p n t ++ drop (length (digits p n t)) t
        → b ∷ t ≡ (if x then b ∷ digits p n t else []) ++ drop (length (if x then b ∷ digits p n t else [])) (b ∷ t)
    by true h = ap (λ u. b ∷ u) h
    by false h = refl

pub digits_few : (p : ℕ → Bool) (n : ℕ) (t : List ℕ) → length (digits p n t) ≤ n
digits_few p zero t = omega arith
digits_few p (suc n) [] = omega arith
digits_few p (suc n) (b ∷ t) = by (p b) (digits_few p n t)
  where
    by : (x : Bool) → length (digits p n t) ≤ n → length (if x then b ∷ digits p n t else []) ≤ suc n
    by true h = omega arith
    by false h = omega arith

pub digits_stop : (p : ℕ → Bool) (n : ℕ) (t : List ℕ) → length (digits p n t) < n
    → Stops p (drop (length (digits p n t)) t)
digits_stop p zero t h = absurd (omega arith)
digits_stop p (suc n) [] h = tt
digits_stop p (suc n) (b ∷ t) h = by (p b) refl (digits_stop p n t) h
  where
    by : (x : Bool) → p b ≡ x → (length (digits p n t) < n → Stops p (drop (length (digits p n t)) t))
        → length (if x then b ∷ digits p n t else []) < suc n
        → Stops p (drop (length (if x then b ∷ digits p n t else [])) (b ∷ t))
    by true e f h = f (omega arith)
    by false e f h = e

-- a run of digits that has to end where it does is what is read
pub digits_are : (p : ℕ → Bool) (n : ℕ) (ds rest : List ℕ) → AllPass p ds → length ds ≤ n
    → (length ds < n → Stops p rest) → digits p n (ds ++ rest) ≡ ds
digits_are p zero [] rest a l s = refl
digits_are p zero (d ∷ ds) rest a l s = absurd (omega arith)
digits_are p (suc n) [] [] a l s = refl
digits_are p (suc n) [] (b ∷ rest) a l s = rw (s (omega arith)) refl
digits_are p (suc n) (d ∷ ds) rest a l s
    = rw (a.0, digits_are p n ds rest a.1 (omega arith) (λ h. s (omega arith))) refl

drop_front : (ds rest : List ℕ) → drop (length ds) (ds ++ rest) ≡ rest
drop_front [] rest = refl
drop_front (d ∷ ds) rest = drop_front ds rest

small_byte : (n : ℕ) (rest : List ℕ) → n < 256 → byte_or_none n rest ≡ Some (n, rest)
small_byte n rest h = rw (lt-ltb n 256 h) refl

byte_found : (n : ℕ) (rest : List ℕ) (b : ℕ) (r : List ℕ) → byte_or_none n rest ≡ Some (b, r) → (n < 256) × (b ≡ n)
    × (r ≡ rest)
byte_found n rest b r q = by (nat_lt n 256) refl q
  where
    by : (x : Bool) → nat_lt n 256 ≡ x → byte_when x n rest ≡ Some (b, r) → (n < 256) × (b ≡ n) × (r ≡ rest)
    by true e q = let p : ◌≡◌ {A = ℕ × List ℕ} (n, rest) (b, r) = cc
        in (ltb-true n 256 e, sym (ap (λ (v : ℕ × List ℕ). v.0) p), sym (ap (λ (v : ℕ × List ℕ). v.1) p))
    by false e q = absurd (cc)

octal_at : (t ds r : List ℕ) (b : ℕ) → t ≡ ds ++ r → b ≡ number 8 ds → AllPass is_octal ds → 1 ≤ length ds
    → length ds ≤ 3 → (length ds < 3 → Stops is_octal r) → number 8 ds < 256 → Escape t b r
octal_at t ds r b te be a l m s n = let k = octal ds r a l m s n in rw (te, be) k

hexadecimal_at : (t ds r : List ℕ) (b : ℕ) → t ≡ ds ++ r → b ≡ number 16 ds → AllPass is_hexadecimal ds → 1 ≤ length ds
    → Stops is_hexadecimal r → number 16 ds < 256 → Escape (120 ∷ t) b r
hexadecimal_at t ds r b te be a l s n = let k = hexadecimal ds r a l s n in rw (te, be) k

-- a run to the end of the text, at most
stop_all : (p : ℕ → Bool) (t : List ℕ) → Stops p (drop (length (digits p (length t) t)) t)
stop_all p [] = tt
stop_all p (b ∷ t) = by (p b) refl (stop_all p t)
  where
    by : (x : Bool) → p b ≡ x → Stops p (drop (length (digits p (length t) t)) t)
        → Stops p (drop (length (if x then b ∷ digits p (length t) t else [])) (b ∷ t))
    by true e h = h
    by false e h = e

hexadecimal_sound : (t ds : List ℕ) (b : ℕ) (r : List ℕ) → digits is_hexadecimal (length t) t ≡ ds
    → by_hexadecimal ds t ≡ Some (b, r) → Escape (120 ∷ t) b r
hexadecimal_sound t [] b r e q =
    let p : ◌≡◌ {A = ℕ × List ℕ} (120, t) (b, r) = cc in
    let s : Stops is_hexadecimal t = rw e at (stop_all is_hexadecimal t) in
    let k = bare_x t s in
    rw (← ap (λ (v : ℕ × List ℕ). v.0) p, ← ap (λ (v : ℕ × List ℕ). v.1) p) k
hexadecimal_sound t (d ∷ ds) b r e q =
    let f = byte_found (number 16 (d ∷ ds)) (drop (length (d ∷ ds)) t) b r q in
    let same : t ≡ (d ∷ ds) ++ drop (length (d ∷ ds)) t = rw e at (digits_rest is_hexadecimal (length t) t) in
    let pass : AllPass is_hexadecimal (d ∷ ds) = rw e at (digits_pass is_hexadecimal (length t) t) in
    let stop : Stops is_hexadecimal (drop (length (d ∷ ds)) t) = rw e at (stop_all is_hexadecimal t) in
    rw f.2 (hexadecimal_at t (d ∷ ds) (drop (length (d ∷ ds)) t) b same f.1 pass (omega arith) stop f.0)

letter_sound : (t : List ℕ) (b : ℕ) (r : List ℕ) → Stops is_octal t → by_letter t ≡ Some (b, r) → Escape t b r
letter_sound [] b r s q = absurd (cc)
letter_sound (c ∷ t) b r s q = by (nat_eq c 10) refl q
  where
    hex : (x : Bool) → nat_eq c 120 ≡ x → c ≢ 10 → letter_when false x c t ≡ Some (b, r) → Escape (c ∷ t) b r
    hex true e n q = rw (eqb-true c 120 e) (hexadecimal_sound t (digits is_hexadecimal (length t) t) b r refl q)
    hex false e n q =
        let p : ◌≡◌ {A = ℕ × List ℕ} (meaning c, t) (b, r) = cc in
        let k = letter c t s (eqb-false c 120 e) n in
        subst (λ (v : ℕ × List ℕ). Escape (c ∷ t) v.0 v.1) p k

    by : (x : Bool) → nat_eq c 10 ≡ x → letter_when x (nat_eq c 120) c t ≡ Some (b, r) → Escape (c ∷ t) b r
    by true e q = absurd (cc)
    by false e q = hex (nat_eq c 120) refl (eqb-false c 10 e) q

-- what a reader finds is an escape
pub escape_sound : (t : List ℕ) (b : ℕ) (r : List ℕ) → found_escape t ≡ Some (b, r) → Escape t b r
escape_sound t b r q = by (digits is_octal 3 t) refl q
  where
    by : (ds : List ℕ) → digits is_octal 3 t ≡ ds → by_octal ds t ≡ Some (b, r) → Escape t b r
    by [] e q =
        let n : length (digits is_octal 3 t) ≡ 0 = ap length e in
        let s = digits_stop is_octal 3 t (omega arith) in
        letter_sound t b r (rw e at s) q
    by (d ∷ ds) e q =
        let f = byte_found (number 8 (d ∷ ds)) (drop (length (d ∷ ds)) t) b r q in
        let same : t ≡ (d ∷ ds) ++ drop (length (d ∷ ds)) t = rw e at (digits_rest is_octal 3 t) in
        let pass : AllPass is_octal (d ∷ ds) = rw e at (digits_pass is_octal 3 t) in
        let few : length (d ∷ ds) ≤ 3 = rw e at (digits_few is_octal 3 t) in
        let stop : length (d ∷ ds) < 3 → Stops is_octal (drop (length (d ∷ ds)) t) = rw e at (digits_stop is_octal 3 t)
        in
        rw f.2 (octal_at t (d ∷ ds) (drop (length (d ∷ ds)) t) b same f.1 pass (omega arith) few stop f.0)

by_octal_some : (ds r : List ℕ) → 1 ≤ length ds → number 8 ds < 256 → by_octal ds (ds ++ r) ≡ Some (number 8 ds, r)
by_octal_some [] r l n = absurd (omega arith)
by_octal_some (d ∷ ds) r l n = small_byte (number 8 (d ∷ ds)) (drop (length (d ∷ ds)) ((d ∷ ds) ++ r)) n
    ∙ ap (λ u. Some (number 8 (d ∷ ds), u)) (drop_front (d ∷ ds) r)

by_hexadecimal_some : (ds r : List ℕ) → 1 ≤ length ds → number 16 ds < 256
    → by_hexadecimal ds (ds ++ r) ≡ Some (number 16 ds, r)
by_hexadecimal_some [] r l n = absurd (omega arith)
by_hexadecimal_some (d ∷ ds) r l n = small_byte (number 16 (d ∷ ds)) (drop (length (d ∷ ds)) ((d ∷ ds) ++ r)) n
    ∙ ap (λ u. Some (number 16 (d ∷ ds), u)) (drop_front (d ∷ ds) r)

none_first : (p : ℕ → Bool) (b n : ℕ) (t : List ℕ) → p b ≡ false → digits p (suc n) (b ∷ t) ≡ []
none_first p b n t e = rw e refl

none_all : (p : ℕ → Bool) (t : List ℕ) → Stops p t → digits p (length t) t ≡ []
none_all p [] s = refl
none_all p (b ∷ t) s = rw s refl

-- an escape is what a reader finds
pub escape_complete : {t : List ℕ} {b : ℕ} {r : List ℕ} → Escape t b r → found_escape t ≡ Some (b, r)
escape_complete (octal ds r a l m s n) = ap (λ us. by_octal us (ds ++ r)) (digits_are is_octal 3 ds r a m s)
    ∙ by_octal_some ds r l n
escape_complete (hexadecimal ds r a l s n)
    = rw (digits_are is_hexadecimal (length (ds ++ r)) ds r a (omega (arith, length-append ds r)) (λ h. s))
    (by_hexadecimal_some ds r l n)
escape_complete (bare_x r s) = rw (none_all is_hexadecimal r s) refl
escape_complete (letter b r o x n) = rw (none_first is_octal b 2 r o, ne_eqb b 10 n, ne_eqb b 120 x) refl

-- a text has at most one escape at its front
pub escape_one : (t : List ℕ) (b c : ℕ) (r s : List ℕ) → Escape t b r → Escape t c s → (b ≡ c) × (r ≡ s)
escape_one t b c r s h k =
    let p = escape_complete h in
    let q = escape_complete k in
    let e : ◌≡◌ {A = ℕ × List ℕ} (b, r) (c, s) = cc in
    (ap (λ (v : ℕ × List ℕ). v.0) e, ap (λ (v : ℕ × List ℕ). v.1) e)

-- one more digit
pub pass_more : (p : ℕ → Bool) (k : ℕ) (t : List ℕ) → AllPass p (take k t) → k < length t → p (get_or t k 0) ≡ true
    → AllPass p (take (k + 1) t)
pass_more p k t a l e = rw (add-one, take-suc t k 0 l) (all (take k t) a)
  where
    all : (us : List ℕ) → AllPass p us → AllPass p (us ++ get_or t k 0 ∷ [])
    all [] a = (e, tt)
    all (u ∷ us) a = (a.0, all us a.1)

number_push : (base n : ℕ) (us : List ℕ) (d : ℕ)
    → number_from base n (us ++ d ∷ []) ≡ number_from base n us * base + digit d
number_push base n [] d = refl
number_push base n (u ∷ us) d = number_push base (n * base + digit u) us d

pub number_more : (base k : ℕ) (t : List ℕ) → k < length t
    → number base (take (k + 1) t) ≡ number base (take k t) * base + digit (get_or t k 0)
number_more base k t l = rw (add-one, take-suc t k 0 l) (number_push base 0 (take k t) (get_or t k 0))

-- the digits that were passed are all there are
pub digits_at : (p : ℕ → Bool) (n k : ℕ) (t : List ℕ) → AllPass p (take k t) → k ≤ n → k ≤ length t
    → (k < n → Stops p (drop k t)) → digits p n t ≡ take k t
digits_at p n k t a l m s =
    let few : length (take k t) ≡ k = omega (arith, length-take k t) in
    let d = digits_are p n (take k t) (drop k t) a (omega arith) (λ h. s (omega arith)) in
    rw take-append-drop at d

pub stops_at : (p : ℕ → Bool) (k : ℕ) (t : List ℕ) → (k < length t → p (get_or t k 0) ≡ false) → Stops p (drop k t)
stops_at p zero [] f = tt
stops_at p zero (b ∷ t) f = f (omega arith)
stops_at p (suc k) [] f = tt
stops_at p (suc k) (b ∷ t) f = stops_at p k t (λ h. f (omega arith))

-- digits that come to more than a byte count as 256
pub value_more : (r : Radix) (v n d : ℕ) → v ≡ min n 256 → min (v * base_of r + d) 256 ≡ min (n * base_of r + d) 256
value_more Octal v n d e = omega arith
value_more Hexadecimal v n d e = omega arith

pub counted : (x : Bool) (b d : ℕ) → counts x b ≡ Some d → (x ≡ true) × (d ≡ digit b)
counted true b d e = (refl, cc)
counted false b d e = absurd (cc)

pub uncounted : (x : Bool) (b : ℕ) → counts x b ≡ None → x ≡ false
uncounted true b e = absurd (cc)
uncounted false b e = refl

-- digits behind a backslash
octal_ok : (u : List ℕ) (n v b : ℕ) → n ≡ length (digits is_octal 3 u) → v ≡ min (number 8 (digits is_octal 3 u)) 256
    → 0 < n → v < 256 → found_escape u ≡ Some (v, drop n u)
octal_ok u n v b e f l m = by (digits is_octal 3 u) e f
  where
    by : (ds : List ℕ) → n ≡ length ds → v ≡ min (number 8 ds) 256 → by_octal ds u ≡ Some (v, drop n u)
    by [] e f = absurd (omega arith)
    by (d ∷ ds) e f = let same : number 8 (d ∷ ds) ≡ v = omega arith
        in rw (← same, e) (small_byte (number 8 (d ∷ ds)) (drop (length (d ∷ ds)) u) (omega arith))

-- what a reader that stops has found
pub run_ends : (p : ℕ → Bool) (base most k v : ℕ) (t : List ℕ) → AllPass p (take k t) → k ≤ most → k ≤ length t
    → (k < most → k < length t → p (get_or t k 0) ≡ false) → v ≡ min (number base (take k t)) 256
    → (k ≡ length (digits p most t)) × (v ≡ min (number base (digits p most t)) 256)
run_ends p base most k v t a few within stop e =
    let d = digits_at p most k t a few within (λ h. stops_at p k t (λ l. stop h l)) in
    rw d (omega (arith, length-take k t), e)

octal_no : (u : List ℕ) (n v : ℕ) → n ≡ length (digits is_octal 3 u) → v ≡ min (number 8 (digits is_octal 3 u)) 256
    → 0 < n → 256 ≤ v → found_escape u ≡ None
octal_no u n v e f l m = by (digits is_octal 3 u) e f
  where
    large : (k : ℕ) (rest : List ℕ) → 256 ≤ k → byte_or_none k rest ≡ None
    large k rest h = rw (false_from_ne_true (nat_lt k 256) (λ t. absurd (omega (arith, ltb-true k 256 t)))) refl

    by : (ds : List ℕ) → n ≡ length ds → v ≡ min (number 8 ds) 256 → by_octal ds u ≡ None
    by [] e f = absurd (omega arith)
    by (d ∷ ds) e f = large (number 8 (d ∷ ds)) (drop (length (d ∷ ds)) u) (omega arith)

-- no octal digits
no_octal : (u : List ℕ) (n : ℕ) → n ≡ length (digits is_octal 3 u) → n ≤ 0 → found_escape u ≡ by_letter u
no_octal u n e l = by (digits is_octal 3 u) e
  where
    by : (ds : List ℕ) → n ≡ length ds → by_octal ds u ≡ by_letter u
    by [] e = refl
    by (d ∷ ds) e = absurd (omega arith)

hexadecimal_when : (w ds : List ℕ) (n v : ℕ) → n ≡ length ds → v ≡ min (number 16 ds) 256 → 0 < n
    → by_hexadecimal ds w ≡ byte_or_none v (drop n w)
hexadecimal_when w [] n v e f l = absurd (omega arith)
hexadecimal_when w (d ∷ ds) n v e f l = by (nat_lt v 256) refl
  where
    by : (x : Bool) → nat_lt v 256 ≡ x → by_hexadecimal (d ∷ ds) w ≡ byte_or_none v (drop n w)
    by true t = let less : v < 256 = ltb-true v 256 t in let same : number 16 (d ∷ ds) ≡ v = omega arith
        in rw (same, e) refl
    by false t = let less : 256 ≤ v = not_less v t in let more : nat_lt (number 16 (d ∷ ds)) 256 ≡ false
        = is_false (number 16 (d ∷ ds)) (omega arith) in rw (t, more) refl
      where
        not_less : (k : ℕ) → nat_lt k 256 ≡ false → 256 ≤ k
        not_less k t = grind (arith, nat_tests)

        is_false : (k : ℕ) → 256 ≤ k → nat_lt k 256 ≡ false
        is_false k h = false_from_ne_true (nat_lt k 256) (λ t. absurd (omega (arith, ltb-true k 256 t)))

pub whole_slice : (n : ℕ) (t : List ℕ) → take (length t - n) (drop n t) ≡ drop n t
whole_slice n t = take_all (length t - n) (drop n t) (omega (arith, length-drop n t))

-- a byte, and what is behind it
pub byte_at : (t : List ℕ) (n b : ℕ) → n < length t → get_or t n 0 ≡ b → drop n t ≡ b ∷ drop (n + 1) t
byte_at t n b l e = drop_more t n 0 l ∙ ap (λ x. x ∷ drop (n + 1) t) e

escape_none : (t : List ℕ) → found_escape t ≡ None → (b : ℕ) (r : List ℕ) → Escape t b r → ⊥
escape_none t e b r h = let k = escape_complete h in cc

-- a newline is no escape
pub newline_none : (t : List ℕ) (b : ℕ) (r : List ℕ) → Escape (10 ∷ t) b r → ⊥
newline_none t = escape_none (10 ∷ t) refl

module _ (t : List ℕ) (n v : ℕ) (count : n ≡ length (digits is_octal 3 (take (length t - 1) (drop 1 t))))
    (value : v ≡ min (number 8 (digits is_octal 3 (take (length t - 1) (drop 1 t)))) 256) where
  pub octal_found : 0 < n → v < 256 → Escape (drop 1 t) v (drop (1 + n) t)
  octal_found l m
      = escape_sound (drop 1 t) v (drop (1 + n) t)
      (rw (← drop-drop n 1 t) (octal_ok (drop 1 t) n v v (rw whole_slice at count) (rw whole_slice at value) l m))

  pub octal_large : 0 < n → 256 ≤ v → (b : ℕ) (r : List ℕ) → Escape (drop 1 t) b r → ⊥
  octal_large l m
      = escape_none (drop 1 t) (octal_no (drop 1 t) n v (rw whole_slice at count) (rw whole_slice at value) l m)

pub no_letter : (t : List ℕ) → length t ≤ 1 → (b : ℕ) (r : List ℕ) → Escape (drop 1 t) b r → ⊥
no_letter [] l = escape_none [] refl
no_letter (a ∷ []) l = escape_none [] refl
no_letter (a ∷ c ∷ t) l = absurd (omega arith)

module _ (t : List ℕ) (letter : ℕ) (within : 1 < length t) (is : letter ≡ get_or t 1 0) where
  -- the letter behind the backslash
  first_letter : drop 1 t ≡ letter ∷ drop 2 t
  first_letter = byte_at t 1 letter within (sym is)

  module _ (n : ℕ) (count : n ≡ length (digits is_octal 3 (take (length t - 1) (drop 1 t)))) (none : n ≤ 0)
      (line : letter ≢ 10) where
    by_letters : (w : List ℕ) → drop 2 t ≡ w
        → found_escape (letter ∷ w) ≡ letter_when false (nat_eq letter 120) letter w
    by_letters w e = no_octal (letter ∷ w) n (rw (whole_slice, first_letter, e) at count) none
        ∙ rw (ne_eqb letter 10 line) refl

    pub letter_found : letter ≢ 120 → Escape (drop 1 t) (meaning letter) (drop 2 t)
    letter_found ne
        = rw first_letter (escape_sound (letter ∷ drop 2 t) (meaning letter) (drop 2 t) (by_letters (drop 2 t) refl
        ∙ rw (ne_eqb letter 120 ne) refl))

    module _ (x : letter ≡ 120) (m v : ℕ)
        (digits_count : m
        ≡ length (digits is_hexadecimal (length (take (length t - 2) (drop 2 t))) (take (length t - 2) (drop 2 t))))
        (value : v
        ≡ min (number 16 (digits is_hexadecimal (length (take (length t - 2) (drop 2 t)))
        (take (length t - 2) (drop 2 t)))) 256) where
      pub hexadecimal_found : 0 < m → v < 256 → Escape (drop 1 t) v (drop (2 + m) t)
      hexadecimal_found l s
          = rw (first_letter, ← drop-drop m 2 t) (escape_sound (letter ∷ drop 2 t) v (drop m (drop 2 t))
          (by_letters (drop 2 t) refl
          ∙ rw (eq-eqb letter 120 x)
          (hexadecimal_when (drop 2 t) (digits is_hexadecimal (length (drop 2 t)) (drop 2 t)) m v
          (rw whole_slice at digits_count) (rw whole_slice at value) l ∙ small_byte v (drop m (drop 2 t)) s)))

      pub hexadecimal_large : 0 < m → 256 ≤ v → (b : ℕ) (r : List ℕ) → Escape (drop 1 t) b r → ⊥
      hexadecimal_large l s = rw first_letter (escape_none (letter ∷ drop 2 t)
          (by_letters (drop 2 t) refl
          ∙ rw (eq-eqb letter 120 x)
          (hexadecimal_when (drop 2 t) (digits is_hexadecimal (length (drop 2 t)) (drop 2 t)) m v
          (rw whole_slice at digits_count) (rw whole_slice at value) l
          ∙ rw (false_from_ne_true (nat_lt v 256) (λ t. absurd (omega (arith, ltb-true v 256 t)))) refl)))

      pub bare_x_found : m ≤ 0 → Escape (drop 1 t) (meaning letter) (drop 2 t)
      bare_x_found z
          = rw (first_letter, x)
          (hexadecimal_sound (drop 2 t) [] 120 (drop 2 t)
          (no_digits (digits is_hexadecimal (length (drop 2 t)) (drop 2 t)) (rw whole_slice at digits_count)) refl)
        where
          no_digits : (ds : List ℕ) → m ≡ length ds → ds ≡ []
          no_digits [] e = refl
          no_digits (d ∷ ds) e = absurd (omega arith)
