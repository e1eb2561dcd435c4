-- Names at the front of a text.
use Rattle.std.specs.List.{position, position_or_len, prefix_len}
use Rattle.std.specs.Option.{unwrap_or}
use Rattle.std.proofs.lemmas.Bool.{false≢true}
use Rattle.std.proofs.Common.{◌≡◌, ℕ, zero, suc, ◌+◌, ◌<◌, ◌≤◌, List, [], ◌∷◌, ◌++◌, Bool, true, false, cond, IsTrue}
use Rattle.std.proofs.Common.{take, drop, take-append-drop, refl, sym, ap, ◌∙◌, subst, arith, length, not, ltb}
use Rattle.std.proofs.Common.{Some, None, length-take}
use Rattle.ly_base.specs.Escapes.{AllPass, Stops}
use Rattle.ly_base.specs.Language.{continues_name, starts_name, is_decimal, IsName, NameBefore, DigitsBefore}
use Rattle.ly_base.specs.Private.Names.{name_length}
use Rattle.ly_base.specs.declared.language.Language.{Language}

pub prefix_len-le : (p : ℕ → Bool) (xs : List ℕ) → prefix_len p xs ≤ length xs
prefix_len-le p [] = omega arith
prefix_len-le p (x ∷ xs) = at (p x) (prefix_len p xs) (length xs) (prefix_len-le p xs)
  where
    at : (b : Bool) (m n : ℕ) → m ≤ n → cond b (1 + m) 0 ≤ suc n
    at true m n h = omega arith
    at false m n h = omega arith

at_least : (m n : ℕ) → m ≤ n → unwrap_or (cond (ltb m n) (Some m) None) n ≡ m
at_least m n h = grind arith

pub unwrap_or-position : (p : ℕ → Bool) (xs : List ℕ) → unwrap_or (position p xs) (length xs) ≡ position_or_len p xs
unwrap_or-position p xs = at_least (position_or_len p xs) (length xs) (prefix_len-le (λ x. not (p x)) xs)

not_not : (b : Bool) → not (not b) ≡ b
not_not true = refl
not_not false = refl

prefix_len-not_not : (p : ℕ → Bool) (xs : List ℕ) → prefix_len (λ x. not (not (p x))) xs ≡ prefix_len p xs
prefix_len-not_not p [] = refl
prefix_len-not_not p (x ∷ xs) = rw (not_not (p x), prefix_len-not_not p xs) refl

pub unwrap_or-position_not : (p : ℕ → Bool) (xs : List ℕ) → unwrap_or (position (λ x. not (p x)) xs) (length xs)
    ≡ prefix_len p xs
unwrap_or-position_not p xs = unwrap_or-position (λ x. not (p x)) xs ∙ prefix_len-not_not p xs

starts_continues : (l : Language) (b : ℕ) → IsTrue (starts_name l b) → IsTrue (continues_name l b)
starts_continues l b h = rw h refl

-- the bytes at the front that pass, and what stands behind them
pub record Run (p : ℕ → Bool) (n : ℕ) (text : List ℕ) : Type 0 where
  pub these : AllPass p (take n text)
  pub ends : Stops p (drop n text)

pub run : (p : ℕ → Bool) (text : List ℕ) → Run p (prefix_len p text) text
run p [] = record { these = tt; ends = tt }
run p (b ∷ text) = at (p b) (prefix_len p text) refl (run p text)
  where
    at : (t : Bool) (n : ℕ) → p b ≡ t → Run p n text → Run p (cond t (1 + n) 0) (b ∷ text)
    at true n e r = subst (λ k. Run p k (b ∷ text)) (one_add n) (record { these = (e, r.these); ends = r.ends })
      where
        one_add : (n : ℕ) → suc n ≡ 1 + n
        one_add n = omega arith
    at false n e r = record { these = tt; ends = e }

-- what name_length counts is a name
pub name_begins : (l : Language) (text n rest : List ℕ) (k : ℕ) → k ≡ name_length l text → 0 < k → n ≡ take k text
    → rest ≡ drop k text
    → NameBefore l text n rest
name_begins l [] n rest k e h f g = absurd (omega arith)
name_begins l (b ∷ text) n rest k e h f g = at (starts_name l b) refl e
  where
    long : (k : ℕ) → 0 < k → IsTrue (starts_name l b) → AllPass (continues_name l) (take k (b ∷ text))
        → IsName l (take k (b ∷ text))
    long zero h s a = absurd (omega arith)
    long (suc k) h s a = (s, a.1)

    at : (t : Bool) → starts_name l b ≡ t → k ≡ cond t (prefix_len (continues_name l) (b ∷ text)) 0
        → NameBefore l (b ∷ text) n rest
    at true s e =
        let r : Run (continues_name l) k (b ∷ text) = subst (λ m. Run (continues_name l) m (b ∷ text)) (sym e)
        (run (continues_name l) (b ∷ text)) in
        rw (f, g) (long k h s r.these, r.ends, sym (take-append-drop k (b ∷ text)))
    at false s e = absurd (omega (arith, e, h))

-- behind a run no byte belongs to it
pub runs_one : (p : ℕ → Bool) (n m r s : List ℕ) → AllPass p n → AllPass p m → Stops p r → Stops p s → n ++ r ≡ m ++ s
    → (n ≡ m) × (r ≡ s)
runs_one p [] [] r s a b x y e = (refl, e)
runs_one p [] (c ∷ m) r s a b x y e = absurd (false≢true (sym (subst (Stops p) e x) ∙ b.0))
runs_one p (c ∷ n) [] r s a b x y e = absurd (false≢true (sym (subst (Stops p) (sym e) y) ∙ a.0))
runs_one p (c ∷ n) (d ∷ m) r s a b x y e = let f = runs_one p n m r s a.1 b.1 x y (cc) in (cc f.0, f.1)

pub name_continues : (l : Language) (n : List ℕ) → IsName l n → AllPass (continues_name l) n
name_continues l [] h = tt
name_continues l (b ∷ n) h = (starts_continues l b h.0, h.1)

-- a name is determined, and so is the rest
pub name_one : (l : Language) (t n m r s : List ℕ) → NameBefore l t n r → NameBefore l t m s → (n ≡ m) × (r ≡ s)
name_one l t n m r s a b = runs_one (continues_name l) n m r s (name_continues l n a.0) (name_continues l m b.0) a.1 b.1
    (sym a.2 ∙ b.2)

-- where name_length counts nothing there is no name
pub no_name : (l : Language) (text n rest : List ℕ) → name_length l text ≡ 0 → NameBefore l text n rest → ⊥
no_name l text [] rest e h = absurd h.0
no_name l text (c ∷ n) rest e h =
    let f : name_length l (c ∷ (n ++ rest)) ≡ 0 = sym (ap (name_length l) h.2) ∙ e in
    long (starts_name l c) (continues_name l c) (prefix_len (continues_name l) (n ++ rest)) h.0.0
    (starts_continues l c h.0.0) f
  where
    long : (t u : Bool) (k : ℕ) → t ≡ true → u ≡ true → cond t (cond u (1 + k) 0) 0 ≡ 0 → ⊥
    long true true k e f g = omega (arith, g)
    long true false k e f g = false≢true f
    long false u k e f g = false≢true e

-- the digits that are counted
pub digits_begin : (text ds rest : List ℕ) (k : ℕ) → k ≡ prefix_len is_decimal text → 0 < k → k ≤ length text
    → ds ≡ take k text → rest ≡ drop k text → DigitsBefore text ds rest
digits_begin text ds rest k e h w f g =
    let r : Run is_decimal k text = subst (λ m. Run is_decimal m text) (sym e) (run is_decimal text) in
    rw (f, g) (
      r.these,
      λ n. omega (arith, ap length n, length-take k text, h, w),
      r.ends,
      sym (take-append-drop k text),
    )

pub no_digits : (text ds rest : List ℕ) → prefix_len is_decimal text ≡ 0 → DigitsBefore text ds rest → ⊥
no_digits text [] rest e h = h.1 refl
no_digits text (c ∷ ds) rest e h =
    let f : prefix_len is_decimal (c ∷ (ds ++ rest)) ≡ 0 = sym (ap (prefix_len is_decimal) h.3) ∙ e in
    long (is_decimal c) (prefix_len is_decimal (ds ++ rest)) h.0.0 f
  where
    long : (t : Bool) (k : ℕ) → t ≡ true → cond t (1 + k) 0 ≡ 0 → ⊥
    long true k e g = omega (arith, g)
    long false k e g = false≢true e

-- digits are determined, and so is the rest
pub digits_one : (t n m r s : List ℕ) → DigitsBefore t n r → DigitsBefore t m s → (n ≡ m) × (r ≡ s)
digits_one t n m r s a b = runs_one is_decimal n m r s a.0 b.0 a.2 b.2 (sym a.3 ∙ b.3)
