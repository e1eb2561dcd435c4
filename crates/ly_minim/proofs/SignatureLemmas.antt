-- Signatures are one where blocks, rules and what the classes lead to are.
use Rattle.std.proofs.Common.{◌≡◌, ◌<◌, ◌+◌, ◌∙◌, ℕ, zero, suc, List, [], ◌∷◌, ◌++◌, Option, Some, None, refl, sym}
use Rattle.std.proofs.Common.{ap, ap₂}
use Rattle.std.proofs.Common.{arith}
use Rattle.std.specs.Prelude.{flat_map}
use Rattle.std.specs.List.{range_with_len}
use Rattle.std.proofs.lemmas.List.{flat_map_more}
use Rattle.std.proofs.Math.Numerals.{add-one}
use Rattle.ly_subset.specs.Automaton.{Automaton, rule_of}
use Rattle.ly_minim.specs.Private.Signature.{block_after, block_of, marked, signature_of}

-- marked numbers at the front
marked_front : (a b : Option ℕ) (xs ys : List ℕ) → marked a ++ xs ≡ marked b ++ ys → (a ≡ b) × (xs ≡ ys)
marked_front None None xs ys e = (refl, cc)
marked_front None (Some n) xs ys e = absurd (cc)
marked_front (Some m) None xs ys e = absurd (cc)
marked_front (Some m) (Some n) xs ys e = (cc, cc)

-- marked numbers one after another
marked_all : (f g : ℕ → Option ℕ) (from n : ℕ)
    → flat_map (λ c. marked (f c)) (range_with_len from n) ≡ flat_map (λ c. marked (g c)) (range_with_len from n)
    → (c : ℕ) → c < n → f (from + c) ≡ g (from + c)
marked_all f g from zero e c l = absurd (omega (arith, l))
marked_all f g from (suc n) e zero l = let same : from ≡ from + 0 = omega arith in
    sym (ap f same) ∙ (marked_front (f from) (g from) _ _ e).0 ∙ ap g same
marked_all f g from (suc n) e (suc c) l = let same : (from + 1) + c ≡ from + suc c = omega arith in
    sym (ap f same) ∙ marked_all f g (from + 1) n (marked_front (f from) (g from) _ _ e).1 c (omega (arith, l))
    ∙ ap g same

marked_same : (f g : ℕ → Option ℕ) (from n : ℕ) → ((c : ℕ) → c < n → f (from + c) ≡ g (from + c))
    → flat_map (λ c. marked (f c)) (range_with_len from n) ≡ flat_map (λ c. marked (g c)) (range_with_len from n)
marked_same f g from zero h = refl
marked_same f g from (suc n) h = ap₂ (λ o xs. marked o ++ xs)
    (let same : from ≡ from + 0 = omega arith in ap f same ∙ h 0 (omega arith) ∙ sym (ap g same))
    (marked_same f g (from + 1) n (λ c l. let same : from + suc c ≡ (from + 1) + c = omega arith in
    sym (ap f same) ∙ h (suc c) (omega (arith, l)) ∙ ap g same))

-- What a partition sees of two states is the same.
pub record AreSeenAlike (A : Automaton) (of : List ℕ) (s t : ℕ) : Type 0 where
  pub block : block_of of s ≡ block_of of t
  pub rule : rule_of A (Some s) ≡ rule_of A (Some t)
  pub nexts : (c : ℕ) → c < A.classes → block_after A of s c ≡ block_after A of t c

pub seen_from : (A : Automaton) (of : List ℕ) (s t : ℕ) → signature_of A of s ≡ signature_of A of t
    → AreSeenAlike A of s t
seen_from A of s t e =
    let front : marked (rule_of A (Some s)) ++ flat_map (λ c. marked (block_after A of s c))
    (range_with_len 0 A.classes)
    ≡ marked (rule_of A (Some t)) ++ flat_map (λ c. marked (block_after A of t c)) (range_with_len 0 A.classes) = cc in
    let parts = marked_front (rule_of A (Some s)) (rule_of A (Some t)) _ _ front in
    record {
      block = cc;
      rule = parts.0;
      nexts = λ c l. let same : 0 + c ≡ c = omega arith in
          sym (ap (block_after A of s) same)
          ∙ marked_all (block_after A of s) (block_after A of t) 0 A.classes parts.1 c l ∙ ap (block_after A of t) same;
    }

pub seen_to : (A : Automaton) (of : List ℕ) (s t : ℕ) → AreSeenAlike A of s t
    → signature_of A of s ≡ signature_of A of t
seen_to A of s t h = ap₂ (λ b xs. b ∷ xs) h.block (ap₂ (λ o xs. marked o ++ xs) h.rule
    (marked_same (block_after A of s) (block_after A of t) 0 A.classes (λ c l. let same : c ≡ 0 + c = omega arith in
    sym (ap (block_after A of s) same) ∙ h.nexts c l ∙ ap (block_after A of t) same)))

range_push : (a n : ℕ) → range_with_len a (n + 1) ≡ range_with_len a n ++ (a + n) ∷ []
range_push a n = rw add-one (by a n)
  where
    by : (a n : ℕ) → range_with_len a (suc n) ≡ range_with_len a n ++ (a + n) ∷ []
    by a zero = ap (λ x. x ∷ []) (let same : a ≡ a + 0 = omega arith in same)
    by a (suc n) = ap (λ xs. a ∷ xs) (by (a + 1) n ∙ ap (λ x. range_with_len (a + 1) n ++ x ∷ [])
        (let same : (a + 1) + n ≡ a + suc n = omega arith in same))

-- one class more
pub signature_more : (f : ℕ → List ℕ) (front : List ℕ) (n : ℕ)
    → (front ++ flat_map f (range_with_len 0 n)) ++ f n ≡ front ++ flat_map f (range_with_len 0 (n + 1))
signature_more f front n = let same : 0 + n ≡ n = omega arith in
    flat_map_more f front (range_with_len 0 n) n
    ∙ ap (λ xs. front ++ flat_map f xs) (ap (λ x. range_with_len 0 n ++ x ∷ []) (sym same) ∙ sym (range_push 0 n))
