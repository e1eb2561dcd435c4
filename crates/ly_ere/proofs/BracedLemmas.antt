-- What stands in braces at the front of a text.
use Rattle.std.proofs.Common.{◌≡◌, ◌≢◌, ℕ, ◌<◌, ◌≤◌, ◌-◌, List, [], ◌∷◌, ◌++◌, length, drop, get_or, Bor, Option, refl}
use Rattle.std.proofs.Common.{sym, subst, ap, ◌∙◌, arith, inl, inr, ◌⊎◌, Some, None, length-append, append_assoc}
use Rattle.std.proofs.Math.Seq.{drop-append_seam}
use Rattle.ly_base.specs.Language.{NameBefore}
use Rattle.ly_base.specs.declared.language.Language.TheVariants.{Lex}
use Rattle.ly_base.proofs.EscapeLemmas.{byte_at}
use Rattle.ly_base.proofs.NameLemmas.{name_one}
use Rattle.ly_ere.specs.Elements.{Bounds, IsElement, Times, bounds, braced_name, interval, named}
use Rattle.ly_ere.specs.Private.Front.{BeginsNo}
use Rattle.ly_ere.specs.Private.Elements.{IsNextElement}
use Rattle.ly_ere.specs.declared.element.Element.TheVariants.{Interval, Name}
use Rattle.ly_ere.proofs.ElementLemmas.{bounds_parts, no_name_bounds, spelled_braced, times_one}
use Rattle.ly_ere.proofs.NextElementLemmas.{next_is}

-- no bounds of an interval are at the front
abbrev pub HasNoBounds : List ℕ → Type 0
HasNoBounds t = (m : ℕ) (n : Option ℕ) (rest : List ℕ) → Bounds t m n rest → ⊥

module _ (t : List ℕ) where
  -- no number is at the front
  pub no_first : ((m : ℕ) (b : List ℕ) → Times t m b → ⊥) → HasNoBounds t
  no_first none m n rest h = let k = bounds_parts h in none m k.0 k.1

  module _ (m : ℕ) (b : List ℕ) (h : Times t m b) where
    -- neither `}` nor `,` stands behind the first number
    pub no_mark : ((r : List ℕ) → b ≢ 125 ∷ r) → ((r : List ℕ) → b ≢ 44 ∷ r) → HasNoBounds t
    no_mark close comma l n rest g =
        let k = bounds_parts g in
        let one : b ≡ k.0 = (times_one t m l b k.0 h k.1).1 in
        elim k.2 [ inl p ↦ close rest (one ∙ p.0) | inr p ↦ comma p.0 (one ∙ p.1) ]

    module _ (c : List ℕ) (e : b ≡ 44 ∷ c) (unclosed : (r : List ℕ) → c ≢ 125 ∷ r) where
      -- what stands behind the comma, which no `}` follows
      behind_comma : (l : ℕ) (n : Option ℕ) (rest : List ℕ) → Bounds t l n rest → (k : ℕ) × Times c k (125 ∷ rest)
          × (m ≤ k)
      behind_comma l n rest g =
          let k = bounds_parts g in
          let one = times_one t m l b k.0 h k.1 in
          by k.0 one.0 one.1 k.2
        where
          by : (d : List ℕ) → m ≡ l → b ≡ d → (((d ≡ 125 ∷ rest) × (n ≡ Some l))
              ⊎ ((c : List ℕ) × (d ≡ 44 ∷ c) × (((c ≡ 125 ∷ rest) × (n ≡ None))
              ⊎ ((k : ℕ) × Times c k (125 ∷ rest) × (n ≡ Some k) × (l ≤ k))))) → (k : ℕ) × Times c k (125 ∷ rest)
              × (m ≤ k)
          by d p q (inl x) = let wrong : 44 ≡ 125 = ap (λ y. get_or y 0 0) (sym e ∙ (q ∙ x.0))
              in absurd (omega (arith, wrong))
          by d p q (inr (a, f, inl x)) = absurd (unclosed rest (ap (drop 1) (sym e ∙ (q ∙ f)) ∙ x.0))
          by d p q (inr (a, f, inr x)) =
              let same : a ≡ c = sym (ap (drop 1) (sym e ∙ (q ∙ f))) in
              (x.0, subst (λ y. Times y x.0 (125 ∷ rest)) same x.1, omega (arith, p, x.3))

      -- no number stands there that is as great and is closed
      pub no_upper : ((k : ℕ) (r : List ℕ) → Times c k (125 ∷ r) → m ≤ k → ⊥) → HasNoBounds t
      no_upper none l n rest g = let k = behind_comma l n rest g in none k.0 rest k.1 k.2

-- the rest of a text, by its length
pub rest_is : (t front rest : List ℕ) (n : ℕ) → t ≡ front ++ rest → n ≡ length t - length rest → drop n t ≡ rest
rest_is t front rest n e q =
    let many : n ≡ length front = omega (arith, q, ap length e, length-append front rest) in
    ap (λ x. drop n x) e ∙ (ap (λ k. drop k (front ++ rest)) many ∙ drop-append_seam front rest)

-- what the number and the bounds leave behind them
times_front : {t rest : List ℕ} {m : ℕ} → Times t m rest → (front : List ℕ) × (t ≡ front ++ rest)
times_front h = (h.0, h.1.3)

bounds_front : {t rest : List ℕ} {m : ℕ} {n : Option ℕ} → Bounds t m n rest → (front : List ℕ) × (t ≡ front ++ rest)
bounds_front {t} {rest} {m} {n} h = let k = bounds_parts h in by k.0 (times_front k.1) k.2
  where
    by : (b : List ℕ) → ((front : List ℕ) × (t ≡ front ++ b)) → (((b ≡ 125 ∷ rest) × (n ≡ Some m))
        ⊎ ((c : List ℕ) × (b ≡ 44 ∷ c) × (((c ≡ 125 ∷ rest) × (n ≡ None))
        ⊎ ((k : ℕ) × Times c k (125 ∷ rest) × (n ≡ Some k) × (m ≤ k))))) → (front : List ℕ) × (t ≡ front ++ rest)
    by b f (inl p) = (f.0 ++ 125 ∷ [], f.1 ∙ (ap (λ x. f.0 ++ x) p.0 ∙ simp append_assoc))
    by b f (inr (c, e, inl p)) = (
      f.0 ++ 44 ∷ 125 ∷ [],
      f.1 ∙ (ap (λ x. f.0 ++ x) (e ∙ ap (λ x. 44 ∷ x) p.0) ∙ simp append_assoc),
    )
    by b f (inr (c, e, inr p)) = let g = times_front p.1
        in (
          f.0 ++ 44 ∷ (g.0 ++ 125 ∷ []),
          f.1 ∙ (ap (λ x. f.0 ++ x) (e ∙ ap (λ x. 44 ∷ x) g.1) ∙ simp append_assoc),
        )

module _ (t : List ℕ) (some : 0 < length t) (e : get_or t 0 0 ≡ 123) where
  braced : t ≡ 123 ∷ drop 1 t
  braced = byte_at t 0 123 some e

  -- a name that is closed
  pub name_next : (n : Bor (List ℕ)) (rest : List ℕ) (k : ℕ) → NameBefore Lex (drop 1 t) n.now (125 ∷ rest)
      → k ≡ length t - length rest → IsNextElement t (Name n) k
  name_next n rest k h q =
      let split : t ≡ (123 ∷ (n.now ++ 125 ∷ [])) ++ rest
      = braced ∙ (ap (λ x. 123 ∷ x) h.2 ∙ simp append_assoc) in
      let there : drop k t ≡ rest = rest_is t (123 ∷ (n.now ++ 125 ∷ [])) rest k split q in
      let many = ap length split in
      next_is t k (Name n) (named n.now) (
        omega (arith, q, many, length-append (n.now ++ 125 ∷ []) rest),
        omega
            (arith, q),
      )
      tt refl
      (rw there (subst (λ x. IsElement x (named n.now) rest) (sym braced) (braced_name (drop 1 t) n.now rest h)))

  -- a name that isn't
  pub no_close_name : (name behind : List ℕ) → NameBefore Lex (drop 1 t) name behind
      → ((r : List ℕ) → behind ≢ 125 ∷ r) → BeginsNo IsElement t
  no_close_name name behind h close w rest s
      = elim (spelled_braced (subst (λ x. IsElement x w rest) braced s)) [
        | inl k ↦ close rest (name_one Lex (drop 1 t) name k.0 behind (125 ∷ rest) h k.1).1
        | inr k ↦ no_name_bounds name behind h k.2
      ]

  -- an interval
  pub interval_next : (m : ℕ) (n : Option ℕ) (rest : List ℕ) (k : ℕ) → Bounds (drop 1 t) m n rest
      → k ≡ length t - length rest → IsNextElement t (Interval m n) k
  interval_next m n rest k h q =
      let f = bounds_front h in
      let split : t ≡ (123 ∷ f.0) ++ rest = braced ∙ ap (λ x. 123 ∷ x) f.1 in
      let there : drop k t ≡ rest = rest_is t (123 ∷ f.0) rest k split q in
      next_is t k (Interval m n) (interval m n)
      (omega (arith, q, ap length split, length-append f.0 rest), omega (arith, q)) tt refl
      (rw there (subst (λ x. IsElement x (interval m n) rest) (sym braced) (bounds (drop 1 t) m n rest h)))

  -- neither a name nor an interval
  pub no_braced : ((name r : List ℕ) → NameBefore Lex (drop 1 t) name r → ⊥) → HasNoBounds (drop 1 t)
      → BeginsNo IsElement t
  no_braced no_name none w rest s
      = elim (spelled_braced (subst (λ x. IsElement x w rest) braced s)) [
        | inl k ↦ no_name k.0 (125 ∷ rest) k.1
        | inr k ↦ none k.0 k.1 rest k.2
      ]
