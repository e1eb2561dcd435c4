-- Which rule a step of a program is of.
use Rattle.std.proofs.Common.{◌≡◌, inl, inr, ℕ, zero, suc, ◌+◌, ◌<◌, ◌≤◌, List, Option, Some, None, refl, ap}
use Rattle.std.proofs.Common.{subst, arith, get_or}
use Rattle.std.specs.Prelude.{option_map, slice_get}
use Rattle.std.proofs.lemmas.Bool.{cases_lt}
use Rattle.ly_ere.specs.Expression.{Expression}
use Rattle.ly_position.specs.Private.Program.{ProgramStep, ends, size, entry, HasCode}
use Rattle.ly_position.specs.Private.Compile.{IsProgram, RuleStands, base_of, rule_size}
use Rattle.ly_position.proofs.LabelLemmas.{size-fill}
use Rattle.ly_position.proofs.SlimNumbers.{fill}

module _ (rule : ℕ → Option Expression) where
  base_up : (i j : ℕ) → i ≤ j → base_of rule i ≤ base_of rule j
  base_up i zero l = let e : i ≡ 0 = omega arith in rw e (omega arith)
  base_up i (suc j) l = elim (cases_lt i (suc j)) [
    | inl m ↦ let a = base_up i j (omega arith) in omega arith
    | inr m ↦ let e : i ≡ suc j = omega arith in rw e (omega arith)
  ]

  -- step p is one of rule i
  pub record IsOf (p i : ℕ) : Type 0 where
    pub low : base_of rule i ≤ p
    pub high : p < base_of rule (suc i)

  pub home : (n p : ℕ) → p < base_of rule n → (i : ℕ) × (i < n) × IsOf p i
  home zero p l = absurd (omega arith)
  home (suc n) p l = elim (cases_lt p (base_of rule n)) [
    | inl m ↦ let a = home n p m in (a.0, omega (arith, a.1), a.2)
    | inr m ↦ (n, omega arith, record { low = m; high = l })
  ]

  pub home_one : (p i j : ℕ) → IsOf p i → IsOf p j → i ≡ j
  home_one p i j a b = elim (cases_lt i j) [
    | inl l ↦ let u = base_up (suc i) j (omega arith) in absurd (omega (arith, u, a.high, b.low))
    | inr l ↦ elim (cases_lt j i) [
      | inl m ↦ let u = base_up (suc j) i (omega arith) in absurd (omega (arith, u, b.high, a.low))
      | inr m ↦ omega arith
    ]
  ]

  pub base_below : (i n : ℕ) → i < n → base_of rule (suc i) ≤ base_of rule n
  base_below i n l = base_up (suc i) n (omega arith)

  -- a step is of a rule that has an expression
  pub has_some : (p i : ℕ) → IsOf p i → (e : Expression) × (rule i ≡ Some e)
  has_some p i h = of (rule i) refl
    where
      of : (o : Option Expression) → rule i ≡ o → (e : Expression) × (rule i ≡ Some e)
      of None e = absurd (omega (arith, h.low, h.high, ap rule_size e))
      of (Some x) e = (x, e)

-- a rule that has an expression stands in the program
pub rule_stands : (rule : ℕ → Option Expression) (n : ℕ) (g : List ProgramStep) (entries : List (Option ℕ)) (i : ℕ)
    (e : Expression) → IsProgram rule n g entries → i < n → rule i ≡ Some e
    → (slice_get g (base_of rule i) ≡ Some (ends i)) × HasCode g e (base_of rule i + 1) (base_of rule i)
    × (get_or entries i None ≡ Some (entry (base_of rule i + 1) (size e) (base_of rule i)))
rule_stands rule n g entries i e p l is
    = subst (λ o. RuleStands g o (get_or entries i None) i (base_of rule i)) is (p.standing i l)

-- rules of the same sizes begin at the same steps
pub same_bases : (rule other : ℕ → Option Expression) (n : ℕ)
    → ((i : ℕ) → i < n → rule_size (rule i) ≡ rule_size (other i)) → (i : ℕ) → i ≤ n → base_of rule i ≡ base_of other i
same_bases rule other n f zero l = refl
same_bases rule other n f (suc i) l =
    let a = same_bases rule other n f i (omega arith) in
    let b = f i (omega arith) in
    omega arith

pub rule_size-fill : (S : ℕ → List ℕ) (o : Option Expression) → rule_size (option_map (fill S) o) ≡ rule_size o
rule_size-fill S None = refl
rule_size-fill S (Some e) = omega (arith, size-fill S e)
