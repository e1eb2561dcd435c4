-- What a union of two rows does to a matrix, and how steps follow one another.
use Rattle.std.proofs.Common.{◌≡◌, ◌≢◌, ◌∙◌, ◌<◌, ◌||◌, ℕ, Bool, true, false, List, length, sym, ap, subst, refl, arith}
use Rattle.std.proofs.Common.{inl, inr, ◌⊎◌}
use Rattle.std.specs.FinSet as set
use Rattle.std.specs.FinSet.{contains-union}
use Rattle.std.specs.Cmp.{nat_cmp_total}
use Rattle.std.proofs.lemmas.Bool.{cases_eq}
use Rattle.std.proofs.lemmas.List.{get_or-set_same, get_or-set_other}
use Rattle.std.proofs.Math.ListN.{length-set}
use Rattle.ly_sets.specs.NumberSet.{NumberSet, Member}
use Rattle.ly_sets.specs.SetMatrix.{Matrix, row, with_row}
use Rattle.ly_digraph.specs.Digraph.{Digraph, Reaches}
use Rattle.ly_digraph.specs.Digraph.Reaches.{here}
use Rattle.ly_digraph.specs.Least.{IsBetween}
use Rattle.ly_digraph.specs.Walk.{Within}
use Rattle.ly_digraph.specs.Search.{Continues, IsAt}
use Rattle.ly_digraph.specs.declared.walk.Walk.{Walk}
use Rattle.ly_digraph.proofs.WalkLemmas.{GrowsAt, reaches_on}

-- ---- members of a union

pub Member-union_left : (s t : NumberSet) (n : ℕ) → Member s n → Member (set.union s t) n
Member-union_left s t n m = contains-union nat_cmp_total s t n ∙ ap (λ b. b || set.contains t n) m

pub Member-union_right : (s t : NumberSet) (n : ℕ) → Member t n → Member (set.union s t) n
Member-union_right s t n m = contains-union nat_cmp_total s t n ∙ ap (λ b. set.contains s n || b) m
    ∙ or_true (set.contains s n)
  where
    or_true : (b : Bool) → (b || true) ≡ true
    or_true true = refl
    or_true false = refl

pub Member-union_cases : (s t : NumberSet) (n : ℕ) → Member (set.union s t) n → Member s n ⊎ Member t n
Member-union_cases s t n m = by (set.contains s n) refl
  where
    by : (b : Bool) → set.contains s n ≡ b → Member s n ⊎ Member t n
    by true e = inl e
    by false e = inr (sym (ap (λ b. b || set.contains t n) e) ∙ sym (contains-union nat_cmp_total s t n) ∙ m)

-- ---- the rows after a union

abbrev pub united : Matrix → ℕ → ℕ → Matrix
united m p q = with_row m p (set.union (row m.sets p) (row m.sets q))

module _ (m : Matrix) (p q : ℕ) (inside : p < length m.sets) where
  pub row-united_same : row (united m p q).sets p ≡ set.union (row m.sets p) (row m.sets q)
  row-united_same = get_or-set_same m.sets p _ set.empty inside

  pub row-united_other : (x : ℕ) → x ≢ p → row (united m p q).sets x ≡ row m.sets x
  row-united_other x ne = get_or-set_other m.sets p x _ set.empty ne

  pub united_grows : GrowsAt m.sets (united m p q).sets p
  united_grows = record {
    long = length-set m.sets p _;
    rest = row-united_other;
    grown = λ x n h. elim (cases_eq x p) [
      | inl same ↦ subst (λ y. Member (row (united m p q).sets y) n) (sym same)
          (subst (λ s. Member s n) (sym row-united_same)
          (Member-union_left _ _ n (subst (λ y. Member (row m.sets y) n) same h)))
      | inr ne ↦ subst (λ s. Member s n) (sym (row-united_other x ne)) h
    ];
  }

  pub united_joined : (n : ℕ) → Member (row m.sets q) n → Member (row (united m p q).sets p) n
  united_joined n h = subst (λ s. Member s n) (sym row-united_same) (Member-union_right _ _ n h)

  -- row q lies within row p
  pub united_within : Within (united m p q).sets q p
  united_within = record {
    within = λ n h. elim (cases_eq q p) [
      | inl same ↦ subst (λ x. Member (row (united m p q).sets x) n) same h
      | inr ne ↦ united_joined n (subst (λ s. Member s n) (row-united_other q ne) h)
    ];
  }

  pub united_between : (g : Digraph) → Reaches g p q → IsBetween g m.sets (united m p q).sets
  united_between g way = record {
    kept = record { holds = united_grows.grown };
    reached = λ i n h. elim (cases_eq i p) [
      | inl same ↦
          elim (Member-union_cases (row m.sets p) (row m.sets q) n
          (subst (λ s. Member s n) (ap (row (united m p q).sets) same ∙ row-united_same) h)) [
            | inl own ↦ (i, here i, subst (λ y. Member (row m.sets y) n) (sym same) own)
            | inr other ↦ (q, subst (λ y. Reaches g y q) (sym same) way, other)
          ]
      | inr ne ↦ (i, here i, subst (λ s. Member s n) (row-united_other i ne) h)
    ];
  }

-- ---- one after another

pub between_none : (g : Digraph) (sets : List NumberSet) → IsBetween g sets sets
between_none g sets = record { kept = record { holds = λ i n h. h }; reached = λ i n h. (i, here i, h) }

pub between_on : {g : Digraph} {a b c : List NumberSet} → IsBetween g a b → IsBetween g b c → IsBetween g a c
between_on {g} {a} {b} {c} p q = record {
  kept = record { holds = λ i n h. q.kept.holds i n (p.kept.holds i n h) };
  reached = λ i n h. let j = q.reached i n h in let k = p.reached j.0 n j.2 in (k.0, reaches_on j.1 k.1, k.2);
}

pub continues_none : {g : Digraph} {m : Matrix} {w : Walk} → IsAt g m.sets w → Continues g m w m w
continues_none {g} {m} {w} at = record {
  at = at;
  between = between_none g m.sets;
  long = refl;
  width = refl;
  paid = omega arith;
  seen = λ x old. old;
}

pub continues_on : {g : Digraph} {m m' m'' : Matrix} {w w' w'' : Walk} → Continues g m w m' w'
    → Continues g m' w' m'' w'' → Continues g m w m'' w''
continues_on p q = record {
  at = q.at;
  between = between_on p.between q.between;
  long = q.long ∙ p.long;
  width = q.width ∙ p.width;
  paid = (let a = p.paid in let b = q.paid in omega arith);
  seen = λ x old. q.seen x (p.seen x old);
}
