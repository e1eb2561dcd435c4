-- Demands that pass the test are one.
use Rattle.std.proofs.Common.{◌≡◌, ◌∙◌, Bool, true, List, [], ◌∷◌, ◌++◌, refl, sym, ap, inl, inr, subst}
use Rattle.std.specs.Prelude.{◌≢◌, AllPairs, nat_eq, ◌&&◌, Contains, if◌then◌else◌}
use Rattle.std.specs.List.{list_any}
use Rattle.std.proofs.lemmas.List.Folds.{list_any_at}
use Rattle.ly_base.proofs.MemberLemmas.{Contains-first, Contains-later, Contains-one}
use Rattle.ly_base.proofs.ListLemmas.{AllPairs-append, AllPairs-one}
use Rattle.std.proofs.lemmas.Bool.{and_parts, cases_Bool, eq-eqb, eqb-true}
use Rattle.ly_lr0.proofs.ItemLemmas.{item_same, item_self}
use Rattle.ly_counterexamples.specs.declared.claim.Claim.{Claim}
use Rattle.ly_counterexamples.specs.declared.claim.Claim.TheVariants.{InCore, Settled, With}
use Rattle.ly_counterexamples.specs.declared.claim.Demand.{Demand}
use Rattle.ly_base.specs.declared.numbers.StateNo.{StateNo}
use Rattle.ly_counterexamples.specs.contracts.claim.ClaimPartialEq.TheImpl as claim
use Rattle.ly_counterexamples.specs.contracts.claim.DemandPartialEq.TheImpl as demand

abbrev pub same_claim : Claim → Claim → Bool
same_claim a b = (claim.eq-value).it a b

pub claim_same : (a b : Claim) → same_claim a b ≡ true → a ≡ b
claim_same Settled Settled e = refl
claim_same (InCore i) (InCore j) e = ap (λ k. InCore k) (item_same i j e)
claim_same (With i) (With j) e = ap (λ k. With k) (item_same i j e)
claim_same Settled (InCore j) e = absurd (cc)
claim_same Settled (With j) e = absurd (cc)
claim_same (InCore i) Settled e = absurd (cc)
claim_same (InCore i) (With j) e = absurd (cc)
claim_same (With i) Settled e = absurd (cc)
claim_same (With i) (InCore j) e = absurd (cc)

pub claim_self : (a : Claim) → same_claim a a ≡ true
claim_self Settled = refl
claim_self (InCore i) = item_self i
claim_self (With i) = item_self i

abbrev pub same_demand : Demand → Demand → Bool
same_demand d e = (demand.eq-value).it d e

pub demand_same : (d e : Demand) → same_demand d e ≡ true → d ≡ e
demand_same d e h =
    let p = and_parts (nat_eq d.state.0 e.state.0) (same_claim d.first e.first && same_claim d.second e.second) h in
    let q = and_parts (same_claim d.first e.first) (same_claim d.second e.second) p.1 in
    let at : StateNo → Claim → Claim → Demand = λ s a b. record { state = s; first = a; second = b } in
    ap (λ n. at (record { 0 = n }) d.first d.second) (eqb-true d.state.0 e.state.0 p.0)
    ∙ ap (λ a. at e.state a d.second) (claim_same d.first e.first q.0)
    ∙ ap (λ b. at e.state e.first b) (claim_same d.second e.second q.1)

pub demand_self : (d : Demand) → same_demand d d ≡ true
demand_self d = rw (eq-eqb d.state.0 d.state.0 refl, claim_self d.first, claim_self d.second) refl

-- a demand is among others where one of them passes the test
pub contains_any : (ds : List Demand) (d : Demand) → list_any (same_demand d) ds ≡ true → Contains ds d
contains_any [] d h = absurd (cc)
contains_any (e ∷ ds) d h = elim (cases_Bool (same_demand d e)) [
  | inl here ↦ subst (λ x. Contains (x ∷ ds) d) (demand_same d e here) (Contains-first d ds)
  | inr other ↦ Contains-later e ds d (contains_any ds d (rw other at h))
]

pub any_contains : (ds : List Demand) (d : Demand) → Contains ds d → list_any (same_demand d) ds ≡ true
any_contains ds d is = list_any_at (same_demand d) ds is.0 d is.1
    (subst (λ e. same_demand d e ≡ true) (sym is.2) (demand_self d))

-- so one that isn't among them goes to the end
pub pushed : (ds : List Demand) (d : Demand) → (Contains ds d → ⊥)
    → (if list_any (same_demand d) ds then ds else ds ++ d ∷ []) ≡ ds ++ d ∷ []
pushed ds d absent = elim (cases_Bool (list_any (same_demand d) ds)) [
  | inl is ↦ absurd (absent (contains_any ds d is))
  | inr not ↦ rw not refl
]

-- a new one is apart from all others
pub pushed_apart : (ds ds' : List Demand) (d : Demand) → (Contains ds d → ⊥) → ds' ≡ ds ++ d ∷ []
    → AllPairs (λ x y. x ≢ y) ds → AllPairs (λ x y. x ≢ y) ds'
pushed_apart ds ds' d absent is apart = subst (AllPairs (λ x y. x ≢ y)) (sym is)
    (AllPairs-append (λ x y. x ≢ y) ds (d ∷ []) apart (AllPairs-one (λ x y. x ≢ y) d)
    (λ x y among last same. absent (subst (Contains ds) (same ∙ sym (Contains-one d y last)) among)))
