-- Marks of rules, one after another.
use Rattle.std.proofs.Common.{◌≡◌, ◌<◌, ◌+◌, ◌∙◌, ◌↔◌, ℕ, List, [], ◌∷◌, ◌++◌, Bool, sym, ap, subst, arith, length}
use Rattle.std.proofs.Common.{inl, inr}
use Rattle.std.proofs.Common.{true, false, slice_index_or, ◌-◌}
use Rattle.std.proofs.lemmas.Bool.{cases_lt}
use Rattle.std.proofs.lemmas.List.{length-append, get_or_append_left}
use Rattle.std.proofs.Math.Seq.{get_or-append_right}
use Rattle.ly_join.specs.Grammar.{Grammar, GrammarRule, IsRule}

-- The marks of the first n numbers say of their rules what P says.
pub record AreMarks (G : Grammar) (P : ℕ → GrammarRule → Type 0) (marks : List Bool) (n : ℕ) : Type 0 where
  pub long : length marks ≡ n
  pub exact : (p : ℕ) (r : GrammarRule) → IsRule G p r → p < n → (slice_index_or marks p false ≡ true) ↔ P p r

-- one more mark
pub marked_more : (G : Grammar) (P : ℕ → GrammarRule → Type 0) (marks : List Bool) (n : ℕ) (b : Bool)
    → AreMarks G P marks n
    → ((r : GrammarRule) → IsRule G n r → (b ≡ true) ↔ P n r) → AreMarks G P (marks ++ b ∷ []) (n + 1)
marked_more G P marks n b are here = record {
  long = (let e = length-append marks (b ∷ []) in let l = are.long in omega (arith, e, l));
  exact = λ p r rule lt. elim (cases_lt p n) [
    | inl below ↦ subst (λ x. (x ≡ true) ↔ P p r)
        (sym (get_or_append_left marks (b ∷ []) false p (let l = are.long in omega (arith, below, l))))
        (are.exact p r rule below)
    | inr above ↦
        let same : n ≡ p = omega (arith, lt, above) in
        let last : slice_index_or (marks ++ b ∷ []) n false ≡ b
        = get_or-append_right marks (b ∷ []) n false (let l = are.long in omega (arith, l))
        ∙ ap (λ k. slice_index_or (b ∷ []) k false)
        (let e : n - length marks ≡ 0 = (let l = are.long in omega (arith, l)) in e) in
        subst (λ k. (slice_index_or (marks ++ b ∷ []) k false ≡ true) ↔ P k r) same
        (subst (λ x. (x ≡ true) ↔ P n r) (sym last) (here r (subst (λ k. IsRule G k r) (sym same) rule)))
  ];
}
