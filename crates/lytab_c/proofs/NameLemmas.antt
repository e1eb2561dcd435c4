-- Names one behind another.
use Rattle.std.proofs.Common.{◌≡◌, ◌∙◌, ◌+◌, ◌++◌, ◌∷◌, [], ℕ, List, ap, append-nil, append_assoc, arith, length}
use Rattle.std.proofs.Common.{length-append, map, refl, sym}
use Rattle.ly_feed.specs.Vocabularies.{constructor_of}
use Rattle.ly_pack.specs.Values.{rule_from}
use Rattle.ly_pack.specs.declared.rule.TableRule.{TableRule}
use Rattle.lytab_c.specs.Naming.{ends_from, joined}

-- one more name stands behind the others
pub joined_more : (names : List (List ℕ)) (name : List ℕ) → joined (names ++ name ∷ []) ≡ joined names ++ name
joined_more [] name = append-nil name
joined_more (n ∷ names) name =
    ap (λ rest. n ++ rest) (joined_more names name) ∙ sym (append_assoc n (joined names) name)

-- it ends where all of them do
pub ends_more : (at : ℕ) (names : List (List ℕ)) (name : List ℕ)
    → ends_from at (names ++ name ∷ []) ≡ ends_from at names ++ (at + length (joined names ++ name)) ∷ []
ends_more at [] name = refl
ends_more at (n ∷ names) name =
    ap (λ rest. (at + length n) ∷ rest) (ends_more (at + length n) names name
    ∙ ap (λ k. ends_from (at + length n) names ++ k ∷ []) same)
  where
    same : at + length n + length (joined names ++ name) ≡ at + length (joined (n ∷ names) ++ name)
    same = omega (
      arith,
      length-append (joined names) name,
      length-append n (joined names),
      length-append (n ++ joined names) name,
    )

pub length_ends : (at : ℕ) (names : List (List ℕ)) → length (ends_from at names) ≡ length names
length_ends at [] = refl
length_ends at (n ∷ names) = omega (arith, length_ends (at + length n) names)

-- the constructors of rules, by their values
pub constructors : (rules : List TableRule)
    → map (λ r. constructor_of (rule_from r).shape) rules ≡ map (λ r. constructor_of r.shape) (map rule_from rules)
constructors [] = refl
constructors (r ∷ rules) = ap (λ rest. constructor_of (rule_from r).shape ∷ rest) (constructors rules)
