-- The least rule whose pattern ends in a set.
use Rattle.std.proofs.Common.{◌≡◌, ◌⊎◌, ◌<◌, ◌≤◌, ◌+◌, ◌∙◌, ℕ, List, [], ◌∷◌, ◌++◌, Option, Some, None, min, refl}
use Rattle.std.proofs.Common.{sym, ap}
use Rattle.std.proofs.Common.{subst, arith, inl, inr, get_or, length, take, Contains, slice_get, All}
use Rattle.std.specs.Prelude.{slice_index_or, option_map}
use Rattle.std.proofs.lemmas.Bool.{cases_lt}
use Rattle.std.proofs.lemmas.List.{get_or_append_left, get_or_push, length_push, length-map, map_push, take_more}
use Rattle.std.proofs.lemmas.Option.{slice_get_within}
use Rattle.std.proofs.lemmas.List.Elements.{All-from_get_or, All-push, Contains-append_left, Contains-get_or}
use Rattle.std.proofs.lemmas.List.Elements.{Contains-push}
use Rattle.std.proofs.lemmas.List.Elements.{Contains-push_cases}
use Rattle.ly_base.proofs.MemberLemmas.{Contains-none}
use Rattle.ly_base.specs.declared.numbers.RuleNo.{RuleNo}
use Rattle.ly_position.specs.Nfa.{Nfa, ending, IsEnd, follow_of, position_of}
use Rattle.ly_position.specs.Position.{position_from}
use Rattle.ly_position.specs.declared.nfa.Position.{Position}
use Rattle.ly_position.specs.declared.nfa.Position.TheVariants as position
use Rattle.ly_subset.specs.Subsets.{AreSets, HasEnd, IsLeastRule, set_at}
use Rattle.ly_subset.specs.Private.Found.{numbers_of}
use Rattle.ly_subset.specs.Private.Packed.{run_of}
use Rattle.ly_subset.specs.Private.Rules.{lesser_rule, AreEnds, HasEndIn, LiesIn}
use Rattle.ly_subset.specs.declared.chains.Span.{Span}
use Rattle.ly_subset.proofs.ChainLemmas.{contains_run}

-- one rule more for which the fact holds
least_with : (P Q : ℕ → Type 0) (o : Option ℕ) (i : ℕ) → IsLeastRule P o → Q i → ((j : ℕ) → P j → Q j)
    → ((j : ℕ) → Q j → P j ⊎ (j ≡ i)) → IsLeastRule Q (Some (lesser_rule o i))
least_with P Q None i none here keeps cases = (
  here,
  λ j h. elim (cases j h) [
    | inl before ↦ absurd (none j before)
    | inr same ↦ omega (arith, same)
  ],
)
least_with P Q (Some k) i least here keeps cases = elim (cases_lt k i) [
  | inl less ↦ let same : k ≡ min k i = omega arith in
      subst (λ m. Q m × ((j : ℕ) → Q j → m ≤ j)) same (
        keeps k least.0,
        λ j h. elim (cases j h) [
          | inl before ↦ least.1 j before
          | inr is ↦ omega (arith, is, less)
        ],
      )
  | inr past ↦ let same : i ≡ min k i = omega arith in
      subst (λ m. Q m × ((j : ℕ) → Q j → m ≤ j)) same (
        here,
        λ j h. elim (cases j h) [
          | inl before ↦ omega (arith, least.1 j before, past)
          | inr is ↦ omega (arith, is)
        ],
      )
]

-- the rules for which a fact holds are the same, said otherwise
pub least_same : (P Q : ℕ → Type 0) (o : Option ℕ) → ((j : ℕ) → P j → Q j) → ((j : ℕ) → Q j → P j) → IsLeastRule P o
    → IsLeastRule Q o
least_same P Q None to back none = λ j h. none j (back j h)
least_same P Q (Some i) to back least = (to i least.0, λ j h. least.1 j (back j h))

module _ (nfa : Nfa) (span : Option Span) where
  pub least_none : IsLeastRule (HasEndIn nfa span []) None
  least_none i h = Contains-none h.0 h.1

  module _ (ps : List ℕ) (k p : ℕ) (less : k < length ps) (read : p ≡ get_or ps k 0) where
    one_more : take (k + 1) ps ≡ take k ps ++ p ∷ []
    one_more = take_more ps k 0 less ∙ ap (λ q. take k ps ++ q ∷ []) (sym read)

    keeps : (j : ℕ) → HasEndIn nfa span (take k ps) j → HasEndIn nfa span (take (k + 1) ps) j
    keeps j h = (
      h.0,
      subst (λ qs. Contains qs h.0) (sym one_more) (Contains-append_left (take k ps)
          (p ∷ []) h.0 h.1),
      h.2,
      h.3,
    )

    cases : (j : ℕ) → HasEndIn nfa span (take (k + 1) ps) j
        → HasEndIn nfa span (take k ps) j ⊎ (LiesIn span p × IsEnd nfa p j)
    cases j h = elim (Contains-push_cases (take k ps) p h.0 (subst (λ qs. Contains qs h.0) one_more h.1)) [
      | inl before ↦ inl (h.0, before, h.2, h.3)
      | inr same ↦ inr (subst (λ q. LiesIn span q × IsEnd nfa q j) (sym same) (h.2, h.3))
    ]

    -- a rule ends at the next position, which lies in the span
    pub least_end_more : (o : Option ℕ) (rule : RuleNo) → LiesIn span p
        → IsLeastRule (HasEndIn nfa span (take k ps)) o
        → slice_get nfa.positions p ≡ Some (position_from (position.Ends rule) (follow_of (position_of nfa p)))
        → IsLeastRule (HasEndIn nfa span (take (k + 1) ps)) (Some (lesser_rule o rule.0))
    least_end_more o rule inside least at = least_with (HasEndIn nfa span (take k ps))
        (HasEndIn nfa span (take (k + 1) ps)) o rule.0 least
        (p, subst (λ qs. Contains qs p) (sym one_more) (Contains-push (take k ps) p), inside, at) keeps
        (λ j h. elim (cases j h) [
          | inl before ↦ inl before
          | inr ends ↦ inr (let same : Some (ending rule.0) ≡ Some (ending j) = sym at ∙ ends.1 in cc)
        ])

    -- the next position lies elsewhere, or no rule ends there
    pub least_end_same : (o : Option ℕ) → ((j : ℕ) → LiesIn span p → IsEnd nfa p j → ⊥)
        → IsLeastRule (HasEndIn nfa span (take k ps)) o → IsLeastRule (HasEndIn nfa span (take (k + 1) ps)) o
    least_end_same o none least = least_same (HasEndIn nfa span (take k ps)) (HasEndIn nfa span (take (k + 1) ps)) o
        keeps (λ j h. elim (cases j h) [
          | inl before ↦ before
          | inr ends ↦ absurd (none j ends.0 ends.1)
        ]) least

-- no rule ends at a position that reads
pub reads_no_end : (nfa : Nfa) (p : ℕ) (place : Position) → ((rule : RuleNo) → place ≡ position.Ends rule → ⊥)
    → slice_get nfa.positions p ≡ Some (position_from place (follow_of (position_of nfa p))) → (j : ℕ) → IsEnd nfa p j
    → ⊥
reads_no_end nfa p place none at j is = off place none (sym at ∙ is)
  where
    off : (place : Position) → ((rule : RuleNo) → place ≡ position.Ends rule → ⊥)
        → Some (position_from place (follow_of (position_of nfa p))) ≡ Some (ending j) → ⊥
    off (position.Reads bytes) none e = cc
    off (position.Ends rule) none e = none rule refl

-- the ends below a position are known, and whether it is one
pub ends_more : (nfa : Nfa) (n : ℕ) (ends : List ℕ) → AreEnds nfa n ends → n < length nfa.positions
    → AreEnds nfa (n + 1) (ends ++ n ∷ [])
ends_more nfa n ends so less = record {
  within = All-push (λ p. p < length nfa.positions) ends n so.within less;
  all = λ p i l is. elim (cases_lt p n) [
    | inl before ↦ Contains-append_left ends (n ∷ []) p (so.all p i before is)
    | inr past ↦ let same : n ≡ p = omega (arith, l, past) in
        subst (λ q. Contains (ends ++ n ∷ []) q) same (Contains-push ends n)
  ];
}

pub ends_same : (nfa : Nfa) (n : ℕ) (ends : List ℕ) → AreEnds nfa n ends → ((i : ℕ) → IsEnd nfa n i → ⊥)
    → AreEnds nfa (n + 1) ends
ends_same nfa n ends so none = record {
  within = so.within;
  all = λ p i l is. elim (cases_lt p n) [
    | inl before ↦ so.all p i before is
    | inr past ↦ let same : p ≡ n = omega (arith, l, past) in
        absurd (none i (subst (λ q. IsEnd nfa q i) same is))
  ];
}

-- all ends are known where those of all positions are
pub ends_all : (nfa : Nfa) (n bound : ℕ) (ends : List ℕ) → AreEnds nfa n ends
    → ((p : ℕ) → p < length nfa.positions → p < bound → p < n) → AreEnds nfa bound ends
ends_all nfa n bound ends so reach = record {
  within = so.within;
  all = λ p i l is. so.all p i (reach p (slice_get_within nfa.positions p (ending i) is) l) is;
}

-- of a span only the ends need to be looked at
pub least_of_ends : (nfa : Nfa) (bound : ℕ) (ends : List ℕ) (span : Span) (o : Option ℕ) → AreEnds nfa bound ends
    → span.last < bound → IsLeastRule (HasEndIn nfa (Some span) ends) o
    → IsLeastRule (HasEnd nfa (run_of span.first span.last)) o
least_of_ends nfa bound ends span o are less = least_same (HasEndIn nfa (Some span) ends)
    (HasEnd nfa (run_of span.first span.last)) o (λ j h. (h.0, h.2, h.3))
    (λ j h. (
      h.0,
      are.all h.0 j (let top = ((contains_run span.first span.last h.0).0 h.1).1 in omega (arith, top, less)) h.2,
      h.1,
      h.2,
    ))

pub least_of_all : (nfa : Nfa) (ps : List ℕ) (o : Option ℕ) → IsLeastRule (HasEndIn nfa None ps) o
    → IsLeastRule (HasEnd nfa ps) o
least_of_all nfa ps o = least_same (HasEndIn nfa None ps) (HasEnd nfa ps) o (λ j h. (h.0, h.1, h.3))
    (λ j h. (h.0, h.1, tt, h.2))

-- the members of a set are positions
pub set_within : (below : ℕ) (sets : List (List ℕ)) (s : ℕ) → AreSets below sets → All (λ p. p < below) (set_at sets s)
set_within below sets s are_sets = All-from_get_or (λ p. p < below) (set_at sets s) 0
    (λ i l. are_sets.within s (get_or (set_at sets s) i 0) (Contains-get_or (set_at sets s) i 0 l))

-- The first sets have their rules.
pub record HaveRulesTo (nfa : Nfa) (sets : List (List ℕ)) (n : ℕ) (rules : List (Option RuleNo)) : Type 0 where
  pub count : length rules ≡ n
  pub least : (s : ℕ) → s < n → IsLeastRule (HasEnd nfa (set_at sets s)) (slice_index_or (numbers_of rules) s None)

pub have_rules_more : (nfa : Nfa) (sets : List (List ℕ)) (n : ℕ) (rules : List (Option RuleNo)) (rule : Option RuleNo)
    → HaveRulesTo nfa sets n rules → IsLeastRule (HasEnd nfa (set_at sets n)) (option_map (λ r. r.0) rule)
    → HaveRulesTo nfa sets (n + 1) (rules ++ rule ∷ [])
have_rules_more nfa sets n rules rule so here = record {
  count = let count = so.count in omega (arith, length_push rules rule);
  least = λ s l. subst (λ rs. IsLeastRule (HasEnd nfa (set_at sets s)) (slice_index_or rs s None)) (sym pushed)
      (elim (cases_lt s n) [
        | inl less ↦ subst (λ o. IsLeastRule (HasEnd nfa (set_at sets s)) o)
            (sym (get_or_append_left (numbers_of rules) _ None s (omega (arith, less, long)))) (so.least s less)
        | inr past ↦ let last : n ≡ s = omega (arith, l, past) in
            subst (λ t. IsLeastRule (HasEnd nfa (set_at sets t))
            (slice_index_or (numbers_of rules ++ option_map (λ r. r.0) rule ∷ []) t None)) last
            (subst (λ o. IsLeastRule (HasEnd nfa (set_at sets n)) o)
            (sym (get_or_push (numbers_of rules) (option_map (λ r. r.0) rule) None n long)) here)
      ]);
}
  where
    pushed : numbers_of (rules ++ rule ∷ []) ≡ numbers_of rules ++ option_map (λ r. r.0) rule ∷ []
    pushed = map_push (option_map (λ r. r.0)) rules rule

    long : length (numbers_of rules) ≡ n
    long = length-map rules (option_map (λ r. r.0)) ∙ so.count
