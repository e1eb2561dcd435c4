-- Rules that keep all of their bodies change nothing of what tables do with a token.
use Rattle.std.proofs.Common.{◌≡◌, ◌∙◌, ◌+◌, ◌≤◌, ◌-◌, ℕ, zero, suc, List, [], ◌∷◌, ◌++◌, Option, Some, None, ap}
use Rattle.std.proofs.Common.{arith, drop, get_or, map, refl, sym}
use Rattle.std.specs.Prelude.{All, AllPairs, codes, option_map}
use Rattle.std.proofs.lemmas.Option.{slice_get-map}
use Rattle.std.proofs.lemmas.List.{length-map}
use Rattle.std.proofs.lemmas.List.Elements.{All-cons, All-map, All-nil}
use Rattle.std.proofs.lemmas.List.Kept.{AllPairs-cons}
use Rattle.ly_base.proofs.ListLemmas.{AllPairs-nil}
use Rattle.ly_base.specs.Lexed.{Token}
use Rattle.ly_base.specs.Shape.{Shape, nil, node, place}
use Rattle.ly_pack.specs.Machine.{IsLegal, IsMachine, IsRuleNumber, IsRuleWithin, IsShapeFor, Machine, TableAction}
use Rattle.ly_pack.specs.Machine.{TableRule, accept, action_of, error, reduce, shift}
use Rattle.ly_pack.specs.Steady.{EndsWithin, IsSteady, IsTableEdge, ReducesTo, action_on, by_goto, by_shift, here, move}
use Rattle.ly_pack.specs.Steady.{rule_at, run_bound}
use Rattle.ly_pack.specs.Steady as steady
use Rattle.ly_parse.specs.Expected.{AreExpected, IsExpected}
use Rattle.ly_parse.specs.Expected as expected
use Rattle.ly_parse.specs.Deriving.{FeedsTree, TreeFed, TreeLevel, onward, perform_trees, reduce_trees, settled}
use Rattle.ly_parse.specs.Deriving.{top_state, turn_trees}
use Rattle.ly_places.specs.Shapes.{keeping, keeping_machine, keeping_rule, places_behind}

-- the places of a body that is longer by one
next_place : (before n : ℕ) → places_behind before (suc n) ≡ places_behind before n ++ (before + n + 1) ∷ []
next_place before zero = ap (λ i. i ∷ []) (let same : suc before ≡ before + 0 + 1 = omega arith in same)
next_place before (suc n) = ap (λ is. suc before ∷ is) (next_place (suc before) n
    ∙ ap (λ i. places_behind (suc before) n ++ i ∷ [])
    (let same : suc before + n + 1 ≡ before + suc n + 1 = omega arith in same))

pub one_more_place : (n : ℕ) → places_behind 0 (n + 1) ≡ places_behind 0 n ++ (n + 1) ∷ []
one_more_place n =
    let longer : n + 1 ≡ suc n = omega arith in
    let last : 0 + n + 1 ≡ n + 1 = omega arith in
    ap (places_behind 0) longer ∙ (next_place 0 n ∙ ap (λ i. places_behind 0 n ++ i ∷ []) last)

-- the places of a body are there
all_there : (before n limit : ℕ) → before + n ≤ limit → All (λ i. (1 ≤ i) × (i ≤ limit)) (places_behind before n)
all_there before zero limit fits = All-nil (λ i. (1 ≤ i) × (i ≤ limit))
all_there before (suc n) limit fits = All-cons (λ i. (1 ≤ i) × (i ≤ limit)) (suc before) (places_behind (suc before) n)
    (omega arith, omega (arith, fits)) (all_there (suc before) n limit (omega (arith, fits)))

none_again : (i before n : ℕ) → i ≤ before → All (λ j. i ≡ j → ⊥) (places_behind before n)
none_again i before zero low = All-nil (λ j. i ≡ j → ⊥)
none_again i before (suc n) low = All-cons (λ j. i ≡ j → ⊥) (suc before) (places_behind (suc before) n)
    (λ same. omega (arith, low, same)) (none_again i (suc before) n (omega (arith, low)))

-- and each is another one
all_apart : (before n : ℕ) → AllPairs (λ i j. i ≡ j → ⊥) (places_behind before n)
all_apart before zero = AllPairs-nil (λ i j. i ≡ j → ⊥)
all_apart before (suc n) = AllPairs-cons (λ i j. i ≡ j → ⊥) (suc before) (places_behind (suc before) n)
    (none_again (suc before) (suc before) n (omega arith)) (all_apart (suc before) n)

whole_body : (n : ℕ) → IsShapeFor n (node (codes "kept") (places_behind 0 n))
whole_body n = (omega arith, all_there 0 n n (omega arith), all_apart 0 n)

shape_stays : (n : ℕ) (s : Shape) → IsShapeFor n s → IsShapeFor n (keeping n s)
shape_stays n nil h = h
shape_stays zero (place i) h = whole_body zero
shape_stays (suc zero) (place i) h = h
shape_stays (suc (suc n)) (place i) h = whole_body (suc (suc n))
shape_stays zero (node name is) h = whole_body zero
shape_stays (suc zero) (node name is) h = whole_body (suc zero)
shape_stays (suc (suc n)) (node name is) h = whole_body (suc (suc n))

rule_stays : (nonterminals : ℕ) (r : TableRule) → IsRuleWithin nonterminals r
    → IsRuleWithin nonterminals (keeping_rule r)
rule_stays nonterminals r h = record { left = h.left; shape = shape_stays r.body_length r.shape h.shape }

rules_stay : (nonterminals : ℕ) (rules : List TableRule) → All (IsRuleWithin nonterminals) rules
    → All (IsRuleWithin nonterminals) (map keeping_rule rules)
rules_stay nonterminals rules h = All-map (IsRuleWithin nonterminals) keeping_rule rules
    (λ k d within. rule_stays nonterminals (get_or rules k d) (h k d within))

module _ (m : Machine) where
  number_stays : (p : ℕ) → IsRuleNumber m p → IsRuleNumber (keeping_machine m) p
  number_stays p is = (is.0, (let high = is.1 in omega (arith, high, length-map m.rules keeping_rule)))

  legal_stays : (t : ℕ) (a : TableAction) → IsLegal m t a → IsLegal (keeping_machine m) t a
  legal_stays t (shift state) is = is
  legal_stays t (reduce p) is = number_stays p is
  legal_stays t accept is = is
  legal_stays t error is = is

  -- all that the tables name is there still
  pub machine_stays : IsMachine m → IsMachine (keeping_machine m)
  machine_stays h = record {
    bottom = h.bottom;
    actions = λ state t a e. legal_stays t a (h.actions state t a e);
    defaults = λ state p e. number_stays p (h.defaults state p e);
    gotos = h.gotos;
    rules = rules_stay m.nonterminals m.rules h.rules;
  }

  kept_rule : (p : ℕ) → rule_at (keeping_machine m) p ≡ option_map keeping_rule (rule_at m p)
  kept_rule p = slice_get-map keeping_rule m.rules (p - 1)

  same_rest : (left : ℕ) (stack : List ℕ) → steady.go_to (keeping_machine m) left stack ≡ steady.go_to m left stack
  same_rest left [] = refl
  same_rest left (top ∷ below) = refl

  same_reduction : (stack : List ℕ) (o : Option TableRule)
      → steady.reduce_by (keeping_machine m) stack (option_map keeping_rule o) ≡ steady.reduce_by m stack o
  same_reduction stack None = refl
  same_reduction stack (Some r) = same_rest r.left (drop r.body_length stack)

  same_act : (stack : List ℕ) (a : TableAction) → steady.perform (keeping_machine m) stack a ≡ steady.perform m stack a
  same_act stack (shift state) = refl
  same_act stack (reduce p) = ap (steady.reduce_by (keeping_machine m) stack) (kept_rule p)
      ∙ same_reduction stack (rule_at m p)
  same_act stack accept = refl
  same_act stack error = refl

  -- moves look at left sides and lengths alone
  same_move : (t : ℕ) (stack : List ℕ) → move (keeping_machine m) t stack ≡ move m t stack
  same_move t [] = refl
  same_move t (top ∷ below) = same_act (top ∷ below) (action_of m top t)

  reduces_still : {t n : ℕ} {stack last : List ℕ} → ReducesTo m t stack n last
      → ReducesTo (keeping_machine m) t stack n last
  reduces_still here = here
  reduces_still {t} {stack = stack} (steady.onward e f) = steady.onward (same_move t stack ∙ e) (reduces_still f)

  edge_back : {below top : ℕ} → IsTableEdge (keeping_machine m) below top → IsTableEdge m below top
  edge_back (by_shift t e) = by_shift t e
  edge_back (by_goto left e) = by_goto left e

  ends_still : {t : ℕ} {stack : List ℕ} {bound : ℕ} → EndsWithin m t stack bound
      → EndsWithin (keeping_machine m) t stack bound
  ends_still {t} h = record {
    count = h.count;
    last = h.last;
    ending = h.ending;
    leads = reduces_still h.leads;
    stops = same_move t h.last ∙ h.stops;
    within = h.within;
  }

  -- so they are steady as before
  pub steady_still : IsSteady m → IsSteady (keeping_machine m)
  steady_still h below top t within edge = ends_still (h below top t within (edge_back edge))

  expected_back : {t : ℕ} {stack : List ℕ} → IsExpected (keeping_machine m) t stack → IsExpected m t stack
  expected_back {t} (expected.read {stack = stack} e) = expected.read (sym (same_move t stack) ∙ e)
  expected_back {t} (expected.accepted {top = top} {below = below} {rest = rest} e) =
      expected.accepted (sym (same_move t (top ∷ below ∷ rest)) ∙ e)
  expected_back {t} (expected.onward {stack = stack} e f) =
      expected.onward (sym (same_move t stack) ∙ e) (expected_back f)

  expected_still : {t : ℕ} {stack : List ℕ} → IsExpected m t stack → IsExpected (keeping_machine m) t stack
  expected_still {t} (expected.read {stack = stack} e) = expected.read (same_move t stack ∙ e)
  expected_still {t} (expected.accepted {top = top} {below = below} {rest = rest} e) =
      expected.accepted (same_move t (top ∷ below ∷ rest) ∙ e)
  expected_still {t} (expected.onward {stack = stack} e f) =
      expected.onward (same_move t stack ∙ e) (expected_still f)

  -- and the same terminals are expected
  pub same_expected : (stack ts : List ℕ) → AreExpected (keeping_machine m) stack ts → AreExpected m stack ts
  same_expected stack ts h = record {
    ordered = h.ordered;
    are = λ t. (
      λ is. (let both = (h.are t).0 is in (both.0, expected_back both.1)),
      λ both. (h.are t).1 (both.0, expected_still both.1),
    );
  }

  module _ (token : Token ℕ) where
    trees_reduced : (p : ℕ) (stack : List TreeLevel) (o : Option TableRule)
        → reduce_trees (keeping_machine m) p stack (option_map keeping_rule o) ≡ reduce_trees m p stack o
    trees_reduced p stack None = refl
    trees_reduced p stack (Some r) = refl

    trees_performed : (stack : List TreeLevel) (a : TableAction)
        → perform_trees (keeping_machine m) token stack a ≡ perform_trees m token stack a
    trees_performed stack (shift state) = refl
    trees_performed stack (reduce p) = ap (reduce_trees (keeping_machine m) p stack) (kept_rule p)
        ∙ trees_reduced p stack (rule_at m p)
    trees_performed stack accept = refl
    trees_performed stack error = refl

    trees_turned : (stack : List TreeLevel)
        → turn_trees (keeping_machine m) token stack ≡ turn_trees m token stack
    trees_turned stack = trees_performed stack (action_of m (top_state stack) token.terminal)

    -- trees stand on the stack alike
    pub fed_alike : {stack : List TreeLevel} {out : TreeFed} → FeedsTree (keeping_machine m) token stack out
        → FeedsTree m token stack out
    fed_alike {stack} (settled e) = settled (sym (trees_turned stack) ∙ e)
    fed_alike {stack} (onward e f) = onward (sym (trees_turned stack) ∙ e) (fed_alike f)
