-- Edges between nonterminals, and what they lead to.
use Rattle.std.proofs.Common.{◌≡◌, ◌<◌, ◌+◌, ◌∙◌, ◌↔◌, ◌∷◌, ◌++◌, ℕ, zero, suc, List, [], Bool, true, false, sym, ap}
use Rattle.std.proofs.Common.{subst, inl, inr, refl, length, map, take, Contains, slice_index_or, slice_get, slice_set}
use Rattle.std.proofs.Common.{replicate, Option, Some, None, add-one}
use Rattle.std.proofs.Math.Seq.{take-suc}
use Rattle.std.specs.FinSet as set
use Rattle.std.specs.FinSet.{contains-empty}
use Rattle.std.specs.Ordering.{nat_cmp}
use Rattle.std.proofs.lemmas.List.{append_assoc, append-nil, map-append, length-replicate, get_or-set_same}
use Rattle.std.proofs.lemmas.List.{get_or-set_other}
use Rattle.std.proofs.lemmas.Option.{slice_get_within, get_or_from_slice_get}
use Rattle.std.proofs.lemmas.List.Elements.{Contains-append_cases, Contains-append_left, Contains-append_right}
use Rattle.ly_base.proofs.MemberLemmas.{Contains-none, Contains-first, Contains-later, Contains-cons_cases}
use Rattle.ly_digraph.specs.Digraph.{Digraph, Reaches, here, along}
use Rattle.ly_digraph.specs.Least.{IsLeast, IsBetween}
use Rattle.ly_join.specs.Grammar.{Grammar, GrammarRule, IsRule, Symbol, symbol_of, terminal, nonterminal}
use Rattle.ly_join.specs.declared.symbol.Symbol as code
use Rattle.ly_sets.specs.NumberSet.{NumberSet, Member}
use Rattle.ly_sets.specs.SetMatrix.{row}
use Rattle.ly_sets.proofs.NumberSetLemmas.{contains-insert_nat}
use Rattle.ly_grammar.specs.Reduction.{kept_rules}
use Rattle.ly_grammar.proofs.MarkedLemmas.{at_marked, at_dropped}
use Rattle.ly_grammar.proofs.SearchLemmas.{same_or_not}
use Rattle.ly_grammar.proofs.StartLemmas.{default_everywhere}
use Rattle.ly_grammar.specs.Private.Reach.{IsReachedBy, start, through, uses, of_rules, use_edges}

-- the uses of symbols one after another
pub uses_append : (left : ℕ) (v w : List Symbol) → uses left (v ++ w) ≡ uses left v ++ uses left w
uses_append left [] w = refl
uses_append left (terminal t ∷ v) w = uses_append left v w
uses_append left (nonterminal A ∷ v) w = ap (λ es. (A, left) ∷ es) (uses_append left v w)

-- those of one symbol more
pub uses_more : (left : ℕ) (xs : List code.Symbol) (n : ℕ) (d : code.Symbol) → n < length xs
    → uses left (map symbol_of (take (n + 1) xs))
    ≡ uses left (map symbol_of (take n xs)) ++ uses left (symbol_of (slice_index_or xs n d) ∷ [])
uses_more left xs n d lt =
    ap (λ k. uses left (map symbol_of (take k xs))) (add-one n)
    ∙ ap (λ ys. uses left (map symbol_of ys)) (take-suc xs n d lt)
    ∙ ap (uses left) (map-append symbol_of (take n xs) (slice_index_or xs n d ∷ []))
    ∙ uses_append left (map symbol_of (take n xs)) (symbol_of (slice_index_or xs n d) ∷ [])

-- a use is one of a nonterminal of the body
pub use_of : (left : ℕ) (w : List Symbol) (A B : ℕ) → Contains (uses left w) (A, B)
    → (B ≡ left) × Contains w (nonterminal A)
use_of left [] A B member = Contains-none (A, B) member
use_of left (terminal t ∷ w) A B member =
    let rest = use_of left w A B member in (rest.0, Contains-later (terminal t) w (nonterminal A) rest.1)
use_of left (nonterminal C ∷ w) A B member = elim (Contains-cons_cases (C, left) (uses left w) (A, B) member) [
  | inl same ↦ (
    sym (ap (λ e. e.1) same),
    subst (λ D. Contains (nonterminal C ∷ w) (nonterminal D)) (ap (λ e. e.0) same)
        (Contains-first (nonterminal C) w),
  )
  | inr later ↦
      let rest = use_of left w A B later in (rest.0, Contains-later (nonterminal C) w (nonterminal A) rest.1)
]

pub is_use : (left : ℕ) (w : List Symbol) (A : ℕ) → Contains w (nonterminal A) → Contains (uses left w) (A, left)
is_use left [] A member = Contains-none (nonterminal A) member
is_use left (terminal t ∷ w) A member = elim (Contains-cons_cases (terminal t) w (nonterminal A) member) [
  | inl same ↦ absurd (cc)
  | inr later ↦ is_use left w A later
]
is_use left (nonterminal C ∷ w) A member = elim (Contains-cons_cases (nonterminal C) w (nonterminal A) member) [
  | inl same ↦ let e : C ≡ A = cc in
      subst (λ D. Contains (uses left (nonterminal C ∷ w)) (D, left)) e (Contains-first (C, left) (uses left w))
  | inr later ↦ Contains-later (C, left) (uses left w) (A, left) (is_use left w A later)
]

-- what a function makes of rules one after another
pub of_rules_append : {X : Type 0} (f : GrammarRule → List X) (v w : List (Option GrammarRule))
    → of_rules f (v ++ w) ≡ of_rules f v ++ of_rules f w
of_rules_append f [] w = refl
of_rules_append f (None ∷ v) w = of_rules_append f v w
of_rules_append f (Some r ∷ v) w
    = ap (λ xs. f r ++ xs) (of_rules_append f v w) ∙ sym (append_assoc (f r) (of_rules f v) (of_rules f w))

-- what it makes of one rule more, and of a number without one
pub of_rules_more : {X : Type 0} (f : GrammarRule → List X) (rules : List (Option GrammarRule)) (n : ℕ)
    (o : Option GrammarRule)
    → slice_get rules n ≡ Some o → of_rules f (take (n + 1) rules) ≡ of_rules f (take n rules) ++ of_rules f (o ∷ [])
of_rules_more f rules n o there =
    ap (λ k. of_rules f (take k rules)) (add-one n)
    ∙ ap (of_rules f) (take-suc rules n o (slice_get_within rules n o there)
    ∙ ap (λ x. take n rules ++ x ∷ []) (get_or_from_slice_get rules n o o there))
    ∙ of_rules_append f (take n rules) (o ∷ [])

-- what comes of some rule
pub of_rule : {X : Type 0} (f : GrammarRule → List X) (rules : List (Option GrammarRule)) (x : X)
    → Contains (of_rules f rules) x
    → (p : ℕ) × (r : GrammarRule) × (slice_get rules p ≡ Some (Some r)) × Contains (f r) x
of_rule f [] x member = Contains-none x member
of_rule f (None ∷ rules) x member = let it = of_rule f rules x member in (suc it.0, it.1, it.2, it.3)
of_rule f (Some r ∷ rules) x member = elim (Contains-append_cases (f r) (of_rules f rules) x member) [
  | inl first ↦ (zero, r, refl, first)
  | inr later ↦ let it = of_rule f rules x later in (suc it.0, it.1, it.2, it.3)
]

pub by_rule : {X : Type 0} (f : GrammarRule → List X) (rules : List (Option GrammarRule)) (p : ℕ) (r : GrammarRule)
    (x : X)
    → slice_get rules p ≡ Some (Some r) → Contains (f r) x → Contains (of_rules f rules) x
by_rule f [] p r x there member = absurd (cc)
by_rule f (None ∷ rules) zero r x there member = absurd (cc)
by_rule f (Some q ∷ rules) zero r x there member = let e : r ≡ q = cc in
    Contains-append_left (f q) (of_rules f rules) x (subst (λ y. Contains (f y) x) e member)
by_rule f (None ∷ rules) (suc p) r x there member = by_rule f rules p r x there member
by_rule f (Some q ∷ rules) (suc p) r x there member
    = Contains-append_right (f q) (of_rules f rules) x (by_rule f rules p r x there member)

-- edges lead from what is used to where it is used
abbrev pub used_graph : Grammar → Digraph
used_graph G = record { nodes = G.accept + 1; edges = use_edges G.rules }

-- a way to the start symbol is a way from it by rules
pub way_reached : (G : Grammar) (i j : ℕ) → Reaches (used_graph G) i j → j ≡ G.start → IsReachedBy G i
way_reached G i j (here k) same = subst (λ A. IsReachedBy G A) (sym same) start
way_reached G i j (along a k b edge way) same =
    let it = of_rule (λ r. uses r.left r.body) G.rules (a, k) edge in
    let used = use_of it.1.left it.1.body a k it.3 in
    through it.0 it.1 a it.2 (subst (λ A. IsReachedBy G A) used.0 (way_reached G k b way same)) used.1

pub reached_way : (G : Grammar) (A : ℕ) → IsReachedBy G A → Reaches (used_graph G) A G.start
reached_way G A start = here G.start
reached_way G A (through p r B rule led member) =
    along A r.left G.start (by_rule (λ r. uses r.left r.body) G.rules p r (A, r.left) rule
    (is_use r.left r.body A member))
    (reached_way G r.left led)

-- what stands in a row stands in those of all that lead to it
pub way_grows : (g : Digraph) (given sets : List NumberSet) (i j n : ℕ) → IsLeast g given sets → Reaches g i j
    → Member (row sets j) n → Member (row sets i) n
way_grows g given sets i j n least (here k) member = member
way_grows g given sets i j n least (along a b c edge way) member
    = least.grows.grows a b n edge (way_grows g given sets b c n least way member)

-- what the rules of a grammar are made to is known of them up to a number, and one rule more is kept or not
pub kept_more : {X : Type 0} (f : GrammarRule → List X) (G : Grammar) (kept : List Bool) (n : ℕ) (r : GrammarRule)
    → IsRule G n r
    → slice_index_or kept n false ≡ true → of_rules f (take (n + 1) (kept_rules kept G.rules))
    ≡ of_rules f (take n (kept_rules kept G.rules)) ++ f r
kept_more f G kept n r rule on = of_rules_more f (kept_rules kept G.rules) n (Some r)
    (at_marked kept G.rules n r rule on)
    ∙ ap (λ xs. of_rules f (take n (kept_rules kept G.rules)) ++ xs) (append-nil (f r))

pub dropped_more : {X : Type 0} (f : GrammarRule → List X) (G : Grammar) (kept : List Bool) (n : ℕ) → n < length G.rules
    → length kept ≡ length G.rules → slice_index_or kept n false ≡ false
    → of_rules f (take (n + 1) (kept_rules kept G.rules)) ≡ of_rules f (take n (kept_rules kept G.rules))
dropped_more f G kept n lt long off = of_rules_more f (kept_rules kept G.rules) n None
    (at_dropped kept G.rules n lt long off)
    ∙ append-nil (of_rules f (take n (kept_rules kept G.rules)))

-- rows of which one has one member
abbrev pub one_member : ℕ → ℕ → List NumberSet
one_member rows i = slice_set (replicate rows set.empty) i (set.insert (row (replicate rows set.empty) i) 0)

-- one row has one member
pub only_there : (rows i j : ℕ) → i < rows → Member (row (one_member rows i) j) 0 → j ≡ i
only_there rows i j lt member = elim (same_or_not j i) [
  | inl same ↦ same
  | inr other ↦
      let e : row (one_member rows i) j ≡ set.empty
      = get_or-set_other (replicate rows set.empty) i j
      (set.insert (row (replicate rows set.empty) i) 0) set.empty other
      ∙ default_everywhere rows j set.empty in
      let no : false ≡ true = sym (contains-empty nat_cmp 0) ∙ ap (λ s. set.contains s 0) (sym e) ∙ member in
      absurd (cc)
]

pub is_there : (rows i : ℕ) → i < rows → Member (row (one_member rows i) i) 0
is_there rows i lt =
    ap (λ s. set.contains s 0) (get_or-set_same (replicate rows set.empty) i
    (set.insert (row (replicate rows set.empty) i) 0) set.empty
    (subst (λ n. i < n) (sym (length-replicate rows set.empty)) lt))
    ∙ contains-insert_nat (row (replicate rows set.empty) i) 0 0

-- the rows that come of one member in the start symbol's row have it exactly where the start symbol leads to them
pub led_rows : (G : Grammar) (new : List NumberSet) → G.start < G.accept + 1
    → IsLeast (used_graph G) (one_member (G.accept + 1) G.start) new
    → IsBetween (used_graph G) (one_member (G.accept + 1) G.start) new
    → (A : ℕ) → Member (row new A) 0 ↔ IsReachedBy G A
led_rows G new lt least between A = (to, back) where
  to : Member (row new A) 0 → IsReachedBy G A
  to member = let from = between.reached A 0 member in
      way_reached G A from.0 from.1 (only_there (G.accept + 1) G.start from.0 lt from.2)

  back : IsReachedBy G A → Member (row new A) 0
  back led = way_grows (used_graph G) (one_member (G.accept + 1) G.start) new A G.start 0 least (reached_way G A led)
      (least.holds.holds G.start 0 (is_there (G.accept + 1) G.start lt))
