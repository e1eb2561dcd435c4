-- A search that is over has found every nonterminal with a tree.
use Rattle.std.proofs.Common.{◌≡◌, ◌<◌, ◌+◌, ◌∙◌, ℕ, List, [], ◌∷◌, Bool, true, false, sym, ap, subst, arith}
use Rattle.std.proofs.Common.{inl, inr, refl, length, Contains, slice_index_or, slice_set, Some}
use Rattle.std.proofs.lemmas.List.{get_or-set_same, get_or-set_other, get_or_past, length-set, length-append}
use Rattle.std.proofs.lemmas.List.Elements.{Contains-append_cases, Contains-append_left}
use Rattle.std.proofs.lemmas.Bool.{cases_lt}
use Rattle.ly_base.proofs.MemberLemmas.{Contains-none, Contains-one, Contains-cons_cases}
use Rattle.ly_base.specs.Trees.{Tree, Trees, leaf, node, none, more, yield_of, yields_of}
use Rattle.ly_join.specs.Grammar.{Grammar, GrammarRule, IsRule, Symbol, terminal, nonterminal}
use Rattle.ly_grammar.specs.Derivations.{IsTree, AreTrees}
use Rattle.ly_grammar.specs.Private.Search.{Progress, HasTree, HaveTrees, IsSearch, Advances, SymbolsPass, Settled}
use Rattle.ly_grammar.specs.Private.Search.{IsTakenNext}
use Rattle.ly_grammar.specs.Private.Search.{found, stopped, waiting, to_come}
use Rattle.ly_grammar.specs.Private.Search.{passes, was_found, waits_for, left_to_do}
use Rattle.ly_grammar.proofs.SearchLemmas.{member_tree, nothing_together, rule_is_one, same_or_not}

-- what the rules that are settled come to where nothing is left to be done: a rule whose body passes has a found left
pub closed : (s : Progress) (p : ℕ) (r : GrammarRule) → s.queue ≡ [] → Settled s [] p r
    → SymbolsPass s.found s.terminals r.body → was_found s r.left ≡ true
closed s p r empty is all = elim is [
  | found e ↦ e
  | stopped t m e ↦ let k : s.terminals ≡ true = all (terminal t) m in absurd (cc)
  | waiting A m w state ↦ let k : was_found s A ≡ true = all (nonterminal A) m in elim state [
    | inl not ↦ absurd (cc)
    | inr queued ↦ Contains-none A (subst (λ xs. Contains xs A) empty queued)
  ]
  | to_come m ↦ Contains-none p m
]

module _ (G : Grammar) (s : Progress)
    (close : (p : ℕ) (r : GrammarRule) → IsRule G p r → SymbolsPass s.found s.terminals r.body → was_found s r.left
    ≡ true) where
  mutual
    -- what has a tree passes
    pub tree_passes : (X : Symbol) (d : Tree) → IsTree G X d → (s.terminals ≡ false → yield_of d ≡ [])
        → passes s.found s.terminals X ≡ true
    tree_passes (terminal k) (leaf t) is empty = allowed s.terminals empty where
      allowed : (b : Bool) → (b ≡ false → yield_of (leaf t) ≡ []) → b ≡ true
      allowed true e = refl
      allowed false e = let none = e refl in absurd (cc)
    tree_passes (nonterminal A) (leaf t) is empty = absurd is
    tree_passes (terminal k) (node p ts) is empty = absurd is
    tree_passes (nonterminal A) (node p ts) (r, rule, left, trees) empty
        = subst (λ B. was_found s B ≡ true) left (close p r rule (trees_pass r.body ts trees empty))

    -- and so do all symbols of a string that has trees
    pub trees_pass : (w : List Symbol) (ts : Trees) → AreTrees G w ts → (s.terminals ≡ false → yields_of ts ≡ [])
        → SymbolsPass s.found s.terminals w
    trees_pass [] none is empty X member = Contains-none X member
    trees_pass (Y ∷ w) none is empty X member = absurd is
    trees_pass [] (more t ts) is empty X member = absurd is
    trees_pass (Y ∷ w) (more t ts) is empty X member = elim (Contains-cons_cases Y w X member) [
      | inl same ↦ subst (λ Z. passes s.found s.terminals Z ≡ true) same
          (tree_passes Y t is.0 (λ e. (nothing_together (yield_of t) (yields_of ts) (empty e)).0))
      | inr later ↦ trees_pass w ts is.1 (λ e. (nothing_together (yield_of t) (yields_of ts) (empty e)).1) X later
    ]

-- Those that wait for the nonterminal that is taken are to be looked at.
pub record IsTaken (G : Grammar) (s next : Progress) (rules : List ℕ) : Type 0 where
  pub search : IsSearch G next
  pub terminals : next.terminals ≡ s.terminals
  pub settled : (p : ℕ) (r : GrammarRule) → Settled s [] p r → Settled next rules p r
  pub known : (p : ℕ) → Contains rules p → (r : GrammarRule) × IsRule G p r
  pub work : left_to_do next + 1 ≡ left_to_do s

-- its rules no longer wait, and the others' do
still_waiting : (s : Progress) (A B p : ℕ) → Contains (slice_index_or (slice_set s.waiting A []) B []) p
    → Contains (waits_for s B) p
still_waiting s A B p member = elim (same_or_not B A) [
  | inl same ↦ elim (cases_lt A (length s.waiting)) [
    | inl lt ↦ Contains-none p (subst (λ ps. Contains ps p)
        (ap (λ C. slice_index_or (slice_set s.waiting A []) C []) same ∙ get_or-set_same s.waiting A [] [] lt) member)
    | inr past ↦ Contains-none p (subst (λ ps. Contains ps p)
        (ap (λ C. slice_index_or (slice_set s.waiting A []) C []) same
        ∙ get_or_past (slice_set s.waiting A []) A [] (let e = length-set s.waiting A [] in omega
        (arith, past, e))) member)
  ]
  | inr other ↦ subst (λ ps. Contains ps p) (get_or-set_other s.waiting A B [] [] other) member
]

pub taken : (G : Grammar) (s next : Progress) (rules : List ℕ) → IsSearch G s → IsTakenNext s next (Some rules)
    → IsTaken G s next rules
taken G s next rules is (A, queue, these, same) = subst (λ n. IsTaken G s n rules) (sym same) (record {
  search = record {
    found_long = is.found_long;
    passed_long = is.passed_long;
    waiting_long = length-set s.waiting A [] ∙ is.waiting_long;
    sound = is.sound;
    within = is.within;
    passed = is.passed;
    rules_wait = λ B p member. is.rules_wait B p (still_waiting s A B p member);
    queue_within = λ B member. is.queue_within B
        (subst (λ xs. Contains xs B) (sym queue) (Contains-append_left next.queue (A ∷ []) B member));
  };
  terminals = refl;
  settled = settled;
  known = λ p member. is.rules_wait A p (subst (λ ps. Contains ps p) these member);
  work = (let e = ap length queue in let f = length-append next.queue (A ∷ []) in omega (arith, e, f));
}) where
  later : Progress
  later = record s { waiting = slice_set s.waiting A []; queue = next.queue }

  settled : (p : ℕ) (r : GrammarRule) → Settled s [] p r
      → Settled (record s { waiting = slice_set s.waiting A []; queue = next.queue }) rules p r
  settled p r was = elim was [
    | found e ↦ found e
    | stopped t m e ↦ stopped t m e
    | waiting B m w state ↦ elim (same_or_not B A) [
      | inl here ↦ to_come (subst (λ ps. Contains ps p) (ap (waits_for s) here ∙ sym these) w)
      | inr other ↦ waiting B m (subst (λ ps. Contains ps p) (sym (get_or-set_other s.waiting A B [] [] other)) w)
          (elim state [
            | inl not ↦ inl not
            | inr queued ↦ elim (Contains-append_cases next.queue (A ∷ []) B
                (subst (λ xs. Contains xs B) queue queued)) [
                  | inl before ↦ inr before
                  | inr last ↦ absurd (other (sym (Contains-one A B last)))
                ]
          ])
    ]
    | to_come m ↦ Contains-none p m
  ]

-- the first of those to be looked at is settled
pub one_less : (G : Grammar) (s : Progress) (p : ℕ) (rest : List ℕ) (r : GrammarRule) → IsRule G p r
    → Settled s rest p r
    → (q : ℕ) (r2 : GrammarRule) → IsRule G q r2 → Settled s (p ∷ rest) q r2 → Settled s rest q r2
one_less G s p rest r rule here q r2 rule2 was = elim was [
  | found e ↦ found e
  | stopped t m e ↦ stopped t m e
  | waiting A m w state ↦ waiting A m w state
  | to_come m ↦ elim (Contains-cons_cases p rest q m) [
    | inl same ↦ let e : r2 ≡ r = rule_is_one G p r2 r (subst (λ k. IsRule G k r2) (sym same) rule2) rule in
        subst (λ k. Settled s rest k r2) same (subst (λ x. Settled s rest p x) (sym e) here)
    | inr later ↦ to_come later
  ]
]

-- So far all rules are settled that are below a number.
pub record AreSettledBelow (G : Grammar) (s : Progress) (n : ℕ) : Type 0 where
  pub search : IsSearch G s
  pub settled : (p : ℕ) (r : GrammarRule) → IsRule G p r → p < n → Settled s [] p r

-- one more, if its number has a rule
pub settled_to : (G : Grammar) (s next : Progress) (n : ℕ) (r : GrammarRule) → AreSettledBelow G s n → IsRule G n r
    → Advances G s next n r → AreSettledBelow G next (n + 1)
settled_to G s next n r is rule step = record {
  search = step.on.search;
  settled = λ p r2 rule2 lt. elim (cases_lt p n) [
    | inl below ↦ step.on.others [] p r2 (is.settled p r2 rule2 below)
    | inr above ↦
        let same : n ≡ p = omega (arith, lt, above) in
        let e : r ≡ r2 = rule_is_one G n r r2 rule (subst (λ k. IsRule G k r2) (sym same) rule2) in
        subst (λ k. Settled next [] k r2) same (subst (λ x. Settled next [] n x) e (step.settled []))
  ];
}

pub settled_past : (G : Grammar) (s : Progress) (n : ℕ) → AreSettledBelow G s n
    → ((r : GrammarRule) → IsRule G n r → ⊥) → AreSettledBelow G s (n + 1)
settled_past G s n is never = record {
  search = is.search;
  settled = λ p r rule lt. elim (cases_lt p n) [
    | inl below ↦ is.settled p r rule below
    | inr above ↦ let same : p ≡ n = omega (arith, lt, above) in absurd (never r (subst (λ k. IsRule G k r) same rule))
  ];
}

-- symbols that have trees pass, where what has one was found
pub found_passes : (G : Grammar) (marks : List Bool) (w : List Symbol)
    → ((A : ℕ) → HasTree G true (nonterminal A) → slice_index_or marks A false ≡ true) → HaveTrees G true w
    → SymbolsPass marks true w
found_passes G marks w complete trees (terminal t) member = refl
found_passes G marks w complete trees (nonterminal A) member
    = complete A (member_tree G true w (nonterminal A) trees member)
