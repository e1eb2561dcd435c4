-- Steps of the search: what is known stays known.
use Rattle.std.proofs.Common.{◌≡◌, ◌≢◌, ◌<◌, ◌≤◌, ◌+◌, ◌∙◌, ◌⊎◌, ℕ, zero, suc, List, [], ◌∷◌, ◌++◌, Bool, true, false}
use Rattle.std.proofs.Common.{sym, ap}
use Rattle.std.proofs.Common.{subst, arith, inl, inr, refl, take, length, Contains, slice_index_or, slice_set}
use Rattle.std.proofs.Common.{Some, if◌then◌else◌}
use Rattle.std.proofs.lemmas.Bool.{cases_lt}
use Rattle.std.proofs.lemmas.List.{get_or-set_same, get_or-set_other, length-set, length-append}
use Rattle.std.proofs.lemmas.List.Elements.{Contains-append_cases, Contains-append_left, Contains-append_right}
use Rattle.ly_base.proofs.MemberLemmas.{Contains-none, Contains-first, Contains-later, Contains-one}
use Rattle.ly_base.proofs.MemberLemmas.{Contains-cons_cases}
use Rattle.ly_base.specs.Trees.{leaf, node, none, more, yield_of, yields_of}
use Rattle.ly_join.specs.Grammar.{Grammar, GrammarRule, IsRule, Symbol, terminal, nonterminal}
use Rattle.ly_grammar.specs.Private.Search.{Progress, IsSearch, HasTree, HaveTrees, SymbolsPass, SearchGoesOn}
use Rattle.ly_grammar.specs.Private.Search.{Settled, found, stopped, waiting, to_come, was_found, waits_for}
use Rattle.ly_grammar.specs.Private.Search.{with_found, with_passed, with_waiting, unfound}
use Rattle.ly_grammar.proofs.PassLemmas.{still_passes, found_now, stay_found}

-- numbers are one, or not
pub same_or_not : (i j : ℕ) → (i ≡ j) ⊎ (i ≢ j)
same_or_not i j = elim (cases_lt i j) [
  | inl below ↦ inr (λ e. omega (arith, e, below))
  | inr above ↦ elim (cases_lt j i) [ inl less ↦ inr (λ e. omega (arith, e, less)) | inr equal ↦ inl (omega arith) ]
]

-- lists that are nothing together are nothing
pub nothing_together : {X : Type 0} (xs ys : List X) → xs ++ ys ≡ [] → (xs ≡ []) × (ys ≡ [])
nothing_together [] ys e = (refl, e)
nothing_together (x ∷ xs) ys e = absurd (cc)

-- a number has one rule
pub rule_is_one : (G : Grammar) (p : ℕ) (r q : GrammarRule) → IsRule G p r → IsRule G p q → r ≡ q
rule_is_one G p r q a b = let e : Some (Some r) ≡ Some (Some q) = sym a ∙ b in cc

-- symbols that pass have trees, where what was found has
pub body_trees : (G : Grammar) (marks : List Bool) (allowed : Bool) (w : List Symbol)
    → ((A : ℕ) → slice_index_or marks A false ≡ true → HasTree G allowed (nonterminal A)) → SymbolsPass marks allowed w
    → HaveTrees G allowed w
body_trees G marks allowed [] sound all = (none, tt, λ _. refl)
body_trees G marks allowed (terminal t ∷ w) sound all =
    let rest = body_trees G marks allowed w sound (λ X m. all X (Contains-later (terminal t) w X m)) in
    let is = all (terminal t) (Contains-first (terminal t) w) in
    (more (leaf (record { terminal = t; at = 0; bytes = [] })) rest.0, (refl, rest.1), λ e. cc)
body_trees G marks allowed (nonterminal A ∷ w) sound all =
    let rest = body_trees G marks allowed w sound (λ X m. all X (Contains-later (nonterminal A) w X m)) in
    let first = sound A (all (nonterminal A) (Contains-first (nonterminal A) w)) in (
      more first.0 rest.0,
      (first.1, rest.1),
      λ e. ap (λ ys. ys ++ yields_of rest.0) (first.2 e) ∙ rest.2 e,
    )

-- and each symbol of a string that has trees has one
pub member_tree : (G : Grammar) (allowed : Bool) (w : List Symbol) (X : Symbol) → HaveTrees G allowed w → Contains w X
    → HasTree G allowed X
member_tree G allowed [] X trees member = Contains-none X member
member_tree G allowed (Y ∷ w) X (none, are, empty) member = absurd are
member_tree G allowed (Y ∷ w) X (more t ts, are, empty) member = elim (Contains-cons_cases Y w X member) [
  | inl same ↦ subst (HasTree G allowed) same
      (t, are.0, λ e. (nothing_together (yield_of t) (yields_of ts) (empty e)).0)
  | inr later ↦ member_tree G allowed w X
      (ts, are.1, λ e. (nothing_together (yield_of t) (yields_of ts) (empty e)).1) later
]

-- and so has the left side of a rule whose body has
pub rule_tree : (G : Grammar) (allowed : Bool) (p : ℕ) (r : GrammarRule) → IsRule G p r → HaveTrees G allowed r.body
    → HasTree G allowed (nonterminal r.left)
rule_tree G allowed p r is trees = (node p trees.0, (r, is, refl, trees.1), trees.2)

-- one that wasn't found is one less
pub unfound_less : (bs : List Bool) (A : ℕ) → A < length bs → slice_index_or bs A false ≡ false
    → unfound (slice_set bs A true) + 1 ≡ unfound bs
unfound_less [] A lt e = absurd (omega (arith, lt))
unfound_less (true ∷ bs) zero lt e = absurd (cc)
unfound_less (false ∷ bs) zero lt e = refl
unfound_less (true ∷ bs) (suc A) lt e = unfound_less bs A (omega (arith, lt)) e
unfound_less (false ∷ bs) (suc A) lt e = ap (λ n. n + 1) (unfound_less bs A (omega (arith, lt)) e)

-- steps follow one another
pub through : (G : Grammar) (s t u : Progress) → SearchGoesOn G s t → SearchGoesOn G t u → SearchGoesOn G s u
through G s t u a b = record {
  search = b.search;
  terminals = b.terminals ∙ a.terminals;
  others = λ pending p r is. b.others pending p r (a.others pending p r is);
  work = omega (arith, a.work, b.work);
}

-- so many symbols of a rule's body are there, and pass
abbrev pub HavePassed : Progress → GrammarRule → ℕ → Type 0
HavePassed s r n = (n ≤ length r.body) × SymbolsPass s.found s.terminals (take n r.body)

-- what is known to have passed of each rule, where it is newly known of one
pub now_passed : (G : Grammar) (s : Progress) (p at : ℕ) (r : GrammarRule) → IsSearch G s → IsRule G p r
    → p < length s.passed → HavePassed s r at → (q : ℕ) (r2 : GrammarRule) → IsRule G q r2
    → HavePassed s r2 (slice_index_or (slice_set s.passed p at) q 0)
now_passed G s p at r is rule lt all q r2 is2 = elim (same_or_not q p) [
  | inl same ↦
      let e : r2 ≡ r = rule_is_one G p r2 r (subst (λ k. IsRule G k r2) same is2) rule in
      let n : slice_index_or (slice_set s.passed p at) q 0 ≡ at
      = ap (λ k. slice_index_or (slice_set s.passed p at) k 0) same ∙ get_or-set_same s.passed p at 0 lt in
      subst (λ k. HavePassed s r2 k) (sym n) (subst (λ x. HavePassed s x at) (sym e) all)
  | inr other ↦ subst (λ k. HavePassed s r2 k) (sym (get_or-set_other s.passed p q at 0 other))
      (is.within q r2 is2, is.passed q r2 is2)
]

-- more of a rule's body passes
pub on_passed : (G : Grammar) (s : Progress) (p at : ℕ) (r : GrammarRule) → IsSearch G s → IsRule G p r
    → p < length s.passed
    → HavePassed s r at → SearchGoesOn G s (with_passed s p at)
on_passed G s p at r is rule lt all = record {
  search = record {
    found_long = is.found_long;
    passed_long = length-set s.passed p at ∙ is.passed_long;
    waiting_long = is.waiting_long;
    sound = is.sound;
    within = λ q r2 is2. (now_passed G s p at r is rule lt all q r2 is2).0;
    passed = λ q r2 is2. (now_passed G s p at r is rule lt all q r2 is2).1;
    rules_wait = is.rules_wait;
    queue_within = is.queue_within;
  };
  terminals = refl;
  others = λ pending q r2 was. elim was [
    | found e ↦ found e
    | stopped t m e ↦ stopped t m e
    | waiting A m w e ↦ waiting A m w e
    | to_come m ↦ to_come m
  ];
  work = omega arith;
}

-- a nonterminal is newly found
abbrev newly_found : Progress → ℕ → Progress
newly_found s A = record s { found = slice_set s.found A true; queue = s.queue ++ A ∷ [] }

-- a search that has newly found one with a tree
search_found : (G : Grammar) (s : Progress) (A : ℕ) → IsSearch G s → A < length s.found
    → HasTree G s.terminals (nonterminal A) → IsSearch G (newly_found s A)
search_found G s A is lt tree = record {
  found_long = length-set s.found A true ∙ is.found_long;
  passed_long = is.passed_long;
  waiting_long = is.waiting_long;
  sound = λ B e. elim (same_or_not B A) [
    | inl same ↦ subst (λ C. HasTree G s.terminals (nonterminal C)) (sym same) tree
    | inr other ↦ is.sound B (sym (get_or-set_other s.found A B true false other) ∙ e)
  ];
  within = is.within;
  passed = λ q r rule. still_passes s.found (slice_set s.found A true) s.terminals
      (take (slice_index_or s.passed q 0) r.body) (stay_found s.found A lt) (is.passed q r rule);
  rules_wait = is.rules_wait;
  queue_within = λ B member. elim (Contains-append_cases s.queue (A ∷ []) B member) [
    | inl before ↦ is.queue_within B before
    | inr last ↦ subst (λ C. C < G.accept + 1) (Contains-one A B last) (subst (λ n. A < n) is.found_long lt)
  ];
}

-- a rule that is settled stays so
settled_found : (s : Progress) (A : ℕ) → A < length s.found → (pending : List ℕ) (q : ℕ) (r : GrammarRule)
    → Settled s pending q r → Settled (newly_found s A) pending q r
settled_found s A lt pending q r was = elim was [
  | found e ↦ found (stay_found s.found A lt r.left e)
  | stopped t m e ↦ stopped t m e
  | waiting B m w state ↦ waiting B m w (elim (same_or_not B A) [
    | inl same ↦ inr (subst (λ C. Contains (s.queue ++ A ∷ []) C) (sym same)
        (Contains-append_right s.queue (A ∷ []) A (Contains-first A [])))
    | inr other ↦ elim state [
      | inl not ↦ inl (get_or-set_other s.found A B true false other ∙ not)
      | inr queued ↦ inr (Contains-append_left s.queue (A ∷ []) B queued)
    ]
  ])
  | to_come m ↦ to_come m
]

-- the search goes on
found_goes_on : (G : Grammar) (s : Progress) (A : ℕ) (b : Bool) → was_found s A ≡ b → IsSearch G s
    → A < length s.found → HasTree G s.terminals (nonterminal A)
    → SearchGoesOn G s (if b then s else newly_found s A)
found_goes_on G s A true e is lt tree
    = record { search = is; terminals = refl; others = λ pending q r was. was; work = omega arith }
found_goes_on G s A false e is lt tree =
    let one : unfound (slice_set s.found A true) + 1 ≡ unfound s.found = unfound_less s.found A lt e in
    let more : length (s.queue ++ A ∷ []) ≡ length s.queue + 1 = length-append s.queue (A ∷ []) in
    record {
      search = search_found G s A is lt tree;
      terminals = refl;
      others = settled_found s A lt;
      work = omega (arith, one, more);
    }

-- a nonterminal that has a tree is found
pub on_found : (G : Grammar) (s : Progress) (A : ℕ) → IsSearch G s → A < length s.found
    → HasTree G s.terminals (nonterminal A) → SearchGoesOn G s (with_found s A)
on_found G s A is lt tree = found_goes_on G s A (was_found s A) refl is lt tree

-- and it is found then
pub is_found : (s : Progress) (A : ℕ) → A < length s.found → was_found (with_found s A) A ≡ true
is_found s A lt = by_cases (was_found s A) refl where
  by_cases : (b : Bool) → was_found s A ≡ b → was_found (if b then s else newly_found s A) A ≡ true
  by_cases true e = e
  by_cases false e = found_now s.found A lt

-- a rule that waits for a nonterminal is among its rules, and those that waited still do
pub waits_now : (s : Progress) (A p : ℕ) → A < length s.waiting
    → Contains (waits_for (with_waiting s A p) A) p
waits_now s A p lt = subst (λ ps. Contains ps p) (sym (get_or-set_same s.waiting A (waits_for s A ++ p ∷ []) [] lt))
    (Contains-append_right (waits_for s A) (p ∷ []) p (Contains-first p []))

pub still_waits : (s : Progress) (A p : ℕ) → A < length s.waiting → (B q : ℕ) → Contains (waits_for s B) q
    → Contains (waits_for (with_waiting s A p) B) q
still_waits s A p lt B q w = elim (same_or_not B A) [
  | inl same ↦ subst (λ C. Contains (waits_for (with_waiting s A p) C) q) (sym same)
      (subst (λ ps. Contains ps q) (sym (get_or-set_same s.waiting A (waits_for s A ++ p ∷ []) [] lt))
      (Contains-append_left (waits_for s A) (p ∷ []) q (subst (λ C. Contains (waits_for s C) q) same w)))
  | inr other ↦ subst (λ ps. Contains ps q) (sym (get_or-set_other s.waiting A B (waits_for s A ++ p ∷ []) [] other)) w
]

-- one that waits is a rule
waiting_rule : (G : Grammar) (s : Progress) (A p : ℕ) (r : GrammarRule) → IsSearch G s → IsRule G p r
    → A < length s.waiting
    → (B q : ℕ) → Contains (waits_for (with_waiting s A p) B) q → (r2 : GrammarRule) × IsRule G q r2
waiting_rule G s A p r is rule lt B q w = elim (same_or_not B A) [
  | inl same ↦ elim (Contains-append_cases (waits_for s A) (p ∷ []) q
      (subst (λ ps. Contains ps q) (ap (λ C. waits_for (with_waiting s A p) C) same
      ∙ get_or-set_same s.waiting A (waits_for s A ++ p ∷ []) [] lt) w)) [
        | inl before ↦ is.rules_wait A q before
        | inr last ↦ (r, subst (λ k. IsRule G k r) (Contains-one p q last) rule)
      ]
  | inr other ↦ is.rules_wait B q
      (subst (λ ps. Contains ps q) (get_or-set_other s.waiting A B (waits_for s A ++ p ∷ []) [] other) w)
]

-- a rule waits
pub on_waiting : (G : Grammar) (s : Progress) (A p : ℕ) (r : GrammarRule) → IsSearch G s → IsRule G p r
    → A < length s.waiting → SearchGoesOn G s (with_waiting s A p)
on_waiting G s A p r is rule lt = record {
  search = record {
    found_long = is.found_long;
    passed_long = is.passed_long;
    waiting_long = length-set s.waiting A (waits_for s A ++ p ∷ []) ∙ is.waiting_long;
    sound = is.sound;
    within = is.within;
    passed = is.passed;
    rules_wait = waiting_rule G s A p r is rule lt;
    queue_within = is.queue_within;
  };
  terminals = refl;
  others = λ pending q r2 was. elim was [
    | found e ↦ found e
    | stopped t m e ↦ stopped t m e
    | waiting B m w e ↦ waiting B m (still_waits s A p lt B q w) e
    | to_come m ↦ to_come m
  ];
  work = omega arith;
}
