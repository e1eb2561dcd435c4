-- What leads to states and what waits for nonterminals, as it is added.
use Rattle.std.proofs.Common.{◌≡◌, ◌≢◌, ◌∙◌, ◌⊎◌, ◌↔◌, inl, inr, ℕ, ◌+◌, ◌<◌, ◌≤◌, List, [], ◌∷◌, ◌++◌, Some}
use Rattle.std.proofs.Common.{refl, sym, ap, subst, arith, length, map, take, drop, slice_get}
use Rattle.std.proofs.Common.{slice_index_or, slice_set, All, Contains}
use Rattle.std.specs.Prelude.{Bool, false, filter, not, true}
use Rattle.std.proofs.lemmas.List.{get_or-set_same, get_or-set_other, length-set}
use Rattle.std.proofs.lemmas.Bool.{cases_order}
use Rattle.std.proofs.lemmas.Option.{slice_get_within}
use Rattle.ly_base.specs.declared.numbers.StateNo.{StateNo}
use Rattle.ly_join.specs.Grammar.{Grammar, IsAugmented, IsRule, GrammarRule, Symbol, nonterminal, symbol_of, terminal}
use Rattle.ly_join.proofs.ListLemmas.{in_mapped, mapped_in}
use Rattle.ly_grammar.specs.Private.Search.{HasNumberBelow}
use Rattle.ly_grammar.proofs.SearchLemmas.{same_or_not}
use Rattle.ly_lr0.specs.Automaton.{Lr0Automaton, IsLr0Automaton, IsState, Transition, goto_of, is_goto, is_shift}
use Rattle.ly_lr0.specs.Automaton.{is_terminal, state_at, target_of}
use Rattle.ly_lr0.specs.Transitions.{transition_of}
use Rattle.ly_lr0.specs.declared.transition.Transition as code
use Rattle.ly_lr0.proofs.StateLemmas.{goes_by, goto_some, state_there, target_some}
use Rattle.ly_relate.specs.Private.Walks.{HasNumberTo}
use Rattle.ly_relate.proofs.GotoLemmas.{has_target}
use Rattle.ly_resolve.proofs.MeetingLemmas.{filter_in, in_filter}
use Rattle.ly_lr0.specs.declared.item.Item.{Item}
use Rattle.ly_counterexamples.specs.Private.Grounds.{ArePredecessors, AreWaiting}
use Rattle.ly_counterexamples.specs.Private.Lists.{ArePredecessorsAdded, ArePredecessorsOf, AreWaitingAdded}
use Rattle.ly_counterexamples.specs.Private.Lists.{AreWaitingOf}
use Rattle.ly_counterexamples.specs.Private.Lists.{IsPredecessorBy}
use Rattle.ly_counterexamples.specs.Private.Met.{item_at}
use Rattle.ly_counterexamples.specs.Private.Steps.{IsRelated}
use Rattle.ly_counterexamples.proofs.BackLemmas.{ahead_at, at_ahead, none_related, pushed_one, related_beside}
use Rattle.ly_counterexamples.proofs.ClaimLemmas.{body_within}

-- one more in one of some lists
pub pushed_into : {Y : Type 0} (old new : List (List Y)) (n : ℕ) (v : Y) → n < length old
    → new ≡ slice_set old n (slice_index_or old n [] ++ v ∷ []) → (s : ℕ) (y : Y)
    → Contains (slice_index_or new s []) y ↔ (Contains (slice_index_or old s []) y ⊎ ((n ≡ s) × (v ≡ y)))
pushed_into {Y} old new n v lt e s y = by (same_or_not s n) where
  row : List Y
  row = slice_index_or old n [] ++ v ∷ []

  by : (s ≡ n) ⊎ (s ≢ n)
      → Contains (slice_index_or new s []) y ↔ (Contains (slice_index_or old s []) y ⊎ ((n ≡ s) × (v ≡ y)))
  by (inl same) =
      let here : slice_index_or new s [] ≡ slice_index_or old s [] ++ v ∷ []
      = ap (λ w. slice_index_or w s []) e ∙ ap (λ m. slice_index_or (slice_set old n row) m []) same
      ∙ get_or-set_same old n row [] lt ∙ ap (λ m. slice_index_or old m [] ++ v ∷ []) (sym same) in
      let one = pushed_one (slice_index_or old s []) (slice_index_or new s []) v here y in (
        λ has. elim (one.0 has) [ inl was ↦ inl was | inr is ↦ inr (sym same, is) ],
        λ either. one.1 (elim either [ inl was ↦ inl was | inr both ↦ inr both.1 ]),
      )
  by (inr other) =
      let here : slice_index_or new s [] ≡ slice_index_or old s []
      = ap (λ w. slice_index_or w s []) e ∙ get_or-set_other old n s row [] other in (
        λ has. inl (subst (λ w. Contains w y) here has),
        λ either. elim either [
          | inl was ↦ subst (λ w. Contains w y) (sym here) was
          | inr both ↦ absurd (other (sym both.0))
        ],
      )

-- ITEMS

pub waiting_none : (lists : List (List Item)) (body : List Symbol) (rule : ℕ) → AreWaitingAdded lists lists body rule 0
waiting_none lists body rule = record {
  count = refl;
  exact = λ A i. (
    λ has. inl has,
    λ either. elim either [ inl was ↦ was | inr later ↦ absurd (let less = later.1 in omega (arith, less)) ],
  );
}

module _ (old mid : List (List Item)) (body : List Symbol) (rule n : ℕ) (X : Symbol)
    (at : slice_get body n ≡ Some X) (are : AreWaitingAdded old mid body rule n) where
  -- one more symbol of a body
  pub waiting_step : (new : List (List Item)) → length new ≡ length mid
      → ((A : ℕ) (i : Item) → Contains (slice_index_or new A []) i
      ↔ (Contains (slice_index_or mid A []) i ⊎ ((X ≡ nonterminal A) × (item_at rule n ≡ i))))
      → AreWaitingAdded old new body rule (n + 1)
  waiting_step new long one = record {
    count = long ∙ are.count;
    exact = λ A i. (
      λ has. elim ((one A i).0 has) [
        | inl was ↦ elim ((are.exact A i).0 was) [
          | inl before ↦ inl before
          | inr (r, less, there) ↦ inr (r, omega (arith, less), there)
        ]
        | inr (symbol, same) ↦
            let dot : n ≡ i.dot = ap (λ j. j.dot) same in
            inr (
              sym (ap (λ j. j.rule) same),
              omega (arith, dot),
              ap (slice_get body) (sym dot) ∙ at ∙ ap (λ Y. Some Y) symbol,
            )
      ],
      λ either. (one A i).1 (elim either [
        | inl before ↦ inl ((are.exact A i).1 (inl before))
        | inr (r, less, there) ↦ elim (cases_order i.dot n) [
          | inl same ↦
              let here : Some X ≡ Some (nonterminal A) = sym at ∙ ap (slice_get body) (sym same) ∙ there in
              inr (
                (let e : X ≡ nonterminal A = cc in e),
                ap (λ d. item_at rule d) (sym same)
                    ∙ ap (λ p. item_at p i.dot) (sym r),
              )
          | inr (inl lower) ↦ inl ((are.exact A i).1 (inr (r, lower, there)))
          | inr (inr higher) ↦ absurd (omega (arith, less, higher))
        ]
      ]),
    );
  }

  pub waiting_skip : (k : ℕ) → X ≡ terminal k → AreWaitingAdded old mid body rule (n + 1)
  waiting_skip k e = waiting_step mid refl (λ A i. (
    λ has. inl has,
    λ either. elim either [ inl was ↦ was | inr here ↦ (let f = here.0 in absurd (cc)) ],
  ))

  pub waiting_push : (new : List (List Item)) (A : ℕ) → X ≡ nonterminal A → A < length mid
      → new ≡ slice_set mid A (slice_index_or mid A [] ++ item_at rule n ∷ [])
      → AreWaitingAdded old new body rule (n + 1)
  waiting_push new A e lt is = waiting_step new (ap length is ∙ length-set mid A _) (λ B i.
      let one = pushed_into mid new A (item_at rule n) lt is B i in (
        λ has. elim (one.0 has) [
          | inl was ↦ inl was
          | inr here ↦ inr (e ∙ ap (λ m. nonterminal m) here.0, here.1)
        ],
        λ either. one.1 (elim either [
          | inl was ↦ inl was
          | inr here ↦ inr ((let f = here.0 in let same : A ≡ B = cc in same), here.1)
        ]),
      ))

-- the symbols of a body have lists
pub body_below : (G : Grammar) → IsAugmented G → (p : ℕ) (r : GrammarRule) → IsRule G p r
    → All (HasNumberBelow (G.accept + 1)) r.body
body_below G augmented p r is = λ k d lt.
    below (slice_index_or r.body k d) (body_within G augmented p r is k d lt)
  where
    below : (X : Symbol) → HasNumberTo G.accept X → HasNumberBelow (G.accept + 1) X
    below (terminal k) within = tt
    below (nonterminal A) within = omega (arith, within)

module _ (G : Grammar) (rule : ℕ) (old : List (List Item)) (are : AreWaitingOf G old rule) where
  pub rule_added : (r : GrammarRule) (new : List (List Item)) → IsRule G rule r
      → AreWaitingAdded old new r.body rule (length r.body) → AreWaitingOf G new (rule + 1)
  rule_added r new is added = record {
    count = added.count ∙ are.count;
    exact = λ A i le. (
      λ has. elim ((added.exact A i).0 has) [
        | inl was ↦
            let there = (are.exact A i le).0 was in
            ((let less = there.0 in omega (arith, less)), there.1, there.2)
        | inr (same, less, here) ↦ (
          omega (arith, same),
          drop (i.dot + 1) r.body,
          ahead_at G i (nonterminal A) r (subst (λ p. IsRule G p r) (sym same) is) here,
        )
      ],
      λ (early, rest, ahead). (added.exact A i).1 (elim (cases_order i.rule rule) [
        | inl same ↦
            let here = (at_ahead G i (nonterminal A) rest r (subst (λ p. IsRule G p r) (sym same) is) ahead).0 in
            inr (same, slice_get_within r.body i.dot (nonterminal A) here, here)
        | inr (inl lower) ↦ inl ((are.exact A i le).1 (lower, rest, ahead))
        | inr (inr higher) ↦ absurd (omega (arith, early, higher))
      ]),
    );
  }

  pub rule_removed : ((r : GrammarRule) × IsRule G rule r → ⊥) → AreWaitingOf G old (rule + 1)
  rule_removed none = record {
    count = are.count;
    exact = λ A i le. (
      λ has.
          let there = (are.exact A i le).0 has in
          ((let less = there.0 in omega (arith, less)), there.1, there.2),
      λ (early, rest, ahead). (are.exact A i le).1 (elim (cases_order i.rule rule) [
        | inl same ↦ absurd (none (ahead.rule, subst (λ p. IsRule G p ahead.rule) same ahead.is_rule))
        | inr (inl lower) ↦ (lower, rest, ahead)
        | inr (inr higher) ↦ absurd (omega (arith, early, higher))
      ]),
    );
  }

pub waiting_all : (G : Grammar) (lists : List (List Item)) (n : ℕ) → length G.rules ≤ n → AreWaitingOf G lists n
    → AreWaiting G lists
waiting_all G lists n past are = record {
  count = are.count;
  exact = λ A i le. (
    λ has. let there = (are.exact A i le).0 has in (there.1, there.2),
    λ (rest, ahead).
        let less = slice_get_within G.rules i.rule (Some ahead.rule) ahead.is_rule in
        (are.exact A i le).1 (omega (arith, less, past), rest, ahead),
  );
}

-- PREDECESSORS

pub predecessors_none : (lists : List (List StateNo)) (from : StateNo) (ts : List code.Transition)
    → ArePredecessorsAdded lists lists from (take 0 ts)
predecessors_none lists from ts = record {
  count = refl;
  exact = λ s q. (
    λ has. inl has,
    λ either. elim either [ inl was ↦ was | inr none ↦ absurd (none_related (IsPredecessorBy from s) ts q none) ],
  );
}

pub predecessors_more : (old mid new : List (List StateNo)) (from : StateNo) (ts : List code.Transition) (k : ℕ)
    (t : code.Transition) → k < length ts → (slice_index_or ts k t).target.0 < length mid
    → new ≡ slice_set mid (slice_index_or ts k t).target.0 (slice_index_or mid (slice_index_or ts k t).target.0 []
    ++ from ∷ [])
    → ArePredecessorsAdded old mid from (take k ts) → ArePredecessorsAdded old new from (take (k + 1) ts)
predecessors_more old mid new from ts k t lt within e are = record {
  count = ap length e ∙ length-set mid (slice_index_or ts k t).target.0 _ ∙ are.count;
  exact = λ s. related_beside (IsPredecessorBy from s) ts (λ y. Contains (slice_index_or old s []) y) k t lt
      (slice_index_or mid s []) (slice_index_or new s [])
      (pushed_into mid new (slice_index_or ts k t).target.0 from within e s) (are.exact s);
}

module _ (M : Lr0Automaton) (is : IsLr0Automaton M) (from : StateNo) (lt : from.0 < length M.states) where
  abbrev transitions : List Transition
  transitions = (state_at M from.0).transitions

  these : IsState M.grammar (length M.states) (state_at M from.0)
  these = is.each from.0 (state_at M from.0) (state_there M from.0 lt)

  -- one of those that pass a test is the state's
  passed_there : (p : Transition → Bool) (ts : List code.Transition) → map transition_of ts ≡ filter p transitions
      → (t : code.Transition) → Contains ts t → Contains transitions (transition_of t)
  passed_there p ts shown t has = (filter_in p transitions (transition_of t)
      (subst (λ w. Contains w (transition_of t)) shown (mapped_in transition_of ts t has))).0

  -- it leads to a state
  pub target_within : (p : Transition → Bool) (ts : List code.Transition) → map transition_of ts ≡ filter p transitions
      → (t : code.Transition) → Contains ts t → t.target.0 < length M.states
  target_within p ts shown t has = these.within (transition_of t) (passed_there p ts shown t has)

  -- by one of those that pass a test the state goes where it leads
  predecessor_leads : (p : Transition → Bool) (ts : List code.Transition) → map transition_of ts ≡ filter p transitions
      → (s : ℕ) (q : StateNo) → IsRelated (IsPredecessorBy from s) ts q
      → (from ≡ q) × (X : Symbol) × (goto_of M from.0 X ≡ Some s)
  predecessor_leads p ts shown s q (t, among, (target, e)) =
      let there = has_target transitions (transition_of t) these.ordered (passed_there p ts shown t among) in
      (e, symbol_of t.symbol, goes_by M from.0 (symbol_of t.symbol) lt ∙ there ∙ ap (λ n. Some n) target)

  -- where the state goes by a symbol, one of those over the symbol's kind leads
  leading_predecessor : (p : Transition → Bool) (ts : List code.Transition)
      → map transition_of ts ≡ filter p transitions
      → (s : ℕ) (X : Symbol) → goto_of M from.0 X ≡ Some s → p (record { symbol = X; target = s }) ≡ true
      → IsRelated (IsPredecessorBy from s) ts from
  leading_predecessor p ts shown s X leads passes =
      let u : Transition = record { symbol = X; target = s } in
      let leads' : target_of transitions X ≡ Some s = sym (goes_by M from.0 X lt) ∙ leads in
      let among = in_filter p transitions u (target_some transitions X s leads') passes in
      let it = in_mapped transition_of ts u (subst (λ w. Contains w u) (sym shown) among) in
      (it.0, it.1, (ap (λ v. v.target) it.2, refl))

  module _ (shifts gotos : List code.Transition)
      (over_terminals : map transition_of shifts ≡ filter is_shift transitions)
      (over_nonterminals : map transition_of gotos ≡ filter is_goto transitions) where
    -- the state was added to the predecessors of those to which it leads
    predecessor_added : (s : ℕ) (X : Symbol) → goto_of M from.0 X ≡ Some s
        → IsRelated (IsPredecessorBy from s) shifts from ⊎ IsRelated (IsPredecessorBy from s) gotos from
    predecessor_added s X leads = kind (is_terminal X) refl where
      kind : (b : Bool) → is_terminal X ≡ b
          → IsRelated (IsPredecessorBy from s) shifts from ⊎ IsRelated (IsPredecessorBy from s) gotos from
      kind true e = inl (leading_predecessor is_shift shifts over_terminals s X leads e)
      kind false e = inr (leading_predecessor is_goto gotos over_nonterminals s X leads (ap not e))

    pub predecessor_done : (old mid new : List (List StateNo)) → ArePredecessorsOf M old from.0
        → ArePredecessorsAdded old mid from shifts → ArePredecessorsAdded mid new from gotos
        → ArePredecessorsOf M new (from.0 + 1)
    predecessor_done old mid new before first second = record {
      count = second.count ∙ first.count ∙ before.count;
      exact = λ s q less. (
        λ has. elim ((second.exact s q).0 has) [
          | inl was ↦ elim ((first.exact s q).0 was) [
            | inl older ↦
                let there = (before.exact s q less).0 older in
                ((let e = there.0 in omega (arith, e)), there.1, there.2)
            | inr some ↦ here s q (predecessor_leads is_shift shifts over_terminals s q some)
          ]
          | inr some ↦ here s q (predecessor_leads is_goto gotos over_nonterminals s q some)
        ],
        λ (early, X, leads). elim (cases_order q.0 from.0) [
          | inl same ↦
              let it : from ≡ q = ap (λ n. record { 0 = n }) (sym same) in
              subst (Contains (slice_index_or new s [])) it
              (elim (predecessor_added s X (ap (λ n. goto_of M n X) (sym same) ∙ leads)) [
                | inl one ↦ (second.exact s from).1 (inl ((first.exact s from).1 (inr one)))
                | inr one ↦ (second.exact s from).1 (inr one)
              ])
          | inr (inl less') ↦
              (second.exact s q).1 (inl ((first.exact s q).1 (inl ((before.exact s q less).1 (less', X, leads)))))
          | inr (inr more') ↦ absurd (omega (arith, early, more'))
        ],
      );
    } where
      here : (s : ℕ) (q : StateNo) → (from ≡ q) × (X : Symbol) × (goto_of M from.0 X ≡ Some s)
          → (q.0 < from.0 + 1) × (X : Symbol) × (goto_of M q.0 X ≡ Some s)
      here s q (e, X, leads) =
          let same : from.0 ≡ q.0 = ap (λ v. v.0) e in
          ((omega (arith, same)), X, subst (λ n. goto_of M n X ≡ Some s) same leads)

pub predecessors_all : (M : Lr0Automaton) (lists : List (List StateNo)) (n : ℕ) → length M.states ≤ n
    → ArePredecessorsOf M lists n → ArePredecessors M lists
predecessors_all M lists n past are = record {
  count = are.count;
  exact = λ s q less. (
    λ has. let there = (are.exact s q less).0 has in (there.1, there.2),
    λ (X, leads). (are.exact s q less).1 (early q.0 X s leads, X, leads),
  );
} where
  early : (r : ℕ) (X : Symbol) (s : ℕ) → goto_of M r X ≡ Some s → r < n
  early r X s leads =
      let from = goto_some M.states r X s leads in
      let there = slice_get_within M.states r from.0 from.1 in
      omega (arith, there, past)
