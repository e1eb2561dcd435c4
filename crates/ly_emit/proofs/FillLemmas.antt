-- Rows that are filled, and the tables that they are.
use Rattle.std.proofs.Common.{◌≡◌, ◌≢◌, ◌∙◌, ◌⊎◌, inl, inr, ℕ, zero, suc, ◌+◌, ◌-◌, ◌<◌, ◌&&◌, List}
use Rattle.std.proofs.Common.{Bool, None, Option, Some, ap, arith, false, length, map, nat_eq, option_map, refl}
use Rattle.std.proofs.Common.{slice_get, slice_index_or, subst, sym, true}
use Rattle.std.specs.Prelude.{replicate, if◌then◌else◌}
use Rattle.std.proofs.lemmas.Bool.{and_from, and_parts, cases_eq, cond-false, cond-true, eq-eqb, eqb-true}
use Rattle.std.proofs.lemmas.List.{length-replicate}
use Rattle.std.proofs.Math.ListN.{length-map}
use Rattle.std.proofs.lemmas.Option.{get_or_from_slice_get, slice_get_within}
use Rattle.ly_base.specs.declared.numbers.RuleNo.{RuleNo}
use Rattle.ly_base.specs.declared.numbers.StateNo.{StateNo}
use Rattle.ly_base.proofs.ListLemmas.{option_map-none, option_map-some}
use Rattle.ly_join.specs.Grammar.{IsGrammar, nonterminal, terminal}
use Rattle.ly_join.specs.Joined.{Spec}
use Rattle.ly_grammar.specs.Reduction.{KeepsUseful}
use Rattle.ly_grammar.proofs.ItemLemmas.{body_of}
use Rattle.ly_lr0.specs.Automaton.{Lr0Automaton, IsLr0Automaton, goto_of, prefix_of}
use Rattle.ly_relate.proofs.WalkLemmas.{leads_to}
use Rattle.ly_pack.specs.Machine.{IsLegal, IsMachine, IsRuleWithin, Machine, TableAction, TableRule, entry_at, goto_at}
use Rattle.ly_pack.specs.Machine.{states_of}
use Rattle.ly_pack.specs.Machine as table
use Rattle.ly_pack.specs.Rows.{Entries}
use Rattle.ly_pack.specs.Values.{action_from, actions_from, gotos_from, machine_from, rule_from}
use Rattle.ly_pack.specs.declared.action.TableAction as code
use Rattle.ly_pack.specs.declared.rule.TableRule as rule
use Rattle.ly_pack.proofs.GridLemmas.{cell-grid_of, cell-grid_of_some}
use Rattle.ly_resolve.specs.Actions.{Action, IsAction, error, reduce, shift}
use Rattle.ly_resolve.specs.Precedence.{judge_of}
use Rattle.ly_emit.specs.Private.Filling.{AreActionsTo, AreFilledTo, AreGotosTo, AreRulesTo}
use Rattle.ly_emit.specs.Tables.{AreShapesWithin, AreTables, IsEntryFor, shape_in}

-- ENTRIES THAT ARE PUT IN

module _ {E : Type 0} (f g : Entries E) (row column : ℕ) (x : E)
    (put : (r c : ℕ) → g r c ≡ (if nat_eq r row && nat_eq c column then Some x else f r c)) where
  put_some : (r c : ℕ) (y : E) → g r c ≡ Some y → ((r ≡ row) × (c ≡ column) × (x ≡ y)) ⊎ (f r c ≡ Some y)
  put_some r c y e = by (nat_eq r row && nat_eq c column) refl where
    by : (b : Bool) → (nat_eq r row && nat_eq c column) ≡ b
        → ((r ≡ row) × (c ≡ column) × (x ≡ y)) ⊎ (f r c ≡ Some y)
    by true t =
        let same = and_parts (nat_eq r row) (nat_eq c column) t in
        let one : Some x ≡ Some y
        = sym (cond-true (nat_eq r row && nat_eq c column) (Some x) (f r c) t) ∙ (sym (put r c) ∙ e) in
        let is : x ≡ y = cc in
        inl (eqb-true r row same.0, eqb-true c column same.1, is)
    by false t = inr (sym (cond-false (nat_eq r row && nat_eq c column) (Some x) (f r c) t) ∙ (sym (put r c) ∙ e))

  pub put_none : (r c : ℕ) → g r c ≡ None → (f r c ≡ None) × (r ≡ row → c ≡ column → ⊥)
  put_none r c e = by (nat_eq r row && nat_eq c column) refl where
    by : (b : Bool) → (nat_eq r row && nat_eq c column) ≡ b → (f r c ≡ None) × (r ≡ row → c ≡ column → ⊥)
    by true t =
        let no : Some x ≡ None
        = sym (cond-true (nat_eq r row && nat_eq c column) (Some x) (f r c) t) ∙ (sym (put r c) ∙ e) in
        absurd cc
    by false t = (
      sym (cond-false (nat_eq r row && nat_eq c column) (Some x) (f r c) t) ∙ (sym (put r c) ∙ e),
      λ a b. let no : false ≡ true
          = sym t ∙ and_from (nat_eq r row) (nat_eq c column) (eq-eqb r row a) (eq-eqb c column b) in cc,
    )

  -- the entries are right with a right one put in
  pub put_filled : (IsRight : ℕ → ℕ → E → Type 0) (IsWanted : ℕ → ℕ → Type 0) (n : ℕ) → IsRight row column x
      → AreFilledTo IsRight IsWanted n f → AreFilledTo IsRight IsWanted n g
  put_filled IsRight IsWanted n is before = record {
    right = λ r c y e. elim (put_some r c y e) [
      | inl (a, b, same) ↦ subst (λ k. IsRight k c y) (sym a) (subst (λ k. IsRight row k y) (sym b)
          (subst (IsRight row column) same is))
      | inr old ↦ before.right r c y old
    ];
    whole = λ r c lt e wanted. before.whole r c lt (put_none r c e).0 wanted;
  }

module _ {E : Type 0} (IsRight : ℕ → ℕ → E → Type 0) (IsWanted : ℕ → ℕ → Type 0) where
  -- no row is filled
  pub filled_none : (f : Entries E) → ((r c : ℕ) → f r c ≡ None) → AreFilledTo IsRight IsWanted 0 f
  filled_none f none = record {
    right = λ r c x e. absurd (let no : None ≡ Some x = sym (none r c) ∙ e in cc);
    whole = λ r c lt e wanted. omega (arith, lt);
  }

  -- one more row is filled
  pub filled_more : (f : Entries E) (n : ℕ) → AreFilledTo IsRight IsWanted n f
      → ((c : ℕ) → f n c ≡ None → IsWanted n c → ⊥) → AreFilledTo IsRight IsWanted (n + 1) f
  filled_more f n before row = record {
    right = before.right;
    whole = λ r c lt e wanted. elim (cases_eq r n) [
      | inl same ↦ row c (subst (λ k. f k c ≡ None) same e) (subst (λ k. IsWanted k c) same wanted)
      | inr other ↦ before.whole r c (omega (arith, lt, other)) e wanted
    ];
  }

-- THE TABLES

no_default : (n k p : ℕ) → slice_get (map (option_map (λ (q : RuleNo). q.0)) (replicate n None)) k ≢ Some (Some p)
no_default zero k p e = cc
no_default (suc n) zero p e = cc
no_default (suc n) (suc k) p e = no_default n k p e

module _ (s : Spec) (M : Lr0Automaton) (is : IsLr0Automaton M) (useful : KeepsUseful s.grammar M.grammar)
    (terminals nonterminals : ℕ) (actions : Entries code.TableAction) (gotos : Entries StateNo)
    (defaults : List (Option RuleNo)) (rules : List rule.TableRule) (is_terminals : terminals ≡ s.grammar.terminals)
    (is_nonterminals : nonterminals ≡ s.grammar.accept) (are_none : defaults ≡ replicate (length M.states) None)
    (done : AreActionsTo M (judge_of s) (length M.states) actions) (led : AreGotosTo M (length M.states) gotos)
    (all : AreRulesTo s (length s.grammar.rules) (map rule_from rules)) where
  count : length defaults ≡ length M.states
  count = ap length are_none ∙ length-replicate (length M.states) None

  abbrev made : Machine
  made = machine_from terminals nonterminals actions gotos defaults rules

  goto_same : (k A : ℕ) → k < length M.states → gotos_from gotos k A ≡ goto_of M k (nonterminal A)
  goto_same k A lt = by (gotos k A) refl where
    by : (o : Option StateNo) → gotos k A ≡ o → option_map (λ (s : StateNo). s.0) o ≡ goto_of M k (nonterminal A)
    by (Some s) e = sym (led.right k A s e)
    by None e = by_goto (goto_of M k (nonterminal A)) refl where
      by_goto : (o : Option ℕ) → goto_of M k (nonterminal A) ≡ o → None ≡ goto_of M k (nonterminal A)
      by_goto None e' = sym e'
      by_goto (Some r) e' = absurd (led.whole k A lt e (r, e'))

  pub are_tables : AreTables s M made
  are_tables = record {
    terminals = is_terminals ∙ sym useful.terminals;
    nonterminals = is_nonterminals ∙ sym useful.accept;
    states = length-map defaults (option_map (λ (p : RuleNo). p.0)) ∙ count;
    some = λ k t a lt e.
        let there = cell-grid_of_some (length defaults) terminals (actions_from actions) k t a e in
        let x = option_map-some action_from (actions k t) a there.2 in
        let d = done.right k t x.0 x.1 in
        (d.0, d.1, subst (IsEntryFor M k t d.0) x.2 d.2);
    none = λ k t lt within e a raw.
        done.whole k t lt (option_map-none action_from (actions k t)
        (sym (cell-grid_of (length defaults) terminals (actions_from actions) k t (omega (arith, lt, count))
        (let same = is_terminals ∙ sym useful.terminals in omega (arith, within, same))) ∙ e)) (a, raw);
    gotos = λ k A lt within.
        cell-grid_of (length defaults) nonterminals (gotos_from gotos) k A (omega (arith, lt, count))
        (let same = is_nonterminals ∙ sym useful.accept in omega (arith, within, same))
        ∙ goto_same k A lt;
    rules = λ p r le rule. all.these p r le (slice_get_within s.grammar.rules p (Some r) rule) rule;
    numbers = all.numbers;
    no_default = λ k p e. no_default (length M.states) k p
        (ap (λ ds. slice_get (map (option_map (λ (q : RuleNo). q.0)) ds) k) (sym are_none) ∙ e);
  }

  legal : (k t : ℕ) (a : TableAction) (b : Action) → IsAction M.grammar (judge_of s) (prefix_of M k) t b
      → IsEntryFor M k t b a → IsLegal made t a
  legal k t (table.shift r) shift taken is' =
      let lt = leads_to M is k (terminal t) r is'.1 in
      let long = length-map defaults (option_map (λ (p : RuleNo). p.0)) in
      (omega (arith, lt, long, count), is'.0)
  legal k t table.accept shift taken is' = is'
  legal k t (table.reduce q) shift taken is' = absurd is'
  legal k t table.error shift taken is' = absurd is'
  legal k t (table.shift r) (reduce p) taken is' = absurd is'
  legal k t table.accept (reduce p) taken is' = absurd is'
  legal k t table.error (reduce p) taken is' = absurd is'
  legal k t (table.reduce q) (reduce p) taken is' =
      let raw = taken.0.0 in
      let body = body_of raw.1.valid in
      let lt = slice_get_within M.grammar.rules p (Some body.0) body.1 in
      let some = raw.0 in
      let same = useful.numbers in
      let long = all.numbers in
      (omega (arith, some, is'), omega (arith, lt, same, long, is'))
  legal k t (table.shift r) error taken is' = absurd is'
  legal k t table.accept error taken is' = absurd is'
  legal k t (table.reduce q) error taken is' = absurd is'
  legal k t table.error error taken is' = tt

  pub is_machine : IsGrammar s.grammar → AreShapesWithin s → IsMachine made
  is_machine lawful shapes = record {
    bottom = let some = is.some in let long = are_tables.states in omega (arith, some, long);
    actions = λ k t a e.
        let there = cell-grid_of_some (length defaults) terminals (actions_from actions) k t a e in
        let row = there.0 in
        let d = are_tables.some k t a (omega (arith, row, count)) e in
        legal k t a d.0 d.1 d.2;
    defaults = λ k p e. absurd (are_tables.no_default k p e);
    gotos = λ k A next e.
        let there = cell-grid_of_some (length defaults) nonterminals (gotos_from gotos) k A next e in
        let row = there.0 in
        let lt = leads_to M is k (nonterminal A) next
        (sym (goto_same k A (omega (arith, row, count))) ∙ there.2) in
        let long = are_tables.states in
        omega (arith, lt, long);
    rules = λ j d lt. within j d lt;
  }
    where
      within : (j : ℕ) (d : TableRule) → j < length (map rule_from rules)
          → IsRuleWithin nonterminals (slice_index_or (map rule_from rules) j d)
      within j d lt =
          let long = all.numbers in
          let less : suc j < length s.grammar.rules = omega (arith, lt, long) in
          let has = lawful.whole (suc j) less in
          let place : suc j - 1 ≡ j = omega arith in
          let x : TableRule = record {
            left = has.0.left;
            body_length = length has.0.body;
            shape = shape_in s (suc j);
          } in
          let at : slice_get (map rule_from rules) j ≡ Some x
          = subst (λ k. slice_get (map rule_from rules) k ≡ Some x) place
          (all.these (suc j) has.0 (omega arith) less has.1) in
          let left = (lawful.augmented.within (suc j) has.0 has.1 (omega arith)).left in
          subst (IsRuleWithin nonterminals) (sym (get_or_from_slice_get (map rule_from rules) j x d at)) (record {
            left = omega (arith, left, is_nonterminals);
            shape = shapes (suc j) has.0 (omega arith) has.1;
          })
