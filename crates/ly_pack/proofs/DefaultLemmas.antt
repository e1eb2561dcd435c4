-- A machine with its defaults.
use Rattle.std.proofs.Common.{◌≡◌, ◌∙◌, ◌<◌, ◌≤◌, ◌+◌, ◌++◌, ◌∷◌, [], ℕ, zero, suc, List, length, map, Option, Some}
use Rattle.std.proofs.Common.{None}
use Rattle.std.proofs.Common.{refl, sym, ap, subst, arith, inl, inr, get_or, slice_get, nat_eq, Bool, true, false}
use Rattle.std.specs.Prelude.{filter, if◌then◌else◌, option_map}
use Rattle.std.specs.List.{range_with_len}
use Rattle.std.proofs.Math.ListN.{length-map}
use Rattle.std.proofs.lemmas.Bool.{cases_lt, eqb-true, false≢true}
use Rattle.std.proofs.lemmas.List.Elements.{filter-append}
use Rattle.std.proofs.lemmas.Option.{same_Some, none-some, slice_get_within, slice_get-get_or, slice_get-map}
use Rattle.ly_base.specs.declared.numbers.RuleNo.{RuleNo}
use Rattle.ly_base.specs.declared.numbers.StateNo.{StateNo}
use Rattle.ly_pack.specs.Defaults.{HasDefaultsOf, IsDefaultOf, count_by, is_by, without}
use Rattle.ly_pack.specs.Machine.{IsLegal, IsMachine, IsRuleNumber, Machine, TableAction, accept, entry_at, error}
use Rattle.ly_pack.specs.Machine.{reduce, shift, states_of}
use Rattle.ly_pack.specs.Private.Tally.{HaveDefaults, IsChosen, out_by, reductions}
use Rattle.ly_pack.specs.Rows.{Dense, Entries, cell, dense_entry, grid_of}
use Rattle.ly_pack.specs.Values.{action_from, actions_from, gotos_from, machine_from}
use Rattle.ly_pack.specs.declared.action.TableAction as code
use Rattle.ly_pack.specs.declared.action.TableAction.TheVariants.{Accept, Error, Reduce, Shift}
use Rattle.ly_pack.specs.declared.rule.TableRule as rule
use Rattle.ly_pack.proofs.GridLemmas.{cell-grid_of, cell-grid_of_past}
use Rattle.ly_pack.proofs.OrderLemmas.{range-more}
use Rattle.ly_pack.proofs.TallyLemmas.{chosen_same, reductions_in}

-- tests that agree below a number keep the same numbers
filter_below : (f g : ℕ → Bool) (n : ℕ) → ((t : ℕ) → t < n → f t ≡ g t)
    → filter f (range_with_len 0 n) ≡ filter g (range_with_len 0 n)
filter_below f g zero same = refl
filter_below f g (suc n) same = ap (filter f) (range-more 0 n) ∙ filter-append f (range_with_len 0 n) ((0 + n) ∷ [])
    ∙ ap (λ xs. xs ++ filter f ((0 + n) ∷ [])) (filter_below f g n (λ t lt. same t (omega (arith, lt))))
    ∙ ap (λ (b : Bool). filter g (range_with_len 0 n) ++ (if b then (0 + n) ∷ [] else [])) (same (0 + n) (omega arith))
    ∙ sym (filter-append g (range_with_len 0 n) ((0 + n) ∷ [])) ∙ ap (filter g) (sym (range-more 0 n))

map_at : {X Y : Type 0} (f : X → Y) (xs : List X) (k : ℕ) (y : Y) → slice_get (map f xs) k ≡ Some y
    → (x : X) × (slice_get xs k ≡ Some x) × (f x ≡ y)
map_at {X} {Y} f xs k y is = go (slice_get xs k) refl
  where
    go : (o : Option X) → slice_get xs k ≡ o → (x : X) × (slice_get xs k ≡ Some x) × (f x ≡ y)
    go None at = absurd (none-some y (sym (slice_get-map f xs k ∙ ap (option_map f) at) ∙ is))
    go (Some x) at = (x, at, same_Some (f x) y (sym (slice_get-map f xs k ∙ ap (option_map f) at) ∙ is))

is_by_some : (p : ℕ) (a : Option TableAction) → is_by p a ≡ true → a ≡ Some (reduce p)
is_by_some p None is = absurd (false≢true is)
is_by_some p (Some (shift s)) is = absurd (false≢true is)
is_by_some p (Some (reduce q)) is = ap (λ k. Some (reduce k)) (sym (eqb-true p q is))
is_by_some p (Some accept) is = absurd (false≢true is)
is_by_some p (Some error) is = absurd (false≢true is)

without_none : (d : Option ℕ) → without d None ≡ None
without_none None = refl
without_none (Some p) = refl

-- an entry that is left is the one that was there
pub without_some : (d : Option ℕ) (x : Option TableAction) (a : TableAction) → without d x ≡ Some a → x ≡ Some a
without_some None x a is = is
without_some (Some p) x a is = go (is_by p x) is
  where
    go : (b : Bool) → (if b then None else x) ≡ Some a → x ≡ Some a
    go true e = absurd (none-some a e)
    go false e = e

out_if : (b : Bool) (q : RuleNo) → option_map action_from (if b then None else Some (Reduce q))
    ≡ (if b then None else Some (reduce q.0))
out_if true q = refl
out_if false q = refl

out_is : (d : Option RuleNo) (a : Option code.TableAction) → option_map action_from (out_by d a)
    ≡ without (option_map (λ p. p.0) d) (option_map action_from a)
out_is None a = refl
out_is (Some p) None = refl
out_is (Some p) (Some (Shift s)) = refl
out_is (Some p) (Some (Reduce q)) = out_if (nat_eq p.0 q.0) q
out_is (Some p) (Some Accept) = refl
out_is (Some p) (Some Error) = refl

default_is : (m : Machine) (state : ℕ) (d : Option RuleNo) → IsChosen (count_by m state) d
    → IsDefaultOf m state (option_map (λ p. p.0) d)
default_is m state None is = is
default_is m state (Some p) is = record { some = is.some; most = is.most }

-- an action names what is there in a machine with as many states and as many rules
legal_same : (m n : Machine) (t : ℕ) (a : TableAction) → states_of n ≡ states_of m → n.rules ≡ m.rules → IsLegal m t a
    → IsLegal n t a
legal_same m n t (shift s) states rules is = (omega (arith, is.0, states), is.1)
legal_same m n t (reduce p) states rules is = (is.0, omega (arith, is.1, ap length rules))
legal_same m n t accept states rules is = is
legal_same m n t error states rules is = is

module _ (terminals nonterminals : ℕ) (old new : Dense code.TableAction) (gotos : Entries StateNo)
    (before defaults : List (Option RuleNo)) (rules : List rule.TableRule) (long : length defaults ≡ length before)
  where
    -- the machine before, and with the defaults
    abbrev first : Machine
    first = machine_from terminals nonterminals (dense_entry old) gotos before rules

    abbrev last : Machine
    last = machine_from terminals nonterminals (dense_entry new) gotos defaults rules

    states_same : states_of last ≡ states_of first
    states_same = length-map defaults (option_map (λ p. p.0)) ∙ long ∙ sym (length-map before (option_map (λ p. p.0)))

    entry_first : (state t : ℕ) → state < length before → t < terminals
        → entry_at first state t ≡ option_map action_from (dense_entry old state t)
    entry_first state t row column = cell-grid_of (length before) terminals (actions_from (dense_entry old)) state t row
        column

    long_last : length last.defaults ≡ length defaults
    long_last = length-map defaults (option_map (λ p. p.0))

    -- a rule that is counted is one of the machine's
    pub counted_legal : IsMachine first → (state p : ℕ) → state < length before
        → 1 ≤ reductions (dense_entry old) terminals state p → IsRuleNumber first p
    counted_legal so state p row some = let found = reductions_in (dense_entry old) state p terminals some in
        so.actions state found.0 (reduce p) (entry_first state found.0 row found.1
        ∙ is_by_some p (option_map action_from (dense_entry old state found.0)) found.2)

    module _ (so : HaveDefaults terminals old new defaults) where
      count_is : (state p : ℕ) → state < length before
          → reductions (dense_entry old) terminals state p ≡ count_by first state p
      count_is state p row = ap length (filter_below (λ t. is_by p (actions_from (dense_entry old) state t))
          (λ t. is_by p (entry_at first state t)) terminals (λ t column. ap (is_by p) (sym (entry_first state t row
          column))))

      default_at : (state : ℕ) (d : Option ℕ) → slice_get last.defaults state ≡ Some d
          → (e : Option RuleNo) × (slice_get defaults state ≡ Some e) × (option_map (λ p. p.0) e ≡ d)
      default_at state d is = map_at (option_map (λ p. p.0)) defaults state d is

      defaults_are : (state : ℕ) (d : Option ℕ) → slice_get last.defaults state ≡ Some d → IsDefaultOf first state d
      defaults_are state d is = let e = default_at state d is in
          let within = slice_get_within defaults state e.0 e.1 in
          subst (IsDefaultOf first state) e.2 (default_is first state e.0 (chosen_same
          (reductions (dense_entry old) terminals state) (count_by first state) e.0
          (λ p. count_is state p (omega (arith, within, long))) (so.chosen state e.0 e.1)))

      actions_are : (state t : ℕ) (d : Option ℕ) → slice_get last.defaults state ≡ Some d
          → entry_at last state t ≡ without d (entry_at first state t)
      actions_are state t d is = let e = default_at state d is in
          let within = slice_get_within defaults state e.0 e.1 in
          elim (cases_lt t terminals) [
            | inl column ↦ cell-grid_of (length defaults) terminals (actions_from
                (dense_entry new)) state t within column
                ∙ ap (option_map action_from) (so.taken state t e.0 e.1 column)
                ∙ out_is e.0 (dense_entry old state t)
                ∙ ap (λ f. without f (option_map action_from (dense_entry old state t))) e.2
                ∙ ap (without d) (sym (entry_first state t (omega (arith, within, long)) column))
            | inr past ↦ cell-grid_of_past (length defaults) terminals (actions_from (dense_entry new)) state t
                (inr past)
                ∙ sym (without_none d)
                ∙ ap (without d) (sym (cell-grid_of_past (length before) terminals (actions_from
                (dense_entry old)) state t
                (inr past)))
          ]

      gotos_same : last.gotos ≡ first.gotos
      gotos_same = ap (λ n. grid_of n nonterminals (gotos_from gotos)) long

      pub has_defaults : HasDefaultsOf first last
      has_defaults = record {
        terminals = refl;
        nonterminals = refl;
        states = states_same;
        defaults = defaults_are;
        actions = actions_are;
        gotos = gotos_same;
        rules = refl;
      }

      -- a state of the machine has a default, or none
      some_default : (state : ℕ) → state < length defaults → (d : Option ℕ) × (slice_get last.defaults state ≡ Some d)
      some_default state lt = (
        get_or last.defaults state None,
        slice_get-get_or last.defaults state None (omega (arith, lt, long_last)),
      )

      legal_at : IsMachine first → (state t : ℕ) (a : TableAction) → entry_at last state t ≡ Some a → IsLegal last t a
      legal_at machine state t a is = elim (cases_lt state (length defaults)) [
        | inr past ↦ absurd (none-some a (sym (cell-grid_of_past (length defaults) terminals (actions_from
            (dense_entry new))
            state t (inl past)) ∙ is))
        | inl lt ↦ let d = some_default state lt in
            legal_same first last t a states_same refl (machine.actions state t a (without_some d.0
            (entry_at first state t) a
            (sym (actions_are state t d.0 d.1) ∙ is)))
      ]

      rule_at : IsMachine first → (state p : ℕ) → slice_get last.defaults state ≡ Some (Some p) → IsRuleNumber last p
      rule_at machine state p is = let e = default_at state (Some p) is in
          let within = slice_get_within defaults state e.0 e.1 in
          let most = defaults_are state (Some p) is in
          counted_legal machine state p (omega (arith, within, long)) (subst (λ n. 1 ≤ n) (sym (count_is state p
          (omega (arith, within, long)))) most.some)

      pub still_machine : IsMachine first → IsMachine last
      still_machine machine = record {
        bottom = let some = machine.bottom in omega (arith, some, states_same);
        actions = legal_at machine;
        defaults = rule_at machine;
        gotos = λ state left next is. let lt = machine.gotos state left next (ap (λ g. cell g state left)
            (sym gotos_same)
            ∙ is) in omega (arith, lt, states_same);
        rules = machine.rules;
      }
