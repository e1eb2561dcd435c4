-- Rows written out, and what a machine's grids are.
use Rattle.std.proofs.Common.{◌≡◌, ◌∙◌, ◌<◌, ◌≤◌, ℕ, List, map, Option, Some, None}
use Rattle.std.proofs.Common.{sym, ap, subst, arith, inl, inr, length, ◌⊎◌, slice_get}
use Rattle.std.specs.Prelude.{option_map, option_and_then}
use Rattle.std.specs.List.{range_with_len}
use Rattle.std.proofs.lemmas.Bool.{cases_lt}
use Rattle.std.proofs.Math.ListN.{length-map}
use Rattle.std.proofs.lemmas.List.FromFn.{length-range_with_len}
use Rattle.std.proofs.lemmas.Option.{none-some, slice_get-map, slice_get_past}
use Rattle.ly_base.specs.declared.numbers.RuleNo.{RuleNo}
use Rattle.ly_base.specs.declared.numbers.StateNo.{StateNo}
use Rattle.ly_base.proofs.ListLemmas.{slice_get-range}
use Rattle.ly_pack.specs.Machine.{Machine, entry_at, goto_at, states_of}
use Rattle.ly_pack.specs.Rows.{Entries, cell, grid_of}
use Rattle.ly_pack.specs.Values.{actions_from, gotos_from, machine_from}
use Rattle.ly_pack.specs.declared.action.TableAction as code
use Rattle.ly_pack.specs.declared.rule.TableRule as rule

-- the k-th of a list that is made by number
pub slice_get-made : {X : Type 0} (f : ℕ → X) (n k : ℕ) → k < n → slice_get (map f (range_with_len 0 n)) k ≡ Some (f k)
slice_get-made f n k lt = slice_get-map f (range_with_len 0 n) k
    ∙ ap (option_map f) (slice_get-range n k lt)

pub slice_get-made_past : {X : Type 0} (f : ℕ → X) (n k : ℕ) → n ≤ k
    → slice_get (map f (range_with_len 0 n)) k ≡ None
slice_get-made_past f n k le = slice_get-map f (range_with_len 0 n) k
    ∙ ap (option_map f) (slice_get_past (range_with_len 0 n) k (omega (arith, length-range_with_len 0 n)))

pub cell-grid_of : {E : Type 0} (rows width : ℕ) (f : Entries E) (r c : ℕ) → r < rows → c < width
    → cell (grid_of rows width f) r c ≡ f r c
cell-grid_of {E} rows width f r c row column =
    ap (option_and_then (λ (cells : List (Option E)). option_and_then (λ e. e) (slice_get cells c)))
    (slice_get-made (λ row. map (f row) (range_with_len 0 width)) rows r row)
    ∙ ap (option_and_then (λ (e : Option E). e)) (slice_get-made (f r) width c column)

past_rows : {E : Type 0} (rows width : ℕ) (f : Entries E) (r c : ℕ) → rows ≤ r → cell (grid_of rows width f) r c ≡ None
past_rows {E} rows width f r c past =
    ap (option_and_then (λ (cells : List (Option E)). option_and_then (λ e. e) (slice_get cells c)))
    (slice_get-made_past (λ row. map (f row) (range_with_len 0 width)) rows r past)

pub cell-grid_of_past : {E : Type 0} (rows width : ℕ) (f : Entries E) (r c : ℕ) → (rows ≤ r) ⊎ (width ≤ c)
    → cell (grid_of rows width f) r c ≡ None
cell-grid_of_past rows width f r c (inl past) = past_rows rows width f r c past
cell-grid_of_past {E} rows width f r c (inr past) = elim (cases_lt r rows) [
  | inl row ↦ ap (option_and_then (λ (cells : List (Option E)). option_and_then (λ e. e) (slice_get cells c)))
      (slice_get-made (λ row. map (f row) (range_with_len 0 width)) rows r row)
      ∙ ap (option_and_then (λ (e : Option E). e)) (slice_get-made_past (f r) width c past)
  | inr none ↦ past_rows rows width f r c none
]

-- an entry that is there stands in a row and a column that are there
pub cell-grid_of_some : {E : Type 0} (rows width : ℕ) (f : Entries E) (r c : ℕ) (e : E)
    → cell (grid_of rows width f) r c ≡ Some e → (r < rows) × (c < width) × (f r c ≡ Some e)
cell-grid_of_some rows width f r c e is = elim (cases_lt r rows) [
  | inr past ↦ absurd (none-some e (sym (cell-grid_of_past rows width f r c (inl past)) ∙ is))
  | inl row ↦ elim (cases_lt c width) [
    | inr past ↦ absurd (none-some e (sym (cell-grid_of_past rows width f r c (inr past)) ∙ is))
    | inl column ↦ (row, column, sym (cell-grid_of rows width f r c row column) ∙ is)
  ]
]

-- what a machine's grids are
module _ (m : Machine) (terminals nonterminals : ℕ) (actions : Entries code.TableAction) (gotos : Entries StateNo)
    (defaults : List (Option RuleNo)) (rules : List rule.TableRule)
    (so : machine_from terminals nonterminals actions gotos defaults rules ≡ m) where
  pub states-machine : length defaults ≡ states_of m
  states-machine = sym (length-map defaults (option_map (λ (p : RuleNo). p.0))) ∙ ap states_of so

  pub actions-machine : m.actions ≡ grid_of (states_of m) m.terminals (actions_from actions)
  actions-machine = subst (λ n. n.actions ≡ grid_of (states_of n) n.terminals (actions_from actions)) so
      (ap (λ n. grid_of n terminals (actions_from actions)) (sym (length-map defaults (option_map (λ
      (p : RuleNo). p.0)))))

  pub gotos-machine : m.gotos ≡ grid_of (states_of m) m.nonterminals (gotos_from gotos)
  gotos-machine = subst (λ n. n.gotos ≡ grid_of (states_of n) n.nonterminals (gotos_from gotos)) so
      (ap (λ n. grid_of n nonterminals (gotos_from gotos)) (sym (length-map defaults (option_map (λ
      (p : RuleNo). p.0)))))

  pub entry_at-machine : (state t : ℕ) → state < states_of m → t < m.terminals
      → entry_at m state t ≡ actions_from actions state t
  entry_at-machine state t row column = ap (λ g. cell g state t) actions-machine
      ∙ cell-grid_of (states_of m) m.terminals (actions_from actions) state t row column

  pub goto_at-machine : (state left : ℕ) → state < states_of m → left < m.nonterminals
      → goto_at m state left ≡ gotos_from gotos state left
  goto_at-machine state left row column = ap (λ g. cell g state left) gotos-machine
      ∙ cell-grid_of (states_of m) m.nonterminals (gotos_from gotos) state left row column
