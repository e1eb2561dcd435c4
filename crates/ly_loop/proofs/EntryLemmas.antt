-- The entries and the gotos of states, as rows list them.
use Rattle.std.proofs.Common.{◌≡◌, ◌∙◌, ◌<◌, ℕ, List, ap, arith, refl, sym}
use Rattle.std.specs.Prelude.{option_map}
use Rattle.std.proofs.lemmas.List.Elements.{All-contains}
use Rattle.std.proofs.lemmas.Option.{slice_get_within}
use Rattle.ly_base.proofs.ListLemmas.{option_map-some}
use Rattle.ly_base.specs.declared.numbers.StateNo.{StateNo}
use Rattle.ly_pack.specs.Machine.{Machine, states_of}
use Rattle.ly_pack.specs.Rows.{AreAllCellsOf, Counted, Entries, cell, grid_of}
use Rattle.ly_pack.specs.Values.{action_from, actions_from, gotos_from}
use Rattle.ly_pack.specs.declared.action.TableAction as code
use Rattle.ly_pack.specs.declared.action.TableAction.TheVariants.{Shift}
use Rattle.ly_pack.specs.declared.cell.Cell.{Cell}
use Rattle.ly_pack.proofs.GridLemmas.{cell-grid_of, cell-grid_of_some}
use Rattle.ly_loop.specs.Private.Entries.{AreAllEntries, AreAllGotos}

pub entries_are : (m : Machine) (entries : Entries code.TableAction) (rows width : ℕ)
    (lists : List (Counted code.TableAction))
    → m.actions ≡ grid_of (states_of m) m.terminals (actions_from entries) → rows ≡ states_of m → width ≡ m.terminals
    → AreAllCellsOf entries rows width lists → AreAllEntries m lists
entries_are m entries rows width lists grid many wide so = record {
  count = so.count ∙ many;
  each = λ state row at.
      let row_lt = slice_get_within lists state row at in
      let small : state < states_of m = omega (arith, row_lt, so.count, many) in
      record {
        sound = λ e has.
            let lt = All-contains (λ (c : Cell code.TableAction). c.column < width) row.value.items e
            (so.within state row at) has in
            let column : e.column < m.terminals = omega (arith, lt, wide) in (
              column,
              ap (λ g. cell g state e.column) grid
                  ∙ cell-grid_of (states_of m) m.terminals (actions_from entries) state e.column small column
                  ∙ ap (option_map action_from) ((so.each state row at).sound e has),
            );
        whole = λ t a is.
            let found = cell-grid_of_some (states_of m) m.terminals (actions_from entries) state t a
            (sym (ap (λ g. cell g state t) grid) ∙ is) in
            let e = option_map-some action_from (entries state t) a found.2 in
            (record { column = t; entry = e.0 }, (so.each state row at).whole t e.0 e.1, refl, e.2);
      };
}

pub gotos_are : (m : Machine) (entries : Entries StateNo) (rows width : ℕ) (lists : List (Counted StateNo))
    → m.gotos ≡ grid_of (states_of m) m.nonterminals (gotos_from entries) → rows ≡ states_of m
    → width ≡ m.nonterminals → AreAllCellsOf entries rows width lists → AreAllGotos m lists
gotos_are m entries rows width lists grid many wide so = record {
  count = so.count ∙ many;
  each = λ state row at.
      let row_lt = slice_get_within lists state row at in
      let small : state < states_of m = omega (arith, row_lt, so.count, many) in
      record {
        sound = λ e has.
            let lt = All-contains (λ (c : Cell StateNo). c.column < width) row.value.items e
            (so.within state row at) has in
            ap (λ g. cell g state e.column) grid
            ∙ cell-grid_of (states_of m) m.nonterminals (gotos_from entries) state e.column small
            (omega (arith, lt, wide))
            ∙ ap (option_map (λ (s : StateNo). s.0)) ((so.each state row at).sound e has);
        whole = λ left next is.
            let found = cell-grid_of_some (states_of m) m.nonterminals (gotos_from entries) state left next
            (sym (ap (λ g. cell g state left) grid) ∙ is) in
            let e = option_map-some (λ (s : StateNo). s.0) (entries state left) next found.2 in
            (record { column = left; entry = e.0 }, (so.each state row at).whole left e.0 e.1, e.2);
      };
}

-- what indexing gives past the end
abbrev pub no_entry : Cell code.TableAction
no_entry = record { column = 0; entry = Shift (record { 0 = 0 }) }

abbrev pub no_goto : Cell StateNo
no_goto = record { column = 0; entry = record { 0 = 0 } }
