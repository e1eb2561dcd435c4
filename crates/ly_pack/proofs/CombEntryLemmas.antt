-- The entry of a row and a column of a comb, by how far the way to its slot goes.
use Rattle.std.proofs.Common.{◌≡◌, ◌∙◌, ◌<◌, ◌≤◌, ◌+◌, ◌-◌, ℕ, List, Option, Some, None, refl, sym, ap, subst, arith}
use Rattle.std.proofs.Common.{drop, false, get_or, length, lt-ltb, nat_eq, nat_lt, slice_get, take, true}
use Rattle.std.specs.Prelude.{option_and_then, option_map}
use Rattle.std.proofs.lemmas.Bool.{cond-false, cond-true, le-ltb}
use Rattle.std.proofs.lemmas.List.{get_or-drop, length-drop, take_all}
use Rattle.std.proofs.lemmas.Option.{slice_get-map, slice_get_past, slice_get_read}
use Rattle.ly_pack.specs.Combs.{comb_from, slots_from, used_from}
use Rattle.ly_pack.specs.Rows.{Comb, Used, comb_entry, given_to}
use Rattle.ly_pack.specs.declared.comb_rows.Slot.{Slot}

module _ {E : Type 0} (width : ℕ) (bases : List ℕ) (slots : List (Option (Slot E))) (c : Comb E)
    (view : comb_from width bases slots ≡ c) (row column : ℕ) where
  -- what a base comes to
  abbrev at_base : ℕ → Option E
  at_base base = option_and_then (λ (o : Option (Used E)). option_and_then (given_to row) o)
      (slice_get (slots_from slots) (base + column))

  -- a column that no row has
  pub past_width : width ≤ column → None ≡ comb_entry c row column
  past_width past = subst (λ (d : Comb E). None ≡ comb_entry d row column) view
      (sym (cond-false (nat_lt column width) (option_and_then at_base (slice_get bases row)) None
      (le-ltb column width past)))

  module _ (within : column < width) where
    found : (o : Option ℕ) → slice_get bases row ≡ o → option_and_then at_base o ≡ comb_entry c row column
    found o at = subst (λ (d : Comb E). option_and_then at_base o ≡ comb_entry d row column) view
        (sym (cond-true (nat_lt column width) (option_and_then at_base (slice_get bases row)) None
        (lt-ltb column width within) ∙ ap (option_and_then at_base) at))

    -- a row that is not there
    pub past_bases : (known : List ℕ) → known ≡ bases → length known ≤ row → None ≡ comb_entry c row column
    past_bases known same past = found None (subst (λ w. slice_get w row ≡ None) same (slice_get_past known row past))

    module _ (known : List ℕ) (same : known ≡ bases) (base : ℕ)
        (based : (row < length known) × ((d : ℕ) → base ≡ get_or known row d)) where
      here : at_base base ≡ comb_entry c row column
      here = found (Some base) (subst (λ w. slice_get w row ≡ Some base) same
          (slice_get_read known (length known) row base refl based.0 (based.1 base)))

      module _ (read : List (Option (Slot E))) (seen : read ≡ slots) where
        abbrev rest : List (Option (Slot E))
        rest = take (length read - base) (drop base read)

        all : rest ≡ drop base read
        all = take_all (length read - base) (drop base read) (omega (arith, length-drop base read))

        -- a slot that is not there
        pub past_slots : length rest ≤ column → None ≡ comb_entry c row column
        past_slots past =
            let long = ap (λ w. length w) all in
            let end : length read ≤ base + column = omega (arith, length-drop base read) in
            sym (ap (option_and_then (λ (o : Option (Used E)). option_and_then (given_to row) o))
            (slice_get-map (option_map used_from) slots (base + column)
            ∙ ap (option_map (option_map used_from)) (subst (λ w. slice_get w (base + column) ≡ None) seen
            (slice_get_past read (base + column) end)))) ∙ here

        module _ (o : Option (Slot E))
            (there : (column < length rest) × ((d : Option (Slot E)) → o ≡ get_or rest column d)) where
          slot : slice_get read (base + column) ≡ Some o
          slot =
              let long = ap (λ w. length w) all in
              slice_get_read read (length read) (base + column) o refl
              (omega (arith, there.0, length-drop base read))
              (there.1 o ∙ (ap (λ w. get_or w column o) all ∙ get_or-drop base read column o))

          -- a slot that is there
          pub by_slot : option_and_then (given_to row) (option_map used_from o) ≡ comb_entry c row column
          by_slot = sym (ap (option_and_then (λ (x : Option (Used E)). option_and_then (given_to row) x))
              (slice_get-map (option_map used_from) slots (base + column)
              ∙ ap (option_map (option_map used_from)) (subst (λ w. slice_get w (base + column) ≡ Some o) seen slot)))
              ∙ here

          -- one that no row uses
          pub unused : o ≡ None → None ≡ comb_entry c row column
          unused none = sym (ap (λ (x : Option (Slot E)). option_and_then (given_to row) (option_map used_from x)) none)
              ∙ by_slot

          module _ (s : Slot E) (is : o ≡ Some s) where
            given : given_to row (used_from s) ≡ comb_entry c row column
            given = sym (ap (λ (x : Option (Slot E)). option_and_then (given_to row) (option_map used_from x)) is)
                ∙ by_slot

            -- one that the row uses
            pub its_own : nat_eq s.row.0 row ≡ true → Some s.entry ≡ comb_entry c row column
            its_own same_row = sym (cond-true (nat_eq s.row.0 row) (Some s.entry) None same_row) ∙ given

            -- one that another row uses
            pub others : nat_eq s.row.0 row ≡ false → None ≡ comb_entry c row column
            others other = sym (cond-false (nat_eq s.row.0 row) (Some s.entry) None other) ∙ given
