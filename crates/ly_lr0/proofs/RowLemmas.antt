-- The states of an automaton that is built of links and rows: each has a row, which says of it all but its prefix.
use Rattle.std.proofs.Common.{Bool, ◌≡◌, ◌∙◌, ◌<◌, ℕ, suc, List, [], Some, ap, arith, length, map, subst, sym}
use Rattle.std.specs.Prelude.{filter, slice_get, slice_index_or}
use Rattle.std.proofs.lemmas.List.Kept.{AllPairs-filter}
use Rattle.ly_join.specs.Grammar.{Grammar, Symbol, symbol_of}
use Rattle.ly_lr0.specs.Automaton.{IsLess, IsLr0Automaton, Lr0Automaton, goto_of, is_terminal, prefix_of, state_at}
use Rattle.ly_lr0.specs.Automaton.{target_of}
use Rattle.ly_lr0.specs.declared.transition.Link as link
use Rattle.ly_lr0.specs.declared.transition.Row.{Row}
use Rattle.ly_lr0.specs.declared.transition.Transition as code
use Rattle.ly_lr0.specs.Private.Built.{AreInOrder, IsBuilt, automaton_from, link_of, prefixes_of, transitions_of}
use Rattle.ly_lr0.specs.Transitions.{transition_of}
use Rattle.ly_lr0.proofs.ShiftLemmas.{is_of, kind_alone, kind_leads, of_kind}
use Rattle.ly_lr0.proofs.StateLemmas.{count_of, goes_by, no_links_prefix, prefix_of_built, prefix_step, state_of}
use Rattle.ly_lr0.proofs.StateLemmas.{state_there}

module _ {G : Grammar} {links : List link.Link} {rows : List Row} {lists : List (List ℕ)} {M : Lr0Automaton}
    (built : IsBuilt G links rows lists) (view : automaton_from G links rows ≡ M) where
  pub is_automaton : IsLr0Automaton M
  is_automaton = subst IsLr0Automaton view built.automaton

  -- there is a row for each state
  pub count_rows : length rows ≡ length M.states
  count_rows = sym (count_of links rows built.count) ∙ ap (λ (N : Lr0Automaton). length N.states) view

  -- so that of a state is there
  pub row_there : (s : ℕ) → s < length M.states → s < length rows
  row_there s less = omega (arith, less, count_rows)

  -- as is the link of any state but the first
  pub link_there : (k : ℕ) → suc k < length M.states → k < length links
  link_there k less = omega (arith, less, count_rows, built.count)

  -- the prefix of a state is that of the links, which ends with the symbol of its own
  pub prefix_by_links : (s : ℕ) → slice_index_or (prefixes_of (map link_of links)) s [] ≡ prefix_of M s
  prefix_by_links s = prefix_of_built G links rows s built.count ∙ ap (λ N. prefix_of N s) view

  pub first_by_links : (s : ℕ) → s ≡ 0 → prefix_of M s ≡ []
  first_by_links s first = ap (prefix_of M) first ∙ sym (prefix_by_links 0) ∙ no_links_prefix links

  pub last_by_link : (s k : ℕ) → suc k ≡ s → s < length M.states → (l : link.Link) → l ≡ slice_index_or links k l
      → slice_get (prefix_of M s) 0 ≡ Some (symbol_of l.symbol)
  last_by_link s k later less l is =
      sym (ap (λ g. slice_get g 0) (prefix_step links [] k l l built.back (link_there k (omega (arith, later, less))) is
      ∙ prefix_by_links (suc k) ∙ ap (prefix_of M) later))

  -- its row says the rest
  module _ (s : ℕ) (less : s < length M.states) (row : Row) (is : row ≡ slice_index_or rows s row) where
    by_row : state_at M s ≡ record {
      prefix = slice_index_or (prefixes_of (map link_of links)) s [];
      transitions = transitions_of row;
      complete = row.complete.items;
    }
    by_row = sym (ap (λ N. state_at N s) view) ∙ state_of G links rows s row built.count (row_there s less) is

    pub row_complete : row.complete.items ≡ (state_at M s).complete
    row_complete = ap (λ q. q.complete) (sym by_row)

    -- its transitions of a kind are those of the state
    module _ (kind : Bool) {ts : List code.Transition} (those : ts ≡ of_kind kind row) where
      pub row_of_kind : map transition_of ts ≡ filter (is_of kind) (state_at M s).transitions
      row_of_kind = ap (map transition_of) those ∙ sym (kind_alone row kind)
          ∙ ap (λ q. filter (is_of kind) q.transitions) (sym by_row)

      -- in their order
      pub row_ordered : AreInOrder (map transition_of ts)
      row_ordered = subst AreInOrder (sym row_of_kind)
          (AllPairs-filter (λ t u. IsLess t.symbol u.symbol) (is_of kind) (state_at M s).transitions
          (is_automaton.each s (state_at M s) (state_there M s less)).ordered)

      -- and say where symbols of the kind lead
      pub row_leads : (X : Symbol) → is_terminal X ≡ kind → target_of (map transition_of ts) X ≡ goto_of M s X
      row_leads X of = ap (λ us. target_of us X) row_of_kind ∙ kind_leads kind X of (state_at M s).transitions
          ∙ sym (goes_by M s X less)
