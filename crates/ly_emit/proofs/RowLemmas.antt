-- What stands in the rows that tables are filled from.
use Rattle.std.proofs.Common.{◌≡◌, ◌∙◌, inl, inr, ℕ, ◌+◌, ◌-◌, ◌<◌, ◌≤◌, List, [], ◌∷◌, ◌++◌}
use Rattle.std.proofs.Common.{Some, ap, arith, length, map, option_map, refl, slice_get, slice_index_or}
use Rattle.std.proofs.Common.{subst, sym}
use Rattle.std.specs.Prelude.{filter}
use Rattle.std.proofs.lemmas.Bool.{cases_eq}
use Rattle.std.proofs.lemmas.List.{length-append, map-append}
use Rattle.std.proofs.lemmas.Option.{get_or_from_slice_get, slice_get-get_or, slice_get-map, slice_get_within}
use Rattle.ly_base.specs.Shape.{shape_of}
use Rattle.ly_base.proofs.ListLemmas.{option_map-some, slice_get-append, slice_get-behind}
use Rattle.ly_join.specs.Grammar.{Grammar, IsAugmented, IsRule, GrammarRule, Symbol, nonterminal, symbol_of}
use Rattle.ly_join.specs.Joined.{Spec, note_of}
use Rattle.ly_join.specs.declared.rule.RuleNote.{RuleNote}
use Rattle.ly_join.proofs.ListLemmas.{member_at, placed}
use Rattle.ly_join.proofs.NumberingLemmas.{filter_in, in_filter}
use Rattle.ly_lr0.specs.Automaton.{Lr0Automaton, IsLr0Automaton, goto_of, is_goto, state_at, target_of}
use Rattle.ly_lr0.specs.Transitions.{transition_of}
use Rattle.ly_lr0.specs.declared.transition.Transition as code
use Rattle.ly_lr0.proofs.StateLemmas.{state_there, target_some}
use Rattle.ly_relate.proofs.GotoLemmas.{goto_at, has_target, nowhere}
use Rattle.ly_relate.proofs.LeaveLemmas.{no_accept_transition, symbol_named}
use Rattle.ly_pack.specs.Values.{rule_from}
use Rattle.ly_pack.specs.declared.rule.TableRule as rule
use Rattle.ly_resolve.proofs.RawLemmas.{raw_within}
use Rattle.ly_resolve.specs.Actions.{Action, IsAction, IsRaw, Judge, error, reduce, shift}
use Rattle.ly_resolve.specs.Resolved.{IsRow}
use Rattle.ly_resolve.specs.Values.{action_from, terminal_action_from}
use Rattle.ly_resolve.specs.declared.action.TerminalAction as entry
use Rattle.ly_emit.specs.Private.Filling.{AreRulesTo}
use Rattle.ly_emit.specs.Tables.{shape_from, shape_in}

-- TRANSITIONS

module _ (M : Lr0Automaton) (is : IsLr0Automaton M) (k : ℕ) (lt : k < length M.states) where
  module _ (ts : List code.Transition) (e : map transition_of ts ≡ filter is_goto (state_at M k).transitions) where
    -- a transition over a nonterminal leads where the state goes
    pub led_at : (i A : ℕ) → i < length ts → symbol_of (slice_index_or ts i nowhere).symbol ≡ nonterminal A
        → goto_of M k (nonterminal A) ≡ Some (slice_index_or ts i nowhere).target.0
    led_at i A less named =
        let t = transition_of (slice_index_or ts i nowhere) in
        let there = state_there M k lt in
        let at : slice_get (filter is_goto (state_at M k).transitions) i ≡ Some t
        = ap (λ w. slice_get w i) (sym e) ∙ slice_get-map transition_of ts i
        ∙ ap (option_map transition_of) (slice_get-get_or ts i nowhere less) in
        goto_at M k (state_at M k) (nonterminal A) there
        ∙ ap (target_of (state_at M k).transitions) (sym named)
        ∙ has_target (state_at M k).transitions t (is.each k (state_at M k) there).ordered
        (in_filter is_goto (state_at M k).transitions t
        (member_at (filter is_goto (state_at M k).transitions) i t at)).0

    -- and where it goes, a transition leads
    pub found_at : (A s : ℕ) → goto_of M k (nonterminal A) ≡ Some s
        → (j : ℕ) × (j < length ts) × (symbol_of (slice_index_or ts j nowhere).symbol ≡ nonterminal A)
    found_at A s goes =
        let there = state_there M k lt in
        let place = placed (filter is_goto (state_at M k).transitions) (record { symbol = nonterminal A; target = s })
        (filter_in is_goto (state_at M k).transitions (record { symbol = nonterminal A; target = s })
        (target_some (state_at M k).transitions (nonterminal A) s
        (sym (goto_at M k (state_at M k) (nonterminal A) there) ∙ goes)) refl) in
        let x = option_map-some transition_of (slice_get ts place.0) (record { symbol = nonterminal A; target = s })
        (sym (slice_get-map transition_of ts place.0) ∙ ap (λ w. slice_get w place.0) e ∙ place.1) in (
          place.0,
          slice_get_within ts place.0 x.0 x.1,
          ap (λ t. symbol_of t.symbol) (get_or_from_slice_get ts place.0 x.0 nowhere x.1) ∙ ap (λ t. t.symbol) x.2,
        )

  -- a state goes by nonterminals that rules name
  pub led_within : (A s : ℕ) → goto_of M k (nonterminal A) ≡ Some s → A < M.grammar.accept
  led_within A s goes =
      let le = symbol_named M.grammar (goto_of M) is.augmented is.cores goes in
      elim (cases_eq A M.grammar.accept) [
        | inl same ↦ absurd (no_accept_transition M.grammar (goto_of M) is.augmented is.cores
            (subst (λ B. goto_of M k (nonterminal B) ≡ Some s) same goes))
        | inr off ↦ omega (arith, le, off)
      ]

-- ENTRIES

-- an action that is done is asked for, or another is
pub asked_for : (G : Grammar) (judge : Judge) (g : List Symbol) (t : ℕ) (a : Action) → IsAction G judge g t a
    → (b : Action) × IsRaw G g t b
asked_for G judge g t shift taken = (shift, taken.0)
asked_for G judge g t (reduce p) taken = (reduce p, taken.0.0)
asked_for G judge g t error taken = (shift, taken.0)

pub shifted : (G : Grammar) (judge : Judge) (g : List Symbol) (t : ℕ) (a : Action) → IsAction G judge g t a
    → a ≡ shift → IsRaw G g t shift
shifted G judge g t a taken e = (subst (IsAction G judge g t) e taken).0

pub done_within : (G : Grammar) (judge : Judge) (g : List Symbol) (t : ℕ) (a : Action) → IsAugmented G
    → IsAction G judge g t a → t < G.terminals
done_within G judge g t a augmented taken =
    let raw = asked_for G judge g t a taken in raw_within G augmented g t raw.0 raw.1

module _ (row : List entry.TerminalAction) (i : ℕ) (d : entry.TerminalAction) (lt : i < length row) where
  -- the entry of a place
  pub entry_there : slice_get (map terminal_action_from row) i ≡ Some (terminal_action_from (slice_index_or row i d))
  entry_there = slice_get-map terminal_action_from row i
      ∙ ap (option_map terminal_action_from) (slice_get-get_or row i d lt)

  -- is what is done
  pub done_there : (G : Grammar) (judge : Judge) (g : List Symbol) → IsRow G judge g (map terminal_action_from row)
      → IsAction G judge g (slice_index_or row i d).terminal.0 (action_from (slice_index_or row i d).action)
  done_there G judge g is = (is.are (terminal_action_from (slice_index_or row i d))).0
      (member_at (map terminal_action_from row) i (terminal_action_from (slice_index_or row i d)) entry_there)

-- RULES

-- one more rule
pub rules_more : (s : Spec) (n : ℕ) (old new : List rule.TableRule) (v : rule.TableRule) (r : GrammarRule) → 1 ≤ n
    → AreRulesTo s n (map rule_from old) → IsRule s.grammar n r
    → rule_from v ≡ record { left = r.left; body_length = length r.body; shape = shape_in s n } → new ≡ old ++ v ∷ []
    → AreRulesTo s (n + 1) (map rule_from new)
rules_more s n old new v r some before is e pushed = record {
  numbers =
      let count = before.numbers in
      let long = length-append (map rule_from old) (rule_from v ∷ []) in
      let same = ap length whole in
      omega (arith, count, long, same);
  these = λ p x le lt is'. elim (cases_eq p n) [
    | inl same ↦
        let one : Some (Some r) ≡ Some (Some x)
        = sym is ∙ subst (λ k. IsRule s.grammar k x) same is' in
        let rule : r ≡ x = cc in
        let count = before.numbers in
        let place : p - 1 ≡ length (map rule_from old) = omega (arith, same, count) in
        ap (λ w. slice_get w (p - 1)) whole
        ∙ ap (slice_get (map rule_from old ++ rule_from v ∷ [])) place
        ∙ slice_get-behind (map rule_from old) [] (length (map rule_from old)) (rule_from v) refl
        ∙ ap Some (e ∙ ap (λ y. record { left = y.left; body_length = length y.body; shape = shape_in s n }) rule
        ∙ ap (λ k. record { left = x.left; body_length = length x.body; shape = shape_in s k }) (sym same))
    | inr off ↦ ap (λ w. slice_get w (p - 1)) whole
        ∙ slice_get-append (map rule_from old) (rule_from v ∷ []) (p - 1) _
        (before.these p x le (omega (arith, lt, off)) is')
  ];
}
  where
    whole : map rule_from new ≡ map rule_from old ++ rule_from v ∷ []
    whole = ap (map rule_from) pushed ∙ map-append rule_from old (v ∷ [])

-- what the note of a rule makes
pub noted : (s : Spec) (notes : List RuleNote) (n : ℕ) (note : RuleNote) → map note_of notes ≡ s.notes
    → n < length notes → note ≡ slice_index_or notes n note → shape_in s n ≡ shape_of note.tree
noted s notes n note e lt is = ap shape_from (ap (λ w. slice_get w n) (sym e) ∙ slice_get-map note_of notes n
    ∙ ap (option_map note_of) (slice_get-get_or notes n note lt ∙ ap Some (sym is)))
