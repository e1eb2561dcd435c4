-- By which rules the entries of rows reduce.
use Rattle.std.proofs.Common.{◌≡◌, ◌∙◌, ◌↔◌, ◌⊎◌, inl, inr, ℕ, ◌<◌, ◌≤◌, List, Bool, Some, sym, ap, subst, arith}
use Rattle.std.proofs.Common.{length, map, slice_get, slice_index_or, Contains}
use Rattle.std.proofs.lemmas.Option.{get_or_from_slice_get, slice_get-get_or, slice_get_within}
use Rattle.ly_base.proofs.ListLemmas.{some_at}
use Rattle.ly_base.specs.declared.numbers.RuleNo.{RuleNo}
use Rattle.ly_join.specs.Grammar.{IsRule, GrammarRule}
use Rattle.ly_join.proofs.ListLemmas.{in_mapped, mapped_in, placed}
use Rattle.ly_grammar.specs.Derivations.{IsUseful}
use Rattle.ly_grammar.specs.Items.{Merges}
use Rattle.ly_grammar.specs.Reduction.{KeepsUseful}
use Rattle.ly_lr0.specs.Automaton.{IsLr0Automaton, prefix_of, state_at}
use Rattle.ly_lr0.proofs.LawLemmas.{reached_within}
use Rattle.ly_lr0.proofs.StateLemmas.{state_there}
use Rattle.ly_resolve.specs.Actions.{IsAction, IsRaw, reduce}
use Rattle.ly_resolve.specs.Precedence.{judge_of}
use Rattle.ly_resolve.specs.Resolved.{AreResolved, TerminalAction, IsRow, Resolved}
use Rattle.ly_resolve.specs.Values.{action_from, terminal_action_from}
use Rattle.ly_resolve.specs.declared.action.Action as action
use Rattle.ly_resolve.specs.declared.action.Action.TheVariants.{Error, Reduce, Shift}
use Rattle.ly_resolve.specs.declared.action.TerminalAction as code
use Rattle.ly_resolve.proofs.MeetingLemmas.{done_too}
use Rattle.ly_resolve.proofs.RawLemmas.{merges_back, prefix_at, raw_too, reached_merges}
use Rattle.ly_counterexamples.specs.Doubts.{IsReducedBy, NeverReduces}
use Rattle.ly_counterexamples.specs.Private.Marks.{AreAdded, AreMarked, ByStepBefore}
use Rattle.ly_counterexamples.specs.Private.Reductions.{ReducesAt, ReducesIn, StateReduces}
use Rattle.ly_counterexamples.proofs.MarkLemmas.{added_as, all_added, marked_as}

-- THE ENTRIES OF A ROW

pub entry_reduces : (row : List code.TerminalAction) (k : ℕ) (d : code.TerminalAction) → k < length row → (q : RuleNo)
    → (slice_index_or row k d).action ≡ Reduce q → (p : ℕ) → (p ≡ q.0) ↔ ReducesAt row k p
entry_reduces row k d lt q e p =
    let at = slice_get-get_or row k d lt in (
      λ same. (slice_index_or row k d, at, e ∙ ap (λ n. Reduce (record { 0 = n })) (sym same)),
      λ (x, is, reduces).
          let one : Some x ≡ Some (slice_index_or row k d) = sym is ∙ at in
          let there : x ≡ slice_index_or row k d = cc in
          let both : Reduce (record { 0 = p }) ≡ Reduce q = sym reduces ∙ ap (λ y. y.action) there ∙ e in
          cc,
    )

pub no_entry_reduces : (row : List code.TerminalAction) (k : ℕ) (d : code.TerminalAction) → k < length row
    → ((q : RuleNo) → (slice_index_or row k d).action ≡ Reduce q → ⊥) → (p : ℕ) → ReducesAt row k p → ⊥
no_entry_reduces row k d lt none p (x, is, reduces) =
    let one : Some x ≡ Some (slice_index_or row k d) = sym is ∙ slice_get-get_or row k d lt in
    let there : x ≡ slice_index_or row k d = cc in
    none (record { 0 = p }) (ap (λ y. y.action) (sym there) ∙ reduces)

pub row_marked : (row : List code.TerminalAction) (n : ℕ) → length row ≤ n → (old new : List Bool)
    → AreAdded (ByStepBefore (ReducesAt row) n) old new → AreAdded (ReducesIn row) old new
row_marked row n past old new added = added_as (ByStepBefore (ReducesAt row) n) (ReducesIn row) old new (λ p. (
  λ (k, less, (x, is, reduces)). (k, slice_get_within row k x is, (x, is, reduces)),
  λ (k, less, at). (k, omega (arith, less, past), at),
)) added

-- an action that is a reduction
reduces_by : (a : action.Action) (p : ℕ) → action_from a ≡ reduce p → a ≡ Reduce (record { 0 = p })
reduces_by Shift p e = absurd cc
reduces_by (Reduce q) p e = let same : q.0 ≡ p = cc in ap (λ n. Reduce (record { 0 = n })) same
reduces_by Error p e = absurd cc

pub state_reduces : (r : Resolved) (s : ℕ) (row : List code.TerminalAction)
    → slice_get r.rows s ≡ Some (map terminal_action_from row) → (p : ℕ) → ReducesIn row p ↔ StateReduces r s p
state_reduces r s row at p = (to, back) where
  to : ReducesIn row p → StateReduces r s p
  to (k, less, (x, is, reduces)) =
      let has : Contains row x = (k, less, get_or_from_slice_get row k x x is) in
      let shown : Contains (map terminal_action_from row)
      (record { terminal = x.terminal.0; action = action_from x.action })
      = mapped_in terminal_action_from row x has in (
        map terminal_action_from row,
        at,
        x.terminal.0,
        subst (λ a. Contains (map terminal_action_from row)
            (record { terminal = x.terminal.0; action = action_from a })) reduces
            shown,
      )

  back : StateReduces r s p → ReducesIn row p
  back (entries, is, t, has) =
      let one : Some entries ≡ Some (map terminal_action_from row) = sym is ∙ at in
      let same : entries ≡ map terminal_action_from row = cc in
      let e : TerminalAction = record { terminal = t; action = reduce p } in
      let from = in_mapped terminal_action_from row e (subst (λ es. Contains es e) same has) in
      let x = from.0 in
      let k = placed row x from.1 in
      (k.0, slice_get_within row k.0 x k.1, (x, k.1, reduces_by x.action p (ap (λ y. y.action) from.2)))

-- THE STATES

module _ (r : Resolved) (is : IsLr0Automaton r.automaton) (are : AreResolved r.spec r.automaton r) where
  row_of : (s : ℕ) (row : List TerminalAction) → s < length r.automaton.states → slice_get r.rows s ≡ Some row
      → IsRow r.automaton.grammar (judge_of r.spec) (state_at r.automaton s).prefix row
  row_of s row lt at = are.rows s (state_at r.automaton s) row (state_there r.automaton s lt) at

  reduced_to : (s p : ℕ) → s < length r.automaton.states → StateReduces r s p → IsReducedBy r p
  reduced_to s p lt (row, at, t, has) = (
    (state_at r.automaton s).prefix,
    t,
    ((row_of s row lt at).are (record { terminal = t; action = reduce p })).0 has,
  )

  reduced_back : (p : ℕ) → IsReducedBy r p → (s : ℕ) × (s < length r.automaton.states) × StateReduces r s p
  reduced_back p (g, t, done) =
      let M = r.automaton in
      let there = is.cores.has g done.0.0.1.merges.left in
      let s = there.0 in
      let lt = reached_within M is g s there.1 in
      let merges : Merges M.grammar (prefix_of M s) g = reached_merges M is g s lt there.1 in
      let at_prefix : IsAction M.grammar (judge_of r.spec) (prefix_of M s) t (reduce p)
      = done_too (IsRaw M.grammar g t) (IsRaw M.grammar (prefix_of M s) t) (λ q. judge_of r.spec q t)
      (λ a. (raw_too (merges_back merges) t a, raw_too merges t a)) (reduce p) done in
      let same = prefix_at M s (state_at M s) (state_there M s lt) in
      let row = some_at r.rows s (subst (λ n. s < n) (sym are.states) lt) in
      let x : TerminalAction = record { terminal = t; action = reduce p } in (
        s,
        lt,
        (
          row.0,
          row.1,
          t,
          ((row_of s row.0 lt row.1).are x).1
              (subst (λ h. IsAction M.grammar (judge_of r.spec) h t (reduce p)) same at_prefix),
        ),
      )

pub all_reduced : (r : Resolved) → IsLr0Automaton r.automaton → AreResolved r.spec r.automaton r → (n rules : ℕ)
    → n ≡ length r.automaton.states → (none marks : List Bool) → AreMarked rules (λ p. ⊥) none
    → AreAdded (ByStepBefore (StateReduces r) n) none marks → AreMarked rules (IsReducedBy r) marks
all_reduced r is are n rules all none marks empty added = marked_as (ByStepBefore (StateReduces r) n) (IsReducedBy r)
    rules marks (λ p lt. (
      λ (s, less, reduces). reduced_to r is are s p (subst (λ k. s < k) all less) reduces,
      λ by. let back = reduced_back r is are p by in
          (back.0, subst (λ k. back.0 < k) (sym all) back.1, back.2),
    )) (all_added (ByStepBefore (StateReduces r) n) rules none marks empty added)

-- THE RULES THAT ARE KEPT

pub useful_kept : (r : Resolved) → KeepsUseful r.spec.grammar r.automaton.grammar → (p : ℕ) → 1 ≤ p
    → ((q : GrammarRule) × IsRule r.automaton.grammar p q)
    ↔ ((q : GrammarRule) × IsRule r.spec.grammar p q × IsUseful r.spec.grammar p)
useful_kept r keeps p some = (to, λ (q, is, useful). (q, (keeps.rules p q).1 (is, inr useful))) where
  useful : (p ≡ 0) ⊎ IsUseful r.spec.grammar p → IsUseful r.spec.grammar p
  useful (inl zero) = absurd (omega (arith, zero, some))
  useful (inr is) = is

  to : ((q : GrammarRule) × IsRule r.automaton.grammar p q)
      → (q : GrammarRule) × IsRule r.spec.grammar p q × IsUseful r.spec.grammar p
  to (q, kept) = let both = (keeps.rules p q).0 kept in (q, both.0, useful both.1)

pub never_below : (r : Resolved) (p : ℕ) → NeverReduces r p → p < length r.spec.grammar.rules
never_below r p (some, q, is, useful, never) = slice_get_within r.spec.grammar.rules p (Some q) is
