-- The tables of a specification are one, with the automaton that they are of; so they are steady together.
use Rattle.std.proofs.Common.{◌≡◌, ◌∙◌, inl, inr, ℕ, zero, suc, ◌-◌, ◌<◌, ◌≤◌, [], ◌∷◌, Option}
use Rattle.std.proofs.Common.{Some, None, ap, arith, filter, get_or, length, refl, slice_get, subst, sym}
use Rattle.std.specs.List.{range_with_len}
use Rattle.std.proofs.lemmas.List.{same_lists}
use Rattle.std.proofs.lemmas.List.Elements.{All-cons, All-nil}
use Rattle.std.proofs.lemmas.Option.{same_Some, slice_get-get_or}
use Rattle.ly_join.specs.Grammar.{IsRule, GrammarRule, nonterminal, terminal}
use Rattle.ly_join.specs.Joined.{Spec}
use Rattle.ly_grammar.specs.Reduction.{KeepsUseful}
use Rattle.ly_grammar.proofs.ItemLemmas.{body_of}
use Rattle.ly_grammar.proofs.OneLemmas.{useful_rules_are_one}
use Rattle.ly_lr0.specs.Automaton.{Lr0Automaton, IsLr0Automaton, goto_of, prefix_of}
use Rattle.ly_lr0.proofs.OneLemmas.{automaton_is_one}
use Rattle.ly_relate.proofs.WalkLemmas.{leads_to}
use Rattle.ly_loop.proofs.TargetLemmas.{shift_entry}
use Rattle.ly_pack.specs.Defaults.{HasDefaultsOf, IsDefaultOf, count_by, is_by, without}
use Rattle.ly_pack.specs.Machine.{AreEntriesWithin, Machine, TableAction, TableRule, action_of, entry_at, goto_at}
use Rattle.ly_pack.specs.Machine.{or_default}
use Rattle.ly_pack.specs.Machine.{states_of}
use Rattle.ly_pack.specs.Machine as table
use Rattle.ly_pack.specs.Rows.{cell}
use Rattle.ly_pack.specs.Steady.{IsSteady, IsTableEdge, by_goto, by_shift, rule_at, run_bound}
use Rattle.ly_pack.proofs.DefaultLemmas.{without_some}
use Rattle.ly_pack.proofs.PlacementLemmas.{default_is_one}
use Rattle.ly_resolve.specs.Actions.{Action, IsAction, error, reduce, shift}
use Rattle.ly_resolve.specs.Precedence.{judge_of}
use Rattle.ly_resolve.proofs.RunLemmas.{action_is_one}
use Rattle.ly_emit.specs.Laws.{AreSameTables, EndlessExcludesSteady, SteadyTogether, TablesAreOne}
use Rattle.ly_emit.specs.Tables.{AreTables, IsEntryFor, IsMachineOf, shape_in}
use Rattle.ly_emit.proofs.AlikeLemmas.{DoAlike, ends_alike}
use Rattle.ly_emit.proofs.FollowLemmas.{is_that, some_passes}
use Rattle.ly_emit.proofs.RowLemmas.{asked_for, done_within}

-- ENTRIES

-- the entry for what is done before a terminal, by where the state's transition over it leads
abbrev entry_for : Action → ℕ → Option ℕ → TableAction
entry_for shift zero o = table.accept
entry_for shift (suc t) None = table.error
entry_for shift (suc t) (Some state) = table.shift state
entry_for (reduce p) t o = table.reduce p
entry_for error t o = table.error

entry_is : (M : Lr0Automaton) (k t : ℕ) (b : Action) (a : TableAction) → IsEntryFor M k t b a
    → a ≡ entry_for b t (goto_of M k (terminal t))
entry_is M k zero shift (table.shift state) is = absurd (omega (arith, is.0))
entry_is M k (suc t) shift (table.shift state) is = sym (ap (entry_for shift (suc t)) is.1)
entry_is M k zero shift table.accept is = refl
entry_is M k (suc t) shift table.accept is = absurd (omega (arith, is))
entry_is M k t shift (table.reduce q) is = absurd is
entry_is M k t shift table.error is = absurd is
entry_is M k t (reduce p) (table.shift state) is = absurd is
entry_is M k t (reduce p) table.accept is = absurd is
entry_is M k t (reduce p) (table.reduce q) is = ap table.reduce (sym is)
entry_is M k t (reduce p) table.error is = absurd is
entry_is M k t error (table.shift state) is = absurd is
entry_is M k t error table.accept is = absurd is
entry_is M k t error (table.reduce q) is = absurd is
entry_is M k t error table.error is = refl

module _ (s : Spec) (M : Lr0Automaton) (is : IsLr0Automaton M) (useful : KeepsUseful s.grammar M.grammar) where
  -- what a shift's entry leads to is a state
  shift_within : (k t top : ℕ) (b : Action) → IsEntryFor M k t b (table.shift top) → top < length M.states
  shift_within k t top shift e = leads_to M is k (terminal t) top e.1
  shift_within k t top (reduce p) e = absurd e
  shift_within k t top error e = absurd e

  -- what is reduced by is a rule of the grammar, and not rule 0
  abbrev IsReduced : ℕ → Type 0
  IsReduced p = (1 ≤ p) × (r : GrammarRule) × IsRule M.grammar p r

  module _ (a : Machine) (are : AreTables s M a) where
    entry_rule : (k t p : ℕ) → k < length M.states → entry_at a k t ≡ Some (table.reduce p) → IsReduced p
    entry_rule k t p lt e = let taken = are.some k t (table.reduce p) lt e in by_action taken.0 taken.1 taken.2
      where
        by_action : (b : Action) → IsAction M.grammar (judge_of s) (prefix_of M k) t b
            → IsEntryFor M k t b (table.reduce p) → IsReduced p
        by_action shift taken e = absurd e
        by_action error taken e = absurd e
        by_action (reduce q) taken e =
            let raw = taken.0.0 in
            let body = body_of raw.1.valid in
            subst IsReduced e (raw.0, body.0, body.1)

    module _ (m : Machine) (has : HasDefaultsOf a m) where
      count : states_of m ≡ length M.states
      count = has.states ∙ are.states

      default_at : (k : ℕ) → k < length M.states → slice_get m.defaults k ≡ Some (get_or m.defaults k None)
      default_at k lt = slice_get-get_or m.defaults k None (omega (arith, lt, count))

      entry_left : (k t : ℕ) → k < length M.states
          → entry_at m k t ≡ without (get_or m.defaults k None) (entry_at a k t)
      entry_left k t lt = has.actions k t (get_or m.defaults k None) (default_at k lt)

      goto_left : (k A : ℕ) → k < length M.states → A < M.grammar.accept → goto_at m k A ≡ goto_of M k (nonterminal A)
      goto_left k A lt within = ap (λ g. cell g k A) has.gotos ∙ are.gotos k A lt within

      rule_left : (p : ℕ) (r : GrammarRule) → 1 ≤ p → IsRule s.grammar p r
          → rule_at m p ≡ Some (record { left = r.left; body_length = length r.body; shape = shape_in s p })
      rule_left p r some rule = ap (λ rs. slice_get rs (p - 1)) has.rules ∙ are.rules p r some rule

      -- so is what is reduced by with defaults
      action_rule : (k t p : ℕ) → k < length M.states → action_of m k t ≡ table.reduce p → IsReduced p
      action_rule k t p lt e = by_entry (entry_at m k t) refl e
        where
          by_default : (d : Option ℕ) → get_or m.defaults k None ≡ d → or_default None (Some d) ≡ table.reduce p
              → IsReduced p
          by_default None at e = absurd cc
          by_default (Some q) at e =
              let same : q ≡ p = cc in
              let most = has.defaults k (Some q) (default_at k lt ∙ ap Some at) in
              let x = some_passes (λ t. is_by q (entry_at a k t)) (range_with_len 0 a.terminals) most.some in
              subst IsReduced same (entry_rule k x.0 q lt (is_that q (entry_at a k x.0) x.1))

          by_entry : (o : Option TableAction) → entry_at m k t ≡ o
              → or_default o (slice_get m.defaults k) ≡ table.reduce p → IsReduced p
          by_entry None at e = by_default (get_or m.defaults k None) refl
              (sym (ap (or_default None) (default_at k lt)) ∙ e)
          by_entry (Some x) at e = entry_rule k t p lt
              (without_some (get_or m.defaults k None) (entry_at a k t) (table.reduce p)
              (sym (entry_left k t lt) ∙ at ∙ ap Some e))

  -- the tables without defaults
  module _ (a b : Machine) (one : AreTables s M a) (two : AreTables s M b) where
    entry_one : (k t : ℕ) → k < length M.states → entry_at a k t ≡ entry_at b k t
    entry_one k t lt = by_entries (entry_at a k t) (entry_at b k t) refl refl
      where
        never : (c d : Machine) → AreTables s M c → AreTables s M d → (x : TableAction) → entry_at c k t ≡ None
            → entry_at d k t ≡ Some x → ⊥
        never c d left right x none some =
            let taken = right.some k t x lt some in
            let within = done_within M.grammar (judge_of s) (prefix_of M k) t taken.0 is.augmented taken.1 in
            let raw = asked_for M.grammar (judge_of s) (prefix_of M k) t taken.0 taken.1 in
            left.none k t lt within none raw.0 raw.1

        by_entries : (x y : Option TableAction) → entry_at a k t ≡ x → entry_at b k t ≡ y
            → entry_at a k t ≡ entry_at b k t
        by_entries None None e f = e ∙ sym f
        by_entries None (Some y) e f = absurd (never a b one two y e f)
        by_entries (Some x) None e f = absurd (never b a two one x f e)
        by_entries (Some x) (Some y) e f =
            let left = one.some k t x lt e in
            let right = two.some k t y lt f in
            let same = action_is_one M.grammar (judge_of s) (prefix_of M k) t left.0 right.0 left.1 right.1 in
            let goes = goto_of M k (terminal t) in
            e ∙ ap Some (entry_is M k t left.0 x left.2 ∙ ap (λ b. entry_for b t goes) same
            ∙ sym (entry_is M k t right.0 y right.2)) ∙ sym f

    count_one : (k p : ℕ) → k < length M.states → count_by a k p ≡ count_by b k p
    count_one k p lt = λ i. length (filter (λ t. is_by p (entry_one k t lt i))
        (range_with_len 0 ((one.terminals ∙ sym two.terminals) i)))

    default_too : (k : ℕ) (d : Option ℕ) → k < length M.states → IsDefaultOf a k d → IsDefaultOf b k d
    default_too k None lt none = λ p. sym (count_one k p lt) ∙ none p
    default_too k (Some p) lt most = record {
      some = subst (λ n. 1 ≤ n) (count_one k p lt) most.some;
      most = λ q. let e = count_one k p lt in let f = count_one k q lt in elim (most.most q) [
        | inl fewer ↦ inl (omega (arith, fewer, e, f))
        | inr (inl tie) ↦ inr (inl (sym f ∙ tie.0 ∙ e, tie.1))
        | inr (inr none) ↦ inr (inr (sym f ∙ none))
      ];
    }

    -- and those with defaults
    module _ (m n : Machine) (has : HasDefaultsOf a m) (too : HasDefaultsOf b n) where
      defaults_one : m.defaults ≡ n.defaults
      defaults_one = same_lists m.defaults n.defaults (count a one m has ∙ sym (count b two n too)) (λ k d lt.
          let within : k < length M.states = omega (arith, lt, count a one m has) in
          let less : k < length n.defaults = omega (arith, within, count b two n too) in
          let x = slice_get-get_or m.defaults k d lt in
          let y = slice_get-get_or n.defaults k d less in
          default_is_one b k (get_or m.defaults k d) (get_or n.defaults k d)
          (default_too k (get_or m.defaults k d) within (has.defaults k (get_or m.defaults k d) x))
          (too.defaults k (get_or n.defaults k d) y))

      left_one : (k t : ℕ) → k < length M.states → entry_at m k t ≡ entry_at n k t
      left_one k t lt = entry_left a one m has k t lt
          ∙ (λ i. without (get_or (defaults_one i) k None) (entry_one k t lt i))
          ∙ sym (entry_left b two n too k t lt)

      pub same_tables : AreSameTables s m n
      same_tables = record {
        terminals = has.terminals ∙ one.terminals ∙ sym two.terminals ∙ sym too.terminals;
        nonterminals = has.nonterminals ∙ one.nonterminals ∙ sym two.nonterminals ∙ sym too.nonterminals;
        defaults = defaults_one;
        entries = λ k t lt. left_one k t (omega (arith, lt, count a one m has));
        gotos = λ k A lt within. let less : k < length M.states = omega (arith, lt, count a one m has) in
            let low : A < M.grammar.accept = omega (arith, within, has.nonterminals, one.nonterminals) in
            goto_left a one m has k A less low ∙ sym (goto_left b two n too k A less low);
        rules = λ p r some rule. rule_left a one m has p r some rule ∙ sym (rule_left b two n too p r some rule);
        numbers = omega (arith, ap length has.rules, one.numbers, two.numbers, ap length too.rules);
      }

      -- RUNS

      -- the left side of a rule that is reduced by, as it stands in the tables
      left_within : (p : ℕ) (r : TableRule) → IsReduced p → rule_at m p ≡ Some r → r.left < M.grammar.accept
      left_within p r (some, x, rule) at =
          let is_x = rule_left a one m has p x some ((useful.rules p x).0 rule).0 in
          let same = same_Some _ r (sym is_x ∙ at) in
          subst (λ y. y.left < M.grammar.accept) same (is.augmented.within p x rule some).left

      do_alike : (t : ℕ) → DoAlike m n (length M.states) t
      do_alike t = record {
        actions = λ k lt i. or_default (left_one k t lt i) (slice_get (defaults_one i) k);
        rules = λ k p lt e. let x = action_rule a one m has k t p lt e in
            let rule = ((useful.rules p x.1).0 x.2).0 in
            rule_left a one m has p x.1 x.0 rule ∙ sym (rule_left b two n too p x.1 x.0 rule);
        gotos = λ k j p r lt less e at. let low = left_within p r (action_rule a one m has k t p lt e) at in
            goto_left a one m has j r.left less low ∙ sym (goto_left b two n too j r.left less low);
        within = λ k j p next r lt less e at goes.
            let low = left_within p r (action_rule a one m has k t p lt e) at in
            leads_to M is j (nonterminal r.left) next (sym (goto_left a one m has j r.left less low) ∙ goes);
      }

      -- an edge of the one is an edge of the other, between states of the automaton
      record IsEdgeToo (below top : ℕ) : Type 0 where
        from : below < length M.states
        to : top < length M.states
        edge : IsTableEdge m below top

      edge_too : AreEntriesWithin n → (below top : ℕ) → IsTableEdge n below top → IsEdgeToo below top
      edge_too within below top (by_shift t e) =
          let entry = shift_entry n below t top e in
          let inside = within.actions below t (table.shift top) entry in
          let from : below < length M.states = omega (arith, inside.0, count b two n too) in
          let was = without_some (get_or n.defaults below None) (entry_at b below t) (table.shift top)
          (sym (entry_left b two n too below t from) ∙ entry) in
          let taken = two.some below t (table.shift top) from was in
          record {
            from = from;
            to = shift_within below t top taken.0 taken.2;
            edge = by_shift t ((do_alike t).actions below from ∙ e);
          }
      edge_too within below top (by_goto left e) =
          let inside = within.gotos below left top e in
          let from : below < length M.states = omega (arith, inside.0, count b two n too) in
          let low : left < M.grammar.accept = omega (arith, inside.1, too.nonterminals, two.nonterminals) in
          let goes = goto_left b two n too below left from low in
          record {
            from = from;
            to = leads_to M is below (nonterminal left) top (sym goes ∙ e);
            edge = by_goto left (goto_left a one m has below left from low ∙ sym goes ∙ e);
          }

      pub steady_too : AreEntriesWithin n → IsSteady m → IsSteady n
      steady_too within calm below top t known edge =
          let x = edge_too within below top edge in
          let same : m.terminals ≡ n.terminals
          = has.terminals ∙ one.terminals ∙ sym two.terminals ∙ sym too.terminals in
          ends_alike m n (length M.states) t (do_alike t) (top ∷ below ∷ []) run_bound
          (All-cons (λ k. k < length M.states) top (below ∷ []) x.to
          (All-cons (λ k. k < length M.states) below [] x.from (All-nil _)))
          (calm below top t (omega (arith, known, same)) x.edge)

-- BY ANY AUTOMATON

-- the automaton of a specification is one
spec_automaton : (s : Spec) (M N : Lr0Automaton) → IsLr0Automaton M → IsLr0Automaton N → KeepsUseful s.grammar M.grammar
    → KeepsUseful s.grammar N.grammar → M ≡ N
spec_automaton s M N one two left right =
    automaton_is_one M N one two (useful_rules_are_one s.grammar M.grammar N.grammar left right)

pub tables_are_one : TablesAreOne
tables_are_one s M N m n one two left right of on =
    let back = subst (λ A. IsMachineOf s A n) (sym (spec_automaton s M N one two left right)) on in
    same_tables s M one left of.0 back.0 of.1 back.1 m n of.2 back.2

pub steady_together : SteadyTogether
steady_together s M N m n one two left right of on within calm =
    let back = subst (λ A. IsMachineOf s A n) (sym (spec_automaton s M N one two left right)) on in
    steady_too s M one left of.0 back.0 of.1 back.1 m n of.2 back.2 within calm

pub endless_excludes_steady : EndlessExcludesSteady
endless_excludes_steady s M N m n one two left right of on within calm below top token first =
    first.endless
    (steady_together s M N m n one two left right of on within calm below top token first.known first.edge)
