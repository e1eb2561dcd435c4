-- Tables follow the reference machine.
use Rattle.std.proofs.Common.{◌≡◌, ◌∙◌, ◌⊎◌, inl, inr, ℕ, ◌-◌, ◌<◌, ◌≤◌, List, [], ◌∷◌, ◌++◌, Some, None}
use Rattle.std.proofs.Common.{Option, Bool, true, false, ap, arith, filter, length, nat_eq, refl, slice_get, subst}
use Rattle.std.proofs.Common.{sym, if◌then◌else◌}
use Rattle.std.proofs.lemmas.Bool.{eqb-true}
use Rattle.std.proofs.lemmas.Option.{slice_get-get_or}
use Rattle.std.specs.Prelude.{slice_index_or}
use Rattle.ly_base.specs.Lexed.{Token}
use Rattle.ly_base.specs.Trees.{Trees, leaf, node, none, more}
use Rattle.ly_join.specs.Grammar.{Grammar, IsRule, GrammarRule, Symbol, nonterminal, terminal}
use Rattle.ly_join.specs.Joined.{Spec}
use Rattle.ly_grammar.specs.Items.{InLookahead, IsNextSymbol, IsViable, Merges, Valid, moved, onto}
use Rattle.ly_grammar.specs.Reduction.{KeepsUseful}
use Rattle.ly_grammar.proofs.ItemLemmas.{body_of, length-onto}
use Rattle.ly_lr0.specs.Automaton.{Lr0Automaton, IsLr0Automaton, Reaches, goto_of, prefix_of}
use Rattle.ly_lr0.proofs.LawLemmas.{reached_within}
use Rattle.ly_relate.proofs.ReachLemmas.{Reaches_one}
use Rattle.ly_pack.specs.Defaults.{HasDefaultsOf, IsDefaultOf, is_by, without}
use Rattle.ly_pack.specs.Machine.{Machine, TableAction, TableRule, action_of, entry_at, goto_at, or_default, states_of}
use Rattle.ly_pack.specs.Machine as table
use Rattle.ly_pack.specs.Steady.{rule_at}
use Rattle.ly_parse.specs.Deriving.{FeedsTree, TreeFed, TreeLevel, done, faulty, go_to_state, goes_on, onward}
use Rattle.ly_parse.specs.Deriving.{perform_trees, pop_trees, pushed, reduce_trees, refused, settled, settles}
use Rattle.ly_parse.specs.Deriving.{top_state, turn_trees, uncover_trees}
use Rattle.ly_resolve.specs.Actions.{Action, IsAction, IsDone, IsRaw, IsTerminalRefused, PrecedenceVerdict, error}
use Rattle.ly_resolve.specs.Actions.{reduce, shift}
use Rattle.ly_resolve.specs.Laws.{Reduces}
use Rattle.ly_resolve.specs.Laws as default
use Rattle.ly_resolve.specs.Machine.{Configuration, Leads, Moves, Pushed, symbols_of, trees_onto}
use Rattle.ly_resolve.specs.Machine as machine
use Rattle.ly_resolve.specs.Precedence.{judge_of}
use Rattle.ly_resolve.proofs.AcceptedLemmas.{behind_start}
use Rattle.ly_resolve.proofs.DefaultLemmas.{never_mislead}
use Rattle.ly_resolve.proofs.RawLemmas.{merges_back, raw_too, reached_merges}
use Rattle.ly_resolve.proofs.RefuseLemmas.{HasNoEnd-under, unread, waits}
use Rattle.ly_resolve.proofs.StackLemmas.{ends_with_read, length-symbols_of, symbols_of-append}
use Rattle.ly_emit.specs.Following.{Simulates, Mirrors, above, bottom}
use Rattle.ly_emit.specs.Laws.{TablesFollow}
use Rattle.ly_emit.specs.Tables.{AreTables, IsEntryFor, shape_in}

-- WHAT IS DONE AT STRINGS OF ONE CORE

-- what is taken depends on what is asked for alone
done_too : (A B : Action → Type 0) (v : ℕ → PrecedenceVerdict) → ((a : Action) → A a → B a) → ((a : Action) → B a → A a)
    → (a : Action) → IsDone A v a → IsDone B v a
done_too A B v to back shift h = (to shift h.0, λ p asked. h.1 p (back (reduce p) asked))
done_too A B v to back (reduce p) h = (
  (to (reduce p) h.0.0, λ asked. h.0.1 (back shift asked)),
  λ q stays. h.1 q (back (reduce q) stays.0, λ asked. stays.1 (to shift asked)),
)
done_too A B v to back error h
    = (to shift h.0, λ p asked. h.1 p (back (reduce p) asked), h.2, to (reduce h.2) h.3, h.4)

-- ENTRIES AND DEFAULTS

-- an entry that the default stands for is taken still
pick : (p q : ℕ) (b : Bool) → (b ≡ true → p ≡ q)
    → or_default (if b then None else Some (table.reduce q)) (Some (Some p)) ≡ table.reduce q
pick p q true same = ap table.reduce (same refl)
pick p q false same = refl

kept : (d : Option ℕ) (a : TableAction) → or_default (without d (Some a)) (Some d) ≡ a
kept None a = refl
kept (Some p) (table.shift state) = refl
kept (Some p) table.accept = refl
kept (Some p) table.error = refl
kept (Some p) (table.reduce q) = pick p q (nat_eq p q) (λ same. eqb-true p q same)

-- where there is no entry the default is taken
lost : (d : Option ℕ) → or_default (without d None) (Some d) ≡ or_default None (Some d)
lost None = refl
lost (Some p) = refl

pub is_that : (p : ℕ) (o : Option TableAction) → is_by p o ≡ true → o ≡ Some (table.reduce p)
is_that p None is = absurd cc
is_that p (Some (table.shift state)) is = absurd cc
is_that p (Some table.accept) is = absurd cc
is_that p (Some table.error) is = absurd cc
is_that p (Some (table.reduce q)) is = ap (λ k. Some (table.reduce k)) (sym (eqb-true p q is))

-- some element passes where as many as one do
pub some_passes : (f : ℕ → Bool) (xs : List ℕ) → 1 ≤ length (filter f xs) → (x : ℕ) × (f x ≡ true)
some_passes f [] some = absurd (omega arith)
some_passes f (x ∷ xs) some = by_first (f x) refl (λ rest. some_passes f xs rest) where
  by_first : (b : Bool) → f x ≡ b → (1 ≤ length (filter f xs) → (y : ℕ) × (f y ≡ true)) → (y : ℕ) × (f y ≡ true)
  by_first true e later = (x, e)
  by_first false e later = later (subst (λ b. 1 ≤ length (if b then x ∷ filter f xs else filter f xs)) e some)

-- STACKS

-- a stack is split where its symbols are
split_stack : (stack : List Pushed) (before under : List Symbol) → symbols_of stack ≡ before ++ under
    → (popped : List Pushed) × (below : List Pushed) × (stack ≡ popped ++ below) × (symbols_of popped ≡ before)
    × (symbols_of below ≡ under)
split_stack stack [] under e = ([], stack, refl, refl, e)
split_stack [] (X ∷ before) under e = absurd (let off : [] ≡ X ∷ (before ++ under) → ⊥ = λ z. cc in off e)
split_stack (x ∷ stack) (X ∷ before) under e =
    let whole : x.symbol ∷ symbols_of stack ≡ X ∷ (before ++ under) = e in
    let head : x.symbol ≡ X = cc in
    let tail : symbols_of stack ≡ before ++ under = cc in
    let parts = split_stack stack before under tail in (
      x ∷ parts.0,
      parts.1,
      ap (λ w. x ∷ w) parts.2,
      ap (λ Y. Y ∷ symbols_of parts.0) head ∙ ap (λ w. X ∷ w) parts.3,
      parts.4,
    )

module _ (M : Lr0Automaton) where
  -- the trees that are popped off are those of the stack
  popped_trees : (popped below : List Pushed) {levels : List TreeLevel} (us : Trees)
      → Mirrors M (popped ++ below) levels
      → (ks : List TreeLevel)
      × (pop_trees (length popped) levels us ≡ Some (trees_onto popped us, ks))
      × Mirrors M below ks
  popped_trees [] below {levels = levels} us mirrors = (levels, refl, mirrors)
  popped_trees (x ∷ popped) below us (above mirrors e) = popped_trees popped below (more x.tree us) mirrors

  -- the symbols of a stack lead to the state on top
  reached : {stack : List Pushed} {levels : List TreeLevel} → Mirrors M stack levels
      → Reaches (goto_of M) 0 (symbols_of stack) (top_state levels)
  reached bottom = refl
  reached (above {levels = levels} mirrors e) = (top_state levels, reached mirrors, e)

Reduces-last : {G : Grammar} {g h : List Symbol} {q t : ℕ} {r : GrammarRule} {before under : List Symbol}
    → Reduces G g h
    → IsRule G q r → Valid G h q before [] t → h ≡ before ++ under → Reduces G g (nonterminal r.left ∷ under)
Reduces-last default.here is v split = default.onward is v split default.here
Reduces-last (default.onward is' v' split' l) is v split = default.onward is' v' split' (Reduces-last l is v split)

module _ (s : Spec) (M : Lr0Automaton) (m n : Machine) (is : IsLr0Automaton M)
    (useful : KeepsUseful s.grammar M.grammar)
    (are : AreTables s M m) (has : HasDefaultsOf m n) where
  states : states_of n ≡ length M.states
  states = has.states ∙ are.states

  -- A reduction that the tables make is one of the reference machine.
  record Made (stack : List Pushed) (levels : List TreeLevel) (p : ℕ) (before : List Symbol) : Type 0 where
    rule : GrammarRule
    is_rule : IsRule M.grammar p rule
    popped : List Pushed
    below : List Pushed
    split : stack ≡ popped ++ below
    is_before : symbols_of popped ≡ before
    is_body : onto (symbols_of popped) [] ≡ rule.body
    next : List TreeLevel
    turns : reduce_trees n p levels (rule_at n p) ≡ goes_on next
    mirrors : Mirrors M
        (record { symbol = nonterminal rule.left; tree = node p (trees_onto popped none) } ∷ below) next

  makes : {stack : List Pushed} {levels : List TreeLevel} → Mirrors M stack levels → (p k : ℕ)
      (before : List Symbol) → 1 ≤ p → Valid M.grammar (symbols_of stack) p before [] k → Made stack levels p before
  makes {stack = stack} {levels = levels} mirrors p k before some v =
      let body = body_of v in
      let rule = body.0 in
      let end = ends_with_read v in
      let parts = split_stack stack before end.0 end.1 in
      let popped = parts.0 in
      let below = parts.1 in
      let pops = popped_trees M popped below {levels = levels} none
      (subst (λ w. Mirrors M w levels) parts.2 mirrors) in
      let ks = pops.0 in
      let whole : Valid M.grammar (before ++ symbols_of below) p before [] k
      = subst (λ w. Valid M.grammar w p before [] k) (end.1 ∙ ap (λ w. before ++ w) (sym parts.4)) v in
      let w = waits (unread before (symbols_of below) [] whole) some rule body.1 in
      let ends = HasNoEnd-under before (symbols_of below)
      (subst Rattle.ly_grammar.specs.Items.HasNoEnd (end.1 ∙ ap (λ w. before ++ w) (sym parts.4))
      (is.cores.only (symbols_of stack) (top_state levels) (reached M mirrors)).0) in
      let viable : IsViable M.grammar (nonterminal rule.left ∷ symbols_of below)
      = ((λ e. cc, ends), w.0, nonterminal rule.left ∷ w.1, w.2, (w.3.0, moved w.3.1)) in
      let to = is.cores.has (nonterminal rule.left ∷ symbols_of below) viable in
      let same : to.1.0 ≡ top_state ks
      = Reaches_one (goto_of M) 0 (symbols_of below) to.1.0 (top_state ks) to.1.1 (reached M pops.2) in
      let goes : goto_of M (top_state ks) (nonterminal rule.left) ≡ Some to.0
      = subst (λ q. goto_of M q (nonterminal rule.left) ≡ Some to.0) same to.1.2 in
      let within = reached_within M is (symbols_of below) (top_state ks) (reached M pops.2) in
      let left = (is.augmented.within p rule body.1 some).left in
      let there : goto_at n (top_state ks) rule.left ≡ Some to.0
      = ap (λ g. Rattle.ly_pack.specs.Rows.cell g (top_state ks) rule.left) has.gotos
      ∙ (are.gotos (top_state ks) rule.left within left ∙ goes) in
      let numbered : rule_at n p
      ≡ Some (record { left = rule.left; body_length = length rule.body; shape = shape_in s p })
      = ap (λ rs. slice_get rs (p - 1)) has.rules
      ∙ are.rules p rule some ((useful.rules p rule).0 body.1).0 in
      let long : length rule.body ≡ length popped
      = ap length (sym body.2) ∙ omega (arith, length-onto before [], length-symbols_of popped, ap length parts.3) in
      record {
        rule = rule;
        is_rule = body.1;
        popped = popped;
        below = below;
        split = parts.2;
        is_before = parts.3;
        is_body = ap (λ w. onto w []) parts.3 ∙ body.2;
        next = record { state = to.0; tree = node p (trees_onto popped none) } ∷ ks;
        turns = ap (reduce_trees n p levels) numbered
            ∙ (ap (λ k. uncover_trees n p (record { left = rule.left; body_length = length rule.body; shape = shape_in s p })
            (pop_trees k levels none)) long
            ∙ (ap (uncover_trees n p (record { left = rule.left; body_length = length rule.body; shape = shape_in s p }))
            pops.1
            ∙ ap (go_to_state p (trees_onto popped none) ks) there));
        mirrors = above pops.2 goes;
      }

  module _ (token : Token ℕ) (within : token.terminal < M.grammar.terminals) where
    -- what the tables do where the entry is known
    turns_by : (levels : List TreeLevel) (a : TableAction) → action_of n (top_state levels) token.terminal ≡ a
        → turn_trees n token levels ≡ perform_trees n token levels a
    turns_by levels a e = ap (perform_trees n token levels) e

    module _ {stack : List Pushed} {levels : List TreeLevel} (mirrors : Mirrors M stack levels) where
      there : top_state levels < length M.states
      there = reached_within M is (symbols_of stack) (top_state levels) (reached M mirrors)

      merges : Merges M.grammar (prefix_of M (top_state levels)) (symbols_of stack)
      merges = reached_merges M is (symbols_of stack) (top_state levels) there (reached M mirrors)

      default_there : (d : Option ℕ) × (slice_get n.defaults (top_state levels) ≡ Some d)
      default_there = (
        slice_index_or n.defaults (top_state levels) None,
        slice_get-get_or n.defaults (top_state levels) None (subst (λ k. top_state levels < k) (sym states) there),
      )

      -- what is taken at the prefix of the state is taken at the stack's symbols
      action_here : (a : Action) → IsAction M.grammar (judge_of s) (prefix_of M (top_state levels)) token.terminal a
          → IsAction M.grammar (judge_of s) (symbols_of stack) token.terminal a
      action_here a taken = done_too (IsRaw M.grammar (prefix_of M (top_state levels)) token.terminal)
          (IsRaw M.grammar (symbols_of stack) token.terminal) (λ p. judge_of s p token.terminal)
          (raw_too merges token.terminal) (raw_too (merges_back merges) token.terminal) a taken

      refused_here : IsTerminalRefused M.grammar (prefix_of M (top_state levels)) token.terminal
          → IsTerminalRefused M.grammar (symbols_of stack) token.terminal
      refused_here nothing a raw = nothing a (raw_too (merges_back merges) token.terminal a raw)

      -- an entry is taken, also where the default stands for it
      action_kept : (a : TableAction) → entry_at m (top_state levels) token.terminal ≡ Some a
          → action_of n (top_state levels) token.terminal ≡ a
      action_kept a e = let d = default_there in
          ap (λ o. or_default o (slice_get n.defaults (top_state levels)))
          (has.actions (top_state levels) token.terminal d.0 d.1 ∙ ap (without d.0) e)
          ∙ (ap (or_default (without d.0 (Some a))) d.1 ∙ kept d.0 a)

      action_lost : (d : Option ℕ) → slice_get n.defaults (top_state levels) ≡ Some d
          → entry_at m (top_state levels) token.terminal ≡ None
          → action_of n (top_state levels) token.terminal ≡ or_default None (Some d)
      action_lost d at e =
          ap (λ o. or_default o (slice_get n.defaults (top_state levels)))
          (has.actions (top_state levels) token.terminal d at ∙ ap (without d) e)
          ∙ (ap (or_default (without d None)) at ∙ lost d)

      -- a reduction that is asked for before some terminal is by a complete rule
      complete_here : (p t : ℕ) → IsRaw M.grammar (symbols_of stack) t (reduce p)
          → (k : ℕ) × (before : List Symbol) × Valid M.grammar (symbols_of stack) p before [] k
      complete_here p t raw = let l = raw.1 in
          let core = (l.merges.cores p l.before []).1 (t, l.valid) in
          (core.0, l.before, core.1)

      -- A reduction by the tables: by a rule that is complete.
      record Reduced : Type 0 where
        number : ℕ
        some : 1 ≤ number
        lookahead : ℕ
        before : List Symbol
        valid : Valid M.grammar (symbols_of stack) number before [] lookahead
        made : Made stack levels number before
        turns : turn_trees n token levels ≡ goes_on made.next

      reduced_by : (p t : ℕ) → IsRaw M.grammar (symbols_of stack) t (reduce p)
          → action_of n (top_state levels) token.terminal ≡ table.reduce p → Reduced
      reduced_by p t raw e = let c = complete_here p t raw in
          let made = makes mirrors p c.0 c.1 raw.0 c.2 in
          record {
            number = p;
            some = raw.0;
            lookahead = c.0;
            before = c.1;
            valid = c.2;
            made = made;
            turns = turns_by levels (table.reduce p) e ∙ made.turns;
          }

      default_reduces : (p : ℕ) → IsDefaultOf m (top_state levels) (Some p)
          → action_of n (top_state levels) token.terminal ≡ table.reduce p → Reduced
      default_reduces p most e =
          let t = some_passes (λ t. is_by p (entry_at m (top_state levels) t))
          (Rattle.std.specs.List.range_with_len 0 m.terminals) most.some in
          let taken = are.some (top_state levels) t.0 (table.reduce p) there
          (is_that p (entry_at m (top_state levels) t.0) t.1) in
          reduced_by p t.0 (raw_too merges t.0 (reduce p) (by_action t.0 taken.0 taken.1 taken.2)) e
        where
          by_action : (t : ℕ) (b : Action) → IsAction M.grammar (judge_of s) (prefix_of M (top_state levels)) t b
              → IsEntryFor M (top_state levels) t b (table.reduce p)
              → IsRaw M.grammar (prefix_of M (top_state levels)) t (reduce p)
          by_action t shift taken is' = absurd is'
          by_action t (reduce q) taken is'
              = subst (λ k. IsRaw M.grammar (prefix_of M (top_state levels)) t (reduce k)) is' taken.0.0
          by_action t error taken is' = absurd is'

      -- where no token can be shifted, it is refused, or a reduction is made
      without_shift : (IsRaw M.grammar (symbols_of stack) token.terminal shift → ⊥)
          → (turn_trees n token levels ≡ settles refused) ⊎ Reduced
      without_shift no_shift = by_entry (entry_at m (top_state levels) token.terminal) refl where
        by_default : (d : Option ℕ) → slice_get n.defaults (top_state levels) ≡ Some d
            → entry_at m (top_state levels) token.terminal ≡ None → (turn_trees n token levels ≡ settles refused) ⊎ Reduced
        by_default None at e = inl (turns_by levels table.error (action_lost None at e))
        by_default (Some p) at e = inr (default_reduces p (has.defaults (top_state levels) (Some p) at)
            (action_lost (Some p) at e))

        by_action : (a : TableAction) (b : Action) → entry_at m (top_state levels) token.terminal ≡ Some a
            → IsAction M.grammar (judge_of s) (symbols_of stack) token.terminal b
            → IsEntryFor M (top_state levels) token.terminal b a → (turn_trees n token levels ≡ settles refused) ⊎ Reduced
        by_action a shift e taken is = absurd (no_shift taken.0)
        by_action a error e taken is = absurd (no_shift taken.0)
        by_action (table.shift k) (reduce p) e taken is = absurd is
        by_action table.accept (reduce p) e taken is = absurd is
        by_action table.error (reduce p) e taken is = absurd is
        by_action (table.reduce q) (reduce p) e taken is = inr (reduced_by p token.terminal taken.0.0
            (action_kept (table.reduce q) e ∙ ap table.reduce (sym is)))

        by_entry : (o : Option TableAction) → entry_at m (top_state levels) token.terminal ≡ o
            → (turn_trees n token levels ≡ settles refused) ⊎ Reduced
        by_entry None e = let d = default_there in by_default d.0 d.1 e
        by_entry (Some a) e = let taken = are.some (top_state levels) token.terminal a there e in
            by_action a taken.0 e (action_here taken.0 taken.1) taken.2

    -- A run by defaults: it began with a reduction that isn't asked for before the token.
    record Strays (stack : List Pushed) : Type 0 where
      from : List Symbol
      under : List Symbol
      before : List Symbol
      number : ℕ
      lookahead : ℕ
      rule : GrammarRule
      is_rule : IsRule M.grammar number rule
      viable : IsViable M.grammar from
      valid : Valid M.grammar from number before [] lookahead
      split : from ≡ before ++ under
      leads : Reduces M.grammar (nonterminal rule.left ∷ under) (symbols_of stack)
      not_asked : InLookahead M.grammar from number token.terminal → ⊥

    -- so it comes to no shift
    no_shift : {stack : List Pushed} → Strays stack → IsRaw M.grammar (symbols_of stack) token.terminal shift → ⊥
    no_shift {stack = stack} x raw = x.not_asked (never_mislead M.grammar is.augmented is.reduced x.from x.under
        (symbols_of stack) x.before x.number x.lookahead token.terminal x.rule x.is_rule x.viable x.valid x.split
        x.leads raw)

    -- the symbols of a stack of which a reduction pops some
    symbols_split : {stack : List Pushed} {levels : List TreeLevel} {mirrors : Mirrors M stack levels}
        (r : Reduced mirrors) → symbols_of stack ≡ r.before ++ symbols_of r.made.below
    symbols_split r = ap symbols_of r.made.split
        ∙ (symbols_of-append r.made.popped r.made.below
        ∙ ap (λ w. w ++ symbols_of r.made.below) r.made.is_before)

    -- a reduction of the tables leads on
    strays_on : {stack : List Pushed} {levels : List TreeLevel} (mirrors : Mirrors M stack levels)
        → Strays stack → (r : Reduced mirrors)
        → Strays (record {
          symbol = nonterminal r.made.rule.left;
          tree = node r.number (trees_onto r.made.popped none);
        } ∷ r.made.below)
    strays_on {stack = stack} mirrors x r = record {
      from = x.from;
      under = x.under;
      before = x.before;
      number = x.number;
      lookahead = x.lookahead;
      rule = x.rule;
      is_rule = x.is_rule;
      viable = x.viable;
      valid = x.valid;
      split = x.split;
      leads = Reduces-last x.leads r.made.is_rule r.valid (symbols_split r);
      not_asked = x.not_asked;
    }

    -- a token that strays is refused
    refused_late : {levels : List TreeLevel} {out : TreeFed} → FeedsTree n token levels out → (stack : List Pushed)
        → Mirrors M stack levels → Strays stack → out ≡ refused
    refused_late {levels} (settled {out = out} e) stack mirrors x = elim (without_shift mirrors (no_shift x)) [
      | inl r ↦ let same : settles out ≡ settles refused = sym e ∙ r in cc
      | inr r ↦ absurd (let off : settles out ≡ goes_on r.made.next = sym e ∙ r.turns in cc)
    ]
    refused_late {levels} {out} (onward {next = next} e rest) stack mirrors x
        = elim (without_shift mirrors (no_shift x)) [
          | inl r ↦ absurd (let off : goes_on next ≡ settles refused = sym e ∙ r in cc)
          | inr r ↦
              let one : goes_on r.made.next ≡ goes_on next = sym r.turns ∙ e in
              let same : r.made.next ≡ next = cc in
              refused_late rest _ (subst (Mirrors M _) same r.made.mirrors) (strays_on mirrors x r)
        ]

    strays_from : {stack : List Pushed} {levels : List TreeLevel} (mirrors : Mirrors M stack levels)
        → IsTerminalRefused M.grammar (symbols_of stack) token.terminal → (r : Reduced mirrors)
        → Strays (record {
          symbol = nonterminal r.made.rule.left;
          tree = node r.number (trees_onto r.made.popped none);
        } ∷ r.made.below)
    strays_from {stack = stack} {levels = levels} mirrors nothing r = record {
      from = symbols_of stack;
      under = symbols_of r.made.below;
      before = r.before;
      number = r.number;
      lookahead = r.lookahead;
      rule = r.made.rule;
      is_rule = r.made.is_rule;
      viable = is.cores.only (symbols_of stack) (top_state levels) (reached M mirrors);
      valid = r.valid;
      split = symbols_split r;
      leads = default.here;
      not_asked = λ la. nothing (reduce r.number) (r.some, la);
    }

    -- a token before which nothing is asked for is refused
    refused_first : {levels : List TreeLevel} {out : TreeFed} → FeedsTree n token levels out → (stack : List Pushed)
        → Mirrors M stack levels → IsTerminalRefused M.grammar (symbols_of stack) token.terminal → out
        ≡ refused
    refused_first (settled {out = out} e) stack mirrors nothing = elim (without_shift mirrors (nothing shift)) [
      | inl r ↦ let same : settles out ≡ settles refused = sym e ∙ r in cc
      | inr r ↦ absurd (let off : settles out ≡ goes_on r.made.next = sym e ∙ r.turns in cc)
    ]
    refused_first (onward {next = next} e rest) stack mirrors nothing
        = elim (without_shift mirrors (nothing shift)) [
          | inl r ↦ absurd (let off : goes_on next ≡ settles refused = sym e ∙ r in cc)
          | inr r ↦
              let one : goes_on r.made.next ≡ goes_on next = sym r.turns ∙ e in
              let same : r.made.next ≡ next = cc in
              refused_late rest _ (subst (Mirrors M _) same r.made.mirrors) (strays_from mirrors nothing r)
        ]

    module _ (behind : List (Token ℕ)) where
      at : List Pushed → Configuration
      at stack = record { stack = stack; rest = token ∷ behind }

      -- what becomes of the token behind a move becomes of it
      before_move : (stack next : List Pushed) (out : TreeFed) → Moves M.grammar (judge_of s)
          (record { stack = stack; rest = token ∷ behind }) (record { stack = next; rest = token ∷ behind })
          → Simulates M (judge_of s) next token behind out
          → Simulates M (judge_of s) stack token behind out
      before_move stack next (pushed levels) mv f = (f.0, machine.onward mv f.1, f.2)
      before_move stack next (done tree) mv f = (f.0, f.1, machine.onward mv f.2, f.3, f.4)
      before_move stack next refused mv f = (f.0, machine.onward mv f.1, f.2, f.3)
      before_move stack next faulty mv f = f

      -- one turn of the tables: the token is settled, a reduction is a move, or nothing is asked for
      data Step {stack : List Pushed} {levels : List TreeLevel} (mirrors : Mirrors M stack levels)
          : Type 0 where
        as_settled : (out : TreeFed) → turn_trees n token levels ≡ settles out
            → Simulates M (judge_of s) stack token behind out → Step mirrors
        as_moved : (r : Reduced mirrors) → Moves M.grammar (judge_of s)
            (record { stack = stack; rest = token ∷ behind })
            (record {
              stack = record {
                symbol = nonterminal r.made.rule.left;
                tree = node r.number (trees_onto r.made.popped none);
              } ∷ r.made.below;
              rest = token ∷ behind;
            }) → Step mirrors
        as_refused : IsTerminalRefused M.grammar (symbols_of stack) token.terminal → Step mirrors

      -- what is on top of a stack of one symbol
      record Topped (stack : List Pushed) (levels : List TreeLevel) : Type 0 where
        x : Pushed
        below : List Pushed
        l : TreeLevel
        ls : List TreeLevel
        is_stack : stack ≡ x ∷ below
        is_levels : levels ≡ l ∷ ls
        is_tree : l.tree ≡ x.tree

      topped : {stack : List Pushed} {levels : List TreeLevel} (X : Symbol) → Mirrors M stack levels
          → symbols_of stack ≡ X ∷ [] → Topped stack levels
      topped X bottom e = absurd (let off : [] ≡ X ∷ [] → ⊥ = λ z. cc in off e)
      topped X (above {x = x} {state = state} {stack = stack} {levels = levels} mirrors e) same = record {
        x = x;
        below = stack;
        l = record { state = state; tree = x.tree };
        ls = levels;
        is_stack = refl;
        is_levels = refl;
        is_tree = refl;
      }

      step : {stack : List Pushed} {levels : List TreeLevel} (mirrors : Mirrors M stack levels) → Step mirrors
      unfolding reduced_by
      step {stack = stack} {levels = levels} mirrors
          = by_entry (entry_at m (top_state levels) token.terminal) refl
        where
          accepting : token.terminal ≡ 0
              → IsAction M.grammar (judge_of s) (symbols_of stack) token.terminal shift
              → action_of n (top_state levels) token.terminal ≡ table.accept → Step mirrors
          accepting end taken e =
              let zero_done : IsAction M.grammar (judge_of s) (symbols_of stack) 0 shift
              = subst (λ t. IsAction M.grammar (judge_of s) (symbols_of stack) t shift) end taken in
              let top = topped (nonterminal M.grammar.start) mirrors (behind_start is.augmented zero_done.0) in
              as_settled (done top.l.tree)
              (turns_by levels table.accept e ∙ ap Rattle.ly_parse.specs.Deriving.accept_tree top.is_levels) (
                record { stack = stack; rest = token ∷ behind },
                top.x.tree,
                machine.here,
                record {
                  token = token;
                  behind = behind;
                  is_next = refl;
                  is_end = end;
                  action = zero_done;
                  symbol = top.x.symbol;
                  below = top.below;
                  is_top = top.is_stack;
                },
                top.is_tree,
              )

          by_action : (a : TableAction) (b : Action) → entry_at m (top_state levels) token.terminal ≡ Some a
              → IsAction M.grammar (judge_of s) (symbols_of stack) token.terminal b
              → IsEntryFor M (top_state levels) token.terminal b a → Step mirrors
          by_action (table.shift k) shift e taken is' = as_settled
              (pushed (record { state = k; tree = leaf token } ∷ levels))
              (turns_by levels (table.shift k) (action_kept mirrors (table.shift k) e)) (
                record { symbol = terminal token.terminal; tree = leaf token } ∷ stack,
                machine.onward (inl (record {
                  token = token;
                  is_next = refl;
                  action = taken;
                  not_end = λ z. let pos = is'.0 in omega (arith, z, pos);
                  pushed = refl;
                })) machine.here,
                above mirrors is'.1,
              )
          by_action table.accept shift e taken is' = accepting is' taken (action_kept mirrors table.accept e)
          by_action (table.reduce q) shift e taken is' = absurd is'
          by_action table.error shift e taken is' = absurd is'
          by_action (table.shift k) (reduce p) e taken is' = absurd is'
          by_action table.accept (reduce p) e taken is' = absurd is'
          by_action table.error (reduce p) e taken is' = absurd is'
          by_action (table.reduce q) (reduce p) e taken is' =
              let r = reduced_by mirrors p token.terminal taken.0.0
              (action_kept mirrors (table.reduce q) e ∙ ap table.reduce (sym is')) in
              as_moved r (inr (record {
                token = token;
                behind = behind;
                is_next = refl;
                kept = refl;
                number = p;
                rule = r.made.rule;
                is_rule = r.made.is_rule;
                action = taken;
                popped = r.made.popped;
                below = r.made.below;
                split = r.made.split;
                is_body = r.made.is_body;
                pushed = refl;
              }))
          by_action (table.shift k) error e taken is' = absurd is'
          by_action table.accept error e taken is' = absurd is'
          by_action (table.reduce q) error e taken is' = absurd is'
          by_action table.error error e taken is' = as_settled refused
              (turns_by levels table.error (action_kept mirrors table.error e)) (
                record { stack = stack; rest = token ∷ behind },
                machine.here,
                record { token = token; behind = behind; is_next = refl; action = inl taken },
                refl,
              )

          by_entry : (o : Option TableAction) → entry_at m (top_state levels) token.terminal ≡ o → Step mirrors
          by_entry None e = as_refused (refused_here mirrors
              (are.none (top_state levels) token.terminal (there mirrors) within e))
          by_entry (Some a) e = let taken = are.some (top_state levels) token.terminal a (there mirrors) e in
              by_action a taken.0 e (action_here mirrors taken.0 taken.1) taken.2

      follow : {levels : List TreeLevel} {out : TreeFed} → FeedsTree n token levels out → (stack : List Pushed)
          → Mirrors M stack levels → Simulates M (judge_of s) stack token behind out
      follow (settled {out = out} e) stack mirrors = by_step (step mirrors) where
        by_step : Step mirrors → Simulates M (judge_of s) stack token behind out
        by_step (as_settled other e' f) =
            let one : settles other ≡ settles out = sym e' ∙ e in
            let same : other ≡ out = cc in
            subst (Simulates M (judge_of s) stack token behind) same f
        by_step (as_moved r mv) = absurd (let off : settles out ≡ goes_on r.made.next = sym e ∙ r.turns in cc)
        by_step (as_refused nothing) = subst (Simulates M (judge_of s) stack token behind)
            (sym (refused_first (settled e) stack mirrors nothing)) (
              record { stack = stack; rest = token ∷ behind },
              machine.here,
              record { token = token; behind = behind; is_next = refl; action = inr nothing },
              refl,
            )
      follow {out = out} (onward {next = next} e rest) stack mirrors
          = by_step (step mirrors) (λ st ms. follow rest st ms)
        where
          by_step : Step mirrors → ((st : List Pushed) → Mirrors M st next
              → Simulates M (judge_of s) st token behind out)
              → Simulates M (judge_of s) stack token behind out
          by_step (as_settled other e' f) later = absurd (let off : settles other ≡ goes_on next = sym e' ∙ e in cc)
          by_step (as_moved r mv) later =
              let one : goes_on r.made.next ≡ goes_on next = sym r.turns ∙ e in
              let same : r.made.next ≡ next = cc in
              before_move stack _ out mv (later _ (subst (Mirrors M _) same r.made.mirrors))
          by_step (as_refused nothing) later = subst (Simulates M (judge_of s) stack token behind)
              (sym (refused_first (onward e rest) stack mirrors nothing)) (
                record { stack = stack; rest = token ∷ behind },
                machine.here,
                record { token = token; behind = behind; is_next = refl; action = inr nothing },
                refl,
              )

pub tables_follow : TablesFollow
tables_follow s M n is useful (m, are, has) stack levels token behind out within mirrors feeds
    = follow s M m n is useful are has token within behind feeds stack mirrors
