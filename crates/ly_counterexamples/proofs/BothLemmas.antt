-- Two parses that take both actions of a conflict: where they part, and what is seen there.
use Rattle.std.proofs.Common.{◌≡◌, ◌≢◌, ◌∙◌, ◌<◌, ◌≤◌, ◌+◌, ℕ, List, [], ◌∷◌, ◌++◌, Option, Some, None, refl, sym, ap}
use Rattle.std.proofs.Common.{arith, subst, drop, take, length, option_map, slice_get}
use Rattle.std.proofs.Math.Seq.{drop-append_seam, take-append_seam}
use Rattle.std.proofs.lemmas.List.{append_cancel_left, length-map, take-append-drop}
use Rattle.std.proofs.lemmas.Option.{slice_get-map, slice_get_within}
use Rattle.ly_join.specs.Grammar.{Grammar, Symbol, nonterminal, terminal}
use Rattle.ly_lr0.specs.Automaton.{IsLr0Automaton, Reaches, goto_of, prefix_of}
use Rattle.ly_relate.proofs.ReachLemmas.{Reaches_one}
use Rattle.ly_resolve.specs.Resolved.{Resolved}
use Rattle.ly_resolve.specs.Values.{action_from, conflict_from, IsInside, kind_from}
use Rattle.ly_resolve.specs.declared.conflict.Conflict.{Conflict}
use Rattle.ly_counterexamples.specs.Examples.{rival}
use Rattle.ly_counterexamples.specs.Moves.{Lead, Move, move_before, reduces, shifted, shifts, TakeBoth}
use Rattle.ly_counterexamples.specs.declared.moves.Move as made
use Rattle.ly_counterexamples.specs.Private.Leftmost.{move_from, moves_from}
use Rattle.ly_counterexamples.specs.Private.Parses.{ReachesNone}
use Rattle.ly_counterexamples.proofs.ParseLemmas.{get_behind, lead_reduced, move_one, parted_at, same_below}
use Rattle.ly_counterexamples.proofs.ParseLemmas.{shifted_append}
use Rattle.ly_counterexamples.proofs.ParseLemmas.{split_at}

-- moves lead to one string
lead_one : (G : Grammar) (g : List Symbol) (moves : List Move) (h k : List Symbol) → Lead G g moves h → Lead G g moves k
    → h ≡ k
lead_one G g [] h k one other = sym one ∙ other
lead_one G g (shifts t ∷ moves) h k one other = lead_one G (terminal t ∷ g) moves h k one other
lead_one G g (reduces p ∷ moves) h k (r, below, is, split, on) other = lead_one G (nonterminal r.left ∷ below) moves h k
    on ((lead_reduced G p r is g below split moves k).0 other)

-- moves that are the same to a reader are the same, if there are any
some_one : (a b : Option made.Move) → option_map move_from a ≡ option_map move_from b → a ≡ b
some_one None None e = refl
some_one None (Some b) e = absurd (cc)
some_one (Some a) None e = absurd (cc)
some_one (Some a) (Some b) e =
    let same : move_from a ≡ move_from b = cc in
    ap Some (move_one a b same)

-- Two lists of moves that are the same up to a number, and other there.
module _ (r : Resolved) (lawful : IsLr0Automaton r.automaton) (conflict : Conflict)
    (inside : IsInside r.automaton conflict) (one other : List made.Move) (n : ℕ)
    (same : (k : ℕ) → k < n → slice_get one k ≡ slice_get other k) (within : n ≤ length one)
    (apart : n < length one → slice_get one n ≢ slice_get other n) where
  abbrev Both : Type 0
  Both = TakeBoth r (conflict_from r.automaton conflict) (moves_from one) (moves_from other)

  -- as a reader sees them
  same_there : (k : ℕ) → k < n → slice_get (moves_from one) k ≡ slice_get (moves_from other) k
  same_there k lt = slice_get-map move_from one k ∙ ap (option_map move_from) (same k lt)
      ∙ sym (slice_get-map move_from other k)

  apart_there : n < length (moves_from one) → slice_get (moves_from one) n ≢ slice_get (moves_from other) n
  apart_there lt e = apart (omega (arith, lt, length-map one move_from)) (some_one (slice_get one n) (slice_get other n)
      (sym (slice_get-map move_from one n) ∙ e ∙ slice_get-map move_from other n))

  -- the conflict's prefix leads to its state
  at_prefix : Reaches (goto_of r.automaton) 0 (prefix_of r.automaton conflict.state.0) conflict.state.0
  at_prefix = lawful.numbered.leads conflict.state.0 inside.state

  -- they part where both actions are taken
  parts : (t : Both) → n ≡ length t.before
  parts t = parted_at t.before t.move (reduces conflict.rule.0) t.behind t.beyond n
      (λ k lt. ap (λ xs. slice_get xs k) (sym t.first) ∙ same_there k lt ∙ ap (λ xs. slice_get xs k) t.second)
      (λ lt e. apart_there (subst (λ xs. n < length xs) (sym t.first) lt)
      (ap (λ xs. slice_get xs n) t.first ∙ e ∙ ap (λ xs. slice_get xs n) (sym t.second))) t.apart

  at_one : (t : Both) → slice_get (moves_from one) n ≡ Some t.move
  at_one t = ap (slice_get (moves_from one)) (parts t) ∙ ap (λ xs. slice_get xs (length t.before)) t.first
      ∙ get_behind t.before t.move t.behind

  at_other : (t : Both) → slice_get (moves_from other) n ≡ Some (reduces conflict.rule.0)
  at_other t = ap (slice_get (moves_from other)) (parts t) ∙ ap (λ xs. slice_get xs (length t.before)) t.second
      ∙ get_behind t.before (reduces conflict.rule.0) t.beyond

  front : (t : Both) → take n (moves_from one) ≡ t.before
  front t = ap (λ k. take k (moves_from one)) (parts t) ∙ ap (take (length t.before)) t.first
      ∙ take-append_seam t.before (t.move ∷ t.behind)

  rest : (t : Both) → drop n (moves_from one) ≡ t.move ∷ t.behind
  rest t = ap (λ k. drop k (moves_from one)) (parts t) ∙ ap (drop (length t.before)) t.first
      ∙ drop-append_seam t.before (t.move ∷ t.behind)

  -- there is a move of each
  pub is_one : Both → length one ≤ n → ⊥
  is_one t past =
      let lt = slice_get_within (moves_from one) n t.move (at_one t) in
      absurd (omega (arith, lt, past, length-map one move_from))

  pub is_other : Both → length other ≤ n → ⊥
  is_other t past =
      let lt = slice_get_within (moves_from other) n (reduces conflict.rule.0) (at_other t) in
      absurd (omega (arith, lt, past, length-map other move_from))

  -- they are the actions
  pub are_both : Both → (a b : made.Move) → slice_get one n ≡ Some a → slice_get other n ≡ Some b
      → (move_before conflict.terminal.0 (rival (kind_from conflict.kind) (action_from conflict.choice))
      ≡ Some (move_from a)) × (move_from b ≡ reduces conflict.rule.0)
  are_both t a b is_a is_b =
      let one_is : Some (move_from a) ≡ Some t.move
      = ap (option_map move_from) (sym is_a) ∙ sym (slice_get-map move_from one n) ∙ at_one t in
      let other_is : Some (move_from b) ≡ Some (reduces conflict.rule.0)
      = ap (option_map move_from) (sym is_b) ∙ sym (slice_get-map move_from other n) ∙ at_other t in
      (t.is_rival ∙ sym one_is, cc)

  -- the terminal is next
  pub next_is : (t : Both) → shifted (drop n (moves_from one)) ≡ conflict.terminal.0 ∷ t.left
  next_is t = ap shifted (rest t) ∙ t.first_next

  -- the moves that both have lead to the string
  pub lead_there : (t : Both) → Lead r.spec.grammar [] (take n (moves_from one)) t.string
  lead_there t = subst (λ ms. Lead r.spec.grammar [] ms t.string) (sym (front t)) t.leads

  pub string_there : (t : Both) (g : List Symbol) → Lead r.spec.grammar [] (take n (moves_from one)) g → g ≡ t.string
  string_there t g leads = lead_one r.spec.grammar [] (take n (moves_from one)) g t.string leads (lead_there t)

  -- which leads to the conflict's state
  pub reaches_there : (t : Both) → Reaches (goto_of r.automaton) 0 t.string conflict.state.0
  reaches_there t =
      let there = lawful.cores.has t.string t.merges.right in
      let state : conflict.state.0 ≡ there.0
      = lawful.cores.one (prefix_of r.automaton conflict.state.0) t.string conflict.state.0 there.0 at_prefix there.1
      t.merges.cores in
      subst (Reaches (goto_of r.automaton) 0 t.string) (sym state) there.1

  pub reaches_some : Both → (g : List Symbol) → Lead r.spec.grammar [] (take n (moves_from one)) g
      → ReachesNone r.automaton g → ⊥
  reaches_some t g leads never = never conflict.state.0
      (subst (λ w. Reaches (goto_of r.automaton) 0 w conflict.state.0) (sym (string_there t g leads)) (reaches_there t))

  pub reaches_one : Both → (g : List Symbol) → Lead r.spec.grammar [] (take n (moves_from one)) g → (s : ℕ)
      → Reaches (goto_of r.automaton) 0 g s → s ≡ conflict.state.0
  reaches_one t g leads s reaches = Reaches_one (goto_of r.automaton) 0 g s conflict.state.0 reaches
      (subst (λ w. Reaches (goto_of r.automaton) 0 w conflict.state.0) (sym (string_there t g leads)) (reaches_there t))

  -- where all this is seen, both actions are taken
  pub take_them : shifted (moves_from one) ≡ shifted (moves_from other) → (a b : made.Move) → slice_get one n ≡ Some a
      → slice_get other n ≡ Some b
      → (move_before conflict.terminal.0 (rival (kind_from conflict.kind) (action_from conflict.choice))
      ≡ Some (move_from a)) → (move_from b ≡ reduces conflict.rule.0) → (left : List ℕ)
      → shifted (drop n (moves_from one)) ≡ conflict.terminal.0 ∷ left → (g : List Symbol)
      → Lead r.spec.grammar [] (take n (moves_from one)) g → Reaches (goto_of r.automaton) 0 g conflict.state.0 → Both
  take_them equal a b is_a is_b is_rival is_rule left next g leads reaches =
      let xs = moves_from one in
      let ys = moves_from other in
      let before = take n xs in
      let behind = drop (n + 1) xs in
      let beyond = drop (n + 1) ys in
      let first : xs ≡ before ++ move_from a ∷ behind
      = split_at xs n (move_from a) (slice_get-map move_from one n ∙ ap (option_map move_from) is_a) in
      let common : take n xs ≡ take n ys
      = same_below xs ys n (omega (arith, within, length-map one move_from)) same_there in
      let second : ys ≡ before ++ reduces conflict.rule.0 ∷ beyond
      = split_at ys n (reduces conflict.rule.0)
      (slice_get-map move_from other n ∙ ap (option_map move_from) is_b ∙ ap Some is_rule)
      ∙ ap (λ w. w ++ reduces conflict.rule.0 ∷ beyond) (sym common) in
      let rest_is : drop n xs ≡ move_from a ∷ behind
      = append_cancel_left before (drop n xs) (move_from a ∷ behind) (take-append-drop n xs ∙ first) in
      let first_next : shifted (move_from a ∷ behind) ≡ conflict.terminal.0 ∷ left = ap shifted (sym rest_is) ∙ next in
      let cut : shifted before ++ shifted beyond ≡ shifted before ++ shifted (move_from a ∷ behind)
      = sym (shifted_append before (reduces conflict.rule.0 ∷ beyond)) ∙ ap shifted (sym second) ∙ sym equal
      ∙ ap shifted first ∙ shifted_append before (move_from a ∷ behind) in
      record {
        before = before;
        string = g;
        leads = leads;
        merges = record {
          left = lawful.cores.only (prefix_of r.automaton conflict.state.0) conflict.state.0 at_prefix;
          right = lawful.cores.only g conflict.state.0 reaches;
          cores = lawful.cores.same (prefix_of r.automaton conflict.state.0) g conflict.state.0 at_prefix reaches;
        };
        move = move_from a;
        is_rival = is_rival;
        apart = λ e. apart (slice_get_within one n a is_a)
            (is_a ∙ ap Some (move_one a b (e ∙ sym is_rule)) ∙ sym is_b);
        behind = behind;
        first = first;
        beyond = beyond;
        second = second;
        left = left;
        first_next = first_next;
        second_next = append_cancel_left (shifted before) (shifted beyond) (shifted (move_from a ∷ behind)) cut
            ∙ first_next;
      }
