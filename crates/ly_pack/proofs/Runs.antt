-- Runs on steady tables end.
use Rattle.std.proofs.Common.{◌≡◌, ◌⊎◌, inl, inr, ℕ, zero, suc, ◌+◌, ◌*◌, ◌<◌, ◌≤◌, List, [], ◌∷◌, ◌++◌, length, drop}
use Rattle.std.proofs.Common.{Option, Some, None, refl, sym, ◌∙◌, ap, subst, arith, length-drop, length-append}
use Rattle.std.proofs.lemmas.Bool.{cases_lt}
use Rattle.std.proofs.lemmas.List.{drop-append-le}
use Rattle.ly_pack.specs.Machine.{Machine, TableAction, TableRule, shift, reduce, accept, error, action_of, goto_at}
use Rattle.ly_pack.specs.Steady.{RunEnd, Move, ends, goes_on, push, go_to, reduce_by, rule_at, perform, action_on, move}
use Rattle.ly_pack.specs.Steady.{ReducesTo, here, onward, EndsWithin, IsTableEdge, by_shift, by_goto, IsSteadyWithin}
use Rattle.ly_pack.specs.SteadyLaws.{IsStack, on_edge, counted, reductions, ShiftsKeepEdges, BottomMakesEdge}
use Rattle.ly_pack.specs.SteadyLaws.{RunsAboveEnd, RunsEnd, ReductionsFall}

-- a move that goes on, in its parts
pub record Made (m : Machine) (t : ℕ) (stack next : List ℕ) : Type 0 where
  pub number : ℕ
  pub is_action : action_on m t stack ≡ reduce number
  pub rule : TableRule
  pub is_rule : rule_at m number ≡ Some rule
  pub under : ℕ
  pub rest : List ℕ
  pub popped : drop rule.body_length stack ≡ under ∷ rest
  pub state : ℕ
  pub is_goto : goto_at m under rule.left ≡ Some state
  pub pushed : next ≡ state ∷ under ∷ rest

module _ (m : Machine) (t : ℕ) where
  pub made : (stack next : List ℕ) → move m t stack ≡ goes_on next → Made m t stack next
  made stack next e = by_action (action_on m t stack) refl e
    where
      by_state : (p under : ℕ) (r : TableRule) (rest : List ℕ) (o : Option ℕ) → action_on m t stack ≡ reduce p
          → rule_at m p ≡ Some r → drop r.body_length stack ≡ under ∷ rest → goto_at m under r.left ≡ o
          → push (under ∷ rest) o ≡ goes_on next → Made m t stack next
      by_state p under r rest None a i d g e = absurd (cc)
      by_state p under r rest (Some state) a i d g e = record {
        number = p;
        is_action = a;
        rule = r;
        is_rule = i;
        under = under;
        rest = rest;
        popped = d;
        state = state;
        is_goto = g;
        pushed = cc;
      }

      by_left : (p : ℕ) (r : TableRule) (left : List ℕ) → action_on m t stack ≡ reduce p → rule_at m p ≡ Some r
          → drop r.body_length stack ≡ left → go_to m r.left left ≡ goes_on next → Made m t stack next
      by_left p r [] a i d e = absurd (cc)
      by_left p r (under ∷ rest) a i d e = by_state p under r rest (goto_at m under r.left) a i d refl e

      by_rule : (p : ℕ) (o : Option TableRule) → action_on m t stack ≡ reduce p → rule_at m p ≡ o
          → reduce_by m stack o ≡ goes_on next → Made m t stack next
      by_rule p None a i e = absurd (cc)
      by_rule p (Some r) a i e = by_left p r (drop r.body_length stack) a i refl e

      by_action : (a : TableAction) → action_on m t stack ≡ a → perform m stack a ≡ goes_on next → Made m t stack next
      by_action (shift s) a e = absurd (cc)
      by_action (reduce p) a e = by_rule p (rule_at m p) a refl e
      by_action accept a e = absurd (cc)
      by_action error a e = absurd (cc)

  -- the other way round
  pub makes : (p under state : ℕ) (r : TableRule) (stack rest : List ℕ) → action_on m t stack ≡ reduce p
      → rule_at m p ≡ Some r → drop r.body_length stack ≡ under ∷ rest → goto_at m under r.left ≡ Some state
      → move m t stack ≡ goes_on (state ∷ under ∷ rest)
  makes p under state r stack rest a i d g = ap (perform m stack) a ∙ (ap (reduce_by m stack) i
      ∙ (ap (go_to m r.left) d ∙ ap (push (under ∷ rest)) g))

  same_top : (stack more : List ℕ) → 0 < length stack → action_on m t (stack ++ more) ≡ action_on m t stack
  same_top [] more some = absurd (omega arith)
  same_top (top ∷ low) more some = refl

  move_above : (stack more next : List ℕ) → move m t stack ≡ goes_on next
      → move m t (stack ++ more) ≡ goes_on (next ++ more)
  move_above stack more next e =
      let d = made stack next e in
      let b = d.rule.body_length in
      let size : b < length stack = omega (arith, length-drop b stack, ap length d.popped) in
      let all = drop-append-le b stack more (omega arith) ∙ ap (λ w. w ++ more) d.popped in
      makes d.number d.under d.state d.rule (stack ++ more) (d.rest ++ more)
      (same_top stack more (omega arith) ∙ d.is_action) d.is_rule all d.is_goto
      ∙ ap (λ w. goes_on (w ++ more)) (sym d.pushed)

  pub reduces_above : {stack last : List ℕ} {n : ℕ} (more : List ℕ) → ReducesTo m t stack n last
      → ReducesTo m t (stack ++ more) n (last ++ more)
  reduces_above more here = here
  reduces_above {stack} more (onward {next = next} s l) = onward (move_above stack more next s) (reduces_above more l)

  pub leaving : (stack more next : List ℕ) (e : RunEnd) → 0 < length stack → move m t stack ≡ ends e
      → move m t (stack ++ more) ≡ goes_on next → length next ≤ suc (length more)
  leaving stack more next e some stop step = by_size (cases_lt d.rule.body_length (length stack))
    where
      d : Made m t (stack ++ more) next
      d = made (stack ++ more) next step

      inside : d.rule.body_length < length stack → (left : List ℕ) → drop d.rule.body_length stack ≡ left → ⊥
      inside lt [] same = omega (arith, ap length same, length-drop d.rule.body_length stack)
      inside lt (under ∷ rest) same =
          let both : under ∷ (rest ++ more) ≡ d.under ∷ d.rest =
          sym (drop-append-le d.rule.body_length stack more (omega arith) ∙ ap (λ w. w ++ more) same)
          ∙ d.popped in
          let unders : under ≡ d.under = cc in
          let on = makes d.number under d.state d.rule stack rest (sym (same_top stack more some) ∙ d.is_action)
          d.is_rule same (ap (λ s. goto_at m s d.rule.left) unders ∙ d.is_goto) in
          let no : ends e ≡ goes_on (d.state ∷ under ∷ rest) = sym stop ∙ on in
          cc

      by_size : (d.rule.body_length < length stack) ⊎ (length stack ≤ d.rule.body_length)
          → length next ≤ suc (length more)
      by_size (inl lt) = absurd (inside lt (drop d.rule.body_length stack) refl)
      by_size (inr le) = omega (
        arith,
        ap length d.pushed,
        ap length d.popped,
        length-drop d.rule.body_length (stack ++ more),
        length-append stack more,
      )

  drop_keeps : (n : ℕ) (stack : List ℕ) (top : ℕ) (rest : List ℕ) → IsStack m stack → drop n stack ≡ top ∷ rest
      → IsStack m (top ∷ rest)
  drop_keeps zero stack top rest h e = subst (IsStack m) e h
  drop_keeps (suc n) [] top rest h e = elim h [ ]
  drop_keeps (suc n) (s ∷ []) top rest h e = absurd (omega (arith, ap length e, length-drop {A = ℕ} n []))
  drop_keeps (suc n) (s ∷ u ∷ w) top rest (on_edge x h) e = drop_keeps n (u ∷ w) top rest h e

  move_keeps : (stack next : List ℕ) → IsStack m stack → move m t stack ≡ goes_on next → IsStack m next
  move_keeps stack next h e =
      let d = made stack next e in
      subst (IsStack m) (sym d.pushed)
      (on_edge (by_goto d.rule.left d.is_goto) (drop_keeps d.rule.body_length stack d.under d.rest h d.popped))

  pub keeps : {stack last : List ℕ} {n : ℕ} → IsStack m stack → ReducesTo m t stack n last → IsStack m last
  keeps h here = h
  keeps {stack} h (onward {next = next} s l) = keeps (move_keeps stack next h s) l

  two_up : (stack next : List ℕ) → move m t stack ≡ goes_on next → 2 ≤ length next
  two_up stack next e = let d = made stack next e in omega (arith, ap length d.pushed)

  pub reduced : {stack next : List ℕ} {bound : ℕ} → move m t stack ≡ goes_on next → EndsWithin m t next bound
      → EndsWithin m t stack (suc bound)
  reduced s r = record {
    count = suc r.count;
    last = r.last;
    ending = r.ending;
    leads = onward s r.leads;
    stops = r.stops;
    within = omega arith;
  }

  pub later : {stack : List ℕ} {j k : ℕ} → j ≤ k → EndsWithin m t stack j → EndsWithin m t stack k
  later h r = record {
    count = r.count;
    last = r.last;
    ending = r.ending;
    leads = r.leads;
    stops = r.stops;
    within = omega arith;
  }

  -- a stack on which the move ends, or goes on to what ends
  by_move : {stack : List ℕ} (bound : ℕ)
      → ((next : List ℕ) → move m t stack ≡ goes_on next → EndsWithin m t next bound) → (x : Move)
      → move m t stack ≡ x → EndsWithin m t stack (suc bound)
  by_move {stack} bound on (ends e) same = record {
    count = 0;
    last = stack;
    ending = e;
    leads = here;
    stops = same;
    within = omega arith;
  }
  by_move bound on (goes_on next) same = reduced same (on next same)

  -- Where the run of the upper states alone ends, the whole stack's run ends with it or goes on with a stack at most
  -- one state higher than the others.
  above : {stack last : List ℕ} {n : ℕ} (more : List ℕ) (e : RunEnd) (bound : ℕ) → ReducesTo m t stack n last
      → move m t last ≡ ends e → 0 < length stack → IsStack m (stack ++ more)
      → ((next : List ℕ) → IsStack m next → 2 ≤ length next → length next ≤ suc (length more)
      → EndsWithin m t next bound) → EndsWithin m t (stack ++ more) (n + suc bound)
  above {stack} more e bound here stop some h on =
      later (omega arith) (by_move bound (λ next s. on next (move_keeps (stack ++ more) next h s)
      (two_up (stack ++ more) next s) (leaving stack more next e some stop s)) (move m t (stack ++ more)) refl)
  above {stack} more e bound (onward {next = next} s l) stop some h on =
      let up = move_above stack more next s in
      later (omega arith) (reduced up (above more e bound l stop (omega (arith, two_up stack next s))
      (move_keeps (stack ++ more) (next ++ more) h up) on))

  -- by induction on how many states there are above the bottom
  ends_above : (bound : ℕ) → IsSteadyWithin m bound → t < m.terminals → (height : ℕ) (stack : List ℕ)
      → 2 ≤ length stack → length stack ≤ suc height → IsStack m stack → EndsWithin m t stack ((bound + 1) * height)
  ends_above bound steady known zero stack two low h = absurd (omega arith)
  ends_above bound steady known (suc height) [] two low h = elim h [ ]
  ends_above bound steady known (suc height) (top ∷ []) two low h = absurd (omega arith)
  ends_above bound steady known (suc height) (top ∷ below ∷ rest) two low (on_edge x h) =
      let r = steady below top t known x in
      let run = above rest r.ending ((bound + 1) * height) r.leads r.stops (omega arith) (on_edge x h)
      (λ next k two le. ends_above bound steady known height next two (omega arith) k) in
      later (omega (arith, r.within)) run

pub shifts_keep : ShiftsKeepEdges
shifts_keep m t state top low h is = on_edge (by_shift t is) h

-- what the bottom alone does
abbrev BottomMakes : Machine → ℕ → ℕ → List ℕ → Type 0
BottomMakes m t state next = (p : ℕ) × (r : TableRule) × (top : ℕ) × (action_of m state t ≡ reduce p)
    × (rule_at m p ≡ Some r) × (r.body_length ≡ 0) × IsTableEdge m state top × (next ≡ top ∷ state ∷ [])

pub bottom_edge : BottomMakesEdge
bottom_edge m t state next e = by_size d.rule.body_length refl d.popped
  where
    d : Made m t (state ∷ []) next
    d = made m t (state ∷ []) next e

    by_size : (n : ℕ) → d.rule.body_length ≡ n → drop n (state ∷ []) ≡ d.under ∷ d.rest → BottomMakes m t state next
    by_size zero b same =
        let under : state ≡ d.under = cc in
        let rest : [] ≡ d.rest = cc in (
          d.number,
          d.rule,
          d.state,
          d.is_action,
          d.is_rule,
          b,
          by_goto d.rule.left (ap (λ s. goto_at m s d.rule.left) under ∙ d.is_goto),
          d.pushed ∙ (ap (λ s. d.state ∷ s ∷ d.rest) (sym under) ∙ ap (λ w. d.state ∷ state ∷ w) (sym rest)),
        )
    by_size (suc n) b same = absurd (omega (arith, ap length same, length-drop {A = ℕ} n []))

pub runs_above_end : RunsAboveEnd
runs_above_end m bound t top below rest steady known h =
    ends_above m t bound steady known (length (below ∷ rest)) (top ∷ below ∷ rest) (omega arith) (omega arith) h

pub runs_end : RunsEnd
runs_end m bound t [] steady known h = elim h [ ]
runs_end m bound t (s ∷ []) steady known h = later m t (omega arith)
    (by_move m t bound (λ next same. on_bottom next (bottom_edge m t s next same)) (move m t (s ∷ [])) refl)
  where
    on_bottom : (next : List ℕ) → BottomMakes m t s next → EndsWithin m t next bound
    on_bottom next i = subst (λ w. EndsWithin m t w bound) (sym i.7) (steady s i.2 t known i.6)
runs_end m bound t (a ∷ b ∷ rest) steady known h =
    later m t (omega arith) (runs_above_end m bound t a b rest steady known h)

counts : {m : Machine} {t n : ℕ} {stack last : List ℕ} (e : RunEnd) (limit : ℕ) → ReducesTo m t stack n last
    → move m t last ≡ ends e → n ≤ limit → reductions m t limit stack ≡ n
counts e zero here stop low = refl
counts {m} {t} e (suc limit) here stop low = ap (counted (λ next. reductions m t limit next)) stop
counts e zero (onward s l) stop low = absurd (omega arith)
counts {m} {t} e (suc limit) (onward s l) stop low =
    ap (counted (λ next. reductions m t limit next)) s ∙ ap suc (counts e limit l stop (omega arith))

falls : {m : Machine} {t n : ℕ} {stack last : List ℕ} (e : RunEnd) (limit : ℕ) (next : List ℕ)
    → ReducesTo m t stack n last → move m t last ≡ ends e → n ≤ limit → move m t stack ≡ goes_on next
    → EndsWithin m t next limit × (reductions m t limit next < reductions m t limit stack)
falls e limit next here stop low step = absurd (let no : ends e ≡ goes_on next = sym stop ∙ step in cc)
falls {m} {t} {last = last} e limit next (onward {next = x} {n = n} s l) stop low step =
    let on : goes_on x ≡ goes_on next = sym s ∙ step in
    let same : x ≡ next = cc in
    let rest = subst (λ w. ReducesTo m t w n last) same l in
    let whole = counts e limit (onward step rest) stop low in
    let part = counts e limit rest stop (omega arith) in
    (record { count = n; last = last; ending = e; leads = rest; stops = stop; within = omega arith }, omega arith)

pub reductions_fall : ReductionsFall
reductions_fall m t limit stack next r step = falls r.ending limit next r.leads r.stops r.within step

-- a reduction behind others
pub one_more : {m : Machine} {t n : ℕ} {stack last next : List ℕ} → ReducesTo m t stack n last
    → move m t last ≡ goes_on next → ReducesTo m t stack (suc n) next
one_more here s = onward s here
one_more (onward r l) s = onward r (one_more l s)

-- reductions that were made are part of the run
pub no_more : {m : Machine} {t n k : ℕ} {stack next last : List ℕ} (e : RunEnd) → ReducesTo m t stack n next
    → ReducesTo m t stack k last → move m t last ≡ ends e → n ≤ k
no_more e here l stop = omega arith
no_more e (onward {next = next} s a) here stop = absurd (let no : ends e ≡ goes_on next = sym stop ∙ s in cc)
no_more {m} {t} {last = last} e (onward {next = x} s a) (onward {next = y} {n = k} r b) stop =
    let on : goes_on x ≡ goes_on y = sym s ∙ r in
    let same : y ≡ x = cc in
    let i = no_more e a (subst (λ w. ReducesTo m t w k last) same b) stop in
    omega arith
