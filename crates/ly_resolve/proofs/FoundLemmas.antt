-- What one more entry and one more state do to what was found.
use Rattle.std.proofs.Common.{◌≡◌, ◌∙◌, ◌⊎◌, inl, inr, ◌↔◌, ℕ, zero, suc, ◌+◌, ◌<◌, ◌≤◌, List, [], ◌∷◌, ◌++◌, Bool}
use Rattle.std.proofs.Common.{true}
use Rattle.std.proofs.Common.{Contains, IsTrue, ap, arith, length, map, refl, slice_get, subst, sym, Some}
use Rattle.std.specs.List.{AllPairs}
use Rattle.std.proofs.lemmas.Bool.{cases_eq}
use Rattle.std.proofs.lemmas.List.Elements.{Contains-append_cases, Contains-append_left, Contains-append_right}
use Rattle.ly_base.proofs.MemberLemmas.{Contains-first, Contains-none, Contains-one}
use Rattle.ly_base.proofs.ListLemmas.{AllPairs-append}
use Rattle.ly_join.specs.Grammar.{Grammar, Symbol}
use Rattle.ly_grammar.specs.Items.{IsViable, Merges}
use Rattle.ly_lr0.specs.Automaton.{Lr0Automaton, ComesBefore, IsLr0Automaton, Reaches, goto_of, prefix_of}
use Rattle.ly_lr0.proofs.OrderLemmas.{before_trans, not_before_itself}
use Rattle.ly_resolve.specs.Actions.{Action, Judge, PrecedenceVerdict, IsAction, IsConflictFree, IsDone, IsRaw, error}
use Rattle.ly_resolve.specs.Actions.{reduce}
use Rattle.ly_resolve.specs.Actions.{shift}
use Rattle.ly_resolve.specs.Conflicts.{AreConflicts, Conflict, CountsAs, IsBefore, IsConflict, IsCounted, IsLeast, Kind}
use Rattle.ly_resolve.specs.Conflicts.{reduce_reduce, shift_reduce}
use Rattle.ly_resolve.specs.Private.Found.{AreEntries, AreSingle, AreTold, IsPast, IsToldOf}
use Rattle.ly_resolve.specs.Private.Meetings.{all_told, AreAsked, AreMany, IsAskedBy}
use Rattle.ly_join.specs.Joined.{Spec}
use Rattle.ly_lr0.proofs.LawLemmas.{reached_within}
use Rattle.ly_resolve.specs.Precedence.{judge_of}
use Rattle.ly_resolve.specs.Resolved.{AreResolved, TerminalAction, IsRow}
use Rattle.ly_resolve.specs.Values.{conflict_from, resolved_from}
use Rattle.ly_resolve.specs.declared.conflict.Conflict as conflict
use Rattle.ly_resolve.proofs.MeetingLemmas.{IsToldAt, counts_too, done_once, done_too, not_single}
use Rattle.ly_resolve.proofs.MeetingLemmas.{single}
use Rattle.ly_resolve.proofs.MeetingLemmas.{told_are, told_ordered}
use Rattle.ly_resolve.proofs.RawLemmas.{merges_back, raw_too, prefix_at, raw_within, reached_merges}
use Rattle.ly_resolve.proofs.RawLemmas.{viable}

-- what is asked for is so by the items
pub asked_same : {G : Grammar} {g : List Symbol} {t : ℕ} {s : Bool} {rs : List ℕ} → AreAsked G g t s rs → (a : Action)
    → IsAskedBy s rs a ↔ IsRaw G g t a
asked_same asked shift = asked.shift
asked_same asked (reduce p) = asked.reductions p
asked_same asked error = ((λ x. x), λ x. x)

raw_same : {G : Grammar} {g : List Symbol} {t : ℕ} {s : Bool} {rs : List ℕ} → AreAsked G g t s rs → (a : Action)
    → IsRaw G g t a ↔ IsAskedBy s rs a
raw_same asked a = ((asked_same asked a).1, (asked_same asked a).0)

-- what is done or counted is asked for
done_asks : (A : Action → Type 0) (v : ℕ → PrecedenceVerdict) (a : Action) → IsDone A v a → (b : Action) × A b
done_asks A v shift d = (shift, d.0)
done_asks A v (reduce p) d = (reduce p, d.0.0)
done_asks A v error d = (shift, d.0)

counts_asks : (A : Action → Type 0) (v : ℕ → PrecedenceVerdict) (k : Kind) (p : ℕ) → CountsAs A v k p → (b : Action)
    × A b
counts_asks A v shift_reduce p c = (shift, c.0)
counts_asks A v reduce_reduce p c = (reduce p, c.0.0)

-- the entry of state s before terminal t is the last that is past before terminal t + 1
past_cases : (s t k u : ℕ) → IsPast s (t + 1) k u → IsPast s t k u ⊎ ((k ≡ s) × (u ≡ t))
past_cases s t k u (inl lt) = inl (inl lt)
past_cases s t k u (inr (e, lt)) = elim (cases_eq u t) [
  | inl same ↦ inr (e, same)
  | inr off ↦ inl (inr (e, omega (arith, lt, off)))
]

past_more : (s t k u : ℕ) → IsPast s t k u → IsPast s (t + 1) k u
past_more s t k u (inl lt) = inl lt
past_more s t k u (inr (e, lt)) = inr (e, omega (arith, lt))

none_past : (k u : ℕ) → IsPast 0 0 k u → ⊥
none_past k u (inl lt) = omega (arith, lt)
none_past k u (inr (e, lt)) = omega (arith, lt)

pub later_state : (s t k u : ℕ) → IsPast s t k u → IsPast (s + 1) 0 k u
later_state s t k u (inl lt) = inl (omega (arith, lt))
later_state s t k u (inr (e, lt)) = inl (omega (arith, e))

pub told_start : (M : Lr0Automaton) (judge : Judge) → AreTold M judge 0 0 [] true
told_start M judge = record {
  are = λ c. ((λ has. Contains-none c has), λ told. absurd (none_past told.state c.terminal told.past));
  ordered = λ i j d l m. absurd (omega (arith, m));
  free = ((λ e k u a b lt past x y. absurd (none_past k u past)), λ h. refl);
}

module _ (M : Lr0Automaton) (is : IsLr0Automaton M) (judge : Judge) (s t : ℕ) (lt : s < length M.states) where
  -- told of an entry before
  told_before : {c : Conflict} → IsToldOf M judge s t c → IsToldOf M judge s (t + 1) c
  told_before {c} told = record {
    state = told.state;
    within = told.within;
    prefix = told.prefix;
    past = past_more s t told.state c.terminal told.past;
    counted = told.counted;
    choice = told.choice;
  }

  -- with its conflicts one more entry is told of
  module _ (sh : Bool) (rs : List ℕ) (asked : AreAsked M.grammar (prefix_of M s) t sh rs) (a : Action)
      (done : IsDone (IsAskedBy sh rs) (λ p. judge p t) a) where
    told_now : {c : Conflict} → IsToldAt (prefix_of M s) t (IsAskedBy sh rs) (λ p. judge p t) a c
        → IsToldOf M judge s (t + 1) c
    told_now {c} at =
        let terminal = sym at.terminal in
        let prefix = sym at.prefix in
        record {
          state = s;
          within = lt;
          prefix = at.prefix;
          past = inr (refl, let e = at.terminal in omega (arith, e));
          counted = subst (λ g. IsCounted M.grammar judge g c.terminal c.kind c.rule) prefix
              (subst (λ u. IsCounted M.grammar judge (prefix_of M s) u c.kind c.rule) terminal
              (counts_too (IsAskedBy sh rs) (IsRaw M.grammar (prefix_of M s) t) (λ p. judge p t)
              (asked_same asked) c.kind c.rule at.counts));
          choice = subst (λ g. IsAction M.grammar judge g c.terminal c.choice) prefix
              (subst (λ u. IsAction M.grammar judge (prefix_of M s) u c.choice) terminal
              (subst (IsAction M.grammar judge (prefix_of M s) t) (sym at.choice)
              (done_too (IsAskedBy sh rs) (IsRaw M.grammar (prefix_of M s) t) (λ p. judge p t)
              (asked_same asked) a done)));
        }

    told_there : {c : Conflict} → (told : IsToldOf M judge s (t + 1) c) → told.state ≡ s → c.terminal ≡ t
        → IsToldAt (prefix_of M s) t (IsAskedBy sh rs) (λ p. judge p t) a c
    told_there {c} told state terminal =
        let prefix : c.prefix ≡ prefix_of M s = told.prefix ∙ ap (prefix_of M) state in
        let counted = subst (λ g. IsCounted M.grammar judge g t c.kind c.rule) prefix
        (subst (λ u. IsCounted M.grammar judge c.prefix u c.kind c.rule) terminal told.counted) in
        let choice = subst (λ g. IsAction M.grammar judge g t c.choice) prefix
        (subst (λ u. IsAction M.grammar judge c.prefix u c.choice) terminal told.choice) in
        record {
          prefix = prefix;
          terminal = terminal;
          choice = done_once (IsAskedBy sh rs) (λ p. judge p t) c.choice a
              (done_too (IsRaw M.grammar (prefix_of M s) t) (IsAskedBy sh rs) (λ p. judge p t) (raw_same asked) c.choice
              choice) done;
          counts = counts_too (IsRaw M.grammar (prefix_of M s) t) (IsAskedBy sh rs) (λ p. judge p t) (raw_same asked)
              c.kind c.rule counted;
        }

    pub told_more : (cs : List Conflict) (free free' : Bool) → AreTold M judge s t cs free
        → (IsTrue free' ↔ (IsTrue free × (AreMany sh rs → ⊥)))
        → AreTold M judge s (t + 1) (cs ++ all_told (prefix_of M s) t sh rs (λ p. judge p t) a) free'
    told_more cs free free' before flag =
        record { are = are; ordered = ordered; free = (single_more, single_less) }
      where
        new : List Conflict
        new = all_told (prefix_of M s) t sh rs (λ p. judge p t) a

        told : (c : Conflict) → Contains new c ↔ IsToldAt (prefix_of M s) t (IsAskedBy sh rs) (λ p. judge p t) a c
        told = told_are (prefix_of M s) t sh rs (λ p. judge p t) a done

        are : (c : Conflict) → Contains (cs ++ new) c ↔ IsToldOf M judge s (t + 1) c
        are c = (
          λ has. elim (Contains-append_cases cs new c has) [
            | inl old ↦ told_before ((before.are c).0 old)
            | inr now ↦ told_now ((told c).0 now)
          ],
          λ of. elim (past_cases s t of.state c.terminal of.past) [
            | inl past ↦ Contains-append_left cs new c ((before.are c).1 (record {
              state = of.state;
              within = of.within;
              prefix = of.prefix;
              past = past;
              counted = of.counted;
              choice = of.choice;
            }))
            | inr here ↦ Contains-append_right cs new c ((told c).1 (told_there of here.0 here.1))
          ],
        )

        across : (x y : Conflict) → Contains cs x → Contains new y → IsBefore x y
        across x y hx hy =
            let old = (before.are x).0 hx in
            let now = (told y).0 hy in
            elim old.past [
              | inl less ↦ inl (subst (λ g. ComesBefore g y.prefix) (sym old.prefix)
                  (subst (ComesBefore (prefix_of M old.state)) (sym now.prefix)
                  (is.numbered.rising old.state s less lt)))
              | inr here ↦ inr (
                old.prefix ∙ (ap (prefix_of M) here.0 ∙ sym now.prefix),
                inl (let less = here.1 in let e = now.terminal in omega (arith, less, e)),
              )
            ]

        ordered : AllPairs IsBefore (cs ++ new)
        ordered = AllPairs-append IsBefore cs new before.ordered
            (told_ordered (prefix_of M s) t sh rs (λ p. judge p t) a done asked.rising) across

        single_more : IsTrue free' → AreSingle M s (t + 1)
        single_more held k u x y within past rx ry = elim (past_cases s t k u past) [
          | inl old ↦ before.free.0 (flag.0 held).0 k u x y within old rx ry
          | inr here ↦
              let at : (z : Action) → IsRaw M.grammar (prefix_of M k) u z → IsAskedBy sh rs z
              = λ z r. (asked_same asked z).1 (subst (λ n. IsRaw M.grammar (prefix_of M s) n z) here.1
              (subst (λ n. IsRaw M.grammar (prefix_of M n) u z) here.0 r)) in
              single sh rs (flag.0 held).1 x y (at x rx) (at y ry)
        ]

        single_less : AreSingle M s (t + 1) → IsTrue free'
        single_less all = flag.1 (
          before.free.1 (λ k u x y within past. all k u x y within (past_more s t k u past)),
          λ many. not_single sh rs asked.rising many (λ x y ax ay. all s t x y lt (inr (refl, omega arith))
              ((asked_same asked x).0 ax) ((asked_same asked y).0 ay)),
        )

  -- where nothing is asked for, nothing is told
  module _ (nothing : (a : Action) → IsRaw M.grammar (prefix_of M s) t a → ⊥) where
    not_here : (k u : ℕ) (a : Action) → k ≡ s → u ≡ t → IsRaw M.grammar (prefix_of M k) u a → ⊥
    not_here k u a e f raw = nothing a (subst (λ n. IsRaw M.grammar (prefix_of M s) n a) f
        (subst (λ n. IsRaw M.grammar (prefix_of M n) u a) e raw))

    pub told_nothing : (cs : List Conflict) (free : Bool) → AreTold M judge s t cs free
        → AreTold M judge s (t + 1) cs free
    told_nothing cs free before = record {
      are = λ c. (
        λ has. told_before ((before.are c).0 has),
        λ of. elim (past_cases s t of.state c.terminal of.past) [
          | inl past ↦ (before.are c).1 (record {
            state = of.state;
            within = of.within;
            prefix = of.prefix;
            past = past;
            counted = of.counted;
            choice = of.choice;
          })
          | inr here ↦
              let raw = counts_asks (IsRaw M.grammar c.prefix c.terminal) (λ p. judge p c.terminal) c.kind c.rule
              of.counted in
              absurd (not_here of.state c.terminal raw.0 here.0 here.1
              (subst (λ g. IsRaw M.grammar g c.terminal raw.0) of.prefix raw.1))
        ],
      );
      ordered = before.ordered;
      free = (
        λ held k u x y within past rx ry. elim (past_cases s t k u past) [
          | inl old ↦ before.free.0 held k u x y within old rx ry
          | inr here ↦ absurd (not_here k u x here.0 here.1 rx)
        ],
        λ all. before.free.1 (λ k u x y within past. all k u x y within (past_more s t k u past)),
      );
    }

    pub entries_nothing : (row : List TerminalAction) → AreEntries M judge s t row → AreEntries M judge s (t + 1) row
    entries_nothing row before = record {
      ordered = before.ordered;
      are = λ x. (
        λ has. let w = (before.are x).0 has in (let less = w.0 in omega (arith, less), w.1),
        λ w. elim (cases_eq x.terminal t) [
          | inl e ↦
              let raw = done_asks (IsRaw M.grammar (prefix_of M s) x.terminal) (λ p. judge p x.terminal) x.action w.1 in
              absurd (not_here s x.terminal raw.0 refl e raw.1)
          | inr off ↦ (before.are x).1 (let less = w.0 in omega (arith, less, off), w.1)
        ],
      );
      whole = λ u a less raw. elim (cases_eq u t) [
        | inl e ↦ absurd (not_here s u a refl e raw)
        | inr off ↦ before.whole u a (omega (arith, less, off)) raw
      ];
    }

  -- with its action one more entry is there
  pub entries_more : (row : List TerminalAction) (a : Action) → IsAction M.grammar judge (prefix_of M s) t a
      → AreEntries M judge s t row
      → AreEntries M judge s (t + 1) (row ++ record { terminal = t; action = a } ∷ [])
  entries_more row a action before = record {
    ordered = AllPairs-append (λ x y. x.terminal < y.terminal) row (last ∷ []) before.ordered
        (λ i j d l m. absurd (omega (arith, l, m)))
        (λ x y hx hy. subst (λ z. x.terminal < z.terminal) (Contains-one last y hy) ((before.are x).0 hx).0);
    are = λ x. (
      λ has. elim (Contains-append_cases row (last ∷ []) x has) [
        | inl old ↦ let w = (before.are x).0 old in (let less = w.0 in omega (arith, less), w.1)
        | inr now ↦ subst (λ z. (z.terminal < t + 1) × IsAction M.grammar judge (prefix_of M s) z.terminal z.action)
            (Contains-one last x now) (omega arith, action)
      ],
      λ w. elim (cases_eq x.terminal t) [
        | inl e ↦ Contains-append_right row (last ∷ []) x (subst (Contains (last ∷ [])) (is_last x e w.1)
            (Contains-first last []))
        | inr off ↦ Contains-append_left row (last ∷ []) x
            ((before.are x).1 (let less = w.0 in omega (arith, less, off), w.1))
      ],
    );
    whole = λ u b less raw. elim (cases_eq u t) [
      | inl e ↦ (a, subst (λ n. IsAction M.grammar judge (prefix_of M s) n a) (sym e) action)
      | inr off ↦ before.whole u b (omega (arith, less, off)) raw
    ];
  }
    where
      last : TerminalAction
      last = record { terminal = t; action = a }

      is_last : (x : TerminalAction) → x.terminal ≡ t → IsAction M.grammar judge (prefix_of M s) x.terminal x.action
          → last ≡ x
      is_last x e other =
          let same : a ≡ x.action = done_once (IsRaw M.grammar (prefix_of M s) t) (λ p. judge p t) a x.action action
          (subst (λ n. IsAction M.grammar judge (prefix_of M s) n x.action) e other) in
          let made : ℕ → Action → TerminalAction = λ n b. record { terminal = n; action = b } in
          ap (λ n. made n a) (sym e) ∙ ap (made x.terminal) same

pub entries_start : (M : Lr0Automaton) (judge : Judge) (s : ℕ) → AreEntries M judge s 0 []
entries_start M judge s = record {
  ordered = λ i j d l m. absurd (omega (arith, m));
  are = λ x. ((λ has. Contains-none x has), λ w. absurd (let less = w.0 in omega (arith, less)));
  whole = λ u a less raw. absurd (omega (arith, less));
}

module _ (M : Lr0Automaton) (is : IsLr0Automaton M) (judge : Judge) where
  -- past the terminals the row is whole
  pub entries_all : (s n : ℕ) (row : List TerminalAction) → M.grammar.terminals ≤ n → AreEntries M judge s n row
      → IsRow M.grammar judge (prefix_of M s) row
  entries_all s n row le before = record {
    ordered = before.ordered;
    are = λ x. (
      λ has. ((before.are x).0 has).1,
      λ action. (before.are x).1 (
        let raw = done_asks (IsRaw M.grammar (prefix_of M s) x.terminal) (λ p. judge p x.terminal) x.action action in
            let less = raw_within M.grammar is.augmented (prefix_of M s) x.terminal raw.0 raw.1 in
            omega (arith, less, le),
        action,
      ),
    );
    whole = λ t a raw. before.whole t a
        (let less = raw_within M.grammar is.augmented (prefix_of M s) t a raw in omega (arith, less, le)) raw;
  }

  -- and all of the state's entries are past
  pub told_row : (s n : ℕ) (cs : List Conflict) (free : Bool) → M.grammar.terminals ≤ n → AreTold M judge s n cs free
      → AreTold M judge (s + 1) 0 cs free
  told_row s n cs free le before = record {
    are = λ c. (
      λ has. let of = (before.are c).0 has in record {
        state = of.state;
        within = of.within;
        prefix = of.prefix;
        past = later_state s n of.state c.terminal of.past;
        counted = of.counted;
        choice = of.choice;
      },
      λ of. (before.are c).1 (record {
        state = of.state;
        within = of.within;
        prefix = of.prefix;
        past =
            let raw = counts_asks (IsRaw M.grammar c.prefix c.terminal) (λ p. judge p c.terminal) c.kind c.rule
            of.counted in
            past c.prefix of.state c.terminal raw.0 raw.1 of.past;
        counted = of.counted;
        choice = of.choice;
      }),
    );
    ordered = before.ordered;
    free = (
      λ held k u x y within later rx ry. before.free.0 held k u x y within (past (prefix_of M k) k u x rx later) rx ry,
      λ all. before.free.1 (λ k u x y within old. all k u x y within (later_state s n k u old)),
    );
  }
    where
      past : (g : List Symbol) (k u : ℕ) (a : Action) → IsRaw M.grammar g u a → IsPast (s + 1) 0 k u → IsPast s n k u
      past g k u a raw (inl lt) = elim (cases_eq k s) [
        | inl e ↦ inr (e, let less = raw_within M.grammar is.augmented g u a raw in omega (arith, less, le))
        | inr off ↦ inl (omega (arith, lt, off))
      ]
      past g k u a raw (inr (e, lt)) = absurd (omega (arith, lt))

  -- THE WHOLE AUTOMATON

  state_of : (g : List Symbol) → IsViable M.grammar g → (s : ℕ) × (s < length M.states)
      × Merges M.grammar (prefix_of M s) g
  state_of g v =
      let r = is.cores.has g v in
      let lt = reached_within M is g r.0 r.1 in
      (r.0, lt, reached_merges M is g r.0 lt r.1)

  prefix_least : (s : ℕ) → s < length M.states → IsLeast M.grammar (prefix_of M s)
  prefix_least s lt = (
    viable M is s lt,
    λ h m.
        let r = is.cores.has h m.right in
        let same : r.0 ≡ s = is.cores.one h (prefix_of M s) r.0 s r.1 (is.numbered.leads s lt) (merges_back m).cores in
        is.numbered.least s h (subst (Reaches (goto_of M) 0 h) same r.1),
  )

  least_prefix : (g : List Symbol) → IsLeast M.grammar g → (s : ℕ) × (s < length M.states) × (g ≡ prefix_of M s)
  least_prefix g (v, least) =
      let (s, lt, m) = state_of g v in (
        s,
        lt,
        elim (least (prefix_of M s) (merges_back m)) [
          | inl e ↦ sym e
          | inr before ↦ elim ((prefix_least s lt).1 g m) [
            | inl e ↦ e
            | inr after ↦ absurd (not_before_itself g (before_trans g (prefix_of M s) g before after))
          ]
        ],
      )

  pub told_all : (n : ℕ) (cs : List Conflict) (free : Bool) → length M.states ≤ n → AreTold M judge n 0 cs free
      → AreConflicts M.grammar judge cs × (IsTrue free ↔ IsConflictFree M.grammar)
  told_all n cs free le told = (record { are = are; ordered = told.ordered }, (to, back)) where
    are : (c : Conflict) → Contains cs c ↔ IsConflict M.grammar judge c
    are c = (
      λ has. let of = (told.are c).0 has in record {
        least = subst (IsLeast M.grammar) (sym of.prefix) (prefix_least of.state of.within);
        counted = of.counted;
        choice = of.choice;
      },
      λ conflict. let (s, lt, e) = least_prefix c.prefix conflict.least in (told.are c).1 (record {
        state = s;
        within = lt;
        prefix = e;
        past = inl (omega (arith, lt, le));
        counted = conflict.counted;
        choice = conflict.choice;
      }),
    )

    to : IsTrue free → IsConflictFree M.grammar
    to held g t a b v x y =
        let (s, lt, m) = state_of g v in
        told.free.0 held s t a b lt (inl (omega (arith, lt, le))) (raw_too (merges_back m) t a x)
        (raw_too (merges_back m) t b y)

    back : IsConflictFree M.grammar → IsTrue free
    back all = told.free.1 (λ k u a b lt past x y. all (prefix_of M k) u a b (viable M is k lt) x y)

-- ROW BY ROW

-- what holds of rows and of one more holds of them all
pub rows_more : {Y : Type 0} (P : ℕ → Y → Type 0) (ys : List Y) (x : Y) → ((k : ℕ) (y : Y) → slice_get ys k ≡ Some y
    → P k y) → P (length ys) x → (k : ℕ) (y : Y) → slice_get (ys ++ x ∷ []) k ≡ Some y → P k y
rows_more P [] x all last zero y at = let same : x ≡ y = cc in subst (P 0) same last
rows_more P [] x all last (suc k) y at = absurd (cc)
rows_more P (z ∷ ys) x all last zero y at = all 0 y at
rows_more P (z ∷ ys) x all last (suc k) y at = rows_more (λ n. P (suc n)) ys x (λ n w e. all (suc n) w e) last k y at

-- once all states are gone through, all is resolved
pub all_resolved : (s : Spec) (M : Lr0Automaton) (n : ℕ) (rows : List (List TerminalAction))
    (cs : List conflict.Conflict) (free : Bool) → IsLr0Automaton M → n ≡ length M.states → length rows ≡ n
    → ((k : ℕ) (row : List TerminalAction) → slice_get rows k ≡ Some row
    → IsRow M.grammar (judge_of s) (prefix_of M k) row)
    → AreTold M (judge_of s) n 0 (map (conflict_from M) cs) free → AreResolved s M (resolved_from s M rows cs free)
all_resolved s M n rows cs free is count long each told =
    let le : length M.states ≤ n = omega (arith, count) in
    let all = told_all M is (judge_of s) n (map (conflict_from M) cs) free le told in
    record {
      spec = refl;
      automaton = refl;
      states = long ∙ count;
      rows = λ k q row at there. subst (λ g. IsRow M.grammar (judge_of s) g row) (prefix_at M k q at)
          (each k row there);
      conflicts = all.0;
      free = all.1;
    }
