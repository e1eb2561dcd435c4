-- What transitions directly read, as it comes into rows.
use Rattle.std.proofs.Common.{◌≡◌, ◌≢◌, ◌∙◌, ◌⊎◌, inl, inr, ◌↔◌, ◌++◌, [], ◌∷◌, ℕ, zero, suc, ◌+◌, ◌<◌, ◌≤◌, List}
use Rattle.std.proofs.Common.{Contains, Some, ap, arith, length, map, refl, slice_get, slice_index_or, subst, sym}
use Rattle.std.proofs.Common.{replicate, slice_set, true}
use Rattle.std.specs.FinSet as set
use Rattle.std.specs.Prelude.{filter}
use Rattle.std.proofs.lemmas.Bool.{cases_Bool, cases_order}
use Rattle.std.proofs.lemmas.List.Elements.{Contains-append_cases, Contains-append_left, Contains-append_right}
use Rattle.std.proofs.lemmas.Option.{slice_get-get_or, slice_get_within}
use Rattle.ly_base.proofs.MemberLemmas.{Contains-cons_cases, Contains-first, Contains-later, Contains-none}
use Rattle.ly_base.proofs.MemberLemmas.{Contains-one}
use Rattle.ly_join.specs.Grammar.{Grammar, IsAugmented, Symbol, nonterminal, symbol_of, terminal}
use Rattle.ly_join.proofs.ListLemmas.{member_at}
use Rattle.ly_grammar.specs.Items.{Valid}
use Rattle.ly_grammar.proofs.ItemLemmas.{body_of, zero_item}
use Rattle.ly_sets.specs.NumberSet.{NumberSet, Member}
use Rattle.ly_sets.specs.SetMatrix.{row}
use Rattle.ly_lr0.specs.Automaton.{Lr0Automaton, IsLr0Automaton, Transition, goto_of, is_shift, state_at}
use Rattle.ly_lr0.specs.Transitions.{transition_of}
use Rattle.ly_lr0.specs.declared.transition.Transition as code
use Rattle.ly_lr0.proofs.StateLemmas.{target_some}
use Rattle.ly_relate.specs.Related.{AreGotos, Goto}
use Rattle.ly_relate.specs.Relations.{DirectlyReads, Leaves}
use Rattle.ly_relate.specs.declared.gotos.Goto as goto
use Rattle.ly_relate.proofs.GotoLemmas.{are_ordered, goto_at, has_target, nowhere, transition_is}
use Rattle.ly_relate.proofs.LeaveLemmas.{end_from, end_leaves, leaves_shift, shift_leaves, symbol_within}
use Rattle.ly_relate.proofs.ReachLemmas.{apart}
use Rattle.ly_lookahead.specs.Private.Sets.{AreDirectSets, AreInserted}
use Rattle.ly_lookahead.proofs.LookaheadLemmas.{leads_within}
use Rattle.ly_lookahead.proofs.ReadLemmas.{one_goto}
use Rattle.ly_lookahead.proofs.SetLemmas.{inserted_one, rows_empty, shown_at}

-- THE TERMINALS OF TRANSITIONS

-- before the first of them
pub inserted_none : (n : ℕ) (sets : List NumberSet) → AreInserted [] n sets sets
inserted_none n sets i t = (
  (λ m. inl m),
  (λ o. elim o [ inl was ↦ was | inr (e, r, has) ↦ Contains-none (record { symbol = terminal t; target = r }) has ]),
)

-- the terminal of one more transition came into the row
pub inserted_more : (ts : List Transition) (u : Transition) (n q : ℕ) (old now new : List NumberSet)
    → u.symbol ≡ terminal q → AreInserted ts n old now
    → ((i t : ℕ) → Member (row new i) t ↔ (Member (row now i) t ⊎ ((i ≡ n) × (t ≡ q))))
    → AreInserted (ts ++ u ∷ []) n old new
inserted_more ts u n q old now new is before one i t = (to, back) where
  over : ℕ → Transition
  over r = record { symbol = terminal t; target = r }

  to : Member (row new i) t → Member (row old i) t ⊎ ((i ≡ n) × (r : ℕ) × Contains (ts ++ u ∷ []) (over r))
  to m = elim ((one i t).0 m) [
    | inl was ↦ elim ((before i t).0 was) [
      | inl earlier ↦ inl earlier
      | inr (e, r, has) ↦ inr (e, r, Contains-append_left ts (u ∷ []) (over r) has)
    ]
    | inr (e, same) ↦ inr (
      e,
      u.target,
      Contains-append_right ts (u ∷ []) (over u.target)
          (subst (Contains (u ∷ [])) (transition_is u (terminal t) u.target (is ∙ ap terminal (sym same)) refl)
          (Contains-first u [])),
    )
  ]

  back : Member (row old i) t ⊎ ((i ≡ n) × (r : ℕ) × Contains (ts ++ u ∷ []) (over r)) → Member (row new i) t
  back (inl was) = (one i t).1 (inl ((before i t).1 (inl was)))
  back (inr (e, r, has)) = elim (Contains-append_cases ts (u ∷ []) (over r) has) [
    | inl earlier ↦ (one i t).1 (inl ((before i t).1 (inr (e, r, earlier))))
    | inr last ↦
        let own : terminal q ≡ terminal t = sym is ∙ ap (λ v. v.symbol) (Contains-one u (over r) last) in
        let same : t ≡ q = cc in
        (one i t).1 (inr (e, same))
  ]

-- and none of one over a nonterminal
pub inserted_past : (ts : List Transition) (u : Transition) (n : ℕ) (old new : List NumberSet) {A : ℕ}
    → u.symbol ≡ nonterminal A → AreInserted ts n old new → AreInserted (ts ++ u ∷ []) n old new
inserted_past ts u n old new {A} is before i t = (to, back) where
  over : ℕ → Transition
  over r = record { symbol = terminal t; target = r }

  to : Member (row new i) t → Member (row old i) t ⊎ ((i ≡ n) × (r : ℕ) × Contains (ts ++ u ∷ []) (over r))
  to m = elim ((before i t).0 m) [
    | inl was ↦ inl was
    | inr (e, r, has) ↦ inr (e, r, Contains-append_left ts (u ∷ []) (over r) has)
  ]

  back : Member (row old i) t ⊎ ((i ≡ n) × (r : ℕ) × Contains (ts ++ u ∷ []) (over r)) → Member (row new i) t
  back (inl was) = (before i t).1 (inl was)
  back (inr (e, r, has)) = elim (Contains-append_cases ts (u ∷ []) (over r) has) [
    | inl earlier ↦ (before i t).1 (inr (e, r, earlier))
    | inr last ↦
        let own : nonterminal A ≡ terminal t = sym is ∙ ap (λ v. v.symbol) (Contains-one u (over r) last) in
        absurd (cc)
  ]

-- the transitions over terminals among others
shift_of : (ts : List Transition) (x : Transition) → Contains (filter is_shift ts) x → Contains ts x
shift_of [] x has = has
shift_of (u ∷ ts) x has = elim (cases_Bool (is_shift u)) [
  | inl on ↦ elim (Contains-cons_cases u (filter is_shift ts) x (rw on at has)) [
    | inl same ↦ subst (Contains (u ∷ ts)) same (Contains-first u ts)
    | inr later ↦ Contains-later u ts x (shift_of ts x later)
  ]
  | inr off ↦ Contains-later u ts x (shift_of ts x (rw off at has))
]

shift_in : (ts : List Transition) (x : Transition) → is_shift x ≡ true → Contains ts x → Contains (filter is_shift ts) x
shift_in [] x is has = has
shift_in (u ∷ ts) x is has = elim (Contains-cons_cases u ts x has) [
  | inl same ↦
      let on : is_shift u ≡ true = ap is_shift same ∙ is in
      rw on (subst (Contains (u ∷ filter is_shift ts)) same (Contains-first u (filter is_shift ts)))
  | inr later ↦ elim (cases_Bool (is_shift u)) [
    | inl on ↦ rw on (Contains-later u (filter is_shift ts) x (shift_in ts x is later))
    | inr off ↦ rw off (shift_in ts x is later)
  ]
]

-- of which all have come if these have
pub inserted_all : (ts : List Transition) (n : ℕ) (old new : List NumberSet)
    → AreInserted (filter is_shift ts) n old new → AreInserted ts n old new
inserted_all ts n old new is i t = (
  (λ m. elim ((is i t).0 m) [ inl was ↦ inl was | inr (e, r, has) ↦ inr (e, r, shift_of ts _ has) ]),
  (λ o. elim o [
    | inl was ↦ (is i t).1 (inl was)
    | inr (e, r, has) ↦ (is i t).1 (inr (e, r, shift_in ts (record { symbol = terminal t; target = r }) refl has))
  ]),
)

-- and of which is said what is said of all
pub below_all : (ts : List Transition) (width : ℕ)
    → ((t r : ℕ) → Contains ts (record { symbol = terminal t; target = r }) → t < width)
    → (t r : ℕ) → Contains (filter is_shift ts) (record { symbol = terminal t; target = r }) → t < width
below_all ts width below t r has = below t r (shift_of ts _ has)

-- a transition over a terminal is one of those of which something is said
pub over_terminal : (ts : List Transition) (items : List code.Transition) (i width q : ℕ)
    → map transition_of items ≡ ts → i < length items → symbol_of (slice_index_or items i nowhere).symbol ≡ terminal q
    → ((t r : ℕ) → Contains ts (record { symbol = terminal t; target = r }) → t < width) → q < width
over_terminal ts items i width q shown lt is below =
    let u = transition_of (slice_index_or items i nowhere) in
    let at = subst (λ w. slice_get w i ≡ Some u) shown (shown_at transition_of nowhere items i lt) in
    below q u.target (subst (Contains ts) (transition_is u (terminal q) u.target is refl) (member_at ts i u at))

-- a transition where none stands
abbrev pub no_goto : goto.Goto
no_goto = record { from = record { 0 = 0 }; symbol = record { 0 = 0 }; target = record { 0 = 0 } }

-- WHAT IS DIRECTLY READ

-- a terminal that leaves a state has a number below their count
leaves_within : {G : Grammar} {t : ℕ} (p : ℕ) (before after : List Symbol) (u : ℕ) {g : List Symbol} → IsAugmented G
    → Valid G g p before (terminal t ∷ after) u → t < G.terminals
leaves_within {t = t} zero before after u augmented v = elim (zero_item augmented v) [
  | inl x ↦ absurd (apart (sym x.1))
  | inr x ↦
      let e : terminal t ≡ terminal 0 = x.1 in
      let none : t ≡ 0 = cc in
      let some = augmented.end_within in
      omega (arith, none, some)
]
leaves_within {t = t} (suc p) before after u augmented v =
    let body = body_of v in
    (symbol_within before after (terminal t) augmented body.1 (omega arith) body.2).1

-- The rows of the first transitions have what these directly read, and no others have any.
abbrev pub AreDirectBefore : Lr0Automaton → List Goto → ℕ → List NumberSet → Type 0
AreDirectBefore M gotos k sets = (i t : ℕ) → Member (row sets i) t
    ↔ ((i < k) × (x : Goto) × (slice_get gotos i ≡ Some x) × DirectlyReads M.grammar (goto_of M) x.from x.symbol t)

-- before the first of them
pub direct_none : (M : Lr0Automaton) (gotos : List Goto) (rows : ℕ) (sets : List NumberSet)
    → sets ≡ replicate rows set.empty → AreDirectBefore M gotos 0 sets
direct_none M gotos rows sets is i t = (
  (λ m. absurd (rows_empty rows sets is i t m)),
  (λ (lt, x, at, reads). absurd (omega (arith, lt))),
)

-- all of them
pub direct_all : (M : Lr0Automaton) (gotos : List Goto) (k : ℕ) (sets : List NumberSet) → length gotos ≤ k
    → AreDirectBefore M gotos k sets → AreDirectSets M gotos sets
direct_all M gotos k sets all before i t = (
  (λ m. let (lt, x, at, reads) = (before i t).0 m in (x, at, reads)),
  (λ (x, at, reads).
      let lt = slice_get_within gotos i x at in
      (before i t).1 (omega (arith, lt, all), x, at, reads)),
)

-- the end is read behind the start symbol
abbrev pub IsEndOf : Lr0Automaton → Goto → ℕ → Type 0
IsEndOf M x t = (t ≡ 0) × (x.from ≡ 0) × (x.symbol ≡ M.grammar.start)

module _ (M : Lr0Automaton) (x : Goto) (k : ℕ) (now new : List NumberSet) where
  -- the end came into the row of the transition behind which it stands
  pub end_came : k < length now → new ≡ slice_set now k (set.insert (row now k) 0) → x.from ≡ 0
      → x.symbol ≡ M.grammar.start → (i t : ℕ)
      → Member (row new i) t ↔ (Member (row now i) t ⊎ ((i ≡ k) × IsEndOf M x t))
  end_came lt same from symbol i t =
      let one = inserted_one now new k 0 lt same i t in (
        (λ m. elim (one.0 m) [ inl was ↦ inl was | inr (e, none) ↦ inr (e, (none, from, symbol)) ]),
        (λ o. elim o [ inl was ↦ one.1 (inl was) | inr (e, ends) ↦ one.1 (inr (e, ends.0)) ]),
      )

  -- and into that of no other
  pub end_stays : new ≡ now → (x.from ≡ 0 → x.symbol ≡ M.grammar.start → ⊥) → (i t : ℕ)
      → Member (row new i) t ↔ (Member (row now i) t ⊎ ((i ≡ k) × IsEndOf M x t))
  end_stays same not i t = (
    (λ m. inl (subst (λ s. Member (row s i) t) same m)),
    (λ o. elim o [
      | inl was ↦ subst (λ s. Member (row s i) t) (sym same) was
      | inr (e, ends) ↦ absurd (not ends.1 ends.2)
    ]),
  )

module _ (M : Lr0Automaton) (is : IsLr0Automaton M) where
  -- where a state leads, by the transitions that stand in it
  state_leads : (s : ℕ) → s < length M.states → (X : Symbol) (r : ℕ)
      → Contains (state_at M s).transitions (record { symbol = X; target = r }) ↔ (goto_of M s X ≡ Some r)
  state_leads s lt X r =
      let here = slice_get-get_or M.states s (record { prefix = []; transitions = []; complete = [] }) lt in
      let same = goto_at M s (state_at M s) X here in (
        (λ has. same ∙ has_target (state_at M s).transitions (record { symbol = X; target = r })
            (are_ordered M is s (state_at M s) here) has),
        (λ e. target_some (state_at M s).transitions X r (sym same ∙ e)),
      )

  -- transitions are over terminals with numbers below their count
  pub shift_below : (s t r : ℕ) → s < length M.states
      → Contains (state_at M s).transitions (record { symbol = terminal t; target = r }) → t < M.grammar.terminals
  shift_below s t r lt has =
      let goes = (state_leads s lt (terminal t) r).0 has in
      let l = shift_leaves M.grammar (goto_of M) is.augmented is.cores goes in
      leaves_within l.2.0 l.2.1 l.2.2 l.2.3.0 is.augmented l.2.3.1

  -- a transition leads to a state
  pub target_within : (gotos : List Goto) → AreGotos M gotos → (k : ℕ) (x : Goto) → slice_get gotos k ≡ Some x
      → x.target < length M.states
  target_within gotos are k x at = (leads_within M is x.from x.target (nonterminal x.symbol) (are.are k x at)).1

  module _ (x : Goto) (goes : goto_of M x.from (nonterminal x.symbol) ≡ Some x.target) where
    -- a transition directly reads the terminals over which transitions leave where it leads, and the end
    reads_at : (t : ℕ) → DirectlyReads M.grammar (goto_of M) x.from x.symbol t
        ↔ (((r : ℕ) × Contains (state_at M x.target).transitions (record { symbol = terminal t; target = r }))
        ⊎ IsEndOf M x t)
    reads_at t = (to t, back) where
      lt : x.target < length M.states
      lt = (leads_within M is x.from x.target (nonterminal x.symbol) goes).1

      Reads : ℕ → Type 0
      Reads u = ((r : ℕ) × Contains (state_at M x.target).transitions (record { symbol = terminal u; target = r }))
          ⊎ IsEndOf M x u

      shifted : (u r : ℕ) → goto_of M x.from (nonterminal x.symbol) ≡ Some r → Leaves M.grammar (goto_of M) r u
          → u ≢ 0 → Reads u
      shifted u r there leaves some =
          let shift = leaves_shift M.grammar (goto_of M) is.augmented is.cores leaves some in
          let one : Some x.target ≡ Some r = sym goes ∙ there in
          let target : x.target ≡ r = cc in
          inl (
            shift.0,
            (state_leads x.target lt (terminal u) shift.0).1
                (subst (λ q. goto_of M q (terminal u) ≡ Some shift.0) (sym target) shift.1),
          )

      to : (u : ℕ) → DirectlyReads M.grammar (goto_of M) x.from x.symbol u → Reads u
      to zero (r, there, leaves) =
          let ends = end_from M.grammar (goto_of M) is.augmented is.cores there leaves in
          inr (refl, ends.0, ends.1)
      to (suc u) (r, there, leaves) = shifted (suc u) r there leaves (λ z. omega (arith, z))

      back : Reads t → DirectlyReads M.grammar (goto_of M) x.from x.symbol t
      back (inl (r, has)) = (
        x.target,
        goes,
        shift_leaves M.grammar (goto_of M) is.augmented is.cores ((state_leads x.target lt (terminal t) r).0 has),
      )
      back (inr (none, from, symbol)) =
          let start : goto_of M 0 (nonterminal M.grammar.start) ≡ Some x.target
          = subst (λ p. goto_of M p (nonterminal M.grammar.start) ≡ Some x.target) from
          (subst (λ A. goto_of M x.from (nonterminal A) ≡ Some x.target) symbol goes) in (
            x.target,
            goes,
            subst (Leaves M.grammar (goto_of M) x.target) (sym none)
                (end_leaves M.grammar (goto_of M) is.augmented is.cores start),
          )

    -- one more transition's row was filled
    pub direct_more : (gotos : List Goto) (k : ℕ) (old now new : List NumberSet) → slice_get gotos k ≡ Some x
        → AreDirectBefore M gotos k old → AreInserted (state_at M x.target).transitions k old now
        → ((i t : ℕ) → Member (row new i) t ↔ (Member (row now i) t ⊎ ((i ≡ k) × IsEndOf M x t)))
        → AreDirectBefore M gotos (k + 1) new
    direct_more gotos k old now new at before inserted end i t = (to, back) where
      Own : Type 0
      Own = (i < k + 1) × (y : Goto) × (slice_get gotos i ≡ Some y)
          × DirectlyReads M.grammar (goto_of M) y.from y.symbol t

      to : Member (row new i) t → Own
      to m = elim ((end i t).0 m) [
        | inl was ↦ elim ((inserted i t).0 was) [
          | inl earlier ↦
              let (lt, y, there, reads) = (before i t).0 earlier in
              (omega (arith, lt), y, there, reads)
          | inr (e, r, has) ↦ (omega (arith, e), x, ap (slice_get gotos) e ∙ at, (reads_at t).1 (inl (r, has)))
        ]
        | inr (e, ends) ↦ (omega (arith, e), x, ap (slice_get gotos) e ∙ at, (reads_at t).1 (inr ends))
      ]

      back : Own → Member (row new i) t
      back (lt, y, there, reads) = elim (cases_order i k) [
        | inl same ↦
            let one = one_goto gotos i y x there (ap (slice_get gotos) same ∙ at) in
            elim ((reads_at t).0 (subst (λ z. DirectlyReads M.grammar (goto_of M) z.from z.symbol t) one reads)) [
              | inl (r, has) ↦ (end i t).1 (inl ((inserted i t).1 (inr (same, r, has))))
              | inr ends ↦ (end i t).1 (inr (same, ends))
            ]
        | inr (inl less) ↦ (end i t).1 (inl ((inserted i t).1 (inl ((before i t).1 (less, y, there, reads)))))
        | inr (inr more) ↦ absurd (omega (arith, lt, more))
      ]
