-- Edges of whose runs nothing is known, and the first run above them that makes too many reductions.
use Rattle.std.proofs.Common.{◌≡◌, ◌⊎◌, ℕ, suc, ◌+◌, ◌<◌, List, [], ◌∷◌, ◌++◌, Contains, Option, None, Some}
use Rattle.std.proofs.Common.{arith, inl, inr, refl, subst, sym, true, false}
use Rattle.std.proofs.lemmas.Bool.{cases_lt}
use Rattle.std.proofs.lemmas.List.Elements.{Contains-append_left, Contains-push, Contains-push_cases}
use Rattle.ly_base.proofs.MemberLemmas.{Contains-none}
use Rattle.ly_base.specs.declared.numbers.StateNo.{StateNo}
use Rattle.ly_pack.specs.Machine.{IsMachine, AreEntriesWithin, Machine, shift, states_of}
use Rattle.ly_pack.specs.Steady.{IsSteady, IsTableEdge, by_goto, by_shift}
use Rattle.ly_loop.specs.Endless.{ComesBefore, EdgeEnds, IsFirstEndless}
use Rattle.ly_loop.specs.Private.Edges.{AllEnd, AreDoubtful, AreMoreDoubtful, AreTargets, IsAbove, IsAmong, IsBefore}
use Rattle.ly_loop.specs.Private.Edges.{IsFirstOf}
use Rattle.ly_loop.specs.declared.edges.Passing.{Passing}
use Rattle.ly_loop.specs.declared.known.Edge.{Edge}
use Rattle.ly_loop.proofs.TargetLemmas.{shift_entry}

-- where an edge leads is a state
pub edge_known : (m : Machine) (below top : ℕ) → IsMachine m → IsTableEdge m below top → top < states_of m
edge_known m below top ok (by_shift t is) = (ok.actions below t (shift top) (shift_entry m below t top is)).0
edge_known m below top ok (by_goto left is) = ok.gotos below left top is

-- edges begin at states
pub edge_below : (m : Machine) (below top : ℕ) → AreEntriesWithin m → IsTableEdge m below top → below < states_of m
edge_below m below top within (by_shift t is) = (within.actions below t (shift top) (shift_entry m below t top is)).0
edge_below m below top within (by_goto left is) = (within.gotos below left top is).0

-- the edges above no state
pub doubtful_none : (m : Machine) → AreDoubtful m 0 []
doubtful_none m = record {
  sound = λ e has. absurd (Contains-none e has);
  whole = λ below top lt edge. absurd (omega (arith, lt));
}

-- the edges above one more state
pub doubtful_more : (m : Machine) (n : ℕ) (below : StateNo) (targets : List StateNo) (old new : List Edge)
    → below.0 ≡ n → AreDoubtful m n old → AreTargets m below.0 targets → AreMoreDoubtful m below targets old new
    → AreDoubtful m (n + 1) new
doubtful_more m n below targets old new at was are more = record {
  sound = λ e has. elim (more.sound e has) [
    | inl before ↦ was.sound e before
    | inr led ↦ subst (λ (b : StateNo). IsTableEdge m b.0 e.top.0) (sym led.0) (are.sound e.top led.1)
  ];
  whole = whole;
}
  where
    Said : ℕ → ℕ → Type 0
    Said b top = AllEnd m b top ⊎ IsAmong new b top

    here : (top : ℕ) → IsTableEdge m below.0 top → Said below.0 top
    here top edge =
        let s = are.whole top edge in
        elim (more.whole s.0 s.1) [
          | inl ends ↦ inl (subst (AllEnd m below.0) s.2 ends)
          | inr has ↦ inr (record { below = below; top = s.0 }, has, refl, s.2)
        ]

    whole : (b top : ℕ) → b < n + 1 → IsTableEdge m b top → Said b top
    whole b top lt edge = elim (cases_lt b n) [
      | inl less ↦ elim (was.whole b top less edge) [
        | inl ends ↦ inl ends
        | inr among ↦ inr (among.0, more.kept among.0 among.1, among.2, among.3)
      ]
      | inr more ↦
          let same : below.0 ≡ b = omega (arith, at, lt) in
          subst (λ k. IsTableEdge m k top → Said k top) same (here top) edge
    ]

module _ (m : Machine) (below : StateNo) (targets : List StateNo) (old : List Edge) where
  pub more_none : AreMoreDoubtful m below [] old old
  more_none = record {
    kept = λ e has. has;
    sound = λ e has. inl has;
    whole = λ s has. absurd (Contains-none s has);
  }

  module _ (new : List Edge) (top : StateNo) (was : AreMoreDoubtful m below targets old new) where
    -- one more target above which all runs end
    pub more_ended : AllEnd m below.0 top.0 → AreMoreDoubtful m below (targets ++ top ∷ []) old new
    more_ended ends = record {
      kept = was.kept;
      sound = λ e has. elim (was.sound e has) [
        | inl before ↦ inl before
        | inr here ↦ inr (here.0, Contains-append_left targets (top ∷ []) e.top here.1)
      ];
      whole = λ s has. elim (Contains-push_cases targets top s has) [
        | inl before ↦ was.whole s before
        | inr same ↦ inl (subst (λ (x : StateNo). AllEnd m below.0 x.0) same ends)
      ];
    }

    -- one more target whose edge is added
    pub more_added : AreMoreDoubtful m below (targets ++ top ∷ []) old (new ++ record { below = below; top = top } ∷ [])
    more_added = record {
      kept = λ e has. Contains-append_left new (edge ∷ []) e (was.kept e has);
      sound = λ e has. elim (Contains-push_cases new edge e has) [
        | inl before ↦ elim (was.sound e before) [
          | inl first ↦ inl first
          | inr here ↦ inr (here.0, Contains-append_left targets (top ∷ []) e.top here.1)
        ]
        | inr same ↦ inr (subst
            (λ (x : Edge). (x.below ≡ below) × Contains (targets ++ top ∷ []) x.top) same
            (refl, Contains-push targets top))
      ];
      whole = λ s has. elim (Contains-push_cases targets top s has) [
        | inl before ↦ elim (was.whole s before) [
          | inl ends ↦ inl ends
          | inr there ↦ inr (Contains-append_left new (edge ∷ []) (record { below = below; top = s }) there)
        ]
        | inr same ↦ inr (subst (λ (x : StateNo). Contains (new ++ edge ∷ []) (record { below = below; top = x })) same
            (Contains-push new edge))
      ];
    }
      where
        edge : Edge
        edge = record { below = below; top = top }

-- runs in order
before_on : (b s t b' s' t' b'' s'' t'' : ℕ) → ComesBefore b s t b' s' t' → ComesBefore b' s' t' b'' s'' t''
    → ComesBefore b s t b'' s'' t''
before_on b s t b' s' t' b'' s'' t'' (inl x) (inl y) = inl (omega (arith, x, y))
before_on b s t b' s' t' b'' s'' t'' (inl x) (inr (inl y)) = inl (omega (arith, x, y.0))
before_on b s t b' s' t' b'' s'' t'' (inl x) (inr (inr y)) = inl (omega (arith, x, y.0))
before_on b s t b' s' t' b'' s'' t'' (inr (inl x)) (inl y) = inl (omega (arith, x.0, y))
before_on b s t b' s' t' b'' s'' t'' (inr (inl x)) (inr (inl y)) =
    inr (inl (omega (arith, x.0, y.0), omega (arith, x.1, y.1)))
before_on b s t b' s' t' b'' s'' t'' (inr (inl x)) (inr (inr y)) =
    inr (inl (omega (arith, x.0, y.0), omega (arith, x.1, y.1)))
before_on b s t b' s' t' b'' s'' t'' (inr (inr x)) (inl y) = inl (omega (arith, x.0, y))
before_on b s t b' s' t' b'' s'' t'' (inr (inr x)) (inr (inl y)) =
    inr (inl (omega (arith, x.0, y.0), omega (arith, x.1, y.1)))
before_on b s t b' s' t' b'' s'' t'' (inr (inr x)) (inr (inr y)) =
    inr (inr (omega (arith, x.0, y.0), omega (arith, x.1, y.1), omega (arith, x.2, y.2)))

-- a run is this one
abbrev pub IsRun : Passing → ℕ → ℕ → ℕ → Type 0
IsRun p b s t = (p.edge.below.0 ≡ b) × (p.edge.top.0 ≡ s) × (p.token.0 ≡ t)

-- no run comes before itself
not_itself : (p : Passing) (b s t : ℕ) → IsRun p b s t
    → ComesBefore b s t p.edge.below.0 p.edge.top.0 p.token.0 → ⊥
not_itself p b s t is (inl x) = omega (arith, x, is.0)
not_itself p b s t is (inr (inl x)) = omega (arith, x.1, is.1)
not_itself p b s t is (inr (inr x)) = omega (arith, x.2, is.2)

same_before : (p : Passing) (b s t x y z : ℕ) → IsRun p b s t → ComesBefore b s t x y z
    → ComesBefore p.edge.below.0 p.edge.top.0 p.token.0 x y z
same_before p b s t x y z is (inl h) = inl (omega (arith, h, is.0))
same_before p b s t x y z is (inr (inl h)) = inr (inl (omega (arith, h.0, is.0), omega (arith, h.1, is.1)))
same_before p b s t x y z is (inr (inr h)) =
    inr (inr (omega (arith, h.0, is.0), omega (arith, h.1, is.1), omega (arith, h.2, is.2)))

-- The first of some runs, and of others.
module _ (m : Machine) (R S : ℕ → ℕ → ℕ → Type 0) (onto : (b s t : ℕ) → R b s t → S b s t) where
  -- the others end
  pub first_kept : (first : Option Passing) → ((b s t : ℕ) → S b s t → R b s t ⊎ EdgeEnds m b s t)
      → IsFirstOf m R first → IsFirstOf m S first
  first_kept None back was = λ b s t r. elim (back b s t r) [ inl old ↦ was b s t old | inr ends ↦ ends ]
  first_kept (Some p) back was = record {
    member = onto p.edge.below.0 p.edge.top.0 p.token.0 was.member;
    endless = was.endless;
    first = λ b s t before r. elim (back b s t r) [
      | inl old ↦ was.first b s t before old
      | inr ends ↦ ends
    ];
  }

  module _ (run : Passing) (back : (b s t : ℕ) → S b s t → R b s t ⊎ IsRun run b s t) where
    -- the other one doesn't come before the first
    pub first_past : (first : Option Passing) → IsBefore run first false → IsFirstOf m R first → IsFirstOf m S first
    first_past None is was = absurd (cc)
    first_past (Some p) is was = record {
      member = onto p.edge.below.0 p.edge.top.0 p.token.0 was.member;
      endless = was.endless;
      first = λ b s t before r. elim (back b s t r) [
        | inl old ↦ was.first b s t before old
        | inr same ↦ absurd (is (same_before run b s t p.edge.below.0 p.edge.top.0 p.token.0 same before))
      ];
    }

    -- the other one comes first, and ends or not
    pub first_ended : (first : Option Passing) → EdgeEnds m run.edge.below.0 run.edge.top.0 run.token.0
        → IsFirstOf m R first → IsFirstOf m S first
    first_ended first ends was = first_kept first (λ b s t r. elim (back b s t r) [
      | inl old ↦ inl old
      | inr same ↦ inr (subst (EdgeEnds m b s) same.2 (subst (λ x. EdgeEnds m b x run.token.0) same.1
          (subst (λ x. EdgeEnds m x run.edge.top.0 run.token.0) same.0 ends)))
    ]) was

    pub first_new : (first : Option Passing) → S run.edge.below.0 run.edge.top.0 run.token.0
        → (EdgeEnds m run.edge.below.0 run.edge.top.0 run.token.0 → ⊥) → IsBefore run first true → IsFirstOf m R first
        → IsFirstOf m S (Some run)
    first_new first there endless is was = record {
      member = there;
      endless = endless;
      first = λ b s t before r. elim (back b s t r) [
        | inl old ↦ earlier first is was b s t before old
        | inr same ↦ absurd (not_itself run b s t same before)
      ];
    }
      where
        earlier : (first : Option Passing) → IsBefore run first true → IsFirstOf m R first → (b s t : ℕ)
            → ComesBefore b s t run.edge.below.0 run.edge.top.0 run.token.0 → R b s t → EdgeEnds m b s t
        earlier None is was b s t before r = was b s t r
        earlier (Some p) is was b s t before r = was.first b s t (before_on b s t run.edge.below.0 run.edge.top.0
            run.token.0 p.edge.below.0 p.edge.top.0 p.token.0 before is) r

-- runs above some edges on lower terminals, and above the first of them on a terminal
abbrev pub AreSoFar : List Edge → List Edge → ℕ → ℕ → ℕ → ℕ → Type 0
AreSoFar edges front token b s t = IsAbove edges token b s t ⊎ (IsAmong front b s × (token ≡ t))

module _ (edges front : List Edge) (token : ℕ) (e : Edge) where
  pub so_far_onto : (b s t : ℕ) → AreSoFar edges front token b s t → AreSoFar edges (front ++ e ∷ []) token b s t
  so_far_onto b s t (inl old) = inl old
  so_far_onto b s t (inr h) =
      inr ((h.0.0, Contains-append_left front (e ∷ []) h.0.0 h.0.1, h.0.2, h.0.3), h.1)

  pub so_far_back : (p : Passing) → p.edge ≡ e → p.token.0 ≡ token → (b s t : ℕ)
      → AreSoFar edges (front ++ e ∷ []) token b s t → AreSoFar edges front token b s t ⊎ IsRun p b s t
  so_far_back p edge on b s t (inl old) = inl (inl old)
  so_far_back p edge on b s t (inr h) = elim (Contains-push_cases front e h.0.0 h.0.1) [
    | inl old ↦ inl (inr ((h.0.0, old, h.0.2, h.0.3), h.1))
    | inr same ↦
        let at : p.edge ≡ h.0.0 = cc in
        inr (subst (λ (x : Edge). (x.below.0 ≡ b) × (x.top.0 ≡ s) × (p.token.0 ≡ t)) (sym at)
        (h.0.2, h.0.3, omega (arith, on, h.1)))
  ]

  pub so_far_there : AreSoFar edges (front ++ e ∷ []) token e.below.0 e.top.0 token
  so_far_there = inr ((e, Contains-push front e, refl, refl), refl)

-- no edge yet
pub so_far_none : (m : Machine) (edges : List Edge) (token : ℕ) (first : Option Passing)
    → IsFirstOf m (IsAbove edges token) first → IsFirstOf m (AreSoFar edges [] token) first
so_far_none m edges token first was =
    first_kept m (IsAbove edges token) (AreSoFar edges [] token) (λ b s t r. inl r) first back was
  where
    back : (b s t : ℕ) → AreSoFar edges [] token b s t → IsAbove edges token b s t ⊎ EdgeEnds m b s t
    back b s t (inl old) = inl old
    back b s t (inr h) = absurd (Contains-none h.0.0 h.0.1)

-- all edges
pub so_far_all : (m : Machine) (edges : List Edge) (token : ℕ) (first : Option Passing)
    → IsFirstOf m (AreSoFar edges edges token) first → IsFirstOf m (IsAbove edges (suc token)) first
so_far_all m edges token first was =
    first_kept m (AreSoFar edges edges token) (IsAbove edges (suc token)) onto first back was
  where
    onto : (b s t : ℕ) → AreSoFar edges edges token b s t → IsAbove edges (suc token) b s t
    onto b s t (inl old) = (old.0, omega (arith, old.1))
    onto b s t (inr h) = (h.0, omega (arith, h.1))

    back : (b s t : ℕ) → IsAbove edges (suc token) b s t → AreSoFar edges edges token b s t ⊎ EdgeEnds m b s t
    back b s t r = elim (cases_lt t token) [
      | inl less ↦ inl (inl (r.0, less))
      | inr more ↦ inl (inr (r.0, omega (arith, r.1)))
    ]

-- no terminal yet, or no edge
pub first_none : (m : Machine) (edges : List Edge) → IsFirstOf m (IsAbove edges 0) None
first_none m edges b s t r = absurd (omega (arith, r.1))

pub first_empty : (m : Machine) (edges : List Edge) (n : ℕ) → edges ≡ [] → IsFirstOf m (IsAbove edges n) None
first_empty m edges n none b s t r =
    absurd (Contains-none r.0.0 (subst (λ es. Contains es r.0.0) none r.0.1))

-- where no run makes too many reductions, tables are steady
pub steady_is : (m : Machine) (edges : List Edge) → AreEntriesWithin m → AreDoubtful m (states_of m) edges
    → IsFirstOf m (IsAbove edges m.terminals) None → IsSteady m
steady_is m edges within are none below top t known edge =
    elim (are.whole below top (edge_below m below top within edge) edge) [
      | inl ends ↦ ends t known
      | inr among ↦ none below top t (among, known)
    ]

-- and else the first one is named
pub endless_is : (m : Machine) (edges : List Edge) (p : Passing) → AreEntriesWithin m
    → AreDoubtful m (states_of m) edges → IsFirstOf m (IsAbove edges m.terminals) (Some p)
    → IsFirstEndless m p.edge.below.0 p.edge.top.0 p.token.0
endless_is m edges p within are is = record {
  edge = let e = is.member.0 in
      subst (λ b. IsTableEdge m b p.edge.top.0) e.2 (subst (IsTableEdge m e.0.below.0) e.3 (are.sound e.0 e.1));
  known = is.member.1;
  endless = is.endless;
  first = λ b s t before known edge. elim (are.whole b s (edge_below m b s within edge) edge) [
    | inl ends ↦ ends t known
    | inr among ↦ is.first b s t before (among, known)
  ];
}
