-- What a program reaches by forks alone is what its positions and forks reach.
use Rattle.std.proofs.Common.{◌≡◌, ◌⊎◌, inl, inr, true, ℕ, ◌<◌, List, [], ◌∷◌, Some, length, filter, refl, sym, ap}
use Rattle.std.proofs.Common.{subst, ◌∙◌, arith}
use Rattle.std.specs.Prelude.{All, Contains, slice_get, ◌↔◌}
use Rattle.std.proofs.lemmas.List.Elements.{All-contains}
use Rattle.std.proofs.lemmas.Option.{get_or_from_slice_get, slice_get_within}
use Rattle.std.proofs.lemmas.Slice.Zip.{AllZip-long}
use Rattle.ly_base.proofs.MemberLemmas.{Contains-first, Contains-one}
use Rattle.ly_base.proofs.ListLemmas.{some_at}
use Rattle.ly_position.specs.Private.Link.{IsForkOf, IsLinkOf, IsNumber, IsReachedNumber, IsReachList, IsSlotOf}
use Rattle.ly_position.specs.Private.Link.{is_fork}
use Rattle.ly_position.specs.Private.Link.{is_position, rank, target_of}
use Rattle.ly_position.specs.Position.{reached_from}
use Rattle.ly_position.specs.Private.Program.{ProgramStep, reads, fork, ends}
use Rattle.ly_position.specs.Private.Reach.{LeadsBelow, Reached, StaysInside, at_root, to_first, to_second}
use Rattle.ly_position.specs.Private.Targets.{IsEnteredList, IsSide, EntersTo, ForksTo, here, onward}
use Rattle.ly_position.specs.Target.{ForkWithin, SlotWithin, TargetWithin}
use Rattle.ly_position.specs.declared.nfa.Fork.{Fork}
use Rattle.ly_position.specs.declared.nfa.Slot.{Slot}
use Rattle.ly_position.specs.declared.nfa.Slot.TheVariants as slot
use Rattle.ly_position.specs.declared.nfa.Target.{Target}
use Rattle.ly_position.specs.declared.nfa.Target.TheVariants as target
use Rattle.ly_position.proofs.NumberLemmas.{position_target, rank_each, rank_get, zip_get}
use Rattle.ly_position.proofs.ReachLemmas.{reached_from-members, reached_from-once}

-- a wider list of roots reaches more
pub reached_wider : (g : List ProgramStep) (e : ℕ) (roots : List ℕ) (p : ℕ) → Contains roots e → Reached g (e ∷ []) p
    → Reached g roots p
reached_wider g e roots p h (at_root k) = at_root (subst (λ x. Contains roots x) (Contains-one e p k) h)
reached_wider g e roots p h (to_first r k) = to_first (reached_wider g e roots _ h r) k
reached_wider g e roots p h (to_second r k) = to_second (reached_wider g e roots _ h r) k

-- and what is reached is reached from one of them
pub reached_from_one : (g : List ProgramStep) (roots : List ℕ) (p : ℕ) → Reached g roots p
    → (e : ℕ) × Contains roots e × Reached g (e ∷ []) p
reached_from_one g roots p (at_root k) = (p, k, at_root (Contains-first p []))
reached_from_one g roots p (to_first {p = q} r e) = let s = reached_from_one g roots q r in (s.0, s.1, to_first s.2 e)
reached_from_one g roots p (to_second {p = q} r e) = let s = reached_from_one g roots q r in (s.0, s.1, to_second s.2 e)

-- a step that is a fork, as a target
fork_target : (g : List ProgramStep) (p a b : ℕ) → slice_get g p ≡ Some (fork a b)
    → target_of g p ≡ target.Fork (rank is_fork g p)
fork_target g p a b e = rw e refl

-- a target that is a fork is a step that is one
target_fork : (g : List ProgramStep) (p k : ℕ) (s : ProgramStep) → slice_get g p ≡ Some s → target_of g p
    ≡ target.Fork k
    → (a : ℕ) × (b : ℕ) × (slice_get g p ≡ Some (fork a b)) × (rank is_fork g p ≡ k)
target_fork g p k (reads bytes q) e t = let is = position_target g p (reads bytes q) e refl in absurd cc
target_fork g p k (fork a b) e t = let is = fork_target g p a b e in (a, b, e, cc)
target_fork g p k (ends i) e t = let is = position_target g p (ends i) e refl in absurd cc

-- a target that is a position is the step of that number
pub target_number : (g : List ProgramStep) (p q : ℕ) (s : ProgramStep) → slice_get g p ≡ Some s → target_of g p
    ≡ target.Position q
    → IsNumber g p q
target_number g p q (reads bytes x) e t = let is = position_target g p (reads bytes x) e refl in
    record { step = reads bytes x; is_step = e; reads_or_ends = refl; is_rank = cc }
target_number g p q (fork a b) e t = let is = fork_target g p a b e in absurd cc
target_number g p q (ends i) e t = let is = position_target g p (ends i) e refl in
    record { step = ends i; is_step = e; reads_or_ends = refl; is_rank = cc }

pub number_target : (g : List ProgramStep) (p q : ℕ) → IsNumber g p q → target_of g p ≡ target.Position q
number_target g p q n = position_target g p n.step n.is_step n.reads_or_ends ∙ ap target.Position n.is_rank

module _ (g : List ProgramStep) (targets : List Target) (slots : List Slot) (forks : List Fork) (inside : StaysInside g)
    (linked : IsLinkOf g targets slots forks) where
  -- the sides of a fork
  record Sides (p a b : ℕ) : Type 0 where
    it : Fork
    is : slice_get forks (rank is_fork g p) ≡ Some it
    first : it.first ≡ target_of g a
    second : it.second ≡ target_of g b

  sides : (p a b : ℕ) → slice_get g p ≡ Some (fork a b) → Sides p a b
  sides p a b e =
      let z = zip_get (IsForkOf g) (filter is_fork g) forks (rank is_fork g p) (fork a b) linked.forks_are
      (rank_get is_fork g p (fork a b) e refl) in
      record { it = z.0; is = z.1; first = z.2.0; second = z.2.1 }

  to_target : (e p : ℕ) → Reached g (e ∷ []) p → ForksTo forks (target_of g e) (target_of g p)
  to_target e p (at_root k) = subst (λ x. ForksTo forks (target_of g e) (target_of g x)) (Contains-one e p k) here
  to_target e p (to_first {p = q} {a = a} {b = b} r k) =
      let f = sides q a b k in
      onward (subst (ForksTo forks (target_of g e)) (fork_target g q a b k) (to_target e q r)) f.is (inl f.first)
  to_target e p (to_second {p = q} {a = a} {b = b} r k) =
      let f = sides q a b k in
      onward (subst (ForksTo forks (target_of g e)) (fork_target g q a b k) (to_target e q r)) f.is (inr f.second)

  -- a step that is reached, and what it is
  record Behind (e : ℕ) (u : Target) : Type 0 where
    place : ℕ
    below : place < length g
    reached : Reached g (e ∷ []) place
    is : target_of g place ≡ u

  from_side : (e k : ℕ) (f : Fork) (u : Target) → Behind e (target.Fork k) → slice_get forks k ≡ Some f → IsSide f u
      → Behind e u
  from_side e k f u h at side =
      let s = some_at g h.place h.below in
      let t = target_fork g h.place k s.0 s.1 h.is in
      let x = sides h.place t.0 t.1 t.2 in
      let both : LeadsBelow (length g) (fork t.0 t.1) = inside h.place (fork t.0 t.1) t.2 in
      let there : slice_get forks k ≡ Some x.it = subst (λ n. slice_get forks n ≡ Some x.it) t.3 x.is in
      let same : x.it ≡ f = cc in
      elim side [
        | inl i ↦ record {
          place = t.0;
          below = both.0;
          reached = to_first h.reached t.2;
          is = sym x.first ∙ ap (λ (y : Fork). y.first) same ∙ i;
        }
        | inr i ↦ record {
          place = t.1;
          below = both.1;
          reached = to_second h.reached t.2;
          is = sym x.second ∙ ap (λ (y : Fork). y.second) same ∙ i;
        }
      ]

  from_target : (e : ℕ) (u : Target) → e < length g → ForksTo forks (target_of g e) u → Behind e u
  from_target e u less here = record {
    place = e;
    below = less;
    reached = at_root (Contains-first e []);
    is = refl;
  }
  from_target e u less (onward {k = k} {f = f} r at side) =
      from_side e k f u (from_target e (target.Fork k) less r) at side

  -- the positions that are reached from an instruction
  from_position : (e q : ℕ) → e < length g → ForksTo forks (target_of g e) (target.Position q)
      → (p : ℕ) × Reached g (e ∷ []) p × IsNumber g p q
  from_position e q less r =
      let h = from_target e (target.Position q) less r in
      let s = some_at g h.place h.below in
      (h.place, h.reached, target_number g h.place q s.0 s.1 h.is)

  to_position : (e p q : ℕ) → Reached g (e ∷ []) p → IsNumber g p q
      → ForksTo forks (target_of g e) (target.Position q)
  to_position e p q r n = subst (ForksTo forks (target_of g e)) (number_target g p q n) (to_target e p r)

  pub number_below : (p q : ℕ) → IsNumber g p q → q < length slots
  number_below p q n =
      let at = slice_get_within (filter is_position g) (rank is_position g p) n.step
      (rank_get is_position g p n.step n.is_step n.reads_or_ends) in
      omega (arith, n.is_rank, AllZip-long (IsSlotOf g) (filter is_position g) slots linked.slots_are)

  -- what the forks lead to from some instructions is what the program reaches from them
  pub leads_members : (roots ms : List ℕ) → All (λ r. r < length g) roots
      → ((q : ℕ) → Contains ms q ↔ EntersTo targets forks roots q) → (q : ℕ) → Contains ms q
      ↔ IsReachedNumber g roots q
  leads_members roots ms below h q = (λ k. there ((h q).0 k), λ k. (h q).1 (back k))
    where
      there : EntersTo targets forks roots q → IsReachedNumber g roots q
      there (r, t, c, at, x) =
          let less = All-contains (λ y. y < length g) roots r below c in
          let is = linked.targets_are.each r less in
          let same : t ≡ target_of g r = cc in
          let p = from_position r q less (subst (λ y. ForksTo forks y (target.Position q)) same x) in
          (p.0, reached_wider g r roots p.0 c p.1, p.2)

      back : IsReachedNumber g roots q → EntersTo targets forks roots q
      back (p, r, n) =
          let e = reached_from_one g roots p r in
          let less = All-contains (λ y. y < length g) roots e.0 below e.1 in
          (e.0, target_of g e.0, e.1, linked.targets_are.each e.0 less, to_position e.0 p q e.2 n)

  -- and so is a list of them
  pub reach_list_of : (roots list : List ℕ) → All (λ r. r < length g) roots
      → IsEnteredList targets forks roots list → IsReachList g roots list
  reach_list_of roots list below entered = record {
    members = leads_members roots list below entered.members;
    once = entered.once;
  }

  -- and the list of what the forks lead to from one is that of the program
  pub reach_list : (next : ℕ) → next < length g
      → IsReachList g (next ∷ []) (reached_from (length slots) forks (target_of g next))
  reach_list next less = record {
    members = λ q. (
      λ k. from_position next q less ((reached_from-members (length slots) forks (target_of g next) q).0 k).1,
      λ (p, r, n). (reached_from-members (length slots) forks (target_of g next) q).1
          (number_below p q n, to_position next p q r n),
    );
    once = reached_from-once (length slots) forks (target_of g next);
  }

-- all targets of a linked program are there
target_within : (g : List ProgramStep) (targets : List Target) (slots : List Slot) (forks : List Fork)
    → IsLinkOf g targets slots forks → (p : ℕ) (s : ProgramStep) → slice_get g p ≡ Some s
    → TargetWithin (length slots) (length forks) (target_of g p)
target_within g targets slots forks linked p s e = of s e (is_one s)
  where
    is_one : (s : ProgramStep) → (is_position s ≡ true) ⊎ (is_fork s ≡ true)
    is_one (reads bytes q) = inl refl
    is_one (fork a b) = inr refl
    is_one (ends i) = inl refl

    of : (s : ProgramStep) → slice_get g p ≡ Some s → (is_position s ≡ true) ⊎ (is_fork s ≡ true)
        → TargetWithin (length slots) (length forks) (target_of g p)
    of s e (inl passes) = rw (position_target g p s e passes) (omega (
      arith,
      slice_get_within (filter is_position g) (rank is_position g p) s (rank_get is_position g p s e passes),
      AllZip-long (IsSlotOf g) (filter is_position g) slots linked.slots_are,
    ))
    of (reads bytes q) e (inr passes) = cc
    of (fork a b) e (inr passes) = rw (fork_target g p a b e) (omega (
      arith,
      slice_get_within (filter is_fork g) (rank is_fork g p) (fork a b) (rank_get is_fork g p (fork a b) e passes),
      AllZip-long (IsForkOf g) (filter is_fork g) forks linked.forks_are,
    ))
    of (ends i) e (inr passes) = cc

module _ (g : List ProgramStep) (targets : List Target) (slots : List Slot) (forks : List Fork) (inside : StaysInside g)
    (linked : IsLinkOf g targets slots forks) where
  below_within : (p : ℕ) → p < length g → TargetWithin (length slots) (length forks) (target_of g p)
  below_within p less = let s = some_at g p less in target_within g targets slots forks linked p s.0 s.1

  pub targets_within : All (TargetWithin (length slots) (length forks)) targets
  targets_within k d less =
      let below : k < length g = omega (arith, linked.targets_are.count) in
      rw (get_or_from_slice_get targets k (target_of g k) d (linked.targets_are.each k below)) (below_within k below)

  slot_within : (s : ProgramStep) (x : Slot) → LeadsBelow (length g) s → IsSlotOf g s x
      → SlotWithin (length slots) (length forks) x
  slot_within (reads bytes next) (slot.Reads b t) below is = rw is.1 (below_within next below)
  slot_within (reads bytes next) (slot.Ends r) below is = absurd is
  slot_within (fork a b) x below is = absurd is
  slot_within (ends i) (slot.Reads b t) below is = absurd is
  slot_within (ends i) (slot.Ends r) below is = tt

  fork_within : (s : ProgramStep) (f : Fork) → LeadsBelow (length g) s → IsForkOf g s f
      → ForkWithin (length slots) (length forks) f
  fork_within (reads bytes next) f below is = absurd is
  fork_within (fork a b) f below is = (rw is.0 (below_within a below.0), rw is.1 (below_within b below.1))
  fork_within (ends i) f below is = absurd is

  pub slots_within : All (SlotWithin (length slots) (length forks)) slots
  slots_within k d less =
      let long = AllZip-long (IsSlotOf g) (filter is_position g) slots linked.slots_are in
      let s = some_at (filter is_position g) k (omega arith) in
      let z = zip_get (IsSlotOf g) (filter is_position g) slots k s.0 linked.slots_are s.1 in
      let p = rank_each is_position g k s.0 s.1 in
      rw (get_or_from_slice_get slots k z.0 d z.1) (slot_within s.0 z.0 (inside p.0 s.0 p.1) z.2)

  pub forks_within : All (ForkWithin (length slots) (length forks)) forks
  forks_within k d less =
      let long = AllZip-long (IsForkOf g) (filter is_fork g) forks linked.forks_are in
      let s = some_at (filter is_fork g) k (omega arith) in
      let z = zip_get (IsForkOf g) (filter is_fork g) forks k s.0 linked.forks_are s.1 in
      let p = rank_each is_fork g k s.0 s.1 in
      rw (get_or_from_slice_get forks k z.0 d z.1) (fork_within s.0 z.0 (inside p.0 s.0 p.1) z.2)
