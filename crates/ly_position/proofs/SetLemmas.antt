-- Sets of targets: one more member, and what the forks lead to.
use Rattle.std.proofs.Common.{◌≡◌, ◌⊎◌, inl, inr, ℕ, ◌+◌, ◌<◌, ◌≤◌, List, [], ◌∷◌, ◌++◌, Some, length, get_or, take}
use Rattle.std.proofs.Common.{refl, sym, ap, subst, ◌∙◌, arith, append-nil, append_assoc, nat_eq}
use Rattle.std.specs.Prelude.{Contains, slice_get, ◌↔◌}
use Rattle.std.specs.List.{list_any}
use Rattle.std.proofs.lemmas.Bool.{cases_Bool}
use Rattle.std.proofs.lemmas.List.{take_all, take_more, take-append-le}
use Rattle.std.proofs.lemmas.List.Elements.{Contains-append_left, Contains-get_or, Contains-push, Contains-push_cases}
use Rattle.std.proofs.lemmas.Option.{slice_get-get_or}
use Rattle.ly_base.proofs.MemberLemmas.{Contains-none}
use Rattle.ly_base.specs.SparseSet.{with_member}
use Rattle.ly_base.proofs.SparseSetLemmas.{with_member-cases, with_member-new, with_member-old}
use Rattle.ly_position.specs.Private.Targets.{Closes, Has, IsSide, ForksTo, SameRoom, here, onward, with_target}
use Rattle.ly_position.specs.declared.nfa.Fork.{Fork}
use Rattle.ly_position.specs.declared.nfa.Target.{Target}
use Rattle.ly_position.specs.declared.nfa.Target.TheVariants as target
use Rattle.ly_position.specs.declared.set.PositionSet.{PositionSet}

-- one more number
member_after : (ms : List ℕ) (n : ℕ) → (rest : List ℕ) × (with_member ms n ≡ ms ++ rest)
member_after ms n = elim (cases_Bool (list_any (nat_eq n) ms)) [
  | inl is ↦ ([], rw is (sym (append-nil ms)))
  | inr not ↦ (n ∷ [], rw not refl)
]

-- one more target
pub has_old : (s : PositionSet) (t u : Target) → Has s u → Has (with_target s t) u
has_old s (target.Position n) (target.Position x) h = with_member-old s.positions.members n x h
has_old s (target.Position n) (target.Fork x) h = h
has_old s (target.Fork n) (target.Position x) h = h
has_old s (target.Fork n) (target.Fork x) h = with_member-old s.forks.members n x h

pub has_new : (s : PositionSet) (t : Target) → Has (with_target s t) t
has_new s (target.Position n) = with_member-new s.positions.members n
has_new s (target.Fork n) = with_member-new s.forks.members n

pub has_cases : (s : PositionSet) (t u : Target) → Has (with_target s t) u → Has s u ⊎ (t ≡ u)
has_cases s (target.Position n) (target.Position x) h = elim (with_member-cases s.positions.members n x h) [
  | inl old ↦ inl old
  | inr e ↦ inr (ap target.Position e)
]
has_cases s (target.Position n) (target.Fork x) h = inl h
has_cases s (target.Fork n) (target.Position x) h = inl h
has_cases s (target.Fork n) (target.Fork x) h = elim (with_member-cases s.forks.members n x h) [
  | inl old ↦ inl old
  | inr e ↦ inr (ap target.Fork e)
]

queue_after : (s : PositionSet) (t : Target)
    → (rest : List ℕ) × ((with_target s t).forks.members ≡ s.forks.members ++ rest)
queue_after s (target.Position n) = ([], sym (append-nil s.forks.members))
queue_after s (target.Fork n) = member_after s.forks.members n

pub same_room : (s : PositionSet) (t : Target) → SameRoom s (with_target s t)
same_room s (target.Position n) = record { positions = refl; forks = refl }
same_room s (target.Fork n) = record { positions = refl; forks = refl }

pub same_room_twice : (r s t : PositionSet) → SameRoom r s → SameRoom s t → SameRoom r t
same_room_twice r s t h k = record { positions = k.positions ∙ h.positions; forks = k.forks ∙ h.forks }

-- What was there is there still, what is there now is reached from it, and both sides of the first forks of the queue
-- are there.
pub record Closing (forks : List Fork) (old now : PositionSet) (done : ℕ) : Type 0 where
  pub room : SameRoom old now
  pub few : length now.forks.members ≤ now.forks.below
  pub kept : (t : Target) → Has old t → Has now t
  pub found : (u : Target) → Has now u → (t : Target) × Has old t × ForksTo forks t u
  pub closed : (k : ℕ) (f : Fork) (s : Target) → Contains (take done now.forks.members) k → slice_get forks k ≡ Some f
      → IsSide f s → Has now s

pub closing_none : (forks : List Fork) (s : PositionSet) → length s.forks.members ≤ s.forks.below
    → Closing forks s s 0
closing_none forks s few = record {
  room = record { positions = refl; forks = refl };
  few = few;
  kept = λ t h. h;
  found = λ u h. (u, h, here);
  closed = λ k f t h e i. Contains-none k h;
}

-- one more fork
module _ (forks : List Fork) (old now mid new : PositionSet) (done k : ℕ) (f : Fork) (h : Closing forks old now done)
    (less : done < length now.forks.members) (at : get_or now.forks.members done 0 ≡ k)
    (is : slice_get forks k ≡ Some f)
    (first : mid ≡ with_target now f.first) (second : new ≡ with_target mid f.second)
    (few : length new.forks.members ≤ new.forks.below) where
  onto : (u : Target) → Has now u → Has new u
  onto u x = rw (second, first) (has_old (with_target now f.first) f.second u (has_old now f.first u x))

  onto_first : Has new f.first
  onto_first = rw (second, first) (has_old (with_target now f.first) f.second f.first (has_new now f.first))

  onto_second : Has new f.second
  onto_second = rw second (has_new mid f.second)

  queued : Contains now.forks.members k
  queued = subst (λ x. Contains now.forks.members x) at (Contains-get_or now.forks.members done 0 less)

  from_fork : (s : Target) → IsSide f s → (t : Target) × Has old t × ForksTo forks t s
  from_fork s i = let r = h.found (target.Fork k) queued in (r.0, r.1, onward r.2 is i)

  found_more : (u : Target) → Has new u → (t : Target) × Has old t × ForksTo forks t u
  found_more u x = elim (has_cases mid f.second u (subst (λ s. Has s u) second x)) [
    | inl m ↦
        elim (has_cases now f.first u (subst (λ s. Has s u) first m)) [
          | inl n ↦ h.found u n
          | inr e ↦ from_fork u (inl e)
        ]
    | inr e ↦ from_fork u (inr e)
  ]

  queue_more : (rest : List ℕ) × (new.forks.members ≡ now.forks.members ++ rest)
  queue_more =
      let a = queue_after now f.first in
      let b = queue_after mid f.second in
      let queue : PositionSet → List ℕ = λ s. s.forks.members in
      let same : mid.forks.members ≡ now.forks.members ++ a.0 = ap queue first ∙ a.1 in (
        a.0 ++ b.0,
        ap queue second ∙ b.1 ∙ ap (λ ms. ms ++ b.0) same ∙ append_assoc now.forks.members a.0 b.0,
      )

  taken : take (done + 1) new.forks.members ≡ take done now.forks.members ++ k ∷ []
  taken =
      let q = queue_more in
      rw (
        q.1,
        take-append-le (done + 1) now.forks.members q.0 (omega arith),
        take_more now.forks.members done 0 less,
        at,
      )

  closed_more : (j : ℕ) (g : Fork) (s : Target) → Contains (take (done + 1) new.forks.members) j
      → slice_get forks j ≡ Some g → IsSide g s → Has new s
  closed_more j g s c e i = elim (Contains-push_cases (take done now.forks.members) k j (rw taken at c)) [
    | inl m ↦ onto s (h.closed j g s m e i)
    | inr same ↦
        let one : f ≡ g = let here : slice_get forks j ≡ Some f = subst (λ x. slice_get forks x ≡ Some f) same is in cc
        in
        side (subst (λ x. IsSide x s) (sym one) i)
  ]
    where
      side : IsSide f s → Has new s
      side (inl e) = subst (λ x. Has new x) e onto_first
      side (inr e) = subst (λ x. Has new x) e onto_second

  pub closing_more : Closing forks old new (done + 1)
  closing_more = record {
    room = rw (second, first) (same_room_twice old (with_target now f.first)
        (with_target (with_target now f.first) f.second)
        (same_room_twice old now (with_target now f.first) h.room (same_room now f.first))
        (same_room (with_target now f.first) f.second));
    few = few;
    kept = λ t x. onto t (h.kept t x);
    found = found_more;
    closed = closed_more;
  }

-- one more fork, as it is looked up
pub closing_next : (forks : List Fork) (old now mid new : PositionSet) (ms : List ℕ) (done : ℕ) (d : Fork)
    → Closing forks old now done → ms ≡ now.forks.members → done < length ms → get_or ms done 0 < length forks
    → mid ≡ with_target now (get_or forks (get_or ms done 0) d).first
    → new ≡ with_target mid (get_or forks (get_or ms done 0) d).second
    → (length mid.forks.members ≤ mid.forks.below → length new.forks.members ≤ new.forks.below)
    → (length now.forks.members ≤ now.forks.below → length mid.forks.members ≤ mid.forks.below)
    → Closing forks old new (done + 1)
closing_next forks old now mid new ms done d h same less within first second few_new few_mid =
    closing_more forks old now mid new done (get_or ms done 0) (get_or forks (get_or ms done 0) d) h
    (omega (arith, ap length same)) (ap (λ xs. get_or xs done 0) (sym same))
    (slice_get-get_or forks (get_or ms done 0) d within) first second (few_new (few_mid h.few))

-- once the queue is done with, all is found
pub closing_all : (forks : List Fork) (old now : PositionSet) (done : ℕ) → Closing forks old now done
    → length now.forks.members ≤ done → Closes forks old now
closing_all forks old now done h all u = (h.found u, λ (t, x, r). reached t u x r)
  where
    reached : (t u : Target) → Has old t → ForksTo forks t u → Has now u
    reached t u x here = h.kept t x
    reached t u x (onward {k = k} {f = f} {t = s} r e i) = h.closed k f s
        (subst (λ ms. Contains ms k) (sym (take_all done now.forks.members all)) (reached t (target.Fork k) x r)) e i

-- The set holds what some items stand for, as far as they have come.
pub record Puts (G : ℕ → Target → Type 0) (old now : PositionSet) (items : List ℕ) : Type 0 where
  pub room : SameRoom old now
  pub few : length now.forks.members ≤ now.forks.below
  pub puts : (u : Target) → Has now u ↔ ((x : ℕ) × Contains items x × G x u)

module _ (G : ℕ → Target → Type 0) (old now : PositionSet) where
  pub puts_none : now ≡ record {
    positions = record old.positions { members = [] };
    forks = record old.forks { members = [] };
  } → Puts G old now []
  puts_none e = rw e (record {
    room = record { positions = refl; forks = refl };
    few = omega arith;
    puts = λ u. (none u, λ (x, c, g). Contains-none x c);
  })
    where
      none : {A : Type 0} (u : Target) → Has (record {
        positions = record old.positions { members = [] };
        forks = record old.forks { members = [] };
      }) u → A
      none (target.Position p) h = Contains-none p h
      none (target.Fork k) h = Contains-none k h

  module _ (xs : List ℕ) (i : ℕ) (less : i < length xs) (h : Puts G old now (take i xs)) where
    taken_more : take (i + 1) xs ≡ take i xs ++ get_or xs i 0 ∷ []
    taken_more = take_more xs i 0 less

    pub puts_one : (new : PositionSet) (t : Target) → G (get_or xs i 0) t → ((u : Target) → G (get_or xs i 0) u → t ≡ u)
        → new ≡ with_target now t
        → (length now.forks.members ≤ now.forks.below → length new.forks.members ≤ new.forks.below)
        → Puts G old new (take (i + 1) xs)
    puts_one new t g one e few = rw taken_more (record {
      room = same_room_twice old now new h.room (subst (λ s. SameRoom now s) (sym e) (same_room now t));
      few = few h.few;
      puts = λ u. (there u, back u);
    })
      where
        there : (u : Target) → Has new u → (x : ℕ) × Contains (take i xs ++ get_or xs i 0 ∷ []) x × G x u
        there u k = elim (has_cases now t u (subst (λ s. Has s u) e k)) [
          | inl m ↦ let r = (h.puts u).0 m in (r.0, Contains-append_left (take i xs) (get_or xs i 0 ∷ []) r.0 r.1, r.2)
          | inr same ↦ (get_or xs i 0, Contains-push (take i xs) (get_or xs i 0), subst (G (get_or xs i 0)) same g)
        ]

        at : (x : ℕ) (u : Target) → get_or xs i 0 ≡ x → G x u → Has new u
        at x u same k = subst (λ v. Has new v) (one u (subst (λ y. G y u) (sym same) k))
            (subst (λ s. Has s t) (sym e) (has_new now t))

        back : (u : Target) → ((x : ℕ) × Contains (take i xs ++ get_or xs i 0 ∷ []) x × G x u) → Has new u
        back u (x, c, k) = elim (Contains-push_cases (take i xs) (get_or xs i 0) x c) [
          | inl m ↦ subst (λ s. Has s u) (sym e) (has_old now t u ((h.puts u).1 (x, m, k)))
          | inr same ↦ at x u same k
        ]

    pub puts_skip : ((u : Target) → G (get_or xs i 0) u → ⊥) → Puts G old now (take (i + 1) xs)
    puts_skip none = rw taken_more (record {
      room = h.room;
      few = h.few;
      puts = λ u. (there u, back u);
    })
      where
        there : (u : Target) → Has now u → (x : ℕ) × Contains (take i xs ++ get_or xs i 0 ∷ []) x × G x u
        there u k = let r = (h.puts u).0 k in (r.0, Contains-append_left (take i xs) (get_or xs i 0 ∷ []) r.0 r.1, r.2)

        back : (u : Target) → ((x : ℕ) × Contains (take i xs ++ get_or xs i 0 ∷ []) x × G x u) → Has now u
        back u (x, c, k) = elim (Contains-push_cases (take i xs) (get_or xs i 0) x c) [
          | inl m ↦ (h.puts u).1 (x, m, k)
          | inr same ↦ absurd (none u (subst (λ y. G y u) (sym same) k))
        ]

  -- what the forks lead to from all of them
  pub puts_all : (forks : List Fork) (new : PositionSet) (xs : List ℕ) → Puts G old now xs → Closes forks now new
      → (q : ℕ) → Contains new.positions.members q
      ↔ ((x : ℕ) × (t : Target) × Contains xs x × G x t × ForksTo forks t (target.Position q))
  puts_all forks new xs h closes q = (
    λ k. let r = (closes (target.Position q)).0 k in let x = (h.puts r.0).0 r.1 in (x.0, r.0, x.1, x.2, r.2),
    λ (x, t, c, g, r). (closes (target.Position q)).1 (t, (h.puts t).1 (x, c, g), r),
  )
