-- What a construction of subsets has found: one set more, and one entry more.
use Rattle.std.proofs.Common.{◌≡◌, ◌<◌, ◌≤◌, ◌+◌, ◌*◌, ◌∙◌, ℕ, List, [], ◌∷◌, ◌++◌, Option, Some}
use Rattle.std.proofs.Common.{None, Bool, true, false, Result, Ok, Err}
use Rattle.std.proofs.Common.{refl, sym, ap, subst, arith, inl, inr, length, Contains, All}
use Rattle.std.specs.Prelude.{AllPairs, ◌↔◌, ◌==◌, slice_index_or, OnOk}
use Rattle.std.proofs.lemmas.Bool.{cases_lt}
use Rattle.std.proofs.lemmas.List.{append-nil, get_or_append_left, get_or_past, get_or_push, length-append, length-map}
use Rattle.std.proofs.lemmas.List.{length_push}
use Rattle.std.proofs.lemmas.List.Elements.{All-contains, Contains-get_or}
use Rattle.std.proofs.lemmas.Nat.{mul-add-lt, same_from_place}
use Rattle.std.proofs.Math.Nat.{mul_comm}
use Rattle.ly_base.proofs.MemberLemmas.{Contains-none}
use Rattle.ly_base.proofs.SparseSetLemmas.{with_members-same}
use Rattle.ly_base.specs.SparseSet.{with_members}
use Rattle.ly_position.specs.Nfa.{Nfa, IsRoomFor, Stepped}
use Rattle.ly_position.specs.declared.set.PositionSet.{PositionSet}
use Rattle.ly_base.specs.Entry.{target_of}
use Rattle.ly_subset.specs.declared.found.Found.{Found}
use Rattle.ly_subset.specs.Automaton.{entry_at}
use Rattle.ly_subset.specs.Subsets.{IsStateOf, set_at}
use Rattle.ly_subset.specs.Private.Found.{AreFound, AreKept, IsEntered, IsFound, IsFull, IsKeptSet, IsNumbered, IsPast}
use Rattle.ly_subset.specs.Private.Found.{targets_of}
use Rattle.ly_base.specs.Keys.{IsAbsent}
use Rattle.ly_base.proofs.ListLemmas.{rising_one}
use Rattle.ly_subset.specs.Private.Keys.{IsKeyOf}
use Rattle.ly_subset.proofs.OrderLemmas.{each_entry, order_more, order_none}

-- a list that isn't empty has a member
pub some_member : (xs : List ℕ) (empty : Bool) → empty ≡ (length xs == 0) → empty ≡ false → (q : ℕ) × Contains xs q
some_member [] empty e f = absurd (let off : true ≡ false = sym e ∙ f in cc)
some_member (x ∷ xs) empty e f = (x, Contains-get_or (x ∷ xs) 0 x (omega arith))

-- what holds of each set and of one more
pub each_more : (sets : List (List ℕ)) (key : List ℕ) (P : ℕ → List ℕ → Type 0)
    → ((s : ℕ) → s < length sets → P s (set_at sets s)) → P (length sets) key
    → (s : ℕ) → s < length (sets ++ key ∷ []) → P s (set_at (sets ++ key ∷ []) s)
each_more sets key P all one s l = elim (cases_lt s (length sets)) [
  | inl less ↦ subst (P s) (sym (get_or_append_left sets (key ∷ []) [] s less)) (all s less)
  | inr past ↦ let last : length sets ≡ s = omega (arith, length_push sets key, l, past) in
      subst (λ k. P k (set_at (sets ++ key ∷ []) k)) last
      (subst (P (length sets)) (sym (get_or_push sets key [] (length sets) refl)) one)
]

module _ (below limit : ℕ) (sets : List (List ℕ)) (members key : List ℕ) (kept : AreKept below limit sets)
    (is_key : IsKeyOf members key) (absent : IsAbsent sets key) where
  -- a key that isn't there is that of another set
  pub other_set : (s : ℕ) → s < length sets → ((q : ℕ) → Contains (set_at sets s) q ↔ Contains members q) → ⊥
  other_set s l e = absent s l (rising_one (λ a b. a < b) (λ a b less more. omega (arith, less, more))
      (set_at sets s) key (kept.rising s l) is_key.rising (λ q h. (is_key.same q).1 ((e q).0 h))
      (λ q h. (e q).1 ((is_key.same q).0 h)))

  -- one set more, which isn't empty
  pub kept_more : ((q : ℕ) × Contains members q) → All (λ p. p < below) members → length sets < limit
      → AreKept below limit (sets ++ key ∷ [])
  kept_more some within room = record {
    are_sets = record {
      some = each_more sets key (λ s set. (q : ℕ) × Contains set q) kept.are_sets.some (
        some.0,
        (is_key.same some.0).1 some.1,
      );
      apart = λ s t l m. each_more sets key
          (λ s' set. (t' : ℕ) → t' < length (sets ++ key ∷ [])
          → ((q : ℕ) → Contains set q ↔ Contains (set_at (sets ++ key ∷ []) t') q) → s' ≡ t')
          (λ s' less. each_more sets key (λ t' set. ((q : ℕ) → Contains (set_at sets s') q ↔ Contains set q) → s' ≡ t')
          (λ t' more e. kept.are_sets.apart s' t' less more e)
          (λ e. absurd (other_set s' less (λ q. (
            λ h. (is_key.same q).0 ((e q).0 h),
            λ h. (e q).1
                ((is_key.same q).1 h),
          )))))
          (each_more sets key (λ t' set. ((q : ℕ) → Contains key q ↔ Contains set q) → length sets ≡ t')
          (λ t' more e. absurd (other_set t' more
          (λ q. (λ h. (is_key.same q).0 ((e q).1 h), λ h. (e q).0 ((is_key.same q).1 h)))))
          (λ e. refl))
          s l t m;
      within = λ s q h. elim (cases_lt s (length (sets ++ key ∷ []))) [
        | inl less ↦ each_more sets key (λ s' set. Contains set q → q < below) (λ s' l. kept.are_sets.within s' q)
            (λ c. All-contains (λ p. p < below) members q within ((is_key.same q).0 c)) s less h
        | inr past ↦ Contains-none q (subst (λ set. Contains set q) (get_or_past (sets ++ key ∷ []) s [] past) h)
      ];
    };
    rising = each_more sets key (λ s set. AllPairs (λ a b. a < b) set) kept.rising is_key.rising;
    few = omega (arith, length_push sets key, room);
  }

  pub numbered_new : (e : Option ℕ) → e ≡ Some (length sets) → IsNumbered sets members (sets ++ key ∷ []) e
  numbered_new e same = record {
    more = key ∷ [];
    grown = refl;
    state = subst (λ o. IsStateOf (sets ++ key ∷ []) o (Contains members)) (sym same) (
      omega (arith, length_push sets key),
      subst (λ set. (q : ℕ) → Contains set q ↔ Contains members q) (sym (get_or_push sets key [] (length sets) refl))
          is_key.same,
    );
    fresh = λ s l past. let last : s ≡ length sets = omega (arith, length_push sets key, l, past) in
        (last, same ∙ ap (λ x. Some x) (sym last));
  }

  pub full_of : ((q : ℕ) × Contains members q) → limit ≤ length sets → IsFull limit sets members
  full_of some full = record { full = full; some = some; other = other_set }

-- a set that is there
pub numbered_known : (sets : List (List ℕ)) (members key : List ℕ) (n : ℕ) (e : Option ℕ) → IsKeyOf members key
    → n < length sets → set_at sets n ≡ key → e ≡ Some n → IsNumbered sets members sets e
numbered_known sets members key n e is_key l at same = record {
  more = [];
  grown = sym (append-nil sets);
  state = subst (λ o. IsStateOf sets o (Contains members)) (sym same)
      (l, subst (λ set. (q : ℕ) → Contains set q ↔ Contains members q) (sym at) is_key.same);
  fresh = λ s less past. absurd (omega (arith, less, past));
}

-- the empty set
pub numbered_none : (sets : List (List ℕ)) (members : List ℕ) (e : Option ℕ) → length members ≡ 0 → e ≡ None
    → IsNumbered sets members sets e
numbered_none sets members e empty same = record {
  more = [];
  grown = sym (append-nil sets);
  state = subst (λ o. IsStateOf sets o (Contains members)) (sym same) (λ q h. absurd (omega (arith, h.1, empty)));
  fresh = λ s less past. absurd (omega (arith, less, past));
}

pub state_within : (sets : List (List ℕ)) (P : ℕ → Type 0) (o : Option ℕ) (s : ℕ) → IsStateOf sets o P → o ≡ Some s
    → s < length sets
state_within sets P None s h e = absurd (cc)
state_within sets P (Some t) s h e = let same : t ≡ s = cc in omega (arith, h.0, same)

-- the state of the same positions, said otherwise
pub state_same : (sets : List (List ℕ)) (P Q : ℕ → Type 0) (o : Option ℕ) → ((q : ℕ) → P q ↔ Q q) → IsStateOf sets o P
    → IsStateOf sets o Q
state_same sets P Q None same h = λ q g. h q ((same q).1 g)
state_same sets P Q (Some s) same h = (h.0, λ q. (λ g. (same q).0 ((h.1 q).0 g), λ g. (h.1 q).1 ((same q).1 g)))

module _ (nfa : Nfa) (starts : ℕ) (least : List ℕ) (limit : ℕ) (sets new : List (List ℕ)) (entries : List (Option ℕ))
    (members : List ℕ) (e : Option ℕ) (so : AreFound nfa starts least limit sets entries)
    (numbered : IsNumbered sets members new e) where
  longer : length sets ≤ length new
  longer = omega (arith, ap length numbered.grown, length-append sets numbered.more)

  kept_set : (s : ℕ) → s < length sets → set_at new s ≡ set_at sets s
  kept_set s l = ap (λ ss. set_at ss s) numbered.grown ∙ get_or_append_left sets numbered.more [] s l

  more_state : (o : Option ℕ) (P : ℕ → Type 0) → IsStateOf sets o P → IsStateOf new o P
  more_state None P h = h
  more_state (Some s) P h = (
    let long = longer in omega (arith, h.0),
    subst (λ set. (q : ℕ) → Contains set q ↔ P q) (sym (kept_set s h.0)) h.1,
  )

  pub entered : AreKept (length nfa.positions) limit new → ((s : ℕ) → length sets ≡ s
      → length entries < starts + s * length least)
      → (length entries < starts → (q : ℕ) → Contains members q ↔ Contains (slice_index_or nfa.starts
      (length entries) []) q)
      → ((s c : ℕ) → c < length least → starts + (s * length least + c) ≡ length entries → (s < length sets)
      × ((q : ℕ) → Contains members q ↔ Stepped nfa (set_at sets s) (slice_index_or least c 0) q))
      → AreFound nfa starts least limit new (entries ++ e ∷ [])
  entered kept room start row = record {
    kept = kept;
    order = order_more starts (length least) (length sets) (length new) entries e so.order longer
        (λ s g. state_within new (Contains members) e s numbered.state g) numbered.fresh room;
    at_start = each_entry entries e (λ k o. k < starts → IsStateOf new o (Contains (slice_index_or nfa.starts k [])))
        (λ k l m. more_state (entry_at entries k) (Contains (slice_index_or nfa.starts k [])) (so.at_start k l m))
        (λ m. state_same new (Contains members) (Contains (slice_index_or nfa.starts (length entries) [])) e (start m)
        numbered.state);
    at_row = λ s c l m. each_entry entries e (λ k o. starts + (s * length least + c) ≡ k → (s < length new)
        × IsStateOf new o (Stepped nfa (set_at new s) (slice_index_or least c 0)))
        (λ k below same. let was = so.at_row s c l (omega (arith, below, same)) in (
          let long = longer in omega (arith, was.0),
          subst (λ set. IsStateOf new (entry_at entries k) (Stepped nfa set (slice_index_or least c 0)))
              (sym (kept_set s was.0))
              (more_state (entry_at entries k) (Stepped nfa (set_at sets s) (slice_index_or least c 0))
              (subst (λ j. IsStateOf sets (entry_at entries j) (Stepped nfa (set_at sets s) (slice_index_or least c 0)))
              same was.1)),
        ))
        (λ same. let here = row s c l same in (
          let long = longer in omega (arith, here.0),
          subst (λ set. IsStateOf new e (Stepped nfa set (slice_index_or least c 0))) (sym (kept_set s here.0))
              (state_same new (Contains members) (Stepped nfa (set_at sets s) (slice_index_or least c 0)) e here.1
              numbered.state),
        ))
        (starts + (s * length least + c)) m refl;
  }

  -- one start more
  pub entered_start : AreKept (length nfa.positions) limit new → length entries < starts
      → ((q : ℕ) → Contains members q ↔ Contains (slice_index_or nfa.starts (length entries) []) q)
      → AreFound nfa starts least limit new (entries ++ e ∷ [])
  entered_start kept less same = entered kept (λ s is. omega (arith, less)) (λ l. same)
      (λ s c l is. absurd (omega (arith, less, is)))

  -- one entry of a row more
  pub entered_row : (s c : ℕ) → AreKept (length nfa.positions) limit new → s < length sets → c < length least
      → length entries ≡ starts + (s * length least + c)
      → ((q : ℕ) → Contains members q ↔ Stepped nfa (set_at sets s) (slice_index_or least c 0) q)
      → AreFound nfa starts least limit new (entries ++ e ∷ [])
  entered_row s c kept less within at same = entered kept
      (λ t is. let row = mul-add-lt s (length least) c t (omega (arith, less, is)) within in
      let turned : length least * t ≡ t * length least = mul_comm (length least) t in omega (arith, row, turned, at))
      (λ l. absurd (omega (arith, at, l)))
      (λ t d l is. let place = same_from_place t d s c (length least) l within (omega (arith, is, at)) in (
        omega (arith, place.0, less),
        subst (λ u. (q : ℕ) → Contains members q ↔ Stepped nfa (set_at sets u) (slice_index_or least d 0) q)
            (sym place.0)
            (subst (λ u. (q : ℕ) → Contains members q ↔ Stepped nfa (set_at sets s) (slice_index_or least u 0) q)
            (sym place.1) same),
      ))

-- at the beginning nothing is found
pub found_none : (nfa : Nfa) (starts : ℕ) (least : List ℕ) (limit : ℕ) → AreFound nfa starts least limit [] []
found_none nfa starts least limit = record {
  kept = record {
    are_sets = record {
      some = λ s l. absurd (omega (arith, l));
      apart = λ s t l m e. absurd (omega (arith, l));
      within = λ s q h. Contains-none q h;
    };
    rising = λ s l. absurd (omega (arith, l));
    few = omega arith;
  };
  order = order_none starts (length least);
  at_start = λ k l. absurd (omega (arith, l));
  at_row = λ s c l m. absurd (omega (arith, m));
}

-- the entries' states are as many as the entries
pub count_targets : (found : Found) → length (targets_of found) ≡ length found.entries.items
count_targets found = length-map found.entries.items target_of

module _ (nfa : Nfa) (least : List ℕ) (old new : Found) (members : List ℕ) (so : IsFound nfa least old)
    (entered' : IsEntered old members new) (starts : new.starts ≡ old.starts) (limit : new.limit ≡ old.limit) where
  -- one entry more
  pub count_entered : length new.entries.items ≡ length old.entries.items + 1
  count_entered = sym (count_targets new) ∙ ap length entered'.appended
      ∙ length_push (targets_of old) entered'.entry ∙ ap (λ n. n + 1) (count_targets old)

  -- the sets that were found stay
  pub entered_kept : (s : ℕ) → s < length old.keys → set_at new.keys s ≡ set_at old.keys s
  entered_kept s l = kept_set nfa old.starts least old.limit old.keys new.keys
      (targets_of old) members entered'.entry so
      entered'.numbered s l

  pub entered_longer : length old.keys ≤ length new.keys
  entered_longer = longer nfa old.starts least old.limit old.keys new.keys (targets_of old) members entered'.entry so
      entered'.numbered

  restated : AreFound nfa old.starts least old.limit new.keys (targets_of old ++ entered'.entry ∷ [])
      → IsFound nfa least new
  restated h = subst (λ n. AreFound nfa n least new.limit new.keys (targets_of new)) (sym starts)
      (subst (λ n. AreFound nfa old.starts least n new.keys (targets_of new)) (sym limit)
      (subst (λ es. AreFound nfa old.starts least old.limit new.keys es) (sym entered'.appended) h))

  kept_old : AreKept (length nfa.positions) new.limit new.keys → AreKept (length nfa.positions) old.limit new.keys
  kept_old kept = subst (λ n. AreKept (length nfa.positions) n new.keys) limit kept

  -- a start was entered
  pub start_found : AreKept (length nfa.positions) new.limit new.keys → length old.entries.items < old.starts
      → ((q : ℕ) → Contains members q ↔ Contains (slice_index_or nfa.starts (length old.entries.items) []) q)
      → IsFound nfa least new
  start_found kept less same = restated (entered_start nfa old.starts least old.limit old.keys new.keys (targets_of old)
      members entered'.entry so entered'.numbered (kept_old kept) (omega (arith, less, count_targets old))
      (subst (λ n. (q : ℕ) → Contains members q ↔ Contains (slice_index_or nfa.starts n []) q) (sym (count_targets old))
      same))

  -- an entry of a row was entered
  pub row_found : (s c : ℕ) → AreKept (length nfa.positions) new.limit new.keys → s < length old.keys → c < length least
      → length old.entries.items ≡ old.starts + (s * length least + c)
      → ((q : ℕ) → Contains members q ↔ Stepped nfa (set_at old.keys s) (slice_index_or least c 0) q)
      → IsFound nfa least new
  row_found s c kept less within at same = restated (entered_row nfa old.starts least old.limit old.keys new.keys
      (targets_of old) members entered'.entry so entered'.numbered s c (kept_old kept) less within
      (count_targets old ∙ at) same)

-- a set that would have been one more than the limit allows, at a start and at a row
pub past_start : (nfa : Nfa) (least : List ℕ) (found : Found) (members : List ℕ) (k : ℕ) → IsFound nfa least found
    → IsFull found.limit found.keys members → k < found.starts
    → ((q : ℕ) → Contains members q ↔ Contains (slice_index_or nfa.starts k []) q)
    → IsPast nfa found.starts least found.limit
past_start nfa least found members k so full less same = record {
  sets = found.keys;
  entries = targets_of found;
  found = so;
  members = members;
  full = full;
  reached = inl (k, less, same);
}

pub past_row : (nfa : Nfa) (least : List ℕ) (found : Found) (members : List ℕ) (s c : ℕ) → IsFound nfa least found
    → IsFull found.limit found.keys members → s < length found.keys → c < length least
    → ((q : ℕ) → Contains members q ↔ Stepped nfa (set_at found.keys s) (slice_index_or least c 0) q)
    → IsPast nfa found.starts least found.limit
past_row nfa least found members s c so full less within same = record {
  sets = found.keys;
  entries = targets_of found;
  found = so;
  members = members;
  full = full;
  reached = inr (s, c, less, within, same);
}

-- what sets of the same members come to is the same
pub stepped_same : (nfa : Nfa) (xs ys : List ℕ) (b : ℕ) → ((q : ℕ) → Contains xs q ↔ Contains ys q) → (q : ℕ)
    → Stepped nfa xs b q ↔ Stepped nfa ys b q
stepped_same nfa xs ys b same q = (λ h. (h.0, (same h.0).0 h.1, h.2, h.3), λ h. (h.0, (same h.0).1 h.1, h.2, h.3))

pub both_ways : (P Q R : ℕ → Type 0) → ((q : ℕ) → P q ↔ Q q) → ((q : ℕ) → Q q ↔ R q) → (q : ℕ) → P q ↔ R q
both_ways P Q R f g q = (λ h. (g q).0 ((f q).0 h), λ h. (f q).1 ((g q).1 h))

-- a set that was filled has these members
pub filled : (new old : PositionSet) (list : List ℕ)
    → new ≡ record old { positions = record old.positions { members = with_members [] list } }
    → (q : ℕ) → Contains new.positions.members q ↔ Contains list q
filled new old list is q = let same = with_members-same list in
    let at : new.positions.members ≡ with_members [] list = ap (λ (s : PositionSet). s.positions.members) is in
    (λ h. same.to q (subst (λ ms. Contains ms q) at h), λ h. subst (λ ms. Contains ms q) (sym at) (same.back q h))

-- and room as before
pub filled_room : (nfa : Nfa) (new old : PositionSet) (list : List ℕ)
    → new ≡ record old { positions = record old.positions { members = with_members [] list } }
    → IsRoomFor nfa old → IsRoomFor nfa new
filled_room nfa new old list is room = record {
  positions = ap (λ (s : PositionSet). s.positions.below) is ∙ room.positions;
  forks = ap (λ (s : PositionSet). s.forks.below) is ∙ room.forks;
}

-- a rising list that isn't empty is its own key
pub key_of_itself : (set : List ℕ) → IsKeptSet set → IsKeyOf set set
key_of_itself set so = record { same = λ q. (λ h. h, λ h. h); rising = so.rising }

-- and a key that has a member is kept as a set
pub set_of_key : (members key : List ℕ) → IsKeyOf members key → (q : ℕ) × Contains members q → IsKeptSet key
set_of_key members key so some = record { some = (some.0, (so.same some.0).1 some.1); rising = so.rising }

pub key_within : (below : ℕ) (members key : List ℕ) → IsKeyOf members key → All (λ p. p < below) members
    → All (λ p. p < below) key
key_within below members key so within i d l = All-contains (λ p. p < below) members (slice_index_or key i d) within
    ((so.same (slice_index_or key i d)).0 (Contains-get_or key i d l))

-- what was entered, and what was full, said of the same members otherwise
pub entered_same : (old new : Found) (members others : List ℕ) → ((q : ℕ) → Contains members q ↔ Contains others q)
    → IsEntered old members new → IsEntered old others new
entered_same old new members others same so = record {
  entry = so.entry;
  numbered = record {
    more = so.numbered.more;
    grown = so.numbered.grown;
    state = state_same new.keys (Contains members) (Contains others) so.entry same so.numbered.state;
    fresh = so.numbered.fresh;
  };
  appended = so.appended;
}

pub full_same : (limit : ℕ) (sets : List (List ℕ)) (members others : List ℕ)
    → ((q : ℕ) → Contains members q ↔ Contains others q) → IsFull limit sets members → IsFull limit sets others
full_same limit sets members others same so = record {
  full = so.full;
  some = (so.some.0, (same so.some.0).0 so.some.1);
  other = λ s l e. so.other s l (λ q. (λ h. (same q).1 ((e q).0 h), λ h. (e q).1 ((same q).0 h)));
}

pub on_ok_one : {T E : Type 0} (r : Result T E) {P Q : Type 0} → OnOk r P → (P → Q) → OnOk r Q
on_ok_one (Ok x) p f = f p
on_ok_one (Err x) p f = tt

-- what follows from what holds at Ok
pub on_ok_both : {T E : Type 0} (r : Result T E) {P Q R : Type 0} → OnOk r P → OnOk r Q → (P → Q → R) → OnOk r R
on_ok_both (Ok x) p q f = f p q
on_ok_both (Err x) p q f = tt
