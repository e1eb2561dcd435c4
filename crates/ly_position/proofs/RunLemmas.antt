-- Runs over positions are runs of the program.
use Rattle.std.proofs.Common.{◌≡◌, ℕ, suc, ◌<◌, ◌≤◌, List, [], ◌∷◌, true, length}
use Rattle.std.proofs.Common.{get_or, filter, Option, Some, refl, sym, ap, subst, ◌∙◌, arith}
use Rattle.std.specs.Prelude.{All, slice_get, Contains, option_map}
use Rattle.std.proofs.lemmas.List.{get_or_default, length-map}
use Rattle.std.proofs.lemmas.List.Elements.{Contains-get_or}
use Rattle.std.proofs.lemmas.Option.{slice_get-map}
use Rattle.std.proofs.lemmas.Slice.Zip.{AllZip-long}
use Rattle.ly_base.proofs.MemberLemmas.{Contains-first, Contains-one}
use Rattle.ly_ere.specs.declared.pattern.Rule.{Rule}
use Rattle.ly_position.specs.Private.Program.{ProgramStep, reads, fork, ends, Runs, at_end, by_read, by_first}
use Rattle.ly_position.specs.Private.Program.{by_second}
use Rattle.ly_position.specs.Private.Reach.{LeadsBelow, Reached, StaysInside, at_root, to_first, to_second}
use Rattle.ly_position.specs.Private.Link.{IsLinkOf, IsNumber, IsReachList, IsSlotOf, is_position}
use Rattle.ly_position.specs.Private.Starts.{StartsAt}
use Rattle.ly_position.specs.Nfa.{Nfa, Position, reading, ending}
use Rattle.ly_position.specs.Position.{position_in, nfa_of, reached_from}
use Rattle.ly_position.specs.Target.{TargetsExist}
use Rattle.ly_position.specs.declared.nfa.Fork.{Fork}
use Rattle.ly_position.specs.declared.nfa.Slot.{Slot}
use Rattle.ly_position.specs.declared.nfa.Slot.TheVariants as slot
use Rattle.ly_position.specs.declared.nfa.Target.{Target}
use Rattle.ly_position.proofs.CodeLaws.{CanRun}
use Rattle.ly_position.proofs.LinkLemmas.{forks_within, number_below, reach_list}
use Rattle.ly_position.proofs.LinkLemmas.{slots_within}
use Rattle.ly_position.proofs.NumberLemmas.{rank_get, zip_get}

-- a position shows its step
abbrev pub Shows : List ProgramStep → ProgramStep → Position → Type 0
Shows g (reads bytes next) (reading bs f) = (bytes ≡ bs) × IsReachList g (next ∷ []) f
Shows g (reads bytes next) (ending j) = ⊥
Shows g (fork a b) pl = ⊥
Shows g (ends i) (reading bs f) = ⊥
Shows g (ends i) (ending j) = i ≡ j

-- runs at a step that is reached are runs at a root
module _ (g : List ProgramStep) (i : ℕ) where
  pub from_root : (roots : List ℕ) (p : ℕ) (w : List ℕ) → Reached g roots p → CanRun g i p w
      → (e : ℕ) × Contains roots e × CanRun g i e w
  from_root roots p w (at_root k) r = (p, k, r)
  from_root roots p w (to_first {p = q} x e) r = from_root roots q w x (suc r.0, by_first e r.1)
  from_root roots p w (to_second {p = q} x e) r = from_root roots q w x (suc r.0, by_second e r.1)

  -- a run that begins anywhere comes to a position without reading
  pub record Settles (e n : ℕ) (w : List ℕ) : Type 0 where
    pub place : ℕ
    pub step : ProgramStep
    pub moves : ℕ
    pub reached : Reached g (e ∷ []) place
    pub is : slice_get g place ≡ Some step
    pub position : is_position step ≡ true
    pub fewer : moves ≤ n
    pub goes : Runs g i moves place w

  reached_first : (e a b p : ℕ) → slice_get g e ≡ Some (fork a b) → Reached g (a ∷ []) p → Reached g (e ∷ []) p
  reached_first e a b p h (at_root k) = subst (λ x. Reached g (e ∷ []) x) (Contains-one a p k)
      (to_first (at_root (Contains-first e [])) h)
  reached_first e a b p h (to_first r k) = to_first (reached_first e a b _ h r) k
  reached_first e a b p h (to_second r k) = to_second (reached_first e a b _ h r) k

  reached_second : (e a b p : ℕ) → slice_get g e ≡ Some (fork a b) → Reached g (b ∷ []) p → Reached g (e ∷ []) p
  reached_second e a b p h (at_root k) = subst (λ x. Reached g (e ∷ []) x) (Contains-one b p k)
      (to_second (at_root (Contains-first e [])) h)
  reached_second e a b p h (to_first r k) = to_first (reached_second e a b _ h r) k
  reached_second e a b p h (to_second r k) = to_second (reached_second e a b _ h r) k

  pub settles : (n e : ℕ) (w : List ℕ) → Runs g i n e w → Settles e n w
  settles n e w (at_end k) = record {
    place = e;
    step = ends i;
    moves = 0;
    reached = at_root (Contains-first e []);
    is = k;
    position = refl;
    fewer = omega arith;
    goes = at_end k;
  }
  settles n e w (by_read {n = m} {b = b} {q = q} {bytes = bytes} {w = v} k c r) =
      record {
        place = e;
        step = reads bytes q;
        moves = suc m;
        reached = at_root (Contains-first e []);
        is = k;
        position = refl;
        fewer = omega arith;
        goes = by_read k c r;
      }
  settles n e w (by_first {n = m} {a = a} {b = b} k r) =
      let s : Settles a m w = settles m a w r in
      record {
        place = s.place;
        step = s.step;
        moves = s.moves;
        reached = reached_first e a b s.place k s.reached;
        is = s.is;
        position = s.position;
        fewer = omega (arith, s.fewer);
        goes = s.goes;
      }
  settles n e w (by_second {n = m} {a = a} {b = b} k r) =
      let s : Settles b m w = settles m b w r in
      record {
        place = s.place;
        step = s.step;
        moves = s.moves;
        reached = reached_second e a b s.place k s.reached;
        is = s.is;
        position = s.position;
        fewer = omega (arith, s.fewer);
        goes = s.goes;
      }

module _ (g : List ProgramStep) (targets : List Target) (slots : List Slot) (forks : List Fork) (starts : List (List ℕ))
    (inside : StaysInside g) (linked : IsLinkOf g targets slots forks) where
  abbrev pub nfa : Nfa
  nfa = nfa_of slots forks starts

  slot_shows : (s : ProgramStep) (x : Slot) → LeadsBelow (length g) s → IsSlotOf g s x
      → Shows g s (position_in (length slots) forks x)
  slot_shows (reads bytes next) (slot.Reads b t) below is = (
    is.0,
    subst (λ u. IsReachList g (next ∷ []) (reached_from (length slots) forks u)) (sym is.1)
        (reach_list g targets slots forks inside linked next below),
  )
  slot_shows (reads bytes next) (slot.Ends r) below is = is
  slot_shows (fork a b) x below is = absurd is
  slot_shows (ends i) (slot.Reads b t) below is = is
  slot_shows (ends i) (slot.Ends r) below is = is

  -- what a number shows
  pub record Shown (p q : ℕ) : Type 0 where
    pub step : ProgramStep
    pub shape : Position
    pub is : slice_get g p ≡ Some step
    pub at : slice_get nfa.positions q ≡ Some shape
    pub shows : Shows g step shape

  pub shown : (p q : ℕ) → IsNumber g p q → Shown p q
  shown p q n =
      let here = subst (λ k. slice_get (filter is_position g) k ≡ Some n.step) n.is_rank
      (rank_get is_position g p n.step n.is_step n.reads_or_ends) in
      let z = zip_get (IsSlotOf g) (filter is_position g) slots q n.step linked.slots_are here in
      record {
        step = n.step;
        shape = position_in (length slots) forks z.0;
        is = n.is_step;
        at = slice_get-map (position_in (length slots) forks) slots q
            ∙ ap (option_map (position_in (length slots) forks)) z.1;
        shows = slot_shows n.step z.0 (inside p n.step n.is_step) z.2;
      }

  pub count : length nfa.positions ≡ length (filter is_position g)
  count = length-map slots (position_in (length slots) forks)
      ∙ AllZip-long (IsSlotOf g) (filter is_position g) slots linked.slots_are

  pub reach_below : (roots list : List ℕ) → IsReachList g roots list → All (λ q. q < length slots) list
  reach_below roots list h k d l =
      let r = (h.members (get_or list k d)).0 (Contains-get_or list k d l) in
      number_below g targets slots forks inside linked r.0 (get_or list k d) r.2

  -- all targets and all members of start lists are there
  pub all_exist : (rules : List Rule) (entries : List (Option ℕ)) (conditions : ℕ)
      → StartsAt g rules entries conditions starts → TargetsExist slots forks starts
  all_exist rules entries conditions begins = record {
    within = record {
      reads = slots_within g targets slots forks inside linked;
      forks_within = forks_within g targets slots forks inside linked;
    };
    starts_within = λ k d l. let r = begins.each k l
        in subst (λ xs. All (λ q. q < length slots) xs) (get_or_default starts k [] d l)
        (reach_below r.0 (get_or starts k []) r.1);
  }
