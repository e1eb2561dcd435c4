-- The numbers of the positions and of the forks of a program.
use Rattle.std.proofs.Common.{◌≡◌, inl, inr, ℕ, zero, suc, ◌+◌, ◌<◌, List, [], ◌∷◌, ◌++◌, Bool, true, false, Some}
use Rattle.std.proofs.Common.{filter, length, get_or, take, map, refl, sym, ap, subst, ◌∙◌, arith, append-nil}
use Rattle.std.proofs.Common.{length-append}
use Rattle.std.specs.Prelude.{if◌then◌else◌, option_map, slice_get}
use Rattle.std.specs.List.{AllZip}
use Rattle.std.proofs.lemmas.Bool.{cases_Bool, cases_lt}
use Rattle.std.proofs.lemmas.List.{get_or_append_left, get_or_push, map_more}
use Rattle.std.proofs.lemmas.List.Elements.{filter-append}
use Rattle.std.proofs.lemmas.List.Filters.{length-filter_more}
use Rattle.std.proofs.lemmas.Option.{get_or_from_slice_get, slice_get-get_or, slice_get-map, slice_get_within}
use Rattle.ly_base.specs.declared.byte_set.ByteSet.{ByteSet}
use Rattle.ly_position.specs.Private.Link.{AreTargets, IsForkOf, IsSlotOf, is_fork, is_position, rank, target_of}
use Rattle.ly_position.specs.Private.Program.{ProgramStep, reads, fork, ends, step_of}
use Rattle.ly_position.specs.declared.nfa.Fork as nfa
use Rattle.ly_position.specs.declared.nfa.Slot.{Slot}
use Rattle.ly_position.specs.declared.nfa.Target.{Target}
use Rattle.ly_position.specs.declared.nfa.Target.TheVariants as target
use Rattle.ly_position.specs.Private.Reach.{StaysInside}
use Rattle.ly_position.specs.declared.program.Instruction.{Instruction}
use Rattle.ly_position.specs.declared.program.Instruction.TheVariants.{Read, Fork, End}

-- what stands at a place
pub get-map_at : {A B : Type 0} (f : A → B) (xs : List A) (i : ℕ) (d x : A) → i < length xs → get_or xs i d ≡ x
    → slice_get (map f xs) i ≡ Some (f x)
get-map_at f xs i d x l e = slice_get-map f xs i ∙ ap (option_map f) (slice_get-get_or xs i d l ∙ ap (λ y. Some y) e)

module _ (test : ProgramStep → Bool) where
  -- a step that passes stands at its rank among those that do
  pub rank_get : (g : List ProgramStep) (p : ℕ) (s : ProgramStep) → slice_get g p ≡ Some s → test s ≡ true
      → slice_get (filter test g) (rank test g p) ≡ Some s
  rank_get [] p s e passes = cc
  rank_get (x ∷ g) zero s e passes =
      let same : x ≡ s = cc in
      let here : test x ≡ true = ap test same ∙ passes in
      rw here (ap (λ y. Some y) same)
  rank_get (x ∷ g) (suc p) s e passes = elim (cases_Bool (test x)) [
    | inl here ↦ rw here (rank_get g p s e passes)
    | inr not ↦ rw not (rank_get g p s e passes)
  ]

  -- and what stands among these is a step of that rank
  pub rank_each : (g : List ProgramStep) (n : ℕ) (s : ProgramStep) → slice_get (filter test g) n ≡ Some s
      → (p : ℕ) × (slice_get g p ≡ Some s) × (test s ≡ true) × (rank test g p ≡ n)
  rank_each [] n s e = cc
  rank_each (x ∷ g) zero s e = elim (cases_Bool (test x)) [
    | inl here ↦
        let at : Some x ≡ Some s = rw here at e in
        (0, at, (let same : x ≡ s = cc in ap test (sym same) ∙ here), refl)
    | inr not ↦ let r = rank_each g zero s (rw not at e) in (suc r.0, r.1, r.2, rw not r.3)
  ]
  rank_each (x ∷ g) (suc n) s e = elim (cases_Bool (test x)) [
    | inl here ↦ let r = rank_each g n s (rw here at e) in (suc r.0, r.1, r.2, rw here (ap suc r.3))
    | inr not ↦ let r = rank_each g (suc n) s (rw not at e) in (suc r.0, r.1, r.2, rw not r.3)
  ]

  pub rank_more : (g : List ProgramStep) (p : ℕ) (s : ProgramStep) → slice_get g p ≡ Some s
      → rank test g (p + 1) ≡ rank test g p + (if test s then 1 else 0)
  rank_more g p s e = length-filter_more test g p s (slice_get_within g p s e)
      ∙ ap (λ x. rank test g p + (if test x then 1 else 0)) (get_or_from_slice_get g p s s e)

  pub kept_push : (g h : List ProgramStep) (s : ProgramStep) → h ≡ g ++ s ∷ [] → test s ≡ true
      → filter test h ≡ filter test g ++ s ∷ []
  kept_push g h s is passes = rw (is, filter-append test g (s ∷ []), passes) refl

  pub kept_skip : (g h : List ProgramStep) (s : ProgramStep) → h ≡ g ++ s ∷ [] → test s ≡ false → filter test h
      ≡ filter test g
  kept_skip g h s is fails = rw (is, filter-append test g (s ∷ []), fails) (append-nil (filter test g))

no_fork : (s : ProgramStep) → is_position s ≡ true → is_fork s ≡ false
no_fork (reads bytes q) e = refl
no_fork (fork a b) e = cc
no_fork (ends i) e = refl

-- a step that is a position, as a target
pub position_target : (g : List ProgramStep) (p : ℕ) (s : ProgramStep) → slice_get g p ≡ Some s → is_position s ≡ true
    → target_of g p ≡ target.Position (rank is_position g p)
position_target g p (reads bytes q) e passes = rw e refl
position_target g p (fork a b) e passes = cc
position_target g p (ends i) e passes = rw e refl

pub not_fork : (n : Instruction) → ((a b : ℕ) → n ≡ Fork a b → ⊥) → is_position (step_of n) ≡ true
not_fork (Read bytes q) h = refl
not_fork (Fork a b) h = absurd (h a b refl)
not_fork (End r) h = refl

-- what the first steps are, and how many of them are positions and forks
pub record Numbered (g : List ProgramStep) (n : ℕ) (targets : List Target) (positions forks : ℕ) : Type 0 where
  pub count : length targets ≡ n
  pub each : (p : ℕ) → p < n → slice_get targets p ≡ Some (target_of g p)
  pub position_count : positions ≡ rank is_position g n
  pub fork_count : forks ≡ rank is_fork g n

module _ (g : List ProgramStep) (n : ℕ) (ts : List Target) (ps fs : ℕ) (h : Numbered g n ts ps fs) where
  each_more : (t : Target) → t ≡ target_of g n → (p : ℕ) → p < n + 1 → slice_get (ts ++ t ∷ []) p ≡ Some (target_of g p)
  each_more t is p less = elim (cases_lt p n) [
    | inl below ↦
        there p less (get_or_append_left ts (t ∷ []) t p (omega (arith, h.count))
        ∙ get_or_from_slice_get ts p (target_of g p) t (h.each p below))
    | inr past ↦
        let same : p ≡ n = omega arith in
        there p less (get_or_push ts t t p (h.count ∙ sym same) ∙ is ∙ ap (target_of g) (sym same))
  ]
    where
      there : (p : ℕ) → p < n + 1 → get_or (ts ++ t ∷ []) p t ≡ target_of g p
          → slice_get (ts ++ t ∷ []) p ≡ Some (target_of g p)
      there p less e = slice_get-get_or (ts ++ t ∷ []) p t (omega (arith, h.count, length-append ts (t ∷ [])))
          ∙ ap (λ x. Some x) e

  pub numbered_fork : (ts' : List Target) (fs' a b : ℕ) → slice_get g n ≡ Some (fork a b)
      → ts' ≡ ts ++ target.Fork fs ∷ [] → fs' ≡ fs + 1 → Numbered g (n + 1) ts' ps fs'
  numbered_fork ts' fs' a b e is more = rw is (record {
    count = length-append ts (target.Fork fs ∷ []) ∙ omega (arith, h.count);
    each = each_more (target.Fork fs) (rw e (ap target.Fork h.fork_count));
    position_count = h.position_count ∙ (let k = rank_more is_position g n (fork a b) e in omega arith);
    fork_count = more ∙ (let k = rank_more is_fork g n (fork a b) e in omega (arith, h.fork_count));
  })

  pub numbered_position : (ts' : List Target) (ps' : ℕ) (s : ProgramStep) → slice_get g n ≡ Some s → is_position s
      ≡ true
      → ts' ≡ ts ++ target.Position ps ∷ [] → ps' ≡ ps + 1 → Numbered g (n + 1) ts' ps' fs
  numbered_position ts' ps' s e passes is more = rw is (record {
    count = length-append ts (target.Position ps ∷ []) ∙ omega (arith, h.count);
    each = each_more (target.Position ps)
        (sym (position_target g n s e passes ∙ ap target.Position (sym h.position_count)));
    position_count
        = more ∙ (let k = rank_more is_position g n s e ∙ ap (λ b. rank is_position g n + (if b then 1 else 0))
        passes in omega (arith, h.position_count));
    fork_count = h.fork_count ∙ (let k = rank_more is_fork g n s e ∙ ap (λ b. rank is_fork g n + (if b then 1 else 0))
        (no_fork s passes) in omega arith);
  })

pub numbered_all : (g : List ProgramStep) (n : ℕ) (ts : List Target) (ps fs : ℕ) → Numbered g n ts ps fs → n ≡ length g
    → AreTargets g ts
numbered_all g n ts ps fs h all = record {
  count = h.count ∙ all;
  each = λ p less. h.each p (omega arith);
}

pub steps_more : (code : List Instruction) (i : ℕ) (d n : Instruction) → i < length code → get_or code i d ≡ n
    → map step_of (take (i + 1) code) ≡ map step_of (take i code) ++ step_of n ∷ []
steps_more code i d n l e = map_more step_of code i d l ∙ ap (λ x. map step_of (take i code) ++ step_of x ∷ []) e

module _ {A B : Type 0} (R : A → B → Type 0) where
  pub zip_push : (xs : List A) (ys : List B) (x : A) (y : B) → AllZip R xs ys → R x y
      → AllZip R (xs ++ x ∷ []) (ys ++ y ∷ [])
  zip_push [] [] x y h r = (r, tt)
  zip_push [] (b ∷ ys) x y h r = absurd h
  zip_push (a ∷ xs) [] x y h r = absurd h
  zip_push (a ∷ xs) (b ∷ ys) x y h r = (h.0, zip_push xs ys x y h.1 r)

  pub zip_get : (xs : List A) (ys : List B) (i : ℕ) (x : A) → AllZip R xs ys → slice_get xs i ≡ Some x
      → (y : B) × (slice_get ys i ≡ Some y) × R x y
  zip_get [] ys i x h e = cc
  zip_get (a ∷ xs) [] i x h e = absurd h
  zip_get (a ∷ xs) (b ∷ ys) zero x h e = let one : a ≡ x = cc in (b, refl, subst (λ z. R z b) one h.0)
  zip_get (a ∷ xs) (b ∷ ys) (suc i) x h e = zip_get xs ys i x h.1 e

-- the slots and the forks of the first steps
pub record LinkedBefore (g h : List ProgramStep) (slots : List Slot) (forks : List nfa.Fork) : Type 0 where
  pub slots_are : AllZip (IsSlotOf g) (filter is_position h) slots
  pub forks_are : AllZip (IsForkOf g) (filter is_fork h) forks

module _ (g h h' : List ProgramStep) (slots slots' : List Slot) (forks forks' : List nfa.Fork) (s : ProgramStep)
    (before : LinkedBefore g h slots forks) (more : h' ≡ h ++ s ∷ []) where
  pub linked_position : (x : Slot) → is_position s ≡ true → is_fork s ≡ false → slots' ≡ slots ++ x ∷ []
      → forks' ≡ forks → IsSlotOf g s x → LinkedBefore g h' slots' forks'
  linked_position x passes fails is same fits = rw (is, same) (record {
    slots_are = rw (kept_push is_position h h' s more passes)
        (zip_push (IsSlotOf g) (filter is_position h) slots s x before.slots_are fits);
    forks_are = rw (kept_skip is_fork h h' s more fails) before.forks_are;
  })

  pub linked_fork : (f : nfa.Fork) → is_position s ≡ false → is_fork s ≡ true → slots' ≡ slots
      → forks' ≡ forks ++ f ∷ [] → IsForkOf g s f → LinkedBefore g h' slots' forks'
  linked_fork f fails passes same is fits = rw (is, same) (record {
    slots_are = rw (kept_skip is_position h h' s more fails) before.slots_are;
    forks_are = rw (kept_push is_fork h h' s more passes)
        (zip_push (IsForkOf g) (filter is_fork h) forks s f before.forks_are fits);
  })

-- what a step is, as it is looked up
pub target_there : (g : List ProgramStep) (ts : List Target) (p : ℕ) (d : Target) → AreTargets g ts → p < length g
    → get_or ts p d ≡ target_of g p
target_there g ts p d h less = get_or_from_slice_get ts p (target_of g p) d (h.each p less)

-- a program that stays inside leads to what is there
module _ (code : List Instruction) (i : ℕ) (d : Instruction) (inside : StaysInside (map step_of code))
    (less : i < length code) where
  pub read_inside : (bytes : ByteSet) (q : ℕ) → get_or code i d ≡ Read bytes q → q < length (map step_of code)
  read_inside bytes q e = inside i (step_of (Read bytes q)) (get-map_at step_of code i d (Read bytes q) less e)

  pub fork_inside : (a b : ℕ) → get_or code i d ≡ Fork a b
      → (a < length (map step_of code)) × (b < length (map step_of code))
  fork_inside a b e = inside i (step_of (Fork a b)) (get-map_at step_of code i d (Fork a b) less e)
