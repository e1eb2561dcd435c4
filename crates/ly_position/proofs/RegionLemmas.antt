-- The steps of one rule in the program of numbered patterns: the end mark, and the places where its numbers are read.
use Rattle.std.proofs.Common.{◌≡◌, ◌⊎◌, inl, inr, ℕ, suc, ◌+◌, ◌<◌, ◌≤◌, List, [], ◌∷◌, ◌++◌, true, Some, refl, sym}
use Rattle.std.proofs.Common.{ap, subst, ◌∙◌, arith, append_assoc, append-nil}
use Rattle.std.specs.Prelude.{Contains, slice_get}
use Rattle.std.proofs.lemmas.Bool.{cases_eq}
use Rattle.ly_base.proofs.MemberLemmas.{Contains-first, Contains-one}
use Rattle.ly_ere.specs.Expression.{Expression, MatchesUnder}
use Rattle.ly_position.specs.Written.{Plain, Member}
use Rattle.ly_position.specs.Numbered.{set_count, numbered, Path, IsPosition, ComesFirst, ComesAfter}
use Rattle.ly_position.specs.Private.Link.{is_position}
use Rattle.ly_position.specs.Private.Program.{ProgramStep, reads, fork, ends, Runs, at_end, by_read, by_first}
use Rattle.ly_position.specs.Private.Program.{by_second, size}
use Rattle.ly_position.specs.Private.Program.{entry, HasCode, IsPlainExpression}
use Rattle.ly_position.specs.Private.Reach.{LeadsBelow, LeadsFrom, Reached, at_root, to_first, to_second}
use Rattle.ly_position.specs.Private.Slim.{slim}
use Rattle.ly_position.proofs.CodeLaws.{CanRun, at_read, at_stop, sound, complete, entry_below, entry_from}
use Rattle.ly_position.proofs.CodePlaces.{IsMove, StepsTo, from_entry, leads, reaches, stands}
use Rattle.ly_position.proofs.JoinedLemmas.{Same}
use Rattle.ly_position.proofs.LabelLemmas.{Label, label, label_once}
use Rattle.ly_position.proofs.NumberedLemmas.{path_end}
use Rattle.ly_position.proofs.RunLemmas.{from_root, settles}
use Rattle.ly_position.proofs.SlimNumbers.{IsLinear, Strings, linear_plain, slim_linear, slim_strings}
use Rattle.ly_position.proofs.SplitLemmas.{split, alone, no_end}

-- The number of a step between base and top: that of the end mark at base, and behind it what is read.
abbrev pub IsNumberOf : List ProgramStep → ℕ → ℕ → ℕ → ℕ → ℕ → Type 0
IsNumberOf g base top count p k = ((p ≡ base) × (k ≡ count))
    ⊎ ((base < p) × (p < top) × (next : ℕ) × (slice_get g p ≡ Some (reads (k ∷ []) next)))

-- a step has one number
pub number_one : (g : List ProgramStep) (base top count p k l : ℕ) → IsNumberOf g base top count p k
    → IsNumberOf g base top count p l → k ≡ l
number_one g base top count p k l (inl a) (inl b) = a.1 ∙ sym b.1
number_one g base top count p k l (inl a) (inr b) = absurd (omega (arith, a.0, b.0))
number_one g base top count p k l (inr a) (inl b) = absurd (omega (arith, a.0, b.0))
number_one g base top count p k l (inr a) (inr b) = let x = a.3 in let y = b.3 in cc

-- the same between the same steps
pub number_moved : (g : List ProgramStep) (base top count base' top' count' p k : ℕ) → base ≡ base' → top ≡ top'
    → count ≡ count' → IsNumberOf g base top count p k → IsNumberOf g base' top' count' p k
number_moved g base top count base' top' count' p k a b c (inl h) = inl (h.0 ∙ a, h.1 ∙ c)
number_moved g base top count base' top' count' p k a b c (inr h)
    = inr (omega (arith, h.0), omega (arith, h.1), h.2, h.3)

module _ (g : List ProgramStep) (i base : ℕ) (e : Expression) (r : Plain) (is : slim (numbered r 0) ≡ Some e)
    (stop : slice_get g base ≡ Some (ends i)) (has : HasCode g e (base + 1) base) where
  abbrev start : ℕ
  start = entry (base + 1) (size e) base

  abbrev top : ℕ
  top = base + (size e + 1)

  abbrev Numbers : ℕ → ℕ → Type 0
  Numbers p k = IsNumberOf g base top (set_count r) p k

  abbrev pub IsInside : ℕ → Type 0
  IsInside p = (base ≤ p) × (p < top)

  linear : IsLinear e 0 (set_count r)
  linear = slim_linear r e is

  plain : IsPlainExpression e
  plain = linear_plain e 0 (set_count r) linear

  strings : Same (MatchesUnder (λ x v. ⊥) e) (Member (numbered r 0))
  strings = subst (λ o. Same (Strings o) (Member (numbered r 0))) is (slim_strings (numbered r 0))

  -- what runs from the start are the strings of numbers
  there : (w : List ℕ) → CanRun g i start w → Member (numbered r 0) w
  there w run =
      let x = sound g i (λ x v. ⊥) e (base + 1) base run.0 w plain has run.1 in
      let end = at_stop g i x.moves base i x.back stop x.goes in
      let whole : x.front ≡ w = sym (x.is ∙ (ap (λ z. x.front ++ z) end.1 ∙ append-nil x.front)) in
      (strings w).0 (subst (λ z. MatchesUnder (λ x v. ⊥) e z) whole x.fits)

  back : (w : List ℕ) → Member (numbered r 0) w → CanRun g i start w
  back w m = subst (λ z. CanRun g i start z) (append-nil w)
      (complete g i (λ x v. ⊥) e (base + 1) base w [] plain has ((strings w).1 m) (0, at_end stop))

  pub start_inside : IsInside start
  start_inside = (
    entry_from (base + 1) (size e) base base (omega arith) (omega arith),
    entry_below (base + 1) (size e) base top (omega arith) (omega arith),
  )

  -- a step of the code
  code_stands : (p : ℕ) → (base ≡ p → ⊥) → IsInside p
      → (s : ProgramStep) × (slice_get g p ≡ Some s) × LeadsBelow top s × LeadsFrom base s × IsMove s
  code_stands p other h = stands g e (base + 1) base base top p has (omega arith) (omega arith) (omega arith)
      (omega arith) (omega (arith, h.0)) (omega (arith, h.1))

  leads_inside : (p : ℕ) (s : ProgramStep) → IsInside p → slice_get g p ≡ Some s → LeadsBelow top s × LeadsFrom base s
  leads_inside p s h at = elim (cases_eq base p) [
    | inl same ↦
        let here = subst (λ x. slice_get g x ≡ Some (ends i)) same stop in
        let one : ends i ≡ s = cc in
        subst (λ x. LeadsBelow top x × LeadsFrom base x) one (tt, tt)
    | inr other ↦
        let x = code_stands p other h in
        let one : x.0 ≡ s = let a = x.1 in cc in
        subst (λ x. LeadsBelow top x × LeadsFrom base x) one (x.2, x.3)
  ]

  -- what is reached from a step of the rule is one
  pub reached_inside : (p q : ℕ) → IsInside p → Reached g (p ∷ []) q → IsInside q
  reached_inside p q h (at_root k) = subst IsInside (Contains-one p q k) h
  reached_inside p q h (to_first {p = x} {a = a} {b = b} m at) =
      let l = leads_inside x (fork a b) (reached_inside p x h m) at in (l.1.0, l.0.0)
  reached_inside p q h (to_second {p = x} {a = a} {b = b} m at) =
      let l = leads_inside x (fork a b) (reached_inside p x h m) at in (l.1.1, l.0.1)

  pub next_inside : (p x : ℕ) (bytes : List ℕ) → IsInside p → slice_get g p ≡ Some (reads bytes x) → IsInside x
  next_inside p x bytes h at = let l = leads_inside p (reads bytes x) h at in (l.1, l.0)

  pub number_inside : (p k : ℕ) → Numbers p k → IsInside p
  number_inside p k (inl h) = (omega (arith, h.0), omega (arith, h.0))
  number_inside p k (inr h) = (omega (arith, h.0), h.1)

  label_at : (p x : ℕ) (bytes : List ℕ) → base < p → p < top → slice_get g p ≡ Some (reads bytes x)
      → Label 0 (set_count r) bytes
  label_at p x bytes l m at = label g e (base + 1) base 0 (set_count r) p x bytes has linear (omega arith) (omega arith)
      at

  -- the number of what is read is below that of the end mark
  pub below_end : (p k x : ℕ) → base < p → p < top → slice_get g p ≡ Some (reads (k ∷ []) x) → k < set_count r
  below_end p k x l m at =
      let a = label_at p x (k ∷ []) l m at in
      let same : k ≡ a.number = let f = a.is in cc in
      omega (arith, a.high)

  -- no number is that of two steps
  pub number_once : (p q k : ℕ) → Numbers p k → Numbers q k → p ≡ q
  number_once p q k (inl a) (inl b) = a.0 ∙ sym b.0
  number_once p q k (inl a) (inr b) = absurd (omega (arith, a.1, below_end q k b.2 b.0 b.1 b.3))
  number_once p q k (inr a) (inl b) = absurd (omega (arith, b.1, below_end p k a.2 a.0 a.1 a.3))
  number_once p q k (inr a) (inr b) = label_once g e (base + 1) base 0 (set_count r) k p q a.2 b.2 has linear
      (omega (arith, a.0)) (omega (arith, a.1)) (omega (arith, b.0)) (omega (arith, b.1)) a.3 b.3

  -- an end mark is that of the rule, at the base
  pub end_at : (p j : ℕ) → IsInside p → slice_get g p ≡ Some (ends j) → (p ≡ base) × (i ≡ j)
  end_at p j h at = elim (cases_eq base p) [
    | inl same ↦
        let here = subst (λ x. slice_get g x ≡ Some (ends i)) same stop in (sym same, let one : i ≡ j = cc in one)
    | inr other ↦
        let x = code_stands p other h in
        let one : x.0 ≡ ends j = let a = x.1 in cc in
        absurd (subst IsMove one x.4)
  ]

  -- each step that is no fork has a number
  pub number_at : (p : ℕ) (s : ProgramStep) → IsInside p → slice_get g p ≡ Some s → is_position s ≡ true
      → (k : ℕ) × Numbers p k
  number_at p (ends j) h at passes = (set_count r, inl ((end_at p j h at).0, refl))
  number_at p (fork a b) h at passes = cc
  number_at p (reads bytes x) h at passes = elim (cases_eq base p) [
    | inl same ↦ let here = subst (λ y. slice_get g y ≡ Some (ends i)) same stop in absurd cc
    | inr other ↦
        let lab = label_at p x bytes (omega (arith, h.0)) h.1 at in (
          lab.number,
          inr (
            omega (arith, h.0),
            h.1,
            x,
            subst (λ b. slice_get g p ≡ Some (reads b x)) lab.is at,
          ),
        )
  ]

  -- each step leads to the end mark, and is reached from the start
  live : (p : ℕ) → IsInside p → (zs : List ℕ) × CanRun g i p zs
  live p h = elim (cases_eq base p) [
    | inl same ↦ ([], subst (λ x. CanRun g i x []) same (0, at_end stop))
    | inr other ↦
        let x = leads g i e (base + 1) base p plain has (omega (arith, h.0)) (omega (arith, h.1)) in
        (x.0 ++ [], x.1 [] (0, at_end stop))
  ]

  reach : (p : ℕ) → IsInside p → StepsTo g i start p
  reach p h = elim (cases_eq base p) [
    | inl same ↦ subst (StepsTo g i start) same (from_entry g i (base + 1) (size e) base
        (λ q l m. leads g i e (base + 1) base q plain has l m))
    | inr other ↦ reaches g i e (base + 1) base p plain has (omega (arith, h.0)) (omega (arith, h.1))
  ]

  -- a run from a step with a number, as the end of a path
  record Onward (p k : ℕ) : Type 0 where
    numbers : List ℕ
    rest : List ℕ
    goes : CanRun g i p numbers
    path : numbers ++ set_count r ∷ [] ≡ k ∷ rest

  onward : (p k : ℕ) → Numbers p k → Onward p k
  onward p k (inl h) = record {
    numbers = [];
    rest = [];
    goes = subst (λ x. CanRun g i x []) (sym h.0) (0, at_end stop);
    path = ap (λ z. z ∷ []) (sym h.1);
  }
  onward p k (inr h) =
      let l = live h.2 (next_inside p h.2 (k ∷ []) (omega (arith, h.0), h.1) h.3) in
      record {
        numbers = k ∷ l.0;
        rest = l.0 ++ set_count r ∷ [];
        goes = (suc l.1.0, by_read h.3 (Contains-first k []) l.1.1);
        path = refl;
      }

  -- a path from a run from the start
  path_of : (us vs ws : List ℕ) → CanRun g i start (us ++ vs) → vs ++ set_count r ∷ [] ≡ ws → Path r (us ++ ws)
  path_of us vs ws run eq = (
    us ++ vs,
    there (us ++ vs) run,
    ap (λ z. us ++ z) (sym eq) ∙ sym (append_assoc us vs (set_count r ∷ [])),
  )

  pub position : (p k : ℕ) → Numbers p k → IsPosition r k
  position p k h =
      let o = onward p k h in
      let u = reach p (number_inside p k h) in
      (u.0, o.rest, path_of u.0 o.numbers (k ∷ o.rest) (u.1 o.numbers o.goes) o.path)

  -- what a run that is the end of a path comes to first
  at_number : (p m : ℕ) (zs rest : List ℕ) (l : ℕ) (s : ProgramStep) → IsInside p → slice_get g p ≡ Some s
      → is_position s ≡ true → Runs g i m p zs → zs ++ set_count r ∷ [] ≡ l ∷ rest → Numbers p l
  at_number p m zs rest l (ends j) h at passes run eq = elim (cases_eq base p) [
    | inl same ↦
        let none : zs ≡ [] = (at_stop g i m p j zs at run).1 in
        let one : set_count r ∷ [] ≡ l ∷ rest = ap (λ z. z ++ set_count r ∷ []) (sym none) ∙ eq in
        inl (sym same, let two : set_count r ≡ l = cc in sym two)
    | inr other ↦
        let x = code_stands p other h in
        let one : x.0 ≡ ends j = let a = x.1 in cc in
        absurd (subst IsMove one x.4)
  ]
  at_number p m zs rest l (fork a b) h at passes run eq = cc
  at_number p m zs rest l (reads bytes x) h at passes run eq = elim (cases_eq base p) [
    | inl same ↦ let here = subst (λ y. slice_get g y ≡ Some (ends i)) same stop in absurd cc
    | inr other ↦
        let a = at_read g i m p x bytes zs at run in
        let lab = label_at p x bytes (omega (arith, h.0)) h.1 at in
        let first : (a.1 ∷ a.2) ++ set_count r ∷ [] ≡ l ∷ rest
        = ap (λ z. z ++ set_count r ∷ []) (sym a.4) ∙ eq in
        let byte : a.1 ≡ l = cc in
        let same : lab.number ≡ l
        = Contains-one lab.number a.1 (subst (λ b. Contains b a.1) lab.is a.5) ∙ byte in
        inr (
          omega (arith, h.0),
          h.1,
          x,
          subst (λ n. slice_get g p ≡ Some (reads (n ∷ []) x)) same
              (subst (λ b. slice_get g p ≡ Some (reads b x)) lab.is at),
        )
  ]

  settled : (x l : ℕ) (zs rest : List ℕ) → IsInside x → CanRun g i x zs → zs ++ set_count r ∷ [] ≡ l ∷ rest
      → (q : ℕ) × Reached g (x ∷ []) q × Numbers q l
  settled x l zs rest h run eq =
      let s = settles g i run.0 x zs run.1 in
      let inside = reached_inside x s.place h s.reached in
      (s.place, s.reached, at_number s.place s.moves zs rest l s.step inside s.is s.position s.goes eq)

  -- a run over a number passes a step that has it
  record Pass (k : ℕ) (rest : List ℕ) : Type 0 where
    place : ℕ
    next : ℕ
    low : base < place
    high : place < top
    at : slice_get g place ≡ Some (reads (k ∷ []) next)
    goes : CanRun g i next rest

  pass_here : (p x c k m : ℕ) (bytes v rest : List ℕ) → IsInside p → slice_get g p ≡ Some (reads bytes x)
      → Contains bytes c → Runs g i m x v → c ≡ k → v ≡ rest → Pass k rest
  pass_here p x c k m bytes v rest h at con run same eq = elim (cases_eq base p) [
    | inl e ↦ let here = subst (λ y. slice_get g y ≡ Some (ends i)) e stop in absurd cc
    | inr other ↦
        let lab = label_at p x bytes (omega (arith, h.0)) h.1 at in
        let number : lab.number ≡ k
        = Contains-one lab.number c (subst (λ b. Contains b c) lab.is con) ∙ same in
        record {
          place = p;
          next = x;
          low = omega (arith, h.0);
          high = h.1;
          at = subst (λ n. slice_get g p ≡ Some (reads (n ∷ []) x)) number
              (subst (λ b. slice_get g p ≡ Some (reads b x)) lab.is at);
          goes = (m, subst (Runs g i m x) eq run);
        }
  ]

  passes : (p m : ℕ) (w xs rest : List ℕ) (k : ℕ) → IsInside p → Runs g i m p w → w ≡ xs ++ k ∷ rest → Pass k rest
  passes p m w xs rest k h (at_end at) eq = absurd (no_end xs rest k (sym eq))
  passes p m w [] rest k h (by_read {n = n} {b = c} {q = x} {bytes = bytes} {w = v} at con run) eq =
      let same : c ≡ k = cc in
      let tail : v ≡ rest = cc in
      pass_here p x c k n bytes v rest h at con run same tail
  passes p m w (y ∷ xs) rest k h (by_read {n = n} {b = c} {q = x} {bytes = bytes} {w = v} at con run) eq =
      let tail : v ≡ xs ++ k ∷ rest = cc in
      passes x n v xs rest k (next_inside p x bytes h at) run tail
  passes p m w xs rest k h (by_first {n = n} {a = a} {b = b} at run) eq =
      let l = leads_inside p (fork a b) h at in passes a n w xs rest k (l.1.0, l.0.0) run eq
  passes p m w xs rest k h (by_second {n = n} {a = a} {b = b} at run) eq =
      let l = leads_inside p (fork a b) h at in passes b n w xs rest k (l.1.1, l.0.1) run eq

  pass_start : (js xs rest : List ℕ) (k : ℕ) → Member (numbered r 0) js → js ≡ xs ++ k ∷ rest → Pass k rest
  pass_start js xs rest k m eq = let run = back js m in passes start run.0 js xs rest k start_inside run.1 eq

  -- each position is the number of a step
  pub each : (k : ℕ) → IsPosition r k → (p : ℕ) × Numbers p k
  each k h = elim (split h.2.0 (set_count r ∷ []) h.0 h.1 k h.2.2) [
    | inl a ↦ let p = pass_start h.2.0 h.0 a.more k h.2.1 a.first in (p.place, inr (p.low, p.high, p.next, p.at))
    | inr a ↦ (base, inl (refl, (alone a.less h.1 k (set_count r) (sym a.second)).1))
  ]

  -- what can come first, and what next, is what forks lead to
  pub first : (q l : ℕ) → Reached g (start ∷ []) q → Numbers q l → ComesFirst r l
  first q l reached h =
      let o = onward q l h in
      let x = from_root g i (start ∷ []) q o.numbers reached o.goes in
      let run : CanRun g i start o.numbers = subst (λ y. CanRun g i y o.numbers) (sym (Contains-one start x.0 x.1)) x.2
      in (o.rest, path_of [] o.numbers (l ∷ o.rest) run o.path)

  pub first_back : (l : ℕ) → ComesFirst r l → (q : ℕ) × Reached g (start ∷ []) q × Numbers q l
  first_back l h = settled start l h.1.0 h.0 start_inside (back h.1.0 h.1.1) (sym h.1.2)

  pub after : (p k x q l : ℕ) → IsInside p → slice_get g p ≡ Some (reads (k ∷ []) x) → Reached g (x ∷ []) q
      → Numbers q l → ComesAfter r k l
  after p k x q l inside at reached h =
      let o = onward q l h in
      let y = from_root g i (x ∷ []) q o.numbers reached o.goes in
      let run : CanRun g i x o.numbers = subst (λ z. CanRun g i z o.numbers) (sym (Contains-one x y.0 y.1)) y.2 in
      let u = reach p inside in
      let whole = u.1 (k ∷ o.numbers) (suc run.0, by_read at (Contains-first k []) run.1) in
      (u.0, o.rest, path_of u.0 (k ∷ o.numbers) (k ∷ l ∷ o.rest) whole (ap (λ z. k ∷ z) o.path))

  pub after_back : (p k x l : ℕ) → base < p → p < top → slice_get g p ≡ Some (reads (k ∷ []) x) → ComesAfter r k l
      → (q : ℕ) × Reached g (x ∷ []) q × Numbers q l
  after_back p k x l low high at h = elim (split h.2.0 (set_count r ∷ []) h.0 (l ∷ h.1) k h.2.2) [
    | inl a ↦
        let s = pass_start h.2.0 h.0 a.more k h.2.1 a.first in
        let same : s.place ≡ p = number_once s.place p k (inr (s.low, s.high, s.next, s.at)) (inr (low, high, x, at)) in
        let there_too : slice_get g p ≡ Some (reads (k ∷ []) s.next)
        = subst (λ y. slice_get g y ≡ Some (reads (k ∷ []) s.next)) same s.at in
        let next : s.next ≡ x = cc in
        settled x l a.more h.1 (next_inside p x (k ∷ []) (omega arith, high) at)
        (subst (λ y. CanRun g i y a.more) next s.goes) (sym a.rest)
    | inr a ↦ let none = (alone a.less (l ∷ h.1) k (set_count r) (sym a.second)).2 in absurd (no_end [] h.1 l none)
  ]

  pub none_after_end : (l : ℕ) → ComesAfter r (set_count r) l → ⊥
  none_after_end l h = no_end [] h.1 l (path_end r h.0 (l ∷ h.1) h.2).1
