-- The automaton that is put together from a program has the positions of the patterns.
use Rattle.std.proofs.Common.{◌≡◌, ◌≢◌, ◌⊎◌, inl, inr, ℕ, zero, suc, ◌+◌, ◌*◌, ◌<◌, ◌≤◌, List, [], ◌∷◌, Bool, true}
use Rattle.std.proofs.Common.{length, get_or, filter, take, Option, Some, None, refl, sym, ap, subst, ◌∙◌, arith}
use Rattle.std.specs.Prelude.{◌↔◌, All, AllPairs, Contains, slice_get, option_map, if◌then◌else◌}
use Rattle.std.proofs.lemmas.Bool.{cases_Bool, cases_lt, cases_eq}
use Rattle.std.proofs.lemmas.List.{get_or_past, length-map}
use Rattle.std.proofs.lemmas.List.Elements.{All-contains}
use Rattle.std.proofs.lemmas.Option.{get_or_from_slice_get, slice_get_within}
use Rattle.ly_base.proofs.MemberLemmas.{Contains-none}
use Rattle.ly_base.proofs.ListLemmas.{some_at}
use Rattle.ly_ere.specs.Expression.{Expression}
use Rattle.ly_ere.specs.Winner.{IsActive}
use Rattle.ly_ere.specs.declared.pattern.Rule.{Rule}
use Rattle.ly_position.specs.Nfa.{Nfa, Position, reading, ending, bytes_of, follow_of, position_of, starts_of, IsEnd}
use Rattle.ly_position.specs.Nfa.{ReadsByte, Follows}
use Rattle.ly_position.specs.Numbered.{numbered, set_at, set_count, sets, IsPosition, ComesFirst, ComesAfter}
use Rattle.ly_position.specs.Patterns.{ArePositions}
use Rattle.ly_position.specs.Position.{nfa_of, position_in}
use Rattle.ly_position.specs.Spots.{Spot, IsSpot, ArePositionsOf, HasPositions}
use Rattle.ly_position.specs.Written.{Plain, one_of, pattern_written}
use Rattle.ly_position.specs.Private.Assembled.{Assembled}
use Rattle.ly_position.specs.Private.Compile.{IsProgram, RuleStands, base_of, rule_size}
use Rattle.ly_position.specs.Private.Link.{IsLinkOf, IsNumber, IsReachList, is_position, rank}
use Rattle.ly_position.specs.Private.Plain.{listed}
use Rattle.ly_position.specs.Private.Plan.{IsPlan}
use Rattle.ly_position.specs.Private.Program.{ProgramStep, reads, fork, ends, size, entry, HasCode}
use Rattle.ly_position.specs.Private.Reach.{Reached, at_root, to_first, to_second}
use Rattle.ly_position.specs.Private.Slim.{slim}
use Rattle.ly_position.specs.Private.Starts.{StartsAt}
use Rattle.ly_position.specs.declared.nfa.Fork.{Fork}
use Rattle.ly_position.specs.declared.nfa.Slot.{Slot}
use Rattle.ly_position.specs.declared.nfa.Slot.TheVariants as slot
use Rattle.ly_position.specs.declared.nfa.Target.{Target}
use Rattle.ly_position.proofs.HomeLemmas.{IsOf, home, home_one, base_below, has_some, rule_stands, same_bases}
use Rattle.ly_position.proofs.HomeLemmas.{rule_size-fill}
use Rattle.ly_position.proofs.LabelLemmas.{Twin, fill_step, size-fill, twin}
use Rattle.ly_position.proofs.LinkLemmas.{number_below, reached_from_one, reached_wider}
use Rattle.ly_position.proofs.NumberLemmas.{rank_each}
use Rattle.ly_position.proofs.NumberedLemmas.{agrees, length-sets}
use Rattle.ly_position.proofs.ProgramLemmas.{SomeProgram, some_program}
use Rattle.ly_position.proofs.ReachLemmas.{reached_from-below, reached_from-once}
use Rattle.ly_position.proofs.RegionLemmas.{IsNumberOf, number_one, number_moved, start_inside, reached_inside}
use Rattle.ly_position.proofs.RegionLemmas.{number_inside, below_end, number_once, position, each, first, first_back}
use Rattle.ly_position.proofs.RegionLemmas.{after, after_back}
use Rattle.ly_position.proofs.RegionLemmas.{none_after_end, end_at, number_at, next_inside}
use Rattle.ly_position.proofs.RunLemmas.{Shows, Shown, shown, count, reach_below}
use Rattle.ly_position.proofs.SlimNumbers.{Strings, fill, slim_fill, slim_strings}
use Rattle.ly_position.proofs.SpotLemmas.{same_spot, spells, lives}
use Rattle.ly_position.proofs.StepLemmas.{position_at, position_past}

-- two steps of one rank among those that pass a test are one
rank_once : (test : ProgramStep → Bool) (g : List ProgramStep) (p q : ℕ) (s t : ProgramStep) → slice_get g p ≡ Some s
    → slice_get g q ≡ Some t → test s ≡ true → test t ≡ true → rank test g p ≡ rank test g q → p ≡ q
rank_once test [] p q s t a b x y e = cc
rank_once test (z ∷ g) zero zero s t a b x y e = refl
rank_once test (z ∷ g) zero (suc q) s t a b x y e =
    let same : z ≡ s = cc in
    let here : test z ≡ true = ap test same ∙ x in
    let f : 0 ≡ suc (length (filter test (take q g))) = rw here at e in
    absurd (omega arith)
rank_once test (z ∷ g) (suc p) zero s t a b x y e =
    let same : z ≡ t = cc in
    let here : test z ≡ true = ap test same ∙ y in
    let f : suc (length (filter test (take p g))) ≡ 0 = rw here at e in
    absurd (omega arith)
rank_once test (z ∷ g) (suc p) (suc q) s t a b x y e = elim (cases_Bool (test z)) [
  | inl here ↦
      let f : suc (length (filter test (take p g))) ≡ suc (length (filter test (take q g))) = rw here at e in
      ap suc (rank_once test g p q s t a b x y (omega arith))
  | inr fails ↦
      let f : length (filter test (take p g)) ≡ length (filter test (take q g)) = rw fails at e in
      ap suc (rank_once test g p q s t a b x y f)
]

-- one place has one number
pub number_place : (g : List ProgramStep) (p x q : ℕ) → IsNumber g p q → IsNumber g x q → p ≡ x
number_place g p x q a b = rank_once is_position g p x a.step b.step a.is_step b.is_step a.reads_or_ends b.reads_or_ends
    (a.is_rank ∙ sym b.is_rank)

-- a rule's pattern written out, by the rule's number
abbrev plain_of : List Expression → Option Rule → Plain
plain_of names None = one_of []
plain_of names (Some r) = pattern_written names r.pattern

abbrev pattern_at : List Expression → List Rule → ℕ → Plain
pattern_at names rules i = plain_of names (slice_get rules i)

module _ (names : List Expression) (rules : List Rule) (es : List Expression) (parts : List (Option ℕ))
    (g : List ProgramStep)
    (entries : List (Option ℕ)) (conditions : ℕ) (targets : List Target) (slots : List Slot) (forks : List Fork)
    (starts : List (List ℕ)) (plan : IsPlan names rules es parts)
    (program : IsProgram (listed es parts) (length parts) g entries)
    (linked : IsLinkOf g targets slots forks) (begins : StartsAt g rules entries conditions starts) where
  abbrev made : Nfa
  made = nfa_of slots forks starts

  abbrev rule : ℕ → Option Expression
  rule = listed es parts

  abbrev pat : ℕ → Plain
  pat = pattern_at names rules

  -- the same with numbers for bytes
  abbrev other : ℕ → Option Expression
  other i = slim (numbered (pat i) 0)

  abbrev bytes_at : ℕ → ℕ → List ℕ
  bytes_at i = set_at (pat i)

  rule_fill : (i : ℕ) → i < length parts → rule i ≡ option_map (fill (bytes_at i)) (other i)
  rule_fill i l =
      let r = some_at rules i (omega (arith, plan.count)) in
      plan.each i r.0 r.1 ∙ ap (λ o. slim (plain_of names o)) (sym r.1)
      ∙ slim_fill (bytes_at i) (pat i) 0 (agrees (pat i))

  sizes : (i : ℕ) → i < length parts → rule_size (rule i) ≡ rule_size (other i)
  sizes i l = ap rule_size (rule_fill i l) ∙ rule_size-fill (bytes_at i) (other i)

  bases : (i : ℕ) → i ≤ length parts → base_of rule i ≡ base_of other i
  bases i l = same_bases rule other (length parts) sizes i l

  twins : SomeProgram other (length parts)
  twins = some_program other (length parts)

  abbrev h : List ProgramStep
  h = twins.program

  long : length g ≡ length h
  long = program.long ∙ bases (length parts) (omega arith) ∙ sym twins.is.long

  -- a rule that has an expression, in both programs
  record Stands (i : ℕ) : Type 0 where
    rule_of : Rule
    is_rule : slice_get rules i ≡ Some rule_of
    less : i < length parts
    expression : Expression
    is : slim (numbered (pattern_written names rule_of.pattern) 0) ≡ Some expression
    stop : slice_get h (base_of other i) ≡ Some (ends i)
    has : HasCode h expression (base_of other i + 1) (base_of other i)
    byte_stop : slice_get g (base_of other i) ≡ Some (ends i)
    byte_has : HasCode g (fill (bytes_at i) expression) (base_of other i + 1) (base_of other i)
    begin : get_or entries i None ≡ Some (entry (base_of other i + 1) (size expression) (base_of other i))

  standing : (i : ℕ) → i < length parts → (e : Expression) → other i ≡ Some e → Stands i
  standing i l e is =
      let r = some_at rules i (omega (arith, plan.count)) in
      let a = rule_stands other (length parts) h twins.entries i e twins.is l is in
      let b = rule_stands rule (length parts) g entries i (fill (bytes_at i) e) program l
      (rule_fill i l ∙ ap (option_map (fill (bytes_at i))) is) in
      let at = bases i (omega arith) in
      record {
        rule_of = r.0;
        is_rule = r.1;
        less = l;
        expression = e;
        is = ap (λ o. slim (numbered (plain_of names o) 0)) (sym r.1) ∙ is;
        stop = a.0;
        has = a.1;
        byte_stop = subst (λ x. slice_get g x ≡ Some (ends i)) at b.0;
        byte_has = subst (λ x. HasCode g (fill (bytes_at i) e) (x + 1) x) at b.1;
        begin = b.2 ∙ ap (λ x. Some (entry (x + 1) (size (fill (bytes_at i) e)) x)) at
            ∙ ap (λ n. Some (entry (base_of other i + 1) n (base_of other i))) (size-fill (bytes_at i) e);
      }

  abbrev top_of : (i : ℕ) → Stands i → ℕ
  top_of i s = base_of other i + (size s.expression + 1)

  abbrev wanted : (i : ℕ) → Stands i → Plain
  wanted i s = pattern_written names s.rule_of.pattern

  -- the number of a step of a rule
  abbrev Numbers : (i : ℕ) → Stands i → ℕ → ℕ → Type 0
  Numbers i s p k = IsNumberOf h (base_of other i) (top_of i s) (set_count (wanted i s)) p k

  -- the rule of a step
  record Home (p : ℕ) : Type 0 where
    of : ℕ
    stands : Stands of
    low : base_of other of ≤ p
    high : p < top_of of stands

  expression_is : (i : ℕ) (s : Stands i) → other i ≡ Some s.expression
  expression_is i s = ap (λ o. slim (numbered (plain_of names o) 0)) s.is_rule ∙ s.is

  top_is : (i : ℕ) (s : Stands i) → base_of other (suc i) ≡ top_of i s
  top_is i s = ap (λ o. base_of other i + rule_size o) (expression_is i s)

  home_of : (p : ℕ) → p < length h → Home p
  home_of p l =
      let a = home other (length parts) p (omega (arith, twins.is.long)) in
      let b = has_some other p a.0 a.2 in
      let s = standing a.0 a.1 b.0 b.1 in
      record { of = a.0; stands = s; low = a.2.low; high = omega (arith, a.2.high, top_is a.0 s) }

  inside_of : (i : ℕ) (s : Stands i) (p : ℕ) → base_of other i ≤ p → p < top_of i s → IsOf other p i
  inside_of i s p l m = record { low = l; high = omega (arith, top_is i s) }

  inside_length : (i : ℕ) (s : Stands i) (p : ℕ) → p < top_of i s → p < length h
  inside_length i s p l = omega (arith, base_below other i (length parts) s.less, top_is i s, twins.is.long)

  -- the same step in both programs
  twin_at : (p : ℕ) (d : Home p) → Twin (bytes_at d.of) h g p
  twin_at p d = elim (cases_eq (base_of other d.of) p) [
    | inl same ↦ subst (Twin (bytes_at d.of) h g) same (record {
      step = ends d.of;
      numbers = d.stands.stop;
      bytes = d.stands.byte_stop;
    })
    | inr not_end ↦ twin (bytes_at d.of) h g d.stands.expression (base_of other d.of + 1) (base_of other d.of) p
        d.stands.has d.stands.byte_has (omega (arith, d.low)) (omega (arith, d.high))
  ]

  fork_twin : (t : ProgramStep) (p a b : ℕ) (S : ℕ → List ℕ) → slice_get h p ≡ Some t → slice_get g p
      ≡ Some (fill_step S t)
      → slice_get g p ≡ Some (fork a b) → slice_get h p ≡ Some (fork a b)
  fork_twin (reads ns q) p a b S x y z = cc
  fork_twin (fork c d) p a b S x y z = x ∙ sym y ∙ z
  fork_twin (ends j) p a b S x y z = cc

  fork_back : (t : ProgramStep) (p a b : ℕ) (S : ℕ → List ℕ) → slice_get h p ≡ Some t → slice_get g p
      ≡ Some (fill_step S t)
      → slice_get h p ≡ Some (fork a b) → slice_get g p ≡ Some (fork a b)
  fork_back (reads ns q) p a b S x y z = cc
  fork_back (fork c d) p a b S x y z = y ∙ sym x ∙ z
  fork_back (ends j) p a b S x y z = cc

  fork_there : (p a b : ℕ) → slice_get g p ≡ Some (fork a b) → slice_get h p ≡ Some (fork a b)
  fork_there p a b e =
      let d = home_of p (omega (arith, long, slice_get_within g p (fork a b) e)) in
      let t = twin_at p d in
      fork_twin t.step p a b (bytes_at d.of) t.numbers t.bytes e

  fork_here : (p a b : ℕ) → slice_get h p ≡ Some (fork a b) → slice_get g p ≡ Some (fork a b)
  fork_here p a b e =
      let d = home_of p (slice_get_within h p (fork a b) e) in
      let t = twin_at p d in
      fork_back t.step p a b (bytes_at d.of) t.numbers t.bytes e

  -- forks lead to the same steps in both
  reached_there : (roots : List ℕ) (p : ℕ) → Reached g roots p → Reached h roots p
  reached_there roots p (at_root k) = at_root k
  reached_there roots p (to_first {p = x} {a = a} {b = b} m e) = to_first (reached_there roots x m) (fork_there x a b e)
  reached_there roots p (to_second {p = x} {a = a} {b = b} m e) = to_second (reached_there roots x m)
      (fork_there x a b e)

  reached_here : (roots : List ℕ) (p : ℕ) → Reached h roots p → Reached g roots p
  reached_here roots p (at_root k) = at_root k
  reached_here roots p (to_first {p = x} {a = a} {b = b} m e) = to_first (reached_here roots x m) (fork_here x a b e)
  reached_here roots p (to_second {p = x} {a = a} {b = b} m e) = to_second (reached_here roots x m) (fork_here x a b e)

  -- the place of a position
  positions_long : length made.positions ≡ length (filter is_position g)
  positions_long = count g targets slots forks starts program.closed linked

  numbered_place : (q : ℕ) → q < length made.positions → (p : ℕ) × IsNumber g p q
  numbered_place q l =
      let s = some_at (filter is_position g) q (omega (arith, positions_long)) in
      let p = rank_each is_position g q s.0 s.1 in
      (p.0, record { step = s.0; is_step = p.1; reads_or_ends = p.2; is_rank = p.3 })

  -- what a position is
  record Known (q : ℕ) : Type 0 where
    place : ℕ
    is : IsNumber g place q
    at : Home place
    both : Twin (bytes_at at.of) h g place
    number : ℕ
    numbers : Numbers at.of at.stands place number

  position-fill : (S : ℕ → List ℕ) (t : ProgramStep) → is_position (fill_step S t) ≡ is_position t
  position-fill S (reads ns x) = refl
  position-fill S (fork a b) = refl
  position-fill S (ends j) = refl

  known : (q : ℕ) → q < length made.positions → Known q
  known q l =
      let p = numbered_place q l in
      let d = home_of p.0 (omega (arith, long, slice_get_within g p.0 p.1.step p.1.is_step)) in
      let t = twin_at p.0 d in
      let same : fill_step (bytes_at d.of) t.step ≡ p.1.step = let a = t.bytes in let b = p.1.is_step in cc in
      let passes : is_position t.step ≡ true
      = sym (position-fill (bytes_at d.of) t.step) ∙ ap is_position same ∙ p.1.reads_or_ends in
      let s = d.stands in
      let n = number_at h d.of (base_of other d.of) s.expression (wanted d.of s) s.is s.stop s.has p.0 t.step
      (d.low, d.high) t.numbers passes in
      record { place = p.0; is = p.1; at = d; both = t; number = n.0; numbers = n.1 }

  spot_of : (q : ℕ) → Known q → Spot
  spot_of q k = record { rule = k.at.of; number = k.number }

  spot_by : (q : ℕ) → (q < length made.positions) ⊎ (length made.positions ≤ q) → Spot
  spot_by q (inl l) = spot_of q (known q l)
  spot_by q (inr l) = record { rule = 0; number = 0 }

  -- the spot of each position
  spot : ℕ → Spot
  spot q = spot_by q (cases_lt q (length made.positions))

  record Spotted (q : ℕ) : Type 0 where
    it : Known q
    rule_is : (spot q).rule ≡ it.at.of
    number_is : (spot q).number ≡ it.number

  spotted_by : (q : ℕ) (d : (q < length made.positions) ⊎ (length made.positions ≤ q)) → q < length made.positions
      → (k : Known q) × ((spot_by q d).rule ≡ k.at.of) × ((spot_by q d).number ≡ k.number)
  unfolding spot_by spot_of
  spotted_by q (inl l) m = (known q l, refl, refl)
  spotted_by q (inr l) m = absurd (omega arith)

  spotted : (q : ℕ) → q < length made.positions → Spotted q
  unfolding spot
  spotted q l = let a = spotted_by q (cases_lt q (length made.positions)) l
      in record { it = a.0; rule_is = a.1; number_is = a.2 }

  -- a rule's pattern by its number
  wanted_is : (i : ℕ) (s : Stands i) (r : Rule) → slice_get rules i ≡ Some r
      → wanted i s ≡ pattern_written names r.pattern
  wanted_is i s r e = let same : Some s.rule_of ≡ Some r = sym s.is_rule ∙ e in ap (plain_of names) same

  same_wanted : (i j : ℕ) (s : Stands i) (t : Stands j) → i ≡ j → wanted i s ≡ wanted j t
  same_wanted i j s t e = wanted_is i s t.rule_of (ap (λ x. slice_get rules x) e ∙ t.is_rule)

  moved : (i j : ℕ) (s : Stands i) (t : Stands j) (p k : ℕ) → i ≡ j → Numbers i s p k → Numbers j t p k
  moved i j s t p k e = number_moved h (base_of other i) (top_of i s) (set_count (wanted i s)) (base_of other j)
      (top_of j t) (set_count (wanted j t)) p k (ap (base_of other) e)
      (sym (top_is i s) ∙ ap (λ x. base_of other (suc x)) e ∙ top_is j t)
      (ap set_count (same_wanted i j s t e))

  abbrev Inside : (i : ℕ) → Stands i → ℕ → Type 0
  Inside i s p = (base_of other i ≤ p) × (p < top_of i s)

  -- a step of a rule is of this rule alone
  one_home : (p i : ℕ) (d : Home p) (s : Stands i) → Inside i s p → d.of ≡ i
  one_home p i d s inside = home_one other p d.of i (inside_of d.of d.stands p d.low d.high)
      (inside_of i s p inside.0 inside.1)

  -- the facts of a rule's steps
  module _ (i : ℕ) (s : Stands i) where
    abbrev plain : Plain
    plain = wanted i s

    abbrev begin_at : ℕ
    begin_at = entry (base_of other i + 1) (size s.expression) (base_of other i)

    r_position : (p k : ℕ) → Numbers i s p k → IsPosition plain k
    r_position = position h i (base_of other i) s.expression plain s.is s.stop s.has

    r_inside : (p k : ℕ) → Numbers i s p k → Inside i s p
    r_inside = number_inside h i (base_of other i) s.expression plain s.is s.stop s.has

    r_once : (p q k : ℕ) → Numbers i s p k → Numbers i s q k → p ≡ q
    r_once = number_once h i (base_of other i) s.expression plain s.is s.stop s.has

    r_each : (k : ℕ) → IsPosition plain k → (p : ℕ) × Numbers i s p k
    r_each = each h i (base_of other i) s.expression plain s.is s.stop s.has

    r_end : (p j : ℕ) → Inside i s p → slice_get h p ≡ Some (ends j) → (p ≡ base_of other i) × (i ≡ j)
    r_end = end_at h i (base_of other i) s.expression plain s.is s.stop s.has

    r_below : (p k x : ℕ) → base_of other i < p → p < top_of i s → slice_get h p ≡ Some (reads (k ∷ []) x)
        → k < set_count plain
    r_below = below_end h i (base_of other i) s.expression plain s.is s.stop s.has

    r_start : Inside i s begin_at
    r_start = start_inside h i (base_of other i) s.expression plain s.is s.stop s.has

    r_reached : (p q : ℕ) → Inside i s p → Reached h (p ∷ []) q → Inside i s q
    r_reached = reached_inside h i (base_of other i) s.expression plain s.is s.stop s.has

    r_next : (p x : ℕ) (bytes : List ℕ) → Inside i s p → slice_get h p ≡ Some (reads bytes x) → Inside i s x
    r_next = next_inside h i (base_of other i) s.expression plain s.is s.stop s.has

    r_first : (q l : ℕ) → Reached h (begin_at ∷ []) q → Numbers i s q l → ComesFirst plain l
    r_first = first h i (base_of other i) s.expression plain s.is s.stop s.has

    r_first_back : (l : ℕ) → ComesFirst plain l → (q : ℕ) × Reached h (begin_at ∷ []) q × Numbers i s q l
    r_first_back = first_back h i (base_of other i) s.expression plain s.is s.stop s.has

    r_after : (p k x q l : ℕ) → Inside i s p → slice_get h p ≡ Some (reads (k ∷ []) x) → Reached h (x ∷ []) q
        → Numbers i s q l → ComesAfter plain k l
    r_after = after h i (base_of other i) s.expression plain s.is s.stop s.has

    r_after_back : (p k x l : ℕ) → base_of other i < p → p < top_of i s → slice_get h p ≡ Some (reads (k ∷ []) x)
        → ComesAfter plain k l → (q : ℕ) × Reached h (x ∷ []) q × Numbers i s q l
    r_after_back = after_back h i (base_of other i) s.expression plain s.is s.stop s.has

    r_last : (l : ℕ) → ComesAfter plain (set_count plain) l → ⊥
    r_last = none_after_end h i (base_of other i) s.expression plain s.is s.stop s.has

  -- no two positions are one spot
  once_known : (p q : ℕ) (a : Known p) (b : Known q) → a.at.of ≡ b.at.of → a.number ≡ b.number → p ≡ q
  once_known p q a b e f =
      let n = moved a.at.of b.at.of a.at.stands b.at.stands a.place a.number e a.numbers in
      let m = subst (λ k. Numbers b.at.of b.at.stands a.place k) f n in
      let same = r_once b.at.of b.at.stands a.place b.place b.number m b.numbers in
      sym a.is.is_rank ∙ ap (rank is_position g) same ∙ b.is.is_rank

  -- a rule that has positions has an expression
  some_expression : (r : Plain) (k : ℕ) → IsPosition r k → (e : Expression) × (slim (numbered r 0) ≡ Some e)
  some_expression r k p = of (slim (numbered r 0)) refl ((slim_strings (numbered r 0) p.2.0).1 p.2.1)
    where
      of : (o : Option Expression) → slim (numbered r 0) ≡ o → Strings o p.2.0
          → (e : Expression) × (slim (numbered r 0) ≡ Some e)
      of None eq m = absurd m
      of (Some e) eq m = (e, eq)

  -- the number of a place
  position_step : (i : ℕ) (s : Stands i) (p k : ℕ) → Numbers i s p k
      → (t : ProgramStep) × (slice_get h p ≡ Some t) × (is_position t ≡ true)
  position_step i s p k (inl a) = (ends i, subst (λ x. slice_get h x ≡ Some (ends i)) (sym a.0) s.stop, refl)
  position_step i s p k (inr a) = (reads (k ∷ []) a.2, a.3, refl)

  place_number : (i : ℕ) (s : Stands i) (p k : ℕ) → Numbers i s p k → (q : ℕ) × IsNumber g p q
  place_number i s p k n =
      let inside = r_inside i s p k n in
      let d = home_of p (inside_length i s p inside.1) in
      let t = twin_at p d in
      let u = position_step i s p k n in
      let same : t.step ≡ u.0 = let a = t.numbers in let b = u.1 in cc in (
        rank is_position g p,
        record {
          step = fill_step (bytes_at d.of) t.step;
          is_step = t.bytes;
          reads_or_ends = position-fill (bytes_at d.of) t.step ∙ ap is_position same ∙ u.2;
          is_rank = refl;
        },
      )

  number_within : (p q : ℕ) → IsNumber g p q → q < length made.positions
  number_within p q n = omega (
    arith,
    number_below g targets slots forks program.closed linked p q n,
    length-map slots (position_in (length slots) forks),
  )

  each_spot : (s : Spot) → IsSpot names rules s → (q : ℕ) × (q < length made.positions) × (spot q ≡ s)
  each_spot s (r, is_r, pos) =
      let i = s.rule in
      let k = s.number in
      let e = some_expression (pattern_written names r.pattern) k pos in
      let less : i < length parts = omega (arith, plan.count, slice_get_within rules i r is_r) in
      let st = standing i less e.0 (ap (λ o. slim (numbered (plain_of names o) 0)) is_r ∙ e.1) in
      let n = r_each i st k (subst (λ x. IsPosition x k) (sym (wanted_is i st r is_r)) pos) in
      let q = place_number i st n.0 k n.1 in
      let l = number_within n.0 q.0 q.1 in
      let t = spotted q.0 l in
      let same : t.it.place ≡ n.0 = number_place g t.it.place n.0 q.0 t.it.is q.1 in
      let inside = r_inside i st n.0 k n.1 in
      let home_is : t.it.at.of ≡ i
      = one_home t.it.place i t.it.at st (subst (Inside i st) (sym same) inside) in
      let moved_n : Numbers i st t.it.place t.it.number
      = moved t.it.at.of i t.it.at.stands st t.it.place t.it.number home_is t.it.numbers in
      let number_is : t.it.number ≡ k
      = number_one h (base_of other i) (top_of i st) (set_count (wanted i st)) n.0 t.it.number k
      (subst (λ p. Numbers i st p t.it.number) same moved_n) n.1 in
      (q.0, l, same_spot (spot q.0) s (t.rule_is ∙ home_is) (t.number_is ∙ number_is))

  -- what is shown of a known position
  show : (q : ℕ) (k : Known q) → Shown g targets slots forks starts program.closed linked k.place q
  show q k = shown g targets slots forks starts program.closed linked k.place q k.is

  shape_is : (q : ℕ) (k : Known q) → position_of made q ≡ (show q k).shape
  shape_is q k = get_or_from_slice_get made.positions q (show q k).shape (reading [] []) (show q k).at

  ends_step : (s : ProgramStep) (pl : Position) (i : ℕ) → Shows g s pl → pl ≡ ending i → s ≡ ends i
  ends_step (reads bytes x) (reading bs f) i a e = cc
  ends_step (reads bytes x) (ending j) i a e = absurd a
  ends_step (fork x y) pl i a e = absurd a
  ends_step (ends j) (reading bs f) i a e = absurd a
  ends_step (ends j) (ending k) i a e = let one : k ≡ i = cc in ap ends (a ∙ one)

  ends_shape : (s : ProgramStep) (pl : Position) (i : ℕ) → Shows g s pl → s ≡ ends i → pl ≡ ending i
  ends_shape (reads bytes x) pl i a e = cc
  ends_shape (fork x y) pl i a e = absurd a
  ends_shape (ends j) (reading bs f) i a e = absurd a
  ends_shape (ends j) (ending k) i a e = let one : j ≡ i = cc in ap ending (sym a ∙ one)

  unfilled : (S : ℕ → List ℕ) (t : ProgramStep) (i : ℕ) → fill_step S t ≡ ends i → t ≡ ends i
  unfilled S (reads ns x) i e = cc
  unfilled S (fork a b) i e = cc
  unfilled S (ends j) i e = e

  -- the step of an end mark
  stop_known : (q : ℕ) (k : Known q) → k.place ≡ base_of other k.at.of → position_of made q ≡ ending k.at.of
  stop_known q k e =
      let v = show q k in
      let at : slice_get g k.place ≡ Some (ends k.at.of)
      = subst (λ x. slice_get g x ≡ Some (ends k.at.of)) (sym e) k.at.stands.byte_stop in
      let same : v.step ≡ ends k.at.of = let a = v.is in cc in
      shape_is q k ∙ ends_shape v.step v.shape k.at.of v.shows same

  is_end : (q i : ℕ) (k : Known q) → IsEnd made q i
      ↔ ((k.at.of ≡ i) × (k.number ≡ set_count (wanted k.at.of k.at.stands)))
  is_end q i k = (there, back)
    where
      there : IsEnd made q i → (k.at.of ≡ i) × (k.number ≡ set_count (wanted k.at.of k.at.stands))
      there e =
          let v = show q k in
          let shape : v.shape ≡ ending i = let a = v.at in cc in
          let step : v.step ≡ ends i = ends_step v.step v.shape i v.shows shape in
          let filled : fill_step (bytes_at k.at.of) k.both.step ≡ ends i = let a = k.both.bytes in let b = v.is in cc in
          let t = unfilled (bytes_at k.at.of) k.both.step i filled in
          let at : slice_get h k.place ≡ Some (ends i) = k.both.numbers ∙ ap (λ x. Some x) t in
          let m = r_end k.at.of k.at.stands k.place i (k.at.low, k.at.high) at in (
            m.1,
            number_one h (base_of other k.at.of) (top_of k.at.of k.at.stands)
                (set_count (wanted k.at.of k.at.stands)) k.place k.number (set_count (wanted k.at.of k.at.stands))
                k.numbers
                (inl (m.0, refl)),
          )

      at_base : k.number ≡ set_count (wanted k.at.of k.at.stands) → Numbers k.at.of k.at.stands k.place k.number
          → k.place ≡ base_of other k.at.of
      at_base e (inl a) = a.0
      at_base e (inr a) = absurd (omega (arith, e, r_below k.at.of k.at.stands k.place k.number a.2 a.0 a.1 a.3))

      back : (k.at.of ≡ i) × (k.number ≡ set_count (wanted k.at.of k.at.stands)) → IsEnd made q i
      back e =
          let v = show q k in
          let here = stop_known q k (at_base e.1 k.numbers) in
          v.at ∙ ap (λ x. Some x) (sym (shape_is q k) ∙ here ∙ ap ending e.0)

  filled_step : (q : ℕ) (k : Known q) (x : ℕ) → slice_get h k.place ≡ Some (reads (k.number ∷ []) x)
      → slice_get g k.place ≡ Some (reads (bytes_at k.at.of k.number) x)
  filled_step q k x at =
      let same : k.both.step ≡ reads (k.number ∷ []) x = let a = k.both.numbers in cc in
      k.both.bytes ∙ ap (λ t. Some (fill_step (bytes_at k.at.of) t)) same

  reads_shape : (s : ProgramStep) (pl : Position) (bytes : List ℕ) (x : ℕ) → Shows g s pl → s ≡ reads bytes x
      → (bytes_of pl ≡ bytes) × IsReachList g (x ∷ []) (follow_of pl)
  reads_shape (reads bs y) (reading cs f) bytes x a e =
      let one : bs ≡ bytes = cc in
      let two : y ≡ x = cc in
      (sym a.0 ∙ one, subst (λ z. IsReachList g (z ∷ []) f) two a.1)
  reads_shape (reads bs y) (ending j) bytes x a e = absurd a
  reads_shape (fork c d) pl bytes x a e = cc
  reads_shape (ends j) pl bytes x a e = cc

  -- what a position that reads shows
  read_known : (q : ℕ) (k : Known q) (x : ℕ) → slice_get h k.place ≡ Some (reads (k.number ∷ []) x)
      → (bytes_of (position_of made q) ≡ bytes_at k.at.of k.number)
      × IsReachList g (x ∷ []) (follow_of (position_of made q))
  read_known q k x at =
      let v = show q k in
      let same : v.step ≡ reads (bytes_at k.at.of k.number) x
      = let a = v.is in let b = filled_step q k x at in cc in
      let r = reads_shape v.step v.shape (bytes_at k.at.of k.number) x v.shows same in (
        ap bytes_of (shape_is q k) ∙ r.0,
        subst (λ z. IsReachList g (x ∷ []) (follow_of z)) (sym (shape_is q k)) r.1,
      )

  wanted_at : (i : ℕ) (s : Stands i) → wanted i s ≡ pat i
  wanted_at i s = sym (ap (plain_of names) s.is_rule)

  -- the bytes of a position are those of its set
  bytes_known : (q : ℕ) (k : Known q) → bytes_of (position_of made q) ≡ set_at (wanted k.at.of k.at.stands) k.number
  bytes_known q k = of k.numbers
    where
      of : Numbers k.at.of k.at.stands k.place k.number
          → bytes_of (position_of made q) ≡ set_at (wanted k.at.of k.at.stands) k.number
      of (inl a) = ap bytes_of (stop_known q k a.0)
          ∙ sym (get_or_past (sets (wanted k.at.of k.at.stands)) k.number []
          (omega (arith, a.1, length-sets (wanted k.at.of k.at.stands))))
      of (inr a) = (read_known q k a.2 a.3).0
          ∙ sym (ap (λ r. set_at r k.number) (wanted_at k.at.of k.at.stands))

  -- which positions follow
  follows_known : (p q : ℕ) (a : Known p) (b : Known q) → Follows made p q
      ↔ ((b.at.of ≡ a.at.of) × ComesAfter (wanted a.at.of a.at.stands) a.number b.number)
  follows_known p q a b = (there a.numbers, back a.numbers)
    where
      there : Numbers a.at.of a.at.stands a.place a.number → Follows made p q
          → (b.at.of ≡ a.at.of) × ComesAfter (wanted a.at.of a.at.stands) a.number b.number
      there (inl n) f = Contains-none q (subst (λ z. Contains (follow_of z) q) (stop_known p a n.0) f)
      there (inr n) f =
          let r = ((read_known p a n.2 n.3).1.members q).0 f in
          let same : r.0 ≡ b.place = number_place g r.0 b.place q r.2 b.is in
          let to : Reached h (n.2 ∷ []) b.place
          = reached_there (n.2 ∷ []) b.place (subst (λ z. Reached g (n.2 ∷ []) z) same r.1) in
          let inside = r_reached a.at.of a.at.stands n.2 b.place (r_next a.at.of a.at.stands a.place n.2
          (a.number ∷ []) (a.at.low, a.at.high) n.3) to in
          let e = one_home b.place a.at.of b.at a.at.stands inside in (
            e,
            r_after a.at.of a.at.stands a.place a.number n.2 b.place b.number (a.at.low, a.at.high) n.3 to
                (moved b.at.of a.at.of b.at.stands a.at.stands b.place b.number e b.numbers),
          )

      back : Numbers a.at.of a.at.stands a.place a.number
          → (b.at.of ≡ a.at.of) × ComesAfter (wanted a.at.of a.at.stands) a.number b.number → Follows made p q
      back (inl n) f = absurd (r_last a.at.of a.at.stands b.number
          (subst (λ z. ComesAfter (wanted a.at.of a.at.stands) z b.number) n.1 f.1))
      back (inr n) f =
          let r = r_after_back a.at.of a.at.stands a.place a.number n.2 b.number n.0 n.1 n.3 f.1 in
          let m = moved b.at.of a.at.of b.at.stands a.at.stands b.place b.number f.0 b.numbers in
          let same = r_once a.at.of a.at.stands r.0 b.place b.number r.2 m in
          ((read_known p a n.2 n.3).1.members q).1
          (b.place, subst (λ z. Reached g (n.2 ∷ []) z) same (reached_here (n.2 ∷ []) r.0 r.1), b.is)

  -- a rule that begins somewhere has an expression
  begins_some : (j e : ℕ) → j < length parts → get_or entries j None ≡ Some e → Stands j
  begins_some j e l at = of (other j) refl
    where
      of : (o : Option Expression) → other j ≡ o → Stands j
      of None eq =
          let none : rule j ≡ None = rule_fill j l ∙ ap (option_map (fill (bytes_at j))) eq in
          let no_entry : get_or entries j None ≡ None
          = subst (λ o. RuleStands g o (get_or entries j None) j (base_of rule j)) none (program.standing j l) in
          absurd cc
      of (Some x) eq = standing j l x eq

  begin_is : (j e : ℕ) (s : Stands j) → get_or entries j None ≡ Some e
      → e ≡ entry (base_of other j + 1) (size s.expression) (base_of other j)
  begin_is j e s at = let a = s.begin in cc

  -- which positions come first
  starts_known : (c : ℕ) (line : Bool) (q : ℕ) (k : Known q) → c < conditions → Contains (starts_of made c line) q
      ↔ (IsActive rules c line k.at.of k.at.stands.rule_of
      × ComesFirst (wanted k.at.of k.at.stands) k.number)
  starts_known c line q k l = (there, back)
    where
      there : Contains (starts_of made c line) q → IsActive rules c line k.at.of k.at.stands.rule_of
          × ComesFirst (wanted k.at.of k.at.stands) k.number
      there f =
          let start = begins.begin c line l in
          let r = (start.1.members q).0 f in
          let e = reached_from_one g start.0 r.0 r.1 in
          let b = (start.2 e.0).0 e.1 in
          let j = b.0 in
          let less : j < length parts = omega (arith, plan.count, b.2) in
          let s = begins_some j e.0 less b.4 in
          let from = begin_is j e.0 s b.4 in
          let same : r.0 ≡ k.place = number_place g r.0 k.place q r.2 k.is in
          let to : Reached h (entry (base_of other j + 1) (size s.expression) (base_of other j) ∷ []) k.place
          = reached_there _ k.place (subst (λ z. Reached g (z ∷ []) k.place) from
          (subst (λ z. Reached g (e.0 ∷ []) z) same e.2)) in
          let inside = r_reached j s (entry (base_of other j + 1) (size s.expression) (base_of other j)) k.place
          (r_start j s) to in
          let at = one_home k.place j k.at s inside in
          let m = moved k.at.of j k.at.stands s k.place k.number at k.numbers in
          let rule_at : b.1 ≡ k.at.stands.rule_of =
          let x = b.3.is_rule in let y : slice_get rules j ≡ Some k.at.stands.rule_of
          = ap (λ z. slice_get rules z) (sym at) ∙ k.at.stands.is_rule in cc in (
            subst (λ (z : Rule). IsActive rules c line k.at.of z) rule_at
                (subst (λ z. IsActive rules c line z b.1) (sym at) b.3),
            subst (λ z. ComesFirst z k.number) (same_wanted j k.at.of s k.at.stands (sym at))
                (r_first j s k.place k.number to m),
          )

      back : IsActive rules c line k.at.of k.at.stands.rule_of
          × ComesFirst (wanted k.at.of k.at.stands) k.number → Contains (starts_of made c line) q
      back f =
          let i = k.at.of in
          let s = k.at.stands in
          let start = begins.begin c line l in
          let r = r_first_back i s k.number f.1 in
          let same = r_once i s r.0 k.place k.number r.2 k.numbers in
          let root = (start.2 (entry (base_of other i + 1) (size s.expression) (base_of other i))).1
          (i, s.rule_of, omega (arith, plan.count, s.less), f.0, s.begin) in
          (start.1.members q).1 (
            k.place,
            reached_wider g (entry (base_of other i + 1) (size s.expression) (base_of other i)) start.0 k.place root
                (subst (λ z. Reached g (entry (base_of other i + 1) (size s.expression) (base_of other i) ∷ []) z) same
                (reached_here (entry (base_of other i + 1) (size s.expression) (base_of other i) ∷ []) r.0 r.1)),
            k.is,
          )

  -- lists have members that there are, each once
  nothing_once : AllPairs (λ (a : ℕ) (b : ℕ). a ≢ b) []
  nothing_once i j d l m = absurd (omega (arith, m))

  slot_follow : (x : Slot) → AllPairs (λ a b. a ≢ b) (follow_of (position_in (length slots) forks x))
      × All (λ q. q < length slots) (follow_of (position_in (length slots) forks x))
  slot_follow (slot.Reads b t) = (reached_from-once (length slots) forks t, reached_from-below (length slots) forks t)
  slot_follow (slot.Ends r) = (nothing_once, λ k d l. absurd (omega (arith, l)))

  -- a position of the lot, or the empty one past the end
  each_position : (P : Position → Type 0) → ((x : Slot) → P (position_in (length slots) forks x)) → P (reading [] [])
      → (q : ℕ) → P (position_of made q)
  each_position P f none q = elim (cases_lt q (length slots)) [
    | inl l ↦ let x = some_at slots q l in subst P (sym (position_at slots forks starts q x.0 x.1)) (f x.0)
    | inr l ↦ subst P (sym (position_past slots forks starts q l)) none
  ]

  starts_each : (c : ℕ) (line : Bool) → AllPairs (λ a b. a ≢ b) (starts_of made c line)
      × All (λ q. q < length slots) (starts_of made c line)
  starts_each c line = elim (cases_lt (2 * c + (if line then 1 else 0)) (length starts)) [
    | inl l ↦ let r = begins.each (2 * c + (if line then 1 else 0)) l
        in (r.1.once, reach_below g targets slots forks starts program.closed linked r.0 (starts_of made c line) r.1)
    | inr l ↦ rw (get_or_past starts (2 * c + (if line then 1 else 0)) [] l)
        (nothing_once, λ k d m. absurd (omega (arith, m)))
  ]

  follow_in : (p q : ℕ) → Follows made p q → q < length made.positions
  follow_in p q f =
      let all = each_position (λ pl. All (λ x. x < length slots) (follow_of pl)) (λ x. (slot_follow x).1)
      (λ k d l. absurd (omega (arith, l))) p in
      omega (
        arith,
        All-contains (λ x. x < length slots) (follow_of (position_of made p)) q all f,
        length-map slots (position_in (length slots) forks),
      )

  starts_in : (c : ℕ) (line : Bool) (q : ℕ) → Contains (starts_of made c line) q → q < length made.positions
  starts_in c line q f = omega (
    arith,
    All-contains (λ x. x < length slots) (starts_of made c line) q (starts_each c line).1 f,
    length-map slots (position_in (length slots) forks),
  )

  -- the pattern of the rule of a spot
  pattern_is : (q : ℕ) (k : Spotted q) (r : Rule) → slice_get rules (spot q).rule ≡ Some r
      → wanted k.it.at.of k.it.at.stands ≡ pattern_written names r.pattern
  pattern_is q k r e = wanted_is k.it.at.of k.it.at.stands r (ap (λ x. slice_get rules x) (sym k.rule_is) ∙ e)

  rule_of_is : (q : ℕ) (k : Spotted q) (r : Rule) → slice_get rules (spot q).rule ≡ Some r
      → k.it.at.stands.rule_of ≡ r
  rule_of_is q k r e =
      let a = k.it.at.stands.is_rule in
      let b : slice_get rules k.it.at.of ≡ Some r = ap (λ x. slice_get rules x) (sym k.rule_is) ∙ e in
      cc

  spot_is : (q : ℕ) → q < length made.positions → IsSpot names rules (spot q)
  spot_is q l =
      let k = spotted q l in
      let s = k.it.at.stands in (
        s.rule_of,
        ap (λ x. slice_get rules x) k.rule_is ∙ s.is_rule,
        subst (λ n. IsPosition (wanted k.it.at.of s) n) (sym k.number_is)
            (r_position k.it.at.of s k.it.place k.it.number k.it.numbers),
      )

  spot_ends : (p i : ℕ) (r : Rule) → p < length made.positions → slice_get rules (spot p).rule ≡ Some r
      → IsEnd made p i ↔ (((spot p).rule ≡ i) × ((spot p).number ≡ set_count (pattern_written names r.pattern)))
  spot_ends p i r l e =
      let k = spotted p l in
      let a = is_end p i k.it in
      let same = ap set_count (pattern_is p k r e) in (
        λ f. let b = a.0 f in (k.rule_is ∙ b.0, k.number_is ∙ b.1 ∙ same),
        λ f. a.1 (sym k.rule_is ∙ f.0, sym k.number_is ∙ f.1 ∙ sym same),
      )

  spot_reads : (p b : ℕ) (r : Rule) → p < length made.positions → slice_get rules (spot p).rule ≡ Some r
      → ReadsByte made p b ↔ Contains (set_at (pattern_written names r.pattern) (spot p).number) b
  spot_reads p b r l e =
      let k = spotted p l in
      let same = bytes_known p k.it ∙ ap (λ z. set_at z k.it.number) (pattern_is p k r e)
      ∙ ap (set_at (pattern_written names r.pattern)) (sym k.number_is) in (
        λ f. subst (λ z. Contains z b) same f,
        λ f. subst (λ z. Contains z b) (sym same) f,
      )

  spot_follows : (p q : ℕ) (r : Rule) → p < length made.positions → q < length made.positions
      → slice_get rules (spot p).rule ≡ Some r → Follows made p q
      ↔ (((spot q).rule ≡ (spot p).rule)
      × ComesAfter (pattern_written names r.pattern) (spot p).number (spot q).number)
  spot_follows p q r l m e =
      let a = spotted p l in
      let b = spotted q m in
      let f = follows_known p q a.it b.it in
      let same = pattern_is p a r e in (
        λ x. let y = f.0 x in (
          b.rule_is ∙ y.0 ∙ sym a.rule_is,
          subst (λ z. ComesAfter (pattern_written names r.pattern) z (spot q).number) (sym a.number_is)
              (subst (λ z. ComesAfter (pattern_written names r.pattern) a.it.number z) (sym b.number_is)
              (subst (λ z. ComesAfter z a.it.number b.it.number) same y.1)),
        ),
        λ x. f.1 (
          sym b.rule_is ∙ x.0 ∙ a.rule_is,
          subst (λ z. ComesAfter z a.it.number b.it.number) (sym same)
              (subst (λ z. ComesAfter (pattern_written names r.pattern) z b.it.number) a.number_is
              (subst (λ z. ComesAfter (pattern_written names r.pattern) (spot p).number z) b.number_is x.1)),
        ),
      )

  spot_starts : (c : ℕ) (line : Bool) (p : ℕ) (r : Rule) → c < conditions → p < length made.positions
      → slice_get rules (spot p).rule ≡ Some r → Contains (starts_of made c line) p
      ↔ (IsActive rules c line (spot p).rule r × ComesFirst (pattern_written names r.pattern) (spot p).number)
  spot_starts c line p r l m e =
      let k = spotted p m in
      let f = starts_known c line p k.it l in
      let same = pattern_is p k r e in
      let one = rule_of_is p k r e in (
        λ x. let y = f.0 x in (
          subst (λ z. IsActive rules c line z r) (sym k.rule_is)
              (subst (λ (z : Rule). IsActive rules c line k.it.at.of z) one y.0),
          subst (ComesFirst (pattern_written names r.pattern)) (sym k.number_is)
              (subst (λ z. ComesFirst z k.it.number) same y.1),
        ),
        λ x. f.1 (
          subst (λ (z : Rule). IsActive rules c line k.it.at.of z) (sym one)
              (subst (λ z. IsActive rules c line z r) k.rule_is x.0),
          subst (λ z. ComesFirst z k.it.number) (sym same)
              (subst (ComesFirst (pattern_written names r.pattern)) k.number_is x.1),
        ),
      )

  once_spot : (p q : ℕ) → p < length made.positions → q < length made.positions → spot p ≡ spot q → p ≡ q
  once_spot p q l m e =
      let a = spotted p l in
      let b = spotted q m in
      once_known p q a.it b.it (sym a.rule_is ∙ ap (λ (s : Spot). s.rule) e ∙ b.rule_is)
      (sym a.number_is ∙ ap (λ (s : Spot). s.number) e ∙ b.number_is)

  are_positions_of : ArePositionsOf names rules conditions made spot
  are_positions_of = record {
    is_spot = spot_is;
    once = once_spot;
    each = each_spot;
    ends = spot_ends;
    reads = spot_reads;
    follows = spot_follows;
    starts = spot_starts;
    follow_within = follow_in;
    starts_within = starts_in;
  }

  pub has_positions : HasPositions names rules conditions made
  has_positions = (spot, are_positions_of)

  known_end : (q i : ℕ) → IsEnd made q i → i < length rules
  known_end q i e =
      let s = spot_is q (slice_get_within made.positions q (ending i) e) in
      let a = (spot_ends q i s.0 (slice_get_within made.positions q (ending i) e) s.1).0 e in
      slice_get_within rules i s.0 (ap (λ x. slice_get rules x) (sym a.0) ∙ s.1)

  pub are_positions : ArePositions names rules conditions made
  are_positions = record {
    spells = spells names rules conditions made spot are_positions_of;
    live = lives names rules conditions made spot are_positions_of;
    known = known_end;
    follow_within = follow_in;
    follow_once = λ p. each_position (λ pl. AllPairs (λ a b. a ≢ b) (follow_of pl)) (λ x. (slot_follow x).0)
        nothing_once p;
    starts_within = starts_in;
    starts_once = λ c line. (starts_each c line).0;
    starts_past = λ c line le. get_or_past starts (2 * c + (if line then 1 else 0)) [] (omega (arith, begins.count));
  }

-- what was put together from the program of a plan
module _ (names : List Expression) (rules : List Rule) (es : List Expression) (parts : List (Option ℕ))
    (g : List ProgramStep)
    (entries : List (Option ℕ)) (conditions : ℕ) (nfa : Nfa) (plan : IsPlan names rules es parts)
    (program : IsProgram (listed es parts) (length parts) g entries)
    (a : Assembled g rules entries conditions nfa) where
  pub assembled_places : HasPositions names rules conditions nfa
  assembled_places = rw a.is (has_positions names rules es parts g entries conditions a.targets a.slots a.forks a.starts
      plan program a.linked a.begins)

  pub assembled : ArePositions names rules conditions nfa
  assembled = rw a.is (are_positions names rules es parts g entries conditions a.targets a.slots a.forks a.starts plan
      program a.linked a.begins)
