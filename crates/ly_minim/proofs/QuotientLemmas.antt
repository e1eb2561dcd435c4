-- A state for each block that is met: how it is numbered, and that the automaton of these does what the first one does.
use Rattle.std.proofs.Common.{◌≡◌, ◌≢◌, ◌<◌, ◌≤◌, ◌+◌, ◌*◌, ◌∙◌, ◌++◌, ◌∷◌, [], ℕ, suc, List, length}
use Rattle.std.proofs.Common.{Option}
use Rattle.std.proofs.Common.{Some, None, Bool, refl, sym, ap, subst, arith, inl, inr, set}
use Rattle.std.proofs.Common.{slice_get, map}
use Rattle.std.proofs.Common.{length-set, get_or-set_same, get_or-set_other, lt-ltb}
use Rattle.std.specs.Prelude.{option_map, option_and_then, if◌then◌else◌, nat_lt}
use Rattle.std.proofs.lemmas.Bool.{cases_eq, cases_lt}
use Rattle.std.proofs.lemmas.Bool.{le-ltb}
use Rattle.std.proofs.lemmas.List.{append-nil, get_or_append_left, get_or_push, length-append, length-map, length_push}
use Rattle.std.proofs.lemmas.List.{get_or_past, map_push}
use Rattle.std.proofs.lemmas.Nat.{mul-add-lt, same_from_place}
use Rattle.std.proofs.lemmas.Option.{same_Some}
use Rattle.std.proofs.Math.Nat.{mul_comm}
use Rattle.ly_subset.specs.Automaton.{AreInOrder, Automaton, IsAutomaton, IsTrim, entry_at, next_by_class, next_of}
use Rattle.ly_subset.specs.Automaton.{rule_after, rule_of}
use Rattle.ly_subset.specs.Automaton.{start_of, start_place, state_after}
use Rattle.ly_base.specs.Entry.{target_of}
use Rattle.ly_base.specs.declared.entry.Entry.{Entry}
use Rattle.ly_base.proofs.PigeonholeLemmas.{pigeonhole}
use Rattle.ly_subset.proofs.OrderLemmas.{each_entry, order_more, order_none}
use Rattle.ly_minim.specs.Smallest.{HaveSameRules, IsReducedAutomaton}
use Rattle.ly_minim.specs.Private.Blocks.{AreApart, IsStable}
use Rattle.ly_minim.specs.Private.Quotient.{AreNumberedBy, IsEntered, IsMet, IsNumberOf, IsQuotient}
use Rattle.ly_minim.specs.Private.Quotient.{pick_of, targets_of}
use Rattle.ly_minim.specs.Private.Rules.{HaveRules}
use Rattle.ly_minim.specs.Private.Signature.{block_of}
use Rattle.ly_minim.specs.declared.quotient.Quotient.{Quotient}

-- there are no more numbers than blocks
pub picked_few : (of : List ℕ) (count : ℕ) (numbers : List (Option ℕ)) (picked : List ℕ)
    → AreNumberedBy of count numbers picked → length picked ≤ count
picked_few of count numbers picked so = pigeonhole (length picked) count
    (λ n b. block_of of (pick_of picked n) ≡ b)
    (λ n l. (block_of of (pick_of picked n), so.blocks_within (pick_of picked n) (so.states n l), refl))
    (λ i h b l m e f. same_Some i h (sym (so.numbered i l) ∙ ap (entry_at numbers) (e ∙ sym f) ∙ so.numbered h m))

module _ (of : List ℕ) (count : ℕ) (numbers : List (Option ℕ)) (picked : List ℕ) (state : ℕ)
    (so : AreNumberedBy of count numbers picked) (is_state : state < length of)
    (none : entry_at numbers (block_of of state) ≡ None) where
  old_pick : (n : ℕ) → n < length picked → pick_of (picked ++ state ∷ []) n ≡ pick_of picked n
  old_pick n l = get_or_append_left picked (state ∷ []) 0 n l

  new_pick : pick_of (picked ++ state ∷ []) (length picked) ≡ state
  new_pick = get_or_push picked state 0 (length picked) refl

  -- what holds of the earlier states and of the last
  each_pick : (P : ℕ → ℕ → Type 0) → ((n : ℕ) → n < length picked → P n (pick_of picked n)) → P (length picked) state
      → (n : ℕ) → n < length (picked ++ state ∷ []) → P n (pick_of (picked ++ state ∷ []) n)
  each_pick P all one n l = elim (cases_lt n (length picked)) [
    | inl less ↦ subst (P n) (sym (old_pick n less)) (all n less)
    | inr past ↦ let last : length picked ≡ n = omega (arith, length_push picked state, l, past) in
        subst (λ k. P k (pick_of (picked ++ state ∷ []) k)) last (subst (P (length picked)) (sym new_pick) one)
  ]

  other_block : (n : ℕ) → n < length picked → block_of of (pick_of picked n) ≢ block_of of state
  other_block n l e = let off : None ≡ Some n = sym none ∙ ap (entry_at numbers) (sym e) ∙ so.numbered n l in cc

  -- there are no more numbers than blocks
  pub room_for : length picked < count
  room_for = pigeonhole (suc (length picked)) count (λ n b. block_of of (pick_of (picked ++ state ∷ []) n) ≡ b)
      (λ n l. (
        block_of of (pick_of (picked ++ state ∷ []) n),
        so.blocks_within (pick_of (picked ++ state ∷ []) n)
            (each_pick (λ k s. s < length of) so.states is_state n (omega (arith, l, length_push picked state))),
        refl,
      ))
      (λ i h b l m e f. each_pick (λ k s. block_of of s ≡ block_of of (pick_of (picked ++ state ∷ []) h) → k ≡ h)
      (λ k less. each_pick (λ j s. block_of of (pick_of picked k) ≡ block_of of s → k ≡ j)
      (λ j more g. same_Some k j (sym (so.numbered k less) ∙ ap (entry_at numbers) g ∙ so.numbered j more))
      (λ g. absurd (other_block k less g)) h (omega (arith, m, length_push picked state)))
      (each_pick (λ j s. block_of of state ≡ block_of of s → length picked ≡ j)
      (λ j more g. absurd (other_block j more (sym g))) (λ g. refl) h (omega (arith, m, length_push picked state)))
      i (omega (arith, l, length_push picked state)) (e ∙ sym f))

  pub numbered_more : AreNumberedBy of count (set numbers (block_of of state) (Some (length picked)))
      (picked ++ state ∷ [])
  numbered_more = record {
    room = length-set numbers (block_of of state) (Some (length picked)) ∙ so.room;
    blocks_within = so.blocks_within;
    states = each_pick (λ n s. s < length of) so.states is_state;
    numbered = each_pick (λ n s. entry_at (set numbers (block_of of state) (Some (length picked)))
        (block_of of s) ≡ Some n)
        (λ n l. get_or-set_other numbers (block_of of state) (block_of of (pick_of picked n)) (Some
        (length picked)) None
        (other_block n l) ∙ so.numbered n l)
        given;
    met = λ b n e. elim (cases_eq b (block_of of state)) [
      | inl same ↦ let is : length picked ≡ n = same_Some (length picked) n
          (sym given ∙ ap (entry_at (set numbers (block_of of state) (Some (length picked)))) (sym same) ∙ e) in (
            omega (arith, is, length_push picked state),
            ap (λ k. block_of of (pick_of (picked ++ state ∷ []) k)) (sym is) ∙ ap (block_of of) new_pick ∙ sym same,
          )
      | inr other ↦ let was = so.met b n (sym (get_or-set_other numbers (block_of of state) b (Some
          (length picked)) None
          other) ∙ e) in
          (omega (arith, was.0, length_push picked state), ap (block_of of) (old_pick n was.0) ∙ was.1)
    ];
  }
    where
      given : entry_at (set numbers (block_of of state) (Some (length picked))) (block_of of state) ≡ Some
          (length picked)
      given = get_or-set_same numbers (block_of of state) (Some (length picked)) None
          (let room = so.room in omega (arith, so.blocks_within state is_state))

-- numbers of states, when there are more states
pub number_more : (of picked more : List ℕ) (e o : Option ℕ) → IsNumberOf of picked e o
    → IsNumberOf of (picked ++ more) e o
number_more of picked more None None h = tt
number_more of picked more None (Some t) h = h
number_more of picked more (Some n) None h = h
number_more of picked more (Some n) (Some t) h = (
  omega (arith, h.0, length-append picked more),
  ap (block_of of) (get_or_append_left picked more 0 n h.0) ∙ h.1,
)

-- a number of a state is that of another one in its block
number_same : (of picked : List ℕ) (e o u : Option ℕ) → option_map (block_of of) o ≡ option_map (block_of of) u
    → IsNumberOf of picked e o → IsNumberOf of picked e u
number_same of picked None None None same h = tt
number_same of picked None None (Some u) same h = cc
number_same of picked None (Some o) u same h = absurd h
number_same of picked (Some n) None u same h = absurd h
number_same of picked (Some n) (Some o) None same h = cc
number_same of picked (Some n) (Some o) (Some u) same h = (h.0, h.1 ∙ same_Some _ _ same)

number_within : (of picked : List ℕ) (e o : Option ℕ) (n : ℕ) → IsNumberOf of picked e o → e ≡ Some n
    → n < length picked
number_within of picked None o n h e = cc
number_within of picked (Some m) None n h e = absurd h
number_within of picked (Some m) (Some t) n h e = let same : m ≡ n = cc in omega (arith, h.0, same)

-- the entries' states are as many as the entries
pub count_targets : (q : Quotient) → length (targets_of q) ≡ length q.entries.items
count_targets q = length-map q.entries.items target_of

module _ (A : Automaton) (of : List ℕ) (old new : Quotient) (target : Option ℕ) (so : IsQuotient A of old)
    (entered : IsEntered of old target new) where
  longer : length old.picked.items ≤ length new.picked.items
  longer = omega (arith, ap length entered.grown, length-append old.picked.items entered.more)

  pub kept_pick : (n : ℕ) → n < length old.picked.items → pick_of new.picked.items n ≡ pick_of old.picked.items n
  kept_pick n l = ap (λ ps. pick_of ps n) entered.grown ∙ get_or_append_left old.picked.items entered.more 0 n l

  pub entered_count : length new.entries.items ≡ length old.entries.items + 1
  entered_count = sym (count_targets new) ∙ ap length entered.appended ∙ length_push (targets_of old) entered.entry
      ∙ ap (λ n. n + 1) (count_targets old)

  pub entered_longer : length old.picked.items ≤ length new.picked.items
  entered_longer = longer

  kept_number : (e o : Option ℕ) → IsNumberOf of old.picked.items e o → IsNumberOf of new.picked.items e o
  kept_number e o h = subst (λ ps. IsNumberOf of ps e o) (sym entered.grown)
      (number_more of old.picked.items entered.more e o h)

  -- one entry more
  entered_any : ((n : ℕ) → length old.picked.items ≡ n → length (targets_of old) < A.starts + n * A.classes)
      → (length (targets_of old) < A.starts → target ≡ entry_at A.entries (length (targets_of old)))
      → ((n c : ℕ) → c < A.classes → A.starts + (n * A.classes + c) ≡ length (targets_of old)
      → (n < length old.picked.items) × (target ≡ next_by_class A (pick_of old.picked.items n) c))
      → IsQuotient A of new
  entered_any room start row = record {
    order = subst (λ es. AreInOrder A.starts A.classes (length new.picked.items) es) (sym entered.appended)
        (order_more A.starts A.classes (length old.picked.items) (length new.picked.items)
        (targets_of old) entered.entry
        so.order longer (λ n e. number_within of new.picked.items entered.entry target n entered.number e)
        entered.fresh room);
    at_start = λ k l m. subst (λ es. IsNumberOf of new.picked.items (entry_at es k) (entry_at A.entries k))
        (sym entered.appended) (each_entry (targets_of old) entered.entry
        (λ j o. j < A.starts → IsNumberOf of new.picked.items o (entry_at A.entries j))
        (λ j less within. kept_number (entry_at (targets_of old) j) (entry_at A.entries j)
        (so.at_start j (omega (arith, less, count_targets old)) within))
        (λ within. subst (λ o. IsNumberOf of new.picked.items entered.entry o) (start within) entered.number)
        k (omega (arith, l, count_targets new, ap length entered.appended)) m);
    at_row = λ n c l m. subst (λ es. (n < length new.picked.items) × IsNumberOf of new.picked.items
        (entry_at es (A.starts + (n * A.classes + c))) (next_by_class A (pick_of new.picked.items n) c))
        (sym entered.appended) (each_entry (targets_of old) entered.entry
        (λ j o. A.starts + (n * A.classes + c) ≡ j → (n < length new.picked.items)
        × IsNumberOf of new.picked.items o (next_by_class A (pick_of new.picked.items n) c))
        (λ j less same. let was = so.at_row n c l (omega (arith, less, same, count_targets old)) in (
          let long = longer in omega (arith, was.0),
          subst (λ s. IsNumberOf of new.picked.items (entry_at (targets_of old) j) (next_by_class A s c))
              (sym (kept_pick n was.0)) (kept_number (entry_at (targets_of old) j)
              (next_by_class A (pick_of old.picked.items n) c) (subst (λ i. IsNumberOf of old.picked.items
              (entry_at (targets_of old) i) (next_by_class A (pick_of old.picked.items n) c)) same was.1)),
        ))
        (λ same. let here = row n c l same in (
          let long = longer in omega (arith, here.0),
          subst (λ o. IsNumberOf of new.picked.items entered.entry o)
              (here.1 ∙ ap (λ s. next_by_class A s c) (sym (kept_pick n here.0))) entered.number,
        ))
        (A.starts + (n * A.classes + c)) (omega (arith, m, count_targets new, ap length entered.appended)) refl);
  }

  pub entered_start : length old.entries.items < A.starts → target ≡ entry_at A.entries (length old.entries.items)
      → IsQuotient A of new
  entered_start less same = entered_any (λ n is. omega (arith, less, count_targets old))
      (λ l. same ∙ ap (entry_at A.entries) (sym (count_targets old)))
      (λ n c l is. absurd (omega (arith, less, is, count_targets old)))

  pub entered_row : (n c : ℕ) → n < length old.picked.items → c < A.classes
      → length old.entries.items ≡ A.starts + (n * A.classes + c)
      → target ≡ next_by_class A (pick_of old.picked.items n) c → IsQuotient A of new
  entered_row n c less within at same = entered_any
      (λ t is. let row = mul-add-lt n A.classes c t (omega (arith, less, is)) within in
      let turned : A.classes * t ≡ t * A.classes = mul_comm A.classes t in
      omega (arith, row, turned, at, count_targets old))
      (λ l. absurd (omega (arith, at, l, count_targets old)))
      (λ t d l is. let place = same_from_place t d n c A.classes l within (omega
      (arith, is, at, count_targets old)) in (
        omega (arith, place.0, less),
        same ∙ ap (λ s. next_by_class A s c) (ap (pick_of old.picked.items)
            (sym place.0))
            ∙ ap (next_by_class A (pick_of old.picked.items t)) (sym place.1),
      ))

-- nothing is entered yet
pub quotient_none : (A : Automaton) (of : List ℕ) (q : Quotient) → q.picked.items ≡ [] → q.entries.items ≡ []
    → IsQuotient A of q
quotient_none A of q picked entries = record {
  order = subst (λ ps. AreInOrder A.starts A.classes (length ps) (targets_of q)) (sym picked)
      (subst (λ es. AreInOrder A.starts A.classes 0 (map target_of es)) (sym entries) (order_none A.starts A.classes));
  at_start = λ k l. absurd (omega (arith, l, ap length entries));
  at_row = λ n c l m. absurd (omega (arith, m, ap length entries));
}

pub unnumbered : (of : List ℕ) (count : ℕ) (numbers : List (Option ℕ)) → length numbers ≡ count
    → ((s : ℕ) → s < length of → block_of of s < count) → ((b : ℕ) → entry_at numbers b ≡ None)
    → AreNumberedBy of count numbers []
unnumbered of count numbers room within none = record {
  room = room;
  blocks_within = within;
  states = λ n l. absurd (omega (arith, l));
  numbered = λ n l. absurd (omega (arith, l));
  met = λ b n e. absurd (let off : None ≡ Some n = sym (none b) ∙ e in cc);
}

-- a state's block was entered
pub entered_some : (of : List ℕ) (old mid new : Quotient) (state n : ℕ) (e : Entry) → IsMet of old state mid n
    → mid.entries.items ≡ old.entries.items → new.picked.items ≡ mid.picked.items
    → new.entries.items ≡ mid.entries.items ++ e ∷ [] → target_of e ≡ Some n → IsEntered of old (Some state) new
entered_some of old mid new state n e met same picked entries at = record {
  entry = Some n;
  more = met.more;
  grown = picked ∙ met.grown;
  number = subst (λ ps. IsNumberOf of ps (Some n) (Some state)) (sym picked) met.block;
  fresh = λ k l past. let f = met.fresh k (omega (arith, l, ap length picked)) past in (f.0, ap (λ x. Some x) f.1);
  appended = ap (map target_of) entries ∙ map_push target_of mid.entries.items e
      ∙ ap (λ es. map target_of es ++ target_of e ∷ []) same ∙ ap (λ o. targets_of old ++ o ∷ []) at;
}

-- or none was
pub entered_none : (of : List ℕ) (old new : Quotient) (e : Entry) → new.picked.items ≡ old.picked.items
    → new.entries.items ≡ old.entries.items ++ e ∷ [] → target_of e ≡ None → IsEntered of old None new
entered_none of old new e picked entries at = record {
  entry = None;
  more = [];
  grown = picked ∙ sym (append-nil old.picked.items);
  number = tt;
  fresh = λ k l past. absurd (omega (arith, l, past, ap length picked));
  appended = ap (map target_of) entries ∙ map_push target_of old.entries.items e
      ∙ ap (λ o. targets_of old ++ o ∷ []) at;
}

-- The automaton of the numbers: the classes and starts of the first one, and for each number the rule of its state.
pub record IsQuotientOf (A B : Automaton) (of picked : List ℕ) : Type 0 where
  pub classes : B.classes ≡ A.classes
  pub class_of : B.class_of ≡ A.class_of
  pub starts : B.starts ≡ A.starts
  pub rules : HaveRules A picked B.rules
  pub states : (n : ℕ) → n < length picked → pick_of picked n < length A.rules
  pub order : AreInOrder A.starts A.classes (length picked) B.entries
  pub full : length B.entries ≡ A.starts + length picked * A.classes
  pub at_start : (k : ℕ) → k < A.starts → IsNumberOf of picked (entry_at B.entries k) (entry_at A.entries k)
  pub at_row : (n c : ℕ) → n < length picked → c < A.classes
      → IsNumberOf of picked (entry_at B.entries (A.starts + (n * A.classes + c))) (next_by_class A
      (pick_of picked n) c)
  pub one : (i j : ℕ) → i < length picked → j < length picked
      → block_of of (pick_of picked i) ≡ block_of of (pick_of picked j) → i ≡ j

module _ (A B : Automaton) (of picked : List ℕ) (is : IsAutomaton A) (so : IsQuotientOf A B of picked) where
  -- it is an automaton
  pub quotient_automaton : IsAutomaton B
  quotient_automaton = record {
    bytes = ap length so.class_of ∙ is.bytes;
    used = λ c l. let b = is.used c (let same = so.classes in omega arith) in
        (b.0, ap (λ cs. slice_get cs b.0) so.class_of ∙ b.1);
    class_within = λ b c e. let same = so.classes in
        omega (arith, is.class_within b c (ap (λ cs. slice_get cs b) (sym so.class_of) ∙ e));
    full = so.full ∙ ap (λ n. A.starts + length picked * n) (sym so.classes)
        ∙ ap (λ n. A.starts + n * B.classes) (sym so.rules.count) ∙ ap (λ n. n + length B.rules * B.classes)
        (sym so.starts);
    within = λ k s e. let count = so.rules.count in omega (arith, so.order.within k s e);
  }

  pub quotient_order : AreInOrder B.starts B.classes (length B.rules) B.entries
  quotient_order = subst (λ n. AreInOrder n B.classes (length B.rules) B.entries) (sym so.starts)
      (subst (λ n. AreInOrder A.starts n (length B.rules) B.entries) (sym so.classes)
      (subst (λ n. AreInOrder A.starts A.classes n B.entries) (sym so.rules.count) so.order))

  module _ (stable : IsStable A of) where
    In : Option ℕ → Type 0
    In o = (t : ℕ) → o ≡ Some t → t < length A.rules

    next_in : (o : Option ℕ) (b t : ℕ) → next_of A o b ≡ Some t → t < length A.rules
    next_in None b t e = cc
    next_in (Some s) b t e = by (slice_get A.class_of b) e
      where
        by : (c : Option ℕ) → option_and_then (next_by_class A s) c ≡ Some t → t < length A.rules
        by None e = cc
        by (Some c) e = is.within (A.starts + (s * A.classes + c)) t e

    -- a byte leads to the number of what it leads to
    step : (n s : ℕ) → IsNumberOf of picked (Some n) (Some s) → s < length A.rules → (b : ℕ)
        → IsNumberOf of picked (next_of B (Some n) b) (next_of A (Some s) b)
    step n s h l b = subst (λ cs. IsNumberOf of picked (option_and_then (next_by_class B n) (slice_get cs b))
        (option_and_then (next_by_class A s) (slice_get A.class_of b))) (sym so.class_of)
        (by (slice_get A.class_of b) refl)
      where
        by : (c : Option ℕ) → slice_get A.class_of b ≡ c
            → IsNumberOf of picked (option_and_then (next_by_class B n) c) (option_and_then (next_by_class A s) c)
        by None e = tt
        by (Some c) e =
            let less : c < A.classes = is.class_within b c e in
            let same : B.starts + (n * B.classes + c) ≡ A.starts + (n * A.classes + c)
            = ap (λ x. x + (n * B.classes + c)) so.starts ∙ ap (λ x. A.starts + (n * x + c)) so.classes in
            number_same of picked (entry_at B.entries (B.starts + (n * B.classes + c)))
            (next_by_class A (pick_of picked n) c) (next_by_class A s c)
            (stable.one_next (pick_of picked n) s c (so.states n h.0) l less h.1)
            (subst (λ k. IsNumberOf of picked (entry_at B.entries k) (next_by_class A (pick_of picked n) c)) (sym same)
            (so.at_row n c h.0 less))

    follow : (e o : Option ℕ) (w : List ℕ) → IsNumberOf of picked e o → ((t : ℕ) → o ≡ Some t → t < length A.rules)
        → IsNumberOf of picked (state_after B e w) (state_after A o w)
    follow e o [] h l = h
    follow None None (b ∷ w) h l = follow None None w tt (λ t e. cc)
    follow None (Some s) (b ∷ w) h l = absurd h
    follow (Some n) None (b ∷ w) h l = absurd h
    follow (Some n) (Some s) (b ∷ w) h l = follow (next_of B (Some n) b) (next_of A (Some s) b) w (step n s h
        (l s refl) b)
        (next_in (Some s) b)

    after_in : (o : Option ℕ) (w : List ℕ) → ((t : ℕ) → o ≡ Some t → t < length A.rules) → (t : ℕ)
        → state_after A o w ≡ Some t → t < length A.rules
    after_in o [] l = l
    after_in o (b ∷ w) l = after_in (next_of A o b) w (next_in o b)

    same_rule : (e o : Option ℕ) → IsNumberOf of picked e o → ((t : ℕ) → o ≡ Some t → t < length A.rules)
        → rule_of B e ≡ rule_of A o
    same_rule None None h l = refl
    same_rule None (Some s) h l = absurd h
    same_rule (Some n) None h l = absurd h
    same_rule (Some n) (Some s) h l = so.rules.same n h.0
        ∙ stable.one_rule (pick_of picked n) s (so.states n h.0) (l s refl) h.1

    rules_after : (e o : Option ℕ) (w : List ℕ) → IsNumberOf of picked e o → ((t : ℕ) → o ≡ Some t → t < length A.rules)
        → rule_after B e w ≡ rule_after A o w
    rules_after e o w h l = same_rule (state_after B e w) (state_after A o w) (follow e o w h l) (after_in o w l)

    start_number : (c : ℕ) (line : Bool) → IsNumberOf of picked (start_of B c line) (start_of A c line)
    start_number c line = subst (λ n. IsNumberOf of picked
        (if nat_lt (start_place c line) n then entry_at B.entries (start_place c line) else None) (start_of A c line))
        (sym so.starts) (elim (cases_lt (start_place c line) A.starts) [
          | inl less ↦ rw (lt-ltb (start_place c line) A.starts less) (so.at_start (start_place c line) less)
          | inr past ↦ rw (le-ltb (start_place c line) A.starts past) tt
        ])

    start_in : (c : ℕ) (line : Bool) (t : ℕ) → start_of A c line ≡ Some t → t < length A.rules
    start_in c line t e = elim (cases_lt (start_place c line) A.starts) [
      | inl less ↦ is.within (start_place c line) t (rw (lt-ltb (start_place c line) A.starts less) at e)
      | inr past ↦ absurd (let off : None ≡ Some t = rw (le-ltb (start_place c line) A.starts past) at e in cc)
    ]

    -- every start and string has the same rule
    pub quotient_same : HaveSameRules A B
    quotient_same c line w = sym (rules_after (start_of B c line) (start_of A c line) w (start_number c line)
        (start_in c line))

    number_of : (e : Option ℕ) (s : ℕ) → IsNumberOf of picked e (Some s)
        → (n : ℕ) × (e ≡ Some n) × (n < length picked) × (block_of of (pick_of picked n) ≡ block_of of s)
    number_of None s h = absurd h
    number_of (Some n) s h = (n, refl, h.0, h.1)

    own : (n : ℕ) → n < length picked → (w : List ℕ) → rule_after B (Some n) w ≡ rule_after A (Some
        (pick_of picked n)) w
    own n l w = rules_after (Some n) (Some (pick_of picked n)) w (l, refl)
        (λ t e. let same : pick_of picked n ≡ t = same_Some (pick_of picked n) t e in omega
        (arith, so.states n l, same))

    -- and it is reduced
    pub quotient_reduced : IsTrim A → AreApart A of → IsReducedAutomaton B
    quotient_reduced trim apart = record {
      trim = record {
        reached = λ n l.
            let less : n < length picked = let count = so.rules.count in omega arith in
            let r = trim.reached (pick_of picked n) (so.states n less) in
            let there = number_of (state_after B (start_of B r.0 r.1) r.2) (pick_of picked n)
            (subst (λ o. IsNumberOf of picked (state_after B (start_of B r.0 r.1) r.2) o) r.3
            (follow (start_of B r.0 r.1) (start_of A r.0 r.1) r.2 (start_number r.0 r.1) (start_in r.0 r.1))) in
            (r.0, r.1, r.2, there.1 ∙ ap (λ x. Some x) (so.one there.0 n there.2 less there.3));
        leads = λ n l.
            let less : n < length picked = let count = so.rules.count in omega arith in
            let r = trim.leads (pick_of picked n) (so.states n less) in
            (r.0, r.1, own n less r.0 ∙ r.2);
      };
      distinguished = λ i j l m ne.
          let a : i < length picked = let count = so.rules.count in omega (arith, l) in
          let b : j < length picked = let count = so.rules.count in omega (arith, m) in
          let d = apart (pick_of picked i) (pick_of picked j) (so.states i a) (so.states j b) (λ e. ne
          (so.one i j a b e)) in
          (d.0, λ e. d.1 (sym (own i a d.0) ∙ e ∙ own j b d.0));
    }

-- what was met is the automaton of the numbers
pub quotient_of : (A B : Automaton) (of : List ℕ) (count : ℕ) (q : Quotient) (numbers : List (Option ℕ))
    → B.classes ≡ A.classes → B.class_of ≡ A.class_of → B.starts ≡ A.starts → B.entries ≡ targets_of q
    → HaveRules A q.picked.items B.rules → IsQuotient A of q → AreNumberedBy of count numbers q.picked.items
    → length of ≡ length A.rules → length q.entries.items ≡ A.starts + length q.picked.items * A.classes
    → IsQuotientOf A B of q.picked.items
quotient_of A B of count q numbers classes class_of starts entries rules so by states full = record {
  classes = classes;
  class_of = class_of;
  starts = starts;
  rules = rules;
  states = λ n l. omega (arith, by.states n l, states);
  order = subst (λ es. AreInOrder A.starts A.classes (length q.picked.items) es) (sym entries) so.order;
  full = ap length entries ∙ count_targets q ∙ full;
  at_start = λ k l. subst (λ es. IsNumberOf of q.picked.items (entry_at es k) (entry_at A.entries k)) (sym entries)
      (so.at_start k (omega (arith, full, l)) l);
  at_row = λ n c l m. subst (λ es. IsNumberOf of q.picked.items (entry_at es (A.starts + (n * A.classes + c)))
      (next_by_class A (pick_of q.picked.items n) c)) (sym entries)
      (so.at_row n c m (let row = mul-add-lt n A.classes c (length q.picked.items) l m in
      let turned : A.classes * length q.picked.items ≡ length q.picked.items * A.classes
      = mul_comm A.classes (length q.picked.items) in omega (arith, row, turned, full))).1;
  one = λ i j l m e. same_Some i j (sym (by.numbered i l) ∙ ap (entry_at numbers) e ∙ by.numbered j m);
}
