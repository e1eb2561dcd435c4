-- Blocks that are split: a part of a block becomes a new one.
use Rattle.std.proofs.Common.{◌≡◌, ◌≢◌, ◌⊎◌, ◌<◌, ◌≤◌, ◌+◌, ◌∙◌, ◌++◌, ◌∷◌, [], ℕ, List, length}
use Rattle.std.proofs.Common.{sym, ap, refl, subst, arith, inl, inr, set, get_or, get_or-set_same, get_or-set_other}
use Rattle.std.proofs.lemmas.Bool.{cases_eq, cases_lt}
use Rattle.std.proofs.Common.{◌-◌, drop}
use Rattle.std.specs.Prelude.{Contains, slice_range}
use Rattle.std.proofs.lemmas.List.{get_or_append_left, get_or_default, get_or_push, get_or-drop, get_or-take}
use Rattle.std.proofs.lemmas.List.{length-drop, length-set, length-take-le, length_push}
use Rattle.ly_minim.specs.Private.Partition.{AreParts, ExactlyOne, IsCut, IsLaid, IsMarked, IsPartition, IsSplit}
use Rattle.ly_minim.specs.Private.Partition.{IsUnion, home}
use Rattle.ly_minim.specs.declared.partition.Partition.{Partition}

-- one more state of a run has moved to a block
module _ (n : ℕ) (place start of : List ℕ) (number from i x : ℕ) (all : length of ≡ n) (less : x < n)
    (at : get_or place x 0 ≡ i) (only : (s : ℕ) → s < n → get_or place s 0 ≡ i → s ≡ x) (past : from ≤ i) where
  pub moved_more : ((s : ℕ) → s < n → from ≤ get_or place s 0 → get_or place s 0 < i → get_or of s 0 ≡ number)
      → (s : ℕ) → s < n → from ≤ get_or place s 0 → get_or place s 0 < i + 1 → get_or (set of x number) s 0 ≡ number
  moved_more moved s l a b = elim (cases_eq s x) [
    | inl this ↦ ap (λ t. get_or (set of x number) t 0) this ∙ get_or-set_same of x number 0 (omega (arith, less, all))
    | inr ne ↦ get_or-set_other of x s number 0 ne ∙ moved s l a (elim (cases_lt (get_or place s 0) i) [
      | inl before ↦ before
      | inr past_it ↦ absurd (ne (only s l (omega (arith, past_it, b))))
    ])
  ]

  pub others_more : ((s : ℕ) → s < n → (get_or place s 0 < from) ⊎ (i ≤ get_or place s 0)
      → get_or of s 0 ≡ get_or start s 0)
      → (s : ℕ) → s < n → (get_or place s 0 < from) ⊎ (i + 1 ≤ get_or place s 0)
      → get_or (set of x number) s 0 ≡ get_or start s 0
  others_more others s l side = get_or-set_other of x s number 0 (elim side [
    | inl below ↦ λ this. omega (arith, below, past, ap (λ t. get_or place t 0) this, at)
    | inr above ↦ λ this. omega (arith, above, ap (λ t. get_or place t 0) this, at)
  ]) ∙ others s l (elim side [
    | inl below ↦ inl below
    | inr above ↦ inr (omega (arith, above))
  ])

-- a list with one place written and one element appended
module _ (xs ys : List ℕ) (b v w : ℕ) (e : ys ≡ set xs b v ++ w ∷ []) where
  pushed_other : (j : ℕ) → j < length xs → j ≢ b → get_or ys j 0 ≡ get_or xs j 0
  pushed_other j l ne = ap (λ zs. get_or zs j 0) e
      ∙ get_or_append_left (set xs b v) (w ∷ []) 0 j (omega (arith, l, length-set xs b v))
      ∙ get_or-set_other xs b j v 0 ne

  pushed_same : b < length xs → get_or ys b 0 ≡ v
  pushed_same l = ap (λ zs. get_or zs b 0) e
      ∙ get_or_append_left (set xs b v) (w ∷ []) 0 b (omega (arith, l, length-set xs b v)) ∙ get_or-set_same xs b v 0 l

  pushed_new : (c : ℕ) → length xs ≡ c → get_or ys c 0 ≡ w
  pushed_new c l = ap (λ zs. get_or zs c 0) e ∙ get_or_push (set xs b v) w 0 c (length-set xs b v ∙ l)

  pushed_length : length ys ≡ length xs + 1
  pushed_length = ap length e ∙ length_push (set xs b v) w ∙ ap (λ n. n + 1) (length-set xs b v)

abbrev state_at : Partition → ℕ → ℕ
state_at p i = get_or p.states.items i 0

abbrev place_of : Partition → ℕ → ℕ
place_of p s = get_or p.place.items s 0

abbrev first_of : Partition → ℕ → ℕ
first_of p b = get_or p.first.items b 0

abbrev middle_of : Partition → ℕ → ℕ
middle_of p b = get_or p.middle.items b 0

abbrev end_of : Partition → ℕ → ℕ
end_of p b = get_or p.end.items b 0

-- a part of a block ends within the states
pub part_inside : (old : Partition) (b k ke p pe : ℕ) → IsPartition old → b < length old.first.items
    → AreParts b k ke p pe old → pe ≤ length old.of.items
part_inside old b k ke p pe laid less parts = let kept = parts.kept_some in elim (parts.parts) [
  | inl e ↦ omega (arith, e.2, laid.inside b less)
  | inr e ↦ omega (arith, e.1, e.2, laid.inside b less)
]

module _ (old new : Partition) (b k ke p pe : ℕ) (laid : IsPartition old) (less : b < length old.first.items)
    (parts : AreParts b k ke p pe old) (cut : IsCut b k ke p pe old new) where
  bounds : (first_of old b ≤ k) × (ke ≤ end_of old b) × (first_of old b ≤ p) × (pe ≤ end_of old b)
  bounds = let kept = parts.kept_some in let part = parts.part_some in elim (parts.parts) [
    | inl e ↦ (omega (arith, e.0), omega (arith, e.1, e.2), omega (arith, e.0, e.1), omega (arith, e.2))
    | inr e ↦ (omega (arith, e.0, e.1), omega (arith, e.2), omega (arith, e.0), omega (arith, e.1, e.2))
  ]

  in_kept : (i : ℕ) → first_of old b ≤ i → i < end_of old b → (i < p) ⊎ (pe ≤ i) → (k ≤ i) × (i < ke)
  in_kept i l m side = let kept = parts.kept_some in let part = parts.part_some in elim (parts.parts) [
    | inl e ↦ elim side [
      | inl below ↦ (omega (arith, e.0, l), omega (arith, e.1, below))
      | inr above ↦ absurd (omega (arith, e.2, above, m))
    ]
    | inr e ↦ elim side [
      | inl below ↦ absurd (omega (arith, e.0, below, l))
      | inr above ↦ (omega (arith, e.1, above), omega (arith, e.2, m))
    ]
  ]

  off_part : (i : ℕ) → k ≤ i → i < ke → (i < p) ⊎ (pe ≤ i)
  off_part i l m = elim (parts.parts) [
    | inl e ↦ inl (omega (arith, e.1, m))
    | inr e ↦ inr (omega (arith, e.1, l))
  ]

  in_block : (s : ℕ) → s < length old.of.items → p ≤ place_of old s → place_of old s < pe → home old s ≡ b
  in_block s l a d = ap (λ x. get_or old.of.items x 0) (sym (laid.at_place s l))
      ∙ laid.block b (place_of old s) less (omega (arith, a, bounds.2)) (omega (arith, d, bounds.3))

  -- a state is in the part that is cut off, or stays in its block
  sides : (s : ℕ) → s < length old.of.items
      → ((p ≤ place_of old s) × (place_of old s < pe) × (home old s ≡ b) × (home new s ≡ length old.first.items))
      ⊎ (((place_of old s < p) ⊎ (pe ≤ place_of old s)) × (home new s ≡ home old s))
  sides s l = elim (cases_lt (place_of old s) p) [
    | inl below ↦ inr (inl below, cut.others s l (inl below))
    | inr from ↦ elim (cases_lt (place_of old s) pe) [
      | inl to ↦ inl (from, to, in_block s l from to, cut.moved s l from to)
      | inr above ↦ inr (inr above, cut.others s l (inr above))
    ]
  ]

  middle_less : b < length old.middle.items
  middle_less = let same = laid.middle_count in omega (arith, less)

  end_less : b < length old.end.items
  end_less = let same = laid.end_count in omega (arith, less)

  blocks_more : length new.first.items ≡ length old.first.items + 1
  blocks_more = pushed_length old.first.items new.first.items b k p cut.first

  first_other : (j : ℕ) → j < length old.first.items → j ≢ b → first_of new j ≡ first_of old j
  first_other = pushed_other old.first.items new.first.items b k p cut.first

  first_kept : first_of new b ≡ k
  first_kept = pushed_same old.first.items new.first.items b k p cut.first less

  first_part : first_of new (length old.first.items) ≡ p
  first_part = pushed_new old.first.items new.first.items b k p cut.first (length old.first.items) refl

  middle_other : (j : ℕ) → j < length old.first.items → j ≢ b → middle_of new j ≡ middle_of old j
  middle_other j l = pushed_other old.middle.items new.middle.items b k p cut.middle j
      (let same = laid.middle_count in omega (arith, l))

  middle_kept : middle_of new b ≡ k
  middle_kept = pushed_same old.middle.items new.middle.items b k p cut.middle middle_less

  middle_part : middle_of new (length old.first.items) ≡ p
  middle_part = pushed_new old.middle.items new.middle.items b k p cut.middle (length old.first.items) laid.middle_count

  end_other : (j : ℕ) → j < length old.first.items → j ≢ b → end_of new j ≡ end_of old j
  end_other j l = pushed_other old.end.items new.end.items b ke pe cut.end j
      (let same = laid.end_count in omega (arith, l))

  end_kept : end_of new b ≡ ke
  end_kept = pushed_same old.end.items new.end.items b ke pe cut.end end_less

  end_part : end_of new (length old.first.items) ≡ pe
  end_part = pushed_new old.end.items new.end.items b ke pe cut.end (length old.first.items) laid.end_count

  by_block : (P : ℕ → Type 0) → P (length old.first.items) → P b
      → ((j : ℕ) → j < length old.first.items → j ≢ b → P j) → (j : ℕ) → j < length new.first.items → P j
  by_block P part kept other j l = elim (cases_lt j (length old.first.items)) [
    | inl before ↦ elim (cases_eq j b) [
      | inl this ↦ subst P (sym this) kept
      | inr ne ↦ other j before ne
    ]
    | inr past ↦ let this : length old.first.items ≡ j = omega (arith, past, l, blocks_more) in subst P this part
  ]

  spans : (s : ℕ) → s < length old.of.items
      → (first_of new (home new s) ≤ place_of old s) × (place_of old s < end_of new (home new s))
  spans s l = elim (sides s l) [
    | inl part ↦ (
      omega (arith, ap (first_of new) part.3, first_part, part.0),
      omega (arith, ap (end_of new) part.3, end_part, part.1),
    )
    | inr stays ↦ elim (cases_eq (home old s) b) [
      | inl this ↦ let run = in_kept (place_of old s) (omega (arith, ap (first_of old) this, laid.begins s l))
          (omega (arith, ap (end_of old) this, laid.ends s l)) stays.0 in (
            omega (arith, ap (first_of new) (stays.1 ∙ this), first_kept, run.0),
            omega (arith, ap (end_of new) (stays.1 ∙ this), end_kept, run.1),
          )
      | inr ne ↦ (
        omega (arith, ap (first_of new) stays.1, first_other (home old s) (laid.within s l) ne, laid.begins s l),
        omega (arith, ap (end_of new) stays.1, end_other (home old s) (laid.within s l) ne, laid.ends s l),
      )
    ]
  ]

  -- the state at a place of the block
  resident : (j i : ℕ) → j < length old.first.items → first_of old j ≤ i → i < end_of old j
      → (state_at old i < length old.of.items) × (place_of old (state_at old i) ≡ i)
  resident j i l a d = let here : i < length old.of.items = omega (arith, laid.inside j l, d) in
      (laid.state_within i here, laid.place_at i here)

  whole_block : (j : ℕ) → j < length new.first.items → (i : ℕ) → first_of new j ≤ i → i < end_of new j
      → home new (state_at old i) ≡ j
  whole_block = by_block (λ j. (i : ℕ) → first_of new j ≤ i → i < end_of new j → home new (state_at old i) ≡ j)
      (λ i a d. let is = resident b i less (omega (arith, a, first_part, bounds.2))
      (omega (arith, d, end_part, bounds.3))
      in cut.moved (state_at old i) is.0 (omega (arith, is.1, a, first_part)) (omega (arith, is.1, d, end_part)))
      (λ i a d. let from : k ≤ i = omega (arith, a, first_kept) in
      let to : i < ke = omega (arith, d, end_kept) in
      let is = resident b i less (omega (arith, from, bounds.0)) (omega (arith, to, bounds.1)) in
      cut.others (state_at old i) is.0
      (subst (λ x. (x < p) ⊎ (pe ≤ x)) (sym is.1) (off_part i from to))
      ∙ laid.block b i less (omega (arith, from, bounds.0)) (omega (arith, to, bounds.1)))
      (λ j l ne i a d. let from : first_of old j ≤ i = omega (arith, a, first_other j l ne) in
      let to : i < end_of old j = omega (arith, d, end_other j l ne) in
      let is = resident j i l from to in
      elim (sides (state_at old i) is.0) [
        | inl part ↦ absurd (ne (sym (laid.block j i l from to) ∙ part.2))
        | inr stays ↦ stays.1 ∙ laid.block j i l from to
      ])

  new_laid : IsLaid (length old.of.items) new.states.items new.place.items new.of.items new.first.items new.middle.items
      new.end.items
  new_laid = record {
    fits = laid.fits;
    states_count = ap length cut.states ∙ laid.states_count;
    place_count = ap length cut.place ∙ laid.place_count;
    of_count = cut.count;
    middle_count = let same = laid.middle_count in
        omega (arith, pushed_length old.middle.items new.middle.items b k p cut.middle, blocks_more);
    end_count = let same = laid.end_count in
        omega (arith, pushed_length old.end.items new.end.items b ke pe cut.end, blocks_more);
    place_within = λ s l. subst (λ xs. get_or xs s 0 < length old.of.items) (sym cut.place) (laid.place_within s l);
    at_place = λ s l. ap (λ xs. get_or xs (place_of new s) 0) cut.states
        ∙ ap (λ xs. get_or old.states.items (get_or xs s 0) 0) cut.place ∙ laid.at_place s l;
    state_within = λ i l. subst (λ xs. get_or xs i 0 < length old.of.items) (sym cut.states) (laid.state_within i l);
    place_at = λ i l. ap (λ xs. get_or xs (state_at new i) 0) cut.place
        ∙ ap (λ xs. get_or old.place.items (get_or xs i 0) 0) cut.states ∙ laid.place_at i l;
    within = λ s l. elim (sides s l) [
      | inl part ↦ omega (arith, part.3, blocks_more)
      | inr stays ↦ omega (arith, stays.1, laid.within s l, blocks_more)
    ];
    begins = λ s l. subst (λ xs. first_of new (home new s) ≤ get_or xs s 0) (sym cut.place) (spans s l).0;
    ends = λ s l. subst (λ xs. get_or xs s 0 < end_of new (home new s)) (sym cut.place) (spans s l).1;
    block = λ j i l a d. ap (λ xs. home new (get_or xs i 0)) cut.states ∙ whole_block j l i a d;
    low = by_block (λ j. first_of new j ≤ middle_of new j) (omega (arith, first_part, middle_part))
        (omega (arith, first_kept, middle_kept))
        (λ j l ne. omega (arith, first_other j l ne, middle_other j l ne, laid.low j l));
    high = by_block (λ j. middle_of new j ≤ end_of new j)
        (let part = parts.part_some in omega (arith, middle_part, end_part))
        (let kept = parts.kept_some in omega (arith, middle_kept, end_kept))
        (λ j l ne. omega (arith, middle_other j l ne, end_other j l ne, laid.high j l));
    some = by_block (λ j. first_of new j < end_of new j)
        (let part = parts.part_some in omega (arith, first_part, end_part))
        (let kept = parts.kept_some in omega (arith, first_kept, end_kept))
        (λ j l ne. omega (arith, first_other j l ne, end_other j l ne, laid.some j l));
    inside = by_block (λ j. end_of new j ≤ length old.of.items)
        (omega (arith, end_part, bounds.3, laid.inside b less)) (omega (arith, end_kept, bounds.1, laid.inside b less))
        (λ j l ne. omega (arith, end_other j l ne, laid.inside j l));
  }

  finer : (s t : ℕ) → s < length old.of.items → t < length old.of.items → home new s ≡ home new t
      → home old s ≡ home old t
  finer s t l m e = elim (sides s l) [
    | inl x ↦ elim (sides t m) [
      | inl y ↦ x.2 ∙ sym y.2
      | inr y ↦ absurd (omega (arith, x.3, y.1, e, laid.within t m))
    ]
    | inr x ↦ elim (sides t m) [
      | inl y ↦ absurd (omega (arith, x.1, y.3, e, laid.within s l))
      | inr y ↦ sym x.1 ∙ e ∙ y.1
    ]
  ]

  part_length : length (slice_range old.states.items p pe) ≡ pe - p
  part_length = length-take-le (pe - p) (drop p old.states.items)
      (let all = laid.states_count in omega (
        arith,
        length-drop p old.states.items,
        part_inside old b k ke p pe laid less parts,
      ))

  part_at : (j d : ℕ) → j < pe - p → get_or (slice_range old.states.items p pe) j d ≡ state_at old (p + j)
  part_at j d l = get_or-take (pe - p) (drop p old.states.items) j d l ∙ get_or-drop p old.states.items j d
      ∙ get_or_default old.states.items (p + j) d 0
      (let all = laid.states_count in omega (arith, l, part_inside old b k ke p pe laid less parts))

  part_place : (s : ℕ) → Contains (slice_range old.states.items p pe) s
      → (s < length old.of.items) × (p ≤ place_of old s) × (place_of old s < pe)
  part_place s (j, l, e) =
      let less_part : j < pe - p = omega (arith, l, part_length) in
      let is : state_at old (p + j) ≡ s = sym (part_at j s less_part) ∙ e in
      let here : p + j < length old.of.items = omega (arith, less_part, part_inside old b k ke p pe laid less parts) in
      let place : place_of old s ≡ p + j = ap (place_of old) (sym is) ∙ laid.place_at (p + j) here in
      (omega (arith, is, laid.state_within (p + j) here), omega (arith, place), omega (arith, place, less_part))

  part_has : (s : ℕ) → s < length old.of.items → p ≤ place_of old s → place_of old s < pe
      → Contains (slice_range old.states.items p pe) s
  part_has s l from to = let less_part : place_of old s - p < pe - p = omega (arith, from, to) in
      let back : p + (place_of old s - p) ≡ place_of old s = omega (arith, from) in (
        place_of old s - p,
        omega (arith, less_part, part_length),
        part_at (place_of old s - p) s less_part ∙ ap (state_at old) back ∙ laid.at_place s l,
      )

  -- the part is a block
  pub part_union : IsUnion new.of.items (slice_range old.states.items p pe)
  part_union = record {
    inside = λ s in_part. omega (arith, (part_place s in_part).0, cut.count);
    whole = λ s t l in_part e.
        let at = part_place s in_part in
        let here : t < length old.of.items = omega (arith, l, cut.count) in
        elim (sides t here) [
          | inl part ↦ part_has t here part.0 part.1
          | inr stays ↦ absurd (omega (arith, stays.1, laid.within t here, e, cut.moved s at.0 at.1 at.2))
        ];
  }

  -- lists of whole blocks stay so
  pub union_more : (xs : List ℕ) → IsUnion old.of.items xs → IsUnion new.of.items xs
  union_more xs so = record {
    inside = λ s has. omega (arith, so.inside s has, cut.count);
    whole = λ s t l has e. let here : t < length old.of.items = omega (arith, l, cut.count) in
        so.whole s t here has (finer t s here (so.inside s has) e);
  }

  module _ (linked : ((p ≡ first_of old b) × (pe ≡ middle_of old b) × (k ≡ middle_of old b))
      ⊎ ((ke ≡ middle_of old b) × (p ≡ middle_of old b))) where
    one_marked : (s t : ℕ) → p ≤ place_of old s → place_of old s < pe → home old s ≡ b → k ≤ place_of old t
        → place_of old t < ke → home old t ≡ b → ExactlyOne (IsMarked old s) (IsMarked old t)
    one_marked s t from to x kept kept_end y = elim linked [
      | inl e ↦ inl (
        omega (arith, to, e.1, ap (middle_of old) x),
        λ m. omega (arith, m, kept, e.2, ap (middle_of old) y),
      )
      | inr e ↦ inr (
        λ m. omega (arith, m, from, e.1, ap (middle_of old) x),
        omega (arith, kept_end, e.0, ap (middle_of old) y),
      )
    ]

    turned : (P Q : Type 0) → ExactlyOne P Q → ExactlyOne Q P
    turned P Q (inl x) = inr (x.1, x.0)
    turned P Q (inr x) = inl (x.1, x.0)

    kept_of : (t : ℕ) → t < length old.of.items → (place_of old t < p) ⊎ (pe ≤ place_of old t) → home old t ≡ b
        → (k ≤ place_of old t) × (place_of old t < ke)
    kept_of t m side y = in_kept (place_of old t) (omega (arith, ap (first_of old) y, laid.begins t m))
        (omega (arith, ap (end_of old) y, laid.ends t m)) side

    apart : (s t : ℕ) → s < length old.of.items → t < length old.of.items → home old s ≡ home old t
        → home new s ≢ home new t → (home old s ≡ b) × ExactlyOne (IsMarked old s) (IsMarked old t)
    apart s t l m e ne = elim (sides s l) [
      | inl x ↦ elim (sides t m) [
        | inl y ↦ absurd (ne (x.3 ∙ sym y.3))
        | inr y ↦ let run = kept_of t m y.0 (sym e ∙ x.2) in
            (x.2, one_marked s t x.0 x.1 x.2 run.0 run.1 (sym e ∙ x.2))
      ]
      | inr x ↦ elim (sides t m) [
        | inl y ↦ let run = kept_of s l x.0 (e ∙ y.2) in (
          e ∙ y.2,
          turned (IsMarked old t) (IsMarked old s) (one_marked t s y.0 y.1 y.2 run.0 run.1 (e ∙ y.2)),
        )
        | inr y ↦ absurd (ne (x.1 ∙ e ∙ sym y.1))
      ]
    ]

    -- the block is split
    pub split_of : IsSplit b old new
    split_of = record {
      laid = subst (λ n. IsLaid n new.states.items new.place.items new.of.items new.first.items new.middle.items
          new.end.items) (sym cut.count) new_laid;
      count = cut.count;
      more = omega (arith, blocks_more);
      place = cut.place;
      finer = finer;
      apart = apart;
      kept = λ s l ne. elim (sides s l) [
        | inl x ↦ absurd (ne x.2)
        | inr x ↦ x.1
      ];
      moved = λ s l e. elim (sides s l) [
        | inl x ↦ inr (omega (arith, x.3))
        | inr x ↦ inl (x.1 ∙ e)
      ];
      same_first = first_other;
      same_middle = middle_other;
      clear = λ j l which. elim which [
        | inl this ↦ subst (λ x. middle_of new x ≡ first_of new x) (sym this) (middle_kept ∙ sym first_kept)
        | inr past ↦ let this : length old.first.items ≡ j = omega (arith, past, l, blocks_more) in
            subst (λ x. middle_of new x ≡ first_of new x) this (middle_part ∙ sym first_part)
      ];
    }
