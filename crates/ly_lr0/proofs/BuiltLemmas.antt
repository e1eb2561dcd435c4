-- One transition more of the row that is being built.
use Rattle.std.proofs.Common.{◌≡◌, ◌≢◌, ◌⊎◌, inl, inr, ℕ, suc, ◌+◌, ◌<◌, ◌≤◌, List, [], ◌∷◌, ◌++◌}
use Rattle.std.proofs.Common.{refl, sym, ◌∙◌, ap, subst, arith, length}
use Rattle.std.specs.Prelude.{◌↔◌, Contains, slice_index_or}
use Rattle.std.proofs.lemmas.Bool.{cases_lt}
use Rattle.std.proofs.lemmas.List.{get_or_append_left, get_or_push, length_push}
use Rattle.std.proofs.lemmas.List.Elements.{Contains-append_left, Contains-get_or, Contains-push, Contains-push_cases}
use Rattle.ly_base.specs.Keys.{IsAbsent}
use Rattle.ly_join.specs.Grammar.{Grammar, Symbol, terminal}
use Rattle.ly_lr0.specs.Automaton.{IsLess, Transition}
use Rattle.ly_lr0.specs.declared.item.Item.{Item}
use Rattle.ly_lr0.specs.Private.Built.{AreFound, AreInOrder, IsLed, IsNumbered, HasTransition, Link, LinkIsLess}
use Rattle.ly_lr0.specs.Private.Built.{link_at}
use Rattle.ly_lr0.specs.Private.Closing.{AreKept}
use Rattle.ly_lr0.specs.Private.Items.{AreRising, IsMoved}
use Rattle.ly_lr0.specs.Private.Kernels.{kernel_at}

-- what holds of each element and of one more
each_more : {X : Type 0} (xs : List X) (x d : X) (P : ℕ → X → Type 0)
    → ((k : ℕ) → k < length xs → P k (slice_index_or xs k d))
    → P (length xs) x → (k : ℕ) → k < length (xs ++ x ∷ []) → P k (slice_index_or (xs ++ x ∷ []) k d)
each_more xs x d P all one k l = elim (cases_lt k (length xs)) [
  | inl less ↦ subst (P k) (sym (get_or_append_left xs (x ∷ []) d k less)) (all k less)
  | inr past ↦ let last : length xs ≡ k = omega (arith, length_push xs x, l, past) in
      subst (λ n. P n (slice_index_or (xs ++ x ∷ []) n d)) last
      (subst (P (length xs)) (sym (get_or_push xs x d (length xs) refl)) one)
]

module _ (rows : List (List Transition)) (part : List Transition) (t : Transition) where
  leads_keep : (s : ℕ) (u : Transition) → HasTransition (rows ++ part ∷ []) s u
      → HasTransition (rows ++ (part ++ t ∷ []) ∷ []) s u
  leads_keep s u l = (
    omega (arith, l.0, length_push rows part, length_push rows (part ++ t ∷ [])),
    elim (cases_lt s (length rows)) [
      | inl less ↦ subst (λ r. Contains r u) (sym (get_or_append_left rows ((part ++ t ∷ []) ∷ []) [] s less))
          (subst (λ r. Contains r u) (get_or_append_left rows (part ∷ []) [] s less) l.1)
      | inr past ↦
          let last : length rows ≡ s = omega (arith, l.0, past, length_push rows part) in
          subst (λ r. Contains r u) (sym (get_or_push rows (part ++ t ∷ []) [] s last))
          (Contains-append_left part (t ∷ []) u
          (subst (λ r. Contains r u) (get_or_push rows part [] s last) l.1))
    ],
  )

  leads_new : HasTransition (rows ++ (part ++ t ∷ []) ∷ []) (length rows) t
  leads_new = (
    omega (arith, length_push rows (part ++ t ∷ [])),
    subst (λ r. Contains r t) (sym (get_or_push rows (part ++ t ∷ []) [] (length rows) refl)) (Contains-push part t),
  )

  leads_more : (s : ℕ) (u : Transition) → HasTransition (rows ++ (part ++ t ∷ []) ∷ []) s u
      → HasTransition (rows ++ part ∷ []) s u ⊎ ((s ≡ length rows) × (t ≡ u))
  leads_more s u l = elim (cases_lt s (length rows)) [
    | inl less ↦ inl (
      omega (arith, less, length_push rows part),
      subst (λ r. Contains r u) (sym (get_or_append_left rows (part ∷ []) [] s less))
          (subst (λ r. Contains r u) (get_or_append_left rows ((part ++ t ∷ []) ∷ []) [] s less) l.1),
    )
    | inr past ↦
        let last : length rows ≡ s = omega (arith, l.0, past, length_push rows (part ++ t ∷ [])) in
        elim (Contains-push_cases part t u
        (subst (λ r. Contains r u) (get_or_push rows (part ++ t ∷ []) [] s last) l.1)) [
          | inl old ↦ inl (
            omega (arith, last, length_push rows part),
            subst (λ r. Contains r u) (sym (get_or_push rows part [] s last)) old,
          )
          | inr same ↦ inr (sym last, same)
        ]
  ]

  sorted_more : ((s : ℕ) → s < length (rows ++ part ∷ []) → AreInOrder (slice_index_or (rows ++ part ∷ []) s []))
      → ((u : Transition) → Contains part u → IsLess u.symbol t.symbol)
      → (s : ℕ) → s < length (rows ++ (part ++ t ∷ []) ∷ [])
      → AreInOrder (slice_index_or (rows ++ (part ++ t ∷ []) ∷ []) s [])
  sorted_more sorted greater = each_more rows (part ++ t ∷ []) [] (λ _ row. AreInOrder row)
      (λ s l. subst AreInOrder (get_or_append_left rows (part ∷ []) [] s l)
      (sorted s (omega (arith, l, length_push rows part))))
      (λ i j d l m. elim (cases_lt j (length part)) [
        | inl less ↦
            let low : i < length part = omega (arith, l, less) in
            subst (λ u. IsLess u.symbol (slice_index_or (part ++ t ∷ []) j d).symbol)
            (sym (get_or_append_left part (t ∷ []) d i low))
            (subst (λ u. IsLess (slice_index_or part i d).symbol u.symbol)
            (sym (get_or_append_left part (t ∷ []) d j less))
            (before i j d l less))
        | inr past ↦
            let last : length part ≡ j = omega (arith, m, past, length_push part t) in
            let low : i < length part = omega (arith, l, last) in
            subst (λ u. IsLess u.symbol (slice_index_or (part ++ t ∷ []) j d).symbol)
            (sym (get_or_append_left part (t ∷ []) d i low))
            (subst (λ u. IsLess (slice_index_or part i d).symbol u.symbol) (sym (get_or_push part t d j last))
            (greater (slice_index_or part i d) (Contains-get_or part i d low)))
      ])
    where
      before : AreInOrder part
      before = subst AreInOrder (get_or_push rows part [] (length rows) refl)
          (sorted (length rows) (omega (arith, length_push rows part)))

module _ (G : Grammar) (kernels : List (List Item)) (links : List Link) (rows : List (List Transition))
    (part : List Transition)
    (X : Symbol) (kernel : List Item) (found : AreFound G kernels links (rows ++ part ∷ [])) (other : X ≢ terminal 0)
    (moved : (i : Item) → Contains kernel i ↔ IsMoved G (kernel_at kernels (length rows)) X i)
    (some : (i : Item) × Contains kernel i) (rising : AreRising kernel) (kept : AreKept G kernel)
    (greater : (u : Transition) → Contains part u → IsLess u.symbol X) where
  abbrev here : Link
  here = record { from = length rows; symbol = X }

  within : length rows < length kernels
  within = let w = found.within in omega (arith, w, length_push rows part)

  -- the links so far come before one from here
  link_before : (k : ℕ) → k < length links → LinkIsLess (link_at links k) here
  link_before k l =
      let led = found.linked k l in
      elim (cases_lt (link_at links k).from (length rows)) [
        | inl less ↦ inl less
        | inr past ↦
            let last : length rows ≡ (link_at links k).from = omega (arith, led.0, past, length_push rows part) in
            inr (
              sym last,
              greater (record { symbol = (link_at links k).symbol; target = suc k })
                  (subst (λ r. Contains r (record { symbol = (link_at links k).symbol; target = suc k }))
                  (get_or_push rows part [] (link_at links k).from last) led.1),
            )
      ]

  known : (n : ℕ) → n < length kernels → kernel_at kernels n ≡ kernel
      → AreFound G kernels links (rows ++ (part ++ record { symbol = X; target = n } ∷ []) ∷ [])
  known n l same = record {
    start = found.start;
    count = found.count;
    rising = found.rising;
    kept = found.kept;
    apart = found.apart;
    within = let w = within in omega (arith, w, length_push rows (part ++ record { symbol = X; target = n } ∷ []));
    sorted = sorted_more rows part (record { symbol = X; target = n }) found.sorted greater;
    led = λ s u h. elim (leads_more rows part (record { symbol = X; target = n }) s u h) [
      | inl old ↦ found.led s u old
      | inr e ↦ subst (IsLed G kernels s) e.1
          (subst (λ m. IsLed G kernels m (record { symbol = X; target = n })) (sym e.0)
          (record {
            within = l;
            symbol = other;
            moved = subst (λ k. (i : Item) → Contains k i ↔ IsMoved G (kernel_at kernels (length rows)) X i) (sym same)
                moved;
            some = (some.0, subst (λ k. Contains k some.0) (sym same) some.1);
          }))
    ];
    linked = λ k m. leads_keep rows part (record { symbol = X; target = n }) _ _ (found.linked k m);
    back = found.back;
    ordered = found.ordered;
    first = λ s u k h e. elim (leads_more rows part (record { symbol = X; target = n }) s u h) [
      | inl old ↦ found.first s u k old e
      | inr x ↦
          let target : n ≡ suc k = ap (λ v. v.target) x.1 ∙ e in
          let less : k < length links = let c = found.count in omega (arith, target, l) in
          inr (subst (λ v. LinkIsLess (link_at links k) (record { from = s; symbol = v.symbol })) x.1
          (subst (λ m. LinkIsLess (link_at links k) (record { from = m; symbol = X })) (sym x.0) (link_before k less)))
    ];
  }

  module _ (absent : IsAbsent kernels kernel) where
    abbrev more : List (List Item)
    more = kernels ++ kernel ∷ []

    abbrev longer : List Link
    longer = links ++ here ∷ []

    abbrev last : Transition
    last = record { symbol = X; target = length kernels }

    long : length more ≡ length kernels + 1
    long = length_push kernels kernel

    kernel_old : (s : ℕ) → s < length kernels → kernel_at more s ≡ kernel_at kernels s
    kernel_old s l = get_or_append_left kernels (kernel ∷ []) [] s l

    kernel_new : kernel_at more (length kernels) ≡ kernel
    kernel_new = get_or_push kernels kernel [] (length kernels) refl

    link_old : (k : ℕ) → k < length links → link_at longer k ≡ link_at links k
    link_old k l = get_or_append_left links (here ∷ []) _ k l

    link_new : (k : ℕ) → length links ≡ k → link_at longer k ≡ here
    link_new k e = get_or_push links here _ k e

    led_more : (s : ℕ) (u : Transition) → s < length kernels → IsLed G kernels s u → IsLed G more s u
    led_more s u l led =
        let target = kernel_old u.target led.within in
        record {
          within = omega (arith, long, led.within);
          symbol = led.symbol;
          moved = subst (λ k. (i : Item) → Contains k i ↔ IsMoved G (kernel_at more s) u.symbol i) (sym target)
              (subst (λ k. (i : Item) → Contains (kernel_at kernels u.target) i ↔ IsMoved G k u.symbol i)
              (sym (kernel_old s l)) led.moved);
          some = (led.some.0, subst (λ k. Contains k led.some.0) (sym target) led.some.1);
        }

    led_last : IsLed G more (length rows) last
    led_last = record {
      within = omega (arith, long);
      symbol = other;
      moved = subst (λ k. (i : Item) → Contains k i ↔ IsMoved G (kernel_at more (length rows)) X i) (sym kernel_new)
          (subst (λ k. (i : Item) → Contains kernel i ↔ IsMoved G k X i) (sym (kernel_old (length rows) within)) moved);
      some = (some.0, subst (λ k. Contains k some.0) (sym kernel_new) some.1);
    }

    one_apart : (s t : ℕ) → s < length more → t < length more → kernel_at more s ≡ kernel_at more t → s ≡ t
    one_apart s t l m = each_more kernels kernel [] (λ s' k. k ≡ kernel_at more t → s' ≡ t)
        (λ s' less. each_more kernels kernel [] (λ t' k. kernel_at kernels s' ≡ k → s' ≡ t')
        (λ t' low e. found.apart s' t' less low e)
        (λ e. absurd (absent s' less e)) t m)
        (each_more kernels kernel [] (λ t' k. kernel ≡ k → length kernels ≡ t')
        (λ t' low e. absurd (absent t' low (sym e)))
        (λ e. refl) t m)
        s l

    new : AreFound G more longer (rows ++ (part ++ last ∷ []) ∷ [])
    new = record {
      start = kernel_old 0 (let c = found.count in omega arith) ∙ found.start;
      count = let c = found.count in omega (arith, long, length_push links here);
      rising = each_more kernels kernel [] (λ _ k. AreRising k) found.rising rising;
      kept = each_more kernels kernel [] (λ _ k. AreKept G k) found.kept kept;
      apart = one_apart;
      within = let w = within in omega (arith, w, long, length_push rows (part ++ last ∷ []));
      sorted = sorted_more rows part last found.sorted greater;
      led = λ s u h. elim (leads_more rows part last s u h) [
        | inl old ↦ led_more s u (let w = found.within in omega (arith, old.0, w)) (found.led s u old)
        | inr e ↦ subst (IsLed G more s) e.1 (subst (λ m. IsLed G more m last) (sym e.0) led_last)
      ];
      linked = λ k l. elim (cases_lt k (length links)) [
        | inl less ↦ subst (λ j. HasTransition (rows ++ (part ++ last ∷ []) ∷ []) j.from
            (record { symbol = j.symbol; target = suc k }))
            (sym (link_old k less)) (leads_keep rows part last _ _ (found.linked k less))
        | inr past ↦
            let end : length links ≡ k = omega (arith, l, past, length_push links here) in
            let target : length kernels ≡ suc k = let c = found.count in omega (arith, end) in
            subst (λ j. HasTransition (rows ++ (part ++ last ∷ []) ∷ []) j.from
            (record { symbol = j.symbol; target = suc k }))
            (sym (link_new k end)) (subst (λ n. HasTransition (rows ++ (part ++ last ∷ []) ∷ []) (length rows)
            (record { symbol = X; target = n })) target (leads_new rows part last))
      ];
      back = λ k l. elim (cases_lt k (length links)) [
        | inl less ↦ subst (λ j. j.from ≤ k) (sym (link_old k less)) (found.back k less)
        | inr past ↦
            let end : length links ≡ k = omega (arith, l, past, length_push links here) in
            subst (λ j. j.from ≤ k) (sym (link_new k end)) (let c = found.count in let w = within in
            omega (arith, end, w))
      ];
      ordered = λ k j l m. elim (cases_lt j (length links)) [
        | inl less ↦
            let low : k < length links = omega (arith, l, less) in
            subst (λ a. LinkIsLess a (link_at longer j)) (sym (link_old k low))
            (subst (LinkIsLess (link_at links k)) (sym (link_old j less)) (found.ordered k j l less))
        | inr past ↦
            let end : length links ≡ j = omega (arith, m, past, length_push links here) in
            let low : k < length links = omega (arith, l, end) in
            subst (λ a. LinkIsLess a (link_at longer j)) (sym (link_old k low))
            (subst (LinkIsLess (link_at links k)) (sym (link_new j end)) (link_before k low))
      ];
      first = λ s u k h e. elim (leads_more rows part last s u h) [
        | inl old ↦
            let led = found.led s u old in
            let less : k < length links = let c = found.count in omega (arith, e, led.within) in
            subst (λ a. (a ≡ record { from = s; symbol = u.symbol })
            ⊎ LinkIsLess a (record { from = s; symbol = u.symbol }))
            (sym (link_old k less)) (found.first s u k old e)
        | inr x ↦
            let target : length kernels ≡ suc k = ap (λ v. v.target) x.1 ∙ e in
            let end : length links ≡ k = let c = found.count in omega (arith, target) in
            inl (link_new k end ∙ ap (λ m. record { from = m; symbol = X }) (sym x.0)
            ∙ ap (λ v. record { from = s; symbol = v.symbol }) x.1)
      ];
    }

  -- a transition to the kernel's state, which is there or new
  pub found_more : (kernels' : List (List Item)) (links' : List Link) (n : ℕ)
      → IsNumbered kernels links kernel here kernels' links' n
      → AreFound G kernels' links' (rows ++ (part ++ record { symbol = X; target = n } ∷ []) ∷ [])
  found_more kernels' links' n (inl k) =
      subst (λ ks. AreFound G ks links' (rows ++ (part ++ record { symbol = X; target = n } ∷ []) ∷ [])) (sym k.2)
      (subst (λ ls. AreFound G kernels ls (rows ++ (part ++ record { symbol = X; target = n } ∷ []) ∷ [])) (sym k.3)
      (known n k.0 k.1))
  found_more kernels' links' n (inr k) =
      subst (λ ks. AreFound G ks links' (rows ++ (part ++ record { symbol = X; target = n } ∷ []) ∷ [])) (sym k.2)
      (subst (λ ls. AreFound G (kernels ++ kernel ∷ []) ls
      (rows ++ (part ++ record { symbol = X; target = n } ∷ []) ∷ [])) (sym k.3)
      (subst (λ m. AreFound G (kernels ++ kernel ∷ []) (links ++ here ∷ [])
      (rows ++ (part ++ record { symbol = X; target = m } ∷ []) ∷ [])) (sym k.1)
      (new k.0)))
