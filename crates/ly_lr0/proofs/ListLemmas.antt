-- Lists of what a kernel closes to, and the order of moves.
use Rattle.std.proofs.Common.{◌≡◌, ◌≢◌, ◌⊎◌, inl, inr, ℕ, zero, suc, ◌<◌, List, [], ◌∷◌, ◌++◌}
use Rattle.std.proofs.Common.{refl, sym, ◌∙◌, ap, subst, arith, is_some}
use Rattle.std.specs.Prelude.{◌↔◌, ◌&&◌, All, AllPairs, Bool, Contains, MatchOption, None, Option, Some, false, nat_eq}
use Rattle.std.specs.Prelude.{not, slice_index_or, true}
use Rattle.std.specs.Ordering.{MatchOrdering, nat_cmp, ordering_then}
use Rattle.std.specs.List.{AllByRecursion}
use Rattle.std.specs.List.Sorted.{IsStrictlySortedBy}
use Rattle.std.specs.declared.cmp.Ordering.{Ordering}
use Rattle.std.specs.declared.cmp.Ordering.TheVariants.{Less, Equal, Greater}
use Rattle.std.proofs.lemmas.Bool.{and_parts, eqb-true}
use Rattle.std.proofs.lemmas.Cmp.{ranked}
use Rattle.std.proofs.lemmas.List.Elements.{Contains-append_cases, Contains-append_left, Contains-append_right}
use Rattle.std.proofs.lemmas.List.Elements.{Contains-push, Contains-push_cases}
use Rattle.std.proofs.lemmas.List.Kept.{AllPairs-cons}
use Rattle.ly_base.proofs.MemberLemmas.{Contains-none}
use Rattle.ly_join.specs.Grammar.{Grammar, symbol_of, terminal}
use Rattle.ly_join.specs.declared.symbol.Symbol as code
use Rattle.ly_join.specs.declared.symbol.Symbol.TheVariants.{Terminal, Nonterminal}
use Rattle.ly_lr0.proofs.ItemLemmas.{item_same}
use Rattle.ly_lr0.specs.declared.item.Item.{Item}
use Rattle.ly_lr0.specs.declared.item.Move.{Move}
use Rattle.ly_lr0.specs.contracts.item.MovePartialEq.TheImpl as eq
use Rattle.ly_lr0.specs.contracts.item.MoveOrd.TheImpl as order
use Rattle.ly_lr0.specs.Automaton.{IsLess}
use Rattle.ly_lr0.specs.Private.Closing.{IsAtEnd, IsListed, IsMove, IsMoveOfOne, IsRuleAtEnd, MoveIsLess}
use Rattle.ly_lr0.specs.Private.Items.{item_cmp}
use Rattle.ly_lr0.proofs.ClosingLemmas.{behind_one, end_off}
use Rattle.ly_lr0.proofs.GroupLemmas.{symbol_one}

pub listed_rule : (P : Item → Type 0) (items items' : List Item) (rs rs' : List ℕ) (q : ℕ)
    → ((i : Item) → Contains items i ↔ (P i ⊎ (Contains rs i.rule × (i.dot ≡ 0))))
    → items' ≡ items ++ record { rule = q; dot = 0 } ∷ [] → rs' ≡ rs ++ q ∷ []
    → (i : Item) → Contains items' i ↔ (P i ⊎ (Contains rs' i.rule × (i.dot ≡ 0)))
listed_rule P items items' rs rs' q are grown more i = (
  λ c. elim (Contains-push_cases items (record { rule = q; dot = 0 }) i (subst (λ xs. Contains xs i) grown c)) [
    | inl old ↦ elim ((are i).0 old) [
      | inl p ↦ inl p
      | inr x ↦ inr (subst (λ xs. Contains xs i.rule) (sym more) (Contains-append_left rs (q ∷ []) i.rule x.0), x.1)
    ]
    | inr same ↦ inr (
      subst (λ xs. Contains xs i.rule) (sym more)
          (subst (Contains (rs ++ q ∷ [])) (ap (λ j. j.rule) same) (Contains-push rs q)),
      sym (ap (λ j. j.dot) same),
    )
  ],
  λ h. subst (λ xs. Contains xs i) (sym grown) (elim h [
    | inl p ↦ Contains-append_left items (record { rule = q; dot = 0 } ∷ []) i ((are i).1 (inl p))
    | inr x ↦ elim (Contains-push_cases rs q i.rule (subst (λ xs. Contains xs i.rule) more x.0)) [
      | inl old ↦ Contains-append_left items (record { rule = q; dot = 0 } ∷ []) i ((are i).1 (inr (old, x.1)))
      | inr same ↦ subst (Contains (items ++ record { rule = q; dot = 0 } ∷ [])) (one i same x.1)
          (Contains-push items (record { rule = q; dot = 0 }))
    ]
  ]),
)
  where
    one : (i : Item) → q ≡ i.rule → i.dot ≡ 0 → record { rule = q; dot = 0 } ≡ i
    one i a b = ap (λ n. record { rule = n; dot = 0 }) a ∙ ap (λ n. record { rule = i.rule; dot = n }) (sym b)

-- the kernel's own items behind the rules
pub listed_kernel : (lists : List (List ℕ)) (kernel items items' : List Item) (es : List ℕ)
    → ((i : Item) → Contains items i ↔ IsListed lists [] es i) → items' ≡ items ++ kernel
    → (i : Item) → Contains items' i ↔ IsListed lists kernel es i
listed_kernel lists kernel items items' es are more i = (
  λ c. elim (Contains-append_cases items kernel i (subst (λ xs. Contains xs i) more c)) [
    | inl old ↦ elim ((are i).0 old) [
      | inl none ↦ Contains-none i none
      | inr x ↦ inr x
    ]
    | inr k ↦ inl k
  ],
  λ h. subst (λ xs. Contains xs i) (sym more) (elim h [
    | inl k ↦ Contains-append_right items kernel i k
    | inr x ↦ Contains-append_left items kernel i ((are i).1 (inr x))
  ]),
)

pub listed_left : (lists : List (List ℕ)) (kernel items : List Item) (es es' rs : List ℕ) (A : ℕ)
    → ((i : Item) → Contains items i ↔ (IsListed lists kernel es i ⊎ (Contains rs i.rule × (i.dot ≡ 0))))
    → rs ≡ slice_index_or lists A [] → es' ≡ es ++ A ∷ []
    → (i : Item) → Contains items i ↔ IsListed lists kernel es' i
listed_left lists kernel items es es' rs A are here more i = (
  λ c. elim ((are i).0 c) [
    | inl (inl k) ↦ inl k
    | inl (inr x) ↦ inr (
      x.0,
      subst (λ xs. Contains xs x.0) (sym more) (Contains-append_left es (A ∷ []) x.0 x.1),
      x.2,
      x.3,
    )
    | inr x ↦ inr (
      A,
      subst (λ xs. Contains xs A) (sym more) (Contains-push es A),
      subst (λ xs. Contains xs i.rule) here x.0,
      x.1,
    )
  ],
  λ h. (are i).1 (elim h [
    | inl k ↦ inl (inl k)
    | inr x ↦ elim (Contains-push_cases es A x.0 (subst (λ xs. Contains xs x.0) more x.1)) [
      | inl old ↦ inl (inr (x.0, old, x.2, x.3))
      | inr same ↦ inr (
        subst (λ xs. Contains xs i.rule) (sym here)
            (subst (λ B. Contains (slice_index_or lists B []) i.rule) (sym same) x.2),
        x.3,
      )
    ]
  ]),
)

move_one : (G : Grammar) (i : Item) (m n : Move) → IsMove G i m → IsMove G i n → m ≡ n
move_one G i m n a b =
    let symbol : m.symbol ≡ n.symbol = symbol_one m.symbol n.symbol (behind_one G i.rule i.dot _ _ a.behind b.behind) in
    let rule : m.item.rule ≡ n.item.rule = a.rule ∙ sym b.rule in
    let dot : m.item.dot ≡ n.item.dot = a.dot ∙ sym b.dot in
    ap (λ X. record { symbol = X; item = m.item }) symbol
    ∙ ap (λ r. record { symbol = n.symbol; item = record { rule = r; dot = m.item.dot } }) rule
    ∙ ap (λ r. record { symbol = n.symbol; item = record { rule = n.item.rule; dot = r } }) dot

module _ (G : Grammar) (known : List Move) (is is' : List Item) (i : Item) (ms ms' : List Move)
    (are : (m : Move) → Contains ms m ↔ (Contains known m ⊎ IsMoveOfOne G is m)) (more : is' ≡ is ++ i ∷ []) where
  older : (m : Move) → IsMoveOfOne G is m → IsMoveOfOne G is' m
  older m h = (
    h.0,
    (
      h.1.0,
      subst (λ xs. Contains xs h.1.0) (sym more) (Contains-append_left is (i ∷ []) h.1.0 h.1.1),
      h.1.2,
    ),
  )

  split : (m : Move) → IsMoveOfOne G is' m → IsMoveOfOne G is m ⊎ ((symbol_of m.symbol ≢ terminal 0) × IsMove G i m)
  split m h = elim (Contains-push_cases is i h.1.0 (subst (λ xs. Contains xs h.1.0) more h.1.1)) [
    | inl old ↦ inl (h.0, (h.1.0, old, h.1.2))
    | inr same ↦ inr (h.0, subst (λ j. IsMove G j m) (sym same) h.1.2)
  ]

  pub moves_more : (n : Move) → IsMove G i n → symbol_of n.symbol ≢ terminal 0 → ms' ≡ ms ++ n ∷ []
      → (m : Move) → Contains ms' m ↔ (Contains known m ⊎ IsMoveOfOne G is' m)
  moves_more n here other grown m = (
    λ c. elim (Contains-push_cases ms n m (subst (λ xs. Contains xs m) grown c)) [
      | inl old ↦ elim ((are m).0 old) [
        | inl k ↦ inl k
        | inr o ↦ inr (older m o)
      ]
      | inr same ↦ inr (
        subst (λ x. symbol_of x.symbol ≢ terminal 0) same other,
        (i, subst (λ xs. Contains xs i) (sym more) (Contains-push is i), subst (IsMove G i) same here),
      )
    ],
    λ h. subst (λ xs. Contains xs m) (sym grown) (elim h [
      | inl k ↦ Contains-append_left ms (n ∷ []) m ((are m).1 (inl k))
      | inr o ↦ elim (split m o) [
        | inl old ↦ Contains-append_left ms (n ∷ []) m ((are m).1 (inr old))
        | inr x ↦ subst (Contains (ms ++ n ∷ [])) (move_one G i n m here x.1) (Contains-push ms n)
      ]
    ]),
  )

  pub moves_same : ((m : Move) → IsMove G i m → symbol_of m.symbol ≢ terminal 0 → ⊥) → ms' ≡ ms
      → (m : Move) → Contains ms' m ↔ (Contains known m ⊎ IsMoveOfOne G is' m)
  moves_same none same m = (
    λ c. elim ((are m).0 (subst (λ xs. Contains xs m) same c)) [
      | inl k ↦ inl k
      | inr o ↦ inr (older m o)
    ],
    λ h. subst (λ xs. Contains xs m) (sym same) (elim h [
      | inl k ↦ (are m).1 (inl k)
      | inr o ↦ elim (split m o) [
        | inl old ↦ (are m).1 (inr old)
        | inr x ↦ absurd (none m x.1 x.0)
      ]
    ]),
  )

module _ (G : Grammar) (known : List ℕ) (is is' : List Item) (i : Item) (ps ps' : List ℕ)
    (are : (p : ℕ) → Contains ps p ↔ (Contains known p ⊎ IsRuleAtEnd G is p)) (more : is' ≡ is ++ i ∷ []) where
  older_rule : (p : ℕ) → IsRuleAtEnd G is p → IsRuleAtEnd G is' p
  older_rule p h = (h.0, subst (λ xs. Contains xs h.0) (sym more) (Contains-append_left is (i ∷ []) h.0 h.1), h.2, h.3)

  pub rules_more : IsAtEnd G i → ps' ≡ ps ++ i.rule ∷ []
      → (p : ℕ) → Contains ps' p ↔ (Contains known p ⊎ IsRuleAtEnd G is' p)
  rules_more here grown p = (
    λ c. elim (Contains-push_cases ps i.rule p (subst (λ xs. Contains xs p) grown c)) [
      | inl old ↦ elim ((are p).0 old) [
        | inl k ↦ inl k
        | inr o ↦ inr (older_rule p o)
      ]
      | inr same ↦ inr (i, subst (λ xs. Contains xs i) (sym more) (Contains-push is i), same, here)
    ],
    λ h. subst (λ xs. Contains xs p) (sym grown) (elim h [
      | inl k ↦ Contains-append_left ps (i.rule ∷ []) p ((are p).1 (inl k))
      | inr o ↦ elim (Contains-push_cases is i o.0 (subst (λ xs. Contains xs o.0) more o.1)) [
        | inl old ↦ Contains-append_left ps (i.rule ∷ []) p ((are p).1 (inr (o.0, old, o.2, o.3)))
        | inr same ↦ subst (Contains (ps ++ i.rule ∷ [])) (ap (λ j. j.rule) same ∙ o.2) (Contains-push ps i.rule)
      ]
    ]),
  )

  pub rules_same : (IsAtEnd G i → ⊥) → ps' ≡ ps → (p : ℕ) → Contains ps' p ↔ (Contains known p ⊎ IsRuleAtEnd G is' p)
  rules_same none same p = (
    λ c. elim ((are p).0 (subst (λ xs. Contains xs p) same c)) [
      | inl k ↦ inl k
      | inr o ↦ inr (older_rule p o)
    ],
    λ h. subst (λ xs. Contains xs p) (sym same) (elim h [
      | inl k ↦ (are p).1 (inl k)
      | inr o ↦ elim (Contains-push_cases is i o.0 (subst (λ xs. Contains xs o.0) more o.1)) [
        | inl old ↦ (are p).1 (inr (o.0, old, o.2, o.3))
        | inr last ↦ absurd (none (subst (IsAtEnd G) (sym last) o.3))
      ]
    ]),
  )

-- known moves are those of some items, so those that are listed are of these items and of the others
pub moves_of_both : (G : Grammar) (others items : List Item) (known ms : List Move)
    → ((m : Move) → Contains known m ↔ IsMoveOfOne G others m)
    → ((m : Move) → Contains ms m ↔ (Contains known m ⊎ IsMoveOfOne G items m))
    → (m : Move) → Contains ms m ↔ IsMoveOfOne G (others ++ items) m
moves_of_both G others items known ms of_others are m = (
  λ c. elim ((are m).0 c) [
    | inl k ↦ let o = (of_others m).0 k in
        (o.0, (o.1.0, Contains-append_left others items o.1.0 o.1.1, o.1.2))
    | inr o ↦ (o.0, (o.1.0, Contains-append_right others items o.1.0 o.1.1, o.1.2))
  ],
  λ h. (are m).1 (elim (Contains-append_cases others items h.1.0 h.1.1) [
    | inl o ↦ inl ((of_others m).1 (h.0, (h.1.0, o, h.1.2)))
    | inr k ↦ inr (h.0, (h.1.0, k, h.1.2))
  ]),
)

-- and so are the complete rules
pub rules_of_both : (G : Grammar) (others items : List Item) (known ps : List ℕ)
    → ((p : ℕ) → Contains known p ↔ IsRuleAtEnd G others p)
    → ((p : ℕ) → Contains ps p ↔ (Contains known p ⊎ IsRuleAtEnd G items p))
    → (p : ℕ) → Contains ps p ↔ IsRuleAtEnd G (others ++ items) p
rules_of_both G others items known ps of_others are p = (
  λ c. elim ((are p).0 c) [
    | inl k ↦ let o = (of_others p).0 k in
        (o.0, Contains-append_left others items o.0 o.1, o.2, o.3)
    | inr o ↦ (o.0, Contains-append_right others items o.0 o.1, o.2, o.3)
  ],
  λ h. (are p).1 (elim (Contains-append_cases others items h.0 h.1) [
    | inl o ↦ inl ((of_others p).1 (h.0, o, h.2, h.3))
    | inr k ↦ inr (h.0, k, h.2, h.3)
  ]),
)

-- where nothing is known, what is listed is of the items alone
pub moves_of_none : (G : Grammar) (items items' : List Item) (ms : List Move)
    → ((m : Move) → Contains ms m ↔ (Contains [] m ⊎ IsMoveOfOne G items m)) → items ≡ items'
    → (m : Move) → Contains ms m ↔ IsMoveOfOne G items' m
moves_of_none G items items' ms are same m = subst (λ is. Contains ms m ↔ IsMoveOfOne G is m) same (
  λ c. elim ((are m).0 c) [
    | inl none ↦ Contains-none m none
    | inr o ↦ o
  ],
  λ o. (are m).1 (inr o),
)

pub rules_of_none : (G : Grammar) (items items' : List Item) (ps : List ℕ)
    → ((p : ℕ) → Contains ps p ↔ (Contains [] p ⊎ IsRuleAtEnd G items p)) → items ≡ items'
    → (p : ℕ) → Contains ps p ↔ IsRuleAtEnd G items' p
rules_of_none G items items' ps are same p = subst (λ is. Contains ps p ↔ IsRuleAtEnd G is p) same (
  λ c. elim ((are p).0 c) [
    | inl none ↦ Contains-none p none
    | inr o ↦ o
  ],
  λ o. (are p).1 (inr o),
)

-- strictly sorted lists, as pairs
pub strictly_pairs : {X : Type 0} (c : X → X → Ordering) (xs : List X) → IsStrictlySortedBy c xs
    → AllPairs (λ x y. c x y ≡ Less) xs
unfolding IsStrictlySortedBy
strictly_pairs c [] h = λ i j d l m. absurd (omega (arith, m))
strictly_pairs c (x ∷ xs) h = AllPairs-cons (λ x y. c x y ≡ Less) x xs (each xs h.0) (strictly_pairs c xs h.1)
  where
    each : (ys : List _) → AllByRecursion (λ y. c x y ≡ Less) ys → All (λ y. c x y ≡ Less) ys
    each [] a k d l = absurd (omega (arith, l))
    each (y ∷ ys) a zero d l = a.0
    each (y ∷ ys) a (suc k) d l = each ys a.1 k d (omega (arith, l))

nat_less : (a b : ℕ) → nat_cmp a b ≡ Less → a < b
nat_less a b e = subst (λ o. MatchOrdering o (a < b) (a ≡ b) (b < a)) e (ranked a b (nat_cmp a b) refl)

nat_same : (a b : ℕ) → nat_cmp a b ≡ Equal → a ≡ b
nat_same a b e = subst (λ o. MatchOrdering o (a < b) (a ≡ b) (b < a)) e (ranked a b (nat_cmp a b) refl)

-- symbols by kind and number
abbrev pub symbol_cmp : code.Symbol → code.Symbol → Ordering
symbol_cmp (Terminal t) (Terminal u) = nat_cmp t.0 u.0
symbol_cmp (Terminal t) (Nonterminal B) = Less
symbol_cmp (Nonterminal A) (Terminal u) = Greater
symbol_cmp (Nonterminal A) (Nonterminal B) = nat_cmp A.0 B.0

pub symbol_less : (x y : code.Symbol) → symbol_cmp x y ≡ Less → IsLess (symbol_of x) (symbol_of y)
symbol_less (Terminal t) (Terminal u) e = nat_less t.0 u.0 e
symbol_less (Terminal t) (Nonterminal B) e = tt
symbol_less (Nonterminal A) (Terminal u) e = absurd (cc)
symbol_less (Nonterminal A) (Nonterminal B) e = nat_less A.0 B.0 e

symbol_same : (x y : code.Symbol) → symbol_cmp x y ≡ Equal → x ≡ y
symbol_same (Terminal t) (Terminal u) e = ap (λ m. Terminal (record { 0 = m })) (nat_same t.0 u.0 e)
symbol_same (Terminal t) (Nonterminal B) e = absurd (cc)
symbol_same (Nonterminal A) (Terminal u) e = absurd (cc)
symbol_same (Nonterminal A) (Nonterminal B) e = ap (λ m. Nonterminal (record { 0 = m })) (nat_same A.0 B.0 e)

pub move_less : (m n : Move) → ordering_then (symbol_cmp m.symbol n.symbol) (item_cmp m.item n.item) ≡ Less
    → MoveIsLess m n
move_less m n e = go (symbol_cmp m.symbol n.symbol) refl e
  where
    go : (o : Ordering) → symbol_cmp m.symbol n.symbol ≡ o → ordering_then o (item_cmp m.item n.item) ≡ Less
        → MoveIsLess m n
    go Less s f = inl (symbol_less m.symbol n.symbol s)
    go Equal s f = inr (symbol_same m.symbol n.symbol s, f)
    go Greater s f = absurd (cc)

parts_tested : (x y : code.Symbol) (i j : Item)
    → eq.ghosts.eq (record { symbol = x; item = i }) (record { symbol = y; item = j })
    ≡ true → (x ≡ y) × (i ≡ j)
parts_tested (Terminal t) (Terminal u) i j e =
    let p = and_parts (nat_eq t.0 u.0) (nat_eq i.rule j.rule && nat_eq i.dot j.dot) e in
    (ap (λ m. Terminal (record { 0 = m })) (eqb-true t.0 u.0 p.0), item_same i j p.1)
parts_tested (Terminal t) (Nonterminal B) i j e = absurd (cc)
parts_tested (Nonterminal A) (Terminal u) i j e = absurd (cc)
parts_tested (Nonterminal A) (Nonterminal B) i j e =
    let p = and_parts (nat_eq A.0 B.0) (nat_eq i.rule j.rule && nat_eq i.dot j.dot) e in
    (ap (λ m. Nonterminal (record { 0 = m })) (eqb-true A.0 B.0 p.0), item_same i j p.1)

-- moves that pass the test are one
pub move_eq : (m n : Move) → eq.ghosts.eq m n ≡ true → m ≡ n
move_eq m n e =
    let p = parts_tested m.symbol n.symbol m.item n.item e in
    ap (λ x. record { symbol = x; item = m.item }) p.0 ∙ ap (λ i. record { symbol = n.symbol; item = i }) p.1

parts_less : (x y : code.Symbol) (i j : Item)
    → order.ghosts.cmp (record { symbol = x; item = i }) (record { symbol = y; item = j }) ≡ Less
    → MoveIsLess (record { symbol = x; item = i }) (record { symbol = y; item = j })
parts_less (Terminal t) (Terminal u) i j e
    = move_less (record { symbol = Terminal t; item = i }) (record { symbol = Terminal u; item = j }) e
parts_less (Terminal t) (Nonterminal B) i j e = inl tt
parts_less (Nonterminal A) (Terminal u) i j e = absurd (cc)
parts_less (Nonterminal A) (Nonterminal B) i j e
    = move_less (record { symbol = Nonterminal A; item = i }) (record { symbol = Nonterminal B; item = j }) e

-- sorted moves without repetitions rise
pub moves_rise : (ms : List Move) → IsStrictlySortedBy order.ghosts.cmp ms → AllPairs MoveIsLess ms
moves_rise ms h i j d l m = parts_less _ _ (slice_index_or ms i d).item (slice_index_or ms j d).item
    (strictly_pairs order.ghosts.cmp ms h i j d l m)

-- whether an item moves, by what is found of it
pub end_of : (G : Grammar) (i : Item) (o : Option Move) → MatchOption o (IsAtEnd G i) (IsMove G i) → (none : Bool)
    → is_some o ≡ not none → none ≡ true → IsAtEnd G i
end_of G i None h none e f = h
end_of G i (Some m) h none e f = absurd (let off : true ≡ false = e ∙ ap not f in cc)

pub not_end : (G : Grammar) (i : Item) (o : Option Move) → MatchOption o (IsAtEnd G i) (IsMove G i) → (none : Bool)
    → is_some o ≡ not none → none ≡ false → IsAtEnd G i → ⊥
not_end G i None h none e f end = let off : false ≡ true = e ∙ ap not f in cc
not_end G i (Some m) h none e f end = end_off G i (symbol_of m.symbol) end h.behind
