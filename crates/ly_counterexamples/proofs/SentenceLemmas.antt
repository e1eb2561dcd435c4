-- Leftmost derivations that are under way: what makes a move, what takes a rule, and where they end.
use Rattle.std.proofs.Common.{◌≡◌, ◌∙◌, ◌↔◌, ℕ, ◌+◌, List, [], ◌∷◌, ◌++◌, refl, Option, Some, None}
use Rattle.std.proofs.Common.{sym, ap, arith, subst, length, map, reverse, append-nil, slice_get, slice_index_or}
use Rattle.std.proofs.Common.{◌<◌, ◌≤◌}
use Rattle.std.proofs.lemmas.Option.{slice_get-get_or, slice_get-map, slice_get_within}
use Rattle.std.specs.Option.{option_map}
use Rattle.std.proofs.Common.{drop, suc, take}
use Rattle.std.proofs.Math.Seq.{drop-cons}
use Rattle.std.proofs.lemmas.List.{append_assoc, length-map, map-append, reverse-append, take_more}
use Rattle.ly_base.specs.Trees.{Trees, leaf, node, none, more}
use Rattle.ly_base.specs.declared.numbers.Sym.{Sym}
use Rattle.ly_join.specs.Grammar.{Grammar, IsRule, GrammarRule, Symbol, nonterminal, terminal}
use Rattle.ly_grammar.specs.Derivations.{AreTrees}
use Rattle.ly_counterexamples.specs.Moves.{Move, moves_among, moves_of, reduces, shifts}
use Rattle.ly_counterexamples.specs.Sentences.{rules_among, rules_of}
use Rattle.ly_counterexamples.specs.Private.Leftmost.{Ahead, ahead_of, AreMovesBy, Derive, IsPassed, IsUnderWay, known}
use Rattle.ly_counterexamples.specs.Private.Leftmost.{open_at}

-- A BODY

-- trees of a body, and what is behind it, from what is ahead
parted : (G : Grammar) (w : List Symbol) (S : List Ahead) (rules : List ℕ) (moves : List Move)
    → Derive G (map ahead_of w ++ S) rules moves
    → (ts : Trees) × AreTrees G w ts × (others : List ℕ) × (rest : List Move) × (rules ≡ rules_among ts ++ others)
    × (moves ≡ moves_among ts ++ rest) × Derive G S others rest
parted G [] S rules moves d = (none, tt, rules, moves, refl, refl, d)
parted G (terminal t ∷ w) S rules moves (v, e, d) =
    let (ts, are, others, rest, first, second, on) = parted G w S rules v d in (
      more (leaf (record { terminal = t; at = 0; bytes = [] })) ts,
      (refl, are),
      others,
      rest,
      first,
      e ∙ ap (λ x. shifts t ∷ x) second,
      on,
    )
parted G (nonterminal A ∷ w) S rules moves (tree, is, left, v, e, f, d) =
    let (ts, are, others, rest, first, second, on) = parted G w S left v d in (
      more tree ts,
      (is, are),
      others,
      rest,
      e ∙ ap (λ x. rules_of tree ++ x) first ∙ sym (append_assoc (rules_of tree) (rules_among ts) others),
      f ∙ ap (λ x. moves_of tree ++ x) second ∙ sym (append_assoc (moves_of tree) (moves_among ts) rest),
      on,
    )

-- and the other way
joined : (G : Grammar) (w : List Symbol) (S : List Ahead) (ts : Trees) (others : List ℕ) (rest : List Move)
    → AreTrees G w ts → Derive G S others rest
    → Derive G (map ahead_of w ++ S) (rules_among ts ++ others) (moves_among ts ++ rest)
joined G [] S none others rest are d = d
joined G [] S (more t ts) others rest are d = absurd are
joined G (X ∷ w) S none others rest are d = absurd are
joined G (terminal t ∷ w) S (more (node q us) ts) others rest are d = absurd are.0
joined G (terminal t ∷ w) S (more (leaf x) ts) others rest are d = (
  moves_among ts ++ rest,
  ap (λ k. shifts k ∷ (moves_among ts ++ rest)) are.0,
  joined G w S ts others rest are.1 d,
)
joined G (nonterminal A ∷ w) S (more tree ts) others rest are d = (
  tree,
  are.0,
  rules_among ts ++ others,
  moves_among ts ++ rest,
  append_assoc (rules_of tree) (rules_among ts) others,
  append_assoc (moves_of tree) (moves_among ts) rest,
  joined G w S ts others rest are.1 d,
)

-- ONE STEP

-- moves that are known are made
pub passes_all : (G : Grammar) (us : List Move) (S : List Ahead) (rules : List ℕ) (w : List Move)
    → Derive G (map known us ++ S) rules w ↔ ((v : List Move) × (w ≡ us ++ v) × Derive G S rules v)
passes_all G [] S rules w = (
  λ d. (w, refl, d),
  λ (v, e, d). subst (Derive G S rules) (sym e) d,
)
passes_all G (u ∷ us) S rules w = (
  λ (v, e, on).
      let (x, f, rest) = (passes_all G us S rules v).0 on in
      (x, e ∙ ap (λ y. u ∷ y) f, rest),
  λ (x, e, rest). (us ++ x, e, (passes_all G us S rules (us ++ x)).1 (x, refl, rest)),
)

-- A nonterminal in front takes the next rule, which is one of its own: its body comes in front, and then the reduction
-- by it.
pub takes_rule : (G : Grammar) (A : ℕ) (S : List Ahead) (p : ℕ) (rules : List ℕ) (w : List Move)
    → Derive G (open_at A ∷ S) (p ∷ rules) w
    → (r : GrammarRule) × IsRule G p r × (r.left ≡ A)
    × Derive G (map ahead_of r.body ++ known (reduces p) ∷ S) rules w
takes_rule G A S p rules w (leaf x, is, others, rest, first, second, on) = absurd is
takes_rule G A S p rules w (node q us, (r, is, left, those), others, rest, first, second, on) =
    let same : q ≡ p = cc in
    let behind : rules ≡ rules_among us ++ others = cc in
    let made : w ≡ moves_among us ++ reduces p ∷ rest
    = second ∙ append_assoc (moves_among us) (reduces q ∷ []) rest
    ∙ ap (λ n. moves_among us ++ reduces n ∷ rest) same in
    let S' : List Ahead = known (reduces p) ∷ S in
    let d : Derive G (map ahead_of r.body ++ S') (rules_among us ++ others) (moves_among us ++ reduces p ∷ rest)
    = joined G r.body S' us others (reduces p ∷ rest) those (rest, refl, on) in (
      r,
      subst (λ n. IsRule G n r) same is,
      left,
      subst (λ rs. Derive G (map ahead_of r.body ++ S') rs w) (sym behind)
          (subst (Derive G (map ahead_of r.body ++ S') (rules_among us ++ others)) (sym made) d),
    )

pub by_rule : (G : Grammar) (A : ℕ) (S : List Ahead) (p : ℕ) (r : GrammarRule) (rules : List ℕ) (w : List Move)
    → IsRule G p r → r.left ≡ A → Derive G (map ahead_of r.body ++ known (reduces p) ∷ S) rules w
    → Derive G (open_at A ∷ S) (p ∷ rules) w
by_rule G A S p r rules w is left d =
    let (us, those, others, rest, first, second, (v, e, on)) = parted G r.body (known (reduces p) ∷ S) rules w d in (
      node p us,
      (r, is, left, those),
      others,
      v,
      ap (λ x. p ∷ x) first,
      second ∙ ap (λ x. moves_among us ++ x) e ∙ sym (append_assoc (moves_among us) (reduces p ∷ []) v),
      on,
    )

-- no nonterminal is replaced without a rule
pub needs_rule : (G : Grammar) (A : ℕ) (S : List Ahead) (w : List Move) → Derive G (open_at A ∷ S) [] w → ⊥
needs_rule G A S w (leaf x, is, others, rest, first, second, on) = absurd is
needs_rule G A S w (node q us, is, others, rest, first, second, on) = cc

-- UNDER WAY

-- at the start nothing is done
pub at_start : (G : Grammar) (rules : List ℕ) → IsUnderWay G rules [] (open_at G.start ∷ []) rules
at_start G rules w = (
  λ s. (
    w,
    refl,
    (
      s.tree,
      s.derives,
      [],
      [],
      sym (append-nil (rules_of s.tree) ∙ s.has),
      sym (append-nil (moves_of s.tree) ∙ s.made),
      (refl, refl),
    ),
  ),
  λ (v, e, (tree, is, others, rest, first, second, (none_left, none_made))). record {
    tree = tree;
    derives = is;
    has = sym (first ∙ ap (λ x. rules_of tree ++ x) none_left ∙ append-nil (rules_of tree));
    made = sym (e ∙ second ∙ ap (λ x. moves_of tree ++ x) none_made ∙ append-nil (moves_of tree));
  },
)

-- behind moves that are made
pub way_passed : (G : Grammar) (rules : List ℕ) (done : List Move) (S : List Ahead) (us : List Move) (left : List ℕ)
    → IsUnderWay G rules done (map known us ++ S) left → IsUnderWay G rules (done ++ us) S left
way_passed G rules done S us left way w = (
  λ s.
      let (v, e, d) = (way w).0 s in
      let (x, f, rest) = (passes_all G us S left v).0 d in
      (x, e ∙ ap (λ y. done ++ y) f ∙ sym (append_assoc done us x), rest),
  λ (x, e, rest). (way w).1
      (us ++ x, e ∙ append_assoc done us x, (passes_all G us S left (us ++ x)).1 (x, refl, rest)),
)

pub way_on : (G : Grammar) (rules : List ℕ) (old new : List Ahead) (before behind : List Move) (o : Option Sym)
    (n : Sym)
    (left : List ℕ) → IsUnderWay G rules before old left → IsPassed old new before behind o → o ≡ Some n
    → IsUnderWay G rules behind (open_at n.0 ∷ new) left
way_on G rules old new before behind o n left way passed e =
    let (us, front, back) = subst (IsPassed old new before behind) e passed in
    subst (λ w. IsUnderWay G rules w (open_at n.0 ∷ new) left) (sym back)
    (way_passed G rules before (open_at n.0 ∷ new) us left
    (subst (λ w. IsUnderWay G rules before w left) front way))

pub way_out : (G : Grammar) (rules : List ℕ) (old new : List Ahead) (before behind : List Move) (o : Option Sym)
    (left : List ℕ) → IsUnderWay G rules before old left → IsPassed old new before behind o → o ≡ None
    → IsUnderWay G rules behind [] left
way_out G rules old new before behind o left way passed e =
    let (us, front, back) = subst (IsPassed old new before behind) e passed in
    subst (λ w. IsUnderWay G rules w [] left) (sym back) (way_passed G rules before [] us left
    (subst (λ w. IsUnderWay G rules before w left) (front ∙ sym (append-nil (map known us))) way))

-- behind a rule that is taken
pub way_taken : (G : Grammar) (rules : List ℕ) (done : List Move) (A : ℕ) (S : List Ahead) (p : ℕ) (r : GrammarRule)
    (left : List ℕ)
    → IsRule G p r → r.left ≡ A → IsUnderWay G rules done (open_at A ∷ S) (p ∷ left)
    → IsUnderWay G rules done (map ahead_of r.body ++ known (reduces p) ∷ S) left
way_taken G rules done A S p r left is same way w = (
  λ s.
      let (v, e, d) = (way w).0 s in
      let (q, is_q, left_q, on) = takes_rule G A S p left v d in
      let one : Some (Some q) ≡ Some (Some r) = sym is_q ∙ is in
      let equal : q ≡ r = cc in
      (v, e, subst (λ x. Derive G (map ahead_of x.body ++ known (reduces p) ∷ S) left v) equal on),
  λ (v, e, d). (way w).1 (v, e, by_rule G A S p r left v is same d),
)

-- no tree has a rule that isn't one of the nonterminal in front
pub way_other : (G : Grammar) (rules : List ℕ) (done : List Move) (A : ℕ) (S : List Ahead) (p : ℕ) (left : List ℕ)
    → ((r : GrammarRule) → IsRule G p r → r.left ≡ A → ⊥) → IsUnderWay G rules done (open_at A ∷ S) (p ∷ left)
    → (w : List Move) → AreMovesBy G rules w → ⊥
way_other G rules done A S p left never way w s =
    let (v, e, d) = (way w).0 s in
    let (r, is, same, on) = takes_rule G A S p left v d in
    never r is same

-- nor one too many
pub way_over : (G : Grammar) (rules : List ℕ) (done : List Move) (p : ℕ) (left : List ℕ)
    → IsUnderWay G rules done [] (p ∷ left) → (w : List Move) → AreMovesBy G rules w → ⊥
way_over G rules done p left way w s =
    let (v, e, both) = (way w).0 s in
    let many : p ∷ left ≡ [] = both.0 in
    cc

-- nor one too few
pub way_short : (G : Grammar) (rules : List ℕ) (done : List Move) (A : ℕ) (S : List Ahead)
    → IsUnderWay G rules done (open_at A ∷ S) [] → (w : List Move) → AreMovesBy G rules w → ⊥
way_short G rules done A S way w s =
    let (v, e, d) = (way w).0 s in
    needs_rule G A S v d

-- where nothing is left, what is done are the moves
pub way_end : (G : Grammar) (rules : List ℕ) (done : List Move) → IsUnderWay G rules done [] []
    → AreMovesBy G rules done
way_end G rules done way = (way done).1 ([], sym (append-nil done), (refl, refl))

-- moves by the rules are those that are done
pub only_moves : (G : Grammar) (rules : List ℕ) (done : List Move) → IsUnderWay G rules done [] [] → (w : List Move)
    → AreMovesBy G rules w → w ≡ done
only_moves G rules done way w s =
    let (v, e, both) = (way w).0 s in
    let nothing : v ≡ [] = both.1 in
    e ∙ ap (λ x. done ++ x) nothing ∙ append-nil done

-- WHAT IS AHEAD

-- each of a list is mapped twice
pub mapped_twice : {X Y Z : Type 0} (f : X → Y) (g : Y → Z) (xs : List X) → map g (map f xs) ≡ map (λ x. g (f x)) xs
mapped_twice f g [] = refl
mapped_twice f g (x ∷ xs) = ap (λ w. g (f x) ∷ w) (mapped_twice f g xs)

-- what is kept last is next
pub kept_last : {X Y : Type 0} (f : X → Y) (kept : List X) (x : X)
    → reverse (map f (kept ++ x ∷ [])) ≡ f x ∷ reverse (map f kept)
kept_last f kept x = ap reverse (map-append f kept (x ∷ [])) ∙ reverse-append (map f kept) (f x ∷ [])

-- one more of them, which stand for others
pub kept_more : {X Y Z : Type 0} (f : Z → Y) (g : X → Y) (old new start : List Z) (z : Z) (xs : List X) (n : ℕ)
    (d x : X)
    → n < length xs → x ≡ slice_index_or xs n d → new ≡ old ++ z ∷ [] → f z ≡ g x
    → reverse (map f old) ≡ reverse (map g (take n xs)) ++ reverse (map f start)
    → reverse (map f new) ≡ reverse (map g (take (n + 1) xs)) ++ reverse (map f start)
kept_more f g old new start z xs n d x lt here pushed alike before =
    let more : take (n + 1) xs ≡ take n xs ++ x ∷ [] = take_more xs n d lt ∙ ap (λ y. take n xs ++ y ∷ []) (sym here)
    in
    ap (λ w. reverse (map f w)) pushed ∙ kept_last f old z ∙ ap (λ y. y ∷ reverse (map f old)) alike
    ∙ ap (λ w. g x ∷ w) before
    ∙ ap (λ w. w ++ reverse (map f start)) (sym (kept_last g (take n xs) x))
    ∙ ap (λ w. reverse (map g w) ++ reverse (map f start)) (sym more)

-- one more move is made
pub passed_more : (S old next : List Ahead) (m : Move) (us before done behind : List Move) → S ≡ map known us ++ old
    → old ≡ known m ∷ next → done ≡ before ++ us → behind ≡ done ++ m ∷ []
    → (vs : List Move) × (S ≡ map known vs ++ next) × (behind ≡ before ++ vs)
passed_more S old next m us before done behind front first back last = (
  us ++ m ∷ [],
  front ∙ ap (λ w. map known us ++ w) first ∙ sym (append_assoc (map known us) (known m ∷ []) next)
      ∙ ap (λ w. w ++ next) (sym (map-append known us (m ∷ []))),
  last ∙ ap (λ w. w ++ m ∷ []) back ∙ append_assoc before us (m ∷ []),
)

-- THE RULES OF A GRAMMAR

-- a rule that is kept at a number
pub rule_kept : (G : Grammar) (rules : List GrammarRule) → map Some rules ≡ G.rules → (k : ℕ) (r : GrammarRule)
    → k < length rules
    → r ≡ slice_index_or rules k r → IsRule G k r
rule_kept G rules these k r lt e = ap (λ rs. slice_get rs k) (sym these) ∙ slice_get-map Some rules k
    ∙ ap (option_map Some) (slice_get-get_or rules k r lt ∙ ap Some (sym e))

-- no number past them has one
pub no_rule_kept : (G : Grammar) (rules : List GrammarRule) → map Some rules ≡ G.rules → (k : ℕ) → length rules ≤ k
    → (r : GrammarRule) → IsRule G k r → ⊥
no_rule_kept G rules these k past r is =
    let lt = slice_get_within G.rules k (Some r) is in
    absurd (omega (arith, lt, past, ap length these, length-map rules (λ x. Some x)))

-- one rule has one left side
pub rule_left_same : (G : Grammar) (p : ℕ) (q r : GrammarRule) → IsRule G p q → IsRule G p r → {A : ℕ} → q.left ≡ A
    → r.left ≡ A
rule_left_same G p q r is_q is_r e =
    let one : Some (Some q) ≡ Some (Some r) = sym is_q ∙ is_r in
    let same : q ≡ r = cc in
    ap (λ x. x.left) (sym same) ∙ e

-- the rules that are left, the next one first
pub next_rule : (rules : List ℕ) (k : ℕ) → k < length rules
    → drop k rules ≡ slice_index_or rules k 0 ∷ drop (k + 1) rules
next_rule rules k lt = drop-cons rules k 0 lt
    ∙ ap (λ n. slice_index_or rules k 0 ∷ drop n rules) (let e : suc k ≡ k + 1 = omega arith in e)

-- where rules are left, behind the moves that are known: the next one is that of the nonterminal behind them
pub way_next : (G : Grammar) (rules : List ℕ) (k : ℕ) (old new : List Ahead) (before behind : List Move)
    (o : Option Sym)
    (n : Sym) → k < length rules → IsUnderWay G rules before old (drop k rules) → IsPassed old new before behind o
    → o ≡ Some n
    → IsUnderWay G rules behind (open_at n.0 ∷ new) (slice_index_or rules k 0 ∷ drop (k + 1) rules)
way_next G rules k old new before behind o n lt way = way_on G rules old new before behind o n
    (slice_index_or rules k 0 ∷ drop (k + 1) rules) (subst (IsUnderWay G rules before old) (next_rule rules k lt) way)
