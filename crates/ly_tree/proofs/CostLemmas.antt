-- What terms cost, and what a forest can pay.
use Rattle.std.proofs.Common.{◌≡◌, ℕ, zero, suc, ◌+◌, ◌*◌, ◌≤◌, List, [], ◌∷◌, ◌++◌, length, map, arith}
use Rattle.std.proofs.Common.{Some, None, refl, sym, ap, ◌∙◌, subst, length-append}
use Rattle.std.proofs.Math.Nat.{mul-le-mul_left}
use Rattle.std.proofs.lemmas.List.{map-append}
use Rattle.std.proofs.lemmas.List.Sums.{sum_by-append, sum_by-cons}
use Rattle.std.specs.Prelude.{option_map, slice_get, sum, All, AllPairs}
use Rattle.ly_base.specs.declared.numbers.Sym.{Sym}
use Rattle.ly_tree.proofs.GrownLemmas.{long_joined, node_known, short_joined, span_alone, span_joined, terms_from-leaf}
use Rattle.ly_tree.proofs.PieceLemmas.{mapped_some, piece_end, piece_inside}
use Rattle.ly_tree.proofs.StandLemmas.{joined, stands_known}
use Rattle.ly_tree.specs.Costs.{budget, bytes_in, cost, costs}
use Rattle.ly_tree.specs.Forest.{all_of, number_of, Grown, Keeps, Lists}
use Rattle.ly_tree.specs.Private.Grown.{child_term, grown, lists_from, long_leaf, terms_from, AllKnown, AreKnown}
use Rattle.ly_tree.specs.Term.{Term, Terms, at_place, at_places, built, leaf, more, none, nothing}
use Rattle.ly_tree.specs.declared.forest.TermRef.{TermRef}
use Rattle.ly_tree.specs.declared.forest.TermRef.TheVariants.{LongLeaf, Node, ShortLeaf}
use Rattle.ly_tree.specs.declared.node_span.NodeSpan.{NodeSpan}

bytes_in-joined : (ls ms : Lists) → bytes_in (joined ls ms) ≡ bytes_in ls + bytes_in ms
bytes_in-joined ls ms =
    let count : Term → ℕ = λ t. cost 0 1 t in
    let xs = ls.long_leaves in
    let ys = ms.long_leaves in
    let both : sum (map count (xs ++ ys)) ≡ sum (map count xs) + sum (map count ys)
    = ap sum (map-append count xs ys) ∙ sum_by-append (λ x. x) (map count xs) (map count ys) in
    omega (arith, length-append ls.texts ms.texts, both)

-- a term stands for each child
pub length-terms_from : (ls : Lists) (done : List Term) (rs : List TermRef)
    → length (terms_from ls done rs) ≡ length done + length rs
length-terms_from ls done [] = omega arith
length-terms_from ls done (r ∷ rs) =
    omega (
      arith,
      length-terms_from ls (done ++ child_term ls done r ∷ []) rs,
      length-append done (child_term ls done r ∷ []),
    )

-- lists more
lists_pay : (ls others ms : Lists) (bs : List TermRef) (f : Grown) (each byte : ℕ) → AreKnown ls [] bs
    → grown ls bs ≡ f → ms ≡ joined ls others
    → budget each byte (grown ms bs) ≡ budget each byte f + byte * bytes_in others
lists_pay ls others ms bs f each byte h v e =
    let same : grown ms bs ≡ record { lists = joined ls others; children = terms_from ls [] bs }
    = ap (λ l. grown l bs) e
    ∙ ap (λ ts. record { lists = joined ls others; children = ts }) (terms_from-leaf ls others [] bs h) in
    let before : budget each byte (grown ls bs) ≡ budget each byte f = ap (budget each byte) v in
    let after : budget each byte (grown ms bs)
    ≡ each * length (terms_from ls [] bs) + byte * bytes_in (joined ls others) = ap (budget each byte) same in
    let more : byte * bytes_in (joined ls others) ≡ byte * (bytes_in ls + bytes_in others)
    = ap (λ n. byte * n) (bytes_in-joined ls others) in
    omega (arith, before, after, more)

-- a short leaf more
pub short_pays : (texts ms text : List ℕ) (long : List (Sym × List ℕ)) (spans : List NodeSpan) (bs : List TermRef)
    (f : Grown) (each byte : ℕ) → AreKnown (lists_from texts long spans) [] bs
    → grown (lists_from texts long spans) bs ≡ f → ms ≡ texts ++ text
    → budget each byte (grown (lists_from ms long spans) bs) ≡ budget each byte f + byte * length text
short_pays texts ms text long spans bs f each byte h v e =
    lists_pay (lists_from texts long spans) (record { texts = text; long_leaves = []; long_nodes = [] })
    (lists_from ms long spans) bs f each byte h v (short_joined texts ms text long spans e)
    ∙ omega arith

-- another leaf more
pub long_pays : (texts : List ℕ) (long ls : List (Sym × List ℕ)) (spans : List NodeSpan) (l : Sym × List ℕ)
    (bs : List TermRef) (f : Grown) (each byte : ℕ) → AreKnown (lists_from texts long spans) [] bs
    → grown (lists_from texts long spans) bs ≡ f → ls ≡ long ++ l ∷ []
    → budget each byte (grown (lists_from texts ls spans) bs) ≡ budget each byte f + byte * length l.1
long_pays texts long ls spans l bs f each byte h v e =
    lists_pay (lists_from texts long spans) (record { texts = []; long_leaves = long_leaf l ∷ []; long_nodes = [] })
    (lists_from texts ls spans) bs f each byte h v (long_joined texts long ls spans l e)
    ∙ omega arith

-- a node more
pub node_pays : (ls : Lists) (rs cs qs : List TermRef) (f : Grown) (each byte : ℕ) → grown ls rs ≡ f
    → cs ≡ rs ++ qs → budget each byte (grown ls cs) ≡ budget each byte f + each * length qs
node_pays ls rs cs qs f each byte v e =
    let before : budget each byte (grown ls rs) ≡ budget each byte f = ap (budget each byte) v in
    let after : budget each byte (grown ls cs) ≡ each * length (terms_from ls [] (rs ++ qs)) + byte * bytes_in ls
    = ap (λ xs. budget each byte (grown ls xs)) e in
    let more : each * length (terms_from ls [] (rs ++ qs)) ≡ each * (length (terms_from ls [] rs) + length qs)
    = ap (λ n. each * n) (omega (
      arith,
      length-terms_from ls [] (rs ++ qs),
      length-terms_from ls [] rs,
      length-append rs qs,
    )) in
    omega (arith, before, after, more)

-- a long node more
pub long_node_pays : (texts : List ℕ) (long : List (Sym × List ℕ)) (spans longer : List NodeSpan)
    (rs cs qs : List TermRef)
    (f : Grown) (s : NodeSpan) (each byte : ℕ) → AreKnown (lists_from texts long spans) [] rs
    → grown (lists_from texts long spans) rs ≡ f → AllKnown f qs → cs ≡ rs ++ qs → longer ≡ spans ++ s ∷ []
    → budget each byte (grown (lists_from texts long longer) cs) ≡ budget each byte f + each * length qs
long_node_pays texts long spans longer rs cs qs f s each byte h v k e last =
    let before : Lists = lists_from texts long spans in
    lists_pay before (span_alone texts long spans longer rs cs qs f s h v e last) (lists_from texts long longer) cs
    (grown before cs) each byte (node_known before rs cs qs f h v k e) refl
    (span_joined texts long spans longer rs cs qs f s h v e last)
    ∙ omega (arith, node_pays before rs cs qs f each byte v e)

-- A forest that keeps the terms can pay as much at least.
module _ (f g : Grown) (keeps : Keeps f g) where
  no_child_lost : length f.children ≤ length g.children
  no_child_lost =
      let before = ap (option_map (λ ts. built 0 (all_of ts))) (piece_end [] f.children) in
      let after = keeps (Node (length f.children) 0 0) (built 0 (all_of f.children)) before in
      omega (
        arith,
        piece_inside 0 (length f.children) g.children (mapped_some (λ ts. built 0 (all_of ts)) _
            (stands_known g (Node (length f.children) 0 0) (built 0 (all_of f.children)) after)),
      )

  no_byte_lost : length f.lists.texts ≤ length g.lists.texts
  no_byte_lost =
      let before = ap (option_map (λ text. leaf 0 text)) (piece_end [] f.lists.texts) in
      let after = keeps (ShortLeaf (length f.lists.texts) 0 0) (leaf 0 f.lists.texts) before in
      omega (
        arith,
        piece_inside 0 (length f.lists.texts) g.lists.texts (mapped_some (λ text. leaf 0 text) _
            (stands_known g (ShortLeaf (length f.lists.texts) 0 0) (leaf 0 f.lists.texts) after)),
      )

  pub budget_kept : (each byte : ℕ) → budget each byte f ≤ budget each byte g
  budget_kept each byte =
      let xs = f.lists.long_leaves in
      let ys = g.lists.long_leaves in
      let number : (k : ℕ) → number_of 0 k ≡ k = λ k. omega arith in
      let kept : (k : ℕ) (t : Term) → slice_get xs k ≡ Some t → slice_get ys k ≡ Some t
      = λ k t is. ap (slice_get ys) (sym (number k)) ∙ keeps (LongLeaf 0 k) t (ap (slice_get xs) (number k) ∙ is) in
      let bytes : bytes_in f.lists ≤ bytes_in g.lists
      = omega (arith, no_byte_lost, front_sum (λ t. cost 0 1 t) xs ys kept) in
      omega (arith, mul-le-mul_left each no_child_lost, mul-le-mul_left byte bytes)
    where
      front_sum : (c : Term → ℕ) (xs ys : List Term)
          → ((k : ℕ) (t : Term) → slice_get xs k ≡ Some t → slice_get ys k ≡ Some t)
          → sum (map c xs) ≤ sum (map c ys)
      front_sum c [] ys same = omega arith
      front_sum c (x ∷ xs) [] same = absurd (let no : None ≡ Some x = same 0 x refl in cc)
      front_sum c (x ∷ xs) (y ∷ ys) same =
          let here : Some y ≡ Some x = same 0 x refl in
          let one : y ≡ x = cc in
          let rest = front_sum c xs ys (λ k t is. same (suc k) t is) in
          omega (arith, ap c one, rest, sum_by-cons (λ n. n) (c x) (map c xs), sum_by-cons (λ n. n) (c y) (map c ys))

-- how many terms there are
abbrev pub count_of : Terms → ℕ
count_of none = 0
count_of (more t ts) = 1 + count_of ts

pub each_in_cost : (each byte : ℕ) (t : Term) → each ≤ cost each byte t
each_in_cost each byte nothing = omega arith
each_in_cost each byte (leaf t bytes) = omega arith
each_in_cost each byte (built p ts) = omega arith

each_in_costs : (each byte : ℕ) (ts : Terms) → each * count_of ts ≤ costs each byte ts
each_in_costs each byte none = omega arith
each_in_costs each byte (more t ts) = omega (arith, each_in_cost each byte t, each_in_costs each byte ts)

-- terms with nothing at a place
abbrev without : Terms → ℕ → Terms
without none i = none
without (more t ts) zero = more t ts
without (more t ts) (suc zero) = more nothing ts
without (more t ts) (suc (suc i)) = more t (without ts (suc i))

count_of-without : (ts : Terms) (i : ℕ) → count_of (without ts i) ≡ count_of ts
count_of-without none i = refl
count_of-without (more t ts) zero = refl
count_of-without (more t ts) (suc zero) = refl
count_of-without (more t ts) (suc (suc i)) = ap (λ n. 1 + n) (count_of-without ts (suc i))

-- what is taken out is what stood there
costs-without : (each byte : ℕ) (ts : Terms) (i : ℕ) → 1 ≤ i → i ≤ count_of ts
    → costs each byte (without ts i) + cost each byte (at_place ts i) ≡ costs each byte ts + each
costs-without each byte none i low high = absurd (omega arith)
costs-without each byte (more t ts) zero low high = absurd (omega arith)
costs-without each byte (more t ts) (suc zero) low high = omega arith
costs-without each byte (more t ts) (suc (suc i)) low high =
    omega (arith, costs-without each byte ts (suc i) (omega arith) (omega arith))

-- A term of others costs no more than all of them do, of which the others cost `each` at least.
pub place_cost : (each byte : ℕ) (ts : Terms) (i : ℕ) → 1 ≤ i → i ≤ count_of ts
    → cost each byte (at_place ts i) + each * count_of ts ≤ costs each byte ts + each
place_cost each byte ts i low high =
    omega (
      arith,
      costs-without each byte ts i low high,
      each_in_costs each byte (without ts i),
      ap (λ n. each * n) (count_of-without ts i),
    )

at_place-without : (ts : Terms) (i j : ℕ) → (i ≡ j → ⊥) → at_place (without ts i) j ≡ at_place ts j
at_place-without none i j other = refl
at_place-without (more t ts) zero j other = refl
at_place-without (more t ts) (suc zero) zero other = refl
at_place-without (more t ts) (suc zero) (suc zero) other = absurd (other refl)
at_place-without (more t ts) (suc zero) (suc (suc j)) other = refl
at_place-without (more t ts) (suc (suc i)) zero other = refl
at_place-without (more t ts) (suc (suc i)) (suc zero) other = refl
at_place-without (more t ts) (suc (suc i)) (suc (suc j)) other =
    at_place-without ts (suc i) (suc j) (λ same. other (ap suc same))

at_places-without : (ts : Terms) (i : ℕ) (js : List ℕ) → All (λ j. i ≡ j → ⊥) js
    → at_places (without ts i) js ≡ at_places ts js
at_places-without ts i [] others = refl
at_places-without ts i (j ∷ js) others = ap (λ t. more t (at_places (without ts i) js))
    (at_place-without ts i j (others 0 j (omega arith)))
    ∙ ap (more (at_place ts j)) (at_places-without ts i js (λ k d lt. others (suc k) d (omega arith)))

-- So do those at places that are apart.
pub places_cost : (each byte : ℕ) (ts : Terms) (is : List ℕ) → All (λ i. (1 ≤ i) × (i ≤ count_of ts)) is
    → AllPairs (λ i j. i ≡ j → ⊥) is
    → costs each byte (at_places ts is) + each * count_of ts ≤ costs each byte ts + each * length is
places_cost each byte ts [] within apart = omega (arith, each_in_costs each byte ts)
places_cost each byte ts (i ∷ is) within apart =
    let low = (within 0 i (omega arith)).0 in
    let high = (within 0 i (omega arith)).1 in
    let count = count_of-without ts i in
    let rest = places_cost each byte (without ts i) is
    (subst (λ n. All (λ j. (1 ≤ j) × (j ≤ n)) is) (sym count) (λ k d lt. within (suc k) d (omega arith)))
    (λ j k d before lt. apart (suc j) (suc k) d (omega arith) (omega arith)) in
    let same = ap (λ us. costs each byte us)
    (at_places-without ts i is (λ k d lt. apart 0 (suc k) d (omega arith) (omega arith))) in
    omega (arith, rest, same, ap (λ n. each * n) count, costs-without each byte ts i low high)
