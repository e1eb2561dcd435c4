-- The children of nodes, and what stands before each.
use Rattle.std.proofs.Common.{◌≡◌, ◌∙◌, ℕ, zero, suc, ◌+◌, List, [], ◌∷◌, ◌++◌, Some, ap, append-nil, append_assoc}
use Rattle.std.proofs.Common.{arith, get_or, length, refl, drop, slice_get, subst, sym, take}
use Rattle.std.proofs.lemmas.List.{get_or_at, length_push, take-append-drop, take_at}
use Rattle.std.specs.Prelude.{IsSome, None, Option, option_map}
use Rattle.ly_base.specs.declared.numbers.Sym.{Sym}
use Rattle.ly_tree.proofs.GrownLemmas.{joined-none}
use Rattle.ly_tree.proofs.StandLemmas.{joined, known_stands, Keeps-append}
use Rattle.ly_tree.specs.Forest.{no_lists, node_by, node_over, number_of, piece, term_of, Grown, Lists}
use Rattle.ly_tree.specs.Forest.{StandsFor}
use Rattle.ly_tree.specs.Look.{AreChildren}
use Rattle.ly_tree.specs.Private.Grown.{child_term, grown, lists_from, terms_from, AreKnown}
use Rattle.ly_tree.specs.Term.{Term, leaf, nothing}
use Rattle.ly_tree.specs.declared.forest.TermRef.{TermRef}
use Rattle.ly_tree.specs.declared.forest.TermRef.TheVariants.{LongNode, ShortLeaf}
use Rattle.ly_tree.specs.declared.node_span.NodeSpan.{NodeSpan}

-- children come behind those so far
terms_behind : (ls : Lists) (done : List Term) (rs : List TermRef)
    → (more : List Term) × (terms_from ls done rs ≡ done ++ more)
terms_behind ls done [] = ([], sym (append-nil done))
terms_behind ls done (r ∷ rs) =
    let t = child_term ls done r in
    let rest = terms_behind ls (done ++ t ∷ []) rs in
    (t ∷ rest.0, rest.1 ∙ append_assoc done (t ∷ []) rest.0)

terms_count : (ls : Lists) (done : List Term) (rs : List TermRef)
    → length (terms_from ls done rs) ≡ length done + length rs
terms_count ls done [] = omega arith
terms_count ls done (r ∷ rs) =
    let t = child_term ls done r in
    omega (arith, terms_count ls (done ++ t ∷ []) rs, length_push done t)

-- each child stands for its term by those before it
stand_before : (ls : Lists) (done : List Term) (rs : List TermRef) → AreKnown ls done rs → (k : ℕ) (r : TermRef)
    → slice_get rs k ≡ Some r → (n : ℕ) → n ≡ length done + k
    → StandsFor (record { lists = ls; children = take n (terms_from ls done rs) }) r
    (get_or (terms_from ls done rs) n nothing)
stand_before ls done [] known k r is n e = absurd cc
stand_before ls done (q ∷ rs) known zero r is n e =
    let t = child_term ls done q in
    let rest = terms_behind ls (done ++ t ∷ []) rs in
    let all : terms_from ls done (q ∷ rs) ≡ done ++ t ∷ rest.0 = rest.1 ∙ append_assoc done (t ∷ []) rest.0 in
    let same : q ≡ r = cc in
    let here : StandsFor (record { lists = ls; children = done }) q t
    = known_stands (record { lists = ls; children = done }) q known.0 in
    let long : length done ≡ n = omega arith in
    let front : take n (terms_from ls done (q ∷ rs)) ≡ done = ap (take n) all ∙ take_at done (t ∷ rest.0) n long in
    let mine : get_or (terms_from ls done (q ∷ rs)) n nothing ≡ t
    = ap (λ xs. get_or xs n nothing) all ∙ get_or_at done t rest.0 nothing n long in
    subst (λ p. StandsFor (record { lists = ls; children = take n (terms_from ls done (q ∷ rs)) }) p
    (get_or (terms_from ls done (q ∷ rs)) n nothing)) same
    (subst (λ u. StandsFor (record { lists = ls; children = take n (terms_from ls done (q ∷ rs)) }) q u) (sym mine)
    (subst (λ xs. StandsFor (record { lists = ls; children = xs }) q t) (sym front) here))
stand_before ls done (q ∷ rs) known (suc k) r is n e =
    let t = child_term ls done q in
    stand_before ls (done ++ t ∷ []) rs known.1 k r is n (omega (arith, length_push done t))

pub children_stand : (ls : Lists) (rs : List TermRef) (f : Grown) → AreKnown ls [] rs → grown ls rs ≡ f
    → AreChildren f rs
children_stand ls rs f known view = subst (λ g. AreChildren g rs) view (record {
  count = omega (arith, terms_count ls [] rs);
  stand = λ k r is. stand_before ls [] rs known k r is k (omega arith);
})

-- a child stands for its term where all children are there too
pub child_stands : (f : Grown) (rs : List TermRef) (k : ℕ) (r : TermRef) → AreChildren f rs → slice_get rs k ≡ Some r
    → StandsFor f r (get_or f.children k nothing)
child_stands f rs k r h is =
    let all : take k f.children ++ drop k f.children ≡ f.children = take-append-drop k f.children in
    let lists : joined f.lists no_lists ≡ f.lists = joined-none f.lists in
    subst (λ xs. StandsFor (record { lists = f.lists; children = xs }) r (get_or f.children k nothing)) all
    (subst (λ ls. StandsFor (record { lists = ls; children = take k f.children ++ drop k f.children }) r
    (get_or f.children k nothing)) lists
    (Keeps-append f.lists no_lists (take k f.children) (drop k f.children) r (get_or f.children k nothing)
    (h.stand k r is)))

mapped : (make : List ℕ → Term) (text : Option (List ℕ)) → IsSome (option_map make text)
    → (bytes : List ℕ) × (option_map make text ≡ Some (make bytes))
mapped make None h = absurd cc
mapped make (Some bytes) h = (bytes, refl)

-- a short leaf is seen
pub short_seen : (f : Grown) (children : List Term) (n terminal start seen : ℕ) (r : TermRef)
    → IsSome (term_of f r) → r ≡ ShortLeaf n terminal start → seen ≡ terminal
    → (bytes : List ℕ)
    × (term_of (record { lists = f.lists; children = children }) r ≡ Some (leaf seen bytes))
short_seen f children n terminal start seen r h is same =
    let known : IsSome (term_of f (ShortLeaf n terminal start)) = subst (λ q. IsSome (term_of f q)) is h in
    let text = mapped (λ bytes. leaf terminal bytes) (piece start n f.lists.texts) known in (
      text.0,
      ap (term_of (record { lists = f.lists; children = children })) is
          ∙ (text.1 ∙ ap (λ t. Some (leaf t text.0)) (sym same)),
    )

-- so is a long node
pub long_node_seen : (texts : List ℕ) (long : List (Sym × List ℕ)) (spans : List NodeSpan) (rs : List TermRef)
    (f : Grown)
    (children : List Term) (high low : ℕ) (s : NodeSpan) (r : TermRef) → grown (lists_from texts long spans) rs ≡ f
    → r ≡ LongNode high low → slice_get spans (number_of high low) ≡ Some s
    → term_of (record { lists = f.lists; children = children }) r ≡ node_over children s.count s.rule.0 s.start
long_node_seen texts long spans rs f children high low s r view is there =
    ap (term_of (record { lists = f.lists; children = children })) is
    ∙ (ap (λ g. node_by children (slice_get g.lists.long_nodes (number_of high low))) (sym view)
    ∙ ap (node_by children) there)
