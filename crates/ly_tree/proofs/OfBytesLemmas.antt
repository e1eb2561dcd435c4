-- What the leaves of a forest consist of is bytes.
use Rattle.std.proofs.Common.{◌≡◌, ◌∙◌, ◌<◌, ◌-◌, ℕ, List, [], ◌∷◌, ◌++◌, Option, None, Some, drop, refl, subst}
use Rattle.std.proofs.Common.{arith, length, suc, sym, take}
use Rattle.std.proofs.lemmas.List.Elements.{All-cons, All-drop, All-map, All-push, All-take}
use Rattle.std.specs.Prelude.{All, IsSome, option_map, slice_get, unwrap_or}
use Rattle.ly_base.proofs.ListLemmas.{All-at}
use Rattle.ly_base.specs.declared.numbers.Sym.{Sym}
use Rattle.ly_tree.proofs.PieceLemmas.{piece_inside, piece_is}
use Rattle.ly_tree.specs.Forest.{all_of, node_by, node_over, number_of, piece, term_of, Grown, Lists}
use Rattle.ly_tree.specs.Private.Grown.{child_term, grown, lists_from, long_leaf, terms_from}
use Rattle.ly_tree.specs.Private.Headed.{headed_from}
use Rattle.ly_tree.specs.Private.OfBytes.{AreOfBytes, IsOfBytes}
use Rattle.ly_tree.specs.Term.{Term, built, leaf, nothing}
use Rattle.ly_tree.specs.declared.forest.TermRef.{TermRef}
use Rattle.ly_tree.specs.declared.forest.TermRef.TheVariants.{LongLeaf, LongNode, Node, Nothing, ShortLeaf}
use Rattle.ly_tree.specs.declared.headed.Heading.{Heading}
use Rattle.ly_tree.specs.declared.node_span.NodeSpan.{NodeSpan}

abbrev IsByte : ℕ → Type 0
IsByte b = b < 256

-- what holds of each holds of each of a piece
piece_all : {A : Type 0} (P : A → Type 0) (s n : ℕ) (xs ys : List A) → All P xs → piece s n xs ≡ Some ys → All P ys
piece_all P s n xs ys all is =
    let there = piece_inside s n xs (subst IsSome (sym is) refl) in
    let same : Some (take n (drop s xs)) ≡ Some ys = sym (piece_is s n xs there) ∙ is in
    subst (All P) (let e : take n (drop s xs) ≡ ys = cc in e) (All-take P n (drop s xs) (All-drop P s xs all))

all_of_bytes : (ts : List Term) → All IsOfBytes ts → AreOfBytes (all_of ts)
all_of_bytes [] all = tt
all_of_bytes (t ∷ ts) all = (all 0 t (omega arith), all_of_bytes ts (λ k d l. all (suc k) d (omega arith)))

-- the leaf of a piece of bytes
leaf_of_bytes : (terminal : ℕ) (o : Option (List ℕ)) (t : Term) → ((text : List ℕ) → o ≡ Some text → All IsByte text)
    → option_map (λ text. leaf terminal text) o ≡ Some t → IsOfBytes t
leaf_of_bytes terminal None t all is = absurd cc
leaf_of_bytes terminal (Some text) t all is =
    subst IsOfBytes (let e : leaf terminal text ≡ t = cc in e) (all text refl)

-- the node over a piece of terms
node_of_bytes : (rule : ℕ) (o : Option (List Term)) (t : Term)
    → ((ts : List Term) → o ≡ Some ts → All IsOfBytes ts)
    → option_map (λ ts. built rule (all_of ts)) o ≡ Some t → IsOfBytes t
node_of_bytes rule None t all is = absurd cc
node_of_bytes rule (Some ts) t all is =
    subst IsOfBytes (let e : built rule (all_of ts) ≡ t = cc in e) (all_of_bytes ts (all ts refl))

-- Each term of a forest, if the texts and the terms that it holds are such.
module _ (f : Grown) (texts : All IsByte f.lists.texts) (long : All IsOfBytes f.lists.long_leaves)
    (children : All IsOfBytes f.children) where
  over_of_bytes : (n rule start : ℕ) (t : Term) → node_over f.children n rule start ≡ Some t → IsOfBytes t
  over_of_bytes n rule start t is = node_of_bytes rule (piece start n f.children) t
      (λ ts there. piece_all IsOfBytes start n f.children ts children there) is

  span_of_bytes : (o : Option NodeSpan) (t : Term) → node_by f.children o ≡ Some t → IsOfBytes t
  span_of_bytes None t is = absurd cc
  span_of_bytes (Some s) t is = over_of_bytes s.count s.rule.0 s.start t is

  stands_of_bytes : (r : TermRef) (t : Term) → term_of f r ≡ Some t → IsOfBytes t
  stands_of_bytes Nothing t is = subst IsOfBytes (let e : nothing ≡ t = cc in e) tt
  stands_of_bytes (ShortLeaf length terminal start) t is = leaf_of_bytes terminal (piece start length f.lists.texts) t
      (λ text there. piece_all IsByte start length f.lists.texts text texts there) is
  stands_of_bytes (LongLeaf high low) t is = All-at IsOfBytes f.lists.long_leaves (number_of high low) t long is
  stands_of_bytes (Node n rule start) t is = over_of_bytes n rule start t is
  stands_of_bytes (LongNode high low) t is = span_of_bytes (slice_get f.lists.long_nodes (number_of high low)) t is

-- so are children
or_nothing : (o : Option Term) → ((t : Term) → o ≡ Some t → IsOfBytes t) → IsOfBytes (unwrap_or o nothing)
or_nothing None all = tt
or_nothing (Some t) all = all t refl

children_of_bytes : (ls : Lists) (done : List Term) (rs : List TermRef) → All IsByte ls.texts
    → All IsOfBytes ls.long_leaves → All IsOfBytes done → All IsOfBytes (terms_from ls done rs)
children_of_bytes ls done [] texts long all = all
children_of_bytes ls done (r ∷ rs) texts long all =
    let f : Grown = record { lists = ls; children = done } in
    children_of_bytes ls (done ++ child_term ls done r ∷ []) rs texts long
    (All-push IsOfBytes done (child_term ls done r) all
    (or_nothing (term_of f r) (λ t is. stands_of_bytes f texts long all r t is)))

pub forest_of_bytes : (f : Grown) (texts : List ℕ) (long : List (Sym × List ℕ)) (spans : List NodeSpan)
    (rs : List TermRef)
    → All IsByte texts → All (λ l. All IsByte l.1) long → grown (lists_from texts long spans) rs ≡ f
    → (r : TermRef) (t : Term) → term_of f r ≡ Some t → IsOfBytes t
forest_of_bytes f texts long spans rs bytes all is =
    subst (λ (g : Grown). (r : TermRef) (t : Term) → term_of g r ≡ Some t → IsOfBytes t) is
    (stands_of_bytes (grown (lists_from texts long spans) rs) bytes (All-map IsOfBytes long_leaf long all)
    (children_of_bytes (lists_from texts long spans) [] rs bytes (All-map IsOfBytes long_leaf long all)
    (λ k d l. absurd (omega (arith, l)))))

-- each list of those under heads
pub headed_of_bytes : {H : Type 0} (start : ℕ) (hs : List (Heading H)) (members : List ℕ) → All IsByte members
    → All (λ l. All IsByte l.1) (headed_from start hs members)
headed_of_bytes start [] members all = λ k d l. absurd (omega (arith, l))
headed_of_bytes start (h ∷ hs) members all =
    All-cons (λ l. All IsByte l.1) (h.head, take (h.end - start) members)
    (headed_from h.end hs (drop (h.end - start) members))
    (All-take IsByte (h.end - start) members all)
    (headed_of_bytes h.end hs (drop (h.end - start) members) (All-drop IsByte (h.end - start) members all))
