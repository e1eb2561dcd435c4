-- What references stand for, and that it stays.
use Rattle.std.proofs.Common.{◌≡◌, ℕ, zero, suc, List, [], ◌∷◌, ◌++◌, get_or, arith, refl, ap, ◌∙◌}
use Rattle.std.specs.Prelude.{slice_get, is_some, IsSome, None, Option, Some, option_map, unwrap_or}
use Rattle.ly_base.proofs.ListLemmas.{slice_get-append}
use Rattle.ly_tree.proofs.PieceLemmas.{piece-append}
use Rattle.ly_tree.specs.Forest.{all_of, node_by, node_over, number_of, piece, term_of, terms_of, Grown, Keeps, Lists}
use Rattle.ly_tree.specs.Forest.{StandsFor, StandForAll}
use Rattle.ly_tree.specs.Private.Grown.{AllKnown}
use Rattle.ly_tree.specs.Term.{Term, Terms, nothing, leaf, built, none, more}
use Rattle.ly_tree.specs.declared.forest.TermRef.{TermRef}
use Rattle.ly_tree.specs.declared.forest.TermRef.TheVariants.{Nothing, ShortLeaf, LongLeaf, Node, LongNode}
use Rattle.ly_tree.specs.declared.node_span.NodeSpan.{NodeSpan}

-- what is made of a piece stays when more come behind
made-append : {A : Type 0} (make : List A → Term) (o p : Option (List A)) (t : Term)
    → ((xs : List A) → o ≡ Some xs → p ≡ Some xs) → option_map make o ≡ Some t → option_map make p ≡ Some t
made-append make None p t h e = cc
made-append make (Some xs) p t h e = ap (option_map make) (h xs refl) ∙ e

-- a node stays when more children come behind
node_kept : (ts us : List Term) (n rule start : ℕ) (t : Term) → node_over ts n rule start ≡ Some t
    → node_over (ts ++ us) n rule start ≡ Some t
node_kept ts us n rule start t e =
    made-append (λ xs. built rule (all_of xs)) (piece start n ts) (piece start n (ts ++ us)) t
    (λ xs. piece-append start n ts us xs) e

long_node_kept : (ts us : List Term) (o p : Option NodeSpan) (t : Term) → ((s : NodeSpan) → o ≡ Some s → p ≡ Some s)
    → node_by ts o ≡ Some t → node_by (ts ++ us) p ≡ Some t
long_node_kept ts us None p t h e = cc
long_node_kept ts us (Some s) p t h e =
    ap (node_by (ts ++ us)) (h s refl) ∙ node_kept ts us s.count s.rule.0 s.start t e

-- lists, and others behind them
abbrev pub joined : Lists → Lists → Lists
joined ls ms = record {
  texts = ls.texts ++ ms.texts;
  long_leaves = ls.long_leaves ++ ms.long_leaves;
  long_nodes = ls.long_nodes ++ ms.long_nodes;
}

-- lists and children that come behind change no term
pub Keeps-append : (ls ms : Lists) (ts us : List Term)
    → Keeps (record { lists = ls; children = ts }) (record { lists = joined ls ms; children = ts ++ us })
Keeps-append ls ms ts us Nothing t e = e
Keeps-append ls ms ts us (ShortLeaf n terminal start) t e =
    made-append (λ text. leaf terminal text) (piece start n ls.texts) (piece start n (ls.texts ++ ms.texts)) t
    (λ text. piece-append start n ls.texts ms.texts text) e
Keeps-append ls ms ts us (LongLeaf high low) t e =
    slice_get-append ls.long_leaves ms.long_leaves (number_of high low) t e
Keeps-append ls ms ts us (Node n rule start) t e = node_kept ts us n rule start t e
Keeps-append ls ms ts us (LongNode high low) t e =
    let k : ℕ = number_of high low in
    long_node_kept ts us (slice_get ls.long_nodes k) (slice_get (ls.long_nodes ++ ms.long_nodes) k) t
    (λ s. slice_get-append ls.long_nodes ms.long_nodes k s) e

-- a reference that stands for a term has it
pub known_stands : (f : Grown) (n : TermRef) → IsSome (term_of f n) → StandsFor f n (unwrap_or (term_of f n) nothing)
known_stands f n h = unwrapped (term_of f n) h
  where
    unwrapped : (o : Option Term) → IsSome o → o ≡ Some (unwrap_or o nothing)
    unwrapped None h = cc
    unwrapped (Some t) h = refl

pub stands_known : (f : Grown) (n : TermRef) (t : Term) → StandsFor f n t → IsSome (term_of f n)
stands_known f n t e = ap is_some e

pub stands_unwrapped : (f : Grown) (n : TermRef) (t : Term) → StandsFor f n t → unwrap_or (term_of f n) nothing ≡ t
stands_unwrapped f n t e = ap (λ o. unwrap_or o nothing) e

pub known_kept : (f g : Grown) (n : TermRef) → Keeps f g → IsSome (term_of f n) → IsSome (term_of g n)
known_kept f g n k h = stands_known g n _ (k n _ (known_stands f n h))

pub term_kept : (f g : Grown) (n : TermRef) → Keeps f g → IsSome (term_of f n)
    → unwrap_or (term_of g n) nothing ≡ unwrap_or (term_of f n) nothing
term_kept f g n k h = stands_unwrapped g n _ (k n _ (known_stands f n h))

pub all_known_kept : (f g : Grown) (ns : List TermRef) → Keeps f g → AllKnown f ns → AllKnown g ns
all_known_kept f g ns k h i d l = known_kept f g (get_or ns i d) k (h i d l)

pub known_front : (f : Grown) (n : TermRef) (ns : List TermRef) → AllKnown f (n ∷ ns) → IsSome (term_of f n)
known_front f n ns h = h 0 n (omega arith)

pub known_rest : (f : Grown) (n : TermRef) (ns : List TermRef) → AllKnown f (n ∷ ns) → AllKnown f ns
known_rest f n ns h i d l = h (suc i) d (omega arith)

pub terms_kept : (f g : Grown) (ns : List TermRef) → Keeps f g → AllKnown f ns → terms_of g ns ≡ terms_of f ns
terms_kept f g [] k h = refl
terms_kept f g (n ∷ ns) k h = ap (λ t. more t (terms_of g ns)) (term_kept f g n k (known_front f n ns h))
    ∙ ap (λ ts. more (unwrap_or (term_of f n) nothing) ts) (terms_kept f g ns k (known_rest f n ns h))

-- the terms that references stand for are theirs
pub stand_unwrapped : (f : Grown) (ns : List TermRef) (ts : Terms) → StandForAll f ns ts → terms_of f ns ≡ ts
stand_unwrapped f [] none h = refl
stand_unwrapped f [] (more t ts) h = absurd h
stand_unwrapped f (n ∷ ns) none h = absurd h
stand_unwrapped f (n ∷ ns) (more t ts) h = ap (λ u. more u (terms_of f ns)) (stands_unwrapped f n t h.0)
    ∙ ap (λ us. more t us) (stand_unwrapped f ns ts h.1)

pub stand_all_kept : (f g : Grown) (ns : List TermRef) (ts : Terms) → Keeps f g → StandForAll f ns ts
    → StandForAll g ns ts
stand_all_kept f g [] none k h = tt
stand_all_kept f g [] (more t ts) k h = absurd h
stand_all_kept f g (n ∷ ns) none k h = absurd h
stand_all_kept f g (n ∷ ns) (more t ts) k h = (k n t h.0, stand_all_kept f g ns ts k h.1)

-- references that stand for terms may be a node's children
pub stand_all_known : (f : Grown) (ns : List TermRef) (ts : Terms) → StandForAll f ns ts → AllKnown f ns
stand_all_known f [] ts h i d l = absurd (omega arith)
stand_all_known f (n ∷ ns) none h i d l = absurd h
stand_all_known f (n ∷ ns) (more t ts) h zero d l = stands_known f n t h.0
stand_all_known f (n ∷ ns) (more t ts) h (suc i) d l = stand_all_known f ns ts h.1 i d (omega arith)

pub known_stand_all : (f : Grown) (ns : List TermRef) → AllKnown f ns → (ts : Terms) × StandForAll f ns ts
known_stand_all f ns h = (terms_of f ns, stand f ns h)
  where
    stand : (f : Grown) (ns : List TermRef) → AllKnown f ns → StandForAll f ns (terms_of f ns)
    stand f [] h = tt
    stand f (n ∷ ns) h = (known_stands f n (known_front f n ns h), stand f ns (known_rest f n ns h))
