-- What leaves and nodes of a forest stand for, and that it stays when more come.
use Rattle.std.proofs.Common.{◌≡◌, ℕ, zero, suc, ◌+◌, ◌<◌, ◌≤◌, List, [], ◌∷◌, ◌++◌, length, map, take, drop, arith}
use Rattle.std.proofs.Common.{refl, sym, ap, ◌∙◌, subst, append-nil, append_assoc}
use Rattle.std.specs.Prelude.{slice_get, IsSome, None, Option, Some, option_map, unwrap_or}
use Rattle.std.proofs.lemmas.List.{drop-map, length-map, map-append, take-map}
use Rattle.std.proofs.lemmas.List.Elements.{All-drop, All-take}
use Rattle.std.proofs.lemmas.Option.{slice_get-map}
use Rattle.ly_tree.proofs.PieceLemmas.{mapped_some, piece_end, piece_inside, piece_is}
use Rattle.ly_tree.proofs.StandLemmas.{all_known_kept, joined, known_front, known_kept, known_rest, stand_all_kept}
use Rattle.ly_tree.proofs.StandLemmas.{stand_all_known, stand_unwrapped, term_kept, Keeps-append}
use Rattle.ly_tree.specs.Forest.{all_of, no_lists, node_by, number_of, piece, term_of, terms_of}
use Rattle.ly_tree.specs.Forest.{Grown, Keeps, Lists, StandsFor, StandForAll}
use Rattle.ly_tree.specs.Private.Grown.{child_term, grown, lists_from, long_leaf, terms_from, AllKnown, AreKnown}
use Rattle.ly_tree.specs.Term.{Term, Terms, built, leaf, more, nothing}
use Rattle.ly_base.specs.declared.numbers.Sym.{Sym}
use Rattle.ly_base.proofs.ListLemmas.{slice_get-behind}
use Rattle.ly_tree.specs.declared.forest.TermRef.{TermRef}
use Rattle.ly_tree.specs.declared.forest.TermRef.TheVariants.{LongLeaf, LongNode, Node, ShortLeaf}
use Rattle.ly_tree.specs.declared.node_span.NodeSpan.{NodeSpan}

slice_get_inside : {A : Type 0} (xs : List A) (k : ℕ) → IsSome (slice_get xs k) → k < length xs
slice_get_inside [] k h = absurd cc
slice_get_inside (x ∷ xs) zero h = omega arith
slice_get_inside (x ∷ xs) (suc k) h = omega (arith, slice_get_inside xs k h)

pub joined-none : (ls : Lists) → joined ls no_lists ≡ ls
joined-none ls = λ i. record {
  texts = append-nil ls.texts i;
  long_leaves = append-nil ls.long_leaves i;
  long_nodes = append-nil ls.long_nodes i;
}

-- a term behind them changes none
one_more : (ls : Lists) (done : List Term) (t : Term)
    → Keeps (record { lists = ls; children = done }) (record { lists = ls; children = done ++ t ∷ [] })
one_more ls done t n u e =
    subst (λ ms. StandsFor (record { lists = ms; children = done ++ t ∷ [] }) n u) (joined-none ls)
    (Keeps-append ls no_lists done (t ∷ []) n u e)

-- more children keep the terms before them
pub terms_from-keeps : (ls : Lists) (done : List Term) (rs : List TermRef)
    → Keeps (record { lists = ls; children = done }) (record { lists = ls; children = terms_from ls done rs })
terms_from-keeps ls done [] n t e = e
terms_from-keeps ls done (r ∷ rs) n t e =
    terms_from-keeps ls (done ++ child_term ls done r ∷ []) rs n t (one_more ls done (child_term ls done r) n t e)

-- children behind others
terms_from-more : (ls : Lists) (done : List Term) (rs qs : List TermRef)
    → terms_from ls done (rs ++ qs) ≡ terms_from ls (terms_from ls done rs) qs
terms_from-more ls done [] qs = refl
terms_from-more ls done (r ∷ rs) qs = terms_from-more ls (done ++ child_term ls done r ∷ []) rs qs

-- references that are known may be children
known_behind : (ls : Lists) (done : List Term) (qs : List TermRef)
    → AllKnown (record { lists = ls; children = done }) qs → AreKnown ls done qs
known_behind ls done [] k = tt
known_behind ls done (q ∷ qs) k =
    let now : Grown = record { lists = ls; children = done } in
    let next : List Term = done ++ child_term ls done q ∷ [] in (
      known_front now q qs k,
      known_behind ls next qs (all_known_kept now (record { lists = ls; children = next }) qs
          (one_more ls done (child_term ls done q)) (known_rest now q qs k)),
    )

AreKnown-more : (ls : Lists) (done : List Term) (rs qs : List TermRef) → AreKnown ls done rs
    → AllKnown (record { lists = ls; children = terms_from ls done rs }) qs → AreKnown ls done (rs ++ qs)
AreKnown-more ls done [] qs h k = known_behind ls done qs k
AreKnown-more ls done (r ∷ rs) qs h k = (h.0, AreKnown-more ls (done ++ child_term ls done r ∷ []) rs qs h.1 k)

pub more_lists : (ls ms : Lists) (done : List Term)
    → Keeps (record { lists = ls; children = done }) (record { lists = joined ls ms; children = done })
more_lists ls ms done n t e =
    subst (λ ts. StandsFor (record { lists = joined ls ms; children = ts }) n t) (append-nil done)
    (Keeps-append ls ms done [] n t e)

-- more leaves change no child
child_term-leaf : (ls ms : Lists) (done : List Term) (r : TermRef)
    → IsSome (term_of (record { lists = ls; children = done }) r)
    → child_term (joined ls ms) done r ≡ child_term ls done r
child_term-leaf ls ms done r h =
    term_kept (record { lists = ls; children = done }) (record { lists = joined ls ms; children = done }) r
    (more_lists ls ms done) h

pub terms_from-leaf : (ls ms : Lists) (done : List Term) (rs : List TermRef)
    → AreKnown ls done rs → terms_from (joined ls ms) done rs ≡ terms_from ls done rs
terms_from-leaf ls ms done [] h = refl
terms_from-leaf ls ms done (r ∷ rs) h =
    ap (λ t. terms_from (joined ls ms) (done ++ t ∷ []) rs) (child_term-leaf ls ms done r h.0)
    ∙ terms_from-leaf ls ms (done ++ child_term ls done r ∷ []) rs h.1

pub AreKnown-leaf : (ls ms : Lists) (done : List Term) (rs : List TermRef)
    → AreKnown ls done rs → AreKnown (joined ls ms) done rs
AreKnown-leaf ls ms done [] h = tt
AreKnown-leaf ls ms done (r ∷ rs) h = (
  known_kept (record { lists = ls; children = done }) (record { lists = joined ls ms; children = done }) r
      (more_lists ls ms done) h.0,
  subst (λ t. AreKnown (joined ls ms) (done ++ t ∷ []) rs) (sym (child_term-leaf ls ms done r h.0))
      (AreKnown-leaf ls ms (done ++ child_term ls done r ∷ []) rs h.1),
)

-- the term that a reference stands for, where it stands for one
abbrev term_by : Grown → TermRef → Term
term_by f r = unwrap_or (term_of f r) nothing

-- the terms of children are those that they stand for when all are there
children_are : (ls : Lists) (done : List Term) (rs : List TermRef) → AreKnown ls done rs
    → terms_from ls done rs ≡ done ++ map (term_by (record { lists = ls; children = terms_from ls done rs })) rs
children_are ls done [] h = sym (append-nil done)
children_are ls done (r ∷ rs) h =
    let f : Grown = record { lists = ls; children = terms_from ls done (r ∷ rs) } in
    let stays : term_by f r ≡ child_term ls done r
    = term_kept (record { lists = ls; children = done }) f r (terms_from-keeps ls done (r ∷ rs)) h.0 in
    children_are ls (done ++ child_term ls done r ∷ []) rs h.1
    ∙ (append_assoc done (child_term ls done r ∷ []) (map (term_by f) rs)
    ∙ ap (λ t. done ++ t ∷ map (term_by f) rs) (sym stays))

-- and each stands for one
children_known : (ls : Lists) (done : List Term) (rs : List TermRef) → AreKnown ls done rs
    → AllKnown (record { lists = ls; children = terms_from ls done rs }) rs
children_known ls done [] h i d l = absurd (omega arith)
children_known ls done (r ∷ rs) h zero d l =
    known_kept (record { lists = ls; children = done })
    (record { lists = ls; children = terms_from ls done (r ∷ rs) }) r (terms_from-keeps ls done (r ∷ rs)) h.0
children_known ls done (r ∷ rs) h (suc i) d l =
    children_known ls (done ++ child_term ls done r ∷ []) rs h.1 i d (omega arith)

all_of_map : (f : Grown) (rs : List TermRef) → all_of (map (term_by f) rs) ≡ terms_of f rs
all_of_map f [] = refl
all_of_map f (r ∷ rs) = ap (more (term_by f r)) (all_of_map f rs)

-- reading a node
pub node_inside : (ls : Lists) (rs : List TermRef) (f : Grown) (n p s : ℕ) → AreKnown ls [] rs → grown ls rs ≡ f
    → IsSome (term_of f (Node n p s)) → s + n ≤ length rs
node_inside ls rs f n p s known e h =
    let within = piece_inside s n f.children (mapped_some (λ ts. built p (all_of ts)) _ h) in
    let count : length f.children ≡ length rs
    = ap (λ g. length g.children) (sym e)
    ∙ (ap length (children_are ls [] rs known) ∙ length-map rs (term_by (grown ls rs))) in
    omega (arith, within, count)

-- what is known of a node: its term is made of those of its children
pub record IsNode (f : Grown) (n p s : ℕ) (rs : List TermRef) : Type 0 where
  pub term : StandsFor f (Node n p s) (built p (terms_of f rs))
  pub known : AllKnown f rs

node_of : (ls : Lists) (rs : List TermRef) (n p s : ℕ) → AreKnown ls [] rs → s + n ≤ length rs
    → IsNode (grown ls rs) n p s (take n (drop s rs))
node_of ls rs n p s known within =
    let f : Grown = grown ls rs in
    let children : f.children ≡ map (term_by f) rs = children_are ls [] rs known in
    let size : length f.children ≡ length rs = ap length children ∙ length-map rs (term_by f) in
    let part : take n (drop s f.children) ≡ map (term_by f) (take n (drop s rs))
    = ap (λ ts. take n (drop s ts)) children
    ∙ (ap (take n) (drop-map (term_by f) s rs) ∙ take-map (term_by f) n (drop s rs)) in
    record {
      term = ap (option_map (λ ts. built p (all_of ts))) (piece_is s n f.children (omega (arith, size, within)))
          ∙ (ap (λ ts. Some (built p (all_of ts))) part
          ∙ ap (λ ts. Some (built p ts)) (all_of_map f (take n (drop s rs))));
      known = All-take (λ r. IsSome (term_of f r)) n (drop s rs)
          (All-drop (λ r. IsSome (term_of f r)) s rs (children_known ls [] rs known));
    }

pub node_is : (ls : Lists) (rs qs : List TermRef) (f : Grown) (n p s : ℕ) → AreKnown ls [] rs → grown ls rs ≡ f
    → IsSome (term_of f (Node n p s)) → qs ≡ take n (drop s rs) → IsNode f n p s qs
node_is ls rs qs f n p s known e h is =
    subst (λ g. IsNode g n p s qs) e (subst (λ xs. IsNode (grown ls rs) n p s xs) (sym is)
    (node_of ls rs n p s known (node_inside ls rs f n p s known e h)))

-- reading a short leaf
pub short_inside : (ls : Lists) (bs : List TermRef) (f : Grown) (n t s : ℕ) → grown ls bs ≡ f
    → IsSome (term_of f (ShortLeaf n t s)) → s + n ≤ length ls.texts
short_inside ls bs f n t s e h =
    subst (λ g. s + n ≤ length g.lists.texts) (sym e)
    (piece_inside s n f.lists.texts (mapped_some (λ text. leaf t text) _ h))

pub short_is : (ls : Lists) (text : List ℕ) (bs : List TermRef) (f : Grown) (n t s : ℕ)
    → grown ls bs ≡ f → IsSome (term_of f (ShortLeaf n t s)) → text ≡ take n (drop s ls.texts)
    → StandsFor f (ShortLeaf n t s) (leaf t text)
short_is ls text bs f n t s e h is =
    ap (λ g. term_of g (ShortLeaf n t s)) (sym e)
    ∙ ap (option_map (λ x. leaf t x)) (piece_is s n ls.texts (short_inside ls bs f n t s e h) ∙ ap Some (sym is))

-- reading a leaf that isn't short
pub long_inside : (texts : List ℕ) (long : List (Sym × List ℕ)) (spans : List NodeSpan) (bs : List TermRef) (f : Grown)
    (high low : ℕ) → grown (lists_from texts long spans) bs ≡ f → IsSome (term_of f (LongLeaf high low))
    → number_of high low < length long
long_inside texts long spans bs f high low e h =
    let less = slice_get_inside f.lists.long_leaves (number_of high low) h in
    omega (arith, less, ap (λ g. length g.lists.long_leaves) e, length-map long long_leaf)

pub long_is : (texts : List ℕ) (long : List (Sym × List ℕ)) (spans : List NodeSpan) (bs : List TermRef) (f : Grown)
    (high low : ℕ) (l : Sym × List ℕ) → grown (lists_from texts long spans) bs ≡ f
    → slice_get long (number_of high low) ≡ Some l → StandsFor f (LongLeaf high low) (long_leaf l)
long_is texts long spans bs f high low l e is =
    ap (λ g. term_of g (LongLeaf high low)) (sym e)
    ∙ (slice_get-map long_leaf long (number_of high low) ∙ ap (option_map long_leaf) is)

-- reading a long node
span_there : (ts : List Term) (spans : List NodeSpan) (k : ℕ) → IsSome (node_by ts (slice_get spans k))
    → k < length spans
span_there ts spans k h = slice_get_inside spans k (there (slice_get spans k) h)
  where
    there : (o : Option NodeSpan) → IsSome (node_by ts o) → IsSome o
    there None h = h
    there (Some s) h = refl

pub long_node_inside : (texts : List ℕ) (long : List (Sym × List ℕ)) (spans : List NodeSpan) (bs : List TermRef)
    (f : Grown) (high low : ℕ) → grown (lists_from texts long spans) bs ≡ f
    → IsSome (term_of f (LongNode high low)) → number_of high low < length spans
long_node_inside texts long spans bs f high low e h =
    let less = span_there f.children f.lists.long_nodes (number_of high low) h in
    omega (arith, less, ap (λ g. length g.lists.long_nodes) e)

-- it is the node of its span
pub long_node_is : (texts : List ℕ) (long : List (Sym × List ℕ)) (spans : List NodeSpan) (bs : List TermRef) (f : Grown)
    (high low : ℕ) (s : NodeSpan) → grown (lists_from texts long spans) bs ≡ f
    → slice_get spans (number_of high low) ≡ Some s
    → term_of f (LongNode high low) ≡ term_of f (Node s.count s.rule.0 s.start)
long_node_is texts long spans bs f high low s e is =
    ap (λ g. node_by f.children (slice_get g.lists.long_nodes (number_of high low))) (sym e)
    ∙ ap (node_by f.children) is

-- lists more
pub lists_known : (ls others ms : Lists) (bs : List TermRef) → AreKnown ls [] bs → ms ≡ joined ls others
    → AreKnown ms [] bs
lists_known ls others ms bs h e = subst (λ l. AreKnown l [] bs) (sym e) (AreKnown-leaf ls others [] bs h)

pub lists_keep : (ls others ms : Lists) (bs : List TermRef) (f : Grown) → AreKnown ls [] bs
    → grown ls bs ≡ f → ms ≡ joined ls others → Keeps f (grown ms bs)
lists_keep ls others ms bs f h v e =
    let same : grown ms bs ≡ record { lists = joined ls others; children = terms_from ls [] bs }
    = ap (λ l. grown l bs) e
    ∙ ap (λ ts. record { lists = joined ls others; children = ts }) (terms_from-leaf ls others [] bs h) in
    subst (λ g. Keeps g (grown ms bs)) v (subst (λ g. Keeps (grown ls bs) g) (sym same)
    (more_lists ls others (terms_from ls [] bs)))

-- a short leaf more
pub short_joined : (texts ms text : List ℕ) (long : List (Sym × List ℕ)) (spans : List NodeSpan) → ms ≡ texts ++ text
    → lists_from ms long spans
    ≡ joined (lists_from texts long spans) (record { texts = text; long_leaves = []; long_nodes = [] })
short_joined texts ms text long spans e = λ i. record {
  texts = e i;
  long_leaves = sym (append-nil (map long_leaf long)) i;
  long_nodes = sym (append-nil spans) i;
}

pub short_stands : (texts ms text : List ℕ) (long : List (Sym × List ℕ)) (spans : List NodeSpan) (bs : List TermRef)
    (n t s : ℕ) → ms ≡ texts ++ text → s ≡ length texts → n ≡ length text
    → StandsFor (grown (lists_from ms long spans) bs) (ShortLeaf n t s) (leaf t text)
short_stands texts ms text long spans bs n t s e start count =
    ap (option_map (λ x. leaf t x))
    (ap (piece s n) e ∙ (ap (λ k. piece k n (texts ++ text)) start
    ∙ (ap (λ k. piece (length texts) k (texts ++ text)) count ∙ piece_end texts text)))

-- another leaf more
pub long_joined : (texts : List ℕ) (long ls : List (Sym × List ℕ)) (spans : List NodeSpan) (l : Sym × List ℕ)
    → ls ≡ long ++ l ∷ [] → lists_from texts ls spans
    ≡ joined (lists_from texts long spans) (record { texts = []; long_leaves = long_leaf l ∷ []; long_nodes = [] })
long_joined texts long ls spans l e =
    let leaves : map long_leaf ls ≡ map long_leaf long ++ long_leaf l ∷ []
    = ap (map long_leaf) e ∙ map-append long_leaf long (l ∷ []) in
    λ i. record { texts = sym (append-nil texts) i; long_leaves = leaves i; long_nodes = sym (append-nil spans) i }

pub long_stands : (texts : List ℕ) (long ls : List (Sym × List ℕ)) (spans : List NodeSpan) (bs : List TermRef)
    (l : Sym × List ℕ) (high low : ℕ) → ls ≡ long ++ l ∷ [] → number_of high low ≡ length long
    → StandsFor (grown (lists_from texts ls spans) bs) (LongLeaf high low) (long_leaf l)
long_stands texts long ls spans bs l high low e n =
    ap (λ i. slice_get (map long_leaf ls) i) n
    ∙ (ap (λ xs. slice_get (map long_leaf xs) (length long)) e
    ∙ (slice_get-map long_leaf (long ++ l ∷ []) (length long)
    ∙ ap (option_map long_leaf) (slice_get-behind long [] (length long) l refl)))

-- a node more
pub node_known : (ls : Lists) (rs cs qs : List TermRef) (f : Grown) → AreKnown ls [] rs → grown ls rs ≡ f
    → AllKnown f qs → cs ≡ rs ++ qs → AreKnown ls [] cs
node_known ls rs cs qs f h v k e =
    subst (λ xs. AreKnown ls [] xs) (sym e)
    (AreKnown-more ls [] rs qs h (subst (λ g. AllKnown g qs) (sym v) k))

pub node_keeps : (ls : Lists) (rs cs qs : List TermRef) (f : Grown) → grown ls rs ≡ f → cs ≡ rs ++ qs
    → Keeps f (grown ls cs)
node_keeps ls rs cs qs f v e n t s =
    subst (λ g. StandsFor g n t) (sym (ap (grown ls) e
    ∙ ap (λ ts. record { lists = ls; children = ts }) (terms_from-more ls [] rs qs)))
    (terms_from-keeps ls (terms_from ls [] rs) qs n t (subst (λ g. StandsFor g n t) (sym v) s))

pub node_stands : (ls : Lists) (rs cs qs : List TermRef) (f : Grown) (n p s : ℕ) (ts : Terms) → AreKnown ls [] rs
    → grown ls rs ≡ f → cs ≡ rs ++ qs → s ≡ length rs → n ≡ length qs → StandForAll f qs ts
    → StandsFor (grown ls cs) (Node n p s) (built p ts)
node_stands ls rs cs qs f n p s ts known v e start count stand =
    let done = terms_from ls [] rs in
    let g : Grown = record { lists = ls; children = terms_from ls done qs } in
    let same : grown ls cs ≡ g
    = ap (grown ls) e ∙ ap (λ us. record { lists = ls; children = us }) (terms_from-more ls [] rs qs) in
    let size : length done ≡ s
    = ap length (children_are ls [] rs known)
    ∙ (length-map rs (term_by (grown ls rs)) ∙ sym start) in
    let mine : AllKnown (grown ls rs) qs = subst (λ h. AllKnown h qs) (sym v) (stand_all_known f qs ts stand) in
    let behind = children_are ls done qs (known_behind ls done qs mine) in
    let pieces : piece s n g.children ≡ Some (map (term_by g) qs)
    = ap (piece s n) behind
    ∙ (ap (λ k. piece k n (done ++ map (term_by g) qs)) (sym size)
    ∙ (ap (λ k. piece (length done) k (done ++ map (term_by g) qs))
    (count ∙ sym (length-map qs (term_by g)))
    ∙ piece_end done (map (term_by g) qs))) in
    let kept : StandForAll g qs ts
    = stand_all_kept (grown ls rs) g qs ts (terms_from-keeps ls done qs)
    (subst (λ h. StandForAll h qs ts) (sym v) stand) in
    ap (λ h. term_of h (Node n p s)) same
    ∙ (ap (option_map (λ us. built p (all_of us))) pieces
    ∙ ap (λ us. Some (built p us)) (all_of_map g qs ∙ stand_unwrapped g qs ts kept))

-- a long node more: its children, and then its span
module _ (texts : List ℕ) (long : List (Sym × List ℕ)) (spans longer : List NodeSpan) (rs cs qs : List TermRef)
    (f : Grown)
    (s : NodeSpan) (known : AreKnown (lists_from texts long spans) [] rs)
    (view : grown (lists_from texts long spans) rs ≡ f) (children : cs ≡ rs ++ qs)
    (last : longer ≡ spans ++ s ∷ []) where
  abbrev before : Lists
  before = lists_from texts long spans

  abbrev pub span_alone : Lists
  span_alone = record { texts = []; long_leaves = []; long_nodes = s ∷ [] }

  pub span_joined : lists_from texts long longer ≡ joined before span_alone
  span_joined = λ i. record {
    texts = sym (append-nil texts) i;
    long_leaves = sym (append-nil (map long_leaf long)) i;
    long_nodes = last i;
  }

  pub long_node_known : AllKnown f qs → AreKnown (lists_from texts long longer) [] cs
  long_node_known k =
      lists_known before span_alone (lists_from texts long longer) cs
      (node_known before rs cs qs f known view k children) span_joined

  span_keeps : AllKnown f qs → Keeps (grown before cs) (grown (lists_from texts long longer) cs)
  span_keeps k =
      lists_keep before span_alone (lists_from texts long longer) cs (grown before cs)
      (node_known before rs cs qs f known view k children) refl span_joined

  pub long_node_keeps : AllKnown f qs → Keeps f (grown (lists_from texts long longer) cs)
  long_node_keeps k r t e = span_keeps k r t (node_keeps before rs cs qs f view children r t e)

  pub long_node_stands : (high low : ℕ) (ts : Terms) → s.start ≡ length rs → s.count ≡ length qs
      → number_of high low ≡ length spans → StandForAll f qs ts
      → StandsFor (grown (lists_from texts long longer) cs) (LongNode high low) (built s.rule.0 ts)
  long_node_stands high low ts start count number stand =
      let there : slice_get longer (number_of high low) ≡ Some s
      = ap (λ xs. slice_get xs (number_of high low)) last
      ∙ (ap (slice_get (spans ++ s ∷ [])) number ∙ slice_get-behind spans [] (length spans) s refl) in
      long_node_is texts long longer cs (grown (lists_from texts long longer) cs) high low s refl there
      ∙ span_keeps (stand_all_known f qs ts stand) (Node s.count s.rule.0 s.start) (built s.rule.0 ts)
      (node_stands before rs cs qs f s.count s.rule.0 s.start ts known view children start count stand)
