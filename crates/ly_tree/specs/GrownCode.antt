-- An encoding of a forest's content: a term as its parts in prefix order, which a stack reads from the right.
use Rattle.std.specs.Prelude.{◌≡◌, ℕ, ◌⊎◌, List, [], ◌∷◌, ◌++◌, refl}
use base.Stored.{coded_unit}
use mathlib.Core.Logic.{inl, inr}
use mathlib.Core.Path.{ap, sym, ◌∙◌}
use Rattle.std.proofs.Common.{append_assoc, append-nil}
use Rattle.std.specs.Coded.{Coded, code_by, coded×, coded⊎, coded_ℕ, coded_list}
use Rattle.ly_tree.specs.Forest.{Grown}
use Rattle.ly_tree.specs.Term.{Term, Terms, nothing, leaf, built, none, more}
use Rattle.ly_tree.specs.declared.node_span.NodeSpan.{NodeSpan}

-- a node begins; a leaf; nothing; a node ends
abbrev pub PrefixItem : Type 0
PrefixItem = ℕ ⊎ ((ℕ × List ℕ) ⊎ (Unit {0} ⊎ Unit {0}))

abbrev begins : ℕ → PrefixItem
begins p = inl p

abbrev leaf_item : ℕ → List ℕ → PrefixItem
leaf_item t bytes = inr (inl (t, bytes))

abbrev nothing_item : PrefixItem
nothing_item = inr (inr (inl tt))

abbrev ends : PrefixItem
ends = inr (inr (inr tt))

-- a term in prefix order
abbrev mutual
  pub to_items : Term → List PrefixItem
  to_items nothing = nothing_item ∷ []
  to_items (leaf t bytes) = leaf_item t bytes ∷ []
  to_items (built p ts) = begins p ∷ all_items ts ++ ends ∷ []

  pub all_items : Terms → List PrefixItem
  all_items none = []
  all_items (more t ts) = to_items t ++ all_items ts

-- the stack with a term before those of its top
abbrev pub put : Term → List Terms → List Terms
put t [] = more t none ∷ []
put t (ts ∷ st) = more t ts ∷ st

-- the stack with its top made into a node
abbrev pub built_on : ℕ → List Terms → List Terms
built_on p [] = []
built_on p (ts ∷ st) = put (built p ts) st

abbrev pub take_item : PrefixItem → List Terms → List Terms
take_item (inl p) st = built_on p st
take_item (inr (inl l)) st = put (leaf l.0 l.1) st
take_item (inr (inr (inl u))) st = put nothing st
take_item (inr (inr (inr u))) st = none ∷ st

-- the stack after reading items from the right
abbrev pub take_items : List PrefixItem → List Terms
take_items [] = []
take_items (i ∷ is) = take_item i (take_items is)

abbrev pub first_term : Terms → Term
first_term none = nothing
first_term (more t ts) = t

abbrev pub topmost : List Terms → Term
topmost [] = nothing
topmost (ts ∷ st) = first_term ts

-- the term of items in prefix order
abbrev pub from_items : List PrefixItem → Term
from_items is = topmost (take_items is)

abbrev put_all : Terms → List Terms → List Terms
put_all none st = st
put_all (more t ts) st = put t (put_all ts st)

put_all-none : (ts : Terms) (st : List Terms) → put_all ts (none ∷ st) ≡ ts ∷ st
put_all-none none st = refl
put_all-none (more t ts) st = ap (put t) (put_all-none ts st)

mutual
  reads : (t : Term) (is : List PrefixItem) → take_items (to_items t ++ is) ≡ put t (take_items is)
  reads nothing is = refl
  reads (leaf t bytes) is = refl
  reads (built p ts) is = ap (built_on p)
      (ap take_items (append_assoc (all_items ts) (ends ∷ []) is)
      ∙ (reads_all ts (ends ∷ is) ∙ put_all-none ts (take_items is)))

  reads_all : (ts : Terms) (is : List PrefixItem) → take_items (all_items ts ++ is) ≡ put_all ts (take_items is)
  reads_all none is = refl
  reads_all (more t ts) is = ap take_items (append_assoc (to_items t) (all_items ts) is)
      ∙ (reads t (all_items ts ++ is) ∙ ap (put t) (reads_all ts is))

pub from_to : (t : Term) → from_items (to_items t) ≡ t
from_to t = ap from_items (sym (append-nil (to_items t))) ∙ ap topmost (reads t [])

abbrev pub term_code : Coded Term
term_code = code_by (List PrefixItem)
    (coded_list (coded⊎ coded_ℕ (coded⊎ (coded× coded_ℕ (coded_list coded_ℕ)) (coded⊎ coded_unit coded_unit)))) to_items
    from_items from_to

abbrev span_code : Coded NodeSpan
span_code = code_by ((ℕ × ℕ) × ℕ) (coded× (coded× coded_ℕ coded_ℕ) coded_ℕ) (λ s. ((s.rule.0, s.start), s.count))
    (λ p. record { rule = record { 0 = p.0.0 }; start = p.0.1; count = p.1 }) (λ _. refl)

abbrev pub grown_code : Coded Grown
grown_code = code_by (((List ℕ × List Term) × List NodeSpan) × List Term)
    (coded× (coded× (coded× (coded_list coded_ℕ) (coded_list term_code)) (coded_list span_code)) (coded_list term_code))
    (λ f. (((f.lists.texts, f.lists.long_leaves), f.lists.long_nodes), f.children))
    (λ p. record {
      lists = record { texts = p.0.0.0; long_leaves = p.0.0.1; long_nodes = p.0.1 };
      children = p.1;
    }) (λ _. refl)
