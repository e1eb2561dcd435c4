-- Strings that lead from state to state, and items that are valid there.
use Rattle.std.proofs.Common.{◌≡◌, ◌≢◌, ◌∙◌, inl, inr, ℕ, List, [], ◌∷◌, ◌++◌, Some}
use Rattle.std.proofs.Common.{refl, sym, ap, subst}
use Rattle.ly_base.specs.Trees.{Tree, node, none, more, yield_of, yields_of}
use Rattle.ly_join.specs.Grammar.{Grammar, IsRule, GrammarRule, Symbol, nonterminal, terminal}
use Rattle.ly_grammar.specs.Derivations.{First, IsNullable, IsTree}
use Rattle.ly_grammar.specs.Items.{Valid, closed, moved}
use Rattle.ly_grammar.proofs.ItemLemmas.{First-skip, First_trees}
use Rattle.ly_lr0.specs.Automaton.{Gotos, Reaches}

-- a string leads to one state
pub Reaches_one : (goto : Gotos) (q : ℕ) (w : List Symbol) (s t : ℕ) → Reaches goto q w s → Reaches goto q w t → s ≡ t
Reaches_one goto q [] s t a b = a ∙ sym b
Reaches_one goto q (X ∷ w) s t a b =
    let same = Reaches_one goto q w a.0 b.0 a.1 b.1 in
    let e : Some s ≡ Some t = sym a.2 ∙ (ap (λ r. goto r X) same ∙ b.2) in
    cc

-- a string leads on from where another one led
pub Reaches-append : (goto : Gotos) (q : ℕ) (w u : List Symbol) (s t : ℕ) → Reaches goto q u s → Reaches goto s w t
    → Reaches goto q (w ++ u) t
Reaches-append goto q [] u s t a b = subst (Reaches goto q u) (sym b) a
Reaches-append goto q (X ∷ w) u s t a b = (b.0, Reaches-append goto q w u s b.0 a b.1, b.2)

-- and so a string is led along in two parts
pub Reaches-split : (goto : Gotos) (q : ℕ) (w u : List Symbol) (s : ℕ) → Reaches goto q (w ++ u) s
    → (r : ℕ) × Reaches goto q u r × Reaches goto r w s
Reaches-split goto q [] u s a = (s, a, refl)
Reaches-split goto q (X ∷ w) u s a =
    let i = Reaches-split goto q w u a.0 a.1 in
    (i.0, i.1, (a.0, i.2, a.2))

-- a nonterminal is no terminal
pub apart : {A k : ℕ} → nonterminal A ≢ terminal k
apart e = cc

-- nothing stands before or behind in an empty string
pub left_empty : {A : Type 0} (u v : List A) → u ++ v ≡ [] → u ≡ []
left_empty [] v e = refl
left_empty (x ∷ u) v e = cc

pub right_empty : {A : Type 0} (u v : List A) → u ++ v ≡ [] → v ≡ []
right_empty [] v e = e
right_empty (x ∷ u) v e = absurd (cc)

-- a nullable symbol has a tree without tokens
pub nullable_tree : (G : Grammar) (X : Symbol) → IsNullable G (X ∷ []) → (d : Tree) × IsTree G X d × (yield_of d ≡ [])
nullable_tree G X (none, lacks, e) = absurd lacks
nullable_tree G X (more d ts, are, e) = (d, are.0, left_empty (yield_of d) (yields_of ts) e)

-- The item that waits for X at g: what begins behind X with t behind it begins behind the item's X.
pub record Waits (G : Grammar) (g : List Symbol) (X : Symbol) (after : List Symbol) (t : ℕ) : Type 0 where
  pub number : ℕ
  pub before : List Symbol
  pub rest : List Symbol
  pub behind : ℕ
  pub valid : Valid G g number before (X ∷ rest) behind
  pub takes_in : (v : ℕ) → First G after t v → First G rest behind v

-- what begins a rule's body begins its left side
First_of_body : (G : Grammar) (q : ℕ) (r : GrammarRule) (B : ℕ) (after : List Symbol) (t u v : ℕ) → IsRule G q r
    → r.left ≡ B
    → First G after t u → First G r.body u v → First G (nonterminal B ∷ after) t v
First_of_body G q r B after t u v e l f (inl b) =
    let us = First_trees f in
    inl (
      more (node q b.0) us.0,
      ((r, e, l, b.1), us.1),
      b.2,
      b.3 ++ yields_of us.0,
      ap (λ y. y ++ yields_of us.0) b.4,
      b.5,
    )
First_of_body G q r B after t u v e l f (inr b) =
    First-skip (node q b.0.0) (r, e, l, b.0.1) b.0.2 (subst (First G after t) (sym b.1) f)

-- an item that is valid behind X comes from one that waits for X
pub back : {G : Grammar} {g : List Symbol} {X : Symbol} {p : ℕ} {before after : List Symbol} {t : ℕ}
    → Valid G (X ∷ g) p before after t → Waits G g X after t
back {G} (closed {after = after} {B = B} {t = t} {q = q} {r = r} {w = w} {u = u} v e l ew f) =
    let i = back v in
    record {
      number = i.number;
      before = i.before;
      rest = i.rest;
      behind = i.behind;
      valid = i.valid;
      takes_in = λ x h. i.takes_in x
          (First_of_body G q r B after t u x e l f (subst (λ y. First G y u x) ew h));
    }
back (moved {p = p} {before = before} {after = after} {t = t} v) =
    record { number = p; before = before; rest = after; behind = t; valid = v; takes_in = λ x h. h }
