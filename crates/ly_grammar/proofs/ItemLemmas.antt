-- Valid items and trees.
use Rattle.std.proofs.Common.{◌≡◌, ◌⊎◌, inl, inr, ℕ, zero, suc, ◌+◌, ◌≤◌, List, [], ◌∷◌, ◌++◌, refl, sym, ◌∙◌, ap}
use Rattle.std.proofs.Common.{All, subst, arith, length}
use Rattle.std.proofs.lemmas.List.Elements.{All-tail}
use Rattle.ly_base.specs.Lexed.{Token}
use Rattle.ly_base.specs.Trees.{Tree, Trees, leaf, none, more, yield_of, yields_of}
use Rattle.ly_join.specs.Grammar.{Grammar, IsAugmented, IsRule, GrammarRule, Symbol, accept_rule, nonterminal, terminal}
use Rattle.ly_grammar.specs.Derivations.{AreTrees, First, IsReduced, IsTree}
use Rattle.ly_grammar.specs.Items.{Valid, at_start, closed, moved, onto}
use Rattle.ly_grammar.proofs.ReduceLemmas.{occurs_body}
use Rattle.ly_grammar.proofs.SearchLemmas.{rule_is_one}

-- The body of an item's rule is what stands before the dot, and what stands behind it.
pub body_of : {G : Grammar} {g : List Symbol} {p : ℕ} {before after : List Symbol} {t : ℕ}
    → Valid G g p before after t → (r : GrammarRule) × IsRule G p r × (onto before after ≡ r.body)
body_of (at_start {r = r} a e) = (r, a, e)
body_of (closed {r = r} v a b e f) = (r, a, e)
body_of (moved v) = body_of v

-- trees of symbols are trees of those at the end
pub trees_of_end : (G : Grammar) (before after : List Symbol) (ts : Trees) → AreTrees G (onto before after) ts
    → (us : Trees) × AreTrees G after us
trees_of_end G [] after ts are = (ts, are)
trees_of_end G (X ∷ before) after ts are = drop_one (trees_of_end G before (X ∷ after) ts are) where
  drop_one : ((us : Trees) × AreTrees G (X ∷ after) us) → (us : Trees) × AreTrees G after us
  drop_one (none, lacks) = absurd lacks
  drop_one (more d us, are) = (us, are.1)

-- what stands behind the dot of an item has trees
pub trees_to_come : {G : Grammar} {g : List Symbol} {p : ℕ} {before after : List Symbol} {t : ℕ} → IsReduced G → 1 ≤ p
    → Valid G g p before after t → (ts : Trees) × AreTrees G after ts
trees_to_come {G} {p = p} {before = before} {after = after} reduced le v =
    let body = body_of v in
    let useful = reduced.useful p body.0 body.1 le in
    let has = occurs_body G (nonterminal G.start) useful.0 p useful.1 useful.2 in
    let same : has.rule.body ≡ onto before after
    = ap (λ r. r.body) (rule_is_one G p has.rule body.0 has.is body.1) ∙ sym body.2 in
    trees_of_end G before after has.trees (subst (λ w. AreTrees G w has.trees) same has.are)

-- how long strings put one onto another are
pub length-onto : (b w : List Symbol) → length (onto b w) ≡ length b + length w
length-onto [] w = omega arith
length-onto (X ∷ b) w = omega (arith, length-onto b (X ∷ w))

-- what all symbols of a body meet, those at its end do
pub All-onto : (P : Symbol → Type 0) (before w : List Symbol) → All P (onto before w) → All P w
All-onto P [] w all = all
All-onto P (X ∷ before) w all = All-tail P X w (All-onto P before (X ∷ w) all)

-- Where an item of rule 0 has its dot: before the start symbol, with the end behind that, or before the end.
pub zero_split : (G : Grammar) (b w : List Symbol) (X : Symbol)
    → onto b (X ∷ w) ≡ nonterminal G.start ∷ terminal 0 ∷ []
    → ((b ≡ []) × (X ≡ nonterminal G.start) × (w ≡ terminal 0 ∷ []))
    ⊎ ((b ≡ nonterminal G.start ∷ []) × (X ≡ terminal 0) × (w ≡ []))
zero_split G [] w X e = inl (refl, cc, cc)
zero_split G (Y ∷ []) w X e = inr (cc, cc, cc)
zero_split G (Y ∷ Z ∷ b) w X e = absurd (omega (arith, ap length e, length-onto (Y ∷ Z ∷ b) (X ∷ w)))

-- the same, of a valid item
pub zero_item : {G : Grammar} {g : List Symbol} {before after : List Symbol} {X : Symbol} {t : ℕ} → IsAugmented G
    → Valid G g 0 before (X ∷ after) t
    → ((before ≡ []) × (X ≡ nonterminal G.start) × (after ≡ terminal 0 ∷ []))
    ⊎ ((before ≡ nonterminal G.start ∷ []) × (X ≡ terminal 0) × (after ≡ []))
zero_item {G} {before = before} {after = after} {X = X} augmented v =
    let body = body_of v in
    zero_split G before after X (body.2
    ∙ ap (λ r. r.body) (rule_is_one G 0 body.0 (accept_rule G.accept G.start) body.1 augmented.rule_0))

-- a symbol whose tree has no token begins what those behind it do
pub First-skip : {G : Grammar} {X : Symbol} {w : List Symbol} {u t : ℕ} (d : Tree) → IsTree G X d → yield_of d ≡ []
    → First G w u t → First G (X ∷ w) u t
First-skip d is e (inl f) =
    inl (more d f.0, (is, f.1), f.2, f.3, ap (λ y. y ++ yields_of f.0) e ∙ f.4, f.5)
First-skip d is e (inr f) = inr ((more d f.0.0, (is, f.0.1), ap (λ y. y ++ yields_of f.0.0) e ∙ f.0.2), f.1)

-- what has trees begins with some terminal
pub First_some : {G : Grammar} {w : List Symbol} (u : ℕ) (ts : Trees) → AreTrees G w ts → (t : ℕ) × First G w u t
First_some {G} {w} u ts are = go (yields_of ts) refl where
  go : (y : List (Token ℕ)) → yields_of ts ≡ y → (t : ℕ) × First G w u t
  go [] e = (u, inr ((ts, are, e), refl))
  go (x ∷ rest) e = (x.terminal, inl (ts, are, x, rest, e, refl))

-- what begins with a terminal has trees
pub First_trees : {G : Grammar} {w : List Symbol} {u t : ℕ} → First G w u t → (ts : Trees) × AreTrees G w ts
First_trees (inl f) = (f.0, f.1)
First_trees (inr f) = (f.0.0, f.0.1)

-- the end alone has a tree
end_tree : (G : Grammar) → (ts : Trees) × AreTrees G (terminal 0 ∷ []) ts
end_tree G = (more (leaf (record { terminal = 0; at = 0; bytes = [] })) none, (refl, tt))

-- trees of symbols without the first
trees_of_tail : {G : Grammar} {X : Symbol} {w : List Symbol} → (ts : Trees) × AreTrees G (X ∷ w) ts
    → (ts : Trees) × AreTrees G w ts
trees_of_tail (none, lacks) = absurd lacks
trees_of_tail (more d ts, are) = (ts, are.1)

-- what stands behind the symbol at an item's dot has trees
pub trees_behind : {G : Grammar} {g : List Symbol} {p : ℕ} {before after : List Symbol} {X : Symbol} {t : ℕ}
    → IsAugmented G → IsReduced G → Valid G g p before (X ∷ after) t → (ts : Trees) × AreTrees G after ts
trees_behind {G} {p = zero} {after = after} augmented reduced v = elim (zero_item augmented v) [
  | inl at_first ↦ subst (λ w. (ts : Trees) × AreTrees G w ts) (sym at_first.2) (end_tree G)
  | inr at_end ↦ subst (λ w. (ts : Trees) × AreTrees G w ts) (sym at_end.2) (none, tt)
]
trees_behind {G} {p = suc p} augmented reduced v = trees_of_tail (trees_to_come reduced (omega arith) v)

-- the rules of a nonterminal at an item's dot are valid too
pub closes : {G : Grammar} {g : List Symbol} {p : ℕ} {before after : List Symbol} {B t : ℕ} (q : ℕ) (r : GrammarRule)
    → IsAugmented G → IsReduced G → Valid G g p before (nonterminal B ∷ after) t → IsRule G q r → r.left ≡ B
    → (u : ℕ) × Valid G g q [] r.body u
closes {t = t} q r augmented reduced v is left =
    let behind = trees_behind augmented reduced v in
    let first = First_some t behind.0 behind.1 in
    (first.0, closed v is left refl first.1)

-- an item whose next symbols are read on
pub read_on : {G : Grammar} {g : List Symbol} {p t : ℕ} (w after : List Symbol) → Valid G g p [] (onto w after) t
    → Valid G (w ++ g) p w after t
read_on [] after v = v
read_on (X ∷ w) after v = moved (read_on w (X ∷ after) v)
