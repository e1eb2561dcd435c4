-- Items without lookaheads. In a reduced grammar each item of a core has a lookahead, since what is to come has trees.
use Rattle.std.proofs.Common.{◌≡◌, inl, inr, ℕ, zero, suc, ◌+◌, ◌≤◌, List, [], ◌∷◌, Some}
use Rattle.std.proofs.Common.{refl, sym, ◌∙◌, ap, subst, arith, length}
use Rattle.std.specs.Prelude.{slice_get}
use Rattle.ly_base.specs.Lexed.{Token}
use Rattle.ly_base.specs.Trees.{Tree, Trees, leaf, node, none, more, Occurs, OccursAmong}
use Rattle.ly_join.specs.Grammar.{Grammar, IsAugmented, IsRule, GrammarRule, Symbol, accept_rule, nonterminal, terminal}
use Rattle.ly_grammar.specs.Derivations.{AreTrees, First, IsReduced, IsTree}
use Rattle.ly_grammar.specs.Items.{HasNoEnd, InCore, IsComplete, IsViable, SameCore, Valid, at_start, closed, moved}
use Rattle.ly_grammar.specs.Items.{onto}
use Rattle.ly_grammar.proofs.ItemLemmas.{First_some, body_of, length-onto, trees_of_end}
use Rattle.ly_grammar.proofs.SearchLemmas.{rule_is_one}
use Rattle.ly_lr0.specs.Private.Items.{HasItem, IsBehind, SameItems}
use Rattle.ly_lr0.specs.Private.Items as lr0

-- what stands behind symbols that are put in front
get-onto : (b w : List Symbol) → slice_get (onto b w) (length b) ≡ slice_get w 0
get-onto b w = ap (slice_get (onto b w)) (omega arith) ∙ go b w 0
  where
    go : (b w : List Symbol) (k : ℕ) → slice_get (onto b w) (length b + k) ≡ slice_get w k
    go [] w k = ap (slice_get w) (omega arith)
    go (X ∷ b) w k = ap (slice_get (onto b (X ∷ w))) (omega arith) ∙ go b (X ∷ w) (suc k)

first_of : (w : List Symbol) (X : Symbol) → slice_get w 0 ≡ Some X → (v : List Symbol) × (w ≡ X ∷ v)
first_of [] X e = absurd (cc)
first_of (Y ∷ v) X e = (v, let same : Y ≡ X = cc in ap (λ Z. Z ∷ v) same)

-- the same symbols split at the same place
onto_one : (b c v w : List Symbol) → length b ≡ length c → onto b v ≡ onto c w → (b ≡ c) × (v ≡ w)
onto_one [] [] v w l e = (refl, e)
onto_one [] (Y ∷ c) v w l e = absurd (omega (arith, l))
onto_one (X ∷ b) [] v w l e = absurd (omega (arith, l))
onto_one (X ∷ b) (Y ∷ c) v w l e =
    let rest = onto_one b c (X ∷ v) (Y ∷ w) (omega (arith, l)) e in
    let first : X ≡ Y = let f = rest.1 in cc in
    let behind : v ≡ w = let f = rest.1 in cc in
    (ap (λ Z. Z ∷ b) first ∙ ap (λ d. Y ∷ d) rest.0, behind)

-- a valid item is one
pub item_of_valid : {G : Grammar} {g : List Symbol} {p : ℕ} {before after : List Symbol} {t : ℕ}
    → Valid G g p before after t → HasItem G g p (length before)
item_of_valid (at_start is same) = lr0.at_start
item_of_valid {G = G} (closed {g = g} {p = p} {before = before} {after = after} {B = B} {r = r} v is left same first) =
    let b = body_of v in
    lr0.closed (item_of_valid v) (
      b.0,
      b.1,
      subst (λ w. slice_get w (length before) ≡ Some (nonterminal B)) b.2
          (get-onto before (nonterminal B ∷ after)),
    )
    is left
item_of_valid {G = G} (moved {before = before} {after = after} {X = X} v) =
    let b = body_of v in
    lr0.moved (item_of_valid v)
    (b.0, b.1, subst (λ w. slice_get w (length before) ≡ Some X) b.2 (get-onto before (X ∷ after)))

mutual
  -- a rule that occurs in a tree has trees for its body
  body_trees : (d : Tree) (G : Grammar) (X : Symbol) (p : ℕ) (r : GrammarRule) → IsRule G p r → IsTree G X d
      → Occurs p d
      → (ts : Trees) × AreTrees G r.body ts
  body_trees (leaf t) G X p r e h o = absurd o
  body_trees (node q ts) G (terminal k) p r e h o = absurd h
  body_trees (node q ts) G (nonterminal A) p r e h (inl same) = (
    ts,
    subst (λ x. AreTrees G x.body ts) (rule_is_one G q h.0 r h.1 (subst (λ n. IsRule G n r) same e)) h.3,
  )
  body_trees (node q ts) G (nonterminal A) p r e h (inr o) = body_trees_among ts G h.0.body p r e h.3 o

  body_trees_among : (ts : Trees) (G : Grammar) (w : List Symbol) (p : ℕ) (r : GrammarRule) → IsRule G p r
      → AreTrees G w ts
      → OccursAmong p ts → (us : Trees) × AreTrees G r.body us
  body_trees_among none G w p r e h o = absurd o
  body_trees_among (more d ts) G [] p r e h o = absurd h
  body_trees_among (more d ts) G (X ∷ w) p r e h (inl o) = body_trees d G X p r e h.0 o
  body_trees_among (more d ts) G (X ∷ w) p r e h (inr o) = body_trees_among ts G w p r e h.1 o

module _ (G : Grammar) (augmented : IsAugmented G) (reduced : IsReduced G) where
  -- every rule has trees for its body
  rule_trees : (p : ℕ) (r : GrammarRule) → IsRule G p r → (ts : Trees) × AreTrees G r.body ts
  rule_trees zero r is =
      let same : accept_rule G.accept G.start ≡ r
      = rule_is_one G 0 (accept_rule G.accept G.start) r augmented.rule_0 is in
      let start = reduced.start_tree in
      let end : Token ℕ = record { terminal = 0; at = 0; bytes = [] } in
      subst (λ x. (ts : Trees) × AreTrees G x.body ts) same (more start.0 (more (leaf end) none), (start.1, (refl, tt)))
  rule_trees (suc p) r is =
      let useful = reduced.useful (suc p) r is (omega arith) in
      body_trees useful.0 G (nonterminal G.start) (suc p) r is useful.1 useful.2

  -- a lookahead for what a nonterminal leads to
  first_behind : {g : List Symbol} {p : ℕ} {before after : List Symbol} {X : Symbol} {t : ℕ}
      → Valid G g p before (X ∷ after) t → (u : ℕ) × First G after t u
  first_behind {before = before} {after = after} {X = X} {t = t} v =
      let b = body_of v in
      let ts = rule_trees _ b.0 b.1 in
      let end = trees_of_end G (X ∷ before) after ts.0 (subst (λ w. AreTrees G w ts.0) (sym b.2) ts.1) in
      First_some t end.0 end.1

  -- an item, split at its dot, with a lookahead
  pub record Split (g : List Symbol) (p d : ℕ) : Type 0 where
    pub before : List Symbol
    pub after : List Symbol
    pub lookahead : ℕ
    pub valid : Valid G g p before after lookahead
    pub dot : length before ≡ d

  next_of : {g : List Symbol} {p d : ℕ} {X : Symbol} (s : Split g p d) → IsBehind G p d X
      → (v : List Symbol) × (s.after ≡ X ∷ v)
  next_of {p = p} {X = X} s b =
      let body = body_of s.valid in
      let same : body.0 ≡ b.0 = rule_is_one G p body.0 b.0 body.1 b.1 in
      first_of s.after X (sym (get-onto s.before s.after) ∙ ap (λ k. slice_get (onto s.before s.after) k) s.dot
      ∙ ap (λ w. slice_get w _) (body.2 ∙ ap (λ r. r.body) same) ∙ b.2)

  pub valid_of_item : {g : List Symbol} {p d : ℕ} → HasItem G g p d → Split g p d
  valid_of_item lr0.at_start = record {
    before = [];
    after = (accept_rule G.accept G.start).body;
    lookahead = 0;
    valid = at_start augmented.rule_0 refl;
    dot = refl;
  }
  valid_of_item (lr0.closed {g = g} {p = p} {d = d} {r = r} i b is left) =
      let s = valid_of_item i in
      let next = next_of s b in
      let v = subst (λ w. Valid G g p s.before w s.lookahead) next.1 s.valid in
      let first = first_behind v in
      record { before = []; after = r.body; lookahead = first.0; valid = closed v is left refl first.1; dot = refl }
  valid_of_item (lr0.moved {g = g} {p = p} {X = X} i b) =
      let s = valid_of_item i in
      let next = next_of s b in
      let v = subst (λ w. Valid G g p s.before w s.lookahead) next.1 s.valid in
      record { before = X ∷ s.before; after = next.0; lookahead = s.lookahead; valid = moved v; dot = ap suc s.dot }

  -- cores are equal where items are
  pub same_items : (g h : List Symbol) → SameCore G g h → SameItems G g h
  same_items g h same p d = (
    λ i. let s = valid_of_item i in across h s ((same p s.before s.after).0 (s.lookahead, s.valid)),
    λ i. let s = valid_of_item i in across g s ((same p s.before s.after).1 (s.lookahead, s.valid)),
  )
    where
      across : {g : List Symbol} {p d : ℕ} (h : List Symbol) (s : Split g p d) → InCore G h p s.before s.after
          → HasItem G h p d
      across {p = p} h s c = subst (λ n. HasItem G h p n) s.dot (item_of_valid c.1)

  pub same_core : (g h : List Symbol) → SameItems G g h → SameCore G g h
  same_core g h same p before after = (
    λ c. across g h before after c ((same p (length before)).0 (item_of_valid c.1)),
    λ c. across h g before after c ((same p (length before)).1 (item_of_valid c.1)),
  )
    where
      across : (g h : List Symbol) {p : ℕ} (before after : List Symbol) → InCore G g p before after
          → HasItem G h p (length before) → InCore G h p before after
      across g h {p} before after c i =
          let s = valid_of_item i in
          let b = body_of c.1 in
          let e = body_of s.valid in
          let same : e.0 ≡ b.0 = rule_is_one G p e.0 b.0 e.1 b.1 in
          let one = onto_one s.before before s.after after s.dot (e.2 ∙ ap (λ r. r.body) same ∙ sym b.2) in (
            s.lookahead,
            subst (λ w. Valid G h p before w s.lookahead) one.1
                (subst (λ w. Valid G h p w s.after s.lookahead) one.0 s.valid),
          )

  -- a rule is complete where its item with all symbols before the dot is there
  pub item_of_complete : (g : List Symbol) (p : ℕ) → IsComplete G g p → (r : GrammarRule) × IsRule G p r
      × HasItem G g p (length r.body)
  item_of_complete g p c =
      let b = body_of c.1.1 in
      let long : length c.0 ≡ length b.0.body = omega (arith, length-onto c.0 [], ap length b.2) in
      (b.0, b.1, subst (λ n. HasItem G g p n) long (item_of_valid c.1.1))

  pub complete_of_item : (g : List Symbol) (p d : ℕ) (r : GrammarRule) → IsRule G p r → length r.body ≤ d
      → HasItem G g p d
      → IsComplete G g p
  complete_of_item g p d r is long i =
      let s = valid_of_item i in
      let b = body_of s.valid in
      let same : length b.0.body ≡ length r.body = ap (λ x. length x.body) (rule_is_one G p b.0 r b.1 is) in
      let none : length s.after ≡ 0 = omega (arith, length-onto s.before s.after, ap length b.2, same, s.dot, long) in
      (s.before, (s.lookahead, subst (λ w. Valid G g p s.before w s.lookahead) (empty s.after none) s.valid))
    where
      empty : (w : List Symbol) → length w ≡ 0 → w ≡ []
      empty [] e = refl
      empty (X ∷ w) e = absurd (omega (arith, e))

  -- the dot of an item isn't past the body
  pub item_within : {g : List Symbol} {p d : ℕ} → HasItem G g p d
      → (r : GrammarRule) × IsRule G p r × (d ≤ length r.body)
  item_within i =
      let s = valid_of_item i in
      let b = body_of s.valid in
      (b.0, b.1, omega (arith, length-onto s.before s.after, ap length b.2, s.dot))

  pub viable_of : (g : List Symbol) → HasNoEnd g → (p d : ℕ) → HasItem G g p d → IsViable G g
  viable_of g free p d i = let s = valid_of_item i in (free, p, s.before, s.after, (s.lookahead, s.valid))

  pub item_of_viable : (g : List Symbol) → IsViable G g → (p : ℕ) × (d : ℕ) × HasItem G g p d
  item_of_viable g v = (v.1, length v.2, item_of_valid v.4.1)
