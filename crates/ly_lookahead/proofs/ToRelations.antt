-- What is in the merged lookaheads comes out of the relations (DeRemer and Pennello 1982, 4).
use Rattle.std.proofs.Common.{◌≡◌, ◌⊎◌, inl, inr, ℕ, ◌≤◌, List, [], ◌∷◌, ◌++◌, Some, refl, sym, ◌∙◌, ap}
use Rattle.std.proofs.Common.{subst, arith, append-nil}
use Rattle.ly_base.specs.Lexed.{Token}
use Rattle.ly_base.specs.Trees.{Tree, Trees, leaf, node, none, more, yield_of, yields_of}
use Rattle.ly_join.specs.Grammar.{Grammar, IsAugmented, IsRule, GrammarRule, Symbol, accept_rule, nonterminal, terminal}
use Rattle.ly_grammar.specs.Derivations.{AreTrees, First, IsNullable, IsTree}
use Rattle.ly_grammar.specs.Items.{HasNoEnd, InCore, InLookahead, IsNextSymbol, Valid, at_start, closed, moved, onto}
use Rattle.ly_grammar.proofs.ItemLemmas.{First_some, body_of, zero_split}
use Rattle.ly_grammar.proofs.SearchLemmas.{rule_is_one}
use Rattle.ly_lr0.specs.Automaton.{Gotos, HasCores, Reaches}
use Rattle.ly_relate.specs.Relations.{Follow, IsTransition, LookaheadBy, Read, along_includes, along_reads, by_read}
use Rattle.ly_relate.specs.Relations.{directly}
use Rattle.ly_relate.proofs.ReachLemmas.{Reaches-split, Reaches_one, apart, nullable_tree}

abbrev HasItem : Grammar → List Symbol → Type 0
HasItem G h = (p : ℕ) × (before : List Symbol) × (after : List Symbol) × InCore G h p before after

-- behind nullable nonterminals the terminal can be read
data ReadsOn (G : Grammar) : List Symbol → ℕ → Type 0 where
  now : {h : List Symbol} {u : ℕ} → IsNextSymbol G h (terminal u) → ReadsOn G h u
  skip : {h : List Symbol} {C u : ℕ} → IsNullable G (nonterminal C ∷ []) → HasItem G (nonterminal C ∷ h)
      → ReadsOn G (nonterminal C ∷ h) u → ReadsOn G h u

-- a first tree with tokens, or one without and the rest
choose : (G : Grammar) (h : List Symbol) (X : Symbol) (d : Tree) (ts : Trees) (x : Token ℕ) (rest y : List (Token ℕ))
    → yield_of d ≡ y → IsTree G X d → HasItem G (X ∷ h)
    → ((z : Token ℕ) (zs : List (Token ℕ)) → yield_of d ≡ z ∷ zs → ReadsOn G h z.terminal)
    → (yields_of ts ≡ x ∷ rest → ReadsOn G (X ∷ h) x.terminal) → yield_of d ++ yields_of ts ≡ x ∷ rest
    → ReadsOn G h x.terminal
choose G h X d ts x rest (z ∷ zs) e is item f g whole =
    let same : z ≡ x
    = let w : z ∷ (zs ++ yields_of ts) ≡ x ∷ rest = ap (λ y. y ++ yields_of ts) (sym e) ∙ whole in cc in
    subst (λ k. ReadsOn G h k.terminal) same (f z zs e)
choose G h (terminal k) (leaf t) ts x rest [] e is item f g whole =
    absurd (let no : t ∷ [] ≡ [] → ⊥ = λ e. cc in no e)
choose G h (terminal k) (node q us) ts x rest [] e is item f g whole = absurd is
choose G h (nonterminal A) (leaf t) ts x rest [] e is item f g whole = absurd is
choose G h (nonterminal A) (node q us) ts x rest [] e is item f g whole =
    skip (more (node q us) none, (is, tt), append-nil (yields_of us) ∙ e) item
    (g (ap (λ y. y ++ yields_of ts) (sym e) ∙ whole))

mutual
  -- the first token of a tree is read on behind the symbols before it
  tree_read : (d : Tree) (G : Grammar) (h : List Symbol) (p : ℕ) (a : List Symbol) (X : Symbol) (w : List Symbol)
      (t : ℕ) (us : Trees) (x : Token ℕ) (rest : List (Token ℕ)) → IsTree G X d → AreTrees G w us
      → Valid G h p a (X ∷ w) t → yield_of d ≡ x ∷ rest → ReadsOn G h x.terminal
  tree_read (leaf tok) G h p a (terminal k) w t us x rest is are v e =
      let same : k ≡ x.terminal = let one : tok ≡ x = cc in sym is ∙ ap (λ y. y.terminal) one in
      subst (λ n. ReadsOn G h n) same (now (p, a, w, (t, v)))
  tree_read (leaf tok) G h p a (nonterminal A) w t us x rest is are v e = absurd is
  tree_read (node q ts) G h p a (terminal k) w t us x rest is are v e = absurd is
  tree_read (node q ts) G h p a (nonterminal A) w t us x rest is are v e =
      let u = First_some t us are in
      trees_read ts G h q [] is.0.body u.0 x rest is.3 (closed v is.1 is.2 refl u.1) e

  trees_read : (ts : Trees) (G : Grammar) (h : List Symbol) (p : ℕ) (a w : List Symbol) (t : ℕ) (x : Token ℕ)
      (rest : List (Token ℕ)) → AreTrees G w ts → Valid G h p a w t → yields_of ts ≡ x ∷ rest
      → ReadsOn G h x.terminal
  trees_read none G h p a w t x rest are v e = absurd (let no : [] ≡ x ∷ rest → ⊥ = λ e. cc in no e)
  trees_read (more d ts) G h p a [] t x rest are v e = absurd are
  trees_read (more d ts) G h p a (X ∷ w) t x rest are v e =
      choose G h X d ts x rest (yield_of d) refl are.0 (p, X ∷ a, w, (t, moved v))
      (λ z zs k. tree_read d G h p a X w t ts z zs are.0 are.1 v k)
      (λ k. trees_read ts G (X ∷ h) p (X ∷ a) w t x rest are.1 (moved v) k) e

-- the end isn't nullable
no_empty_end : (G : Grammar) → IsNullable G (terminal 0 ∷ []) → ⊥
no_empty_end G n = let d = nullable_tree G (terminal 0) n in go d.0 d.1 d.2 where
  go : (d : Tree) → IsTree G (terminal 0) d → yield_of d ≡ [] → ⊥
  go (leaf t) h e = cc
  go (node q ts) h e = absurd h

module _ (G : Grammar) (goto : Gotos) (augmented : IsAugmented G) (automaton : HasCores G goto) where
  -- Read: what is read on behind a transition, the transition reads
  to_read : {h : List Symbol} {u : ℕ} → ReadsOn G h u → (r : ℕ) → Reaches goto 0 h r → HasNoEnd h → (s B : ℕ)
      → goto s (nonterminal B) ≡ Some r → Read G goto s B u
  to_read {h} (now next) r reaches ends s B e = directly (r, e, (h, reaches, next))
  to_read {h} (skip {C = C} n item on) r reaches ends s B e =
      let via = automaton.has (nonterminal C ∷ h) ((apart, ends), item.0, item.1, item.2, item.3) in
      let same = Reaches_one goto 0 h via.1.0 r via.1.1 reaches in
      let goes : goto r (nonterminal C) ≡ Some via.0 = ap (λ q. goto q (nonterminal C)) (sym same) ∙ via.1.2 in
      along_reads (e, (via.0, goes), n) (to_read on via.0 via.1 (apart, ends) r C goes)

  -- the lookahead follows the left side of rule p at the state where the item began
  abbrev FollowsFrom : List Symbol → ℕ → ℕ → Type 0
  FollowsFrom under p t = (q : ℕ) → Reaches goto 0 under q → (r : GrammarRule) → IsRule G p r
      → Follow G goto q r.left t × IsTransition G goto q r.left

  -- Where an item began, and that its lookahead follows its left side there.
  record Began (g : List Symbol) (p : ℕ) (before : List Symbol) (t : ℕ) : Type 0 where
    under : List Symbol
    split : g ≡ before ++ under
    follows : (p ≡ 0) ⊎ FollowsFrom under p t

  -- the item of rule 0 before a nonterminal has the end behind that
  zero_full : (p : ℕ) (r : GrammarRule) (before after : List Symbol) (B : ℕ) → p ≡ 0 → IsRule G p r
      → onto before (nonterminal B ∷ after) ≡ r.body → IsNullable G after → ⊥
  zero_full p r before after B z is e n =
      let whole : onto before (nonterminal B ∷ after) ≡ nonterminal G.start ∷ terminal 0 ∷ []
      = e ∙ ap (λ x. x.body) (rule_is_one G 0 r (accept_rule G.accept G.start)
      (subst (λ k. IsRule G k r) z is) augmented.rule_0) in
      elim (zero_split G before after (nonterminal B) whole) [
        | inl x ↦ no_empty_end G (subst (IsNullable G) x.2 n)
        | inr x ↦ apart x.1
      ]

  -- Follow: the lookahead of a rule that is closed in follows its left side
  closing : {g : List Symbol} {p : ℕ} {before after : List Symbol} {B t u : ℕ} (s via : ℕ)
      → Valid G g p before (nonterminal B ∷ after) t → HasNoEnd g → Reaches goto 0 g s
      → goto s (nonterminal B) ≡ Some via → Began g p before t → First G after t u → Follow G goto s B u
  closing {g} {p} {before} {after} {B} {t} s via v ends reaches goes i (inl f) =
      let on = trees_read f.0 G (nonterminal B ∷ g) p (nonterminal B ∷ before) after t f.2 f.3 f.1 (moved v) f.4 in
      by_read (subst (Read G goto s B) f.5 (to_read on via (s, reaches, goes) (apart, ends) s B goes))
  closing {g} {p} {before} {after} {B} {t} {u} s via v ends reaches goes i (inr n) = at i.under i.split i.follows where
    at : (under : List Symbol) → g ≡ before ++ under → (p ≡ 0) ⊎ FollowsFrom under p t → Follow G goto s B u
    at under split (inl z) = let b = body_of v in absurd (zero_full p b.0 before after B z b.1 b.2 n.0)
    at under split (inr f) =
        let b = body_of v in
        let parts = Reaches-split goto 0 before under s (subst (λ w. Reaches goto 0 w s) split reaches) in
        let there = f parts.0 parts.1 b.0 b.1 in
        subst (Follow G goto s B) (sym n.1) (along_includes (record {
          number = p;
          rule = b.0;
          is_rule = b.1;
          is_left = refl;
          before = before;
          after = after;
          is_body = b.2;
          nullable = n.0;
          leads = parts.2;
          from = (via, goes);
          to = there.1;
        }) there.0)

  began : {g : List Symbol} {p : ℕ} {before after : List Symbol} {t : ℕ} → Valid G g p before after t → HasNoEnd g
      → Began g p before t
  began (at_start a e) ends = record { under = []; split = refl; follows = inl refl }
  began (closed {g = g} {p = p} {before = before} {after = after} {B = B} {t = t} {q = q} {r = r} {u = u} v is left
      ew f) ends =
      let i = began v ends in
      let via = automaton.has (nonterminal B ∷ g) ((apart, ends), p, nonterminal B ∷ before, after, (t, moved v)) in
      record {
        under = g;
        split = refl;
        follows = inr (λ s reaches r2 is2.
            let same = Reaches_one goto 0 g via.1.0 s via.1.1 reaches in
            let goes : goto s (nonterminal B) ≡ Some via.0
            = ap (λ k. goto k (nonterminal B)) (sym same) ∙ via.1.2 in
            let is_left : B ≡ r2.left = sym left ∙ ap (λ x. x.left) (rule_is_one G q r r2 is is2) in (
              subst (λ k. Follow G goto s k u) is_left (closing s via.0 v ends reaches goes i f),
              subst (IsTransition G goto s) is_left (via.0, goes),
            ));
      }
  began (moved {X = X} v) ends =
      let i = began v ends.1 in
      record { under = i.under; split = ap (λ w. X ∷ w) i.split; follows = i.follows }

  -- LA: a terminal of the merged set is a lookahead by the relations
  pub lookahead_to : (g : List Symbol) (s p t : ℕ) → Reaches goto 0 g s → 1 ≤ p → InLookahead G g p t
      → LookaheadBy G goto s p t
  lookahead_to g s p t reaches le l =
      let via = automaton.has l.at l.merges.right in
      let same : s ≡ via.0 = automaton.one g l.at s via.0 reaches via.1 l.merges.cores in
      let there : Reaches goto 0 l.at s = subst (Reaches goto 0 l.at) (sym same) via.1 in
      let i = began l.valid l.merges.right.0 in
      at i.under i.follows (Reaches-split goto 0 l.before i.under s (subst (λ w. Reaches goto 0 w s) i.split there))
    where
      at : (under : List Symbol) → (p ≡ 0) ⊎ FollowsFrom under p t
          → ((r : ℕ) × Reaches goto 0 under r × Reaches goto r l.before s) → LookaheadBy G goto s p t
      at under (inl z) parts = absurd (omega arith)
      at under (inr f) parts =
          let b = body_of l.valid in
          let follow = f parts.0 parts.1 b.0 b.1 in (
            parts.0,
            b.0.left,
            record {
              rule = b.0;
              is_rule = b.1;
              is_left = refl;
              before = l.before;
              is_body = b.2;
              leads = parts.2;
              from = follow.1;
            },
            follow.0,
          )
