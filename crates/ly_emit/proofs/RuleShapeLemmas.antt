-- The rules of tables have the shapes of the specification's rules.
use Rattle.std.proofs.Common.{◌≡◌, ◌∙◌, ℕ, zero, suc, ◌-◌, ◌≤◌, ◌<◌, List, [], ◌∷◌, All, Option, Some, ap, arith, inl, inr}
use Rattle.std.proofs.Common.{length, refl, slice_get, subst, sym}
use Rattle.std.proofs.lemmas.List.Elements.{All-head, All-tail}
use Rattle.ly_base.specs.Shape.{Shape}
use Rattle.ly_base.specs.Trees.{Occurs, OccursAmong, Tree, Trees, leaf, more, node, none}
use Rattle.ly_grammar.specs.Derivations.{AreTrees, IsTree}
use Rattle.ly_grammar.specs.Reduction.{KeepsUseful}
use Rattle.ly_join.specs.Grammar.{Grammar, GrammarRule, IsRule, Symbol, SymbolWithin, accept_rule, nonterminal}
use Rattle.ly_join.specs.Grammar.{terminal}
use Rattle.ly_join.specs.Joined.{Spec}
use Rattle.ly_lr0.specs.Automaton.{IsLr0Automaton, Lr0Automaton}
use Rattle.ly_pack.specs.Machine.{Machine}
use Rattle.ly_parse.proofs.TreeFeeding.{has_shapes}
use Rattle.ly_parse.specs.Deriving.{shape_of_rule}
use Rattle.ly_tree.specs.Term as term
use Rattle.ly_tree.specs.Term.{build, builds, made}
use Rattle.ly_emit.specs.Laws.{ShapesAreOfRules}
use Rattle.ly_emit.specs.Tables.{IsMachineOf, shape_in}

module _ (s : Spec) (M : Lr0Automaton) (n : Machine) (is : IsLr0Automaton M) (useful : KeepsUseful s.grammar M.grammar)
    (of : IsMachineOf s M n) where
  abbrev G : Grammar
  G = M.grammar

  abbrev Within : Symbol → Type 0
  Within X = SymbolWithin G.terminals G.accept X

  -- a rule has the shape of the specification's
  one : (p : ℕ) (r : GrammarRule) → IsRule G p r → 1 ≤ p → shape_of_rule n.rules p ≡ shape_in s p
  one p r is_rule some = has_shapes n p
      (record { left = r.left; body_length = length r.body; shape = shape_in s p })
      (ap (λ rs. slice_get rs (p - 1)) of.2.rules ∙ of.1.rules p r some ((useful.rules p r).0 is_rule).0)

  -- the rule of the whole text has its nonterminal on the left
  left_of_zero : (r : GrammarRule) → IsRule G 0 r → r.left ≡ G.accept
  left_of_zero r is_rule =
      let both : Some (Some r) ≡ Some (Some (accept_rule G.accept G.start)) = sym is_rule ∙ is.augmented.rule_0 in
      let same : r ≡ accept_rule G.accept G.start = cc in
      ap (λ x. x.left) same

  -- a rule of another nonterminal isn't rule 0
  past : (p A : ℕ) (r : GrammarRule) → IsRule G p r → r.left ≡ A → A < G.accept → 1 ≤ p
  past zero A r is_rule left within =
      let zero_left = left_of_zero r is_rule in absurd (omega (arith, zero_left, left, within))
  past (suc p) A r is_rule left within = omega arith

  abbrev Same : ℕ → Type 0
  Same p = shape_of_rule n.rules p ≡ shape_in s p

  mutual
    of_tree : (X : Symbol) (d : Tree) → Within X → IsTree G X d → (p : ℕ) → Occurs p d → Same p
    of_tree X (leaf t) within tree p occurs = absurd occurs
    of_tree (terminal k) (node q ts) within tree p occurs = absurd tree
    of_tree (nonterminal A) (node q ts) within (r, is_rule, left, trees) p (inl same) =
        subst Same (sym same) (one q r is_rule (past q A r is_rule left within))
    of_tree (nonterminal A) (node q ts) within (r, is_rule, left, trees) p (inr among) =
        of_trees r.body ts (is.augmented.within q r is_rule (past q A r is_rule left within)).body trees p among

    of_trees : (w : List Symbol) (ts : Trees) → All Within w → AreTrees G w ts → (p : ℕ) → OccursAmong p ts → Same p
    of_trees w none within trees p occurs = absurd occurs
    of_trees [] (more t ts) within trees p occurs = absurd trees
    of_trees (X ∷ w) (more t ts) within trees p (inl here) =
        of_tree X t (All-head Within X w within) trees.0 p here
    of_trees (X ∷ w) (more t ts) within trees p (inr there) =
        of_trees w ts (All-tail Within X w within) trees.1 p there

pub shapes_are_of_rules : ShapesAreOfRules
shapes_are_of_rules s M n is useful of d tree p occurs = of_tree s M n is useful of (nonterminal M.grammar.start) d
    is.augmented.start_within tree p occurs

mutual
  -- trees whose rules have the same shapes build the same terms
  pub build_alike : (f g : ℕ → Shape) (d : Tree) → ((p : ℕ) → Occurs p d → f p ≡ g p) → build f d ≡ build g d
  build_alike f g (leaf t) same = refl
  build_alike f g (node p ts) same = ap (λ s. made p s (builds f ts)) (same p (inl refl))
      ∙ ap (made p (g p)) (builds_alike f g ts (λ q there. same q (inr there)))

  builds_alike : (f g : ℕ → Shape) (ts : Trees) → ((p : ℕ) → OccursAmong p ts → f p ≡ g p)
      → builds f ts ≡ builds g ts
  builds_alike f g none same = refl
  builds_alike f g (more t ts) same = λ i. term.more (build_alike f g t (λ p here. same p (inl here)) i)
      (builds_alike f g ts (λ p there. same p (inr there)) i)
