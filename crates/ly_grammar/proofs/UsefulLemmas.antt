-- Useful rules: those whose bodies have trees, and whose left sides the start symbol leads to by such rules.
use Rattle.std.proofs.Common.{◌≡◌, ◌↔◌, ℕ, List, [], ◌∷◌, Bool, true, false, sym, subst, inl, inr, refl, Contains}
use Rattle.std.proofs.Common.{slice_index_or}
use Rattle.ly_base.proofs.MemberLemmas.{Contains-none, Contains-first, Contains-later, Contains-cons_cases}
use Rattle.ly_base.specs.Trees.{Tree, Trees, leaf, node, none, more, Occurs, OccursAmong}
use Rattle.ly_join.specs.Grammar.{Grammar, GrammarRule, IsRule, Symbol, accept_rule, terminal, nonterminal}
use Rattle.ly_grammar.specs.Derivations.{IsTree, AreTrees, IsUseful}
use Rattle.ly_grammar.specs.Reduction.{restricted}
use Rattle.ly_grammar.specs.Laws.{IsLed, at_start, by_rule}
use Rattle.ly_grammar.specs.Private.Reach.{IsReachedBy, start, through}
use Rattle.ly_grammar.specs.Private.Search.{HaveTrees}
use Rattle.ly_grammar.proofs.MarkedLemmas.{at_marked, marked_at}
use Rattle.ly_grammar.proofs.SearchLemmas.{rule_is_one}

-- the marks say which rules have trees for their bodies
abbrev pub AreProductive : Grammar → List Bool → Type 0
AreProductive G marks = (p : ℕ) (r : GrammarRule) → IsRule G p r
    → (slice_index_or marks p false ≡ true) ↔ HaveTrees G true r.body

-- A tree in the place of one of a nonterminal's among trees: all that occurs in it occurs among them.
pub record IsPutIn (G : Grammar) (w : List Symbol) (d : Tree) : Type 0 where
  pub trees : Trees
  pub are : AreTrees G w trees
  pub occurs : (p : ℕ) → Occurs p d → OccursAmong p trees

pub put_in : (G : Grammar) (w : List Symbol) (ts : Trees) (A : ℕ) (d : Tree) → AreTrees G w ts
    → Contains w (nonterminal A) → IsTree G (nonterminal A) d → IsPutIn G w d
put_in G [] ts A d are member is = Contains-none (nonterminal A) member
put_in G (X ∷ w) none A d are member is = absurd are
put_in G (X ∷ w) (more t ts) A d are member is = elim (Contains-cons_cases X w (nonterminal A) member) [
  | inl same ↦ record {
    trees = more d ts;
    are = (subst (λ Y. IsTree G Y d) (sym same) is, are.1);
    occurs = λ p here. inl here;
  }
  | inr later ↦ let rest = put_in G w ts A d are.1 later is in record {
    trees = more t rest.trees;
    are = (are.0, rest.are);
    occurs = λ p here. inr (rest.occurs p here);
  }
]

-- What occurs in a tree occurs in one of the start symbol.
pub record IsInStart (G : Grammar) (d : Tree) : Type 0 where
  pub tree : Tree
  pub is : IsTree G (nonterminal G.start) tree
  pub occurs : (p : ℕ) → Occurs p d → Occurs p tree

-- a tree of a nonterminal that the start symbol leads to
pub in_start : (G : Grammar) (A : ℕ) → IsLed G A → (d : Tree) → IsTree G (nonterminal A) d → IsInStart G d
in_start G A at_start d is = record { tree = d; is = is; occurs = λ p here. here }
in_start G A (by_rule p r B rule ts led member) d is =
    let put = put_in G r.body ts.0 A d ts.1 member is in
    let up = in_start G r.left led (node p put.trees) (r, rule, refl, put.are) in
    record { tree = up.tree; is = up.is; occurs = λ q here. up.occurs q (inr (put.occurs q here)) }

-- so a rule with trees for its body, whose left side is led to, is useful
pub led_to_useful : (G : Grammar) (p : ℕ) (r : GrammarRule) → IsRule G p r → (ts : Trees) × AreTrees G r.body ts
    → IsLed G r.left → IsUseful G p
led_to_useful G p r rule ts led =
    let up = in_start G r.left led (node p ts.0) (r, rule, refl, ts.1) in
    (up.tree, up.is, up.occurs p (inl refl))

-- A rule that occurs in a tree.
pub record IsLedTo (G : Grammar) (p : ℕ) : Type 0 where
  pub rule : GrammarRule
  pub is : IsRule G p rule
  pub trees : (ts : Trees) × AreTrees G rule.body ts
  pub left : IsLed G rule.left

mutual
  -- the rules that occur in a tree of a nonterminal that is led to are such
  pub occurs_led : (G : Grammar) (A : ℕ) (d : Tree) (p : ℕ) → IsLed G A → IsTree G (nonterminal A) d → Occurs p d
      → IsLedTo G p
  occurs_led G A (leaf t) p led is here = absurd is
  occurs_led G A (node q ts) p led (r, rule, left, are) (inl same) = record {
    rule = r;
    is = subst (λ k. IsRule G k r) (sym same) rule;
    trees = (ts, are);
    left = subst (λ B. IsLed G B) (sym left) led;
  }
  occurs_led G A (node q ts) p led (r, rule, left, are) (inr among) =
      among_led G r.body ts p (λ B member. by_rule q r B rule (ts, are) (subst (λ C. IsLed G C) (sym left) led) member)
      are among

  -- and so are those that occur among trees of such
  pub among_led : (G : Grammar) (w : List Symbol) (ts : Trees) (p : ℕ)
      → ((B : ℕ) → Contains w (nonterminal B) → IsLed G B) → AreTrees G w ts → OccursAmong p ts → IsLedTo G p
  among_led G w none p all are here = absurd here
  among_led G [] (more t ts) p all are here = absurd are
  among_led G (terminal k ∷ w) (more (leaf t) ts) p all are (inl here) = absurd here
  among_led G (terminal k ∷ w) (more (node q us) ts) p all are (inl here) = absurd are.0
  among_led G (nonterminal A ∷ w) (more t ts) p all are (inl here)
      = occurs_led G A t p (all A (Contains-first (nonterminal A) w)) are.0 here
  among_led G (X ∷ w) (more t ts) p all are (inr later)
      = among_led G w ts p (λ B member. all B (Contains-later X w (nonterminal B) member)) are.1 later

-- useful rules are those with trees for their bodies whose left sides are led to
pub useful_led : (G : Grammar) (p : ℕ) (r : GrammarRule) → IsRule G p r
    → IsUseful G p ↔ (((ts : Trees) × AreTrees G r.body ts) × IsLed G r.left)
useful_led G p r rule = (to, λ is. led_to_useful G p r rule is.0 is.1) where
  to : IsUseful G p → ((ts : Trees) × AreTrees G r.body ts) × IsLed G r.left
  to (d, is, here) =
      let led = occurs_led G G.start d p at_start is here in
      let same : led.rule ≡ r = rule_is_one G p led.rule r led.is rule in
      (subst (λ x. (ts : Trees) × AreTrees G x.body ts) same led.trees, subst (λ x. IsLed G x.left) same led.left)

module _ (G : Grammar) (marks : List Bool) (productive : AreProductive G marks) where
  -- what is reached by the rules that are marked is led to, and the other way
  pub reached_led : (A : ℕ) → IsReachedBy (restricted marks G) A → IsLed G A
  reached_led A start = at_start
  reached_led A (through p r B rule led member) =
      let there = marked_at marks G.rules p r rule in
      let ts = (productive p r there.0).0 there.1 in
      by_rule p r A there.0 (ts.0, ts.1) (reached_led r.left led) member

  pub led_reached : (A : ℕ) → IsLed G A → IsReachedBy (restricted marks G) A
  led_reached A at_start = start
  led_reached A (by_rule p r B rule ts led member) =
      through p r A (at_marked marks G.rules p r rule ((productive p r rule).1 (ts.0, ts.1, λ e. absurd (cc))))
      (led_reached r.left led) member

  -- so a useful rule is one that is marked and reached
  pub useful_reached : (p : ℕ) (r : GrammarRule) → IsRule G p r
      → IsUseful G p ↔ ((slice_index_or marks p false ≡ true) × IsReachedBy (restricted marks G) r.left)
  useful_reached p r rule = (
    λ is.
        let led = (useful_led G p r rule).0 is in
        ((productive p r rule).1 (led.0.0, led.0.1, λ e. absurd (cc)), led_reached r.left led.1),
    λ is. let ts = (productive p r rule).0 is.0 in
        (useful_led G p r rule).1 ((ts.0, ts.1), reached_led r.left is.1),
  )

-- the whole text has a tree where the start symbol has, and the other way
pub whole_trees : (G : Grammar) (d : Tree) → IsTree G (nonterminal G.start) d
    → HaveTrees G true (accept_rule G.accept G.start).body
whole_trees G d is
    = (more d (more (leaf (record { terminal = 0; at = 0; bytes = [] })) none), (is, (refl, tt)), λ e. absurd (cc))

pub start_tree : (G : Grammar) → HaveTrees G true (accept_rule G.accept G.start).body
    → (d : Tree) × IsTree G (nonterminal G.start) d
start_tree G (none, are, empty) = absurd are
start_tree G (more d ts, are, empty) = (d, are.0)
