-- Derivations as trees, and the properties of symbols that follow from them (Knuth 1965; Aho and Ullman 1972).
use Rattle.std.specs.Prelude.{◌≡◌, ℕ, ◌≤◌, List, [], ◌∷◌, ◌++◌, ◌⊎◌}
use Rattle.ly_base.specs.Lexed.{Token}
use Rattle.ly_base.specs.Trees.{Tree, Trees, leaf, node, none, more, yield_of, yields_of, Occurs}
use Rattle.ly_join.specs.Grammar.{Grammar, GrammarRule, IsRule, Symbol, terminal, nonterminal}

abbrev mutual
  -- the tree is a derivation from the symbol
  pub IsTree : Grammar → Symbol → Tree → Type 0
  IsTree G (terminal k) (leaf t) = t.terminal ≡ k
  IsTree G (nonterminal A) (leaf t) = ⊥
  IsTree G (terminal k) (node p ts) = ⊥
  IsTree G (nonterminal A) (node p ts) = (r : GrammarRule) × IsRule G p r × (r.left ≡ A) × AreTrees G r.body ts

  -- the trees are derivations from the symbols, in order
  pub AreTrees : Grammar → List Symbol → Trees → Type 0
  AreTrees G [] none = Unit {0}
  AreTrees G (X ∷ w) none = ⊥
  AreTrees G [] (more t ts) = ⊥
  AreTrees G (X ∷ w) (more t ts) = IsTree G X t × AreTrees G w ts

-- the tokens are the yield of a tree of the symbol
abbrev pub Derives : Grammar → Symbol → List (Token ℕ) → Type 0
Derives G X ts = (d : Tree) × IsTree G X d × (yield_of d ≡ ts)

-- the tokens are derived from the start symbol
abbrev pub IsSentence : Grammar → List (Token ℕ) → Type 0
IsSentence G ts = Derives G (nonterminal G.start) ts

-- tokens, possibly with the end among them, that begin a sentence followed by the end
abbrev pub IsSentencePrefix : Grammar → List (Token ℕ) → Type 0
IsSentencePrefix G ts = (rest : List (Token ℕ)) × Derives G (nonterminal G.accept) (ts ++ rest)

-- a rule is useful if it occurs in some tree of the start symbol
abbrev pub IsUseful : Grammar → ℕ → Type 0
IsUseful G p = (d : Tree) × IsTree G (nonterminal G.start) d × Occurs p d

-- some trees of the symbols have no token
abbrev pub IsNullable : Grammar → List Symbol → Type 0
IsNullable G w = (ts : Trees) × AreTrees G w ts × (yields_of ts ≡ [])

-- a token of the terminal t begins what some trees of the symbols yield
abbrev pub BeginsYield : Grammar → List Symbol → ℕ → Type 0
BeginsYield G w t = (ts : Trees) × AreTrees G w ts
    × (x : Token ℕ) × (rest : List (Token ℕ)) × (yields_of ts ≡ x ∷ rest) × (x.terminal ≡ t)

-- the terminal t begins what the symbols followed by the terminal u yield
abbrev pub First : Grammar → List Symbol → ℕ → ℕ → Type 0
First G w u t = BeginsYield G w t ⊎ (IsNullable G w × (t ≡ u))

-- the start symbol has a tree, and every rule but rule 0 is useful
pub record IsReduced (G : Grammar) : Type 0 where
  pub start_tree : (d : Tree) × IsTree G (nonterminal G.start) d
  pub useful : (p : ℕ) (r : GrammarRule) → IsRule G p r → 1 ≤ p → IsUseful G p
