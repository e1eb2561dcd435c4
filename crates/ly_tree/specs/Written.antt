-- The text of terms in any notation.
use Rattle.std.specs.Prelude.{ℕ, ◌<◌, ◌≤◌, ◌+◌, ◌*◌, List, [], ◌++◌, All, codes, length}
use Rattle.ly_tree.specs.Term.{Term, Terms, nothing, leaf, built, none, more}

-- A notation: the text of nothing, the text of a leaf with this terminal and these bytes, and the opening and the
-- closing of a node with this rule.
pub record Notation : Type 0 where
  pub no_term : List ℕ
  pub leaf_text : ℕ → List ℕ → List ℕ
  pub opens : ℕ → List ℕ
  pub closes : List ℕ

abbrev mutual
  -- a node's terms are between its opening and its closing
  pub written : Notation → Term → List ℕ
  written n nothing = n.no_term
  written n (leaf t bytes) = n.leaf_text t bytes
  written n (built p ts) = n.opens p ++ written_all n ts ++ n.closes

  -- terms with commas between them
  pub written_all : Notation → Terms → List ℕ
  written_all n none = []
  written_all n (more t none) = written n t
  written_all n (more t (more u ts)) = written n t ++ codes "," ++ written_all n (more u ts)

-- This many bytes are enough for each term, including a comma after it and its closing, and this many for each byte of
-- a leaf.
pub record IsWithin (n : Notation) (term byte : ℕ) : Type 0 where
  pub no_term : length n.no_term + 1 ≤ term
  pub leaves : (t : ℕ) (bytes : List ℕ) → All (λ b. b < 256) bytes
      → length (n.leaf_text t bytes) + 1 ≤ term + byte * length bytes
  pub nodes : (p : ℕ) → length (n.opens p) + length n.closes + 1 ≤ term
