-- Terms as printed text.
use Rattle.std.specs.Prelude.{ℕ, List, ◌++◌, codes}
use Rattle.ly_print.specs.Text.{leaf_of, token}
use Rattle.ly_tree.specs.Term.{Term, Terms}
use Rattle.ly_tree.specs.Written.{written, written_all, Notation}

-- the printed names of terminals, and the constructors of rules
pub record Vocabulary : Type 0 where
  pub terminal : ℕ → List ℕ
  pub constructor : ℕ → List ℕ

-- `()`; a leaf, as `NUM"12"`; a constructor with its terms in parentheses, as `Add(NUM"1",NUM"2")`
abbrev pub plain : Vocabulary → Notation
plain v = record {
  no_term = codes "()";
  leaf_text = λ t bytes. leaf_of (token (v.terminal t)) bytes;
  opens = λ p. v.constructor p ++ codes "(";
  closes = codes ")";
}

abbrev pub shown : Vocabulary → Term → List ℕ
shown v t = written (plain v) t

-- terms with commas between them
abbrev pub shown_all : Vocabulary → Terms → List ℕ
shown_all v ts = written_all (plain v) ts
