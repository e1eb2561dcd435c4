-- A JSON text determines its tree.
use Rattle.std.specs.Prelude.{◌≡◌, ◌<◌, ℕ, List, [], ◌++◌, All, codes}
use Rattle.ly_print.specs.Json.{json_content}
use Rattle.ly_tree.specs.Json.{before_children, before_content, json}
use Rattle.ly_tree.specs.Shown.{Vocabulary}
use Rattle.ly_tree.specs.Term as term
use Rattle.ly_tree.specs.Term.{Term, Terms}

mutual
  -- a term with names in place of numbers
  pub data Named : Type 0 where
    nothing : Named
    leaf : List ℕ → List ℕ → Named
    built : List ℕ → AllNamed → Named

  pub data AllNamed : Type 0 where
    none : AllNamed
    more : Named → AllNamed → AllNamed

abbrev mutual
  -- a term by its names
  pub named : Vocabulary → Term → Named
  named v term.nothing = nothing
  named v (term.leaf t bytes) = leaf (v.terminal t) bytes
  named v (term.built p ts) = built (v.constructor p) (all_named v ts)

  pub all_named : Vocabulary → Terms → AllNamed
  all_named v term.none = none
  all_named v (term.more t ts) = more (named v t) (all_named v ts)

abbrev mutual
  -- its JSON text
  pub json_named : Named → List ℕ
  json_named nothing = codes "null"
  json_named (leaf name bytes) = before_content name ++ (json_content bytes ++ codes "}")
  json_named (built name ts) = before_children name ++ (jsons_named ts ++ codes "]}")

  -- the text of terms, with commas between them
  pub jsons_named : AllNamed → List ℕ
  jsons_named none = []
  jsons_named (more t ts) = json_named t ++ others_named ts

  pub others_named : AllNamed → List ℕ
  others_named none = []
  others_named (more t ts) = codes "," ++ (json_named t ++ others_named ts)

abbrev mutual
  -- the texts of leaves consist of bytes
  pub IsNamedOfBytes : Named → Type 0
  IsNamedOfBytes nothing = Unit {0}
  IsNamedOfBytes (leaf name bytes) = All (λ b. b < 256) bytes
  IsNamedOfBytes (built name ts) = AreNamedOfBytes ts

  pub AreNamedOfBytes : AllNamed → Type 0
  AreNamedOfBytes none = Unit {0}
  AreNamedOfBytes (more t ts) = IsNamedOfBytes t × AreNamedOfBytes ts

-- a text that begins with a term determines the term and where it ends
abbrev pub SaysOneTree : Type 0
SaysOneTree = (s t : Named) (r q : List ℕ) → IsNamedOfBytes s → IsNamedOfBytes t
    → json_named s ++ r ≡ json_named t ++ q → (s ≡ t) × (r ≡ q)

-- the text of a term is that of the term with names
abbrev pub IsOfNames : Type 0
IsOfNames = (v : Vocabulary) (t : Term) → json v t ≡ json_named (named v t)
