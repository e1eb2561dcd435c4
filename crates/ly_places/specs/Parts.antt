-- A placed term as a list of its parts: each precedes the parts that it consists of.
use Rattle.std.specs.Prelude.{ℕ, suc, List, [], ◌∷◌, ◌++◌, length}
use Rattle.ly_places.specs.Placed.{Placed, PlacedTerms, built, leaf, more, none, nothing}
use Rattle.ly_spans.specs.declared.span.Span.{Span}
use Rattle.ly_places.specs.declared.part.Part.{Part}
use Rattle.ly_places.specs.declared.part.PartKind.{PartKind}
use Rattle.ly_places.specs.declared.part.PartKind.TheVariants.{Node, Nothing, Token}

-- a part of this kind, with this span and this number of parts, including itself
abbrev pub part : PartKind → Span → ℕ → Part
part kind e n = record { kind = kind; extent = e; parts = n }

abbrev mutual
  pub parts_of : Placed → List Part
  parts_of (nothing e) = part Nothing e 1 ∷ []
  parts_of (leaf t e) = part (Token (record { 0 = t })) e 1 ∷ []
  parts_of (built p e ts) = part (Node (record { 0 = p })) e (suc (length (all_parts ts))) ∷ all_parts ts

  -- the parts of terms one after another
  pub all_parts : PlacedTerms → List Part
  all_parts none = []
  all_parts (more t ts) = parts_of t ++ all_parts ts
