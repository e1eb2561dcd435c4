-- Placed terms whose parts are within a text.
use Rattle.std.specs.Prelude.{ℕ}
use Rattle.ly_spans.specs.Spans.{IsWithin}
use Rattle.ly_places.specs.Placed.{Placed, PlacedTerms, built, leaf, more, none, nothing}

abbrev mutual
  -- a term is, with all its parts
  pub StandsWithin : ℕ → Placed → Type 0
  StandsWithin count (nothing e) = IsWithin count e
  StandsWithin count (leaf t e) = IsWithin count e
  StandsWithin count (built p e ts) = IsWithin count e × AllStandWithin count ts

  pub AllStandWithin : ℕ → PlacedTerms → Type 0
  AllStandWithin count none = Unit {0}
  AllStandWithin count (more t ts) = StandsWithin count t × AllStandWithin count ts
