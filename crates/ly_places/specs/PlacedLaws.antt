-- Laws of placed terms.
use Rattle.std.specs.Prelude.{◌≡◌, ◌≤◌, ◌+◌, ℕ, List, [], ◌∷◌, All, length}
use Rattle.ly_base.specs.Lexed.{Token}
use Rattle.ly_base.specs.Shape.{Shape}
use Rattle.ly_base.specs.Trees.{Tree, yield_of}
use Rattle.ly_feed.specs.TableAnswer.{IsVerdict}
use Rattle.ly_feed.specs.Verdict.{accepted}
use Rattle.ly_spans.specs.Spans.{bytes_at, span_of}
use Rattle.ly_places.specs.Placed.{Placed, PlacedTerms, built, forgotten, leaf, more, none}
use Rattle.ly_places.specs.Placed.{nothing, placed, where_of}
use Rattle.ly_places.specs.PlacedAnswer.{IsPlacedBy}
use Rattle.ly_spans.specs.declared.span.Span.{Span}
use Rattle.ly_tables.specs.TableSet.{TableSet}
use Rattle.ly_tree.specs.Term.{build}

-- a token has the bytes of the text in its span
abbrev pub IsOfText : List ℕ → Token ℕ → Type 0
IsOfText text t = bytes_at text (span_of t) ≡ t.bytes

-- tokens follow one another from an offset on: each begins at or after the end of the one before, the first at or after
-- this offset
abbrev pub FollowFrom : ℕ → List (Token ℕ) → Type 0
FollowFrom last [] = Unit {0}
FollowFrom last (t ∷ ts) = (last ≤ t.at) × FollowFrom (t.at + length t.bytes) ts

-- it is within the other one, and its start isn't after its end
pub record IsInside (inner outer : Span) : Type 0 where
  pub start : outer.start ≤ inner.start
  pub turned : inner.start ≤ inner.end
  pub end : inner.end ≤ outer.end

-- the span of each part is within that of its node
abbrev mutual
  pub IsNested : Placed → Type 0
  IsNested (nothing e) = Unit {0}
  IsNested (leaf t e) = Unit {0}
  IsNested (built p e ts) = AreNestedIn e ts

  pub AreNestedIn : Span → PlacedTerms → Type 0
  AreNestedIn e none = Unit {0}
  AreNestedIn e (more t ts) = IsInside (where_of t) e × IsNested t × AreNestedIn e ts

-- without its spans a placed term is what the rules build
abbrev pub PlacesAreForgotten : Type 0
PlacesAreForgotten = (text : List ℕ) (shape : ℕ → Shape) (last : ℕ) (d : Tree) → All (IsOfText text) (yield_of d)
    → forgotten text (placed shape last d) ≡ build shape d

-- in the tree of a text the span of each part is within that of its node
abbrev pub PlacedTreesAreNested : Type 0
PlacedTreesAreNested = (s : TableSet) (text : List ℕ) (t : Placed) → IsPlacedBy s text t → IsNested t

-- and without its spans it is the text's term
abbrev pub PlacedTreesAreOfVerdicts : Type 0
PlacedTreesAreOfVerdicts = (s : TableSet) (text : List ℕ) (t : Placed) → IsPlacedBy s text t
    → IsVerdict s text (accepted (forgotten text t))

-- if tokens follow one another, the spans of parts are within those of their nodes
abbrev pub PartsAreNested : Type 0
PartsAreNested = (shape : ℕ → Shape) (last : ℕ) (d : Tree) → FollowFrom last (yield_of d)
    → IsNested (placed shape last d)
