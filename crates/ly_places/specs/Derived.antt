-- A derivation in a forest, and the spans of its tokens.
use Rattle.std.specs.Prelude.{◌≡◌, ℕ, List, ◌++◌, map}
use Rattle.ly_base.specs.Lexed.{Token}
use Rattle.ly_base.specs.Trees.{Tree, yield_of}
use Rattle.ly_pack.specs.Machine.{TableRule, IsShapeFor}
use Rattle.ly_spans.specs.Spans.{span_of}
use Rattle.ly_parse.specs.Deriving.{shape_of_rule}
use Rattle.ly_places.specs.Shapes.{keeping_rule, Fits}
use Rattle.ly_spans.specs.declared.span.Span.{Span}
use Rattle.ly_tree.specs.Forest.{Grown, StandsFor}
use Rattle.ly_tree.specs.Term.{build}
use Rattle.ly_tree.specs.declared.forest.TermRef.{TermRef}

-- The reference represents what rules that keep their whole bodies build from a derivation. Its tokens are the last
-- ones of a text.
pub record IsDerived (f : Grown) (root : TermRef) (tokens : List Span) (rules : List TableRule)
    (before : List (Token ℕ)) (d : Tree) : Type 0 where
  pub stands : StandsFor f root (build (shape_of_rule (map keeping_rule rules)) d)
  pub fits : Fits rules d
  pub extents : map span_of (before ++ yield_of d) ≡ tokens

-- the shape of a rule uses places of its body
abbrev pub IsShaped : TableRule → Type 0
IsShaped r = IsShapeFor r.body_length r.shape
