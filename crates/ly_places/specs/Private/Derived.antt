-- The derivation of a text.
use Rattle.std.specs.Prelude.{◌≡◌, ℕ, List, ◌++◌, Result, Ok, Err, map}
use Rattle.ly_base.specs.Lexed.{Token, start_of}
use Rattle.ly_base.specs.Trees.{Tree, yield_of}
use Rattle.ly_base.specs.declared.lexeme.End.TheVariants.{Clean}
use Rattle.ly_feed.specs.SyntaxError.{verdict_of}
use Rattle.ly_feed.specs.ScanPart.{scan_part_of}
use Rattle.ly_feed.specs.TableAnswer.{AreTokens, IsVerdict, end_of}
use Rattle.ly_feed.specs.Verdict.{accepted, faulty}
use Rattle.ly_feed.specs.declared.text_fault.TextFault.{TextFault}
use Rattle.ly_feed.specs.declared.text_fault.TextFault.TheVariants.{FaultyTables, OutOfMemory}
use Rattle.ly_spans.specs.Spans.{span_of}
use Rattle.ly_parse.specs.Deriving.{Derives, shape_of_rule}
use Rattle.ly_places.specs.Shapes.{Fits, keeping_rule}
use Rattle.ly_places.specs.declared.derivation.Derivation.{Derivation}
use Rattle.ly_places.specs.declared.derivation.Derived.{Derived}
use Rattle.ly_places.specs.declared.derivation.Derived.TheVariants.{Accepted, Refused}
use Rattle.ly_spans.specs.declared.span.Span.{Span}
use Rattle.ly_tables.specs.TableSet.{TableSet, machine_of}
use Rattle.ly_tree.specs.Forest.{StandsFor}
use Rattle.ly_tree.specs.Term.{build}

-- These are the tokens of a text, and the tables accept them with this derivation tree, whose rules are there. It has
-- the tokens behind some others (behind none, where the tables accept with one level on their stack). The text's term
-- is what its rules build of the tree.
pub record IsDerivedBy (s : TableSet) (text : List ℕ) (tokens : List (Token ℕ)) (d : Tree) : Type 0 where
  pub are_tokens : AreTokens (scan_part_of s) (start_of text) tokens Clean
  pub derives : Derives (machine_of s) tokens (end_of text) d
  pub before : List (Token ℕ)
  pub yields : tokens ≡ before ++ yield_of d
  pub fits : Fits s.rules d
  pub says : IsVerdict s text (accepted (build (shape_of_rule s.rules) d))

-- A derivation of a text in memory: where its tokens stand, and the tree, as rules build it that keep their bodies.
pub record IsDerivationOf (s : TableSet) (text : List ℕ) (x : Derivation) : Type 0 where
  pub tokens : List (Token ℕ)
  pub tree : Tree
  pub derived : IsDerivedBy s text tokens tree
  pub extents : x.tokens.items ≡ map span_of tokens
  pub root : StandsFor x.forest x.root (build (shape_of_rule (map keeping_rule s.rules)) tree)

-- What is found of a text: a derivation, or what is wrong with it, or the tables are at fault. Want of memory says
-- nothing.
abbrev pub IsDerived : TableSet → List ℕ → Result Derived TextFault → Type 0
IsDerived s text (Ok (Accepted x)) = IsDerivationOf s text x
IsDerived s text (Ok (Refused syntax_error)) = IsVerdict s text (verdict_of syntax_error)
IsDerived s text (Err FaultyTables) = IsVerdict s text faulty
IsDerived s text (Err OutOfMemory) = Unit {0}
IsDerived s text (Err _) = ⊥
