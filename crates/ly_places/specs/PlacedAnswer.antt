-- The verdict of a table set on a text, with the spans of the parts of its tree, and its written form.
use Rattle.std.specs.Prelude.{◌≡◌, ℕ, List, [], ◌∷◌, ◌++◌, codes}
use Rattle.std.specs.Fmt.{decimal}
use Rattle.ly_base.specs.Bytes.{newline}
use Rattle.ly_base.specs.Lexed.{Token, start_of}
use Rattle.ly_base.specs.Trees.{Tree, yield_of}
use Rattle.ly_base.specs.declared.lexeme.End.TheVariants.{Clean}
use Rattle.ly_feed.specs.JsonLines.{json_expected, json_refusal, json_token}
use Rattle.ly_feed.specs.ScanPart.{scan_part_of}
use Rattle.ly_feed.specs.TableAnswer.{AreTokens, IsVerdict, end_of}
use Rattle.ly_feed.specs.Verdict as plain
use Rattle.ly_feed.specs.Verdict.{IsOutcome, Verdict}
use Rattle.ly_feed.specs.Vocabularies.{vocabulary_of}
use Rattle.ly_feed.specs.declared.outcome.Outcome.{Outcome}
use Rattle.ly_spans.specs.Spans.{empty_at, span_of, json_span}
use Rattle.ly_places.specs.Placed.{Placed, end_behind, forgotten, placed}
use Rattle.ly_places.specs.PlacedJson.{placed_json}
use Rattle.ly_parse.specs.Deriving.{Derives, shape_of_rule}
use Rattle.ly_tables.specs.TableSet.{TableSet, machine_of}
use Rattle.ly_tree.specs.Shown.{Vocabulary}
use Rattle.ly_tree.specs.Term.{build}

-- The text has a term, with the spans of its parts; or it has another verdict.
pub data PlacedVerdict : Type 0 where
  accepted : Placed → PlacedVerdict
  refused : ℕ → Token ℕ → List ℕ → PlacedVerdict
  unmatched : ℕ → PlacedVerdict
  faulty : PlacedVerdict

-- The tables accept the tokens of a text with this derivation tree, the text's term is what its rules build from it, and
-- the spans are those of the tree. It has all tokens after some others (after none, if the tables accept with one level
-- on their stack).
pub record IsPlacedBy (s : TableSet) (text : List ℕ) (t : Placed) : Type 0 where
  pub tokens : List (Token ℕ)
  pub are_tokens : AreTokens (scan_part_of s) (start_of text) tokens Clean
  pub tree : Tree
  pub derives : Derives (machine_of s) tokens (end_of text) tree
  pub before : List (Token ℕ)
  pub yields : tokens ≡ before ++ yield_of tree
  pub says : IsVerdict s text (plain.accepted (build (shape_of_rule s.rules) tree))
  pub stands : t ≡ placed (shape_of_rule s.rules) (end_behind before) tree

abbrev pub IsPlacedVerdict : TableSet → List ℕ → PlacedVerdict → Type 0
IsPlacedVerdict s text (accepted t) = IsPlacedBy s text t
IsPlacedVerdict s text (refused k t ts) = IsVerdict s text (plain.refused k t ts)
IsPlacedVerdict s text (unmatched byte) = IsVerdict s text (plain.unmatched byte)
IsPlacedVerdict s text faulty = IsVerdict s text plain.faulty

-- The verdict without spans. A tree's leaves have the bytes of the text in their spans.
abbrev pub verdict_of : List ℕ → PlacedVerdict → Verdict
verdict_of text (accepted t) = plain.accepted (forgotten text t)
verdict_of text (refused k t ts) = plain.refused k t ts
verdict_of text (unmatched byte) = plain.unmatched byte
verdict_of text faulty = plain.faulty

-- the line of JSON; empty if the tables are faulty
abbrev pub placed_line : Vocabulary → List ℕ → PlacedVerdict → List ℕ
placed_line v text (accepted t) = placed_json v text t ++ newline ∷ []
placed_line v text (refused k t ts) = json_refusal k t.at ++ (json_span text (span_of t) ++ (json_token v t
    ++ (json_expected v ts ++ (codes "}" ++ newline ∷ []))))
placed_line v text (unmatched byte) = codes "{\"error\":\"unmatched\",\"byte\":" ++ (decimal byte
    ++ (json_span text (empty_at byte) ++ (codes "}" ++ newline ∷ [])))
placed_line v text faulty = []

-- the text has this outcome and these bytes as its result
abbrev pub PlacedAnswer : TableSet → List ℕ → Outcome → List ℕ → Type 0
PlacedAnswer s text outcome answer = (v : PlacedVerdict) × IsPlacedVerdict s text v
    × IsOutcome (verdict_of text v) outcome × (answer ≡ placed_line (vocabulary_of s) text v)
