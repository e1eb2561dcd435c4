-- The verdict on a text, and its printed form.
use Rattle.std.specs.Prelude.{◌≡◌, ℕ, List, [], ◌∷◌, ◌++◌, nat_eq, if◌then◌else◌, codes, length, map}
use Rattle.std.specs.Fmt.{decimal}
use Rattle.std.specs.List.{flat_map}
use Rattle.ly_base.specs.Bytes.{newline}
use Rattle.ly_base.specs.Lexed.{Token}
use Rattle.ly_print.specs.Text.{leaf_of, no_rule_line, token}
use Rattle.ly_print.specs.declared.answer_form.AnswerForm.{AnswerForm}
use Rattle.ly_print.specs.declared.answer_form.AnswerForm.TheVariants.{Json, Plain}
use Rattle.ly_feed.specs.JsonLines.{json_refused_line, json_unmatched_line}
use Rattle.ly_feed.specs.declared.outcome.Outcome.{Outcome}
use Rattle.ly_feed.specs.declared.outcome.Outcome.TheVariants.{NoRule, Syntax, Tree}
use Rattle.ly_tree.specs.Json.{json}
use Rattle.ly_tree.specs.Shown.{Vocabulary, shown}
use Rattle.ly_tree.specs.Term.{Term}

-- The text has a term; its token of this number, counted from 1, is unexpected, or its end, which is a token of
-- terminal 0, and these terminals are expected in its place; no rule matches at a byte; or the tables are faulty.
pub data Verdict : Type 0 where
  accepted : Term → Verdict
  refused : ℕ → Token ℕ → List ℕ → Verdict
  unmatched : ℕ → Verdict
  faulty : Verdict

abbrev pub syntax_line : Vocabulary → ℕ → Token ℕ → List ℕ
syntax_line v k t = if nat_eq t.terminal 0
    then codes "syntax error at end, token " ++ decimal k ++ codes ", byte " ++ decimal t.at ++ newline ∷ []
    else codes "syntax error at token " ++ decimal k ++ codes ", byte " ++ decimal t.at ++ codes ": "
    ++ leaf_of (token (v.terminal t.terminal)) t.bytes ++ newline ∷ []

-- the line after it: the expected terminals, each after a space
abbrev pub expected_line : Vocabulary → List ℕ → List ℕ
expected_line v ts = codes "expected:" ++ flat_map (λ t. codes " " ++ v.terminal t) ts ++ newline ∷ []

-- the result as plain text; empty if the tables are faulty
abbrev pub printed : Vocabulary → Verdict → List ℕ
printed v (accepted t) = shown v t ++ newline ∷ []
printed v (refused k t ts) = syntax_line v k t ++ expected_line v ts
printed v (unmatched byte) = no_rule_line byte
printed v faulty = []

-- the result as a line of JSON, likewise
abbrev pub json_printed : Vocabulary → Verdict → List ℕ
json_printed v (accepted t) = json v t ++ newline ∷ []
json_printed v (refused k t ts) = json_refused_line v k t ts
json_printed v (unmatched byte) = json_unmatched_line byte
json_printed v faulty = []

-- the result in a form
abbrev pub written_in : AnswerForm → Vocabulary → Verdict → List ℕ
written_in Plain v verdict = printed v verdict
written_in Json v verdict = json_printed v verdict

-- the outcome has the number, the offset, the length and the expected terminals of an unexpected token
abbrev pub IsSyntax : ℕ → Token ℕ → List ℕ → Outcome → Type 0
IsSyntax k t ts (Syntax n byte count expected) = (n ≡ k) × (byte ≡ t.at) × (count ≡ length t.bytes)
    × (map (λ s. s.0) expected.items ≡ ts)
IsSyntax k t ts _ = ⊥

-- the outcome for a verdict
abbrev pub IsOutcome : Verdict → Outcome → Type 0
IsOutcome (accepted t) outcome = outcome ≡ Tree
IsOutcome (refused k t ts) outcome = IsSyntax k t ts outcome
IsOutcome (unmatched byte) outcome = outcome ≡ NoRule byte
IsOutcome faulty outcome = ⊥
