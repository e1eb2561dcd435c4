-- Lexemes that are determined by the state where their walk ends.
use Rattle.std.specs.Prelude.{◌≡◌, ◌≢◌, ℕ, List, Bool, Option, Some, None, false, true, get_or, if◌then◌else◌, map}
use Rattle.ly_base.specs.Lexed.{Place}
use Rattle.ly_base.specs.declared.cut.Cut.{Cut}
use Rattle.ly_base.specs.declared.cut.Cut.TheVariants.{Head, Tail, Whole}
use Rattle.ly_base.specs.declared.lexeme.Lexeme.{Lexeme}
use Rattle.ly_base.specs.declared.numbers.RuleNo.{RuleNo}
use Rattle.ly_scan.specs.Lexer.{Scanner}
use Rattle.ly_scan.specs.Pieces.{IsDecided}
use Rattle.ly_scan.specs.StateTable.{StateTable, cut_at}
use Rattle.ly_scan.specs.declared.tagged_lexeme.TaggedLexeme.{TaggedLexeme}

abbrev pub is_whole : Cut → Bool
is_whole Whole = true
is_whole (Head len) = false
is_whole (Tail len) = false

-- the fact of a state with this rule: that of the rule, if it has no trailing context
abbrev pub fact_by : StateTable → List ℕ → Option RuleNo → ℕ
fact_by t by_rule None = 0
fact_by t by_rule (Some rule) = if is_whole (cut_at t rule.0) then get_or by_rule rule.0 0 else 0

-- the facts of all states
abbrev pub facts_by : StateTable → List ℕ → List ℕ
facts_by t by_rule = map (fact_by t by_rule) t.rules

-- The place has a lexeme, whatever bytes follow the known ones. The tagged lexeme has the number of bytes taken and the
-- fact of its rule.
pub record IsTaggedLexeme (s : Scanner) (by_rule : List ℕ) (q : Place) (told : TaggedLexeme) : Type 0 where
  pub lexeme : Lexeme
  pub stands : IsDecided false s q lexeme
  pub taken : lexeme.taken ≡ told.taken
  pub fact : get_or by_rule lexeme.rule.0 0 ≡ told.fact
  pub some : told.fact ≢ 0
