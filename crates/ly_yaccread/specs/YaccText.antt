-- The content of a yacc file (POSIX, XCU yacc).
use Rattle.std.specs.Prelude.{◌≡◌, ℕ, List, None, map}
use Rattle.ly_yaccread.specs.Declarations.{Declarations, none_declared}
use Rattle.ly_yaccread.specs.File.{Written}
use Rattle.ly_yaccread.specs.Offsets.{rule_offsets, token_offset}
use Rattle.ly_yaccread.specs.Rules.{YaccRules}
use Rattle.ly_yaccread.specs.Words.{Word, AreWordsOf}
use Rattle.ly_yaccread.specs.declared.standing.Standing.{Standing}

-- The bytes of a yacc file have this content: they are the words of declarations, a `%%` and rules, and the offsets are
-- those of the tokens and the rules.
pub record YaccText (bytes : List ℕ) (w : Written) : Type 0 where
  pub words : List Word
  pub offsets : List ℕ
  pub spelled : AreWordsOf bytes words offsets
  pub tokens : List ℕ
  pub behind : List Word
  pub declarations : Declarations none_declared words (record { preamble = w.preamble; tokens = tokens }) behind
  pub standings : List Standing
  pub rules : YaccRules None behind w.rules standings
  pub tokens_stand : w.token_offsets ≡ map (token_offset offsets) tokens
  pub rules_stand : w.rule_offsets ≡ map (rule_offsets offsets) standings

-- a text has at most one content
abbrev pub YaccTextIsOne : Type 0
YaccTextIsOne = (bytes : List ℕ) (v w : Written) → YaccText bytes v → YaccText bytes w → v ≡ w
