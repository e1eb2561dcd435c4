-- What a statement says, as it is read.
use Rattle.std.specs.Prelude.{◌≡◌}
use Rattle.ly_lexread.specs.Action.{Meaning, Saying, effect_of, first_byte, literal_of, next, own, token}
use Rattle.ly_lexread.specs.Private.Words.{word_of}
use Rattle.ly_lexread.specs.Statements.{Statement, begins, empty, ends, returns}
use Rattle.ly_lexread.specs.Words.{close_brace}
use Rattle.ly_lexread.specs.declared.action.Said.{Said}
use Rattle.ly_lexread.specs.declared.action.Said.TheVariants.{Own, Next}
use Rattle.ly_lexread.specs.declared.statement.Extent.{Extent}
use Rattle.ly_lexread.specs.declared.statement.Extent.TheVariants.{Line, Braces}
use Rattle.ly_lexread.specs.declared.statement.Statement.{Statement as ReadStatement}
use Rattle.ly_lexread.specs.declared.statement.Statement.TheVariants.{Ends, Empty, Begins, Returns}
use Rattle.ly_lexread.specs.declared.statement.Value.{Value}
use Rattle.ly_lexread.specs.declared.statement.Value.TheVariants as value
use Rattle.ly_lexread.specs.declared.words.NextWord.{NextWord}
use Rattle.ly_lexread.specs.declared.words.NextWord.TheVariants.{End}

-- what a value stands for
abbrev pub value_meaning : Value → Meaning
value_meaning (value.Name n) = token n.now
value_meaning (value.Byte b) = literal_of b
value_meaning value.TextByte = first_byte

-- the statement, which borrows nothing
abbrev pub statement_of : ReadStatement → Statement
statement_of Ends = ends
statement_of Empty = empty
statement_of (Begins n) = begins n
statement_of (Returns v) = returns (value_meaning v)

-- the statements end with the word
abbrev pub EndsBy : Extent → NextWord → Type 0
EndsBy Line w = w ≡ End
EndsBy Braces w = word_of w ≡ close_brace

-- what a rule says of its action
abbrev pub saying_of : Said → Saying
saying_of (Own a) = own (effect_of a)
saying_of (Next left) = next
