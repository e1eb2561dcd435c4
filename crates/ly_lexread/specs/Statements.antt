-- The statements of an action (POSIX, XCU lex, "Actions in lex").
use Rattle.std.specs.Prelude.{◌≡◌, ℕ, List, [], ◌∷◌, ◌++◌, Bool, true, false, codes, drop, Some}
use Rattle.ly_base.specs.Gap.{Gap}
use Rattle.ly_base.specs.declared.language.Language.{Language}
use Rattle.ly_base.specs.declared.language.Language.TheVariants.{Lex, Yacc}
use Rattle.ly_lexread.specs.Action.{Effect, Meaning, Saying, first_byte, literal_of, next, no_effect, nothing, own}
use Rattle.ly_lexread.specs.Action.{token}
use Rattle.ly_lexread.specs.Conditions.{Condition, condition_of}
use Rattle.ly_lexread.specs.Lines.{LineOf}
use Rattle.ly_lexread.specs.Words.{HasInFront, Word, Wording, bar, close_brace, close_parenthesis, literal, mark, name}
use Rattle.ly_lexread.specs.Words.{open_brace, open_parenthesis, semicolon, text_byte, zero_digit}
use Rattle.ly_lexread.specs.declared.statement.Extent.{Extent}
use Rattle.ly_lexread.specs.declared.statement.Extent.TheVariants.{Line, Braces}

-- between braces whitespace may include newlines
abbrev pub gaps : Extent → Language
gaps Line = Lex
gaps Braces = Yacc

-- A statement, or the end of the statements.
pub data Statement : Type 0 where
  ends : Statement
  empty : Statement
  begins : ℕ → Statement
  returns : Meaning → Statement

-- the condition that a word names
abbrev pub NamesCondition : List Condition → Word → ℕ → Type 0
NamesCondition cs (mark b) n = (mark b ≡ zero_digit) × (n ≡ 0)
NamesCondition cs (name s) n = condition_of cs s ≡ Some n
NamesCondition cs _ n = ⊥

-- the token that a word denotes
abbrev pub StandsFor : Word → Meaning → Type 0
StandsFor (mark b) m = ⊥
StandsFor text_byte m = m ≡ first_byte
StandsFor (name n) m = m ≡ token n
StandsFor (literal b) m = m ≡ literal_of b

-- an optional `(`, then the rest
abbrev pub Opens : Language → List ℕ → Bool → List ℕ → Type 0
Opens l text true rest = HasInFront l text open_parenthesis rest
Opens l text false rest = (rest ≡ text) × ((s : List ℕ) → HasInFront l text open_parenthesis s → ⊥)

-- a `)` if one was opened, a `;`, then the rest
abbrev pub Closed : Language → Bool → List ℕ → List ℕ → Type 0
Closed l true text rest = (behind : List ℕ) × HasInFront l text close_parenthesis behind
    × HasInFront l behind semicolon rest
Closed l false text rest = HasInFront l text semicolon rest

-- What follows a keyword: a word, perhaps in parentheses, a `;`, then the rest.
pub record Given (l : Language) (text : List ℕ) (x : Word) (rest : List ℕ) : Type 0 where
  pub is_open : Bool
  pub inside : List ℕ
  pub opens : Opens l text is_open inside
  pub behind : List ℕ
  pub word : HasInFront l inside x behind
  pub closed : Closed l is_open behind rest

-- the statements end: with the line, or at a `}`
abbrev pub Ends : Extent → List ℕ → List ℕ → Type 0
Ends Line text rest = Gap Lex text × (rest ≡ [])
Ends Braces text rest = HasInFront Yacc text close_brace rest

-- the text is a statement, or the end of the statements, then the rest
abbrev pub StatementFirst : List Condition → Extent → List ℕ → Statement → List ℕ → Type 0
StatementFirst cs e text ends rest = Ends e text rest
StatementFirst cs e text empty rest = HasInFront (gaps e) text semicolon rest
StatementFirst cs e text (begins n) rest =
    (x : Word)
    × ((behind : List ℕ) × HasInFront (gaps e) text (name (codes "BEGIN")) behind × Given (gaps e) behind x rest
    × NamesCondition cs x n)
StatementFirst cs e text (returns m) rest =
    (x : Word)
    × ((behind : List ℕ) × HasInFront (gaps e) text (name (codes "return")) behind × Given (gaps e) behind x rest
    × StandsFor x m)

-- The effect after a further statement: there is at most one BEGIN, at most one return, and no BEGIN after it.
abbrev pub HasEffect : Effect → Statement → Effect → Type 0
HasEffect d ends e = ⊥
HasEffect d empty e = e ≡ d
HasEffect d (begins n) e = (d ≡ no_effect) × (e ≡ record { begin = Some n; returns = nothing })
HasEffect d (returns m) e = (d.returns ≡ nothing) × (e ≡ record { begin = d.begin; returns = m })

-- The statements, from the effect so far to that of all, then the rest.
pub data Statements (cs : List Condition) (e : Extent) : Effect → List ℕ → Effect → List ℕ → Type 0 where
  done : (d : Effect) (text rest : List ℕ) → StatementFirst cs e text ends rest → Statements cs e d text d rest
  more : (d f g : Effect) (s : Statement) (text behind rest : List ℕ) → StatementFirst cs e text s behind
      → HasEffect d s f → Statements cs e f behind g rest → Statements cs e d text g rest

-- the line ends after whitespace and comments, then comes the rest
abbrev pub LineEnds : List ℕ → List ℕ → Type 0
LineEnds text rest = (line end : List ℕ) × LineOf text line end × Gap Lex line × (rest ≡ drop 1 end)

-- The action of a rule, as it is written on the line after the pattern, then the rest: statements, `|`, or statements
-- in braces, which may span lines.
pub data SaysAction (cs : List Condition) (line end : List ℕ) : Saying → List ℕ → Type 0 where
  on_line : (e : Effect) → Statements cs Line no_effect line e [] → SaysAction cs line end (own e) (drop 1 end)
  of_next : Wording Lex line (bar ∷ []) → SaysAction cs line end next (drop 1 end)
  in_braces : (e : Effect) (inside behind rest : List ℕ) → HasInFront Lex line open_brace inside
      → Statements cs Braces no_effect (inside ++ end) e behind → LineEnds behind rest
      → SaysAction cs line end (own e) rest
