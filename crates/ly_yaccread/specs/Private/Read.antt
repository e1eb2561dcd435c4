-- What a reader of words answers.
use Rattle.std.specs.Prelude.{◌≢◌, ℕ, List, None, Option, Result, Ok, Err, map}
use Rattle.std.specs.Option.{option_map}
use Rattle.ly_yaccread.specs.Declarations.{Declarations, Declaring, Saying, none_declared, nothing, start, tokens}
use Rattle.ly_yaccread.specs.File.{Written, declared_of, symbol_words}
use Rattle.ly_yaccread.specs.Offsets.{rule_offsets, token_offset}
use Rattle.ly_yaccread.specs.Private.Words.{words_of}
use Rattle.ly_yaccread.specs.Rules.{LeftSide, Ruling, YaccRules}
use Rattle.ly_yaccread.specs.Words.{Word, name, literal}
use Rattle.ly_yaccread.specs.declared.cursor.Cursor.{Cursor}
use Rattle.ly_yaccread.specs.declared.declaration.Said.{Said}
use Rattle.ly_yaccread.specs.declared.declaration.Said.TheVariants.{Tokens, Start, Nothing}
use Rattle.ly_yaccread.specs.declared.declarations.Preamble.{Preamble}
use Rattle.ly_yaccread.specs.declared.refusal.Refusal.{Refusal}
use Rattle.ly_yaccread.specs.declared.refusal.Refusal.TheVariants.{OutOfMemory}
use Rattle.ly_yaccread.specs.declared.rules.LeftSide as read
use Rattle.ly_yaccread.specs.declared.standing.Standing.{Standing}
use Rattle.ly_yaccread.specs.declared.symbols.NextSymbol.{NextSymbol}
use Rattle.ly_yaccread.specs.declared.symbols.NextSymbol.TheVariants.{Name, Literal}

-- the words that are left
abbrev pub left : Cursor → List Word
left c = words_of c.left.now

-- the word of a symbol that stands in the text
abbrev pub next_symbol : NextSymbol → Word
next_symbol (Name n) = name n.now
next_symbol (Literal b) = literal b

-- what a declaration says, whatever room its lists have
abbrev pub saying_of : Said → Saying
saying_of (Tokens d left) = tokens d.kind (symbol_words d.symbols.items) left.items
saying_of (Start n) = start n.items
saying_of Nothing = nothing

-- what declarations say together
abbrev pub declaring_of : Preamble → Declaring
declaring_of p = record {
  preamble = record {
    declarations = map declared_of p.declarations.items;
    start = option_map (λ n. n.items) p.start;
  };
  tokens = p.tokens.items;
}

-- a left side
abbrev pub left_side : read.LeftSide → LeftSide
left_side l = record { symbol = l.name.now; left = l.left }

-- the last left side, where there is one
abbrev pub last_of : Option read.LeftSide → Option LeftSide
last_of last = option_map left_side last

-- Is says which values and rests the words have: an answer is one of them, and a refusal says that there is none.
abbrev pub IsFound : {T X : Type 0} → (X → List Word → Type 0) → (T → X) → (T → List Word) → Result T Refusal → Type 0
IsFound Is value rest (Ok found) = Is (value found) (rest found)
IsFound {T} {X} Is value rest (Err refusal) = refusal ≢ OutOfMemory → (x : X) (r : List Word) → Is x r → ⊥

-- The words of a file say this: they are declarations, a `%%`, and rules.
pub record Says (ws : List Word) (d : Declaring) (rs : List Ruling) (ss : List Standing) : Type 0 where
  pub behind : List Word
  pub declarations : Declarations none_declared ws d behind
  pub rules : YaccRules None behind rs ss

-- a file whose words say this and begin at these offsets
abbrev pub file_at : List ℕ → Declaring → List Ruling → List Standing → Written
file_at offsets d rs ss = record {
  preamble = d.preamble;
  rules = rs;
  token_offsets = map (token_offset offsets) d.tokens;
  rule_offsets = map (rule_offsets offsets) ss;
}
