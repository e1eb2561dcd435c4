-- What a lex file and a yacc file define for a text: the reference machine over the tokens of the text.
use Rattle.std.specs.Prelude.{◌≡◌, ◌↔◌, ℕ, ◌+◌, ◌<◌, List, [], ◌∷◌, ◌++◌, AllPairs, Contains, length}
use Rattle.std.specs.List.{AllZip}
use Rattle.ly_base.specs.Lexed.{Token, start_of, tokens_from}
use Rattle.ly_base.specs.Shape.{Shape}
use Rattle.ly_print.specs.Text.{Terminal, literal, token}
use Rattle.ly_print.specs.declared.answer_form.AnswerForm.{AnswerForm}
use Rattle.ly_base.specs.Trees.{Tree}
use Rattle.ly_base.specs.declared.lexeme.End.{End}
use Rattle.ly_base.specs.declared.lexeme.End.TheVariants.{Clean, Stuck}
use Rattle.ly_base.specs.declared.lexeme.Lexeme.{Lexeme}
use Rattle.ly_feed.specs.TableAnswer.{end_of, fed_with}
use Rattle.ly_feed.specs.Verdict.{Verdict, IsOutcome, accepted, faulty, refused, unmatched, written_in}
use Rattle.ly_feed.specs.Vocabularies.{constructor_of}
use Rattle.ly_feed.specs.declared.outcome.Outcome.{Outcome}
use Rattle.ly_emit.specs.Tables.{shape_in}
use Rattle.ly_generate.specs.Accepted.{terminal_name_in}
use Rattle.ly_tokens.specs.Printing.{condition_set, naming}
use Rattle.ly_ere.specs.Names.{defined}
use Rattle.ly_join.specs.Grammar.{Grammar}
use Rattle.ly_join.specs.Joined.{Spec}
use Rattle.ly_join.specs.Terminals.{TerminalName, IsNumbered, IsOfByte}
use Rattle.ly_join.specs.Terminals as joined
use Rattle.ly_lexread.specs.Lexing.{Lexing}
use Rattle.ly_lexread.specs.declared.file.LexFile.{LexFile}
use Rattle.ly_resolve.specs.Actions.{Judge}
use Rattle.ly_resolve.specs.Laws.{ReadsTo}
use Rattle.ly_resolve.specs.Machine.{AcceptsWith, Next, Pushed, RefusesAfter}
use Rattle.ly_resolve.specs.Precedence.{judge_of}
use Rattle.ly_tree.specs.Shown.{Vocabulary}
use Rattle.ly_tree.specs.Term.{build}

-- the number of a terminal that an action returns; a literal that the grammar doesn't name has the number of the
-- undefined terminal
abbrev pub IsNumberOf : List TerminalName → Terminal → ℕ → Type 0
IsNumberOf terminals (token name) t = IsNumbered terminals (joined.token name) t
IsNumberOf terminals (literal b) t = IsOfByte terminals b t

-- The second token is the first one with its terminal replaced by the terminal's number.
pub record IsNumberedToken (terminals : List TerminalName) (t : Token Terminal) (u : Token ℕ) : Type 0 where
  pub terminal : IsNumberOf terminals t.terminal u.terminal
  pub same_place : u.at ≡ t.at
  pub same_bytes : u.bytes ≡ t.bytes

-- The lexing of the text by the rules of the lex file has these tokens and ends like this. The longest match wins, and
-- of equally long ones the earliest rule.
pub record AreTokensOf (file : LexFile) (s : Spec) (text : List ℕ) (tokens : List (Token ℕ)) (e : End) : Type 0 where
  pub lexemes : List Lexeme
  pub lexing : Lexing (defined file.names) file.rules.items (condition_set file.actions.items) (start_of text) lexemes e
  pub numbered : AllZip (IsNumberedToken s.terminals) (tokens_from (naming file.actions.items) 0 text lexemes) tokens

-- The reference machine reads the tokens before the unexpected one. The list is in ascending order and has exactly the
-- terminals that the machine would read next, or accept with. No reduction is made on the unexpected token.
pub record AreNext (G : Grammar) (judge : Judge) (before : List (Token ℕ)) (ts : List ℕ) : Type 0 where
  pub stack : List Pushed
  pub reads : ReadsTo G judge before stack
  pub ordered : AllPairs (λ x y. x < y) ts
  pub are : (t : ℕ) → Contains ts t ↔ Next G judge stack t

-- What the reference machine does with tokens, by what comes first in the text. Either it accepts them, followed by the
-- end, with a tree from which this term is built. Or it rejects one, or the end, and would have read these in its
-- place. Or it reads them all, and no rule matches after them.
abbrev pub IsMachineVerdict : Grammar → Judge → (ℕ → Shape) → List ℕ → List (Token ℕ) → End → Verdict → Type 0
IsMachineVerdict G judge shape text tokens e (accepted term) = (e ≡ Clean) × (d : Tree)
    × AcceptsWith G judge (tokens ++ end_of text ∷ []) d × (term ≡ build shape d)
IsMachineVerdict G judge shape text tokens e (refused k t ts) = (before behind : List (Token ℕ))
    × (fed_with (end_of text) tokens e ≡ before ++ t ∷ behind) × RefusesAfter G judge (before ++ t ∷ behind) before
    × (k ≡ length before + 1) × AreNext G judge before ts
IsMachineVerdict G judge shape text tokens e (unmatched byte) = (e ≡ Stuck byte) × (stack : List Pushed)
    × ReadsTo G judge tokens stack
IsMachineVerdict G judge shape text tokens e faulty = ⊥

-- what the specification defines for a text, if these are its useful rules
abbrev pub IsSpecVerdict : LexFile → Spec → Grammar → List ℕ → Verdict → Type 0
IsSpecVerdict file s useful text v = (tokens : List (Token ℕ)) × (e : End) × AreTokensOf file s text tokens e
    × IsMachineVerdict useful (judge_of s) (shape_in s) text tokens e v

-- the printed names of the terminals, and the constructors of rules
abbrev pub words_of : Spec → Vocabulary
words_of s = record {
  terminal = terminal_name_in s;
  constructor = λ p. constructor_of (shape_in s p);
}

-- the text has this outcome and, in a form, this output
abbrev pub SpecAnswer : AnswerForm → LexFile → Spec → Grammar → List ℕ → Outcome → List ℕ → Type 0
SpecAnswer form file s useful text outcome answer = (v : Verdict) × IsSpecVerdict file s useful text v
    × IsOutcome v outcome × (answer ≡ written_in form (words_of s) v)
