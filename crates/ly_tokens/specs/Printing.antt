-- What `tokens` writes: a line for each token, and a last line if no rule matches somewhere.
use Rattle.std.specs.Prelude.{ℕ, List, [], slice_get, slice_index, Option, Some, None, option_and_then, flat_map}
use Rattle.std.specs.Rc.{rc_slice_items}
use Rattle.ly_base.specs.Lexed.{Token}
use Rattle.ly_print.specs.Text.{Terminal, token, literal, leaf_line, no_rule_line}
use Rattle.ly_base.specs.declared.lexeme.End.{End}
use Rattle.ly_base.specs.declared.lexeme.End.TheVariants.{Clean, Stuck, BadCut}
use Rattle.ly_lexread.specs.declared.action.LexAction.{LexAction}
use Rattle.ly_lexread.specs.declared.action.Returned.{Returned}
use Rattle.ly_lexread.specs.declared.action.Returned.TheVariants.{Nothing, Token as TokenOf, Literal, FirstByte}

-- the terminal that is returned for these bytes, if any
abbrev pub terminal_for : Returned → List ℕ → Option Terminal
terminal_for Nothing bytes = None
terminal_for (TokenOf name) bytes = Some (token (rc_slice_items name))
terminal_for (Literal b) bytes = Some (literal b)
terminal_for FirstByte bytes = Some (literal (slice_index bytes 0))

-- the terminal that the action of a rule returns for these bytes, if any
abbrev pub naming : List LexAction → ℕ → List ℕ → Option Terminal
naming actions i bytes = option_and_then (λ a. terminal_for a.returns bytes) (slice_get actions i)

-- the condition that the action of a rule sets, if any
abbrev pub condition_set : List LexAction → ℕ → Option ℕ
condition_set actions i = option_and_then (λ a. a.begin) (slice_get actions i)

-- the lines of the tokens
abbrev pub printed : List (Token Terminal) → List ℕ
printed tokens = flat_map (λ (t : Token Terminal). leaf_line t.terminal t.bytes) tokens

-- the line of a token, or nothing if there is no terminal
abbrev pub line_if : Option Terminal → List ℕ → List ℕ
line_if None bytes = []
line_if (Some terminal) bytes = leaf_line terminal bytes

-- the last line: nothing unless no rule matches somewhere
abbrev pub end_line : End → List ℕ
end_line Clean = []
end_line (Stuck byte) = no_rule_line byte
end_line (BadCut byte) = []
