-- The counts that have limits.
use Rattle.std.specs.Prelude.{ℕ, ◌+◌, ◌≤◌, List, [], ◌∷◌, ◌++◌, length, map, max}
use Rattle.std.specs.List.{flat_map}
use Rattle.ly_base.specs.Limits.{Sizes}
use Rattle.ly_yaccread.specs.Actions.{Making, build}
use Rattle.ly_yaccread.specs.File.{Written}
use Rattle.ly_join.specs.Numbering.{declared_terminals, nonterminals_of, terminals_of}
use Rattle.ly_join.specs.Scanning.{Scanning}
use Rattle.ly_join.specs.Terminals.{TerminalName, token}
use Rattle.ly_join.specs.declared.limit.Limit.{Limit}
use Rattle.ly_join.specs.declared.limit.Limit.TheVariants.{Symbols, Rules, LexRules, Body, Conditions, Name}

-- the greatest of some numbers; 0 if there are none
abbrev pub greatest : List ℕ → ℕ
greatest [] = 0
greatest (n ∷ ns) = max n (greatest ns)

-- the length of a terminal's name in bytes; 0 if it has none
abbrev pub token_length : TerminalName → ℕ
token_length (token n) = length n
token_length _ = 0

-- the length of a rule's constructor in bytes; 0 if it has none
abbrev pub constructor_length : Making → ℕ
constructor_length (build n ps) = length n
constructor_length _ = 0

-- the lengths of the names of tokens, left sides and constructors
abbrev pub name_lengths : Written → List ℕ
name_lengths w = map token_length (flat_map declared_terminals w.preamble.declarations)
    ++ map (λ r. max (length r.left) (constructor_length r.making)) w.rules

-- the count that a limit bounds: the symbols, with `$accept`; the rules of each file; the symbols of the longest body;
-- the conditions; the bytes of the longest name
abbrev pub counted : Limit → Scanning → Written → ℕ
counted Symbols x w = length (terminals_of w) + length (nonterminals_of w) + 1
counted Rules x w = length w.rules
counted LexRules x w = x.rules
counted Body x w = greatest (map (λ r. length r.body) w.rules)
counted Conditions x w = x.conditions
counted Name x w = greatest (name_lengths w)

-- the greatest allowed value of a count
abbrev pub limit_of : Limit → Sizes → ℕ
limit_of Symbols sizes = sizes.symbols
limit_of Rules sizes = sizes.yacc_rules
limit_of LexRules sizes = sizes.lex_rules
limit_of Body sizes = sizes.body_length
limit_of Conditions sizes = sizes.conditions
limit_of Name sizes = sizes.name_length

-- no count is above its limit
abbrev pub IsWithin : Sizes → Scanning → Written → Type 0
IsWithin sizes x w = (which : Limit) → counted which x w ≤ limit_of which sizes
