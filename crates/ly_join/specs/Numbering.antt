-- The symbols of a yacc file, numbered by their first appearance (POSIX, XCU yacc).
use Rattle.std.specs.Prelude.{ℕ, List, [], ◌∷◌, ◌++◌, Bool, not, filter, map, Contains, Option, Some, None}
use Rattle.std.specs.List.{filter_map, flat_map}
use Rattle.std.specs.Option.{option_to_list}
use Rattle.std.specs.Str.{bytes_eq}
use Rattle.ly_yaccread.specs.Declarations.{Declared}
use Rattle.ly_yaccread.specs.File.{Written}
use Rattle.ly_yaccread.specs.Rules.{Ruling}
use Rattle.ly_join.specs.Terminals.{TerminalName, end, undefined, token, literal_in, same_terminal, terminal_in}

-- the elements of a list, each once, in the order of their first appearance: the first, and then those of the rest that
-- differ from it
abbrev pub first_appearances : {X : Type 0} → (X → X → Bool) → List X → List X
first_appearances same [] = []
first_appearances same (x ∷ xs) = x ∷ filter (λ y. not (same x y)) (first_appearances same xs)

-- the terminals that a declaration names
abbrev pub declared_terminals : Declared → List TerminalName
declared_terminals d = filter_map terminal_in d.symbols

-- the literals of a rule: those of its body, and the one after its `%prec`
abbrev pub rule_literals : Ruling → List TerminalName
rule_literals r = filter_map literal_in (r.body ++ option_to_list r.precedence)

-- The terminals in the order of the text: those of the declarations, and the literals of the rules. A name in a rule is
-- a token only if a declaration names it.
abbrev pub appearing : Written → List TerminalName
appearing w = flat_map declared_terminals w.preamble.declarations ++ flat_map rule_literals w.rules

-- the terminals by number: the end of the text, `$undef`, and the others by first appearance
abbrev pub terminals_of : Written → List TerminalName
terminals_of w = first_appearances same_terminal (end ∷ undefined ∷ appearing w)

-- the left sides in the order of the text
abbrev pub left_sides : Written → List (List ℕ)
left_sides w = map (λ r. r.left) w.rules

-- the nonterminals by number, in the order of their first left sides
abbrev pub nonterminals_of : Written → List (List ℕ)
nonterminals_of w = first_appearances bytes_eq (left_sides w)

-- a name is a token: a declaration names it
abbrev pub IsToken : Written → List ℕ → Type 0
IsToken w n = Contains (appearing w) (token n)

-- a name is a nonterminal: it is a left side
abbrev pub IsNonterminal : Written → List ℕ → Type 0
IsNonterminal w n = Contains (left_sides w) n

-- the name of the start symbol: the one after `%start`, or else the first left side
abbrev pub start_name : Option (List ℕ) → List Ruling → Option (List ℕ)
start_name (Some n) rules = Some n
start_name None [] = None
start_name None (r ∷ rules) = Some r.left
