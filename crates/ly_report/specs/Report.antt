-- The content of a report: the removed rules, and the conflicts (POSIX, XCU yacc, "Conflicts").
use Rattle.std.specs.Prelude.{◌≡◌, ◌↔◌, ℕ, ◌≤◌, ◌<◌, List, [], ◌∷◌, ◌++◌, Bool, true, false, Option, Some, length}
use Rattle.std.specs.Prelude.{codes}
use Rattle.std.specs.Prelude.{map, reverse, slice_get, option_map, unwrap_or, AllPairs, Contains, flat_map}
use Rattle.std.specs.List.{count_by}
use Rattle.std.specs.Fmt.{decimal}
use Rattle.ly_base.specs.Bytes.{newline, space}
use Rattle.ly_print.specs.Text as text
use Rattle.ly_join.specs.Grammar.{Grammar, IsRule, GrammarRule, Symbol, nonterminal, terminal}
use Rattle.ly_join.specs.Joined.{Spec}
use Rattle.ly_join.specs.Terminals.{TerminalName, byte, end, token, undefined}
use Rattle.ly_grammar.specs.Derivations.{IsUseful}
use Rattle.ly_grammar.specs.Reduction.{KeepsUseful}
use Rattle.ly_resolve.specs.Actions.{Action, error, reduce, shift}
use Rattle.ly_resolve.specs.Conflicts.{AreConflicts, Conflict, Kind, reduce_reduce, shift_reduce}
use Rattle.ly_resolve.specs.Precedence.{judge_of}

-- a terminal as it is printed
abbrev pub terminal_name : TerminalName → List ℕ
terminal_name end = codes "$end"
terminal_name undefined = codes "$undef"
terminal_name (token name) = text.name_of (text.token name)
terminal_name (byte b) = text.name_of (text.literal b)

-- a symbol as it is printed: a terminal, or a nonterminal by its name
abbrev pub symbol_name : Spec → Symbol → List ℕ
symbol_name s (terminal t) = unwrap_or (option_map terminal_name (slice_get s.terminals t)) []
symbol_name s (nonterminal A) = unwrap_or (slice_get s.nonterminals A) []

-- a space before each of the names
abbrev pub behind_spaces : List (List ℕ) → List ℕ
behind_spaces names = flat_map (λ name. space ∷ name) names

-- a space between each two of the names
abbrev pub spaced : List (List ℕ) → List ℕ
spaced [] = []
spaced (name ∷ names) = name ++ behind_spaces names

-- a rule as it is printed
abbrev pub rule_text : Spec → Option (Option GrammarRule) → List ℕ
rule_text s (Some (Some r)) = symbol_name s (nonterminal r.left) ++ codes " :" ++ behind_spaces
    (map (symbol_name s) r.body)
rule_text s _ = []

-- the line of a removed rule
abbrev pub removed_line : Spec → ℕ → List ℕ
removed_line s p = codes "removed rule " ++ (decimal p ++ (codes ": " ++ (rule_text s (slice_get s.grammar.rules p)
    ++ newline ∷ [])))

-- the line with the number of removed rules
abbrev pub removed_count : ℕ → List ℕ
removed_count n = codes "removed rules: " ++ (decimal n ++ newline ∷ [])

-- the number of removed rules, and a line for each
abbrev pub removed_text : Spec → List ℕ → List ℕ
removed_text s removed = removed_count (length removed) ++ flat_map (removed_line s) removed

-- the printed name of a kind of conflict
abbrev pub kind_name : Kind → List ℕ
kind_name shift_reduce = codes "shift/reduce"
kind_name reduce_reduce = codes "reduce/reduce"

-- whether two kinds are the same
abbrev pub same_kind : Kind → Kind → Bool
same_kind shift_reduce shift_reduce = true
same_kind reduce_reduce reduce_reduce = true
same_kind _ _ = false

-- the number of kinds in the list that are this one
abbrev pub count_of : Kind → List Kind → ℕ
count_of kind kinds = count_by (same_kind kind) kinds

-- the printed form of an action
abbrev pub action_text : Action → List ℕ
action_text shift = codes "shift"
action_text (reduce p) = codes "rule " ++ decimal p
action_text error = codes "error"

-- the chosen action, and the rule that isn't chosen
abbrev pub choice_text : Action → ℕ → List ℕ
choice_text choice p = codes ": " ++ action_text choice ++ codes ", not rule " ++ decimal p ++ newline ∷ []

-- the kind of a conflict and where it is: after these symbols, before the terminal
abbrev pub place_text : Spec → Kind → List Symbol → ℕ → List ℕ
place_text s kind w t = kind_name kind ++ codes " after [" ++ spaced (map (symbol_name s) w) ++ codes "] before "
    ++ symbol_name s (terminal t)

-- the line of a conflict; a prefix has its last symbol first
abbrev pub conflict_line : Spec → Conflict → List ℕ
conflict_line s c = place_text s c.kind (reverse c.prefix) c.terminal ++ choice_text c.choice c.rule

-- the line with these numbers of conflicts of each kind
abbrev pub counts_line : ℕ → ℕ → List ℕ
counts_line shifts reductions = codes "conflicts: " ++ (decimal shifts ++ (codes " shift/reduce, "
    ++ (decimal reductions ++ (codes " reduce/reduce" ++ newline ∷ []))))

-- the number of each kind
abbrev pub counts_text : List Kind → List ℕ
counts_text kinds = counts_line (count_of shift_reduce kinds) (count_of reduce_reduce kinds)

-- the number of conflicts, and a line for each
abbrev pub conflicts_text : Spec → List Conflict → List ℕ
conflicts_text s conflicts = counts_text (map (λ c. c.kind) conflicts) ++ flat_map (conflict_line s) conflicts

-- rule p, and not rule 0, occurs in no tree of the start symbol
abbrev pub IsRemoved : Grammar → ℕ → Type 0
IsRemoved G p = (r : GrammarRule) × IsRule G p r × (1 ≤ p) × (IsUseful G p → ⊥)

-- All removed rules, in rising order.
pub record AreRemoved (G : Grammar) (removed : List ℕ) : Type 0 where
  pub are : (p : ℕ) → Contains removed p ↔ IsRemoved G p
  pub rising : AllPairs (λ p q. p < q) removed

-- The bytes are the report of the specification: the removed rules, and the conflicts of the grammar of the others.
pub record IsReport (s : Spec) (bytes : List ℕ) : Type 0 where
  pub removed : List ℕ
  pub are_removed : AreRemoved s.grammar removed
  pub useful : Grammar
  pub are_useful : KeepsUseful s.grammar useful
  pub conflicts : List Conflict
  pub are_conflicts : AreConflicts useful (judge_of s) conflicts
  pub are : bytes ≡ removed_text s removed ++ conflicts_text s conflicts
