-- What the methods of a page append. The value of a page is its bytes so far, or `None` once an allocation failed.
use Rattle.std.specs.Prelude.{◌≡◌, ℕ, List, [], ◌∷◌, ◌++◌, Option, Some, None, map, take, drop, nat_lt, ◌==◌}
use Rattle.std.specs.Prelude.{option_map, unwrap_or, slice_get, OnSome, IfSome, if◌then◌else◌, codes}
use Rattle.std.specs.Fmt.{decimal}
use Rattle.std.specs.Option.{option_and_then}
use Rattle.ly_base.specs.Bytes.{single_quote, space}
use Rattle.ly_base.specs.declared.location.Location.{Location}
use Rattle.ly_join.specs.Grammar.{GrammarRule, Symbol, nonterminal, terminal}
use Rattle.ly_join.specs.Joined.{Spec}
use Rattle.ly_print.specs.Text.{escaped}
use Rattle.ly_report.specs.Report.{behind_spaces, symbol_name}

-- a page with these bytes appended
abbrev pub behind : Option (List ℕ) → List ℕ → Option (List ℕ)
behind buffer bytes = option_map (λ text. text ++ bytes) buffer

-- These bytes are appended: if no allocation has failed by the end, none had failed before, and the bytes follow the
-- earlier ones.
abbrev pub Says : Option (List ℕ) → List ℕ → Option (List ℕ) → Type 0
Says old bytes new = OnSome new (new ≡ behind old bytes)

-- some bytes are appended
abbrev pub SaysMore : Option (List ℕ) → Option (List ℕ) → Type 0
SaysMore old new = OnSome new ((bytes : List ℕ) × (new ≡ behind old bytes))

-- the bytes that a value prints are appended; they are these, if it is known which
abbrev pub SaysPrinted : Option (List ℕ) → Option (List ℕ) → Option (List ℕ) → Type 0
SaysPrinted old printed new = OnSome new
    ((bytes : List ℕ) × (new ≡ behind old bytes) × IfSome printed (λ known. bytes ≡ known))

-- a number and its singular or plural
abbrev pub counted : ℕ → List ℕ → List ℕ → List ℕ
counted n one many = decimal n ++ space ∷ (if n == 1 then one else many)

-- bytes in single quotes, escaped
abbrev pub quoted_words : List ℕ → List ℕ
quoted_words bytes = single_quote ∷ (escaped single_quote bytes ++ single_quote ∷ [])

-- `file:line: `
abbrev pub line_of : List ℕ → ℕ → List ℕ
line_of name line = name ++ codes ":" ++ decimal line ++ codes ": "

-- `file:line:column: `
abbrev pub location_in : List ℕ → Location → List ℕ
location_in name at = name ++ codes ":" ++ decimal at.line ++ codes ":" ++ decimal at.column ++ codes ": "

-- the name of a symbol; the nonterminal of the whole text, which only rule 0 has, has no name in the file
abbrev pub symbol_words : Spec → Symbol → List ℕ
symbol_words s (terminal t) = symbol_name s (terminal t)
symbol_words s (nonterminal A) =
    if nat_lt A s.grammar.accept then symbol_name s (nonterminal A) else codes "$accept"

-- the names of symbols, each after a space
abbrev pub spaced_words : Spec → List Symbol → List ℕ
spaced_words s symbols = behind_spaces (map (symbol_words s) symbols)

-- the body of a rule, with a dot after this many symbols if a number is given
abbrev pub body_words : Spec → List Symbol → Option ℕ → List ℕ
body_words s body None = spaced_words s body
body_words s body (Some dot) = spaced_words s (take dot body) ++ codes " ." ++ spaced_words s (drop dot body)

-- a rule and its dot
abbrev pub rule_words : Spec → Option ℕ → GrammarRule → List ℕ
rule_words s dot r = symbol_words s (nonterminal r.left) ++ codes " :" ++ body_words s r.body dot

-- the rule with a number, or nothing if no rule has it
abbrev pub numbered_words : Spec → ℕ → Option ℕ → List ℕ
numbered_words s p dot =
    unwrap_or (option_map (rule_words s dot) (option_and_then (λ r. r) (slice_get s.grammar.rules p))) []
