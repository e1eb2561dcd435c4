-- The bytes of a table set, with numbers of some width. Numbers are unsigned, and their most significant byte comes
-- first.
use Rattle.std.specs.Prelude.{ℕ, ◌+◌, ◌-◌, ◌*◌, ◌^◌, List, [], ◌∷◌, ◌++◌, length, Option, Some, None, codes}
use Rattle.std.specs.List.{flat_map}
use Rattle.std.specs.Int.{Width, w16, w32, byte_len, to_be_bytes}
use Rattle.ly_base.specs.Shape.{Shape, nil, place, node}
use Rattle.ly_base.specs.declared.cut.Cut.{Cut}
use Rattle.ly_base.specs.declared.cut.Cut.TheVariants.{Whole, Head, Tail}
use Rattle.ly_base.specs.declared.scan_action.Emitted.{Emitted}
use Rattle.ly_base.specs.declared.scan_action.Emitted.TheVariants.{Nothing, Terminal, FirstByte}
use Rattle.ly_pack.specs.Machine.{TableAction, TableRule, shift, reduce, accept, error}
use Rattle.ly_pack.specs.Rows.{Comb, Used}
use Rattle.ly_pack.specs.Values.{action_from}
use Rattle.ly_tables.specs.TableSet.{ScanRule, Starts, TableSet}

abbrev pub number : Width → ℕ → List ℕ
number w n = to_be_bytes w n

-- the greatest number of the width, which represents none
abbrev pub none_of : Width → ℕ
none_of w = 2 ^ (8 * byte_len w) - 1

abbrev pub or_none : Width → Option ℕ → List ℕ
or_none w None = number w (none_of w)
or_none w (Some n) = number w n

-- counted from 1, with 0 for none
abbrev pub counted_from_one : Width → Option ℕ → List ℕ
counted_from_one w None = number w 0
counted_from_one w (Some n) = number w (n + 1)

-- unchanged, with 0 for none
abbrev pub or_zero : Width → Option ℕ → List ℕ
or_zero w None = number w 0
or_zero w (Some n) = number w n

-- a string: its length, and its bytes
abbrev pub string : List ℕ → List ℕ
string bytes = to_be_bytes w16 (length bytes) ++ bytes

-- what a rule of the scanner returns: its kind, and its terminal or 0
abbrev pub emitted : Width → Emitted → List ℕ
emitted w Nothing = 0 ∷ number w 0
emitted w (Terminal t) = 1 ∷ number w t.0
emitted w FirstByte = 2 ∷ number w 0

-- a trailing context: its kind, and its length or 0
abbrev pub cut : Width → Cut → List ℕ
cut w Whole = 0 ∷ number w 0
cut w (Head n) = 1 ∷ number w n
cut w (Tail n) = 2 ∷ number w n

abbrev pub scan_rule : Width → ScanRule → List ℕ
scan_rule w r = emitted w r.action.emits ++ or_none w r.action.begin ++ cut w r.cut

abbrev pub starts : Width → Starts → List ℕ
starts w c = or_none w c.elsewhere ++ or_none w c.at_line

-- the tree of a rule of the parser: its kind, the name of its constructor, and places
abbrev pub shape : Shape → List ℕ
shape nil = 0 ∷ string [] ++ 0 ∷ []
shape (place i) = 1 ∷ string [] ++ 1 ∷ i ∷ []
shape (node name places) = 2 ∷ string name ++ length places ∷ places

abbrev pub rule : Width → TableRule → List ℕ
rule w r = number w r.left ++ r.body_length ∷ shape r.shape

-- the number added to the state of a shift: the greatest bit
abbrev pub least_shift : Width → ℕ
least_shift w = 2 ^ (8 * byte_len w - 1)

-- the number added to the rule of a reduction: the next bit
abbrev pub least_reduction : Width → ℕ
least_reduction w = 2 ^ (8 * byte_len w - 2)

-- an action as a number
abbrev pub action_number : Width → TableAction → ℕ
action_number w error = 0
action_number w accept = 1
action_number w (shift s) = least_shift w + s
action_number w (reduce p) = least_reduction w + p

-- the entry of a slot as a number; 0 if it is free
abbrev pub next_of : {E : Type 0} → (E → ℕ) → Option (Used E) → ℕ
next_of code None = 0
next_of code (Some u) = code u.entry

-- the row of a slot
abbrev pub check_of : {E : Type 0} → Width → Option (Used E) → ℕ
check_of w None = none_of w
check_of w (Some u) = u.row

-- a comb: the bases of its rows, the number of slots, their entries, and their rows
abbrev pub comb : {E : Type 0} → Width → (E → ℕ) → Comb E → List ℕ
comb w code c = flat_map (to_be_bytes w32) c.bases ++ to_be_bytes w32 (length c.slots)
    ++ flat_map (λ u. number w (next_of code u)) c.slots ++ flat_map (λ u. number w (check_of w u)) c.slots

-- the sections of the scanner
abbrev pub scanner_sections : Width → TableSet → List ℕ
scanner_sections w s = number w (length s.scan_rules) ++ flat_map (scan_rule w) s.scan_rules
    ++ number w (length s.conditions) ++ flat_map (starts w) s.conditions
    ++ number w s.class_count ++ s.classes
    ++ number w (length s.accepted) ++ flat_map (counted_from_one w) s.accepted
    ++ comb w (λ n. n.0) s.scan_rows

-- the sections of the parser
abbrev pub parser_sections : Width → TableSet → List ℕ
parser_sections w s = number w (length s.rules) ++ flat_map (rule w) s.rules
    ++ number w (length s.defaults) ++ flat_map (or_zero w) s.defaults
    ++ comb w (λ a. action_number w (action_from a)) s.actions
    ++ comb w (λ n. n.0) s.gotos

-- the sections of the symbols: their numbers, the names of terminals, and the terminal of each byte
abbrev pub symbol_sections : Width → TableSet → List ℕ
symbol_sections w s = number w (length s.terminals) ++ number w s.nonterminals ++ flat_map string s.terminals
    ++ flat_map (number w) s.literals

-- `LYTB`, the version, and the sections
abbrev pub spelling : Width → ℕ → TableSet → List ℕ
spelling w version s = codes "LYTB" ++ to_be_bytes w16 version
    ++ symbol_sections w s ++ scanner_sections w s ++ parser_sections w s
