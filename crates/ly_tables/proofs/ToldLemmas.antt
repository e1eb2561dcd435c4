-- What stands behind a file's numbers tells neither apart: each part says by itself where it ends.
use Rattle.std.proofs.Common.{◌≡◌, ◌∙◌, ◌++◌, ℕ, List, [], ◌∷◌, All, ap, ap₂, append_assoc, arith}
use Rattle.std.proofs.Common.{length, refl}
use Rattle.std.proofs.Common.{sym}
use Rattle.std.specs.Int.{Width, w16, w32, from_be_bytes, to_be_bytes}
use Rattle.std.specs.List.{flat_map}
use Rattle.std.proofs.Common.{codes}
use Rattle.std.proofs.lemmas.List.{append_cancel_left}
use Rattle.std.proofs.lemmas.List.Elements.{All-head, All-tail}
use Rattle.std.proofs.lemmas.Nat.{from_be_bytes-to_be_bytes_2, from_be_bytes-to_be_bytes_4}
use Rattle.ly_base.specs.declared.version.Version.{Version}
use Rattle.ly_base.specs.declared.version.Version.TheVariants.{V1, V2}
use Rattle.ly_tables.specs.Laws.{RawIsOne}
use Rattle.ly_tables.specs.Ranges.{width_of}
use Rattle.ly_tables.specs.RawSet.{CombFits, Fits, IsRawSet, IsString, RawComb, RawRule, RawScanRule, RawSet}
use Rattle.ly_tables.specs.RawSet.{RuleFits, ScanRuleFits, StartsFit, raw_comb, raw_parser_sections}
use Rattle.ly_tables.specs.RawSet.{raw_rule}
use Rattle.ly_tables.specs.RawSet.{raw_scan_rule, raw_scanner_sections, raw_spelling, raw_starts, raw_symbol_sections}
use Rattle.ly_tables.specs.Private.Parts.{single}
use Rattle.ly_tables.specs.Spelling.{number, string}

-- values that fit are told by the front of bytes, and so is what is behind them
abbrev pub Told : {V : Type 0} → (V → Type 0) → (V → List ℕ) → Type 0
Told {V} fits spelled = (a b : V) (x y : List ℕ) → fits a → fits b → spelled a ++ x ≡ spelled b ++ y → (a ≡ b) × (x ≡ y)

-- numbers of a width are
abbrev pub AreNumbersTold : Width → Type 0
AreNumbersTold w = Told (Fits w) (number w)

pub shorts_told : AreNumbersTold w16
shorts_told a b x y fit other is =
    let front : number w16 a ≡ number w16 b = cc in
    let behind : x ≡ y = cc in (
      sym (from_be_bytes-to_be_bytes_2 a fit) ∙ ap (from_be_bytes w16) front ∙ from_be_bytes-to_be_bytes_2 b other,
      behind,
    )

pub wides_told : AreNumbersTold w32
wides_told a b x y fit other is =
    let front : number w32 a ≡ number w32 b = cc in
    let behind : x ≡ y = cc in (
      sym (from_be_bytes-to_be_bytes_4 a fit) ∙ ap (from_be_bytes w32) front ∙ from_be_bytes-to_be_bytes_4 b other,
      behind,
    )

-- numbers of a version are
pub numbers_told : (v : Version) → AreNumbersTold (width_of v)
numbers_told V1 = shorts_told
numbers_told V2 = wides_told

-- a byte
byte_told : (a b : ℕ) (x y : List ℕ) → a ∷ x ≡ b ∷ y → (a ≡ b) × (x ≡ y)
byte_told a b x y is = (cc, cc)

-- as many bytes
bytes_told : (cs bs x y : List ℕ) → length cs ≡ length bs → cs ++ x ≡ bs ++ y → (cs ≡ bs) × (x ≡ y)
bytes_told [] [] x y long is = (refl, is)
bytes_told [] (b ∷ bs) x y long is = absurd (omega (arith, long))
bytes_told (a ∷ cs) [] x y long is = absurd (omega (arith, long))
bytes_told (a ∷ cs) (b ∷ bs) x y long is =
    let first = byte_told a b (cs ++ x) (bs ++ y) is in
    let rest = bytes_told cs bs x y (omega (arith, long)) first.1 in
    (ap₂ (λ u us. u ∷ us) first.0 rest.0, rest.1)

-- as many values
list_told : {V : Type 0} (fits : V → Type 0) (spelled : V → List ℕ) → Told fits spelled
    → (cs bs : List V) (x y : List ℕ)
    → length cs ≡ length bs → All fits cs → All fits bs → flat_map spelled cs ++ x ≡ flat_map spelled bs ++ y
    → (cs ≡ bs) × (x ≡ y)
list_told fits spelled told [] [] x y long all other is = (refl, is)
list_told fits spelled told [] (b ∷ bs) x y long all other is = absurd (omega (arith, long))
list_told fits spelled told (a ∷ cs) [] x y long all other is = absurd (omega (arith, long))
list_told fits spelled told (a ∷ cs) (b ∷ bs) x y long all other is =
    let first = told a b (flat_map spelled cs ++ x) (flat_map spelled bs ++ y) (All-head fits a cs all)
    (All-head fits b bs other) (sym (append_assoc (spelled a) (flat_map spelled cs) x) ∙ is
    ∙ append_assoc (spelled b) (flat_map spelled bs) y) in
    let rest = list_told fits spelled told cs bs x y (omega (arith, long)) (All-tail fits a cs all)
    (All-tail fits b bs other) first.1 in
    (ap₂ (λ u us. u ∷ us) first.0 rest.0, rest.1)

string_told : Told IsString string
string_told a b x y fit other is =
    let count = shorts_told (length a) (length b) (a ++ x) (b ++ y) fit.0 other.0 is in
    bytes_told a b x y count.0 count.1

-- lists one behind another, from the front
regroup_four : (a b c d x : List ℕ) → (((a ++ b) ++ c) ++ d) ++ x ≡ a ++ (b ++ (c ++ (d ++ x)))
regroup_four a b c d x = simp append_assoc

regroup_five : (a b c d e x : List ℕ) → (((a ++ b) ++ c) ++ (d ++ e)) ++ x ≡ a ++ (b ++ (c ++ (d ++ (e ++ x))))
regroup_five a b c d e x = simp append_assoc

regroup_rule : (a b c d e x : List ℕ) → ((a ++ (b ++ c)) ++ (d ++ e)) ++ x ≡ a ++ (b ++ (c ++ (d ++ (e ++ x))))
regroup_rule a b c d e x = simp append_assoc

regroup_six : (a b c d e f x : List ℕ)
    → (((((a ++ b) ++ c) ++ d) ++ e) ++ f) ++ x ≡ a ++ (b ++ (c ++ (d ++ (e ++ (f ++ x)))))
regroup_six a b c d e f x = simp append_assoc

regroup_nine : (a b c d e f g h k x : List ℕ) → ((((((((a ++ b) ++ c) ++ d) ++ e) ++ f) ++ g) ++ h) ++ k) ++ x
    ≡ a ++ (b ++ (c ++ (d ++ (e ++ (f ++ (g ++ (h ++ (k ++ x))))))))
regroup_nine a b c d e f g h k x = simp append_assoc

-- the fields of records
split_scan_rule : (w : Width) (r : RawScanRule) (x : List ℕ) → raw_scan_rule w r ++ x
    ≡ r.kind ∷ (number w r.terminal ++ (number w r.begin ++ (r.cut ∷ (number w r.len ++ x))))
split_scan_rule w r x = regroup_five (single r.kind) (number w r.terminal) (number w r.begin) (single r.cut)
    (number w r.len) x

scan_rule_told : (w : Width) → AreNumbersTold w → Told (ScanRuleFits w) (raw_scan_rule w)
scan_rule_told w told a b x y fit other is =
    let kind = byte_told a.kind b.kind _ _ (sym (split_scan_rule w a x) ∙ is ∙ split_scan_rule w b y) in
    let terminal = told a.terminal b.terminal _ _ fit.terminal other.terminal kind.1 in
    let begin = told a.begin b.begin _ _ fit.begin other.begin terminal.1 in
    let cut = byte_told a.cut b.cut _ _ begin.1 in
    let len = told a.len b.len _ _ fit.len other.len cut.1 in (
      (λ i. record {
        kind = kind.0 i;
        terminal = terminal.0 i;
        begin = begin.0 i;
        cut = cut.0 i;
        len = len.0 i;
      }),
      len.1,
    )

starts_told : (w : Width) → AreNumbersTold w → Told (StartsFit w) (raw_starts w)
starts_told w told a b x y fit other is =
    let elsewhere = told a.elsewhere b.elsewhere _ _ fit.elsewhere other.elsewhere
    (sym (append_assoc (number w a.elsewhere) (number w a.at_line) x) ∙ is
    ∙ append_assoc (number w b.elsewhere) (number w b.at_line) y) in
    let at_line = told a.at_line b.at_line _ _ fit.at_line other.at_line elsewhere.1 in
    ((λ i. record { elsewhere = elsewhere.0 i; at_line = at_line.0 i }), at_line.1)

split_rule : (w : Width) (r : RawRule) (x : List ℕ) → raw_rule w r ++ x
    ≡ number w r.left ++ (r.body_length ∷ r.kind ∷ (string r.name ++ (length r.places ∷ (r.places ++ x))))
split_rule w r x = regroup_rule (number w r.left) (r.body_length ∷ r.kind ∷ []) (string r.name)
    (single (length r.places)) r.places x

rule_told : (w : Width) → AreNumbersTold w → Told (RuleFits w) (raw_rule w)
rule_told w told a b x y fit other is =
    let left = told a.left b.left _ _ fit.left other.left (sym (split_rule w a x) ∙ is ∙ split_rule w b y) in
    let body_length = byte_told a.body_length b.body_length _ _ left.1 in
    let kind = byte_told a.kind b.kind _ _ body_length.1 in
    let name = string_told a.name b.name _ _ fit.name other.name kind.1 in
    let count = byte_told (length a.places) (length b.places) _ _ name.1 in
    let places = bytes_told a.places b.places x y count.0 count.1 in (
      (λ i. record {
        left = left.0 i;
        body_length = body_length.0 i;
        kind = kind.0 i;
        name = name.0 i;
        places = places.0 i;
      }),
      places.1,
    )

split_comb : (w : Width) (c : RawComb) (x : List ℕ) → raw_comb w c ++ x ≡ flat_map (to_be_bytes w32) c.bases
    ++ (to_be_bytes w32 (length c.entries) ++ (flat_map (number w) c.entries ++ (flat_map (number w) c.rows ++ x)))
split_comb w c x = regroup_four (flat_map (to_be_bytes w32) c.bases) (to_be_bytes w32 (length c.entries))
    (flat_map (number w) c.entries) (flat_map (number w) c.rows) x

comb_told : (w : Width) → AreNumbersTold w → (n m : ℕ) → n ≡ m → (a b : RawComb) (x y : List ℕ) → CombFits w n a
    → CombFits w m b → raw_comb w a ++ x ≡ raw_comb w b ++ y → (a ≡ b) × (x ≡ y)
comb_told w told n m same a b x y fit other is =
    let bases = list_told (Fits w32) (to_be_bytes w32) wides_told a.bases b.bases _ _
    (fit.count ∙ same ∙ sym other.count) fit.bases other.bases (sym (split_comb w a x) ∙ is ∙ split_comb w b y) in
    let count = wides_told (length a.entries) (length b.entries) _ _ fit.slots other.slots bases.1 in
    let entries = list_told (Fits w) (number w) told a.entries b.entries _ _ count.0 fit.entries other.entries
    count.1 in
    let rows = list_told (Fits w) (number w) told a.rows b.rows x y
    (fit.row_count ∙ count.0 ∙ sym other.row_count) fit.rows other.rows entries.1 in
    ((λ i. record { bases = bases.0 i; entries = entries.0 i; rows = rows.0 i }), rows.1)

-- the sections of the symbols
split_symbols : (w : Width) (r : RawSet) (x : List ℕ) → raw_symbol_sections w r ++ x ≡ number w (length r.terminals)
    ++ (number w r.nonterminals ++ (flat_map string r.terminals ++ (flat_map (number w) r.literals ++ x)))
split_symbols w r x = regroup_four (number w (length r.terminals)) (number w r.nonterminals)
    (flat_map string r.terminals) (flat_map (number w) r.literals) x

symbols_told : (w : Width) → AreNumbersTold w → (a b : RawSet) (x y : List ℕ) → IsRawSet w a → IsRawSet w b
    → raw_symbol_sections w a ++ x ≡ raw_symbol_sections w b ++ y
    → (a.nonterminals ≡ b.nonterminals) × (a.terminals ≡ b.terminals) × (a.literals ≡ b.literals) × (x ≡ y)
symbols_told w told a b x y fit other is =
    let count = told (length a.terminals) (length b.terminals) _ _ fit.terminal_count other.terminal_count
    (sym (split_symbols w a x) ∙ is ∙ split_symbols w b y) in
    let nonterminals = told a.nonterminals b.nonterminals _ _ fit.nonterminals other.nonterminals count.1 in
    let names = list_told IsString string string_told a.terminals b.terminals _ _ count.0 fit.terminals
    other.terminals nonterminals.1 in
    let literals = list_told (Fits w) (number w) told a.literals b.literals x y
    (fit.literal_count ∙ sym other.literal_count) fit.literals other.literals names.1 in
    (nonterminals.0, names.0, literals.0, literals.1)

-- those of the scanner
split_scanner : (w : Width) (r : RawSet) (x : List ℕ) → raw_scanner_sections w r ++ x ≡ number w (length r.scan_rules)
    ++ (flat_map (raw_scan_rule w) r.scan_rules ++ (number w (length r.conditions)
    ++ (flat_map (raw_starts w) r.conditions ++ (number w r.class_count ++ (r.classes ++ (number w (length r.accepted)
    ++ (flat_map (number w) r.accepted ++ (raw_comb w r.scan_rows ++ x))))))))
split_scanner w r x = regroup_nine (number w (length r.scan_rules)) (flat_map (raw_scan_rule w) r.scan_rules)
    (number w (length r.conditions)) (flat_map (raw_starts w) r.conditions) (number w r.class_count) r.classes
    (number w (length r.accepted)) (flat_map (number w) r.accepted) (raw_comb w r.scan_rows) x

scanner_told : (w : Width) → AreNumbersTold w → (a b : RawSet) (x y : List ℕ) → IsRawSet w a → IsRawSet w b
    → raw_scanner_sections w a ++ x ≡ raw_scanner_sections w b ++ y
    → (a.scan_rules ≡ b.scan_rules) × (a.conditions ≡ b.conditions) × (a.class_count ≡ b.class_count)
    × (a.classes ≡ b.classes) × (a.accepted ≡ b.accepted) × (a.scan_rows ≡ b.scan_rows) × (x ≡ y)
scanner_told w told a b x y fit other is =
    let rule_count = told (length a.scan_rules) (length b.scan_rules) _ _ fit.scan_rule_count other.scan_rule_count
    (sym (split_scanner w a x) ∙ is ∙ split_scanner w b y) in
    let rules = list_told (ScanRuleFits w) (raw_scan_rule w) (scan_rule_told w told) a.scan_rules b.scan_rules _ _
    rule_count.0 fit.scan_rules other.scan_rules rule_count.1 in
    let condition_count = told (length a.conditions) (length b.conditions) _ _ fit.condition_count
    other.condition_count rules.1 in
    let conditions = list_told (StartsFit w) (raw_starts w) (starts_told w told) a.conditions b.conditions _ _
    condition_count.0 fit.conditions other.conditions condition_count.1 in
    let class_count = told a.class_count b.class_count _ _ fit.class_count other.class_count conditions.1 in
    let classes = bytes_told a.classes b.classes _ _ (fit.all_classes ∙ sym other.all_classes) class_count.1 in
    let states = told (length a.accepted) (length b.accepted) _ _ fit.scan_states other.scan_states classes.1 in
    let accepted = list_told (Fits w) (number w) told a.accepted b.accepted _ _ states.0 fit.accepted other.accepted
    states.1 in
    let rows = comb_told w told (length a.accepted) (length b.accepted) states.0 a.scan_rows b.scan_rows x y
    fit.scan_rows other.scan_rows accepted.1 in
    (rules.0, conditions.0, class_count.0, classes.0, accepted.0, rows.0, rows.1)

-- those of the parser
split_parser : (w : Width) (r : RawSet) (x : List ℕ) → raw_parser_sections w r ++ x ≡ number w (length r.rules)
    ++ (flat_map (raw_rule w) r.rules ++ (number w (length r.defaults) ++ (flat_map (number w) r.defaults
    ++ (raw_comb w r.actions ++ (raw_comb w r.gotos ++ x)))))
split_parser w r x = regroup_six (number w (length r.rules)) (flat_map (raw_rule w) r.rules)
    (number w (length r.defaults)) (flat_map (number w) r.defaults) (raw_comb w r.actions) (raw_comb w r.gotos) x

parser_told : (w : Width) → AreNumbersTold w → (a b : RawSet) (x y : List ℕ) → IsRawSet w a → IsRawSet w b
    → raw_parser_sections w a ++ x ≡ raw_parser_sections w b ++ y
    → (a.rules ≡ b.rules) × (a.defaults ≡ b.defaults) × (a.actions ≡ b.actions) × (a.gotos ≡ b.gotos) × (x ≡ y)
parser_told w told a b x y fit other is =
    let rule_count = told (length a.rules) (length b.rules) _ _ fit.rule_count other.rule_count
    (sym (split_parser w a x) ∙ is ∙ split_parser w b y) in
    let rules = list_told (RuleFits w) (raw_rule w) (rule_told w told) a.rules b.rules _ _ rule_count.0 fit.rules
    other.rules rule_count.1 in
    let states = told (length a.defaults) (length b.defaults) _ _ fit.states other.states rules.1 in
    let defaults = list_told (Fits w) (number w) told a.defaults b.defaults _ _ states.0 fit.defaults other.defaults
    states.1 in
    let actions = comb_told w told (length a.defaults) (length b.defaults) states.0 a.actions b.actions _ _
    fit.actions other.actions defaults.1 in
    let gotos = comb_told w told (length a.defaults) (length b.defaults) states.0 a.gotos b.gotos x y
    fit.gotos other.gotos actions.1 in
    (rules.0, defaults.0, actions.0, gotos.0, gotos.1)

-- a file of some numbers is no beginning of one of others
pub raw_is_one : (w : Width) → AreNumbersTold w → RawIsOne w
raw_is_one w told version a b x y fit other is =
    let heading : List ℕ = codes "LYTB" ++ to_be_bytes w16 version in
    let from_front : (r : RawSet) (z : List ℕ) → raw_spelling w version r ++ z ≡ heading
    ++ (raw_symbol_sections w r ++ (raw_scanner_sections w r ++ (raw_parser_sections w r ++ z)))
    = λ r z. regroup_four heading (raw_symbol_sections w r) (raw_scanner_sections w r) (raw_parser_sections w r) z in
    let symbols = symbols_told w told a b _ _ fit other (append_cancel_left heading _ _
    (sym (from_front a x) ∙ is ∙ from_front b y)) in
    let scanner = scanner_told w told a b _ _ fit other symbols.3 in
    let parser = parser_told w told a b x y fit other scanner.6 in (
      (λ i. record {
        nonterminals = symbols.0 i;
        terminals = symbols.1 i;
        literals = symbols.2 i;
        scan_rules = scanner.0 i;
        conditions = scanner.1 i;
        class_count = scanner.2 i;
        classes = scanner.3 i;
        accepted = scanner.4 i;
        scan_rows = scanner.5 i;
        rules = parser.0 i;
        defaults = parser.1 i;
        actions = parser.2 i;
        gotos = parser.3 i;
      }),
      parser.4,
    )
