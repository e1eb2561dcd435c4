-- The three parts of a table file, as chains of lists and numbers.
use Rattle.std.proofs.Common.{◌≡◌, ◌∙◌, ◌++◌, ℕ, List, [], All, ap, ap₂, append_assoc, append-nil, arith}
use Rattle.std.proofs.Common.{Global, Vec, length, map, refl, replicate, subst, sym}
use Rattle.std.specs.Int.{Width, w32}
use Rattle.std.specs.List.{flat_map}
use Rattle.std.proofs.lemmas.List.{length-map, length-replicate}
use Rattle.std.proofs.lemmas.List.Elements.{All-map, All-nil, All-replicate}
use Rattle.std.proofs.lemmas.List.Folds.{flat_map-map}
use Rattle.ly_tables.proofs.ChainLemmas.{AreNumbers, NumberThen, RowsText, some_number_then, some_rows}
use Rattle.ly_tables.proofs.BeginningLemmas.{repeated_part, some_bytes}
use Rattle.ly_tables.specs.Private.Found.{IsThere, zero_fits}
use Rattle.ly_tables.specs.Private.Parts.{AreBytes, Counted, IsCombText, Spells, Then}
use Rattle.ly_tables.specs.Private.RawParts.{AreSymbolsText, DoSymbolsFit, DoesParserFit, DoesScannerFit, IsParserText}
use Rattle.ly_tables.specs.Private.RawParts.{IsScannerText, of_parser, of_scanner, of_symbols}
use Rattle.ly_tables.specs.RawSet.{CombFits, Fits, IsByte, IsString, RawComb, RawRule, RawScanRule, RawStarts}
use Rattle.ly_tables.specs.RawSet.{RuleFits, ScanRuleFits, StartsFit, raw_comb, raw_parser_sections, raw_rule}
use Rattle.ly_tables.specs.RawSet.{raw_scan_rule, raw_scanner_sections, raw_starts, raw_symbol_sections}
use Rattle.ly_tables.specs.Spelling.{number, string}

-- values that fit, and no more than are counted
abbrev pub AreCounted : {V : Type 0} → Width → (V → Type 0) → List V → Type 0
AreCounted w fits vs = Fits w (length vs) × All fits vs

-- how many values there are, and their bytes
abbrev pub counted_bytes : {V : Type 0} → Width → (V → List ℕ) → List V → List ℕ
counted_bytes w spelled vs = number w (length vs) ++ flat_map spelled vs

pub counted_part : {V : Type 0} (w : Width) (fits : V → Type 0) (spelled : V → List ℕ) (bytes : List ℕ)
    → Counted w (Spells fits spelled) bytes → Spells (AreCounted w fits) (counted_bytes w spelled) bytes
counted_part {V} w fits spelled bytes counted =
    let row = repeated_part fits spelled counted.value counted.rest counted.follows in
    record {
      value = row.value;
      fit = (subst (Fits w) (sym row.fit.0) counted.fit, row.fit.1);
      is = counted.is ∙ ap₂ (λ n x. number w n ++ x) (sym row.fit.0) row.is;
    }

-- so many bytes are what they spell
pub bytes_part : (n : ℕ) (bytes : List ℕ) → AreBytes n bytes → Spells (AreBytes n) (λ bs. bs) bytes
bytes_part n bytes all = record { value = bytes; fit = all; is = refl }

-- what memory holds stands for values that fit
pub counted_values : {A B : Type 0} (w : Width) (fits : B → Type 0) (spelled : B → List ℕ) (value : A → B) (xs : List A)
    (left behind : List ℕ) → Fits w (length xs) → All (λ x. fits (value x)) xs
    → left ≡ (number w (length xs) ++ flat_map (λ x. spelled (value x)) xs) ++ behind
    → AreCounted w fits (map value xs) × (left ≡ counted_bytes w spelled (map value xs) ++ behind)
counted_values w fits spelled value xs left behind count all is = (
  (subst (Fits w) (sym (length-map xs value)) count, All-map fits value xs all),
  is ∙ ap₂ (λ n x. (number w n ++ x) ++ behind) (sym (length-map xs value)) (sym (flat_map-map spelled value xs)),
)

-- and for names
pub named : (texts : List (Vec ℕ Global)) {count : ℕ} (left behind : List ℕ) → length texts ≡ count
    → All (λ text. IsString text.items) texts → left ≡ flat_map (λ text. string text.items) texts ++ behind
    → ((length (map (λ (text : Vec ℕ Global). text.items) texts) ≡ count)
    × All IsString (map (λ (text : Vec ℕ Global). text.items) texts))
    × (left ≡ flat_map string (map (λ (text : Vec ℕ Global). text.items) texts) ++ behind)
named texts {count} left behind long all is = (
  (
    length-map texts (λ (text : Vec ℕ Global). text.items) ∙ long,
    All-map IsString (λ (text : Vec ℕ Global). text.items) texts all,
  ),
  is ∙ ap (λ x. x ++ behind) (sym (flat_map-map string (λ (text : Vec ℕ Global). text.items) texts)),
)

-- lists one behind another
pub four_apart : {whole l1 l2 l3 : List ℕ} (l4 : List ℕ) (a b c d : List ℕ) → whole ≡ a ++ l1 → l1 ≡ b ++ l2
    → l2 ≡ c ++ l3
    → l3 ≡ d ++ l4 → whole ≡ (((a ++ b) ++ c) ++ d) ++ l4
four_apart {whole} {l1} {l2} {l3} l4 a b c d first second third last =
    let all : whole ≡ a ++ (b ++ (c ++ (d ++ l4))) = cc in all ∙ simp append_assoc

parser_apart : {whole l1 l2 l3 : List ℕ} (l4 : List ℕ) (a n b c d : List ℕ) → whole ≡ a ++ l1
    → l1 ≡ (n ++ b) ++ l2 → l2 ≡ c ++ l3
    → l3 ≡ d ++ l4 → whole ≡ ((((a ++ n) ++ b) ++ c) ++ d) ++ l4
parser_apart {whole} {l1} {l2} {l3} l4 a n b c d first second third last =
    let all : whole ≡ a ++ ((n ++ b) ++ (c ++ (d ++ l4))) = cc in all ∙ simp append_assoc

scanner_apart : {whole l1 l2 l3 l4 l5 : List ℕ} (l6 : List ℕ) (a n b c d m e f : List ℕ) → whole ≡ a ++ l1
    → l1 ≡ (n ++ b) ++ l2 → l2 ≡ c ++ l3 → l3 ≡ d ++ l4 → l4 ≡ (m ++ e) ++ l5 → l5 ≡ f ++ l6
    → whole ≡ (((((((a ++ n) ++ b) ++ c) ++ d) ++ m) ++ e) ++ f) ++ l6
scanner_apart {whole} {l1} {l2} {l3} {l4} {l5} l6 a n b c d m e f first second third fourth fifth last =
    let all : whole ≡ a ++ ((n ++ b) ++ (c ++ (d ++ ((m ++ e) ++ (f ++ l6))))) = cc in all ∙ simp append_assoc

-- what is the last has nothing behind it
pub ended : {x y : List ℕ} → x ≡ y → x ≡ y ++ []
ended {x} {y} e = e ∙ sym (append-nil y)

-- the numbers of the symbols fit, and their bytes
pub symbols_fit : (w : Width) (t n : ℕ) (names : List (List ℕ)) (literals : List ℕ) → Fits w t → Fits w n
    → (length names ≡ t) × All IsString names → AreNumbers w 256 literals → DoSymbolsFit w (of_symbols n names literals)
symbols_fit w t n names literals count left all small = record {
  terminal_count = subst (Fits w) (sym all.0) count;
  nonterminals = left;
  terminals = all.1;
  literal_count = small.0;
  literals = small.1;
}

pub symbols_apart : (w : Width) (t n : ℕ) (names : List (List ℕ)) (literals : List ℕ) {whole l1 l2 l3 : List ℕ} (l4 :
    List ℕ)
    → length names ≡ t → whole ≡ number w t ++ l1 → l1 ≡ number w n ++ l2 → l2 ≡ flat_map string names ++ l3
    → l3 ≡ flat_map (number w) literals ++ l4 → whole ≡ raw_symbol_sections w (of_symbols n names literals) ++ l4
symbols_apart w t n names literals {whole} {l1} {l2} {l3} l4 count first second third last =
    four_apart l4 (number w (length names)) (number w n) (flat_map string names) (flat_map (number w) literals)
    (first ∙ ap (λ k. number w k ++ l1) (sym count)) second third last

abbrev pub NamesText : Width → ℕ → List ℕ → Type 0
NamesText w t = Then (λ names. (length names ≡ t) × All IsString names) (flat_map string) (λ names. RowsText w 256)

pub some_names : (w : Width) (t : ℕ) → IsThere (NamesText w t)
some_names w t =
    let literals = some_rows w 256 in (
      flat_map string (replicate t []) ++ literals.0,
      record {
        value = replicate t [];
        rest = literals.0;
        fit = (length-replicate t [], All-replicate IsString t [] (omega arith, All-nil IsByte));
        follows = literals.1;
        is = refl;
      },
    )

pub symbols_part : (w : Width) (whole : List ℕ)
    → Then (Fits w) (number w) (λ t. NumberThen w (NamesText w t)) whole → AreSymbolsText w whole
symbols_part w whole t =
    let n = t.follows in let names = n.follows in let literals = names.follows in
    record {
      value = of_symbols n.value names.value literals.value;
      fit = symbols_fit w t.value n.value names.value literals.value t.fit n.fit names.fit literals.fit;
      is = symbols_apart w t.value n.value names.value literals.value [] names.fit.0 t.is n.is names.is
          (ended literals.is) ∙ append-nil (raw_symbol_sections w (of_symbols n.value names.value literals.value));
    }

-- those of the scanner
pub scanner_fit : (w : Width) (rules : List RawScanRule) (conditions : List RawStarts) (n : ℕ) (classes accepted : List
    ℕ)
    (rows : RawComb) → AreCounted w (ScanRuleFits w) rules → AreCounted w (StartsFit w) conditions → Fits w n
    → AreBytes 256 classes → AreCounted w (Fits w) accepted → CombFits w (length accepted) rows
    → DoesScannerFit w (of_scanner rules conditions n classes accepted rows)
scanner_fit w rules conditions n classes accepted rows first second third fourth fifth last = record {
  scan_rule_count = first.0;
  scan_rules = first.1;
  condition_count = second.0;
  conditions = second.1;
  class_count = third;
  all_classes = fourth.0;
  classes = fourth.1;
  scan_states = fifth.0;
  accepted = fifth.1;
  scan_rows = last;
}

pub scanner_together : (w : Width) (rules : List RawScanRule) (conditions : List RawStarts) (n : ℕ) (classes accepted :
    List ℕ)
    (rows : RawComb) {whole l1 l2 l3 l4 l5 : List ℕ} (l6 : List ℕ)
    → whole ≡ counted_bytes w (raw_scan_rule w) rules ++ l1
    → l1 ≡ counted_bytes w (raw_starts w) conditions ++ l2 → l2 ≡ number w n ++ l3 → l3 ≡ classes ++ l4
    → l4 ≡ counted_bytes w (number w) accepted ++ l5 → l5 ≡ raw_comb w rows ++ l6
    → whole ≡ raw_scanner_sections w (of_scanner rules conditions n classes accepted rows) ++ l6
scanner_together w rules conditions n classes accepted rows l6 first second third fourth fifth last =
    scanner_apart l6 (counted_bytes w (raw_scan_rule w) rules) (number w (length conditions))
    (flat_map (raw_starts w) conditions) (number w n) classes (number w (length accepted))
    (flat_map (number w) accepted) (raw_comb w rows) first second third fourth fifth last

pub some_comb : (w : Width) (n : ℕ) → IsThere (IsCombText w n)
some_comb w n =
    let comb : RawComb = record { bases = replicate n 0; entries = []; rows = [] } in
    let fit : CombFits w n comb = record {
      count = length-replicate n 0;
      bases = All-replicate (Fits w32) n 0 (omega arith);
      slots = omega arith;
      entries = All-nil (Fits w);
      row_count = refl;
      rows = All-nil (Fits w);
    } in
    (raw_comb w comb, record { value = comb; fit = fit; is = refl })

abbrev pub AcceptedText : Width → List ℕ → Type 0
AcceptedText w = Then (AreCounted w (Fits w)) (counted_bytes w (number w)) (λ accepted. IsCombText w (length
    accepted))

pub some_accepted : (w : Width) → IsThere (AcceptedText w)
some_accepted w =
    let rows = some_comb w 0 in (
      counted_bytes w (number w) [] ++ rows.0,
      record {
        value = [];
        rest = rows.0;
        fit = (zero_fits w, All-nil (Fits w));
        follows = rows.1;
        is = refl;
      },
    )

abbrev pub ClassesText : Width → List ℕ → Type 0
ClassesText w = Then (AreBytes 256) (λ classes. classes) (λ classes. AcceptedText w)

pub some_classes : (w : Width) → IsThere (ClassesText w)
some_classes w =
    let zeros = some_bytes 256 in
    let accepted = some_accepted w in (
      zeros.0 ++ accepted.0,
      record { value = zeros.0; rest = accepted.0; fit = zeros.1; follows = accepted.1; is = refl },
    )

abbrev pub ConditionsText : Width → List ℕ → Type 0
ConditionsText w = Then (AreCounted w (StartsFit w)) (counted_bytes w (raw_starts w)) (λ conditions. NumberThen w
    (ClassesText w))

pub some_conditions : (w : Width) → IsThere (ConditionsText w)
some_conditions w =
    let classes = some_number_then w (some_classes w) in (
      counted_bytes w (raw_starts w) [] ++ classes.0,
      record {
        value = [];
        rest = classes.0;
        fit = (zero_fits w, All-nil (StartsFit w));
        follows = classes.1;
        is = refl;
      },
    )

pub scanner_part : (w : Width) (whole : List ℕ)
    → Then (AreCounted w (ScanRuleFits w)) (counted_bytes w (raw_scan_rule w)) (λ rules. ConditionsText w) whole
    → IsScannerText w whole
scanner_part w whole rules =
    let conditions = rules.follows in let n = conditions.follows in let classes = n.follows in
    let accepted = classes.follows in let rows = accepted.follows in
    record {
      value = of_scanner rules.value conditions.value n.value classes.value accepted.value rows.value;
      fit = scanner_fit w rules.value conditions.value n.value classes.value accepted.value rows.value rules.fit
          conditions.fit n.fit classes.fit accepted.fit rows.fit;
      is = scanner_together w rules.value conditions.value n.value classes.value accepted.value rows.value [] rules.is
          conditions.is n.is classes.is accepted.is (ended rows.is) ∙ append-nil (raw_scanner_sections w
          (of_scanner rules.value conditions.value n.value classes.value accepted.value rows.value));
    }

-- those of the parser
pub parser_fit : (w : Width) (rules : List RawRule) (defaults : List ℕ) (actions gotos : RawComb)
    → AreCounted w (RuleFits w) rules → AreCounted w (Fits w) defaults → CombFits w (length defaults) actions
    → CombFits w (length defaults) gotos → DoesParserFit w (of_parser rules defaults actions gotos)
parser_fit w rules defaults actions gotos first second third last = record {
  rule_count = first.0;
  rules = first.1;
  states = second.0;
  defaults = second.1;
  actions = third;
  gotos = last;
}

pub parser_together : (w : Width) (rules : List RawRule) (defaults : List ℕ) (actions gotos : RawComb) {whole l1 l2 l3 :
    List ℕ}
    (l4 : List ℕ)
    → whole ≡ counted_bytes w (raw_rule w) rules ++ l1 → l1 ≡ counted_bytes w (number w) defaults ++ l2
    → l2 ≡ raw_comb w actions ++ l3 → l3 ≡ raw_comb w gotos ++ l4
    → whole ≡ raw_parser_sections w (of_parser rules defaults actions gotos) ++ l4
parser_together w rules defaults actions gotos l4 first second third last =
    parser_apart l4 (counted_bytes w (raw_rule w) rules) (number w (length defaults))
    (flat_map (number w) defaults) (raw_comb w actions) (raw_comb w gotos) first second third last

abbrev pub CombsText : Width → ℕ → List ℕ → Type 0
CombsText w n = Then (CombFits w n) (raw_comb w) (λ actions. IsCombText w n)

pub some_combs : (w : Width) (n : ℕ) → IsThere (CombsText w n)
some_combs w n =
    let comb = some_comb w n in (
      comb.0 ++ comb.0,
      record {
        value = comb.1.value;
        rest = comb.0;
        fit = comb.1.fit;
        follows = comb.1;
        is = ap (λ x. x ++ comb.0) comb.1.is;
      },
    )

abbrev pub StatesText : Width → List ℕ → Type 0
StatesText w = Then (AreCounted w (Fits w)) (counted_bytes w (number w)) (λ defaults. CombsText w (length defaults))

pub some_states : (w : Width) → IsThere (StatesText w)
some_states w =
    let combs = some_combs w 0 in (
      counted_bytes w (number w) [] ++ combs.0,
      record {
        value = [];
        rest = combs.0;
        fit = (zero_fits w, All-nil (Fits w));
        follows = combs.1;
        is = refl;
      },
    )

pub parser_part : (w : Width) (whole : List ℕ)
    → Then (AreCounted w (RuleFits w)) (counted_bytes w (raw_rule w)) (λ rules. StatesText w) whole
    → IsParserText w whole
parser_part w whole rules =
    let defaults = rules.follows in let actions = defaults.follows in let gotos = actions.follows in
    record {
      value = of_parser rules.value defaults.value actions.value gotos.value;
      fit = parser_fit w rules.value defaults.value actions.value gotos.value rules.fit defaults.fit actions.fit
          gotos.fit;
      is = parser_together w rules.value defaults.value actions.value gotos.value [] rules.is defaults.is actions.is
          (ended gotos.is)
          ∙ append-nil (raw_parser_sections w (of_parser rules.value defaults.value actions.value gotos.value));
    }
