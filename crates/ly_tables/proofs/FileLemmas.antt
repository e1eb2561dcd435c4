-- A table file: its header and its three parts.
use Rattle.std.proofs.Common.{◌≡◌, ◌∙◌, ◌++◌, ◌≤◌, ℕ, List, [], ◌∷◌, Result, Ok, Err, IfErr, IsErrAnd, ap}
use Rattle.std.proofs.Common.{All, append-nil, append_assoc, arith, refl, codes, inr, length, subst, sym, take}
use Rattle.std.specs.Int.{Width, w16, to_be_bytes}
use Rattle.std.proofs.Common.{◌*◌, ◌+◌, ap₂, drop, get_or}
use Rattle.std.proofs.lemmas.List.Elements.{All-cons, All-nil}
use Rattle.std.proofs.lemmas.Nat.{be_bytes_2}
use Rattle.ly_tables.proofs.BeginningLemmas.{small}
use Rattle.ly_tables.proofs.SectionLemmas.{counted_bytes, ended, four_apart, parser_part, scanner_part, some_conditions}
use Rattle.ly_tables.proofs.SectionLemmas.{some_states}
use Rattle.ly_base.specs.declared.version.Version.{Version}
use Rattle.ly_tables.specs.Private.Found.{IsThere, zero_fits}
use Rattle.ly_tables.specs.Private.Parts.{IsBeginning, Stops, Then}
use Rattle.ly_tables.specs.Private.RawParts.{DoSymbolsFit, DoesParserFit, DoesScannerFit, IsParserText, together}
use Rattle.ly_tables.specs.Ranges.{number_of, width_of}
use Rattle.ly_tables.specs.RawSet.{IsByte, RuleFits, ScanRuleFits, raw_rule, raw_scan_rule}
use Rattle.ly_tables.specs.RawSet.{IsRawSet, RawSet, raw_parser_sections, raw_scanner_sections}
use Rattle.ly_tables.specs.RawSet.{raw_symbol_sections}
use Rattle.ly_tables.specs.Reading.{IsTruncated, raw_file}
use Rattle.ly_tables.specs.Refusal.{IsRefusedAs}
use Rattle.ly_tables.specs.declared.fault.TableFault.{TableFault}
use Rattle.ly_tables.specs.declared.fault.TableFault.TheVariants.{BadMagic, BadVersion, Endless, OutOfMemory}
use Rattle.ly_tables.specs.declared.fault.TableFault.TheVariants.{OutOfRange, Trailing, Truncated}

-- the header of a file of a version
abbrev pub heading : Version → List ℕ
heading v = codes "LYTB" ++ to_be_bytes w16 (number_of v)

-- the numbers of the three parts fit together
pub together_fit : (w : Width) (s c p : RawSet) → DoSymbolsFit w s → DoesScannerFit w c → DoesParserFit w p
    → IsRawSet w (together s c p)
together_fit w s c p symbols scanner parser = record {
  terminal_count = symbols.terminal_count;
  nonterminals = symbols.nonterminals;
  terminals = symbols.terminals;
  literal_count = symbols.literal_count;
  literals = symbols.literals;
  scan_rule_count = scanner.scan_rule_count;
  scan_rules = scanner.scan_rules;
  condition_count = scanner.condition_count;
  conditions = scanner.conditions;
  class_count = scanner.class_count;
  all_classes = scanner.all_classes;
  classes = scanner.classes;
  scan_states = scanner.scan_states;
  accepted = scanner.accepted;
  scan_rows = scanner.scan_rows;
  rule_count = parser.rule_count;
  rules = parser.rules;
  states = parser.states;
  defaults = parser.defaults;
  actions = parser.actions;
  gotos = parser.gotos;
}

-- their bytes are those of the file
pub together_is : (v : Version) (s c p : RawSet) {bytes l1 l2 l3 : List ℕ} (l4 : List ℕ) → bytes ≡ heading v ++ l1
    → l1 ≡ raw_symbol_sections (width_of v) s ++ l2 → l2 ≡ raw_scanner_sections (width_of v) c ++ l3
    → l3 ≡ raw_parser_sections (width_of v) p ++ l4 → bytes ≡ raw_file v (together s c p) ++ l4
together_is v s c p l4 first second third last =
    four_apart l4 (heading v) (raw_symbol_sections (width_of v) s) (raw_scanner_sections (width_of v) c)
    (raw_parser_sections (width_of v) p) first second third last

-- what follows the symbols
abbrev pub ScannerText : Width → List ℕ → Type 0
ScannerText w = Then (DoesScannerFit w) (raw_scanner_sections w) (λ scanner. IsParserText w)

-- what follows the header
abbrev pub FileText : Width → List ℕ → Type 0
FileText w = Then (DoSymbolsFit w) (raw_symbol_sections w) (λ symbols. ScannerText w)

-- where what follows the header is only begun, the file is
pub truncated : (v : Version) {bytes left : List ℕ} → bytes ≡ heading v ++ left
    → IsBeginning (FileText (width_of v)) left → IsTruncated bytes
truncated v {bytes} {left} is begun =
    let symbols = begun.all in let scanner = symbols.follows in let parser = scanner.follows in
    inr (
      v,
      together symbols.value scanner.value parser.value,
      begun.missing,
      together_fit (width_of v) symbols.value scanner.value parser.value symbols.fit scanner.fit parser.fit,
      begun.some,
      together_is v symbols.value scanner.value parser.value []
          (ap (λ x. x ++ begun.missing) is ∙ append_assoc (heading v) left begun.missing) symbols.is scanner.is (ended
          parser.is)
          ∙ append-nil (raw_file v (together symbols.value scanner.value parser.value)),
    )

refused_as : {P : Type 0} (bytes : List ℕ) (fault : TableFault) → Stops P fault → (P → IsTruncated bytes)
    → IsRefusedAs bytes fault
refused_as bytes Truncated begun all = all begun
refused_as bytes OutOfMemory begun all = tt
refused_as bytes BadMagic begun all = absurd begun
refused_as bytes BadVersion begun all = absurd begun
refused_as bytes Trailing begun all = absurd begun
refused_as bytes (OutOfRange section) begun all = absurd begun
refused_as bytes Endless begun all = absurd begun

-- a part that is only begun is why the file is refused
pub refused : {T P : Type 0} (bytes : List ℕ) (result : Result T TableFault) (fault : TableFault)
    → IsErrAnd result (λ other. other ≡ fault) → Stops P fault → (P → IsTruncated bytes)
    → IfErr result (IsRefusedAs bytes)
refused bytes (Ok x) fault same begun all = tt
refused {T} {P} bytes (Err other) fault same begun all =
    subst (IsRefusedAs bytes) (sym same) (refused_as bytes fault begun all)

pub some_parser : (w : Width) → IsThere (IsParserText w)
some_parser w =
    let states = some_states w in
    let bytes = counted_bytes w (raw_rule w) [] ++ states.0 in (
      bytes,
      parser_part w bytes record {
        value = [];
        rest = states.0;
        fit = (zero_fits w, All-nil (RuleFits w));
        follows = states.1;
        is = refl;
      },
    )

pub some_scanner : (w : Width) → IsThere (ScannerText w)
some_scanner w =
    let conditions = some_conditions w in
    let parser = some_parser w in
    let bytes = counted_bytes w (raw_scan_rule w) [] ++ conditions.0 in
    let scanner = scanner_part w bytes record {
      value = [];
      rest = conditions.0;
      fit = (zero_fits w, All-nil (ScanRuleFits w));
      follows = conditions.1;
      is = refl;
    } in (
      bytes ++ parser.0,
      record {
        value = scanner.value;
        rest = parser.0;
        fit = scanner.fit;
        follows = parser.1;
        is = ap (λ x. x ++ parser.0) scanner.is;
      },
    )

-- a version stands behind the magic
pub version_found : (bytes : List ℕ) → 6 ≤ length bytes → take 4 bytes ≡ take (length bytes) (codes "LYTB")
    → All IsByte bytes → bytes ≡ (codes "LYTB" ++ to_be_bytes w16 (get_or bytes 4 0 * 256 + get_or bytes 5 0)) ++
    drop 6 bytes
version_found [] long magic all = absurd (omega (arith, long))
version_found (a ∷ []) long magic all = absurd (omega (arith, long))
version_found (a ∷ b ∷ []) long magic all = absurd (omega (arith, long))
version_found (a ∷ b ∷ c ∷ []) long magic all = absurd (omega (arith, long))
version_found (a ∷ b ∷ c ∷ d ∷ []) long magic all = absurd (omega (arith, long))
version_found (a ∷ b ∷ c ∷ d ∷ h ∷ []) long magic all = absurd (omega (arith, long))
version_found (a ∷ b ∷ c ∷ d ∷ h ∷ l ∷ rest) long magic all =
    let two : All IsByte (h ∷ l ∷ []) = All-cons IsByte h (l ∷ []) (all 4 0 (omega arith))
    (All-cons IsByte l [] (all 5 0 (omega arith)) (All-nil IsByte)) in
    ap₂ (λ x y. x ++ (y ++ rest)) magic
    (sym (be_bytes_2 (h ∷ l ∷ []) (h * 256 + l) refl (small (h ∷ l ∷ []) two) refl))

-- nothing stands behind the three parts
pub together_all : (v : Version) (s c p : RawSet) {bytes l1 l2 l3 : List ℕ} (l4 : List ℕ) → length l4 ≡ 0
    → bytes ≡ heading v ++ l1 → l1 ≡ raw_symbol_sections (width_of v) s ++ l2
    → l2 ≡ raw_scanner_sections (width_of v) c ++ l3 → l3 ≡ raw_parser_sections (width_of v) p ++ l4
    → bytes ≡ raw_file v (together s c p)
together_all v s c p [] none first second third last =
    together_is v s c p [] first second third last ∙ append-nil (raw_file v (together s c p))
together_all v s c p (x ∷ l4) none first second third last = absurd (omega (arith, none))
