-- The table set of what fits a file of a version is within the ranges of that version.
use Rattle.std.proofs.Common.{◌≡◌, ◌∙◌, ◌<◌, ◌≤◌, ◌+◌, ◌-◌, ◌*◌, ◌^◌, ℕ, zero, suc, List, Some, None, All, Bool}
use Rattle.std.proofs.Common.{ap, arith, inl, inr, length, map, slice_get, subst, sym, true, false, option_map}
use Rattle.std.specs.Prelude.{if◌then◌else◌, nat_lt}
use Rattle.std.proofs.lemmas.Bool.{cases_lt}
use Rattle.std.proofs.lemmas.List.{length-map}
use Rattle.std.proofs.lemmas.List.Elements.{All-map}
use Rattle.std.proofs.lemmas.Nat.{mul-le}
use Rattle.std.proofs.lemmas.Option.{same_Some, slice_get-get_or, slice_get-map}
use Rattle.std.proofs.lemmas.Option.{slice_get_within}
use Rattle.ly_base.specs.Shape.{nil}
use Rattle.ly_base.specs.declared.numbers.StateNo.{StateNo}
use Rattle.ly_base.specs.declared.version.Version.{Version}
use Rattle.ly_base.specs.declared.version.Version.TheVariants.{V1, V2}
use Rattle.ly_base.proofs.ListLemmas.{All-at}
use Rattle.ly_ere.specs.declared.pattern.Rule.{Rule}
use Rattle.ly_join.specs.Joined.{Spec}
use Rattle.ly_join.specs.Sizes.{HasSizes}
use Rattle.ly_join.specs.Terminals.{IsOfByte, TerminalName, byte, end, undefined}
use Rattle.ly_lr0.specs.Automaton as parser
use Rattle.ly_pack.specs.Combs.{IsFirstFit}
use Rattle.ly_pack.specs.Machine.{IsMachine, IsRuleWithin}
use Rattle.ly_pack.specs.Rows.{Comb, Used}
use Rattle.ly_report.specs.Report.{terminal_name}
use Rattle.ly_subset.specs.Automaton.{IsAutomaton, entry_at, start_of, start_place}
use Rattle.ly_subset.specs.Automaton as scanner
use Rattle.ly_tables.specs.Ranges.{AreRows, AreStartsWithin, IsCutWithin, IsEmittedWithin, IsNameLong, IsRuleShort}
use Rattle.ly_tables.specs.Ranges.{IsScanRule, IsWithinVersion, counts_of, width_of}
use Rattle.ly_tables.specs.TableSet.{ScanRule, Starts, TableSet, machine_of}
use Rattle.ly_emit.specs.FitsFile.{FitsFile, IsActionWithin}
use Rattle.ly_emit.specs.SetOf.{IsSetOf}
use Rattle.ly_emit.specs.Private.Lists.{AreLists, HasRows}
use Rattle.ly_pack.proofs.CombSizeLemmas.{first_fit_comb, first_fit_short}

all_from : {X : Type 0} (P : X → Type 0) (xs : List X) → ((k : ℕ) (x : X) → slice_get xs k ≡ Some x → P x) → All P xs
all_from P xs each k d lt = each k _ (slice_get-get_or xs k d lt)

mapped_at : {X Y : Type 0} (f : X → Y) (xs : List X) (ys : List Y) (k : ℕ) (x : X) → map f xs ≡ ys
    → slice_get xs k ≡ Some x → slice_get ys k ≡ Some (f x)
mapped_at f xs ys k x same at = ap (λ l. slice_get l k) (sym same) ∙ slice_get-map f xs k ∙ ap (option_map f) at

-- a terminal that isn't the end has a number above 0
pub past_end : (ts : List TerminalName) (t : ℕ) (x : TerminalName) → slice_get ts 0 ≡ Some end → slice_get ts t ≡ Some x
    → (end ≡ x → ⊥) → 1 ≤ t
past_end ts zero x first at other = absurd (other (same_Some end x (sym first ∙ at)))
past_end ts (suc t) x first at other = omega arith

-- the terminal of a byte is there, and not the end
pub literal_within : (ts : List TerminalName) (b t : ℕ) → slice_get ts 0 ≡ Some end → slice_get ts 1 ≡ Some undefined
    → IsOfByte ts b t → (1 ≤ t) × (t < length ts)
literal_within ts b t first second (inl there)
    = (past_end ts t (byte b) first there (λ e. absurd cc), slice_get_within ts t (byte b) there)
literal_within ts b t first second (inr none) = let one = none.1 in
    let two = slice_get_within ts 1 undefined second in
    (omega (arith, one), omega (arith, one, two))

-- 32 bits count the slots of a table that is no greater than those of a version's file
slots_fit : (v : Version) (rows width : ℕ) → rows ≤ (counts_of v).states → width ≤ (counts_of v).symbols
    → (rows + 1) * width < 2 ^ 32
slots_fit V1 rows width few narrow = let size = mul-le (rows + 1) width 16384 4095 (omega (arith, few)) narrow in
    omega (arith, size)
slots_fit V2 rows width few narrow = let size = mul-le (rows + 1) width 262144 16383 (omega (arith, few)) narrow in
    omega (arith, size)

-- and so are its rows within the ranges
rows_within : {E : Type 0} (v : Version) (states columns : ℕ) (c : Comb E) → IsFirstFit c → HasRows states columns c
    → states ≤ (counts_of v).states → columns ≤ (counts_of v).symbols → AreRows states columns c
rows_within v states columns c fit has few narrow = record {
  is_comb = first_fit_comb c fit;
  rows = has.rows;
  width = has.width;
  slots =
      let size = slots_fit v (length c.bases) c.width
      (subst (λ n. n ≤ (counts_of v).states) (sym has.rows) few)
      (subst (λ n. n ≤ (counts_of v).symbols) (sym has.width) narrow) in
      let short = first_fit_short c fit in
      omega (arith, size, short);
}

-- the classes of bytes are no more than the symbols that a version allows
few_classes : (v : Version) (n : ℕ) → n ≤ 256 → n ≤ (counts_of v).symbols
few_classes V1 n le = omega (arith, le)
few_classes V2 n le = omega (arith, le)

-- where an automaton's condition begins, a state is
start_within : (A : scanner.Automaton) (c : ℕ) (line : Bool) (state : ℕ) → IsAutomaton A
    → start_of A c line ≡ Some state → state < length A.rules
start_within A c line state is = at (nat_lt (start_place c line) A.starts)
  where
    at : (t : Bool) → (if t then entry_at A.entries (start_place c line) else None) ≡ Some state
        → state < length A.rules
    at true e = is.within (start_place c line) state e
    at false e = absurd cc

module _ (v : Version) (s : Spec) (M : parser.Lr0Automaton) (A : scanner.Automaton) (rules : List Rule) (set : TableSet)
    (fits : FitsFile v s rules A M) (is : IsSetOf s M rules A set) (lists : AreLists set) (sizes : HasSizes s)
    (whole : IsAutomaton A) (many : length rules ≡ length s.scanner) (machine : IsMachine (machine_of set)) where
  terminal_count : length set.terminals ≡ length s.terminals
  terminal_count = ap length is.terminals ∙ length-map s.terminals terminal_name

  two_terminals : 2 ≤ length set.terminals
  two_terminals = let lt = slice_get_within s.terminals 1 _ fits.grammar.undefined in
      let count = terminal_count in omega (arith, lt, count)

  token_within : (b t : ℕ) → IsOfByte s.terminals b t → (1 ≤ t) × (t < length set.terminals)
  token_within b t is = let within = literal_within s.terminals b t fits.grammar.end fits.grammar.undefined is in
      (within.0, let lt = within.1 in let count = terminal_count in omega (arith, lt, count))

  scan_rule_count : length set.scan_rules ≡ length s.scanner
  scan_rule_count = sym (length-map set.scan_rules (λ r. r.action)) ∙ ap length is.scanner.actions

  scan_rule : (k : ℕ) (r : ScanRule) → slice_get set.scan_rules k ≡ Some r
      → IsScanRule (width_of v) (length set.terminals) (length set.conditions) r
  scan_rule k r at =
      let does = All-at (IsActionWithin (length s.terminals) A.starts) s.scanner k r.action fits.scanner.actions
      (mapped_at (λ r. r.action) set.scan_rules s.scanner k r is.scanner.actions at) in
      let cuts = All-at (IsCutWithin (width_of v)) (map (λ r. r.pattern.cut) rules) k r.cut
      (All-map (IsCutWithin (width_of v)) (λ r. r.pattern.cut) rules fits.scanner.cuts)
      (mapped_at (λ r. r.cut) set.scan_rules (map (λ r. r.pattern.cut) rules) k r is.scanner.cuts at) in
      record {
        emits = subst (λ n. IsEmittedWithin n r.action.emits) (sym terminal_count) does.emits;
        begin = λ c e. let lt = does.begin c e in let count = is.scanner.condition_count in omega (arith, lt, count);
        cut = cuts;
      }

  starts : (c : ℕ) (x : Starts) → slice_get set.conditions c ≡ Some x → AreStartsWithin (length set.accepted) x
  starts c x at = let begins = is.scanner.conditions c x at in record {
    elsewhere = λ state e. there state (start_within A c false state whole (sym begins.0 ∙ e));
    at_line = λ state e. there state (start_within A c true state whole (sym begins.1 ∙ e));
  }
    where
      there : (state : ℕ) → state < length A.rules → state < length set.accepted
      there state lt = let same = ap length is.scanner.accepted in omega (arith, same, lt)

  class_count : set.class_count ≤ 256
  class_count = elim (cases_lt 256 set.class_count) [
    | inr le ↦ le
    | inl more ↦ let used = whole.used 256 (let same = is.scanner.class_count in omega (arith, more, same)) in
        let within = All-at (λ class. class < 256) set.classes used.0 256 lists.classes
        (ap (λ cs. slice_get cs used.0) is.scanner.classes ∙ used.1) in
        absurd (omega (arith, within))
  ]

  class_within : (b c : ℕ) → slice_get set.classes b ≡ Some c → c < set.class_count
  class_within b c at = let lt = whole.class_within b c (ap (λ cs. slice_get cs b) (sym is.scanner.classes) ∙ at) in
      let same = is.scanner.class_count in omega (arith, lt, same)

  some_class : 1 ≤ set.class_count
  some_class = let long : length set.classes ≡ 256 = ap length is.scanner.classes ∙ whole.bytes in
      let lt = class_within 0 _ (slice_get-get_or set.classes 0 0 (omega (arith, long))) in omega (arith, lt)

  target_within : (k : ℕ) (u : Used StateNo) → slice_get set.scan_rows.slots k ≡ Some (Some u)
      → u.entry.0 < length set.accepted
  target_within k u at =
      let w = (is.scan_rows.slots k u.row u.entry).0 at in
      let same = ap length is.scanner.accepted in
      let row : u.row < length A.rules = let lt = slice_get_within set.scan_rows.bases u.row w.0 w.2 in
      let rows = lists.scan_rows.rows in omega (arith, lt, rows, same) in
      let column : w.1 < A.classes = let lt = w.3 in let width = lists.scan_rows.width in
      let classes = is.scanner.class_count in omega (arith, lt, width, classes) in
      let leads = whole.within _ u.entry.0 (sym (is.scanner.rows u.row w.1 row column)
      ∙ ap (option_map (λ s. s.0)) w.4) in
      omega (arith, leads, same)

  rule_count : length set.rules + 1 ≡ length s.grammar.rules
  rule_count = ap (λ rs. length rs + 1) is.machine.2.rules ∙ is.machine.1.numbers

  rule_short : (k : ℕ) (r : _) → slice_get set.rules k ≡ Some r → IsRuleShort r
  rule_short k r at =
      let lt = slice_get_within set.rules k r at in
      let count = rule_count in
      let given = fits.grammar.rules (suc k) (omega arith) (omega (arith, lt, count)) in
      let same = same_Some _ r (sym (is.machine.1.rules (suc k) given.0 (omega arith) given.1)
      ∙ ap (λ n. slice_get is.machine.0.rules n) (before k) ∙ ap (λ rs. slice_get rs k) (sym is.machine.2.rules)
      ∙ at) in
      subst IsRuleShort same (record { body = given.2; shape = fits.grammar.constructors (suc k) })
    where
      before : (k : ℕ) → suc k - 1 ≡ k
      before k = omega arith

  state_count : length set.defaults ≡ length M.states
  state_count = is.machine.2.states ∙ is.machine.1.states

  few_states : length set.defaults ≤ (counts_of v).states
  few_states = let same = state_count in let few = fits.grammar.states in omega (arith, same, few)

  symbols : length set.terminals + set.nonterminals + 1 ≤ (counts_of v).symbols
  symbols = let count = terminal_count in let others = is.nonterminals in let few = fits.grammar.symbols in
      omega (arith, count, others, few)

  some_nonterminal : 1 ≤ set.nonterminals
  some_nonterminal =
      let some : 0 < length set.rules = let count = rule_count in let two = fits.grammar.some_rule in
      omega (arith, count, two) in
      let first = slice_get-get_or set.rules 0 (record { left = 0; body_length = 0; shape = nil }) some in
      let lt = (All-at (IsRuleWithin set.nonterminals) set.rules 0 _ machine.rules first).left in
      omega (arith, lt)

  pub set_within : IsWithinVersion v set
  set_within = record {
    terminals = two_terminals;
    nonterminals = some_nonterminal;
    symbols = symbols;
    names = λ k d lt. (
      subst (All IsNameLong) (sym is.terminals) (All-map IsNameLong terminal_name s.terminals fits.grammar.names)
          k d lt,
      lists.names k d lt,
    );
    end = ap (λ ts. slice_get ts 0) is.terminals ∙ slice_get-map terminal_name s.terminals 0
        ∙ ap (option_map terminal_name) fits.grammar.end;
    undefined = ap (λ ts. slice_get ts 1) is.terminals ∙ slice_get-map terminal_name s.terminals 1
        ∙ ap (option_map terminal_name) fits.grammar.undefined;
    all_literals = lists.literals;
    literals = all_from (λ t. (1 ≤ t) × (t < length set.terminals)) set.literals
        (λ b t at. token_within b t (is.literals b t at));
    scan_rule_count = let same = scan_rule_count in let few = fits.scanner.rule_count in
        omega (arith, same, many, few);
    scan_rules = all_from (IsScanRule (width_of v) (length set.terminals) (length set.conditions)) set.scan_rules
        scan_rule;
    some_condition = let count = is.scanner.condition_count in let some = fits.scanner.some_condition in
        omega (arith, count, some);
    condition_count = let count = is.scanner.condition_count in let few = fits.scanner.conditions in
        omega (arith, count, few);
    conditions = all_from (AreStartsWithin (length set.accepted)) set.conditions starts;
    some_class = some_class;
    class_count = class_count;
    all_classes = ap length is.scanner.classes ∙ whole.bytes;
    classes = all_from (λ c. c < set.class_count) set.classes class_within;
    scan_state_count = let same = ap length is.scanner.accepted in let few = fits.scanner.states in
        omega (arith, same, few);
    accepted = λ k p at.
        let lt = fits.scanner.accepted k p (ap (λ rs. slice_get rs k) (sym is.scanner.accepted) ∙ at) in
        let same = scan_rule_count in
        omega (arith, lt, same, many);
    scan_rows = rows_within v (length set.accepted) set.class_count set.scan_rows is.scan_rows lists.scan_rows
        (let same = ap length is.scanner.accepted in let few = fits.scanner.states in omega (arith, same, few))
        (few_classes v set.class_count class_count);
    scan_targets = target_within;
    some_rule = let count = rule_count in let two = fits.grammar.some_rule in omega (arith, count, two);
    rule_count = let count = rule_count in let few = fits.grammar.rule_count in omega (arith, count, few);
    rules = all_from IsRuleShort set.rules rule_short;
    state_count = few_states;
    actions = rows_within v (length set.defaults) (length set.terminals) set.actions is.actions lists.actions few_states
        (let few = symbols in omega (arith, few));
    gotos = rows_within v (length set.defaults) set.nonterminals set.gotos is.gotos lists.gotos few_states
        (let few = symbols in omega (arith, few));
    machine = machine;
  }
