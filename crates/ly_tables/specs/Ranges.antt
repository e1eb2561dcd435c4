-- The ranges of a table set in a version: every number fits, and what it refers to exists.
use Rattle.std.specs.Prelude.{◌≡◌, ℕ, ◌+◌, ◌*◌, ◌^◌, ◌<◌, ◌≤◌, List, All, Some, length, slice_get, codes}
use Rattle.std.specs.Int.{Width, w16, w32, byte_len}
use Rattle.ly_base.specs.Shape.{Shape, node}
use Rattle.ly_base.specs.declared.cut.Cut.{Cut}
use Rattle.ly_base.specs.declared.cut.Cut.TheVariants.{Whole, Head, Tail}
use Rattle.ly_base.specs.declared.scan_action.Emitted.{Emitted}
use Rattle.ly_base.specs.declared.scan_action.Emitted.TheVariants.{Terminal}
use Rattle.ly_base.specs.declared.numbers.StateNo.{StateNo}
use Rattle.ly_base.specs.declared.version.Version.{Version}
use Rattle.ly_base.specs.declared.version.Version.TheVariants.{V1, V2}
use Rattle.ly_pack.specs.Machine.{IsMachine, TableRule}
use Rattle.ly_pack.specs.Rows.{Comb, IsComb, Used}
use Rattle.ly_tables.specs.TableSet.{ScanRule, Starts, TableSet, machine_of}

-- The greatest counts of a version.
pub record Counts : Type 0 where
  pub symbols : ℕ
  pub rules : ℕ
  pub conditions : ℕ
  pub states : ℕ

-- the width of a version's numbers
abbrev pub width_of : Version → Width
width_of V1 = w16
width_of V2 = w32

-- the number of a version in a file
abbrev pub number_of : Version → ℕ
number_of V1 = 1
number_of V2 = 2

-- the greatest counts of a version
abbrev pub counts_of : Version → Counts
counts_of V1 = record { symbols = 4095; rules = 8191; conditions = 255; states = 16383 }
counts_of V2 = record { symbols = 16383; rules = 131071; conditions = 255; states = 262143 }

-- a name has at least one byte, and not too many
abbrev pub IsNameLong : List ℕ → Type 0
IsNameLong name = (1 ≤ length name) × (length name ≤ 255)

-- and consists of bytes
abbrev pub IsName : List ℕ → Type 0
IsName name = IsNameLong name × All (λ byte. byte < 256) name

-- a returned terminal exists, and isn't the end
abbrev pub IsEmittedWithin : ℕ → Emitted → Type 0
IsEmittedWithin terminals (Terminal t) = (1 ≤ t.0) × (t.0 < terminals)
IsEmittedWithin terminals _ = Unit {0}

-- the length of a trailing context fits
abbrev pub IsCutWithin : Width → Cut → Type 0
IsCutWithin w Whole = Unit {0}
IsCutWithin w (Head n) = (1 ≤ n) × (n < 2 ^ (8 * byte_len w))
IsCutWithin w (Tail n) = n < 2 ^ (8 * byte_len w)

pub record IsScanRule (w : Width) (terminals conditions : ℕ) (r : ScanRule) : Type 0 where
  pub emits : IsEmittedWithin terminals r.action.emits
  pub begin : (c : ℕ) → r.action.begin ≡ Some c → c < conditions
  pub cut : IsCutWithin w r.cut

-- the initial states of a condition exist
pub record AreStartsWithin (states : ℕ) (c : Starts) : Type 0 where
  pub elsewhere : (s : ℕ) → c.elsewhere ≡ Some s → s < states
  pub at_line : (s : ℕ) → c.at_line ≡ Some s → s < states

-- a comb: one row for each state, of this width, with 32-bit bases and a 32-bit number of slots
pub record AreRows {E : Type 0} (states columns : ℕ) (c : Comb E) : Type 0 where
  pub is_comb : IsComb c
  pub rows : length c.bases ≡ states
  pub width : c.width ≡ columns
  pub slots : length c.slots < 2 ^ 32

-- the names and the lengths of a rule fit
abbrev pub IsShapeShort : Shape → Type 0
IsShapeShort (node name places) = IsName name
IsShapeShort _ = Unit {0}

pub record IsRuleShort (r : TableRule) : Type 0 where
  pub body : r.body_length ≤ 255
  pub shape : IsShapeShort r.shape

-- Each count and each number is in its range, the first two terminals are `$end` and `$undef`, and what the parser's
-- tables refer to exists.
pub record IsWithinRanges (w : Width) (counts : Counts) (s : TableSet) : Type 0 where
  pub terminals : 2 ≤ length s.terminals
  pub nonterminals : 1 ≤ s.nonterminals
  pub symbols : length s.terminals + s.nonterminals + 1 ≤ counts.symbols
  pub names : All IsName s.terminals
  pub end : slice_get s.terminals 0 ≡ Some (codes "$end")
  pub undefined : slice_get s.terminals 1 ≡ Some (codes "$undef")
  pub all_literals : length s.literals ≡ 256
  pub literals : All (λ t. (1 ≤ t) × (t < length s.terminals)) s.literals
  pub scan_rule_count : length s.scan_rules ≤ counts.rules
  pub scan_rules : All (IsScanRule w (length s.terminals) (length s.conditions)) s.scan_rules
  pub some_condition : 1 ≤ length s.conditions
  pub condition_count : length s.conditions ≤ counts.conditions
  pub conditions : All (AreStartsWithin (length s.accepted)) s.conditions
  pub some_class : 1 ≤ s.class_count
  pub class_count : s.class_count ≤ 256
  pub all_classes : length s.classes ≡ 256
  pub classes : All (λ c. c < s.class_count) s.classes
  pub scan_state_count : length s.accepted ≤ counts.states
  pub accepted : (k p : ℕ) → slice_get s.accepted k ≡ Some (Some p) → p < length s.scan_rules
  pub scan_rows : AreRows (length s.accepted) s.class_count s.scan_rows
  pub scan_targets : (k : ℕ) (u : Used StateNo) → slice_get s.scan_rows.slots k ≡ Some (Some u)
      → u.entry.0 < length s.accepted
  pub some_rule : 1 ≤ length s.rules
  pub rule_count : length s.rules ≤ counts.rules
  pub rules : All IsRuleShort s.rules
  pub state_count : length s.defaults ≤ counts.states
  pub actions : AreRows (length s.defaults) (length s.terminals) s.actions
  pub gotos : AreRows (length s.defaults) s.nonterminals s.gotos
  pub machine : IsMachine (machine_of s)

-- a set is within the ranges of a version
abbrev pub IsWithinVersion : Version → TableSet → Type 0
IsWithinVersion v s = IsWithinRanges (width_of v) (counts_of v) s
