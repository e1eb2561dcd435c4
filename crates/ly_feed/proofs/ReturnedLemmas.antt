-- What a table set's scanner returns, and that its tables can be run.
use Rattle.std.proofs.Common.{◌≡◌, ◌<◌, ◌≤◌, ℕ, List, Option, Some, None, arith, length, refl, slice_get, subst}
use Rattle.std.specs.Int.{Width}
use Rattle.std.specs.Prelude.{option_and_then, slice_index}
use Rattle.ly_base.specs.declared.scan_action.Emitted.{Emitted}
use Rattle.ly_base.specs.declared.scan_action.Emitted.TheVariants.{FirstByte, Nothing, Terminal}
use Rattle.ly_base.proofs.ListLemmas.{All-at}
use Rattle.ly_base.specs.declared.version.Version.TheVariants.{V2}
use Rattle.ly_feed.specs.Closed.{CanRun}
use Rattle.ly_feed.specs.ScanPart.{scan_part_of, terminal_by, terminal_in}
use Rattle.ly_pack.specs.Steady.{IsSteady}
use Rattle.ly_tables.specs.Ranges.{Counts, IsEmittedWithin, IsScanRule, IsWithinRanges, IsWithinVersion, counts_of}
use Rattle.ly_tables.specs.Ranges.{width_of}
use Rattle.ly_tables.specs.TableSet.{ScanRule, TableSet, machine_of}

-- a terminal that the scanner returns is one of the parser's, and not the end
pub returned : (w : Width) (counts : Counts) (s : TableSet) → IsWithinRanges w counts s → (i : ℕ) (bytes : List ℕ)
    (t : ℕ) → terminal_in (scan_part_of s) i bytes ≡ Some t → (1 ≤ t) × (t < length s.terminals)
returned w counts s h i bytes t e = by_rule (slice_get s.scan_rules i) refl e
  where
    by_action : (r : ScanRule) (a : Emitted) → r.action.emits ≡ a
        → IsScanRule w (length s.terminals) (length s.conditions) r → terminal_by (scan_part_of s) bytes a ≡ Some t
        → (1 ≤ t) × (t < length s.terminals)
    by_action r Nothing is rule e = absurd cc
    by_action r (Terminal k) is rule e =
        let same : k.0 ≡ t = cc in
        let emits = subst (λ a. IsEmittedWithin (length s.terminals) a) is rule.emits in
        subst (λ n. (1 ≤ n) × (n < length s.terminals)) same emits
    by_action r FirstByte is rule e =
        All-at (λ n. (1 ≤ n) × (n < length s.terminals)) s.literals (slice_index bytes 0) t h.literals e

    by_rule : (o : Option ScanRule) → slice_get s.scan_rules i ≡ o
        → option_and_then (λ r. terminal_by (scan_part_of s) bytes r.action.emits) o ≡ Some t
        → (1 ≤ t) × (t < length s.terminals)
    by_rule None found e = absurd cc
    by_rule (Some r) found e = by_action r r.action.emits refl
        (All-at (IsScanRule w (length s.terminals) (length s.conditions)) s.scan_rules i r h.scan_rules found) e

-- the tables of a set that is within the ranges, and steady, can be run
pub can_run : (s : TableSet) → IsWithinVersion V2 s → IsSteady (machine_of s)
    → CanRun (scan_part_of s) (machine_of s)
can_run s h steady = record {
  machine = h.machine;
  steady = steady;
  terminals = (let two = h.terminals in omega (arith, two));
  returned = returned (width_of V2) (counts_of V2) s h;
}
