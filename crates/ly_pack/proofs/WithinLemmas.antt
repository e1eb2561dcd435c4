-- A machine's entries and gotos stand in rows and columns that are there, and its rules at their numbers.
use Rattle.std.proofs.Common.{◌≡◌, ◌∙◌, ◌<◌, ℕ, Some, sym, ap, arith, slice_get}
use Rattle.ly_pack.specs.Machine.{IsTableRule, AreEntriesWithin, Machine, TableRule, states_of}
use Rattle.ly_pack.specs.Steady.{rule_at}
use Rattle.ly_pack.specs.Rows.{Entries, Grid, cell, grid_of}
use Rattle.ly_pack.proofs.GridLemmas.{cell-grid_of_some}

-- an entry of rows that are written out
cell_within : {E : Type 0} (g : Grid E) (rows width : ℕ) (f : Entries E) (r c : ℕ) (e : E) → g ≡ grid_of rows width f
    → cell g r c ≡ Some e → (r < rows) × (c < width)
cell_within g rows width f r c e so is =
    let there = cell-grid_of_some rows width f r c e (ap (λ h. cell h r c) (sym so) ∙ is) in (there.0, there.1)

pub within : (m : Machine) (actions gotos : _) → m.actions ≡ grid_of (states_of m) m.terminals actions
    → m.gotos ≡ grid_of (states_of m) m.nonterminals gotos → AreEntriesWithin m
within m actions gotos is so = record {
  actions = λ state t a entry. cell_within m.actions (states_of m) m.terminals actions state t a is entry;
  gotos = λ state left next goto. cell_within m.gotos (states_of m) m.nonterminals gotos state left next so goto;
}

pub rule_known : (m : Machine) (p : ℕ) (r : TableRule) → IsTableRule m p r → rule_at m p ≡ Some r
rule_known m p r (q, same, is) = ap (slice_get m.rules) (omega arith) ∙ is
