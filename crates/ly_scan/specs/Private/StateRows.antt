-- How the rows of states lie in memory.
use Rattle.std.specs.Prelude.{◌≡◌, ◌≢◌, ◌≤◌, ◌*◌, ◌/◌, ◌^◌, ℕ, length, List, Option, Some, None, All}
use Rattle.std.specs.Prelude.{if◌then◌else◌, nat_eq}
use Rattle.ly_scan.specs.StateRows.{row_width}

-- the state that an entry leads to, if it leads to one
abbrev pub target_in : ℕ → Option ℕ
target_in start = if nat_eq start 1 then None else Some (start / row_width)

-- an entry that leads to a state says where the state's row begins
abbrev pub IsStart : ℕ → Type 0
IsStart start = start ≢ 1 → start / row_width * row_width ≡ start

-- entries lead to rows, and where a row begins is a number of 32 bits
pub record AreRows (entries : List ℕ) : Type 0 where
  pub starts : All IsStart entries
  pub few : length entries ≤ 2 ^ 32
