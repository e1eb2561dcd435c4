-- How many bytes the lines of a text have at most.
use Rattle.std.specs.Prelude.{◌<◌, ◌≤◌, ◌+◌, ◌*◌, ◌^◌, ℕ, List, All, length}

-- how many bytes of lines a byte of a text has at most, where labels have at most so many bytes
abbrev pub bytes_each : ℕ → ℕ
bytes_each longest = longest + 256

-- the lines of so many bytes can be counted
abbrev pub AreCountable : List (List ℕ) → ℕ → Type 0
AreCountable labels bytes =
    (longest : ℕ) × All (λ (l : List ℕ). length l ≤ longest) labels
    × (bytes * bytes_each longest + 256 < 2 ^ 64)
