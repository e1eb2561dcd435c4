-- Rising lists of numbers, packed: for each run its first and its last number, or for each block of 32 numbers that has
-- members its number and a bit for each number.
use Rattle.std.specs.Prelude.{◌≡◌, ◌+◌, ◌-◌, ◌*◌, ◌/◌, ◌%◌, ◌^◌, ◌==◌, ◌<◌, ◌++◌, ℕ, zero, suc, List, [], ◌∷◌, length}
use Rattle.std.specs.Prelude.{bit_or, nat_eq, nat_le, slice_index_or, if◌then◌else◌}
use Rattle.std.specs.List.{range_with_len}
use Rattle.std.specs.Int.{bit_at}
use Rattle.ly_subset.specs.declared.packed.Packing.{Packing}
use Rattle.ly_subset.specs.declared.packed.Running.{Running}

-- the first members of a block, by its lowest bits
abbrev pub members_below : ℕ → ℕ → ℕ → List ℕ
members_below block bits zero = []
members_below block bits (suc i) =
    members_below block bits i ++ (if bit_at bits i == 1 then (32 * block + i) ∷ [] else [])

-- the members of a block
abbrev pub members_of : ℕ → ℕ → List ℕ
members_of block bits = members_below block bits 32

-- the numbers of a run, from the first to the last
abbrev pub run_of : ℕ → ℕ → List ℕ
run_of first last = range_with_len first (last + 1 - first)

-- the numbers of a row of pairs, by those of a pair
abbrev pub unpack_by : (ℕ → ℕ → List ℕ) → List ℕ → List ℕ
unpack_by part [] = []
unpack_by part (a ∷ []) = []
unpack_by part (a ∷ b ∷ row) = part a b ++ unpack_by part row

-- the numbers of a packed list: of runs behind a 1, else of blocks
abbrev pub unpack : List ℕ → List ℕ
unpack [] = []
unpack (zero ∷ row) = unpack_by members_of row
unpack (suc kind ∷ row) = unpack_by run_of row

-- a block with one number more
abbrev pub with_number : ℕ → ℕ → ℕ
with_number bits n = bit_or bits (1 * 2 ^ (n % 32) % 2 ^ 32)

-- a block and the numbers that come after it, packed
abbrev pub pack_from : ℕ → ℕ → List ℕ → List ℕ
pack_from block bits [] = block ∷ bits ∷ []
pack_from block bits (n ∷ ns) = if nat_eq (n / 32) block then pack_from block (with_number bits n) ns
    else (block ∷ bits ∷ pack_from (n / 32) (with_number 0 n) ns)

-- a rising list, packed by blocks
abbrev pub pack_blocks : List ℕ → List ℕ
pack_blocks [] = []
pack_blocks (n ∷ ns) = pack_from (n / 32) 0 (n ∷ ns)

-- a run and the numbers that come after it, packed by runs
abbrev pub runs_from : ℕ → ℕ → List ℕ → List ℕ
runs_from first last [] = first ∷ last ∷ []
runs_from first last (n ∷ ns) = if nat_eq n (last + 1) then runs_from first n ns
    else (first ∷ last ∷ runs_from n n ns)

-- a rising list, packed by runs
abbrev pub pack_runs : List ℕ → List ℕ
pack_runs [] = []
pack_runs (n ∷ ns) = runs_from n n ns

-- how often a number isn't the one after that before it
abbrev pub breaks_from : ℕ → List ℕ → ℕ
breaks_from last [] = 0
breaks_from last (n ∷ ns) = (if nat_eq n (last + 1) then 0 else 1) + breaks_from n ns

-- and in a whole list
abbrev pub breaks_of : List ℕ → ℕ
breaks_of [] = 0
breaks_of (n ∷ ns) = breaks_from n ns

-- a rising list, packed: by runs where these are long, else by blocks
abbrev pub pack : List ℕ → List ℕ
pack ns = if nat_le (breaks_of ns) (length ns / 32) then 1 ∷ pack_runs ns else (0 ∷ pack_blocks ns)

-- each number fits a word
abbrev pub AreWords : List ℕ → Type 0
AreWords ns = (i : ℕ) → slice_index_or ns i 0 < 2 ^ 32

-- the list is a packed one of words
abbrev pub IsPacked : List ℕ → Type 0
IsPacked row = (row ≡ pack (unpack row)) × AreWords (unpack row)

-- each is packed
abbrev pub ArePacked : List (List ℕ) → Type 0
ArePacked rows = (n : ℕ) → n < length rows → IsPacked (slice_index_or rows n [])

-- what comes of a packing by blocks, if these numbers come
abbrev pub packed_with : Packing → List ℕ → List ℕ
packed_with p ns = p.row.items ++ pack_from p.block p.bits ns

-- what comes of a packing by runs, if these numbers come
abbrev pub run_with : Running → List ℕ → List ℕ
run_with p ns = p.row.items ++ runs_from p.first p.last ns
