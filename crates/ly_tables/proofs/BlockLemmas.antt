-- The numbers of items, a block at a time.
use Rattle.std.proofs.Common.{◌≡◌, ◌∙◌, ◌+◌, ◌*◌, ◌<◌, ◌≤◌, ◌++◌, ℕ, List, length, take, drop, get_or}
use Rattle.std.proofs.Common.{ap, sym, arith, append_assoc}
use Rattle.std.specs.Int.{Width, byte_len}
use Rattle.std.specs.List.{flat_map}
use Rattle.std.proofs.Math.Nat.{le_of_lt, mul-le-mul_left}
use Rattle.std.proofs.lemmas.Grind.{flat_map-append}
use Rattle.std.proofs.lemmas.List.{take-append-drop}
use Rattle.byteorder.proofs.Slices.{write_step}
use Rattle.byteorder.specs.Numbers.{length-bytes_high_first}
use Rattle.ly_tables.specs.Spelling.{number}

-- the number of one item more is written over bytes
pub number_written : {X : Type 0} (w : Width) (code : X → ℕ) (items : List X) (i : ℕ) (x : X) (m size : ℕ)
    (bytes new back behind : List ℕ) → size ≡ byte_len w → length bytes ≡ byte_len w * length items
    → i < length items → x ≡ get_or items i x → m ≡ code x → new ≡ number w m ++ back
    → take (byte_len w * i) bytes ≡ flat_map (λ x. number w (code x)) (take i items)
    → take (byte_len w * (i + 1)) (take (size * i) bytes ++ (new ++ behind))
    ≡ flat_map (λ x. number w (code x)) (take (i + 1) items)
number_written w code items i x m size bytes new back behind is_size room lt is is_code put before =
    let n = byte_len w in
    let e : n * (i + 1) ≡ n * i + n = omega arith in
    let within : n * i ≤ length bytes = omega (arith, room, mul-le-mul_left n (le_of_lt lt)) in
    rw (e, put, is_size)
    (write_step (λ x. number w (code x)) n items x bytes (number w m) back behind i within lt
    (length-bytes_high_first n (code (get_or items i x))) (ap (number w) (is_code ∙ ap code is)) before)

-- the first items of a list are put, and those behind them are left
pub block_put : {X : Type 0} (f : X → List ℕ) (o o1 all : List ℕ) (k : ℕ) (left block behind : List X)
    → block ≡ take k left → behind ≡ drop k left → o1 ≡ o ++ flat_map f block
    → o ++ flat_map f left ≡ all → o1 ++ flat_map f behind ≡ all
block_put f o o1 all k left block behind front back put rest =
    let whole : block ++ behind ≡ left
    = ap (λ xs. xs ++ behind) front ∙ ap (λ xs. take k left ++ xs) back ∙ take-append-drop k left in
    ap (λ bytes. bytes ++ flat_map f behind) put
    ∙ append_assoc o (flat_map f block) (flat_map f behind)
    ∙ ap (λ bytes. o ++ bytes) (sym (flat_map-append f block behind))
    ∙ ap (λ xs. o ++ flat_map f xs) whole
    ∙ rest
