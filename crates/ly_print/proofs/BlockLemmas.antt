-- Blocks of bytes, which are copied and looked at as one vector.
use Rattle.std.proofs.Common.{◌≡◌, ◌∙◌, ◌+◌, ◌≤◌, ◌^◌, ◌%◌, ◌++◌, ◌∷◌, [], ℕ, zero, suc, List, length, map, take}
use Rattle.std.proofs.Common.{Bool, true, false, ◌||◌, not, bit_or, min, ap, ap₂, sym, refl, arith, length-take}
use Rattle.std.proofs.Common.{◌<◌, eqb, get_or}
use Rattle.std.proofs.lemmas.List.{append-nil, get_or-take, length-map, length-take-le, take-append-le, take-take}
use Rattle.std.proofs.Math.Seq.{take-append-add}
use Rattle.std.specs.Prelude.{cond, ltb, All, IsAscii}
use Rattle.std.specs.List.{flat_map, prefix_len}
use Rattle.std.proofs.lemmas.Bool.{cond-true, leb-true}
use Rattle.std.specs.Bool.{OnTrue}
use Rattle.std.proofs.Math.Dec.{leb}
use Rattle.std.proofs.lemmas.Bool.Decides.{nat_tests}
use Rattle.std.proofs.lemmas.List.Sums.{prefix_len-le-length, prefix_len_passes}
use Rattle.std.proofs.lemmas.Str.Ascii.{IsAscii-from_all}
use Rattle.std.proofs.lemmas.Simd.{first_set_mask_l, mask_l-mod, take_more_put_chunk, zip2_splat}
use Rattle.std.proofs.lemmas.Simd.{zip2_splat_left}
use lib.Count.{count_trailing_zeros}
use lib.Lanes.{mask_l, put_chunk, top, zip2}
use lib.ListN.{replicate}
use Rattle.ly_base.specs.Bytes.{double_quote}
use Rattle.ly_print.specs.Json.{string_body, string_byte}
use Rattle.ly_print.specs.Text.{escaped, escaped_byte, is_plain}

-- the lanes of a comparison
abbrev flags : (ℕ → Bool) → List ℕ → List ℕ
flags p xs = map (λ x. cond (p x) 255 0) xs

either_bits : (a b : Bool) → bit_or (cond a 255 0) (cond b 255 0) ≡ cond (a || b) 255 0
either_bits true true = refl
either_bits true false = refl
either_bits false true = refl
either_bits false false = refl

either : (p q : ℕ → Bool) (xs : List ℕ) → zip2 bit_or (flags p xs) (flags q xs) ≡ flags (λ x. p x || q x) xs
either p q [] = refl
either p q (x ∷ xs) = ap₂ (λ y ys. y ∷ ys) (either_bits (p x) (q x)) (either p q xs)

top_bit : (a : Bool) → top 7 (cond a 255 0) ≡ a
top_bit true = refl
top_bit false = refl

tops : (p : ℕ → Bool) (xs : List ℕ) → map (top 7) (flags p xs) ≡ map p xs
tops p [] = refl
tops p (x ∷ xs) = ap₂ (λ y ys. y ∷ ys) (top_bit (p x)) (tops p xs)

-- a byte that doesn't stand for itself between double quotes
abbrev special : ℕ → Bool
special x = ltb x 32 || ltb 126 x || eqb x 92 || eqb x 34

not_special : (x : ℕ) → not (special x) ≡ is_plain double_quote x
not_special x = grind (arith, nat_tests)

same_prefix : (p q : ℕ → Bool) (xs : List ℕ) → ((x : ℕ) → p x ≡ q x) → prefix_len p xs ≡ prefix_len q xs
same_prefix p q [] same = refl
same_prefix p q (x ∷ xs) same = ap₂ (λ b n. cond b (1 + n) 0) (same x) (same_prefix p q xs same)

-- the lanes of a block's special bytes
abbrev pub compared : List ℕ → List ℕ
compared xs = zip2 bit_or (zip2 bit_or (zip2 bit_or (zip2 (λ a b. cond (ltb a b) 255 0) xs (replicate 16 32))
    (zip2 (λ a b. cond (ltb a b) 255 0) (replicate 16 126) xs))
    (zip2 (λ a b. cond (eqb a b) 255 0) xs (replicate 16 92)))
    (zip2 (λ a b. cond (eqb a b) 255 0) xs (replicate 16 34))

compared_is : (xs : List ℕ) → length xs ≡ 16 → compared xs ≡ flags special xs
compared_is xs long = rw (
  zip2_splat {Z = ℕ} (λ a b. cond (ltb a b) 255 0) xs 16 32 long,
  zip2_splat_left {Z = ℕ} (λ a b. cond (ltb a b) 255 0) 126 16 xs long,
  zip2_splat {Z = ℕ} (λ a b. cond (eqb a b) 255 0) xs 16 92 long,
  zip2_splat {Z = ℕ} (λ a b. cond (eqb a b) 255 0) xs 16 34 long,
  either (λ x. ltb x 32) (λ x. ltb 126 x) xs,
  either (λ x. ltb x 32 || ltb 126 x) (λ x. eqb x 92) xs,
  either (λ x. ltb x 32 || ltb 126 x || eqb x 92) (λ x. eqb x 34) xs,
) refl

-- the least bit that is set, or 16
least_bit : (m n : ℕ) (b : Bool) → eqb m 0 ≡ b → cond b 16 (count_trailing_zeros 64 m) ≡ n → n ≤ 16
    → min 16 (count_trailing_zeros 64 m) ≡ n
unfolding count_trailing_zeros
least_bit m n true none is few = let m_is : m ≡ 0 = grind (arith, nat_tests) in rw m_is is
least_bit m n false more is few = omega arith

-- how many bytes come before the first that is special
pub run_in_block : (xs : List ℕ) → length xs ≡ 16
    → min 16 (count_trailing_zeros 64 (mask_l (map (top 7) (compared xs)) % 2 ^ 64))
    ≡ prefix_len (is_plain double_quote) xs
run_in_block xs long =
    let marks : map (top 7) (compared xs) ≡ map special xs = ap (map (top 7)) (compared_is xs long) ∙ tops special xs in
    let fits = mask_l-mod (map special xs) 64 (omega (arith, length-map xs special, long)) in
    rw (marks, fits) (least_bit (mask_l (map special xs)) (prefix_len (λ x. not (special x)) xs) _ refl
    (first_set_mask_l special xs 16 long (omega arith))
    (omega (arith, long, prefix_len-le-length (λ x. not (special x)) xs))
    ∙ same_prefix (λ x. not (special x)) (is_plain double_quote) xs not_special)

-- bytes before the first that is special stand for themselves, wherever each of them does
plain_run_is : (q : ℕ) (each : ℕ → List ℕ) → ((x : ℕ) → is_plain q x ≡ true → each x ≡ x ∷ []) → (xs : List ℕ) (k : ℕ)
    → k ≤ prefix_len (is_plain q) xs → flat_map each (take k xs) ≡ take k xs
plain_run_is q each itself xs zero h = refl
plain_run_is q each itself [] (suc k) h = refl
plain_run_is q each itself (x ∷ xs) (suc k) h = by (is_plain q x) refl h (plain_run_is q each itself xs k)
  where
    by : (b : Bool) → is_plain q x ≡ b → suc k ≤ cond b (1 + prefix_len (is_plain q) xs) 0
        → (k ≤ prefix_len (is_plain q) xs → flat_map each (take k xs) ≡ take k xs)
        → flat_map each (x ∷ take k xs) ≡ x ∷ take k xs
    by true e h more = ap (λ t. t ++ flat_map each (take k xs)) (itself x e) ∙ ap (λ ys. x ∷ ys) (more (omega arith))
    by false e h more = absurd (omega arith)

-- so they do in a block
plain_in_block : (q : ℕ) (each : ℕ → List ℕ) → ((x : ℕ) → is_plain q x ≡ true → each x ≡ x ∷ []) → (bytes : List ℕ)
    (run : ℕ) → run ≤ prefix_len (is_plain q) (take 16 bytes) → flat_map each (take run bytes) ≡ take run bytes
plain_in_block q each itself bytes run plain =
    let few : run ≤ 16 = omega (arith, prefix_len-le-length (is_plain q) (take 16 bytes), length-take 16 bytes) in
    ap (flat_map each) (sym (take-take run 16 bytes few))
    ∙ plain_run_is q each itself (take 16 bytes) run plain
    ∙ take-take run 16 bytes few

plain_escaped : (q x : ℕ) → is_plain q x ≡ true → escaped_byte q x ≡ x ∷ []
plain_escaped q x plain = cond-true _ _ _ plain

plain_in_string : (x : ℕ) → is_plain double_quote x ≡ true → string_byte x ≡ x ∷ []
plain_in_string x plain = grind (arith, nat_tests)

-- such bytes stand alike between double quotes and in a string
pub as_string : (bytes : List ℕ) (run : ℕ) → run ≤ prefix_len (is_plain double_quote) (take 16 bytes)
    → escaped double_quote (take run bytes) ≡ string_body (take run bytes)
as_string bytes run plain =
    plain_in_block double_quote (escaped_byte double_quote) (plain_escaped double_quote) bytes run plain
    ∙ sym (plain_in_block double_quote string_byte plain_in_string bytes run plain)

-- such bytes are ASCII
plain_below : (x : ℕ) → is_plain double_quote x ≡ true → x < 128
plain_below x plain = grind (arith, nat_tests)

plain_all : (xs : List ℕ) (k : ℕ) → k ≤ prefix_len (is_plain double_quote) xs → All (λ b. b < 128) (take k xs)
plain_all xs k plain i d within =
    let at : i < k = omega (arith, within, length-take k xs) in
    rw (get_or-take k xs i d at)
    (plain_below (get_or xs i d) (prefix_len_passes (is_plain double_quote) xs i d (omega (arith, at, plain))))

plain_ascii : (bytes : List ℕ) (run : ℕ) → run ≤ prefix_len (is_plain double_quote) (take 16 bytes)
    → IsAscii (take run bytes)
plain_ascii bytes run plain =
    let few : run ≤ 16
    = omega (arith, prefix_len-le-length (is_plain double_quote) (take 16 bytes), length-take 16 bytes) in
    IsAscii-from_all (take run bytes)
    (rw (sym (take-take run 16 bytes few)) (plain_all (take 16 bytes) run plain))

-- so a front is, where the run of them has been counted
pub told_ascii : (bytes front : List ℕ) (count run : ℕ) → take count bytes ≡ front
    → run ≡ prefix_len (is_plain double_quote) (take 16 bytes) → OnTrue (leb count run) (IsAscii front)
told_ascii bytes front count run is counted = by (leb count run) refl
  where
    by : (b : Bool) → leb count run ≡ b → OnTrue b (IsAscii front)
    by true le = rw (sym is) (plain_ascii bytes count (omega (arith, leb-true count run le, counted)))
    by false _ = tt

-- the first bytes of a block at a place
pub block_at : (room block : List ℕ) (at run : ℕ) → 16 ≤ length block → at + 16 ≤ length room → run ≤ 16
    → take (at + run) (put_chunk at room (take 16 block)) ≡ take at room ++ take run block
block_at room block at run whole within few =
    let at_is : length (take at room) ≡ at = omega (arith, length-take at room) in
    sym (take-take (at + run) (at + 16) (put_chunk at room (take 16 block)) (omega arith))
    ∙ ap (take (at + run)) (take_more_put_chunk at room (take 16 block) (at + 16) (omega (arith, length-take 16 block))
    within)
    ∙ ap (λ n. take (n + run) (take at room ++ take 16 block)) (sym at_is)
    ∙ take-append-add (take at room) (take 16 block) run
    ∙ ap (λ ys. take at room ++ ys) (take-take run 16 block few)

-- a block at a place, as far as it is a front
pub front_block : (room block front : List ℕ) (at : ℕ) → length block ≡ 16 → at + 16 ≤ length room
    → length front ≤ 16 → take (length front) block ≡ front
    → take (at + length front) (put_chunk at room (take 16 block)) ≡ take at room ++ front
front_block room block front at whole within short is =
    block_at room block at (length front) (omega (arith, whole)) within short ∙ ap (λ ys. take at room ++ ys) is

-- a block leaves what stands before it
pub kept_by_block : (room block : List ℕ) (at : ℕ) → length block ≡ 16 → at + 16 ≤ length room
    → take at (put_chunk at room (take 16 block)) ≡ take at room
kept_by_block room block at whole within
    = ap (λ n. take n (put_chunk at room (take 16 block))) (omega arith)
    ∙ block_at room block at 0 (omega (arith, whole)) within (omega arith) ∙ append-nil (take at room)

-- and so does what is written further on
pub kept_before : (room new : List ℕ) (at from run : ℕ) (text : List ℕ) → at ≤ from → from ≤ length room
    → take (from + run) new ≡ take from room ++ text → take at new ≡ take at room
kept_before room new at from run text before within written =
    sym (take-take at (from + run) new (omega (arith, before)))
    ∙ ap (take at) written
    ∙ take-append-le at (take from room) text (omega (arith, length-take-le from room within, before))
    ∙ take-take at from room before

-- a block at a place, as far as its bytes stand for themselves
pub plain_block : (room bytes : List ℕ) (at run : ℕ) → 16 ≤ length bytes → at + 16 ≤ length room
    → run ≤ prefix_len (is_plain double_quote) (take 16 bytes)
    → take (at + run) (put_chunk at room (take 16 bytes)) ≡ take at room ++ escaped double_quote (take run bytes)
plain_block room bytes at run block within plain =
    let few : run ≤ 16
    = omega (arith, prefix_len-le-length (is_plain double_quote) (take 16 bytes), length-take 16 bytes) in
    block_at room bytes at run block within few
    ∙ ap (λ ys. take at room ++ ys)
    (sym (plain_in_block double_quote (escaped_byte double_quote) (plain_escaped double_quote) bytes run plain))
