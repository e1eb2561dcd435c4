use Rattle.std.proofs.Common.{◌≡◌, ◌∙◌, ◌<◌, ◌≤◌, ◌+◌, ◌-◌, ◌*◌, ◌^◌, ℕ, List, length, get_or, take, drop, sym, ap}
use Rattle.std.proofs.Common.{subst, arith, Fits, w64}
use Rattle.std.specs.FinSet as set
use Rattle.std.specs.Int.RustNames.{count_ones}
use Rattle.std.proofs.lemmas.Simd.{get_or-chunk}
use Rattle.std.proofs.lemmas.List.{length-take}
use lib.Lanes.{chunk}
use Rattle.ly_sets.specs.NumberSet.{AllBelow, passing_below, has_bit, set_of}
use Rattle.ly_sets.proofs.NumberSetLemmas.{contains-set_of, len-passing_below-le, len-passing_below-zero, len-word}
use Rattle.ly_sets.proofs.NumberSetLemmas.{len-set_of}
use Rattle.ly_sets.proofs.bits.count_bits.Goals as goal

-- the words that the loop goes over
items_are : (words : List ℕ) (start len : ℕ) → take (start + len - start) (drop start words) ≡ chunk start len words
items_are words start len = let e : start + len - start ≡ len = omega arith in ap (λ n. take n (drop start words)) e

word_fits : (words : List ℕ) (start len at : ℕ) → ((k : ℕ) → Fits w64 (get_or words k 0))
    → at < length (chunk start len words) → get_or (chunk start len words) at 0 < 2 ^ 64
word_fits words start len at fits lt =
    let le : at < len = omega (arith, length-take len (drop start words)) in
    subst (λ w. w < 2 ^ 64) (sym (get_or-chunk start len words at 0 le)) (fits (start + at)).fits

-- the count after one more word, and that it is no more than the width
counted : (words : List ℕ) (width at count : ℕ) → AllBelow width (set_of words) → get_or words at 0 < 2 ^ 64
    → count ≡ set.len (passing_below (has_bit words) (64 * at))
    → (count + count_ones (get_or words at 0) ≡ set.len (passing_below (has_bit words) (64 * (at + 1))))
    × (count + count_ones (get_or words at 0) ≤ width)
counted words width at count below fits is =
    let e : count + count_ones (get_or words at 0) ≡ set.len (passing_below (has_bit words) (64 * (at + 1)))
    = omega (arith, len-word words at fits) in
    let le = len-passing_below-le (has_bit words) (64 * (at + 1)) width
    (λ q lt pass. below q (contains-set_of words q ∙ pass)) in
    (e, (let h : set.len (passing_below (has_bit words) (64 * (at + 1))) ≤ width = le.1 in omega arith))

pub loop-word-init : goal.loop-word-init
loop-word-init c = sym (len-passing_below-zero _)

pub overflow_add-count : goal.overflow_add-count
overflow_add-count c =
    let is = items_are c.args.words.now c.args.start c.args.len in
    let more = counted (take (c.args.start + c.args.len - c.args.start) (drop c.args.start c.args.words.now))
    c.args.width c.loop-word.word-index c.loop-word.count
    (subst (λ ws. AllBelow c.args.width (set_of ws)) (sym is) c.requires.below)
    (subst (λ ws. get_or ws c.loop-word.word-index 0 < 2 ^ 64) (sym is)
    (word_fits c.args.words.now c.args.start c.args.len c.loop-word.word-index c.type_inv.words
    (subst (λ ws. c.loop-word.word-index < length ws) is c.loop-word-test.true)))
    c.loop-word.invariant in
    record { fits = (let le = more.1 in let lt = c.ranges.width.fits in omega arith) }

pub loop-word-preserved : goal.loop-word-preserved
loop-word-preserved c =
    let is = items_are c.args.words.now c.args.start c.args.len in
    (counted (take (c.args.start + c.args.len - c.args.start) (drop c.args.start c.args.words.now)) c.args.width
    c.loop-word.word-index c.loop-word.count
    (subst (λ ws. AllBelow c.args.width (set_of ws)) (sym is) c.requires.below)
    (subst (λ ws. get_or ws c.loop-word.word-index 0 < 2 ^ 64) (sym is)
    (word_fits c.args.words.now c.args.start c.args.len c.loop-word.word-index c.type_inv.words
    (subst (λ ws. c.loop-word.word-index < length ws) is c.loop-word-test.true)))
    c.loop-word.invariant).0

pub returns : goal.returns
returns c =
    let ws : List ℕ = take (c.args.start + c.args.len - c.args.start) (drop c.args.start c.args.words.now) in
    let end : c.loop-word.word-index ≡ length ws = omega arith in
    c.loop-word.invariant ∙ ap (λ n. set.len (passing_below (has_bit ws) (64 * n))) end ∙ sym (len-set_of ws)
    ∙ ap (λ w. set.len (set_of w)) (items_are c.args.words.now c.args.start c.args.len)
