-- A block of four words, united with another.
use Rattle.std.proofs.Common.{◌≡◌, ◌∙◌, ◌+◌, ◌-◌, ◌≤◌, ◌<◌, ◌++◌, ℕ, List, length, get_or, ap, ap₂, sym, arith, Bool}
use Rattle.std.proofs.Common.{true, false, ◌||◌, refl, inl, inr, ◌⊎◌, bit_or, take, drop}
use Rattle.std.proofs.lemmas.Simd.{get_or-put_chunk_above, get_or-put_chunk_below, get_or-put_chunk_at, get_or-zip2}
use Rattle.std.proofs.lemmas.Simd.{get_or-chunk, length-zip2, length-chunk, put_chunk_is}
use Rattle.std.proofs.lemmas.List.{take-append-drop, same_lists, get_or_default}
use Rattle.std.proofs.lemmas.Bool.{cases_lt}
use lib.Lanes.{chunk, put_chunk}
use Rattle.ly_sets.specs.Union.{IsUnited, united_block}

module _ (ws : List ℕ) (to from : ℕ) (to_in : to + 4 ≤ length ws) (from_in : from + 4 ≤ length ws) where
  pub length-united : length (united_block ws to from) ≡ 4
  length-united = length-zip2 bit_or (chunk to 4 ws) (chunk from 4 ws) (length-chunk to 4 ws to_in
      ∙ sym (length-chunk from 4 ws from_in)) ∙ length-chunk to 4 ws to_in

  get_or-united : (k : ℕ) → k < 4 → get_or (united_block ws to from) k 0 ≡ bit_or (get_or ws (to + k) 0)
      (get_or ws (from + k) 0)
  get_or-united k lt =
      get_or-zip2 bit_or (chunk to 4 ws) (chunk from 4 ws) k 0 0 0 (omega (arith, length-chunk to 4 ws to_in))
      (omega (arith, length-chunk from 4 ws from_in))
      ∙ ap₂ bit_or (get_or-chunk to 4 ws k 0 lt) (get_or-chunk from 4 ws k 0 lt)

  pub put_united-at : (k : ℕ) → k < 4 → get_or (put_chunk to ws (united_block ws to from)) (to + k) 0
      ≡ bit_or (get_or ws (to + k) 0) (get_or ws (from + k) 0)
  put_united-at k lt = get_or-put_chunk_at to ws (united_block ws to from) k 0 (omega (arith, length-united))
      (omega (arith, length-united)) ∙ get_or-united k lt

  pub put_united-other : (k : ℕ) → (k < to) ⊎ (to + 4 ≤ k) → get_or (put_chunk to ws (united_block ws to from)) k 0
      ≡ get_or ws k 0
  put_united-other k (inl lt) = get_or-put_chunk_below to ws (united_block ws to from) k 0 lt
  put_united-other k (inr le) = get_or-put_chunk_above to ws (united_block ws to from) k 0
      (omega (arith, length-united))

  -- a block that is put back leaves the words
  pub put_united-same : united_block ws to from ≡ chunk to 4 ws → put_chunk to ws (united_block ws to from) ≡ ws
  put_united-same same = ap (put_chunk to ws) same
      ∙ put_chunk_is to ws (chunk to 4 ws) (omega (arith, length-chunk to 4 ws to_in))
      ∙ ap (λ r. take to ws ++ r) (ap (λ n. chunk to 4 ws ++ drop n (drop to ws)) (length-chunk to 4 ws to_in)
      ∙ take-append-drop 4 (drop to ws))
      ∙ take-append-drop to ws

  -- words that stay are of a block that stays
  pub united-same : ((k : ℕ) → k < to + 4 → get_or (put_chunk to ws (united_block ws to from)) k 0 ≡ get_or ws k 0)
      → united_block ws to from ≡ chunk to 4 ws
  united-same same = same_lists (united_block ws to from) (chunk to 4 ws) (length-united
      ∙ sym (length-chunk to 4 ws to_in)) (λ k d lt.
      let below : k < 4 = omega (arith, length-united) in
      get_or_default (united_block ws to from) k d 0 lt
      ∙ sym (get_or-put_chunk_at to ws (united_block ws to from) k 0 lt (omega (arith, length-united)))
      ∙ same (to + k) (omega arith)
      ∙ sym (get_or-chunk to 4 ws k 0 below)
      ∙ get_or_default (chunk to 4 ws) k 0 d (omega (arith, length-chunk to 4 ws to_in)))

-- one block more
pub united_more : (old mid new : List ℕ) (to from len done : ℕ) (before now : Bool) → (to + len ≤ from)
    ⊎ ((from + len ≤ to) ⊎ (to ≡ from)) → done + 4 ≤ len
    → IsUnited old mid to from done before → IsUnited mid new (to + done) (from + done) 4 now
    → IsUnited old new to from (done + 4) (now || before)
united_more old mid new to from len done before now apart room a b = record {
  united = λ k lt. elim (cases_lt k done) [
    | inl h ↦ b.others (to + k) (inl (omega arith)) ∙ a.united k h
    | inr h ↦
        let at : (start : ℕ) → start + done + (k - done) ≡ start + k = λ start. omega arith in
        let here : get_or new (to + k) 0 ≡ bit_or (get_or mid (to + k) 0) (get_or mid (from + k) 0) =
        ap (λ i. get_or new i 0) (sym (at to)) ∙ b.united (k - done) (omega arith)
        ∙ ap₂ bit_or (ap (λ i. get_or mid i 0) (at to)) (ap (λ i. get_or mid i 0) (at from)) in
        let source : (from + k < to) ⊎ (to + done ≤ from + k) = elim apart [
          | inl after ↦ inr (omega arith)
          | inr rest ↦ elim rest [ inl front ↦ inl (omega arith) | inr same ↦ inr (omega arith) ]
        ] in
        here ∙ ap₂ bit_or (a.others (to + k) (inr (omega arith))) (a.others (from + k) source)
  ];
  others = λ k out. elim out [
    | inl lt ↦ b.others k (inl (omega arith)) ∙ a.others k (inl lt)
    | inr le ↦ b.others k (inr (omega arith)) ∙ a.others k (inr (omega arith))
  ];
  stayed = λ h k. b.stayed (neither now before h).0 k ∙ a.stayed (neither now before h).1 k;
  grew = λ h same. elim (either now before h) [
    | inl g ↦ b.grew g (λ k lt. elim (cases_lt k (to + done)) [
      | inl below ↦ b.others k (inl below)
      | inr above ↦ same k (omega arith) ∙ sym (a.others k (inr above))
    ])
    | inr g ↦ a.grew g (λ k lt. sym (b.others k (inl lt)) ∙ same k (omega arith))
  ];
}
  where
    neither : (x y : Bool) → (x || y) ≡ false → (x ≡ false) × (y ≡ false)
    neither true y h = absurd cc
    neither false y h = (refl, h)

    either : (x y : Bool) → (x || y) ≡ true → (x ≡ true) ⊎ (y ≡ true)
    either true y h = inl refl
    either false y h = inr h

pub united_none : (old : List ℕ) (to from : ℕ) → IsUnited old old to from 0 false
united_none old to from = record {
  united = λ k lt. absurd (omega arith);
  others = λ k out. refl;
  stayed = λ h k. refl;
  grew = λ h same. absurd cc;
}
