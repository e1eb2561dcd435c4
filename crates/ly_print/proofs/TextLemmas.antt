-- Lemmas on bytes between quotes.
use Rattle.std.proofs.Common.{◌≡◌, ◌∙◌, ◌<◌, ◌≤◌, ◌+◌, ◌-◌, ◌++◌, ◌∷◌, [], ℕ, List, true, false, length, take, drop}
use Rattle.std.proofs.Common.{get_or, sym, ap, arith, append-nil, append_assoc, get_or-drop, length-drop}
use Rattle.std.proofs.Common.{flat_map, take-append-drop}
use Rattle.std.proofs.Math.Seq.{take-add}
use Rattle.std.proofs.lemmas.Grind.{flat_map-append}
use Rattle.std.proofs.lemmas.Bool.{cond-false, cond-true}
use Rattle.std.proofs.lemmas.List.{flat_map_more, take_more}
use Rattle.ly_base.specs.Bytes.{double_quote}
use Rattle.ly_base.proofs.EscapeLemmas.{whole_slice}
use Rattle.ly_print.specs.Text.{before_leaf, escape_for, escaped, escaped_byte, is_plain, leaf_of, name_of, quoted}
use Rattle.ly_print.specs.Text.{Terminal}

-- a run with one more byte
run_more : (bytes : List ℕ) (start at : ℕ) → start ≤ at → at < length bytes
    → take (at + 1 - start) (drop start bytes) ≡ take (at - start) (drop start bytes) ++ get_or bytes at 0 ∷ []
run_more bytes start at behind within =
    let more : at + 1 - start ≡ (at - start) + 1 = omega arith in
    let byte : get_or (drop start bytes) (at - start) 0 ≡ get_or bytes at 0 = get_or-drop start bytes (at - start) 0
    ∙ ap (λ n. get_or bytes n 0) (omega arith) in
    ap (λ n. take n (drop start bytes)) more ∙ take_more (drop start bytes) (at - start) 0
    (omega (arith, length-drop start bytes))
    ∙ ap (λ b. take (at - start) (drop start bytes) ++ b ∷ []) byte

-- one more byte between quotes
escaped_more : (quote : ℕ) (bytes before : List ℕ) (at : ℕ) → at < length bytes
    → before ++ escaped quote (take (at + 1) bytes) ≡ (before ++ escaped quote (take at bytes)) ++ escaped_byte quote
    (get_or bytes at 0)
escaped_more quote bytes before at within = ap (λ t. before ++ escaped quote t) (take_more bytes at 0 within)
    ∙ sym (flat_map_more (escaped_byte quote) before (take at bytes) (get_or bytes at 0))

-- a leaf's text behind what stands before it
pub quoted_leaf : (n : Terminal) (text : List ℕ) → quoted (before_leaf n) text ≡ leaf_of n text
quoted_leaf n text = append_assoc (name_of n) (double_quote ∷ []) (escaped double_quote text ++ double_quote ∷ [])

module _ (quote : ℕ) (bytes before out : List ℕ) (start at : ℕ) (behind : start ≤ at) (within : at < length bytes)
    (so_far : out ++ take (at - start) (drop start bytes) ≡ before ++ escaped quote (take at bytes)) where
  -- a byte that stands for itself goes on with the run
  pub plain_step : is_plain quote (get_or bytes at 0) ≡ true
      → out ++ take (at + 1 - start) (drop start bytes) ≡ before ++ escaped quote (take (at + 1) bytes)
  plain_step plain = ap (λ t. out ++ t) (run_more bytes start at behind within)
      ∙ sym (append_assoc out (take (at - start) (drop start bytes)) (get_or bytes at 0 ∷ []))
      ∙ ap (λ t. t ++ get_or bytes at 0 ∷ []) so_far
      ∙ ap (λ t. (before ++ escaped quote (take at bytes)) ++ t) (sym (cond-true _ _ _ plain))
      ∙ sym (escaped_more quote bytes before at within)

  -- any other byte ends the run
  pub escape_step : is_plain quote (get_or bytes at 0) ≡ false
      → ((out ++ take (at - start) (drop start bytes)) ++ escape_for (get_or bytes at 0)) ++ take (at + 1 - (at + 1))
      (drop (at + 1) bytes)
      ≡ before ++ escaped quote (take (at + 1) bytes)
  escape_step other = let none : at + 1 - (at + 1) ≡ 0 = omega arith in
      rw none (append-nil ((out ++ take (at - start) (drop start bytes)) ++ escape_for (get_or bytes at 0))
      ∙ ap (λ t. t ++ escape_for (get_or bytes at 0)) so_far
      ∙ ap (λ t. (before ++ escaped quote (take at bytes)) ++ t) (sym (cond-false _ _ _ other))
      ∙ sym (escaped_more quote bytes before at within))

-- What is written for each byte, one behind another.
module _ (each : ℕ → List ℕ) (before bytes : List ℕ) (at : ℕ) where
  -- more bytes, behind others
  pub run_behind : (run : ℕ)
      → (before ++ flat_map each (take at bytes)) ++ flat_map each (take run (take (length bytes - at) (drop at bytes)))
      ≡ before ++ flat_map each (take (at + run) bytes)
  run_behind run =
      ap (λ t. (before ++ flat_map each (take at bytes)) ++ flat_map each (take run t)) (whole_slice at bytes)
      ∙ append_assoc before (flat_map each (take at bytes)) (flat_map each (take run (drop at bytes)))
      ∙ ap (λ t. before ++ t) (sym (flat_map-append each (take at bytes) (take run (drop at bytes)))
      ∙ ap (flat_map each) (sym (take-add at run bytes)))

  -- one more
  pub next_behind : at < length bytes
      → (before ++ flat_map each (take at bytes)) ++ each (get_or bytes at 0)
      ≡ before ++ flat_map each (take (at + 1) bytes)
  next_behind within = flat_map_more each before (take at bytes) (get_or bytes at 0)
      ∙ ap (λ t. before ++ flat_map each t) (sym (take_more bytes at 0 within))

-- what is written before a byte, for it, and behind it
pub split_at : (each : ℕ → List ℕ) (bytes : List ℕ) (at : ℕ) → at < length bytes
    → (flat_map each (take at bytes) ++ each (get_or bytes at 0)) ++ flat_map each (drop (at + 1) bytes)
    ≡ flat_map each bytes
split_at each bytes at within =
    ap (λ t. t ++ flat_map each (drop (at + 1) bytes)) (next_behind each [] bytes at within)
    ∙ sym (flat_map-append each (take (at + 1) bytes) (drop (at + 1) bytes))
    ∙ ap (flat_map each) (take-append-drop (at + 1) bytes)
