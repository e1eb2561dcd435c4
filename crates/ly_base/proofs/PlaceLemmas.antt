-- Lemmas on places of a text.
use Rattle.std.proofs.Common.{◌≡◌, ◌∙◌, ◌-◌, ◌+◌, ◌≤◌, ◌++◌, ℕ, List, [], ◌∷◌, Bool, Some, rules, arith, ap, eqb}
use Rattle.std.proofs.Common.{Option, refl, drop, length, length-drop, slice_get, take, take-add}
use Rattle.std.specs.Prelude.{unwrap_or}
use Rattle.ly_base.specs.Lexed.{after_line, moved, Place}

-- the last byte decides whether a line begins
pub after_last : (before : Bool) (token : List ℕ) (b : ℕ) → Some b ≡ slice_get token (length token - 1)
    → eqb b 10 ≡ after_line before token
after_last before [] b e = absurd (search rules)
after_last before (x ∷ []) b e = let same : b ≡ x = search rules in ap (λ y. eqb y 10) same
after_last before (x ∷ y ∷ ys) b e =
    let n : length (x ∷ y ∷ ys) - 1 ≡ length (y ∷ ys) - 1 + 1 = omega arith in
    let deeper : Some b ≡ slice_get (y ∷ ys) (length (y ∷ ys) - 1) = search rules in
    after_last (eqb x 10) (y ∷ ys) b deeper

-- more bytes are passed
after_more : (before : Bool) (xs ys : List ℕ) → after_line before (xs ++ ys) ≡ after_line (after_line before xs) ys
after_more before [] ys = refl
after_more before (x ∷ xs) ys = after_more (eqb x 10) xs ys

-- whether a line begins some bytes on
pub line_on : (before : Bool) (text : List ℕ) (at count : ℕ) → after_line before (take (at + count) text)
    ≡ after_line (after_line before (take at text)) (take count (drop at text))
line_on before text at count = ap (after_line before) (take-add at count text)
    ∙ after_more before (take at text) (take count (drop at text))

-- a place some bytes on
pub advanced : (before : Bool) (given_up : ℕ) (text rest left : List ℕ) (count condition kept : ℕ) (begin : Option ℕ)
    (p : Place)
    → length rest ≤ length text → drop (length text - length rest) text ≡ rest → count ≤ length rest
    → left ≡ drop count rest
    → (let q : Place = record {
      line = after_line before (take (length text - length rest) text);
      condition = kept;
      at = given_up + (length text - length rest);
      rest = rest;
    } in q) ≡ p
    → condition ≡ unwrap_or begin kept
    → (let q : Place = record {
      line = after_line before (take (length text - length left) text);
      condition = condition;
      at = given_up + (length text - length left);
      rest = left;
    } in q) ≡ moved p count begin
advanced before given_up text rest left count condition kept begin p within end few is_left is set =
    let at : ℕ = length text - length rest in
    let on : length text - length left ≡ at + count
    = omega (arith, ap length is_left, length-drop count rest, within, few) in
    let further : given_up + (length text - length left) ≡ given_up + at + count = omega (arith, on) in
    let line : after_line before (take (length text - length left) text)
    ≡ after_line (after_line before (take at text)) (take count rest)
    = ap (λ n. after_line before (take n text)) on ∙ line_on before text at count
    ∙ ap (λ xs. after_line (after_line before (take at text)) (take count xs)) end in
    (λ i. record { line = line i; condition = set i; at = further i; rest = is_left i })
    ∙ ap (λ (q : Place). moved q count begin) is
