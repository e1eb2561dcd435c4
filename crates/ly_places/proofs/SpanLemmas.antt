-- Where tokens stand.
use Rattle.std.proofs.Common.{◌≡◌, ◌∙◌, ℕ, zero, suc, ◌+◌, ◌-◌, ◌<◌, ◌≤◌, List, [], ◌∷◌, None, Option, Some, ap, arith}
use Rattle.std.proofs.Common.{drop, get_or, length, refl, sym, take}
use Rattle.std.proofs.lemmas.List.{get_or-drop, get_or-take, length-drop, length-take-le}
use Rattle.ly_places.specs.Placed.{end_or, extent_or, joined, start_or}
use Rattle.ly_places.specs.Private.Kept.{all_joined, first_extent}
use Rattle.ly_places.specs.Private.Waiting.{last_end}
use Rattle.ly_spans.specs.declared.span.Span.{Span}

-- from where the first of some tokens begins to where the last ends
joined_ends : (es : List Span) (n : ℕ) (d : Span) → n + 1 ≡ length es
    → all_joined es ≡ Some (record { start = (get_or es 0 d).start; end = (get_or es n d).end })
joined_ends [] n d h = absurd (omega arith)
joined_ends (e ∷ []) zero d h = refl
joined_ends (e ∷ []) (suc n) d h = absurd (omega arith)
joined_ends (e ∷ f ∷ es) zero d h = absurd (omega arith)
joined_ends (e ∷ f ∷ es) (suc n) d h = ap (joined (Some e)) (joined_ends (f ∷ es) n d (omega arith))

pub extent_is : (tokens : List Span) (first count last end : ℕ) (d : Span) → 1 ≤ count
    → first + count ≤ length tokens → end + 1 ≡ first + count
    → record { start = (get_or tokens first d).start; end = (get_or tokens end d).end }
    ≡ first_extent last count (drop first tokens)
extent_is tokens first count last end d some within is =
    let es = take count (drop first tokens) in
    let size : count - 1 + 1 ≡ length es
    = omega (
      arith,
      length-take-le count (drop first tokens) (omega (arith, length-drop first tokens)),
      length-drop first tokens,
    ) in
    let low : get_or es 0 d ≡ get_or tokens first d
    = get_or-take count (drop first tokens) 0 d (omega arith) ∙ (get_or-drop first tokens 0 d
    ∙ ap (λ k. get_or tokens k d) (omega arith)) in
    let high : get_or es (count - 1) d ≡ get_or tokens end d
    = get_or-take count (drop first tokens) (count - 1) d (omega arith) ∙ (get_or-drop first tokens (count - 1) d
    ∙ ap (λ k. get_or tokens k d) (omega arith)) in
    sym (ap (extent_or last) (joined_ends es (count - 1) d size)
    ∙ λ i. record { start = (low i).start; end = (high i).end })

-- an extent begins where its parts may, and ends where those behind may
pub or_start : (last : ℕ) (e : Option Span) → (extent_or last e).start ≡ start_or last e
or_start last None = refl
or_start last (Some e) = refl

pub or_end : (last : ℕ) (e : Option Span) → (extent_or last e).end ≡ end_or last e
or_end last None = refl
or_end last (Some e) = refl

-- the last token's end
pub last_end_is : (es : List Span) (e : Span) → 0 < length es → e ≡ get_or es (length es - 1) e
    → e.end ≡ last_end es
last_end_is [] e h is = absurd (omega arith)
last_end_is (a ∷ []) e h is = ap (λ x. x.end) is
last_end_is (a ∷ b ∷ es) e h is =
    last_end_is (b ∷ es) e (omega arith) (is ∙ next (length es) (length (a ∷ b ∷ es) - 1) (omega arith))
  where
    next : (n k : ℕ) → k ≡ suc n → get_or (a ∷ b ∷ es) k e ≡ get_or (b ∷ es) (suc n - 1) e
    next n k h = ap (λ j. get_or (a ∷ b ∷ es) j e) h ∙ ap (λ j. get_or (b ∷ es) j e) (omega arith)
