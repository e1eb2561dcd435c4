-- Rows of entries in memory.
use Rattle.std.proofs.Common.{◌≡◌, ◌∙◌, ◌<◌, ◌+◌, ◌*◌, ◌&&◌, ℕ, List, Option, Some, None, ap, ap₂, arith, inl, inr, sym}
use Rattle.std.proofs.Common.{length, map, nat_eq, set, slice_get}
use Rattle.std.specs.Prelude.{if◌then◌else◌, option_and_then, option_map, IfSome}
use Rattle.std.proofs.Math.ListN.{replicate}
use Rattle.std.proofs.lemmas.Bool.{cases_lt}
use Rattle.std.proofs.lemmas.List.{get_or-replicate, length-map, length-replicate, map-set}
use Rattle.std.proofs.lemmas.Option.{slice_get-get_or, slice_get-map, slice_get_past}
use Rattle.ly_base.proofs.CellLemmas.{cell-set}
use Rattle.ly_scan.specs.Private.StateRows.{target_in, AreRows}
use Rattle.ly_scan.specs.StateRows.{row_entry, row_width}

-- a state that there is has a row
pub has_row : (next : Option ℕ) (states entries : ℕ) → entries ≡ states * row_width → IfSome next (λ n. n < states)
    → IfSome next (λ n. n * row_width < entries)
has_row None states entries count h = tt
has_row (Some n) states entries count h = omega (arith, count, h)

-- where a state's row begins is a number of 32 bits
pub row_counted : (entries : List ℕ) (rows : List (Option ℕ)) (next : Option ℕ) → AreRows entries
    → map target_in entries ≡ rows → IfSome next (λ n. n * row_width < length rows)
    → IfSome next (λ n. n * row_width < 4294967296)
row_counted entries rows None is seen h = tt
row_counted entries rows (Some n) is seen h = omega (
  arith,
  h,
  is.few,
  ap length (sym seen),
  length-map entries target_in,
)

-- rows in which an entry was put
pub entries_set : (entries : List ℕ) (rows : List (Option ℕ)) (e : ℕ) (state column : ℕ) (next : Option ℕ)
    → map target_in entries ≡ rows → target_in e ≡ next → column < 256 → state * row_width + column < length rows
    → (s c : ℕ) → c < 256 → row_entry (map target_in (set entries (state * row_width + column) e)) s c
    ≡ (if nat_eq s state && nat_eq c column then next else row_entry rows s c)
entries_set entries rows e state column next seen is low there s c within =
    ap (λ xs. row_entry xs s c) (map-set target_in entries (state * row_width + column) e
    ∙ ap₂ (λ xs (x : Option ℕ). set xs (state * row_width + column) x) seen is)
    ∙ cell-set rows row_width state column next (omega (arith, low)) there s c (omega (arith, within))

-- entries of which none leads anywhere
pub none_lead : (entries : List ℕ) (e : ℕ) (n : ℕ) → target_in e ≡ None → entries ≡ replicate n e → (s c : ℕ)
    → row_entry (map target_in entries) s c ≡ None
none_lead entries e n none all s c = elim (cases_lt (s * row_width + c) n) [
  | inl lt ↦ ap (option_and_then (λ next. next)) (same ∙ ap (option_map target_in)
      (slice_get-get_or (replicate n e) (s * row_width + c) e (omega (arith, length-replicate n e))
      ∙ ap Some (get_or-replicate n (s * row_width + c) e e lt))) ∙ none
  | inr past ↦ ap (option_and_then (λ next. next)) (same ∙ ap (option_map target_in)
      (slice_get_past (replicate n e) (s * row_width + c) (omega (arith, length-replicate n e))))
]
  where
    same : slice_get (map target_in entries) (s * row_width + c)
        ≡ option_map target_in (slice_get (replicate n e) (s * row_width + c))
    same = slice_get-map target_in entries (s * row_width + c)
        ∙ ap (λ xs. option_map target_in (slice_get xs (s * row_width + c))) all
