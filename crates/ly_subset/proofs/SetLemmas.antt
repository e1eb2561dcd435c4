-- Lists that are kept packed.
use Rattle.std.proofs.Common.{◌≡◌, ◌<◌, ◌∙◌, ℕ, List, [], ◌∷◌, ◌++◌, Option, Some, None, Result, Ok, Err}
use Rattle.std.proofs.Common.{sym, ap, subst}
use Rattle.std.proofs.Common.{arith, length, map, get_or}
use Rattle.std.specs.Prelude.{MatchOption, OnErr, OnOk}
use Rattle.std.proofs.lemmas.List.{get_or-map, length-map}
use Rattle.ly_base.specs.Keys.{IsAbsent}
use Rattle.ly_subset.specs.Private.Packed.{ArePacked, AreWords, IsPacked, pack, unpack}
use Rattle.ly_subset.specs.Private.Keys.{IsKeyOf}
use Rattle.ly_subset.proofs.FoundLemmas.{each_more}
use Rattle.ly_subset.proofs.PackedLemmas.{unpack-pack}

-- a packed row that isn't there is that of another list
pub other_list : (rows : List (List ℕ)) (row : List ℕ) → ArePacked rows → IsPacked row → IsAbsent rows row
    → IsAbsent (map unpack rows) (unpack row)
other_list rows row packed is absent n l e =
    let less : n < length rows = omega (arith, l, length-map rows unpack) in
    let same : unpack (get_or rows n []) ≡ unpack row = sym (get_or-map unpack rows n [] [] less) ∙ e in
    absent n less ((packed n less).0 ∙ ap pack same ∙ sym is.0)

pub other_row : (rows : List (List ℕ)) (row : List ℕ) → IsAbsent (map unpack rows) (unpack row) → IsAbsent rows row
other_row rows row absent n l e = absent n (omega (arith, l, length-map rows unpack))
    (get_or-map unpack rows n [] [] l ∙ ap unpack e)

-- what a look-up of the row tells of the list
pub found_list : (rows : List (List ℕ)) (row : List ℕ) (o : Option ℕ) → ArePacked rows → IsPacked row
    → MatchOption o (IsAbsent rows row) (λ n. (n < length rows) × (get_or rows n [] ≡ row))
    → MatchOption o (IsAbsent (map unpack rows) (unpack row))
    (λ n. (n < length (map unpack rows)) × (get_or (map unpack rows) n [] ≡ unpack row))
found_list rows row None packed is h = other_list rows row packed is h
found_list rows row (Some n) packed is h =
    (omega (arith, h.0, length-map rows unpack), get_or-map unpack rows n [] [] h.0 ∙ ap unpack h.1)

-- one row more
pub packed_after : {T E : Type 0} (r : Result T E) (old new : List (List ℕ)) (row : List ℕ)
    → OnOk r (new ≡ old ++ row ∷ []) → OnErr r (new ≡ old) → ArePacked old → IsPacked row → ArePacked new
packed_after (Ok x) old new row added held packed is = subst ArePacked (sym added)
    (each_more old row (λ n r. IsPacked r) packed is)
packed_after (Err x) old new row added held packed is = subst ArePacked (sym held) packed

-- the key of a set, packed
pub packed_key : (members sorted given row : List ℕ) → IsKeyOf members sorted → given ≡ sorted → AreWords given
    → row ≡ pack given → IsKeyOf members (unpack row) × IsPacked row
packed_key members sorted given row key same words is =
    let back : unpack row ≡ sorted = ap unpack (is ∙ ap pack same) ∙ unpack-pack sorted key.rising in (
      subst (IsKeyOf members) (sym back) key,
      (is ∙ ap pack (same ∙ sym back), subst AreWords (same ∙ sym back) words),
    )
