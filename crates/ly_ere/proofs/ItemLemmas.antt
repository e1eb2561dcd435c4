-- What a bracket expression lists is determined.
use Rattle.std.proofs.Common.{◌≡◌, ◌≢◌, ℕ, List, [], ◌∷◌, ◌++◌, drop, Bool, true, false, Some, refl, sym, ap, subst}
use Rattle.std.proofs.Common.{◌∙◌}
use Rattle.std.specs.Prelude.{not}
use Rattle.ly_base.specs.ByteSet.{bytes_where}
use Rattle.ly_ere.specs.Private.Brackets.{names}
use Rattle.ly_ere.specs.Elements.{begins, stands_at}
use Rattle.ly_ere.specs.Elements.{IsClass, Item, class, equivalent, points, Items, no_more, more, Bracketed, listed}
use Rattle.ly_ere.specs.Elements.{excluded, Points, begins_range, in_ranges}
use Rattle.ly_ere.proofs.ClassLemmas.{class_one}
use Rattle.ly_ere.proofs.PointLemmas.{name_at, names_byte, points_begin, points_one}

class_begins : (t rest : List ℕ) (rs : List (ℕ × ℕ)) → IsClass t rs rest → begins t 58 ≡ true
class_begins t rest rs h = rw h.2 refl

-- a class and `[= =]` have their own marks
class_other : (t rest : List ℕ) (rs : List (ℕ × ℕ)) → IsClass t rs rest → begins t 61 ≡ false
class_other t rest rs h = rw h.2 refl

pub item_class : {first : Bool} {t rest : List ℕ} {rs : List (ℕ × ℕ)} → Item first t rs rest → begins t 58 ≡ true
    → IsClass t rs rest
item_class (class first t rest rs h) e = h
item_class (equivalent first b rest n) e = absurd (cc)
item_class (points first t rest rs n h) e = let k = points_begin h in absurd (cc)

pub item_equivalent : {first : Bool} {t rest : List ℕ} {rs : List (ℕ × ℕ)} → Item first t rs rest → begins t 61 ≡ true
    → (b : ℕ) × (names t 61 ≡ Some b) × (rs ≡ (b, b) ∷ []) × (rest ≡ drop 5 t)
item_equivalent (class first t rest rs h) e = let k = class_other t rest rs h in absurd (cc)
item_equivalent (equivalent first b rest n) e = (b, names_byte 61 b rest n, refl, refl)
item_equivalent (points first t rest rs n h) e = let k = points_begin h in absurd (cc)

item_points : {first : Bool} {t rest : List ℕ} {rs : List (ℕ × ℕ)} → Item first t rs rest → begins t 58 ≡ false
    → begins t 61 ≡ false → (first ≡ false → begins_range t ≡ false) × Points t rs rest
item_points (class first t rest rs h) e f = let k = class_begins t rest rs h in absurd (cc)
item_points (equivalent first b rest n) e f = absurd (cc)
item_points (points first t rest rs n h) e f = (n, h)

-- an item is determined
pub item_one : {first : Bool} {t rest left : List ℕ} {rs ss : List (ℕ × ℕ)} → Item first t rs rest
    → Item first t ss left → (rs ≡ ss) × (rest ≡ left)
item_one (class first t rest rs h) k = class_one h (item_class k (class_begins t rest rs h))
item_one (equivalent first b rest n) k =
    let h = item_equivalent k refl in
    let e = names_byte 61 b rest n in
    (cc, sym h.3)
item_one (points first t rest rs n h) k = let b = points_begin h in points_one h (item_points k b.0 b.1).1

-- the items behind the first of them
pub items_more : {first : Bool} {t rest : List ℕ} {rs : List (ℕ × ℕ)} → Items first t rs rest
    → (qs : List (ℕ × ℕ)) (behind : List ℕ) → (first ≡ false → stands_at t 0 93 ≡ false) → Item first t qs behind
    → (ss : List (ℕ × ℕ)) × Items false behind ss rest × (rs ≡ qs ++ ss)
items_more (no_more rest) qs behind n h = let e = n refl in absurd (cc)
items_more (more first t left rest rs ss m k others) qs behind n h =
    let e = item_one k h in
    (ss, subst (λ x. Items false x ss rest) e.1 others, ap (λ x. x ++ ss) e.0)

pub items_some : {first : Bool} {t rest : List ℕ} {rs : List (ℕ × ℕ)} → Items first t rs rest
    → (first ≡ false → stands_at t 0 93 ≡ false) → (qs : List (ℕ × ℕ)) × (behind : List ℕ) × Item first t qs behind
items_some (no_more rest) n = let e = n refl in absurd (cc)
items_some (more first t behind rest rs ss m k others) n = (rs, behind, k)

-- items are determined
pub items_one : {first : Bool} {t rest left : List ℕ} {rs ss : List (ℕ × ℕ)} → Items first t rs rest
    → Items first t ss left → (rs ≡ ss) × (rest ≡ left)
items_one (no_more rest) (no_more left) = (refl, refl)
items_one (no_more rest) (more first t behind left rs ss m k others) = let n = m refl in absurd (cc)
items_one (more first t behind rest rs ss m h others) k =
    let e = items_more k rs behind m h in
    let f = items_one others e.1 in
    (ap (λ x. rs ++ x) f.0 ∙ sym e.2, f.1)

pub listed_items : {t bytes rest : List ℕ} → Bracketed t bytes rest → stands_at t 0 94 ≡ false → (rs : List (ℕ × ℕ))
    × Items true t rs rest × (bytes ≡ bytes_where (in_ranges rs)) × (bytes ≢ [])
listed_items (listed t rest rs n h some) e = (rs, h, refl, some)
listed_items (excluded t rest rs h some) e = absurd (cc)

pub excluded_items : {t bytes rest : List ℕ} → Bracketed t bytes rest → stands_at t 0 94 ≡ true → (rs : List (ℕ × ℕ))
    × Items true (drop 1 t) rs rest × (bytes ≡ bytes_where (λ b. not (in_ranges rs b))) × (bytes ≢ [])
excluded_items (listed t rest rs n h some) e = absurd (cc)
excluded_items (excluded t rest rs h some) e = (rs, h, refl, some)

-- what is listed is determined
pub listed_one : {t bytes cs rest left : List ℕ} → Bracketed t bytes rest → Bracketed t cs left → (bytes ≡ cs)
    × (rest ≡ left)
listed_one (listed t rest rs n h some) k =
    let e = listed_items k n in
    let f = items_one h e.1 in
    (ap (λ x. bytes_where (in_ranges x)) f.0 ∙ sym e.2, f.1)
listed_one (excluded t rest rs h some) k =
    let e = excluded_items k refl in
    let f = items_one h e.1 in
    (ap (λ x. bytes_where (λ b. not (in_ranges x b))) f.0 ∙ sym e.2, f.1)

-- `[= =]`
pub named_item : (first : Bool) (t : List ℕ) (b n : ℕ) → begins t 61 ≡ true → names t 61 ≡ Some b → n ≡ 5
    → Item first t ((b, b) ∷ []) (drop n t)
named_item first t b n h q e =
    let k = name_at t 61 b h q in
    let P : List ℕ → Type 0 = λ x. Item first x ((b, b) ∷ []) (drop 5 t) in
    rw e (subst P (sym k.0) (equivalent first b (drop 5 t) k.1))
