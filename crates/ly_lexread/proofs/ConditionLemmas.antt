-- The numbers of conditions.
use Rattle.std.proofs.Common.{◌≡◌, ◌<◌, List, [], ◌∷◌, ◌++◌, length, ap, sym, ◌∙◌, ◌+◌, ℕ, Bool, refl, Vec}
use Rattle.std.proofs.Common.{arith, take, get_or, length-take, add-one}
use Rattle.std.specs.Global.{Global}
use Rattle.std.specs.List.{slice_get}
use Rattle.std.specs.Prelude.{Option, Some, true, false, if◌then◌else◌, map, zip}
use Rattle.std.proofs.lemmas.List.{length-map, map-append}
use Rattle.std.proofs.lemmas.Option.{get_or_from_slice_get}
use Rattle.ly_base.proofs.KeyLemmas.{zip_push}
use Rattle.ly_lexread.specs.LexText.{said_of}
use Rattle.ly_lexread.specs.declared.file.StartCondition.{StartCondition}
use Rattle.std.proofs.Math.Seq.{take-suc}
use Rattle.std.proofs.lemmas.Slice.Zip.{length-zip}
use Rattle.ly_lexread.specs.Conditions.{Condition, inclusive_from}

-- the places of what isn't exclusive, from a number on
pub places : ℕ → List Bool → List ℕ
places n [] = []
places n (x ∷ xs) = if x then places (n + 1) xs else n ∷ places (n + 1) xs

pub places_zip : {K : Type 0} (f : K → List ℕ) (ks : List K) (es : List Bool) (ls : List ℕ) (n : ℕ)
    → length ks ≡ length es → length ls ≡ length es → places n es ≡ inclusive_from n (zip (map f ks) (zip es ls))
unfolding places
places_zip f [] [] ls n e h = refl
places_zip f [] (y ∷ es) ls n e h = absurd (omega (arith, e))
places_zip f (k ∷ ks) [] ls n e h = absurd (omega (arith, e))
places_zip f (k ∷ ks) (y ∷ es) [] n e h = absurd (omega (arith, h))
places_zip f (k ∷ ks) (true ∷ es) (l ∷ ls) n e h = places_zip f ks es ls (n + 1) (omega (arith, e)) (omega (arith, h))
places_zip f (k ∷ ks) (false ∷ es) (l ∷ ls) n e h
    = ap (λ ns. n ∷ ns) (places_zip f ks es ls (n + 1) (omega (arith, e)) (omega (arith, h)))

-- what stands beside the names is as long as they are many
pub beside_keys : {K : Type 0} (ks : List K) (es : List Bool) (ls : List ℕ) → length ks ≡ length es
    → length ls ≡ length es → length ks ≡ length (zip es ls)
beside_keys ks es ls e h = omega (arith, e, h, length-zip es ls)

-- what is beside the names, part by part
pub zip_parts : {K : Type 0} (f : K → List ℕ) (at : ℕ → Option ℕ) (ks : List K) (es : List Bool) (ls : List ℕ)
    → length ks ≡ length es → length ls ≡ length es
    → zip (map f ks) (map at ls) ≡ map (λ (c : Condition). (c.0, at c.1.1)) (zip (map f ks) (zip es ls))
zip_parts f at [] es ls e h = refl
zip_parts f at (k ∷ ks) [] ls e h = absurd (omega (arith, e))
zip_parts f at (k ∷ ks) (y ∷ es) [] e h = absurd (omega (arith, h))
zip_parts f at (k ∷ ks) (y ∷ es) (l ∷ ls) e h
    = ap (λ ps. (f k, at l) ∷ ps) (zip_parts f at ks es ls (omega (arith, e)) (omega (arith, h)))

-- one more name that is read
pub names_step : (ks : List (Vec ℕ Global)) (ls : List ℕ) (at : ℕ → Option ℕ) (k : ℕ) (name : Vec ℕ Global) (l : ℕ)
    (all more : List StartCondition) (one : StartCondition) → length ks ≡ length ls → k < length ls
    → slice_get ks k ≡ Some name → l ≡ get_or ls k 0 → more ≡ all ++ one ∷ [] → said_of one ≡ (name.items, at l)
    → map said_of all ≡ zip (map (λ x. x.items) (take k ks)) (map at (take k ls))
    → map said_of more ≡ zip (map (λ x. x.items) (take (k + 1) ks)) (map at (take (k + 1) ls))
names_step ks ls at k name l all more one e h is lis more_is one_is so_far =
    let keys : take (k + 1) ks ≡ take k ks ++ name ∷ []
    = rw (add-one k, take-suc ks k name (omega (arith, e, h)), get_or_from_slice_get ks k name name is) refl in
    let places : take (k + 1) ls ≡ take k ls ++ l ∷ [] = rw (add-one k, take-suc ls k 0 h, ← lis) refl in
    let many : length (take k ks) ≡ length (map at (take k ls))
    = omega (arith, length-take k ks, length-take k ls, length-map (take k ls) at, e) in
    ap (map said_of) more_is ∙ (map-append said_of all (one ∷ [])
    ∙ (ap (λ ps. map said_of all ++ ps ∷ []) one_is ∙ (ap (λ ps. ps ++ (name.items, at l) ∷ []) so_far
    ∙ (sym (zip_push (λ x. x.items) (take k ks) (map at (take k ls)) name (at l) many)
    ∙ (ap (λ vs. zip (map (λ x. x.items) (take k ks ++ name ∷ [])) vs) (sym (map-append at (take k ls) (l ∷ [])))
    ∙ (ap (λ vs. zip (map (λ x. x.items) vs) (map at (take k ls ++ l ∷ []))) (sym keys)
    ∙ ap (λ vs. zip (map (λ x. x.items) (take (k + 1) ks)) (map at vs)) (sym places)))))))

pub zip_more : (es : List Bool) (ls : List ℕ) (e : Bool) (n : ℕ) → length ls ≡ length es
    → zip (es ++ e ∷ []) (ls ++ n ∷ []) ≡ zip es ls ++ (e, n) ∷ []
zip_more [] [] e n h = refl
zip_more [] (l ∷ ls) e n h = absurd (omega (arith, h))
zip_more (x ∷ es) [] e n h = absurd (omega (arith, h))
zip_more (x ∷ es) (l ∷ ls) e n h = ap (λ ps. (x, l) ∷ ps) (zip_more es ls e n (omega (arith, h)))

places_append : (n : ℕ) (xs ys : List Bool) → places n (xs ++ ys) ≡ places n xs ++ places (n + length xs) ys
unfolding places
places_append n [] ys = ap (λ k. places k ys) (omega arith)
places_append n (true ∷ xs) ys = places_append (n + 1) xs ys
    ∙ ap (λ k. places (n + 1) xs ++ places k ys) (omega arith)
places_append n (false ∷ xs) ys = ap (λ ns. n ∷ ns) (places_append (n + 1) xs ys
    ∙ ap (λ k. places (n + 1) xs ++ places k ys) (omega arith))

places_last : (x : Bool) (k n : ℕ) → k ≡ n → places k (x ∷ []) ≡ (if x then [] else n ∷ [])
unfolding places
places_last true k n e = refl
places_last false k n e = ap (λ i. i ∷ []) e

-- one more
pub places_more : (xs : List Bool) (x : Bool) → places 0 (xs ++ x ∷ []) ≡ places 0 xs ++
    (if x then [] else length xs ∷ [])
places_more xs x = places_append 0 xs (x ∷ [])
    ∙ ap (λ ns. places 0 xs ++ ns) (places_last x (0 + length xs) (length xs) (omega arith))

pub no_places : places 0 [] ≡ []
unfolding places
no_places = refl

-- the places up to the next one
pub places_step : (xs : List Bool) (k : ℕ) (x : Bool) → k < length xs → get_or xs k false ≡ x
    → places 0 (take (k + 1) xs) ≡ places 0 (take k xs) ++ (if x then [] else k ∷ [])
places_step xs k x h e =
    let one : take (k + 1) xs ≡ take k xs ++ x ∷ [] = rw (add-one k, take-suc xs k false h, e) refl in
    ap (places 0) one ∙ places_more (take k xs) x
    ∙ ap (λ n. places 0 (take k xs) ++ (if x then [] else n ∷ [])) (length-take k xs ∙ omega arith)
