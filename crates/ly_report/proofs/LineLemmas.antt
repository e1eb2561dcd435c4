-- Text from its parts.
use Rattle.std.proofs.Common.{◌≡◌, ◌∙◌, ◌<◌, ◌≤◌, ◌+◌, ◌++◌, ◌∷◌, [], ℕ, zero, suc, List, None, Some, arith}
use Rattle.std.proofs.Common.{append_assoc, ap, get_or, length, map, reverse, sym, take}
use Rattle.std.specs.Prelude.{flat_map, slice_get}
use Rattle.std.proofs.lemmas.List.{flat_map_more, map_more, take_more}
use Rattle.std.proofs.lemmas.Option.{get_or_from_slice_get, none-some, slice_get_within}
use Rattle.ly_join.specs.Grammar.{Symbol}
use Rattle.ly_join.specs.Joined.{Spec}
use Rattle.ly_resolve.specs.Conflicts.{Conflict}
use Rattle.ly_report.specs.Report.{choice_text, conflict_line, place_text}

-- what was appended in two parts
pub joined : {mid new : List ℕ} (out a b : List ℕ) → new ≡ mid ++ b → mid ≡ out ++ a → new ≡ out ++ (a ++ b)
joined out a b e f = e ∙ ap (λ l. l ++ b) f ∙ append_assoc out a b

-- one line more
pub lines_more : {X : Type 0} (line : X → List ℕ) (xs : List X) (i : ℕ) (d : X) (out mid new : List ℕ) → i < length xs
    → mid ≡ out ++ flat_map line (take i xs) → new ≡ mid ++ line (get_or xs i d)
    → new ≡ out ++ flat_map line (take (i + 1) xs)
lines_more line xs i d out mid new lt before e =
    e ∙ ap (λ l. l ++ line (get_or xs i d)) before ∙ flat_map_more line out (take i xs) (get_or xs i d)
    ∙ ap (λ l. out ++ flat_map line l) (sym (take_more xs i d lt))

-- and of what is made of one that stands at a place
pub made_more : {X Y : Type 0} (line : Y → List ℕ) (f : X → Y) (xs : List X) (i : ℕ) (x : X) (out mid new : List ℕ)
    → slice_get xs i ≡ Some x → mid ≡ out ++ flat_map line (map f (take i xs)) → new ≡ mid ++ line (f x)
    → new ≡ out ++ flat_map line (map f (take (i + 1) xs))
made_more line f xs i x out mid new is before e =
    e ∙ ap (λ l. l ++ line (f x)) before ∙ flat_map_more line out (map f (take i xs)) (f x)
    ∙ ap (λ y. out ++ flat_map line (map f (take i xs) ++ f y ∷ [])) (sym (get_or_from_slice_get xs i x x is))
    ∙ ap (λ l. out ++ flat_map line l) (sym (map_more f xs i x (slice_get_within xs i x is)))

-- past a list nothing stands
pub none_past : {X : Type 0} (xs : List X) (i : ℕ) → slice_get xs i ≡ None → length xs ≤ i
none_past [] i e = omega arith
none_past (x ∷ xs) zero e = absurd (none-some x (sym e))
none_past (x ∷ xs) (suc i) e = omega (arith, none_past xs i e)

-- where a conflict is, and what is chosen, are the conflict
pub conflict_told : (s : Spec) (c : Conflict) (out one two : List ℕ) (w : List Symbol) → w ≡ reverse c.prefix
    → one ≡ out ++ place_text s c.kind w c.terminal → two ≡ one ++ choice_text c.choice c.rule
    → two ≡ out ++ conflict_line s c
conflict_told s c out one two w same place choice =
    choice ∙ ap (λ l. l ++ choice_text c.choice c.rule)
    (place ∙ ap (λ v. out ++ place_text s c.kind v c.terminal) same)
    ∙ append_assoc out (place_text s c.kind (reverse c.prefix) c.terminal) (choice_text c.choice c.rule)
