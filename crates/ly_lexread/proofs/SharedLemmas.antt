-- The effects of rules, by what the rules say.
use Rattle.std.proofs.Common.{ℕ, ◌≡◌, ◌∙◌, ◌-◌, ap, List, [], ◌∷◌, ◌++◌, refl, subst, sym, append_assoc, map, reverse}
use Rattle.std.proofs.Common.{ℕ, length, Some, None, get_or, take, arith, suc}
use Rattle.std.specs.Prelude.{slice_get}
use Rattle.indexmap.proofs.ReorderLemmas.{map-reverse}
use Rattle.std.proofs.Math.Seq.{take-suc}
use Rattle.std.proofs.lemmas.List.{map-append, reverse-append, take_all}
use Rattle.std.proofs.lemmas.Option.{get_or_from_slice_get, slice_get_within, slice_get-get_or}
use Rattle.ly_lexread.specs.Action.{AreEffects, Effect, Saying, effect_of, next, own}
use Rattle.ly_lexread.specs.Private.Statements.{saying_of}
use Rattle.ly_lexread.specs.declared.action.LexAction.{LexAction}
use Rattle.ly_lexread.specs.declared.action.Said.{Said}
use Rattle.ly_lexread.specs.declared.action.Said.TheVariants.{Own, Next}

-- no rule follows the last one
pub no_next : (ss : List Saying) (es : List Effect) → AreEffects (ss ++ next ∷ []) es → ⊥
no_next [] [] h = h
no_next [] (e ∷ []) h = h
no_next [] (e ∷ f ∷ es) h = h.1
no_next (own d ∷ ss) [] h = h
no_next (own d ∷ ss) (e ∷ es) h = no_next ss es h.1
no_next (next ∷ ss) [] h = h
no_next (next ∷ ss) (e ∷ []) h = h
no_next (next ∷ ss) (e ∷ f ∷ es) h = no_next ss (f ∷ es) h.1

pub no_effects : (ss : List Saying) → AreEffects ss [] → ss ≡ []
no_effects [] h = refl
no_effects (own d ∷ ss) h = absurd h
no_effects (next ∷ ss) h = absurd h

-- effects are determined
pub effects_one : (ss : List Saying) (es fs : List Effect) → AreEffects ss es → AreEffects ss fs → es ≡ fs
effects_one [] [] [] a b = refl
effects_one [] [] (f ∷ fs) a b = absurd b
effects_one [] (e ∷ es) fs a b = absurd a
effects_one (own d ∷ ss) [] fs a b = absurd a
effects_one (own d ∷ ss) (e ∷ es) [] a b = absurd b
effects_one (own d ∷ ss) (e ∷ es) (f ∷ fs) a b =
    let same : e ≡ f = a.0 ∙ sym b.0 in
    let rest = effects_one ss es fs a.1 b.1 in
    cc
effects_one (next ∷ ss) [] fs a b = absurd a
effects_one (next ∷ ss) (e ∷ []) fs a b = absurd a
effects_one (next ∷ ss) (e ∷ g ∷ es) [] a b = absurd b
effects_one (next ∷ ss) (e ∷ g ∷ es) (f ∷ []) a b = absurd b
effects_one (next ∷ ss) (e ∷ g ∷ es) (f ∷ h ∷ fs) a b =
    let rest = effects_one ss (g ∷ es) (h ∷ fs) a.1 b.1 in
    let same : e ≡ f = cc (a.0, b.0, rest) in
    cc

-- the last of a list
pub last_none : {T : Type 0} (xs : List T) → slice_get xs (length xs - 1) ≡ None → xs ≡ []
last_none [] e = refl
last_none (x ∷ xs) e =
    let some : Some (get_or (x ∷ xs) (length (x ∷ xs) - 1) x) ≡ None
    = sym (slice_get-get_or (x ∷ xs) (length (x ∷ xs) - 1) x (omega arith)) ∙ e in
    absurd (cc)

pub last_some : {T : Type 0} (xs : List T) (l : T) → slice_get xs (length xs - 1) ≡ Some l
    → (init : List T) × (xs ≡ init ++ l ∷ [])
last_some [] l e = absurd (omega (arith, slice_get_within [] 0 l e))
last_some (x ∷ xs) l e =
    let n = length (x ∷ xs) - 1 in
    let all : take (suc n) (x ∷ xs) ≡ x ∷ xs = take_all (suc n) (x ∷ xs) (omega arith) in
    let is : get_or (x ∷ xs) n x ≡ l = get_or_from_slice_get (x ∷ xs) n l x e in (
      take n (x ∷ xs),
      sym all ∙ take-suc (x ∷ xs) n x (omega arith) ∙ ap (λ i. take n (x ∷ xs) ++ i ∷ []) is,
    )

pub turned_push : (actions : List LexAction) (a : LexAction) → reverse (map effect_of (actions ++ a ∷ []))
    ≡ effect_of a ∷ reverse (map effect_of actions)
turned_push actions a = ap reverse (map-append effect_of actions (a ∷ []))
    ∙ reverse-append (map effect_of actions) (effect_of a ∷ [])

module _ (all items front : List Said) (done : List Saying) (actions : List LexAction)
    (whole : map saying_of all ≡ map saying_of items ++ done)
    (effects : AreEffects done (reverse (map effect_of actions))) where
  parts : (s : Said) → items ≡ front ++ s ∷ [] → map saying_of all ≡ map saying_of front ++ saying_of s ∷ done
  parts s e = whole ∙ ap (λ i. map saying_of i ++ done) e ∙ ap (λ i. i ++ done) (map-append saying_of front (s ∷ []))
      ∙ append_assoc (map saying_of front) (saying_of s ∷ []) done

  pub bar_at_end : (s : Said) (left : ℕ) → items ≡ front ++ s ∷ [] → s ≡ Next left → actions ≡ [] → (es : List Effect)
      → AreEffects (map saying_of all) es → ⊥
  bar_at_end s left e is none es h =
      let over : done ≡ [] = no_effects done (subst (λ i. AreEffects done (reverse (map effect_of i))) none effects) in
      let last : map saying_of all ≡ map saying_of front ++ next ∷ []
      = parts s e ∙ ap (λ i. map saying_of front ++ saying_of i ∷ done) is
      ∙ ap (λ i. map saying_of front ++ next ∷ i) over in
      no_next (map saying_of front) es (subst (λ i. AreEffects i es) last h)

  pub own_on : (s : Said) (a b : LexAction) (more : List LexAction) → items ≡ front ++ s ∷ [] → s ≡ Own a → b ≡ a
      → more ≡ actions ++ b ∷ []
      → (ss : List Saying) × (map saying_of all ≡ map saying_of front ++ ss)
      × AreEffects ss (reverse (map effect_of more))
  own_on s a b more e is same f = (
    saying_of s ∷ done,
    parts s e,
    rw (f, turned_push actions b, is) (ap effect_of same, effects),
  )

  pub next_on : (s : Said) (left : ℕ) (a l : LexAction) (more : List LexAction) → items ≡ front ++ s ∷ []
      → s ≡ Next left
      → slice_get actions (length actions - 1) ≡ Some l → effect_of a ≡ effect_of l → more ≡ actions ++ a ∷ []
      → (ss : List Saying) × (map saying_of all ≡ map saying_of front ++ ss)
      × AreEffects ss (reverse (map effect_of more))
  next_on s left a l more e is at same f =
      let init = last_some actions l at in
      let turned_back : reverse (map effect_of actions) ≡ effect_of l ∷ reverse (map effect_of init.0)
      = ap (λ i. reverse (map effect_of i)) init.1 ∙ turned_push init.0 l in (
        saying_of s ∷ done,
        parts s e,
        rw (f, turned_push actions a, is, turned_back) (same, subst (AreEffects done) turned_back effects),
      )

pub last_is : (xs ys : List LexAction) (l : LexAction) → ys ≡ xs → Some l ≡ slice_get ys (length ys - 1)
    → slice_get xs (length xs - 1) ≡ Some l
last_is xs ys l e f = subst (λ i. slice_get i (length i - 1) ≡ Some l) e (sym f)

-- nothing is left
pub all_shared : (all items : List Said) (done : List Saying) (actions turned : List LexAction)
    → map saying_of all ≡ map saying_of items ++ done → AreEffects done (reverse (map effect_of actions))
    → items ≡ [] → turned ≡ reverse actions → AreEffects (map saying_of all) (map effect_of turned)
all_shared all items done actions turned whole effects none e =
    let same : map saying_of all ≡ done = whole ∙ ap (λ i. map saying_of i ++ done) none in
    rw (same, e, map-reverse effect_of actions) effects
