-- What an action does.
use Rattle.std.specs.Prelude.{◌≡◌, ℕ, List, [], ◌∷◌, Option, None}
use Rattle.std.specs.Rc.{rc_slice_items}
use Rattle.ly_lexread.specs.declared.action.LexAction.{LexAction}
use Rattle.ly_lexread.specs.declared.action.Returned.{Returned}
use Rattle.ly_lexread.specs.declared.action.Returned.TheVariants.{Nothing, Token, Literal, FirstByte}

-- the token that an action returns
pub data Meaning : Type 0 where
  nothing : Meaning
  token : List ℕ → Meaning
  literal_of : ℕ → Meaning
  first_byte : Meaning

-- what is returned, whatever the capacity of its name
abbrev pub meaning_of : Returned → Meaning
meaning_of Nothing = nothing
meaning_of (Token n) = token (rc_slice_items n)
meaning_of (Literal b) = literal_of b
meaning_of FirstByte = first_byte

-- What an action does: the condition that it sets, if it sets one, and the token that it returns.
pub record Effect : Type 0 where
  pub begin : Option ℕ
  pub returns : Meaning

-- the effect of a rule whose matches are skipped
abbrev pub no_effect : Effect
no_effect = record { begin = None; returns = nothing }

abbrev pub effect_of : LexAction → Effect
effect_of a = record { begin = a.begin; returns = meaning_of a.returns }

-- The action of a rule as it is written: its own, or that of the next rule.
pub data Saying : Type 0 where
  own : Effect → Saying
  next : Saying

-- the effect of each rule, given the actions as they are written
abbrev pub AreEffects : List Saying → List Effect → Type 0
AreEffects [] [] = Unit {0}
AreEffects (own d ∷ ss) (e ∷ es) = (e ≡ d) × AreEffects ss es
AreEffects (next ∷ ss) (e ∷ f ∷ es) = (e ≡ f) × AreEffects ss (f ∷ es)
AreEffects _ _ = ⊥
