-- What a parser's stack was before a token.
use Rattle.std.specs.Prelude.{◌≡◌, ℕ, ◌-◌, ◌≤◌, List, [], ◌∷◌, ◌++◌, Option, None, Some, drop}
use Rattle.std.specs.Prelude.{length, map, take}
use Rattle.ly_base.specs.declared.numbers.StateNo.{StateNo}
use Rattle.ly_pack.specs.Machine.{TableAction, accept, shift}
use Rattle.ly_parse.specs.Feeding.{Level, states_on}
use Rattle.ly_parse.specs.Private.Copied.{states_in}
use Rattle.ly_parse.specs.declared.before.Before.{Before}
use Rattle.ly_parse.specs.declared.level.Level as code

-- the states of levels, the bottom's among them: those of a stack whose top is last, the top's first
abbrev pub states_in_levels : List code.Level → List ℕ
states_in_levels levels = states_in (map (λ l. l.state) levels)

-- the state that stood on top, if one stood there
abbrev pub top_in : Option StateNo → List ℕ
top_in (Some top) = top.0 ∷ []
top_in None = []

-- the states that stood under it and were popped
abbrev pub popped_in : Before → List ℕ
popped_in b = map (λ s. s.0) (take b.noted b.popped.items)

-- these, and the states that are still there
abbrev pub under_top : List code.Level → Before → List ℕ
under_top levels b = popped_in b ++ states_in_levels (take b.kept levels)

-- what a stack was, by its note
abbrev pub before_of : List code.Level → Before → List ℕ
before_of levels b = top_in b.top ++ under_top levels b

-- the states of levels with another one on top; the bottom alone stays
abbrev pub levels_with_top : ℕ → List code.Level → List ℕ
levels_with_top top [] = states_in_levels []
levels_with_top top (l ∷ levels) = top ∷ states_in_levels (take (length levels) (l ∷ levels))

-- the same on a stack as contracts see it
abbrev pub before_on : List Level → Before → List ℕ
before_on stack b = top_in b.top
    ++ (popped_in b ++ states_on (drop (length stack - b.kept) stack))

-- the states of a stack with another one on top; the bottom alone stays
abbrev pub with_top : ℕ → List Level → List ℕ
with_top top [] = states_on []
with_top top (l ∷ stack) = top ∷ states_on stack

-- The note says that the stack which is this now had these states.
pub record IsNoteOf (states : List ℕ) (stack : List Level) (b : Before) : Type 0 where
  pub kept : b.kept ≤ length stack
  pub same : before_on stack b ≡ states

-- the terminal isn't read or accepted yet
abbrev pub IsOpen : TableAction → Type 0
IsOpen (shift state) = ⊥
IsOpen accept = ⊥
IsOpen _ = Unit {0}

-- both are the bottom alone, or they differ on top alone
abbrev pub AreAlikeBelow : List Level → List Level → Type 0
AreAlikeBelow [] [] = Unit {0}
AreAlikeBelow (l ∷ stack) (k ∷ other) = stack ≡ other
AreAlikeBelow _ _ = ⊥
