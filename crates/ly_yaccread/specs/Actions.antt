-- The actions of a yacc file, which define the tree of each rule.
use Rattle.std.specs.Prelude.{◌≡◌, ◌≢◌, ◌⊎◌, ◌<◌, ◌≤◌, ◌^◌, ℕ, List, [], ◌∷◌, ◌++◌, false, nat_eq, codes}
use Rattle.std.specs.List.{list_any}
use Rattle.ly_base.specs.Escapes.{AllPass, number as number_of}
use Rattle.ly_base.specs.Language.{IsName, is_decimal}
use Rattle.ly_base.specs.declared.language.Language.TheVariants.{Lex}
use Rattle.ly_yaccread.specs.Symbols.{NoMark}
use Rattle.ly_yaccread.specs.Words.{Word, mark, name, number}
use Rattle.ly_yaccread.specs.declared.words.Mark.TheVariants.{Whole, Dollar, Semicolon, OpenBrace, CloseBrace}
use Rattle.ly_yaccread.specs.declared.words.Mark.TheVariants.{OpenParenthesis, CloseParenthesis, Equals, Comma}

-- The tree of a rule: the default of a rule without an action, the tree at a place of its body, or a node with this
-- constructor and the trees at these places as its children.
pub data Making : Type 0 where
  default : Making
  pass : ℕ → Making
  build : List ℕ → List ℕ → Making

-- Digits spell a place of a body of this many symbols: decimal, without leading zeros, at least 1, and below 2 ^ 32.
pub record IsPlace (symbols : ℕ) (ds : List ℕ) (p : ℕ) : Type 0 where
  pub decimal : AllPass is_decimal ds
  pub no_zero : (t : List ℕ) → ds ≢ 48 ∷ t
  pub is_number : number_of 10 ds ≡ p
  pub first : 1 ≤ p
  pub within : p ≤ symbols
  pub small : p < 2 ^ 32

-- a `$` and a place come first
abbrev pub PlaceFirst : ℕ → List Word → ℕ → List Word → Type 0
PlaceFirst symbols ws p rest = (ds : List ℕ) × (ws ≡ mark Dollar ∷ number ds ∷ rest) × IsPlace symbols ds p

-- After some places: a `)`, or a `,`, a new place, and so on. All places, and the rest.
pub data MorePlaces (symbols : ℕ) : List ℕ → List Word → List ℕ → List Word → Type 0 where
  last : (ps : List ℕ) (rest : List Word) → MorePlaces symbols ps (mark CloseParenthesis ∷ rest) ps rest
  more : (ps all : List ℕ) (p : ℕ) (ws behind rest : List Word) → PlaceFirst symbols ws p behind
      → list_any (nat_eq p) ps ≡ false → MorePlaces symbols (ps ++ p ∷ []) behind all rest
      → MorePlaces symbols ps (mark Comma ∷ ws) all rest

-- the places after an opening parenthesis, and the rest after the closing one
pub data Places (symbols : ℕ) : List Word → List ℕ → List Word → Type 0 where
  none : (rest : List Word) → Places symbols (mark CloseParenthesis ∷ rest) [] rest
  some : (ps : List ℕ) (p : ℕ) (ws behind rest : List Word) → PlaceFirst symbols ws p behind
      → MorePlaces symbols (p ∷ []) behind ps rest → Places symbols ws ps rest

-- a value, and the rest
pub data ValueFirst (symbols : ℕ) : List Word → Making → List Word → Type 0 where
  passes : (p : ℕ) (ws rest : List Word) → PlaceFirst symbols ws p rest → ValueFirst symbols ws (pass p) rest
  builds : (n ps : List ℕ) (ws rest : List Word) → IsName Lex n → n ≢ codes "error" → Places symbols ws ps rest
      → ValueFirst symbols (name n ∷ mark OpenParenthesis ∷ ws) (build n ps) rest

-- The action `{ $$ = value ; }`, and the rest.
pub record ActionFirst (symbols : ℕ) (ws : List Word) (m : Making) (rest : List Word) : Type 0 where
  pub behind : List Word
  pub opens : ws ≡ mark OpenBrace ∷ mark Whole ∷ mark Equals ∷ behind
  pub value : ValueFirst symbols behind m (mark Semicolon ∷ mark CloseBrace ∷ rest)

-- the action that comes first, or the default if no `{` does, and the words after it
abbrev pub ActionPassed : ℕ → List Word → Making → List Word → Type 0
ActionPassed symbols ws m rest = ActionFirst symbols ws m rest
    ⊎ (NoMark OpenBrace ws × (m ≡ default) × (ws ≡ rest))
