-- The definitions of a lex file: their names, and the texts of their expressions, in any order (POSIX, XCU lex).
use Rattle.std.specs.Prelude.{◌≡◌, ◌≢◌, ℕ, ◌<◌, ◌≤◌, List, [], ◌∷◌, ◌++◌, map, length, slice_get, None, Some}
use Rattle.ly_ere.specs.Elements.{AreElements, Element}
use Rattle.ly_ere.specs.Expression.{Expression, set}
use Rattle.ly_ere.specs.Faults.{IsAtMost, ere_kind}
use Rattle.ly_ere.specs.Names.{Definition, defined, number_of}
use Rattle.ly_ere.specs.Patterns.{IsExpression}
use Rattle.ly_ere.specs.Weight.{named_weight, weight_of}
use Rattle.ly_ere.specs.declared.definitions.NamedText as code
use Rattle.ly_ere.specs.declared.fault.EreFault.{EreFault}
use Rattle.ly_ere.specs.declared.fault.EreFault.TheVariants.{OutOfMemory}
use Rattle.ly_ere.specs.declared.fault.EreFaultKind.TheVariants.{NameCycle, TooHeavy}

-- A name and the text of its definition.
pub record DefinedText : Type 0 where
  pub name : List ℕ
  pub text : List ℕ

-- no two have the same name
abbrev pub AreDistinct : List DefinedText → Type 0
AreDistinct list = (n m : ℕ) (c d : DefinedText) → slice_get list n ≡ Some c → slice_get list m ≡ Some d
    → c.name ≡ d.name → n ≡ m

-- each text consists of elements
abbrev pub AreSpelled : List DefinedText → Type 0
AreSpelled list = (n : ℕ) (d : DefinedText) → slice_get list n ≡ Some d → (ws : List Element) × AreElements d.text ws

-- A text can be appended to definitions: its name isn't among them, and with them it is this expression.
pub record CanFollow (placed : List Definition) (d : DefinedText) (e : Expression) : Type 0 where
  pub new : number_of placed d.name ≡ None
  pub is_expression : IsExpression placed d.text e

-- Text n is the first of the list that can be appended to these definitions.
pub record IsPlacedNext (list : List DefinedText) (placed : List Definition) (n : ℕ) (d : DefinedText)
    (e : Expression) : Type 0
  where
    pub is : slice_get list n ≡ Some d
    pub follows : CanFollow placed d e
    pub first : (k : ℕ) (c : DefinedText) (f : Expression) → k < n → slice_get list k ≡ Some c
        → CanFollow placed c f → ⊥

-- Definitions, each from the first text of the list that can be appended to those before it.
pub data ArePlaced (list : List DefinedText) : List Definition → Type 0 where
  none : ArePlaced list []
  next : (placed : List Definition) (n : ℕ) (d : DefinedText) (e : Expression) → ArePlaced list placed
      → IsPlacedNext list placed n d e → ArePlaced list (placed ++ (d.name, e) ∷ [])

-- The texts are these definitions, and none is left over.
pub record AreNames (list : List DefinedText) (names : List Definition) : Type 0 where
  pub placed : ArePlaced list names
  pub all : (n : ℕ) (d : DefinedText) → slice_get list n ≡ Some d → number_of names d.name ≢ None

-- each definition weighs at most this
abbrev pub AreLightNames : ℕ → List Definition → Type 0
AreLightNames most names = (x : ℕ) → x < length names → named_weight (defined names) (length names) x ≤ most

-- Text n is appended at some point, and weighs more than most with the definitions that it uses.
pub record IsHeavyDefinition (most : ℕ) (list : List DefinedText) (n : ℕ) : Type 0 where
  pub placed : List Definition
  pub are_placed : ArePlaced list placed
  pub text : DefinedText
  pub expression : Expression
  pub is_next : IsPlacedNext list placed n text expression
  pub is_heavy : most < weight_of (defined placed) expression

-- The names, each defined as some byte. With these a text is an expression exactly if it is one with any definitions of
-- all its names.
abbrev pub known_names : List DefinedText → List Definition
known_names list = map (λ d. (d.name, set (0 ∷ []))) list

-- the text is an expression
abbrev pub HasText : List Definition → List ℕ → Type 0
HasText names text = (e : Expression) × IsExpression names text e

-- the text is no expression
abbrev pub IsNoText : List Definition → List ℕ → Type 0
IsNoText names text = (e : Expression) → IsExpression names text e → ⊥

-- The definition at this index is wrong: it can never be appended. If it leads into a cycle of names, its text is an
-- expression; otherwise its text is none.
pub record IsAtFault (list : List DefinedText) (place : ℕ) (fault : EreFault) : Type 0 where
  pub text : DefinedText
  pub is : slice_get list place ≡ Some text
  pub never : (placed : List Definition) → ArePlaced list placed → number_of placed text.name ≡ None
  pub cyclic : ere_kind fault ≡ Some NameCycle → HasText (known_names list) text.text
  pub no_text : ere_kind fault ≢ Some NameCycle → IsNoText (known_names list) text.text

-- Why texts are rejected, with the index of the erroneous one: its text is no expression, it leads into a cycle of
-- names, or all texts consist of elements and this one is too heavy. The error is at a byte of its text or at its end.
pub record AreRefused (most : ℕ) (list : List DefinedText) (place : ℕ) (fault : EreFault) : Type 0 where
  pub within : fault ≢ OutOfMemory → place < length list
  pub at : (d : DefinedText) → slice_get list place ≡ Some d → IsAtMost (length d.text) fault
  pub refused : fault ≢ OutOfMemory → ere_kind fault ≢ Some TooHeavy → (names : List Definition)
      → AreNames list names → ⊥
  pub at_place : fault ≢ OutOfMemory → ere_kind fault ≢ Some TooHeavy → IsAtFault list place fault
  pub spelled : ere_kind fault ≡ Some TooHeavy → AreSpelled list
  pub heavy : ere_kind fault ≡ Some TooHeavy → IsHeavyDefinition most list place
  pub none_light : ere_kind fault ≡ Some TooHeavy → (names : List Definition) → AreNames list names
      → AreLightNames most names → ⊥

-- a definition of a lex file
abbrev pub named_text : code.NamedText → DefinedText
named_text d = record { name = d.name.now; text = d.text.now }

abbrev pub named_texts : List code.NamedText → List DefinedText
named_texts list = map named_text list

-- texts have at most one list of definitions
abbrev pub NamesAreOne : Type 0
NamesAreOne = (list : List DefinedText) (names others : List Definition) → AreNames list names → AreNames list others
    → names ≡ others
