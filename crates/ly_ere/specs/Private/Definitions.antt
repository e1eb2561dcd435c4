-- Texts of definitions as they are read and placed.
use Rattle.std.specs.Prelude.{◌≡◌, ◌≢◌, ◌⊎◌, ℕ, ◌<◌, List, [], All, map, length, slice_get, slice_index_or}
use Rattle.std.specs.Prelude.{None, Some, Contains}
use Rattle.std.specs.Map.{lookup}
use Rattle.std.specs.Option.{ForSome}
use Rattle.std.specs.Str.{bytes_eq}
use Rattle.ly_ere.specs.Definitions.{ArePlaced, DefinedText, HasText, IsNoText}
use Rattle.ly_ere.specs.Expression.{Expression, empty}
use Rattle.ly_ere.specs.Faults.{IsAtMost, ere_kind}
use Rattle.ly_ere.specs.Names.{Definition, number_of}
use Rattle.ly_ere.specs.Patterns.{IsExpression}
use Rattle.ly_ere.specs.Private.Uses.{uses_of}
use Rattle.ly_ere.specs.declared.definitions.Refusal.{Refusal}
use Rattle.ly_ere.specs.declared.definitions.DefinitionTexts.{DefinitionTexts}
use Rattle.ly_ere.specs.declared.fault.EreFault.TheVariants.{OutOfMemory}
use Rattle.ly_ere.specs.declared.fault.EreFaultKind.TheVariants.{NameCycle, TooHeavy}

-- Text place of the list is no expression, and the fault is one of its text.
pub record IsTextRefusal (known : List Definition) (list : List DefinedText) (refusal : Refusal) : Type 0 where
  pub text : DefinedText
  pub is : slice_get list refusal.place ≡ Some text
  pub none : IsNoText known text.text
  pub memory : refusal.fault ≢ OutOfMemory
  pub weight : ere_kind refusal.fault ≢ Some TooHeavy
  pub cycle : ere_kind refusal.fault ≢ Some NameCycle
  pub at : IsAtMost (length text.text) refusal.fault

-- what each text uses
abbrev pub text_uses : DefinitionTexts → List (List ℕ)
text_uses t = map (λ v. v.items) t.uses.items

-- expression n of those that are read
abbrev pub expression_at : DefinitionTexts → ℕ → Expression
expression_at t n = slice_index_or t.expressions.items n empty

-- Texts of the list are read under the known names.
pub record AreRead (known : List Definition) (list : List DefinedText) (t : DefinitionTexts) : Type 0 where
  pub counted : length t.uses.items ≡ length list
  pub there : (n : ℕ) → All (λ u. u < length known) (slice_index_or (text_uses t) n [])
  pub uses : (n : ℕ) (d : DefinedText) (e : Expression) → slice_get list n ≡ Some d → IsExpression known d.text e
      → slice_index_or (text_uses t) n [] ≡ uses_of e
  pub each : (n : ℕ) (d : DefinedText) → slice_get list n ≡ Some d
      → HasText known d.text ⊎ (slice_index_or (text_uses t) n [] ≡ [])
  pub whole : t.refusal ≡ None → length t.expressions.items ≡ length list
  pub expressions : t.refusal ≡ None → (n : ℕ) (d : DefinedText) → slice_get list n ≡ Some d
      → IsExpression known d.text (expression_at t n)
  pub refusal : ForSome t.refusal (IsTextRefusal known list)

-- Texts of the list are placed, those of the numbers in order and no other. numbers has the place of each.
pub record ArePlacing (list : List DefinedText) (order : List ℕ) (names : List Definition) (numbers : List ℕ) : Type 0
  where
    pub placed : ArePlaced list names
    pub counted : length names ≡ length order
    pub numbered : length numbers ≡ length list
    pub found : (n : ℕ) (d : DefinedText) → slice_get list n ≡ Some d → Contains order n
        → number_of names d.name ≡ Some (slice_index_or numbers n 0)
    pub only : (n : ℕ) (d : DefinedText) → slice_get list n ≡ Some d → number_of names d.name ≢ None → Contains order n

-- the numbers of definitions by their names
abbrev pub AreNumbers : {K : Type 0} → (K → List ℕ) → List Definition → List (K × ℕ) → Type 0
AreNumbers name_of names by_name = (n : List ℕ) → lookup (λ k. bytes_eq n (name_of k)) by_name ≡ number_of names n
