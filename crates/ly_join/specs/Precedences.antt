-- The precedence of tokens (POSIX, XCU yacc, "Declarations Section").
use Rattle.std.specs.Prelude.{◌≡◌, ◌≢◌, ℕ, ◌+◌, List, [], ◌∷◌, ◌++◌, map, AllPairs, Contains, Option, Some, None}
use Rattle.std.specs.Option.{option_map_or}
use Rattle.ly_yaccread.specs.Declarations.{Declared}
use Rattle.ly_yaccread.specs.declared.file.DeclarationKind.{DeclarationKind}
use Rattle.ly_yaccread.specs.declared.file.DeclarationKind.TheVariants as kind
use Rattle.ly_join.specs.Numbering.{declared_terminals}
use Rattle.ly_join.specs.Terminals.{TerminalName}
use Rattle.ly_join.specs.declared.precedence.Associativity.{Associativity}
use Rattle.ly_join.specs.declared.precedence.Associativity.TheVariants.{Left, Right, Nonassociative}
use Rattle.ly_join.specs.declared.precedence.Precedence.{Precedence}

-- the associativity that a declaration gives, if it gives a precedence
abbrev pub associativity_of : DeclarationKind → Option Associativity
associativity_of kind.Token = None
associativity_of kind.Left = Some Left
associativity_of kind.Right = Some Right
associativity_of kind.Nonassociative = Some Nonassociative

-- the terminals of the n-th declaration, each with the precedence that it gives
abbrev pub given_by : ℕ → Declared → List (TerminalName × Precedence)
given_by n d = option_map_or
    (λ a. map (λ x. let p : Precedence = record { level = n; associativity = a } in (x, p)) (declared_terminals d))
    (associativity_of d.kind) []

-- the same for the declarations from the n-th on
abbrev pub given_from : ℕ → List Declared → List (TerminalName × Precedence)
given_from n [] = []
given_from n (d ∷ ds) = given_by n d ++ given_from (n + 1) ds

-- all terminals that declarations give a precedence, with it
abbrev pub given : List Declared → List (TerminalName × Precedence)
given ds = given_from 0 ds

-- the terminal has this precedence, or none
abbrev pub HasPrecedence : List (TerminalName × Precedence) → TerminalName → Option Precedence → Type 0
HasPrecedence all x None = (p : Precedence) → Contains all (x, p) → ⊥
HasPrecedence all x (Some p) = Contains all (x, p)

-- no terminal is given a precedence twice
abbrev pub AreGivenOnce : List (TerminalName × Precedence) → Type 0
AreGivenOnce all = AllPairs (λ a b. a.0 ≢ b.0) all

-- the terminal is given a precedence twice
abbrev pub IsGivenTwice : List (TerminalName × Precedence) → TerminalName → Type 0
IsGivenTwice all x = (front back : List (TerminalName × Precedence)) × (p q : Precedence)
    × (all ≡ front ++ (x, q) ∷ back) × Contains front (x, p)
