-- The declarations of a yacc file (POSIX, XCU yacc, "Declarations Section").
use Rattle.std.specs.Prelude.{◌≡◌, ◌≢◌, ◌⊎◌, ℕ, List, [], ◌∷◌, ◌++◌, Option, Some, None, codes}
use Rattle.std.specs.Option.{option_map}
use Rattle.ly_yaccread.specs.Symbols.{SymbolList}
use Rattle.ly_yaccread.specs.Words.{Word, mark, directive, name, block, braces}
use Rattle.ly_yaccread.specs.declared.declaration.Directive.{Directive}
use Rattle.ly_yaccread.specs.declared.declaration.Directive.TheVariants.{Tokens, Types, Start, Union}
use Rattle.ly_yaccread.specs.declared.file.DeclarationKind.{DeclarationKind}
use Rattle.ly_yaccread.specs.declared.file.DeclarationKind.TheVariants.{Token, Left, Right, Nonassociative}
use Rattle.ly_yaccread.specs.declared.listing.Listing.TheVariants.{Plain, Numbered}
use Rattle.ly_yaccread.specs.declared.words.Mark.TheVariants.{Section}

-- the name after the `%` of a directive
abbrev pub directive_name : Directive → List ℕ
directive_name (Tokens Token) = codes "token"
directive_name (Tokens Left) = codes "left"
directive_name (Tokens Right) = codes "right"
directive_name (Tokens Nonassociative) = codes "nonassoc"
directive_name Types = codes "type"
directive_name Start = codes "start"
directive_name Union = codes "union"

-- The content of a declaration: tokens, with the number of words left from each of them on; the start symbol; or
-- nothing that is used.
pub data Saying : Type 0 where
  tokens : DeclarationKind → List Word → List ℕ → Saying
  start : List ℕ → Saying
  nothing : Saying

-- what follows a directive, the content of the declaration, and the rest
abbrev pub FollowsDirective : Directive → List Word → Saying → List Word → Type 0
FollowsDirective (Tokens k) ws s rest
    = (xs : List Word) × (ns : List ℕ) × SymbolList Numbered ws xs ns rest × (s ≡ tokens k xs ns)
FollowsDirective Types ws s rest = (xs : List Word) × (ns : List ℕ) × SymbolList Plain ws xs ns rest × (s ≡ nothing)
FollowsDirective Start ws s rest = (n : List ℕ) × (ws ≡ name n ∷ rest) × (n ≢ codes "error") × (s ≡ start n)
FollowsDirective Union ws s rest = (ws ≡ braces ∷ rest) × (s ≡ nothing)

-- a declaration, its content, and the rest: a block, or a directive and what follows it
abbrev pub Declares : List Word → Saying → List Word → Type 0
Declares ws s rest = ((ws ≡ block ∷ rest) × (s ≡ nothing))
    ⊎ ((d : Directive) × (behind : List Word) × (ws ≡ directive (directive_name d) ∷ behind)
    × FollowsDirective d behind s rest)

-- The tokens of one declaration.
pub record Declared : Type 0 where
  pub kind : DeclarationKind
  pub symbols : List Word

-- The content of all declarations.
pub record Preamble : Type 0 where
  pub declarations : List Declared
  pub start : Option (List ℕ)

-- The content of all declarations, with the number of words left from each of their tokens on.
pub record Declaring : Type 0 where
  pub preamble : Preamble
  pub tokens : List ℕ

-- before any declaration
abbrev pub none_declared : Declaring
none_declared = record { preamble = record { declarations = []; start = None }; tokens = [] }

-- the start symbol may be declared once
abbrev pub with_start : List Declared → Option (List ℕ) → List ℕ → Option Preamble
with_start ds None n = Some (record { declarations = ds; start = Some n })
with_start ds (Some m) n = None

-- the content with one declaration more
abbrev pub with_saying : Declaring → Saying → Option Declaring
with_saying h (tokens k xs ns) = Some (record {
  preamble = record {
    declarations = h.preamble.declarations ++ record { kind = k; symbols = xs } ∷ [];
    start = h.preamble.start;
  };
  tokens = h.tokens ++ ns;
})
with_saying h (start n) = option_map (λ p. record { preamble = p; tokens = h.tokens })
    (with_start h.preamble.declarations h.preamble.start n)
with_saying h nothing = Some h

-- the declarations up to the first `%%`: the content before them, the content with them, and the rest
pub data Declarations : Declaring → List Word → Declaring → List Word → Type 0 where
  end : (h : Declaring) (rest : List Word) → Declarations h (mark Section ∷ rest) h rest
  more : (h i all : Declaring) (ws behind rest : List Word) (s : Saying) → Declares ws s behind
      → with_saying h s ≡ Some i → Declarations i behind all rest → Declarations h ws all rest
