-- Scanning a text lexeme by lexeme (POSIX, XCU lex).
use Rattle.std.specs.Prelude.{◌≡◌, ℕ, ◌+◌, List, [], ◌∷◌, ◌++◌, take, drop, Bool, true, eqb, Option, Some, None}
use Rattle.std.specs.Prelude.{unwrap_or}
use Rattle.ly_base.specs.Bytes.{newline}
use Rattle.ly_base.specs.declared.lexeme.End.{End}
use Rattle.ly_base.specs.declared.lexeme.Lexeme.{Lexeme}

-- The state of a scan: whether a line begins here, the condition, the offset, and the bytes that aren't scanned yet.
pub record Place : Type 0 where
  pub line : Bool
  pub condition : ℕ
  pub at : ℕ
  pub rest : List ℕ

-- the start of a text: the start of a line, in the initial condition
abbrev pub start_of : List ℕ → Place
start_of text = record { line = true; condition = 0; at = 0; rest = text }

-- whether a line begins after some bytes, given whether one began before them
abbrev pub after_line : Bool → List ℕ → Bool
after_line before [] = before
after_line before (b ∷ bs) = after_line (eqb b newline) bs

-- the state n bytes later, in the condition that was set last
abbrev pub moved : Place → ℕ → Option ℕ → Place
moved p n begin = record {
  line = after_line p.line (take n p.rest);
  condition = unwrap_or begin p.condition;
  at = p.at + n;
  rest = drop n p.rest;
}

-- the state after a lexeme; next gives the condition that a rule's action sets
abbrev pub place_after : (ℕ → Option ℕ) → Place → Lexeme → Place
place_after next p t = moved p t.taken (next t.rule.0)

-- Scanning from p yields these lexemes, then this end. Is relates a state to the lexeme there, and Ends relates a state
-- to how scanning ends there.
abbrev pub Lexed : (Place → Lexeme → Type 0) → (Place → End → Type 0) → (ℕ → Option ℕ) → Place → List Lexeme → End
    → Type 0
Lexed Is Ends next p [] e = Ends p e
Lexed Is Ends next p (t ∷ ts) e = Is p t × Lexed Is Ends next (place_after next p t) ts e

-- a prefix of a scan: these lexemes lead from p to q
abbrev pub LexedTo : (Place → Lexeme → Type 0) → (ℕ → Option ℕ) → Place → List Lexeme → Place → Type 0
LexedTo Is next p [] q = q ≡ p
LexedTo Is next p (t ∷ ts) q = Is p t × LexedTo Is next (place_after next p t) ts q

-- A token: its terminal, its offset in the text, and its bytes.
pub record Token (T : Type 0) : Type 0 where
  pub terminal : T
  pub at : ℕ
  pub bytes : List ℕ

-- the token of these bytes, if they have a terminal
abbrev pub token_if : {T : Type 0} → Option T → ℕ → List ℕ → List (Token T)
token_if None at bytes = []
token_if (Some terminal) at bytes = record { terminal = terminal; at = at; bytes = bytes } ∷ []

-- The tokens of lexemes that begin at an offset. naming gives the terminal that a rule's action returns for some bytes,
-- if it returns one.
abbrev pub tokens_from : {T : Type 0} → (ℕ → List ℕ → Option T) → ℕ → List ℕ → List Lexeme → List (Token T)
tokens_from naming at rest [] = []
tokens_from naming at rest (t ∷ ts) =
    token_if (naming t.rule.0 (take t.taken rest)) at (take t.taken rest)
    ++ tokens_from naming (at + t.taken) (drop t.taken rest) ts
