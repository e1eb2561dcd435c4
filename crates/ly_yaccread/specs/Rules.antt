-- The rules of a yacc file (POSIX, XCU yacc, "Grammar Rules in yacc").
use Rattle.std.specs.Prelude.{◌≡◌, ◌≢◌, ◌⊎◌, ℕ, List, [], ◌∷◌, Option, Some, None, codes, length}
use Rattle.ly_yaccread.specs.Actions.{Making, default, ActionPassed}
use Rattle.ly_yaccread.specs.Symbols.{SymbolFirst, Symbols}
use Rattle.ly_yaccread.specs.Words.{Word, mark, directive, name}
use Rattle.ly_yaccread.specs.declared.standing.Standing.{Standing}
use Rattle.ly_yaccread.specs.declared.words.Mark.TheVariants.{Section, Colon, Bar, Semicolon}

-- The symbol of a `%prec` that comes first, and the rest. If no `%prec` comes first: no symbol, and all words.
abbrev pub PrecedencePassed : List Word → Option Word → List Word → Type 0
PrecedencePassed ws (Some x) rest = (behind : List Word) × (ws ≡ directive (codes "prec") ∷ behind)
    × SymbolFirst behind x rest
PrecedencePassed ws None rest = ((s : List Word) → ws ≢ directive (codes "prec") ∷ s) × (ws ≡ rest)

-- an action may follow a `%prec` if none precedes it
abbrev pub LateAction : ℕ → Making → Option Word → List Word → Making → List Word → Type 0
LateAction symbols default (Some x) ws m rest = ActionPassed symbols ws m rest
LateAction symbols early _ ws m rest = (m ≡ early) × (ws ≡ rest)

-- After the symbols of a body: an optional action and an optional `%prec`.
pub record BodyEnd (symbols : ℕ) (ws : List Word) (precedence : Option Word) (making : Making) (rest : List Word)
    : Type 0 where
  pub early : Making
  pub behind : List Word
  pub action : ActionPassed symbols ws early behind
  pub left : List Word
  pub has_precedence : PrecedencePassed behind precedence left
  pub late : LateAction symbols early precedence left making rest

-- A rule: its left side, the symbols of its body, the symbol after `%prec`, and its tree.
pub record Ruling : Type 0 where
  pub left : List ℕ
  pub body : List Word
  pub precedence : Option Word
  pub making : Making

-- A body, its rule for this left side, and the rest.
pub record Body (n : List ℕ) (ws : List Word) (r : Ruling) (rest : List Word) : Type 0 where
  pub same_left : r.left ≡ n
  pub behind : List Word
  pub symbols : Symbols ws r.body behind
  pub body_end : BodyEnd (length r.body) behind r.precedence r.making rest

-- A left side, and the number of words left from its name on.
pub record LeftSide : Type 0 where
  pub symbol : List ℕ
  pub left : ℕ

-- A body of this left side follows: after the name and a `:`, or after a `|` if the last rule had this left side.
abbrev pub BodyFollows : Option LeftSide → List Word → LeftSide → List Word → Type 0
BodyFollows last ws l behind
    = ((ws ≡ name l.symbol ∷ mark Colon ∷ behind) × (l.symbol ≢ codes "error") × (l.left ≡ length ws))
    ⊎ ((last ≡ Some l) × (ws ≡ mark Bar ∷ behind))

-- no word is left, or the second `%%` comes first
abbrev pub AreRulesOver : List Word → Type 0
AreRulesOver ws = (ws ≡ []) ⊎ ((rest : List Word) × (ws ≡ mark Section ∷ rest))

-- The rules after the last left side: none, or a rule and the rest, or a `;` after a rule and the rest. Each rule has
-- its location.
pub data YaccRules : Option LeftSide → List Word → List Ruling → List Standing → Type 0 where
  end : (last : Option LeftSide) (ws : List Word) → AreRulesOver ws → YaccRules last ws [] []
  rule : (last : Option LeftSide) (l : LeftSide) (ws behind rest : List Word) (r : Ruling) (rs : List Ruling)
      (ss : List Standing) → BodyFollows last ws l behind → Body l.symbol behind r rest → YaccRules (Some l) rest rs ss
      → YaccRules last ws (r ∷ rs) (record { left = l.left; body = length behind } ∷ ss)
  semicolon : (l : LeftSide) (ws : List Word) (rs : List Ruling) (ss : List Standing) → YaccRules (Some l) ws rs ss
      → YaccRules (Some l) (mark Semicolon ∷ ws) rs ss
