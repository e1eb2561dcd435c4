-- The grammar of expressions and patterns: which lists of elements are one, and which (POSIX, XBD 9.5.3, as lex changes
-- it).
use Rattle.std.specs.Prelude.{◌≡◌, ℕ, List, [], ◌∷◌, ◌++◌, Option, Some, None, Bool, true, false}
use Rattle.ly_base.specs.Bytes.{newline}
use Rattle.ly_ere.specs.Expression.{Expression, set, empty, concat, either, star, plus, optional, repeat, name}
use Rattle.ly_ere.specs.Elements.{Element, one_of, string, named, interval, opening, closing, bar, asterisk, plus_sign}
use Rattle.ly_ere.specs.Elements.{question_mark, caret, dollar_sign, slash}
use Rattle.ly_ere.specs.Names.{Definition, number_of}

-- an expression, then bytes one after another
abbrev pub with_bytes : Expression → List ℕ → Expression
with_bytes e [] = e
with_bytes e (b ∷ bs) = with_bytes (concat e (set (b ∷ []))) bs

-- the bytes of a string, one after another
abbrev pub in_order : List ℕ → Expression
in_order [] = empty
in_order (b ∷ bs) = with_bytes (set (b ∷ [])) bs

-- A name is looked up among the definitions.
mutual
  -- a set, a string, a name or a group
  pub data Atom (names : List Definition) : List Element → Expression → Type 0 where
    byte_atom : {bytes : List ℕ} → Atom names (one_of bytes ∷ []) (set bytes)
    string_atom : {bytes : List ℕ} → Atom names (string bytes ∷ []) (in_order bytes)
    name_atom : {n : List ℕ} {x : ℕ} → number_of names n ≡ Some x → Atom names (named n ∷ []) (name x)
    group : {ws : List Element} {e : Expression} → Alternation names ws e
        → Atom names (opening ∷ (ws ++ closing ∷ [])) e

  -- an atom with the operators after it
  pub data Piece (names : List Definition) : List Element → Expression → Type 0 where
    atom : {ws : List Element} {e : Expression} → Atom names ws e → Piece names ws e
    starred : {ws : List Element} {e : Expression} → Piece names ws e → Piece names (ws ++ asterisk ∷ []) (star e)
    repeated : {ws : List Element} {e : Expression} → Piece names ws e → Piece names (ws ++ plus_sign ∷ []) (plus e)
    left_open : {ws : List Element} {e : Expression} → Piece names ws e
        → Piece names (ws ++ question_mark ∷ []) (optional e)

  -- pieces one after another; an interval repeats everything before it
  pub data Branch (names : List Definition) : List Element → Expression → Type 0 where
    piece : {ws : List Element} {e : Expression} → Piece names ws e → Branch names ws e
    joined : {ws vs : List Element} {e f : Expression} → Branch names ws e → Piece names vs f
        → Branch names (ws ++ vs) (concat e f)
    counted : {ws : List Element} {e : Expression} {m : ℕ} {n : Option ℕ} → Branch names ws e
        → Branch names (ws ++ interval m n ∷ []) (repeat m n e)

  -- branches with bars between them
  pub data Alternation (names : List Definition) : List Element → Expression → Type 0 where
    branch : {ws : List Element} {e : Expression} → Branch names ws e → Alternation names ws e
    parted : {ws vs : List Element} {e f : Expression} → Alternation names ws e → Branch names vs f
        → Alternation names (ws ++ bar ∷ vs) (either e f)

-- A pattern without its cut: whether it matches only at the start of a line, its head, and its tail if it has one.
pub record Sides : Type 0 where
  pub line_start : Bool
  pub head : Expression
  pub tail : Option Expression

-- a head with an optional trailing context; `$` means that a newline follows
pub data Tailed (names : List Definition) : List Element → Expression → Option Expression → Type 0 where
  whole : {ws : List Element} {e : Expression} → Alternation names ws e → Tailed names ws e None
  line_end : {ws : List Element} {e : Expression} → Alternation names ws e
      → Tailed names (ws ++ dollar_sign ∷ []) e (Some (set (newline ∷ [])))
  followed : {ws vs : List Element} {e f : Expression} → Alternation names ws e → Alternation names vs f
      → Tailed names (ws ++ slash ∷ vs) e (Some f)

-- the elements of a whole pattern; `^` comes before all others
pub data AreSides (names : List Definition) : List Element → Sides → Type 0 where
  anywhere : {ws : List Element} {e : Expression} {t : Option Expression} → Tailed names ws e t
      → AreSides names ws (record { line_start = false; head = e; tail = t })
  at_line_start : {ws : List Element} {e : Expression} {t : Option Expression} → Tailed names ws e t
      → AreSides names (caret ∷ ws) (record { line_start = true; head = e; tail = t })
