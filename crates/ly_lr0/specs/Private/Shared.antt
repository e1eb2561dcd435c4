-- What the moves of two states begin with alike, and the transitions that one state has of the other.
use Rattle.std.specs.Prelude.{◌≡◌, ◌≢◌, ◌↔◌, ℕ, suc, ◌<◌, ◌≤◌, List, [], length, slice_index_or, Contains}
use Rattle.ly_join.specs.Grammar.{Symbol}
use Rattle.ly_join.specs.declared.symbol.Symbol.TheVariants.{Terminal}
use Rattle.ly_lr0.specs.Automaton.{IsLess, Transition}
use Rattle.ly_lr0.specs.declared.found.Found.{Found}
use Rattle.ly_lr0.specs.declared.item.Move.{Move}
use Rattle.ly_lr0.specs.Private.Built.{AreInOrder}
use Rattle.ly_lr0.specs.Private.Closing.{AreMoves}
use Rattle.ly_lr0.specs.Private.Found.{rows_of}
use Rattle.ly_lr0.specs.Private.Kernels.{kernel_at}

-- the move that a list has past its end
abbrev pub no_move : Move
no_move = record { symbol = Terminal (record { 0 = 0 }); item = record { rule = 0; dot = 0 } }

-- the move at a place
abbrev pub move_at : List Move → ℕ → Move
move_at moves k = slice_index_or moves k no_move

-- Two lists of moves are the same up to a place and at it, where the moves over a symbol begin.
pub record IsShared (moves before : List Move) (at : ℕ) : Type 0 where
  pub long : at < length moves
  pub before_long : at < length before
  pub same : (j : ℕ) → j ≤ at → move_at moves j ≡ move_at before j
  pub begins : (j : ℕ) → suc j ≡ at → (move_at moves j).symbol ≢ (move_at moves at).symbol

-- The transitions of a row over the symbols before one, in their order.
pub record IsRowBefore (row : List Transition) (X : Symbol) (part : List Transition) : Type 0 where
  pub sorted : AreInOrder part
  pub each : (t : Transition) → Contains part t ↔ (Contains row t × IsLess t.symbol X)

-- The moves are those of the last state whose row is done, and none where there is no such state.
pub record AreMovesBefore (f : Found) (before : List Move) : Type 0 where
  pub none : length f.rows.items ≡ 0 → before ≡ []
  pub last : (s : ℕ) → suc s ≡ length f.rows.items
      → AreMoves f.reduced.now.grammar (kernel_at f.kernels s) before

-- these are the transitions over symbols before one of that state
abbrev pub IsLastRowBefore : Found → Symbol → List Transition → Type 0
IsLastRowBefore f X part = (s : ℕ) → suc s ≡ length f.rows.items → IsRowBefore (slice_index_or (rows_of f) s []) X part
