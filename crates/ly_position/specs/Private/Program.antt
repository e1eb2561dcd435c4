-- Programs that read strings (Thompson 1968): what they are, how they run, and the code of an expression.
use Rattle.std.specs.Prelude.{◌≡◌, ◌≢◌, ℕ, zero, suc, ◌+◌, List, [], ◌∷◌, ◌++◌, map, min, slice_get, slice_index}
use Rattle.std.specs.Prelude.{Contains, Some}
use Rattle.ly_base.specs.ByteSet.{members}
use Rattle.ly_ere.specs.Expression.{Expression, set, empty, concat, either, star, plus, optional, repeat, name}
use Rattle.ly_ere.specs.declared.node.Node.{Node}
use Rattle.ly_ere.specs.declared.node.Node.TheVariants.{Set, Empty, Concat, Either, Star, Plus, Optional, Repeat, Name}
use Rattle.ly_position.specs.declared.program.Instruction.{Instruction}
use Rattle.ly_position.specs.declared.program.Instruction.TheVariants.{Read, Fork, End}

-- a step: one of some bytes and then a step, either of two steps, or the end of a rule
pub data ProgramStep : Type 0 where
  reads : List ℕ → ℕ → ProgramStep
  fork : ℕ → ℕ → ProgramStep
  ends : ℕ → ProgramStep

-- the step of an instruction
abbrev pub step_of : Instruction → ProgramStep
step_of (Read bytes next) = reads (members bytes) next
step_of (Fork a b) = fork a b
step_of (End rule) = ends rule.0

-- the steps of a program in memory
abbrev pub steps_of : List Instruction → List ProgramStep
steps_of code = map step_of code

-- from step p the program reads w to an end of rule i, in n moves
pub data Runs (program : List ProgramStep) (i : ℕ) : ℕ → ℕ → List ℕ → Type 0 where
  at_end : {p : ℕ} → slice_get program p ≡ Some (ends i) → Runs program i zero p []
  by_read : {n p b q : ℕ} {bytes w : List ℕ} → slice_get program p ≡ Some (reads bytes q) → Contains bytes b
      → Runs program i n q w → Runs program i (suc n) p (b ∷ w)
  by_first : {n p a b : ℕ} {w : List ℕ} → slice_get program p ≡ Some (fork a b) → Runs program i n a w
      → Runs program i (suc n) p w
  by_second : {n p a b : ℕ} {w : List ℕ} → slice_get program p ≡ Some (fork a b) → Runs program i n b w
      → Runs program i (suc n) p w

-- how many steps the code of an expression has
abbrev pub size : Expression → ℕ
size (set bytes) = 1
size empty = 0
size (concat r s) = size r + size s
size (either r s) = size r + size s + 1
size (star r) = size r + 1
size (plus r) = size r + 1
size (optional r) = size r + 1
size (repeat m n r) = 0
size (name x) = 0

-- where code of a size begins that stands at base and goes on at next: its last step
abbrev pub entry : ℕ → ℕ → ℕ → ℕ
entry base zero next = next
entry base (suc n) next = base + n

-- the code of an expression without names and intervals that stands at base and goes on at next
abbrev pub code : Expression → ℕ → ℕ → List ProgramStep
code (set bytes) base next = reads bytes next ∷ []
code empty base next = []
code (concat r s) base next = code s base next ++ code r (base + size s) (entry base (size s) next)
code (either r s) base next
    = code r base next
    ++ (code s (base + size r) next ++ fork (entry base (size r) next) (entry (base + size r) (size s) next) ∷ [])
code (star r) base next = code r base (base + size r) ++ fork (entry base (size r) (base + size r)) next ∷ []
code (plus r) base next = fork (entry (base + 1) (size r) base) next ∷ code r (base + 1) base
code (optional r) base next = code r base next ++ fork (entry base (size r) next) next ∷ []
code (repeat m n r) base next = []
code (name x) base next = []

-- the program has the code of the expression at base
abbrev pub HasCode : List ProgramStep → Expression → ℕ → ℕ → Type 0
HasCode g (set bytes) base next = slice_get g base ≡ Some (reads bytes next)
HasCode g empty base next = Unit {0}
HasCode g (concat r s) base next = HasCode g s base next × HasCode g r (base + size s) (entry base (size s) next)
HasCode g (either r s) base next = HasCode g r base next × HasCode g s (base + size r) next
    × (slice_get g (base + size r + size s)
    ≡ Some (fork (entry base (size r) next) (entry (base + size r) (size s) next)))
HasCode g (star r) base next = HasCode g r base (base + size r)
    × (slice_get g (base + size r) ≡ Some (fork (entry base (size r) (base + size r)) next))
HasCode g (plus r) base next = (slice_get g base ≡ Some (fork (entry (base + 1) (size r) base) next))
    × HasCode g r (base + 1) base
HasCode g (optional r) base next = HasCode g r base next
    × (slice_get g (base + size r) ≡ Some (fork (entry base (size r) next) next))
HasCode g (repeat m n r) base next = Unit {0}
HasCode g (name x) base next = Unit {0}

-- no name, no interval, and every set has a member
abbrev pub IsPlainExpression : Expression → Type 0
IsPlainExpression (set bytes) = bytes ≢ []
IsPlainExpression empty = Unit {0}
IsPlainExpression (concat r s) = IsPlainExpression r × IsPlainExpression s
IsPlainExpression (either r s) = IsPlainExpression r × IsPlainExpression s
IsPlainExpression (star r) = IsPlainExpression r
IsPlainExpression (plus r) = IsPlainExpression r
IsPlainExpression (optional r) = IsPlainExpression r
IsPlainExpression (repeat m n r) = ⊥
IsPlainExpression (name x) = ⊥

-- sizes of code from here on aren't told apart: an expression that nothing uses may have code of any size
abbrev pub most_counted : ℕ
most_counted = 18446744073709551615

-- the size of an expression's code as it is counted
abbrev pub counted : Expression → ℕ
counted e = min (size e) most_counted

-- how many steps the code of a node has, by those of the nodes before it
abbrev pub node_size : List ℕ → Node → ℕ
node_size sizes (Set s) = 1
node_size sizes Empty = 0
node_size sizes (Concat a b) = slice_index sizes a + slice_index sizes b
node_size sizes (Either a b) = slice_index sizes a + slice_index sizes b + 1
node_size sizes (Star a) = slice_index sizes a + 1
node_size sizes (Plus a) = slice_index sizes a + 1
node_size sizes (Optional a) = slice_index sizes a + 1
node_size sizes (Repeat m n a) = 0
node_size sizes (Name x) = 0
