-- The program of rules, and what is left to do while it is made.
use Rattle.std.specs.Prelude.{◌≡◌, ℕ, zero, suc, ◌+◌, ◌<◌, List, [], ◌∷◌, ◌++◌, length, slice_get, slice_index_or, All}
use Rattle.std.specs.Prelude.{Option, Some, None}
use Rattle.ly_ere.specs.Expression.{Expression, set, empty, concat, either, star, plus, optional, repeat, name}
use Rattle.ly_ere.specs.Arena.{part_of}
use Rattle.ly_position.specs.Private.Plain.{IsPlainPart}
use Rattle.ly_position.specs.Private.Program.{ProgramStep, ends, fork, size, entry, code, HasCode}
use Rattle.ly_position.specs.Private.Reach.{StaysInside}
use Rattle.ly_position.specs.declared.program.Task.{Task}
use Rattle.ly_position.specs.declared.program.Task.TheVariants as task

-- the steps of a task at a place
abbrev pub task_steps : List Expression → Task → ℕ → List ProgramStep
task_steps es (task.Code p next) base = code (part_of es p) base next
task_steps es (task.Fork a b) base = fork a b ∷ []

-- how many steps a task makes
abbrev pub task_size : List Expression → Task → ℕ
task_size es (task.Code p next) = size (part_of es p)
task_size es (task.Fork a b) = 1

-- the steps of tasks, one after another
abbrev pub planned : List Expression → List Task → ℕ → List ProgramStep
planned es [] base = []
planned es (t ∷ ts) base = task_steps es t base ++ planned es ts (base + task_size es t)

-- a task speaks of one of the first n expressions
abbrev pub TaskFits : ℕ → Task → Type 0
TaskFits n (task.Code p next) = p < n
TaskFits n (task.Fork a b) = Unit {0}

-- a bound on the tasks that an expression makes
abbrev pub work : Expression → ℕ
work (set bytes) = 1
work empty = 1
work (concat r s) = 1 + work r + work s
work (either r s) = 2 + work r + work s
work (star r) = 2 + work r
work (plus r) = 2 + work r
work (optional r) = 2 + work r
work (repeat m n r) = 1
work (name x) = 1

-- the same for a task
abbrev pub task_work : List Expression → Task → ℕ
task_work es (task.Code p next) = work (part_of es p)
task_work es (task.Fork a b) = 1

-- how many steps a rule has: its end, and the code of its expression
abbrev pub rule_size : Option Expression → ℕ
rule_size None = 0
rule_size (Some e) = size e + 1

-- where the steps of rule n begin
abbrev pub base_of : (ℕ → Option Expression) → ℕ → ℕ
base_of rule zero = 0
base_of rule (suc n) = base_of rule n + rule_size (rule n)

-- the end of rule k stands at base, its code behind it, and this is where it begins
abbrev pub RuleStands : List ProgramStep → Option Expression → Option ℕ → ℕ → ℕ → Type 0
RuleStands g None begin k base = begin ≡ None
RuleStands g (Some e) begin k base = (slice_get g base ≡ Some (ends k)) × HasCode g e (base + 1) base
    × (begin ≡ Some (entry (base + 1) (size e) base))

-- The program of the expressions of n rules, one after another, and where each begins.
pub record IsProgram (rule : ℕ → Option Expression) (n : ℕ) (program : List ProgramStep) (entries : List (Option ℕ))
    : Type 0 where
  pub closed : StaysInside program
  pub within : All (IsPlainPart (length program)) entries
  pub count : length entries ≡ n
  pub long : length program ≡ base_of rule n
  pub standing : (k : ℕ) → k < n
      → RuleStands program (rule k) (slice_index_or entries k None) k (base_of rule k)
