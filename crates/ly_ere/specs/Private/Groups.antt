-- Groups that are being read, as expressions, and what an element makes of them.
use Rattle.std.specs.Prelude.{ℕ, List, [], ◌∷◌, Option, Some, None}
use Rattle.ly_ere.specs.Expression.{Expression, set, concat, either, star, plus, optional, repeat, name}
use Rattle.ly_ere.specs.Grammar.{in_order}
use Rattle.ly_ere.specs.Elements.{Element, one_of, string, named, interval, opening, closing, bar, asterisk, plus_sign}
use Rattle.ly_ere.specs.Elements.{question_mark, caret, dollar_sign, slash}
use Rattle.ly_ere.specs.Names.{Definition, number_of}

-- A group: its finished branches, and of the open branch the last piece and all before it.
pub record Group : Type 0 where
  pub before : Option Expression
  pub branch : Option Expression
  pub piece : Option Expression

-- nothing is read
abbrev pub new_group : Group
new_group = record { before = None; branch = None; piece = None }

-- all before the last piece, with that piece
abbrev pub joined_branch : Option Expression → Option Expression → Option Expression
joined_branch None p = p
joined_branch (Some b) None = Some b
joined_branch (Some b) (Some p) = Some (concat b p)

-- the open branch with its last piece
abbrev pub open_branch : Group → Option Expression
open_branch g = joined_branch g.branch g.piece

-- the finished branches, with the open one
abbrev pub joined_whole : Option Expression → Option Expression → Option Expression
joined_whole _ None = None
joined_whole None (Some b) = Some b
joined_whole (Some e) (Some b) = Some (either e b)

-- the expression of the whole group
abbrev pub whole : Group → Option Expression
whole g = joined_whole g.before (open_branch g)

-- one more atom
abbrev pub with_atom : Group → Expression → Group
with_atom g e = record { before = g.before; branch = open_branch g; piece = Some e }

-- an operator over a piece, if there is one
abbrev pub with_piece : Group → (Expression → Expression) → Option Expression → Option Group
with_piece g f None = None
with_piece g f (Some p) = Some (record { before = g.before; branch = g.branch; piece = Some (f p) })

-- an operator over the last piece
abbrev pub with_postfix : Group → (Expression → Expression) → Option Group
with_postfix g f = with_piece g f g.piece

-- an operator over all of a branch, if there is one
abbrev pub with_branch : Group → (Expression → Expression) → Option Expression → Option Group
with_branch g f None = None
with_branch g f (Some b) = Some (record { before = g.before; branch = Some (f b); piece = None })

-- an interval over all of the open branch; no other operator follows it
abbrev pub with_interval : Group → ℕ → Option ℕ → Option Group
with_interval g m n = with_branch g (repeat m n) (open_branch g)

-- a new branch after finished ones
abbrev pub after_bar : Option Expression → Option Group
after_bar None = None
after_bar (Some e) = Some (record { before = Some e; branch = None; piece = None })

-- the open branch finished, and a new one begun
abbrev pub with_bar : Group → Option Group
with_bar g = after_bar (whole g)

-- What is read: the groups round the innermost one, from the inside out, and that one.
pub record Reading : Type 0 where
  pub outer : List Group
  pub group : Group

-- the groups round one, and that one
abbrev pub inside : List Group → Option Group → Option Reading
inside outer None = None
inside outer (Some g) = Some (record { outer = outer; group = g })

-- the innermost group ended
abbrev pub closed : List Group → Option Expression → Option Reading
closed [] _ = None
closed (g ∷ gs) None = None
closed (g ∷ gs) (Some e) = Some (record { outer = gs; group = with_atom g e })

-- one more name, if it has a definition
abbrev pub with_name : Reading → Option ℕ → Option Reading
with_name r None = None
with_name r (Some x) = Some (record { outer = r.outer; group = with_atom r.group (name x) })

-- after one more element
abbrev pub step : List Definition → Element → Reading → Option Reading
step names (one_of bytes) r = Some (record { outer = r.outer; group = with_atom r.group (set bytes) })
step names (string bytes) r = Some (record { outer = r.outer; group = with_atom r.group (in_order bytes) })
step names (named n) r = with_name r (number_of names n)
step names opening r = Some (record { outer = r.group ∷ r.outer; group = new_group })
step names closing r = closed r.outer (whole r.group)
step names bar r = inside r.outer (with_bar r.group)
step names asterisk r = inside r.outer (with_postfix r.group star)
step names plus_sign r = inside r.outer (with_postfix r.group plus)
step names question_mark r = inside r.outer (with_postfix r.group optional)
step names (interval m n) r = inside r.outer (with_interval r.group m n)
step names caret r = None
step names dollar_sign r = None
step names slash r = None

-- a reading after another, if there is one
abbrev pub and_then : Option Reading → (Reading → Option Reading) → Option Reading
and_then None f = None
and_then (Some r) f = f r

-- after elements
abbrev pub after_all : List Definition → List Element → Reading → Option Reading
after_all names [] r = Some r
after_all names (w ∷ ws) r = and_then (step names w r) (after_all names ws)

-- nothing is read
abbrev pub start : Reading
start = record { outer = []; group = new_group }
