-- Plain expressions in which no operator stands over another that makes it idle, and none where nothing matches.
use Rattle.std.specs.Prelude.{ℕ, zero, suc, ◌-◌, List, [], ◌∷◌, Bool, true, false, Option, Some, None}
use Rattle.std.specs.Prelude.{if◌then◌else◌, nat_le}
use Rattle.ly_base.specs.ByteSet.{members}
use Rattle.ly_ere.specs.Expression.{Expression, set, empty, concat, either, star, plus, optional, repeat, name}
use Rattle.ly_ere.specs.declared.node.Node.{Node}
use Rattle.ly_ere.specs.declared.node.Node.TheVariants.{Set, Empty, Concat, Either, Star, Plus, Optional, Repeat, Name}
use Rattle.ly_ere.specs.declared.pattern.Pattern.{Pattern}
use Rattle.ly_position.specs.Written.{Plain, one_of, empty_string, in_turn, or, any_times, some_times, maybe}

-- the expression is the empty string
abbrev pub is_empty : Expression → Bool
is_empty (set bytes) = false
is_empty empty = true
is_empty (concat r s) = false
is_empty (either r s) = false
is_empty (star r) = false
is_empty (plus r) = false
is_empty (optional r) = false
is_empty (repeat m n r) = false
is_empty (name x) = false

-- the operators, where one may be idle over what it is given
abbrev pub both_of : Expression → Expression → Expression
both_of r s = if is_empty r then s else (if is_empty s then r else concat r s)

abbrev pub star_of : Expression → Expression
star_of (set bytes) = star (set bytes)
star_of empty = empty
star_of (concat r s) = star (concat r s)
star_of (either r s) = star (either r s)
star_of (star r) = star r
star_of (plus r) = star r
star_of (optional r) = star r
star_of (repeat m n r) = star (repeat m n r)
star_of (name x) = star (name x)

abbrev pub plus_of : Expression → Expression
plus_of (set bytes) = plus (set bytes)
plus_of empty = empty
plus_of (concat r s) = plus (concat r s)
plus_of (either r s) = plus (either r s)
plus_of (star r) = star r
plus_of (plus r) = plus r
plus_of (optional r) = star r
plus_of (repeat m n r) = plus (repeat m n r)
plus_of (name x) = plus (name x)

abbrev pub optional_of : Expression → Expression
optional_of (set bytes) = optional (set bytes)
optional_of empty = empty
optional_of (concat r s) = optional (concat r s)
optional_of (either r s) = optional (either r s)
optional_of (star r) = star r
optional_of (plus r) = star r
optional_of (optional r) = optional r
optional_of (repeat m n r) = optional (repeat m n r)
optional_of (name x) = optional (name x)

-- the same where there may be nothing that matches
abbrev pub slim_set : List ℕ → Option Expression
slim_set [] = None
slim_set (b ∷ bytes) = Some (set (b ∷ bytes))

abbrev pub slim_concat : Option Expression → Option Expression → Option Expression
slim_concat None o = None
slim_concat (Some r) None = None
slim_concat (Some r) (Some s) = Some (both_of r s)

abbrev pub slim_either : Option Expression → Option Expression → Option Expression
slim_either None o = o
slim_either (Some r) None = Some r
slim_either (Some r) (Some s) = Some (either r s)

abbrev pub slim_star : Option Expression → Option Expression
slim_star None = Some empty
slim_star (Some r) = Some (star_of r)

abbrev pub slim_plus : Option Expression → Option Expression
slim_plus None = None
slim_plus (Some r) = Some (plus_of r)

abbrev pub slim_optional : Option Expression → Option Expression
slim_optional None = Some empty
slim_optional (Some r) = Some (optional_of r)

-- m copies, and then another; n copies, each of which may be left out together with all after it; an interval
abbrev pub slim_copies : ℕ → Option Expression → Option Expression → Option Expression
slim_copies zero o last = last
slim_copies (suc m) o last = slim_concat o (slim_copies m o last)

abbrev pub slim_up_to : ℕ → Option Expression → Option Expression
slim_up_to zero o = Some empty
slim_up_to (suc n) o = slim_optional (slim_concat o (slim_up_to n o))

abbrev pub slim_at_least : ℕ → Option Expression → Option Expression
slim_at_least zero o = slim_star o
slim_at_least (suc m) o = slim_copies m o (slim_plus o)

abbrev pub slim_times : ℕ → Option ℕ → Option Expression → Option Expression
slim_times m None o = slim_at_least m o
slim_times m (Some n) o = if nat_le m n then slim_copies m o (slim_up_to (n - m) o) else None

-- a plain expression without idle operators
abbrev pub slim : Plain → Option Expression
slim (one_of bytes) = slim_set bytes
slim empty_string = Some empty
slim (in_turn r s) = slim_concat (slim r) (slim s)
slim (or r s) = slim_either (slim r) (slim s)
slim (any_times r) = slim_star (slim r)
slim (some_times r) = slim_plus (slim r)
slim (maybe r) = slim_optional (slim r)

-- an expression written out without idle operators, where N says what names stand for
abbrev pub slim_under : (ℕ → Option Expression) → Expression → Option Expression
slim_under N (set bytes) = slim_set bytes
slim_under N empty = Some empty
slim_under N (concat r s) = slim_concat (slim_under N r) (slim_under N s)
slim_under N (either r s) = slim_either (slim_under N r) (slim_under N s)
slim_under N (star r) = slim_star (slim_under N r)
slim_under N (plus r) = slim_plus (slim_under N r)
slim_under N (optional r) = slim_optional (slim_under N r)
slim_under N (repeat m n r) = slim_times m n (slim_under N r)
slim_under N (name x) = N x

-- the same for a node, where P says what its parts are
abbrev pub slim_node : (ℕ → Option Expression) → (ℕ → Option Expression) → Node → Option Expression
slim_node N P (Set s) = slim_set (members s)
slim_node N P Empty = Some empty
slim_node N P (Concat a b) = slim_concat (P a) (P b)
slim_node N P (Either a b) = slim_either (P a) (P b)
slim_node N P (Star a) = slim_star (P a)
slim_node N P (Plus a) = slim_plus (P a)
slim_node N P (Optional a) = slim_optional (P a)
slim_node N P (Repeat m n a) = slim_times m n (P a)
slim_node N P (Name x) = N x

-- and for a head with a tail
abbrev pub slim_tail : (ℕ → Option Expression) → Option Expression → Option Expression → Option Expression
slim_tail N head None = head
slim_tail N head (Some tail) = slim_concat head (slim_under N tail)

abbrev pub slim_pattern : (ℕ → Option Expression) → Pattern → Option Expression
slim_pattern N p = slim_tail N (slim_under N p.head) p.tail
