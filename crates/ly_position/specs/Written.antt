-- Expanded expressions, without names and intervals.
use Rattle.std.specs.Prelude.{◌≡◌, ℕ, zero, suc, ◌-◌, ◌≤◌, List, [], ◌∷◌, ◌++◌, length, slice_get, Contains, Option}
use Rattle.std.specs.Prelude.{Some, None, ◌⊎◌, if◌then◌else◌, nat_eq, nat_le}
use Rattle.ly_ere.specs.Expression.{Expression, set, empty, concat, either, star, plus, optional, repeat, name}
use Rattle.ly_ere.specs.Expression.{Concatenated}
use Rattle.ly_ere.specs.declared.pattern.Pattern.{Pattern}

-- An expression without names and intervals. A set is the list of its bytes.
pub data Plain : Type 0 where
  one_of : List ℕ → Plain
  empty_string : Plain
  in_turn : Plain → Plain → Plain
  or : Plain → Plain → Plain
  any_times : Plain → Plain
  some_times : Plain → Plain
  maybe : Plain → Plain

-- the plain expression matches w
abbrev pub Member : Plain → List ℕ → Type 0
Member (one_of bytes) w = (b : ℕ) × Contains bytes b × (w ≡ b ∷ [])
Member empty_string w = w ≡ []
Member (in_turn r s) w = (u : List ℕ) × (v : List ℕ) × (w ≡ u ++ v) × Member r u × Member s v
Member (or r s) w = Member r w ⊎ Member s w
Member (any_times r) w = (k : ℕ) × Concatenated (Member r) k w
Member (some_times r) w = (k : ℕ) × (1 ≤ k) × Concatenated (Member r) k w
Member (maybe r) w = (w ≡ []) ⊎ Member r w

-- m copies of r, then s
abbrev pub copies : ℕ → Plain → Plain → Plain
copies zero r s = s
copies (suc m) r s = in_turn r (copies m r s)

-- n copies of r, each optional together with all copies after it
abbrev pub up_to : ℕ → Plain → Plain
up_to zero r = empty_string
up_to (suc n) r = maybe (in_turn r (up_to n r))

-- r at least m times: m copies, the last with `+`; `*` for m = 0
abbrev pub at_least : ℕ → Plain → Plain
at_least zero r = any_times r
at_least (suc m) r = copies m r (some_times r)

-- an expanded interval; one with its upper bound below the lower one matches nothing
abbrev pub times : ℕ → Option ℕ → Plain → Plain
times m None r = at_least m r
times m (Some n) r = if nat_le m n then copies m r (up_to (n - m) r) else one_of []

-- an expanded expression, if P gives the expansion of each name
abbrev pub written_under : (ℕ → Plain) → Expression → Plain
written_under P (set bytes) = one_of bytes
written_under P empty = empty_string
written_under P (concat r s) = in_turn (written_under P r) (written_under P s)
written_under P (either r s) = or (written_under P r) (written_under P s)
written_under P (star r) = any_times (written_under P r)
written_under P (plus r) = some_times (written_under P r)
written_under P (optional r) = maybe (written_under P r)
written_under P (repeat m n r) = times m n (written_under P r)
written_under P (name x) = P x

-- an expanded definition; a missing one matches nothing
abbrev pub definition_under : (ℕ → Plain) → Option Expression → Plain
definition_under P None = one_of []
definition_under P (Some d) = written_under P d

-- the expansion of name x with the first n definitions: each uses earlier ones only
abbrev pub named_up_to : List Expression → ℕ → ℕ → Plain
named_up_to names zero x = one_of []
named_up_to names (suc n) x = if nat_eq x n then definition_under (named_up_to names n) (slice_get names n)
    else named_up_to names n x

-- An expanded expression: each use of a name is a copy of its definition.
abbrev pub written : List Expression → Expression → Plain
written names e = written_under (named_up_to names (length names)) e

-- a head, then its tail if there is one
abbrev pub with_tail : List Expression → Plain → Option Expression → Plain
with_tail names head None = head
with_tail names head (Some tail) = in_turn head (written names tail)

-- an expanded pattern
abbrev pub pattern_written : List Expression → Pattern → Plain
pattern_written names p = with_tail names (written names p.head) p.tail
