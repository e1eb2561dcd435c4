-- Expressions written out without idle operators: what they are made of, their strings, and their numbers.
use Rattle.std.proofs.Common.{◌≡◌, inl, inr, ℕ, zero, suc, ◌-◌, ◌<◌, ◌≤◌, List, length}
use Rattle.std.proofs.Common.{Option, Some, None, refl, ap, ap₂, ◌∙◌, arith}
use Rattle.std.specs.Prelude.{nat_le}
use Rattle.std.proofs.lemmas.Bool.{cases_Bool, le-leb}
use Rattle.ly_ere.specs.Expression.{Expression, set, empty, concat, either, star, plus, optional, repeat, name}
use Rattle.ly_ere.specs.declared.pattern.Pattern.{Pattern}
use Rattle.ly_position.specs.Written.{Plain, some_times}
use Rattle.ly_position.specs.Written.{copies, up_to, times, written_under, named_up_to, with_tail, pattern_written}
use Rattle.ly_position.specs.Private.Slim.{slim, slim_under, slim_copies, slim_up_to, slim_times, slim_concat}
use Rattle.ly_position.specs.Private.Slim.{slim_either, slim_star, slim_plus, slim_optional, slim_tail, slim_pattern}

slim-copies : (m : ℕ) (r s : Plain) → slim (copies m r s) ≡ slim_copies m (slim r) (slim s)
slim-copies zero r s = refl
slim-copies (suc m) r s = ap (slim_concat (slim r)) (slim-copies m r s)

slim-up_to : (n : ℕ) (r : Plain) → slim (up_to n r) ≡ slim_up_to n (slim r)
slim-up_to zero r = refl
slim-up_to (suc n) r = ap (λ o. slim_optional (slim_concat (slim r) o)) (slim-up_to n r)

slim-times : (m : ℕ) (n : Option ℕ) (r : Plain) → slim (times m n r) ≡ slim_times m n (slim r)
slim-times zero None r = refl
slim-times (suc m) None r = slim-copies m r (some_times r)
slim-times m (Some n) r = elim (cases_Bool (nat_le m n)) [
  | inl fits ↦ rw fits (slim-copies m r (up_to (n - m) r) ∙ ap (slim_copies m (slim r)) (slim-up_to (n - m) r))
  | inr past ↦ rw past refl
]

-- names that are written out may be slim already
pub slim_written : (P : ℕ → Plain) (e : Expression) → slim (written_under P e) ≡ slim_under (λ x. slim (P x)) e
slim_written P (set bytes) = refl
slim_written P empty = refl
slim_written P (concat r s) = ap₂ slim_concat (slim_written P r) (slim_written P s)
slim_written P (either r s) = ap₂ slim_either (slim_written P r) (slim_written P s)
slim_written P (star r) = ap slim_star (slim_written P r)
slim_written P (plus r) = ap slim_plus (slim_written P r)
slim_written P (optional r) = ap slim_optional (slim_written P r)
slim_written P (repeat m n r) = slim-times m n (written_under P r) ∙ ap (slim_times m n) (slim_written P r)
slim_written P (name x) = refl

slim_with_tail : (names : List Expression) (head : Expression) (tail : Option Expression)
    → slim (with_tail names (written_under (named_up_to names (length names)) head) tail)
    ≡ slim_tail (λ x. slim (named_up_to names (length names) x))
    (slim_under (λ x. slim (named_up_to names (length names) x)) head) tail
slim_with_tail names head None = slim_written (named_up_to names (length names)) head
slim_with_tail names head (Some tail) = ap₂ slim_concat (slim_written (named_up_to names (length names)) head)
    (slim_written (named_up_to names (length names)) tail)

pub slim_pattern_written : (names : List Expression) (p : Pattern) → slim (pattern_written names p)
    ≡ slim_pattern (λ x. slim (named_up_to names (length names) x)) p
slim_pattern_written names p = slim_with_tail names p.head p.tail

pub times_between : (m n : ℕ) (o : Option Expression) → m ≤ n → slim_copies m o (slim_up_to (n - m) o)
    ≡ slim_times m (Some n) o
times_between m n o le = rw (le-leb m n le) refl

pub times_least : (m : ℕ) (o : Option Expression) → 0 < m → slim_copies (m - 1) o (slim_plus o)
    ≡ slim_times m None o
times_least zero o pos = absurd (omega arith)
times_least (suc m) o pos = let e : suc m - 1 ≡ m = omega arith in ap (λ k. slim_copies k o (slim_plus o)) e
