-- Lemmas on devices.
use Rattle.std.proofs.Common.{◌≡◌, ◌+◌, ◌-◌, ◌<◌, ℕ, List, ◌++◌, length, take, drop, Some, None, Option, append_assoc}
use Rattle.std.proofs.Common.{ap, ◌∙◌, arith, nat_eq, nat_lt, false, rules}
use Rattle.std.specs.Prelude.{◌&&◌}
use Rattle.std.specs.Io.KnownBytes.{Appends}
use Rattle.std.proofs.Math.Seq.{take-add}
use Rattle.ly_print.specs.Device.{CountsFailure}
use Rattle.ly_base.proofs.EscapeLemmas.{whole_slice}

-- what is appended in two steps
pub appends_twice : (a b c : Option (List ℕ)) (xs ys : List ℕ) → Appends a b xs → Appends b c ys
    → Appends a c (xs ++ ys)
appends_twice None b c xs ys h k = tt
appends_twice (Some p) None c xs ys h k = elim h [ ]
appends_twice (Some p) (Some q) None xs ys h k = elim k [ ]
appends_twice (Some p) (Some q) (Some r) xs ys h k = k ∙ ap (λ z. z ++ ys) h ∙ append_assoc p xs ys

-- the next n bytes after the first w
pub appends_next : (a b c : Option (List ℕ)) (w n : ℕ) (s : List ℕ) → Appends a b (take w s)
    → Appends b c (take n (take (length s - w) (drop w s))) → Appends a c (take (w + n) s)
appends_next a b c w n s h k =
    rw (take-add w n s) (appends_twice a b c _ _ h (rw (whole_slice w s) at k))

-- a write that took something is no failure
pub not_counted : (n : ℕ) (l a b : ℕ) → 0 < n → CountsFailure (nat_eq n 0 && nat_lt 0 l) a b → b ≡ a
not_counted n l a b h k = let e : nat_eq n 0 ≡ false = search (rules, arith) in rw e at k
