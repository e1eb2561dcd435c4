-- A set has one key.
use Rattle.std.proofs.Common.{◌≡◌, ◌<◌, ℕ, List, arith, Contains}
use Rattle.std.specs.Prelude.{◌↔◌}
use Rattle.ly_base.proofs.ListLemmas.{rising_one}
use Rattle.ly_subset.specs.Private.Keys.{IsKeyOf}

pub key_is_one : (members others key other : List ℕ) → IsKeyOf members key → IsKeyOf others other
    → ((q : ℕ) → Contains members q ↔ Contains others q) → key ≡ other
key_is_one members others key other k o h = rising_one (λ a b. a < b) (λ a b less more. omega (arith, less, more))
    key other k.rising o.rising (λ q c. (o.same q).1 ((h q).0 ((k.same q).0 c)))
    (λ q c. (k.same q).1 ((h q).1 ((o.same q).0 c)))
