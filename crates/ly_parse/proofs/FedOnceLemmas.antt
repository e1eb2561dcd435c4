-- A token is settled in one way.
use Rattle.std.proofs.Common.{◌≡◌, ℕ, List, subst}
use Rattle.ly_base.specs.Lexed.{Token}
use Rattle.ly_pack.specs.Machine.{Machine}
use Rattle.ly_parse.specs.Feeding.{Fed, Feeds, Level, onward, settled}
use Rattle.ly_parse.specs.FeedingLaws.{FeedsInOneWay}

one : {m : Machine} {token : Token ℕ} {stack : List Level} {out other : Fed} → Feeds m token stack out
    → Feeds m token stack other → out ≡ other
one (settled e) (settled f) = cc
one (settled e) (onward f k) = cc
one (onward e h) (settled f) = cc
one {m} {token} {other = b} (onward {next = x} e h) (onward {next = y} f k) =
    let same : y ≡ x = cc in
    one h (subst (λ z. Feeds m token z b) same k)

pub fed_in_one_way : FeedsInOneWay
fed_in_one_way m token stack out other x y = one x y
