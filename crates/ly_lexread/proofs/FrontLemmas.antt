-- What holds of a value that may be there.
use Rattle.std.proofs.Common.{◌≡◌, Bool, true, false, Option}
use Rattle.std.specs.Bool.{MatchBool, then_some}
use Rattle.std.specs.Option.{MatchOption}

-- what holds of a value that is there where a test passes
pub by_test : {T : Type 0} (t : Bool) (x : T) (o : Option T) (P : Type 0) (Q : T → Type 0) → o ≡ then_some t x
    → MatchBool t (Q x) P → MatchOption o P Q
by_test true x o P Q e h = rw e h
by_test false x o P Q e h = rw e h
