-- Changes of files that may be known.
use Rattle.std.proofs.Common.{◌≡◌, ℕ, List, Option, Some, None, inl, refl}
use Rattle.std.specs.Prelude.{Err, Ok, OnErr, Result}
use Rattle.ly_files.specs.Folder.{Changed, Files, IsSpared, IsSparedOrSet}

-- two changes, one after the other
pub changed_twice : {R S T : Files → Files → Type 0} → (a b c : Option Files)
    → ((f g h : Files) → b ≡ Some g → R f g → S g h → T f h) → Changed R a b → Changed S b c → Changed T a c
changed_twice None None None both first second = tt
changed_twice None None (Some h) both first second = elim second [ ]
changed_twice None (Some g) c both first second = elim first [ ]
changed_twice (Some f) None c both first second = elim first [ ]
changed_twice (Some f) (Some g) None both first second = elim second [ ]
changed_twice (Some f) (Some g) (Some h) both first second = both f g h refl first second

-- what one change implies
pub changed_also : {R S : Files → Files → Type 0} → (a b : Option Files)
    → ((f g : Files) → b ≡ Some g → R f g → S f g) → Changed R a b → Changed S a b
changed_also None None also is = tt
changed_also None (Some g) also is = elim is [ ]
changed_also (Some f) None also is = elim is [ ]
changed_also (Some f) (Some g) also is = also f g refl is

-- files that didn't change
pub unchanged : (R : Files → Files → Type 0) → ((f : Files) → R f f) → (a : Option Files) → Changed R a a
unchanged R same None = tt
unchanged R same (Some f) = same f

-- unchanged files are spared
pub spares_unchanged : (path : List ℕ) (a : Option Files) → Changed (IsSpared path) a a
spares_unchanged path a = unchanged (IsSpared path) (λ f. inl (λ p. refl)) a

-- files that are spared are spared, or one is set
pub spared_or_set : (path : List ℕ) (a b : Option Files) → Changed (IsSpared path) a b
    → Changed (IsSparedOrSet path) a b
spared_or_set path a b is =
    changed_also {R = IsSpared path} {S = IsSparedOrSet path} a b (λ f g known spared. inl spared) is

-- what holds anyway holds after an error
pub on_error : {T E : Type 0} {P : Type 0} → (r : Result T E) → P → OnErr r P
on_error (Ok v) holds = tt
on_error (Err e) holds = holds
