-- What leaves consist of is bytes.
use Rattle.std.specs.Prelude.{◌<◌, All}
use Rattle.ly_tree.specs.Term.{Term, Terms, nothing, leaf, built, none, more}

abbrev mutual
  pub IsOfBytes : Term → Type 0
  IsOfBytes nothing = Unit {0}
  IsOfBytes (leaf t bytes) = All (λ b. b < 256) bytes
  IsOfBytes (built p ts) = AreOfBytes ts

  pub AreOfBytes : Terms → Type 0
  AreOfBytes none = Unit {0}
  AreOfBytes (more t ts) = IsOfBytes t × AreOfBytes ts
