-- The numbers and the greatest counts of a version: every count is below the numbers of reductions.
use Rattle.std.proofs.Common.{◌≡◌, ◌<◌, ◌+◌, refl, arith}
use Rattle.std.specs.Int.{Width}
use Rattle.ly_base.specs.declared.version.Version.{Version}
use Rattle.ly_base.specs.declared.version.Version.TheVariants.{V1, V2}
use Rattle.ly_tables.specs.Private.Short.{bound_of}
use Rattle.ly_tables.specs.Ranges.{Counts, counts_of, width_of}
use Rattle.ly_tables.specs.Spelling.{least_reduction, least_shift}

-- what proofs use of a width and counts
pub record AreOfVersion (w : Width) (counts : Counts) : Type 0 where
  pub half : least_shift w + least_shift w ≡ bound_of w
  pub quarter : least_reduction w + least_reduction w ≡ least_shift w
  pub symbols : counts.symbols < least_reduction w
  pub rules : counts.rules < least_reduction w
  pub conditions : counts.conditions ≡ 255
  pub states : counts.states < least_reduction w
  pub classes : 256 < least_reduction w

pub of_version : (v : Version) → AreOfVersion (width_of v) (counts_of v)
of_version V1 = record {
  half = refl;
  quarter = refl;
  symbols = omega arith;
  rules = omega arith;
  conditions = refl;
  states = omega arith;
  classes = omega arith;
}
of_version V2 = record {
  half = refl;
  quarter = refl;
  symbols = omega arith;
  rules = omega arith;
  conditions = refl;
  states = omega arith;
  classes = omega arith;
}
