use Rattle.std.proofs.Common.{ap, arith, length}
use Rattle.std.specs.Prelude.{zip}
use Rattle.std.proofs.lemmas.Slice.Zip.{length-zip}
use Rattle.ly_base.proofs.KeyLemmas.{length_zip}
use Rattle.ly_lexread.proofs.ConditionLemmas.{beside_keys}
use Rattle.ly_lexread.proofs.conditions.Conditions.count.Goals as goal

pub returns : goal.returns
returns c = omega (
  arith,
  c.len.ensures,
  length_zip (λ k. k.items) c.self.inside.names.keys (zip c.self.inside.exclusive.items c.self.inside.lefts.items)
      (beside_keys c.self.inside.names.keys c.self.inside.exclusive.items c.self.inside.lefts.items c.self.invariant.0
      c.self.invariant.1),
  length-zip c.self.inside.exclusive.items c.self.inside.lefts.items,
  c.self.invariant.1,
  ap length c.self.view_is,
)
