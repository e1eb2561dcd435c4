use Rattle.std.proofs.Common.{ap, arith, inl, inr, length, refl}
use Rattle.lytab_c.proofs.NameLemmas.{length_ends}
use Rattle.lytab_c.specs.Naming.{names_of}
use Rattle.lytab_c.proofs.naming.put_names.Goals as goal
use Rattle.lytab_c.proofs.naming.put_names.Goals.{then-ends-len-via-else-ends-len+then-names-len}
use Rattle.lytab_c.proofs.naming.put_names.Goals.{then-ends-len-via-then-ends-len}

pub returns-then-ends-len : goal.returns-then-ends-len
returns-then-ends-len c =
    let names = names_of c.args.set.now in
    let list = c.args.list.now in
    let ends = ap length c.requires.ends in
    let bytes = ap length c.requires.bytes in (
      c.of.ensures,
      elim c.then-ends-len.branch [
        | then-ends-len-via-then-ends-len w ↦ inl (omega (arith, list.ends.ok.0, ends, length_ends 0 names))
        | then-ends-len-via-else-ends-len+then-names-len w ↦ inr (omega (arith, list.bytes.ok.0, bytes))
      ],
      refl,
    )
