use Rattle.std.proofs.Common.{length, subst, sym}
use Rattle.lytab_c.proofs.PartLemmas.{parts_end}
use Rattle.lytab_c.specs.Private.Putting.{EndWithin}
use Rattle.lytab_c.proofs.parsing.put_parts.Goals as goal

pub put_list-requires-clause-ends : goal.put_list-requires-clause-ends
put_list-requires-clause-ends c =
    subst (λ ps. EndWithin (length ps) 0 ps) (sym c.requires.1) (parts_end c.requires.0)
