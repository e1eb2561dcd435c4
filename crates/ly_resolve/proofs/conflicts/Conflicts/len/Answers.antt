use Rattle.std.proofs.Common.{◌∙◌, ap, arith, length, sym}
use Rattle.ly_resolve.specs.Private.Conflicts.{end_from}
use Rattle.ly_resolve.proofs.KeptRunLemmas.{items_length}
use Rattle.ly_resolve.proofs.conflicts.Conflicts.len.Goals as goal

pub returns : goal.returns
returns c =
    let rs = c.self.inside.runs.items in
    let long = items_length 0 rs c.self.invariant in
    c.end_of.ensures ∙ ap (end_from 0) c.deref.ensures.value ∙ sym long
    ∙ omega arith ∙ ap length c.self.view_is
