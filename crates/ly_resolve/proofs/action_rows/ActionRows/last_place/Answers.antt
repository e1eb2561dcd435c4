use Rattle.std.proofs.Common.{◌∙◌, ap, map, sym}
use Rattle.std.specs.Prelude.{slice_range}
use Rattle.ly_base.proofs.LookedUpLemmas.{lists_same}
use Rattle.ly_resolve.specs.Values.{terminal_action_from}
use Rattle.ly_resolve.proofs.KeptLemmas.{entry_same}
use Rattle.ly_resolve.proofs.action_rows.ActionRows.last_place.Goals as goal

pub returns-then-eq-clause-same : goal.returns-then-eq-clause-same
returns-then-eq-clause-same c =
    let p = c.in_ok-place.field-0.now in
    ap (λ xs. map terminal_action_from (slice_range xs p.start p.end)) (sym c.deref-2.ensures.value)
    ∙ ap (map terminal_action_from) (lists_same _ entry_same (slice_range c.deref-2.result.now p.start p.end)
    c.args.row.now (sym c.eq.ensures ∙ c.if-eq.true))
