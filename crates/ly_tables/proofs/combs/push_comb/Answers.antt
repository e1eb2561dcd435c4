use Rattle.std.proofs.lemmas.Result.{on_ok_weaker}
use Rattle.ly_tables.proofs.JoinLemmas.{comb_joined}
use Rattle.ly_tables.specs.Ranges.{width_of}
use Rattle.ly_tables.proofs.combs.push_comb.Goals as goal

pub returns : goal.returns
returns g c
    = on_ok_weaker c.push_checks.result (comb_joined (width_of c.args.version) (g.E.CombEntry.code c.args.version)
    c.args.out.now.items c.args.rows.now
    c.bases.result.now c.slots-slots.result.now c.bases.ensures c.slots-slots.ensures c.in_ok-push_bases.ensures
    c.in_ok-push_wide.ensures c.in_ok-push_entries.ensures) c.push_checks.ensures
