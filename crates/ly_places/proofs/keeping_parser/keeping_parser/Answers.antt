use Rattle.std.proofs.Common.{◌∙◌, ◌∷◌, [], ap, subst, sym}
use Rattle.std.specs.Prelude.{false}
use Rattle.ly_feed.proofs.ReturnedLemmas.{can_run}
use Rattle.ly_feed.specs.ScanPart.{scan_part_of}
use Rattle.ly_pack.specs.Machine.{IsMachine, Machine}
use Rattle.ly_pack.specs.Steady.{IsSteady}
use Rattle.ly_parse.specs.Parse.{Parse}
use Rattle.ly_places.proofs.DerivationLemmas.{can_keep, kept_tables}
use Rattle.ly_places.proofs.KeepingLemmas.{machine_stays, steady_still}
use Rattle.ly_places.proofs.keeping_parser.keeping_parser.Goals as goal
use Rattle.ly_tables.specs.TableSet.{machine_of}
use Rattle.ly_tree.specs.Forest.{no_terms}

pub with_rules-requires : goal.with_rules-requires
with_rules-requires c =
    let m = machine_of c.args.set.now in
    subst IsMachine (sym (kept_tables c.machine.result m c.args.rules.now c.machine.ensures.machine c.requires))
    (machine_stays m c.machine.ensures.within.machine)

pub new-requires : goal.new-requires
new-requires c =
    let m = machine_of c.args.set.now in
    let kept = kept_tables c.machine.result m c.args.rules.now c.machine.ensures.machine c.requires in
    subst IsSteady (sym (c.with_rules.ensures ∙ kept)) (steady_still m c.machine.ensures.steady)

pub returns-clause-new : goal.returns-clause-new
returns-clause-new c =
    let m = machine_of c.args.set.now in
    let kept = kept_tables c.machine.result m c.args.rules.now c.machine.ensures.machine c.requires in
    let begun : Machine → Parse = λ k. record {
      machine = k;
      forest = no_terms;
      stack = [];
      count = 0;
      over = false;
      asked = 0 ∷ [];
    } in
    c.new.ensures ∙ ap begun (c.with_rules.ensures ∙ kept)

pub returns-clause-machine : goal.returns-clause-machine
returns-clause-machine c = c.machine.ensures.within.machine

pub returns-clause-runs : goal.returns-clause-runs
returns-clause-runs c =
    let s = c.args.set.now in
    can_keep (scan_part_of s) (machine_of s) (can_run s c.machine.ensures.within c.machine.ensures.steady)
