use Rattle.ly_scan.proofs.StateRowLemmas.{entries_set, row_counted}
use Rattle.ly_scan.proofs.state_rows.StateRows.set.Goals as goal

pub start_of-requires : goal.start_of-requires
start_of-requires c = row_counted c.self.inside.entries.items c.args.self.now c.args.next c.self.invariant
    c.self.view_is c.requires.next

pub returns-clause-entries : goal.returns-clause-entries
returns-clause-entries c = entries_set c.self.inside.entries.items c.args.self.now c.start_of.result c.args.state
    c.args.column c.args.next c.self.view_is c.start_of.ensures.leads c.requires.column c.requires.there
