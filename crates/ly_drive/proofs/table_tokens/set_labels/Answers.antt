use Rattle.ly_drive.proofs.SetLabelLemmas.{are_labels_of_set}
use Rattle.ly_drive.proofs.table_tokens.set_labels.Goals as goal

pub returns : goal.returns
returns c = are_labels_of_set c.args.form c.args.set.now c.machine-machine.ensures.within c.scan_rules.result.now _
    c.scan_rules.ensures c.in_ok-labels_of.ensures c.in_ok-rules_of.ensures
