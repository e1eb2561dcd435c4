use Rattle.ly_repair.specs.Edits.{cost}
use Rattle.ly_repair.proofs.FormLemmas.{falls, in_form}
use Rattle.ly_repair.proofs.ReadLemmas.{costs}
use Rattle.ly_repair.proofs.laws.form_loses_nothing.Goals as goal

pub returns-clause-form : goal.returns-clause-form
returns-clause-form c = in_form

pub returns-clause-least : goal.returns-clause-least
returns-clause-least c = λ m stack rest n refused each es w.
    let x = in_form m stack rest es w (costs m es stack rest w.last w.left w.leads w.holds refused) in
    each (cost es) x.0 x.1

pub returns-clause-falls : goal.returns-clause-falls
returns-clause-falls c = falls
