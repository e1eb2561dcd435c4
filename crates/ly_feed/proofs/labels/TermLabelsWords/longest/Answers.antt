use Rattle.ly_feed.specs.declared.label_form.LabelForm.TheVariants.{Plain}
use Rattle.ly_feed.proofs.labels.TermLabelsWords.longest.Goals as goal

pub returns-clause-leaves : goal.returns-clause-leaves
returns-clause-leaves c = let labels = c.args.self.now in
    c.longest.ensures.leaves Plain labels.names labels.labels_are

pub returns-clause-nodes : goal.returns-clause-nodes
returns-clause-nodes c = let labels = c.args.self.now in
    c.longest.ensures.nodes Plain labels.names labels.labels_are
