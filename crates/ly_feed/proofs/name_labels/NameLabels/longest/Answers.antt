use Rattle.std.proofs.Common.{◌≤◌, ℕ, length, subst}
use Rattle.ly_feed.specs.NameMembers.{node_member, token_member, vocabulary_in}
use Rattle.ly_feed.specs.declared.label_form.LabelForm.TheVariants.{Name}
use Rattle.ly_feed.proofs.name_labels.NameLabels.longest.Goals as goal

pub returns-clause-leaves : goal.returns-clause-leaves
returns-clause-leaves c =
    subst (λ names. (t : ℕ) → length (token_member ((vocabulary_in names).terminal t)) ≤ c.longest.result)
    c.self.view_is (c.longest.ensures.leaves Name c.self.inside.names c.self.invariant)

pub returns-clause-nodes : goal.returns-clause-nodes
returns-clause-nodes c =
    subst (λ names. (p : ℕ) → length (node_member ((vocabulary_in names).constructor p)) ≤ c.longest.result)
    c.self.view_is (c.longest.ensures.nodes Name c.self.inside.names c.self.invariant)
