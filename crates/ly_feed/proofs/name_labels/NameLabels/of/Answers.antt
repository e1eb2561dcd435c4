use Rattle.std.proofs.Common.{◌≡◌, ap₂, subst, List, ℕ}
use Rattle.std.specs.Prelude.{IfOk}
use Rattle.ly_feed.specs.NameMembers.{Named}
use Rattle.ly_pack.specs.Machine.{TableRule}
use Rattle.ly_feed.proofs.name_labels.NameLabels.of.Goals as goal

named : List (List ℕ) → List TableRule → Named
named terminals rules = record { terminals = terminals; rules = rules }

pub returns : goal.returns
unfolding named
returns c = subst (λ names. IfOk c.new.result (λ labels. labels ≡ names))
    (ap₂ named c.terminals.ensures c.rules.ensures) c.new.ensures
