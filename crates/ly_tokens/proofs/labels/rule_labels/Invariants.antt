use Rattle.std.proofs.Common.{◌≤◌, length, take}
use Rattle.std.specs.Prelude.{IfSome}
use Rattle.ly_tokens.proofs.LabelLemmas.{AreNumbers}
use Rattle.ly_tokens.specs.Private.Labels.{AreLiteralLabels, IsLabelOf}
use Rattle.ly_tokens.proofs.labels.rule_labels.Given as goal

-- there are the labels of the bytes, the numbers and the conditions of the actions so far, and the number of the last
abbrev pub invariant-loop-action : goal.invariant-loop-action
invariant-loop-action l = record {
  count : 256 ≤ length l.labels.items;
  literals : AreLiteralLabels l.form l.labels.items;
  numbered : AreNumbers l.form l.labels.items (take l.action-index l.actions) l.rules.items;
  before : IfSome l.before (λ b. IsLabelOf l.form l.labels.items b.0.now b.1);
}
