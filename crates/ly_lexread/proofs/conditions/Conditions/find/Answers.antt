use Rattle.std.proofs.Common.{ap, ◌∙◌}
use Rattle.ly_lexread.specs.Conditions.{condition_of}
use Rattle.std.specs.Prelude.{zip}
use Rattle.ly_base.proofs.KeyLemmas.{number_zip}
use Rattle.ly_lexread.proofs.ConditionLemmas.{beside_keys}
use Rattle.ly_lexread.proofs.conditions.Conditions.find.Goals as goal

pub returns-in_err-place : goal.returns-in_err-place
returns-in_err-place c = c.from_residual.ensures ∙ (c.in_err-place.ensures.index
    ∙ (number_zip (λ k. k.items) c.args.name.now c.self.inside.names.keys
    (zip c.self.inside.exclusive.items c.self.inside.lefts.items)
    (beside_keys c.self.inside.names.keys c.self.inside.exclusive.items c.self.inside.lefts.items c.self.invariant.0
    c.self.invariant.1) ∙ ap (λ cs. condition_of cs c.args.name.now) c.self.view_is))

pub returns : goal.returns
returns c = c.in_ok-place.ensures.index
    ∙ (number_zip (λ k. k.items) c.args.name.now c.self.inside.names.keys
    (zip c.self.inside.exclusive.items c.self.inside.lefts.items)
    (beside_keys c.self.inside.names.keys c.self.inside.exclusive.items c.self.inside.lefts.items c.self.invariant.0
    c.self.invariant.1) ∙ ap (λ cs. condition_of cs c.args.name.now) c.self.view_is)
