use Rattle.std.proofs.Common.{◌∙◌, ap, map}
use Rattle.std.specs.Prelude.{zip}
use Rattle.std.proofs.lemmas.Result.{IfOk-weaker}
use Rattle.ly_lexread.specs.LexText.{conditions_in, declared_at}
use Rattle.ly_lexread.proofs.ConditionLemmas.{zip_parts}
use Rattle.ly_lexread.proofs.conditions.Conditions.named.Goals as goal

pub returns : goal.returns
returns c =
    let ks = c.self.inside.names.keys in
    let at = declared_at c.args.whole in
    IfOk-weaker c.named.result _ _ (λ all is. is
    ∙ (ap (λ ls. zip (map (λ k. k.items) ks) (map at ls)) c.deref.ensures.value
    ∙ (zip_parts (λ k. k.items) at ks c.self.inside.exclusive.items c.self.inside.lefts.items c.self.invariant.0
    c.self.invariant.1 ∙ ap (conditions_in c.args.whole) c.self.view_is))) c.named.ensures
