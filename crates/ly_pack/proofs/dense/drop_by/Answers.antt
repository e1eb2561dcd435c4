use Rattle.std.proofs.Common.{Some, not, rules}
use Rattle.std.proofs.lemmas.Fn.{filter_same}
use Rattle.ly_pack.specs.Defaults.{is_by}
use Rattle.ly_pack.specs.Values.{action_from}
use Rattle.ly_pack.proofs.dense.drop_by.Goals as goal

pub returns : goal.returns
returns c =
    let p = c.args.rule.0 in
    filter_same _ (λ x. not (is_by p (Some (action_from x.entry)))) _ (λ x b f' k. search rules) _ _
    c.retain.ensures.filtered
