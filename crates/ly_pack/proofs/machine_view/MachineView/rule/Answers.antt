use Rattle.std.proofs.Common.{◌∙◌, ◌-◌, sym, ap, arith, slice_get, length}
use Rattle.std.proofs.Math.ListN.{length-map}
use Rattle.std.specs.Prelude.{option_map}
use Rattle.std.proofs.lemmas.Option.{slice_get-get_or, slice_get-map}
use Rattle.ly_pack.specs.Values.{rule_from}
use Rattle.ly_pack.proofs.machine_view.MachineView.rule.Goals as goal

pub returns : goal.returns
returns g c =
    let kept = c.self.inside.rules.now in
    let rules = ap (λ m. m.rules) c.self.view_is in
    let long = ap length rules in (
      c.args.rule.0 - 1,
      omega (arith, c.requires.0),
      ap (λ rs. slice_get rs (c.args.rule.0 - 1)) (sym rules)
          ∙ slice_get-map rule_from kept (c.args.rule.0 - 1)
          ∙ ap (option_map rule_from) (slice_get-get_or kept (c.args.rule.0 - 1) _
          (omega (arith, c.requires.0, c.requires.1, length-map kept rule_from))),
    )
