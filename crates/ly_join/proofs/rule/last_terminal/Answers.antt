use Rattle.std.proofs.Common.{◌∙◌, ap, sym}
use Rattle.std.specs.Prelude.{option_map}
use Rattle.ly_join.proofs.RuleLemmas.{last_more}
use Rattle.ly_join.proofs.rule.last_terminal.Goals as goal
use Rattle.ly_join.proofs.rule.last_terminal.Goals.{in-Terminal, in_default}

pub loop-symbol-preserved : goal.loop-symbol-preserved
loop-symbol-preserved c = elim c.match-symbol.branch [
  | in-Terminal w ↦ ap (option_map (λ t. t.0)) w.last-is
      ∙ sym (last_more c.args.body.now c.loop-symbol.symbol-index _ _ c.loop-symbol-test.true w.in-Terminal.is)
  | in_default w ↦ ap (option_map (λ t. t.0)) w.last-is ∙ (c.loop-symbol.invariant
      ∙ sym (last_more c.args.body.now c.loop-symbol.symbol-index _ _ c.loop-symbol-test.true w.in_default.is))
]
