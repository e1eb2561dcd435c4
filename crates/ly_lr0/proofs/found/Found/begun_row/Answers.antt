use Rattle.std.proofs.Common.{◌∙◌, ap, arith, map, subst, sym}
use Rattle.std.proofs.lemmas.List.{take_all}
use Rattle.ly_join.specs.Grammar.{symbol_of}
use Rattle.ly_lr0.specs.Private.Shared.{IsLastRowBefore, move_at}
use Rattle.ly_lr0.specs.Transitions.{transition_of}
use Rattle.ly_lr0.proofs.found.Found.begun_row.Goals as goal
use Rattle.ly_lr0.proofs.found.Found.begun_row.Goals.{else-at-gt0, then-at-gt0+else-loop-transition-test}

pub returns-clause-before : goal.returns-clause-before
returns-clause-before c = λ some. elim c.if-at-gt0.branch [
  | then-at-gt0+else-loop-transition-test w ↦
      let all = w.last_before-transition-items.result.now in
      let here = ap (λ v. v.items) w.transitions-is ∙ w.loop-transition.invariant
      ∙ take_all w.loop-transition.transition-index all (omega (arith, w.loop-transition-test.false)) in
      subst (λ ts. IsLastRowBefore c.args.self.now (symbol_of (move_at c.args.moves.now c.args.at).symbol)
      (map transition_of ts)) (sym here) w.last_before-transition-items.ensures
  | else-at-gt0 w ↦ absurd (omega (arith, some, w.if-at-gt0.false))
]
