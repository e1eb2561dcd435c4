use Rattle.std.proofs.Common.{◌≡◌, ◌+◌, arith, drop, sym, subst}
use Rattle.std.proofs.lemmas.List.{take_rest}
use Rattle.ly_base.proofs.GapLemmas.{closes_nowhere, last_step, step_close, step_opening, step_other}
use Rattle.ly_base.specs.Gap.{Closes}
use Rattle.ly_base.proofs.gap.after_braces.Goals as goal
use Rattle.ly_base.proofs.gap.after_braces.Goals.{in-123, in-125+else-depth-eq0, in_default}

pub returns : goal.returns
returns c = λ rest h. closes_nowhere c.args.inside.now c.loop-at.depth c.loop-at.at rest (omega arith)
    ((c.loop-at.invariant.1 rest).0 h)

pub returns-then-depth-eq0 : goal.returns-then-depth-eq0
returns-then-depth-eq0 c =
    let inside = c.args.inside.now in
    let n = c.loop-at.at in
    let rest = drop (n + 1) inside in
    let here : Closes 0 (drop n inside) rest = last_step inside n (omega arith) (omega arith) in
    let zero : 0 ≡ c.loop-at.depth = omega arith in
    subst (λ r. Closes 0 inside r) (sym (take_rest inside (n + 1)))
    ((c.loop-at.invariant.1 rest).1 (subst (λ i. Closes i (drop n inside) rest) zero here))

pub loop-at-preserved : goal.loop-at-preserved
loop-at-preserved c =
    let inside = c.args.inside.now in
    let n = c.loop-at.at in
    let d = c.loop-at.depth in
    let m = c.match-inside-at.depth in
    elim c.match-inside-at.branch [
      | in-123 w ↦ (
        omega arith,
        λ rest.
            let old = c.loop-at.invariant.1 rest in
            let new = step_opening inside d m n (omega arith) rest (omega arith) (omega arith) in
            (λ h. new.0 (old.0 h), λ h. old.1 (new.1 h)),
      )
      | in-125+else-depth-eq0 w ↦ (
        omega arith,
        λ rest.
            let old = c.loop-at.invariant.1 rest in
            let new = step_close inside d m n (omega arith) rest (omega arith) (omega arith) in
            (λ h. new.0 (old.0 h), λ h. old.1 (new.1 h)),
      )
      | in_default w ↦ (
        omega arith,
        λ rest.
            let old = c.loop-at.invariant.1 rest in
            let new = step_other inside d m n (omega arith) rest (λ e. omega arith) (λ e. omega arith) (omega arith) in
            (λ h. new.0 (old.0 h), λ h. old.1 (new.1 h)),
      )
    ]
