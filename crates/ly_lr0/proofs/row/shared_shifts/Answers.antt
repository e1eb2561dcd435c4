use Rattle.std.proofs.Common.{◌≡◌, ◌∙◌, sym}
use Rattle.std.proofs.lemmas.Result.{MatchResult-weaker}
use Rattle.std.specs.Rc.{rc_slice_items}
use Rattle.ly_lr0.proofs.ShiftLemmas.{transitions_same}
use Rattle.ly_lr0.proofs.row.shared_shifts.Goals as goal

pub returns-in-Some : goal.returns-in-Some
returns-in-Some c =
    let same : rc_slice_items c.in-Some.last.now.shifts ≡ c.args.shifts.now = sym c.as_slice.ensures.value
    ∙ transitions_same c.as_slice.result.now c.args.shifts.now c.eq.result c.eq.ensures c.if-eq.true in
    MatchResult-weaker c.clone.result c.clone.ensures.cases (λ copy e. e ∙ same) (λ _ _. tt)
