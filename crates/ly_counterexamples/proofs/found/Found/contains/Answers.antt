use Rattle.std.proofs.Common.{◌∙◌, sym}
use Rattle.ly_counterexamples.proofs.FoundLemmas.{any_contains, contains_any}
use Rattle.ly_counterexamples.proofs.found.Found.contains.Goals as goal

pub returns : goal.returns
returns c = rw (← c.self.view_is) (
  λ h. contains_any c.self.inside.demands.keys c.args.demand.now (sym c.contains.ensures ∙ h),
  λ h. c.contains.ensures ∙ any_contains c.self.inside.demands.keys c.args.demand.now h,
)
