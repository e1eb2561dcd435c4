-- A report that is wanted.
use Rattle.std.proofs.Common.{◌≡◌, ℕ, None, Option, Some, refl, subst}
use Rattle.std.specs.Option.{IsSome}
use Rattle.std.specs.declared.alloc.Global.{Global}
use Rattle.std.specs.declared.vec.Vec.{Vec}
use Rattle.ly_join.specs.Joined.{Spec}
use Rattle.ly_report.specs.Report.{IsReport}
use Rattle.ly_generate.specs.Parser.{IsReportIf}
use Rattle.ly_generate.specs.declared.report_request.ReportRequest.TheVariants.{Wanted}

-- it is there
pub wanted_is_there : (s : Spec) (r : Option (Vec ℕ Global)) → IsReportIf Wanted s r → IsSome r
wanted_is_there s None h = absurd h
wanted_is_there s (Some text) h = refl

-- and is the specification's
pub wanted_is_report : (s : Spec) (r : Option (Vec ℕ Global)) (text : Vec ℕ Global) → IsReportIf Wanted s r
    → r ≡ Some text → IsReport s text.items
wanted_is_report s r text h is = subst (IsReportIf Wanted s) is h
