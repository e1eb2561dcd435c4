use Rattle.std.proofs.Common.{Ok, subst}
use Rattle.std.specs.Prelude.{true}
use Rattle.ly_feed.proofs.ClosingLemmas.{closed, closed_by, closed_fault}
use Rattle.ly_feed.specs.Closed.{progress_of}
use Rattle.ly_feed.specs.Private.Running.{IsRunOn}
use Rattle.ly_feed.specs.ScanPart.{scan_part_of}
use Rattle.ly_feed.proofs.running.run_to_end.Goals as goal

pub returns-in_err-place-clause-closed : goal.returns-in_err-place-clause-closed
returns-in_err-place-clause-closed c = closed_fault (scan_part_of c.args.set.now) c.args.parser.now.machine
    (progress_of c.args.place c.args.parser.now) c.run_on.new.parser
    c.run_on.new.parser.forest c.in_err-place.field-0.0 c.from_residual.result c.in_err-place.ensures.runs
    c.from_residual.ensures.1

pub returns-in-Stopped-clause-closed : goal.returns-in-Stopped-clause-closed
returns-in-Stopped-clause-closed c = closed_by (scan_part_of c.args.set.now) c.args.parser.now.machine
    (progress_of c.args.place c.args.parser.now) c.run_on.new.parser
    c.run_on.new.parser.forest c.in_ok-place.field-0 c.in-Stopped.syntax_error c.in_ok-place.ensures.runs
    c.in-Stopped.is

pub returns-in-At-clause-closed : goal.returns-in-At-clause-closed
returns-in-At-clause-closed c =
    let p = scan_part_of c.args.set.now in
    let m = c.args.parser.now.machine in
    let w = progress_of c.args.place c.args.parser.now in
    let run = subst (λ h. IsRunOn true p m w c.run_on.new.parser (Ok h)) c.in-At.is c.in_ok-place.ensures.runs in
    closed p m w c.in-At.place c.run_on.new.parser run.0 run.1 c.run_on.ensures.machine
    c.close.new.parser.forest c.close.result c.close.ensures.last
