use Rattle.std.proofs.Common.{subst, sym}
use Rattle.ly_base.specs.Lexed.{start_of}
use Rattle.ly_feed.specs.Closed.{CanRun, IsClosed, progress_of}
use Rattle.ly_feed.specs.ScanPart.{scan_part_of}
use Rattle.ly_feed.proofs.prepared.Prepared.run.Goals as goal

pub run_to_end-requires-clause-runs : goal.run_to_end-requires-clause-runs
run_to_end-requires-clause-runs c =
    subst (λ s. CanRun (scan_part_of s) c.args.parser.now.machine) (sym c.self.view_is) c.requires.runs

pub returns-clause-closed : goal.returns-clause-closed
returns-clause-closed c =
    let parser = c.args.parser.now in
    let forest = c.run_to_end.new.parser.forest in
    subst (λ s. IsClosed (scan_part_of s) parser.machine (progress_of (start_of c.args.text.now) parser) forest
    c.run_to_end.result) c.self.view_is
    (subst (λ q. IsClosed (scan_part_of c.self.inside.set.now) parser.machine (progress_of q parser) forest
    c.run_to_end.result) c.start-start.ensures c.run_to_end.ensures.closed)
