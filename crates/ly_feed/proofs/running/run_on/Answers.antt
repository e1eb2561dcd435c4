use Rattle.std.proofs.Common.{◌∙◌, Ok, ap, arith, length, length-drop, refl, subst, sym}
use Rattle.ly_base.specs.Lexed.{moved}
use Rattle.ly_feed.proofs.OnwardLemmas.{onward_on}
use Rattle.ly_feed.proofs.RunLemmas.{cut, fast_there, halts_at_end, over, settled_there, stuck, undecided_there}
use Rattle.ly_feed.specs.Onward.{IsSettled, Onward, none_yet}
use Rattle.ly_feed.proofs.TakingLemmas.{refused_there}
use Rattle.ly_feed.proofs.ToldLemmas.{told_fault, told_here}
use Rattle.ly_feed.specs.SyntaxError.{verdict_of}
use Rattle.ly_feed.specs.Closed.{CanRun, progress_of}
use Rattle.ly_feed.specs.Private.Running.{IsTaken}
use Rattle.ly_feed.specs.Private.Told.{HaltsAhead, IsRunOverTold}
use Rattle.ly_feed.specs.ScanPart.{scan_part_of, scanner_in}
use Rattle.ly_feed.specs.Verdict.{faulty}
use Rattle.ly_feed.proofs.running.run_on.Goals as goal
use Rattle.ly_parse.specs.declared.token_outcome.TokenOutcome.TheVariants.{Reads, Refuses}
use Rattle.ly_scan.specs.KnownWalks.{AreKnown}
use Rattle.ly_scan.specs.Pieces.{EndIsDecided}
use Rattle.ly_scan.specs.StateTable.{ahead_in}

pub loop-known-init : goal.loop-known-init
loop-known-init c = record {
  onward = none_yet;
  machine = refl;
  goes_on = c.requires.goes_on;
  known = c.new-known.ensures (ahead_in c.args.lexer.now.scanner) c.args.ended c.args.place.rest;
}

pub returns-in-Err-Stuck-clause-runs : goal.returns-in-Err-Stuck-clause-runs
returns-in-Err-Stuck-clause-runs c =
    let told = told_here c.args.ended (scan_part_of c.args.set.now) c.args.parser.now.machine
    (progress_of c.args.place c.args.parser.now) c.loop-known.place c.loop-known.parser c.run_told_by.new.parser
    c.in_ok-here.field-0 c.in-At.here c.loop-known.invariant.machine c.loop-known.invariant.onward
    (c.in_ok-here.ensures.runs c.args.ended) c.in-At.is in
    let p = scan_part_of c.args.set.now in
    let m = c.args.parser.now.machine in
    let w = progress_of c.args.place c.args.parser.now in
    let l = c.args.lexer.now in
    let q = c.next.new.place in
    let s = c.run_told_by.new.parser in
    stuck c.args.ended p m w l q s c.in-Err-Stuck.field-0 c.in-Err-Stuck.byte c.requires.lexer
    (over c.args.ended p m w l c.in-At.here q s c.requires.lexer told.0
    c.next.ensures.passed) c.in-Err-Stuck.ensures.end c.in-Err-Stuck.field-0-is

pub returns-in-Err-BadCut-clause-runs : goal.returns-in-Err-BadCut-clause-runs
returns-in-Err-BadCut-clause-runs c =
    let told = told_here c.args.ended (scan_part_of c.args.set.now) c.args.parser.now.machine
    (progress_of c.args.place c.args.parser.now) c.loop-known.place c.loop-known.parser c.run_told_by.new.parser
    c.in_ok-here.field-0 c.in-At.here c.loop-known.invariant.machine c.loop-known.invariant.onward
    (c.in_ok-here.ensures.runs c.args.ended) c.in-At.is in
    let p = scan_part_of c.args.set.now in
    let m = c.args.parser.now.machine in
    let w = progress_of c.args.place c.args.parser.now in
    let l = c.args.lexer.now in
    let q = c.next.new.place in
    let s = c.run_told_by.new.parser in
    cut c.args.ended p m w l q s c.in-Err-BadCut.field-0 c.in-Err-BadCut.field-0-0 c.requires.lexer
    (over c.args.ended p m w l c.in-At.here q s c.requires.lexer told.0
    c.next.ensures.passed) c.in-Err-BadCut.ensures.end c.in-Err-BadCut.field-0-is

pub returns-in-Ok-None-clause-runs : goal.returns-in-Ok-None-clause-runs
returns-in-Ok-None-clause-runs c =
    let told = told_here c.args.ended (scan_part_of c.args.set.now) c.args.parser.now.machine
    (progress_of c.args.place c.args.parser.now) c.loop-known.place c.loop-known.parser c.run_told_by.new.parser
    c.in_ok-here.field-0 c.in-At.here c.loop-known.invariant.machine c.loop-known.invariant.onward
    (c.in_ok-here.ensures.runs c.args.ended) c.in-At.is in
    let p = scan_part_of c.args.set.now in
    let q = c.next.new.place in (
      over c.args.ended p c.args.parser.now.machine (progress_of c.args.place c.args.parser.now) c.args.lexer.now
          c.in-At.here q c.run_told_by.new.parser c.requires.lexer told.0
          c.next.ensures.passed,
      undecided_there c.args.ended p c.args.lexer.now q c.in-Ok-None.field-0 c.requires.lexer
          c.in-Ok-None.ensures.found c.in-Ok-None.field-0-is,
      told.1,
    )

pub returns-in-Err-Clean-clause-runs : goal.returns-in-Err-Clean-clause-runs
returns-in-Err-Clean-clause-runs c =
    let told = told_here c.args.ended (scan_part_of c.args.set.now) c.args.parser.now.machine
    (progress_of c.args.place c.args.parser.now) c.loop-known.place c.loop-known.parser c.run_told_by.new.parser
    c.in_ok-here.field-0 c.in-At.here c.loop-known.invariant.machine c.loop-known.invariant.onward
    (c.in_ok-here.ensures.runs c.args.ended) c.in-At.is in
    let p = scan_part_of c.args.set.now in
    let q = c.next.new.place in (
      over c.args.ended p c.args.parser.now.machine (progress_of c.args.place c.args.parser.now) c.args.lexer.now
          c.in-At.here q c.run_told_by.new.parser c.requires.lexer told.0
          c.next.ensures.passed,
      halts_at_end c.args.ended p q (subst (λ e. EndIsDecided c.args.ended (scanner_in p) q e) c.in-Err-Clean.field-0-is
          (subst (λ x. EndIsDecided c.args.ended x q c.in-Err-Clean.field-0) c.requires.lexer.scanner
          c.in-Err-Clean.ensures.end)),
      told.1,
    )

pub refusal-requires-clause-token : goal.refusal-requires-clause-token
refusal-requires-clause-token c =
    let p = scan_part_of c.args.set.now in
    let l = c.args.lexer.now in
    let q = c.next.new.place in
    let t = c.in-Ok-Some.lexeme in
    let fast = fast_there c.args.ended p l q c.in-Ok-Some.field-0 t c.requires.lexer c.in-Ok-Some.ensures.found
    c.in-Ok-Some.field-0-is in
    let taken = c.in-Refuses.ensures.taken c.args.ended fast in
    (taken.0, taken.1)

pub take-requires-clause-runs : goal.take-requires-clause-runs
take-requires-clause-runs c =
    subst (CanRun (scan_part_of c.args.set.now))
    (sym (c.run_told_by.ensures.machine ∙ c.loop-known.invariant.machine)) c.requires.runs

pub refusal-requires-clause-tellable : goal.refusal-requires-clause-tellable
refusal-requires-clause-tellable c = (c.in-Refuses.ensures.taken c.args.ended
    (fast_there c.args.ended (scan_part_of c.args.set.now) c.args.lexer.now c.next.new.place c.in-Ok-Some.field-0
    c.in-Ok-Some.lexeme c.requires.lexer c.in-Ok-Some.ensures.found c.in-Ok-Some.field-0-is)).5

pub returns-in-Refuses-clause-runs : goal.returns-in-Refuses-clause-runs
returns-in-Refuses-clause-runs c =
    let told = told_here c.args.ended (scan_part_of c.args.set.now) c.args.parser.now.machine
    (progress_of c.args.place c.args.parser.now) c.loop-known.place c.loop-known.parser c.run_told_by.new.parser
    c.in_ok-here.field-0 c.in-At.here c.loop-known.invariant.machine c.loop-known.invariant.onward
    (c.in_ok-here.ensures.runs c.args.ended) c.in-At.is in
    let p = scan_part_of c.args.set.now in
    let m = c.args.parser.now.machine in
    let w = progress_of c.args.place c.args.parser.now in
    let l = c.args.lexer.now in
    let q = c.next.new.place in
    let s = c.run_told_by.new.parser in
    let t = c.in-Ok-Some.lexeme in
    let syntax_error = c.in_ok-refusal-in-Refuses.field-0 in
    let fast = fast_there c.args.ended p l q c.in-Ok-Some.field-0 t c.requires.lexer c.in-Ok-Some.ensures.found
    c.in-Ok-Some.field-0-is in
    settled_there c.args.ended p m w q s (verdict_of syntax_error)
    (over c.args.ended p m w l c.in-At.here q s c.requires.lexer told.0
    c.next.ensures.passed)
    (refused_there c.args.ended p m (progress_of q s) t c.take.new.parser syntax_error
    (c.take.ensures.machine ∙ c.run_told_by.ensures.machine ∙ c.loop-known.invariant.machine) fast
    (subst (λ k. IsTaken c.args.ended p k (progress_of q s) t c.take.new.parser Refuses)
    (c.run_told_by.ensures.machine ∙ c.loop-known.invariant.machine)
    (c.in-Refuses.ensures.taken c.args.ended fast))
    c.in_ok-refusal-in-Refuses.ensures)

pub returns-in-FaultyTables-clause-runs : goal.returns-in-FaultyTables-clause-runs
returns-in-FaultyTables-clause-runs c =
    let told = told_here c.args.ended (scan_part_of c.args.set.now) c.args.parser.now.machine
    (progress_of c.args.place c.args.parser.now) c.loop-known.place c.loop-known.parser c.run_told_by.new.parser
    c.in_ok-here.field-0 c.in-At.here c.loop-known.invariant.machine c.loop-known.invariant.onward
    (c.in_ok-here.ensures.runs c.args.ended) c.in-At.is in
    let p = scan_part_of c.args.set.now in
    let m = c.args.parser.now.machine in
    let w = progress_of c.args.place c.args.parser.now in
    let l = c.args.lexer.now in
    let q = c.next.new.place in
    let s = c.run_told_by.new.parser in
    let fast = fast_there c.args.ended p l q c.in-Ok-Some.field-0 c.in-Ok-Some.lexeme c.requires.lexer
    c.in-Ok-Some.ensures.found c.in-Ok-Some.field-0-is in
    settled_there c.args.ended p m w q s faulty
    (over c.args.ended p m w l c.in-At.here q s c.requires.lexer told.0
    c.next.ensures.passed)
    (subst (λ k. IsSettled c.args.ended p k (progress_of q s) faulty)
    (c.run_told_by.ensures.machine ∙ c.loop-known.invariant.machine)
    (c.in-FaultyTables.ensures.taken c.args.ended fast))

pub loop-known-preserved : goal.loop-known-preserved
loop-known-preserved c =
    let told = told_here c.args.ended (scan_part_of c.args.set.now) c.args.parser.now.machine
    (progress_of c.args.place c.args.parser.now) c.loop-known.place c.loop-known.parser c.run_told_by.new.parser
    c.in_ok-here.field-0 c.in-At.here c.loop-known.invariant.machine c.loop-known.invariant.onward
    (c.in_ok-here.ensures.runs c.args.ended) c.in-At.is in
    let p = scan_part_of c.args.set.now in
    let m = c.args.parser.now.machine in
    let w = progress_of c.args.place c.args.parser.now in
    let l = c.args.lexer.now in
    let q = c.next.new.place in
    let s = c.run_told_by.new.parser in
    let t = c.in-Ok-Some.lexeme in
    let fast = fast_there c.args.ended p l q c.in-Ok-Some.field-0 t c.requires.lexer c.in-Ok-Some.ensures.found
    c.in-Ok-Some.field-0-is in
    let there = c.advance.ensures ∙ ap (moved q t.taken) c.action-begin.ensures.begin in
    let taken = subst (λ k. IsTaken c.args.ended p k (progress_of q s) t c.take.new.parser Reads)
    (c.run_told_by.ensures.machine ∙ c.loop-known.invariant.machine)
    (c.in-Reads.ensures.taken c.args.ended fast) in record {
      onward = subst (λ x. Onward c.args.ended p m w (progress_of x c.take.new.parser)) (sym there)
          (onward_on c.args.ended p m
          (over c.args.ended p m w l c.in-At.here q s c.requires.lexer told.0
          c.next.ensures.passed) taken.0);
      machine = c.take.ensures.machine ∙ c.run_told_by.ensures.machine ∙ c.loop-known.invariant.machine;
      goes_on = taken.1;
      known = subst (λ x. AreKnown (ahead_in l.scanner) c.args.ended x.rest c.next.new.known) (sym there)
          (c.next.ensures.known t.taken fast.within);
    }

pub unreachable-requires : goal.unreachable-requires
unreachable-requires c = c.in-Accepts.ensures.taken c.args.ended
    (fast_there c.args.ended (scan_part_of c.args.set.now) c.args.lexer.now c.next.new.place c.in-Ok-Some.field-0
    c.in-Ok-Some.lexeme c.requires.lexer c.in-Ok-Some.ensures.found c.in-Ok-Some.field-0-is)

pub unreachable-requires-in-Over : goal.unreachable-requires-in-Over
unreachable-requires-in-Over c = c.in-Over.ensures.taken c.args.ended
    (fast_there c.args.ended (scan_part_of c.args.set.now) c.args.lexer.now c.next.new.place c.in-Ok-Some.field-0
    c.in-Ok-Some.lexeme c.requires.lexer c.in-Ok-Some.ensures.found c.in-Ok-Some.field-0-is)

pub returns-in_err-here-clause-runs : goal.returns-in_err-here-clause-runs
returns-in_err-here-clause-runs c =
    told_fault c.args.ended (scan_part_of c.args.set.now) c.args.parser.now.machine
    (progress_of c.args.place c.args.parser.now) c.loop-known.place c.loop-known.parser c.run_told_by.new.parser
    c.in_err-here.field-0.0 c.from_residual.result c.loop-known.invariant.machine c.loop-known.invariant.onward
    (c.in_err-here.ensures.runs c.args.ended) c.from_residual.ensures.1

pub returns-in-Stopped-clause-runs : goal.returns-in-Stopped-clause-runs
returns-in-Stopped-clause-runs c =
    let p = scan_part_of c.args.set.now in
    let m = c.args.parser.now.machine in
    let syntax_error = c.in-Stopped.syntax_error in
    settled_there c.args.ended p m (progress_of c.args.place c.args.parser.now) c.loop-known.place c.loop-known.parser
    (verdict_of syntax_error) c.loop-known.invariant.onward
    (subst (λ h. IsRunOverTold c.args.ended p m (progress_of c.loop-known.place c.loop-known.parser)
    c.run_told_by.new.parser (Ok h)) c.in-Stopped.is
    (subst (λ k. IsRunOverTold c.args.ended p k (progress_of c.loop-known.place c.loop-known.parser)
    c.run_told_by.new.parser (Ok c.in_ok-here.field-0)) c.loop-known.invariant.machine
    (c.in_ok-here.ensures.runs c.args.ended)))

pub run_told_by-requires-clause-runs : goal.run_told_by-requires-clause-runs
run_told_by-requires-clause-runs c =
    subst (CanRun (scan_part_of c.args.set.now)) (sym c.loop-known.invariant.machine) c.requires.runs

pub next-requires : goal.next-requires
next-requires c = record {
  known = (subst (λ h. HaltsAhead c.loop-known.place (Ok h)) c.in-At.is c.in_ok-here.ensures.ahead).known
      (ahead_in c.args.lexer.now.scanner) c.loop-known.known c.args.ended c.loop-known.invariant.known;
}

pub loop-known-smaller : goal.loop-known-smaller
loop-known-smaller c =
    let q = c.next.new.place in
    let t = c.in-Ok-Some.lexeme in
    let fast = fast_there c.args.ended (scan_part_of c.args.set.now) c.args.lexer.now q c.in-Ok-Some.field-0 t
    c.requires.lexer c.in-Ok-Some.ensures.found c.in-Ok-Some.field-0-is in
    omega (
      arith,
      fast.some,
      fast.within,
      (subst (λ h. HaltsAhead c.loop-known.place (Ok h)) c.in-At.is c.in_ok-here.ensures.ahead).fewer,
      c.next.ensures.left,
      ap (λ x. length x.rest) c.advance.ensures,
      length-drop t.taken q.rest,
    )

pub take-requires-clause-goes_on : goal.take-requires-clause-goes_on
take-requires-clause-goes_on c = (told_here c.args.ended (scan_part_of c.args.set.now) c.args.parser.now.machine
    (progress_of c.args.place c.args.parser.now) c.loop-known.place c.loop-known.parser c.run_told_by.new.parser
    c.in_ok-here.field-0 c.in-At.here c.loop-known.invariant.machine c.loop-known.invariant.onward
    (c.in_ok-here.ensures.runs c.args.ended) c.in-At.is).1
