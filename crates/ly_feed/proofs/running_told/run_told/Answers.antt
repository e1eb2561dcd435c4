use Rattle.std.proofs.Common.{◌∙◌, ap, arith, length, length-drop, refl, subst, sym}
use Rattle.std.specs.Prelude.{false}
use Rattle.ly_feed.proofs.OnwardLemmas.{fast_of, onward_on}
use Rattle.ly_feed.proofs.RunLemmas.{over, settled_there}
use Rattle.ly_feed.proofs.TakingLemmas.{refused_there}
use Rattle.ly_feed.proofs.ToldLemmas.{ahead_none, ahead_on, ahead_over, answered, has_terminal, told_after, told_at}
use Rattle.ly_feed.specs.Closed.{progress_of}
use Rattle.ly_feed.specs.SyntaxError.{verdict_of}
use Rattle.ly_feed.specs.Onward.{IsSettled, Onward, none_yet}
use Rattle.ly_feed.specs.Private.Running.{IsTaken}
use Rattle.ly_feed.specs.ScanPart.{scan_part_of, scanner_in}
use Rattle.ly_feed.specs.Verdict.{faulty}
use Rattle.ly_feed.proofs.running_told.run_told.Goals as goal
use Rattle.ly_parse.specs.declared.token_outcome.TokenOutcome.TheVariants.{Accepts, FaultyTables, Over, Reads, Refuses}

pub returns-then-condition-ne0-clause-runs : goal.returns-then-condition-ne0-clause-runs
returns-then-condition-ne0-clause-runs g c ended = (none_yet, c.requires.goes_on)

pub loop-told-init : goal.loop-told-init
loop-told-init g c = record {
  onward = λ ended. none_yet;
  machine = refl;
  goes_on = c.requires.goes_on;
  ahead = ahead_none c.args.start;
}

pub take_told-answer-requires-clause-told : goal.take_told-answer-requires-clause-told
take_told-answer-requires-clause-told g c = told_at (scan_part_of c.args.set.now) c.args.lexer.now c.args.facts.now
    c.tell_from.new.place c.in-Some.told c.requires.lexer c.requires.facts
    (c.in-Some.ensures.told c.requires.facts.numbers c.requires.facts.are)

pub loop-told-preserved : goal.loop-told-preserved
loop-told-preserved g c =
    let p = scan_part_of c.args.set.now in
    let m = c.args.parser.now.machine in
    let w = progress_of c.args.start c.args.parser.now in
    let l = c.args.lexer.now in
    let now = c.loop-told in
    let q = c.tell_from.new.place in
    let told = c.in-Some.told in
    let is = told_at p l c.args.facts.now q told c.requires.lexer c.requires.facts
    (c.in-Some.ensures.told c.requires.facts.numbers c.requires.facts.are) in
    let there = told_after p q c.advance.new.self told is c.advance.ensures in
    let goes = subst (λ k. IsTaken false p k (progress_of q now.parser) is.lexeme c.take_told-answer.new.parser Reads)
    now.invariant.machine (answered false (scan_part_of c.args.set.now) _ _ is.lexeme _ _ Reads c.in-Reads.is
    (c.take_told-answer.ensures.taken false is)) in record {
      onward = λ ended.
          let taken = subst
          (λ k. IsTaken ended p k (progress_of q now.parser) is.lexeme c.take_told-answer.new.parser Reads)
          now.invariant.machine (answered ended (scan_part_of c.args.set.now) _ _ is.lexeme _ _ Reads c.in-Reads.is
          (c.take_told-answer.ensures.taken ended is)) in
          subst (λ x. Onward ended p m w (progress_of x c.take_told-answer.new.parser)) (sym there)
          (onward_on ended p m (over ended p m w l now.place q now.parser c.requires.lexer
          (now.invariant.onward ended) c.tell_from.ensures.passed) taken.0);
      machine = c.take_told-answer.ensures.machine ∙ now.invariant.machine;
      goes_on = goes.1;
      ahead = ahead_on c.args.start q c.advance.new.self told.taken
          (ahead_over l c.args.start now.place q now.invariant.ahead c.tell_from.ensures.passed
          c.tell_from.ensures.left)
          (omega (arith, is.stands.within, is.taken)) c.advance.ensures;
    }

pub advance-requires : goal.advance-requires
advance-requires g c =
    let is = told_at (scan_part_of c.args.set.now) c.args.lexer.now c.args.facts.now c.tell_from.new.place
    c.in-Some.told c.requires.lexer c.requires.facts
    (c.in-Some.ensures.told c.requires.facts.numbers c.requires.facts.are) in
    omega (arith, is.stands.within, is.taken)

pub loop-told-smaller : goal.loop-told-smaller
loop-told-smaller g c =
    let is = told_at (scan_part_of c.args.set.now) c.args.lexer.now c.args.facts.now c.tell_from.new.place
    c.in-Some.told c.requires.lexer c.requires.facts
    (c.in-Some.ensures.told c.requires.facts.numbers c.requires.facts.are) in
    omega (
      arith,
      is.stands.some,
      is.stands.within,
      is.taken,
      c.tell_from.ensures.left,
      ap (λ p. length p.rest) c.advance.ensures,
      length-drop c.in-Some.told.taken c.tell_from.new.place.rest,
    )

pub returns-in_default-clause-runs : goal.returns-in_default-clause-runs
returns-in_default-clause-runs g c ended =
    let now = c.loop-told in (
      over ended (scan_part_of c.args.set.now) c.args.parser.now.machine
          (progress_of c.args.start c.args.parser.now) c.args.lexer.now now.place c.tell_from.new.place now.parser
          c.requires.lexer (now.invariant.onward ended) c.tell_from.ensures.passed,
      now.invariant.goes_on,
    )

pub returns-in_default-clause-ahead : goal.returns-in_default-clause-ahead
returns-in_default-clause-ahead g c = ahead_over c.args.lexer.now c.args.start c.loop-told.place c.tell_from.new.place
    c.loop-told.invariant.ahead c.tell_from.ensures.passed c.tell_from.ensures.left

pub told_refusal-requires-clause-within : goal.told_refusal-requires-clause-within
told_refusal-requires-clause-within g c =
    let is = told_at (scan_part_of c.args.set.now) c.args.lexer.now c.args.facts.now c.tell_from.new.place
    c.in-Some.told c.requires.lexer c.requires.facts
    (c.in-Some.ensures.told c.requires.facts.numbers c.requires.facts.are) in
    omega (arith, is.stands.within, is.taken)

pub told_refusal-requires-clause-token : goal.told_refusal-requires-clause-token
told_refusal-requires-clause-token g c =
    let p = scan_part_of c.args.set.now in
    let is = told_at p c.args.lexer.now c.args.facts.now c.tell_from.new.place c.in-Some.told c.requires.lexer
    c.requires.facts (c.in-Some.ensures.told c.requires.facts.numbers c.requires.facts.are) in
    let taken = answered false p _ _ is.lexeme _ _ Refuses c.in-Refuses.is
    (c.take_told-answer.ensures.taken false is) in
    has_terminal p c.tell_from.new.place is.lexeme taken.0 c.take_told-answer.result.1 taken.1
    (c.take_told-answer.ensures.terminal is)

pub told_refusal-requires-clause-tellable : goal.told_refusal-requires-clause-tellable
told_refusal-requires-clause-tellable g c =
    let is = told_at (scan_part_of c.args.set.now) c.args.lexer.now c.args.facts.now c.tell_from.new.place
    c.in-Some.told c.requires.lexer c.requires.facts
    (c.in-Some.ensures.told c.requires.facts.numbers c.requires.facts.are) in
    (answered false (scan_part_of c.args.set.now) _ _ is.lexeme _ _ Refuses c.in-Refuses.is
    (c.take_told-answer.ensures.taken false is)).5

pub returns-in-Refuses-clause-runs : goal.returns-in-Refuses-clause-runs
returns-in-Refuses-clause-runs g c ended =
    let p = scan_part_of c.args.set.now in
    let m = c.args.parser.now.machine in
    let w = progress_of c.args.start c.args.parser.now in
    let l = c.args.lexer.now in
    let q = c.tell_from.new.place in
    let s = c.loop-told.parser in
    let machine = c.loop-told.invariant.machine in
    let is = told_at p l c.args.facts.now q c.in-Some.told c.requires.lexer c.requires.facts
    (c.in-Some.ensures.told c.requires.facts.numbers c.requires.facts.are) in
    let syntax_error = c.in_ok-syntax_error-in-Refuses.syntax_error in
    settled_there ended p m w q s (verdict_of syntax_error)
    (over ended p m w l c.loop-told.place q s c.requires.lexer (c.loop-told.invariant.onward ended)
    c.tell_from.ensures.passed)
    (refused_there ended p m (progress_of q s) is.lexeme c.take_told-answer.new.parser syntax_error
    (c.take_told-answer.ensures.machine ∙ machine) (fast_of ended (scanner_in p) q is.lexeme is.stands)
    (subst (λ k. IsTaken ended p k (progress_of q s) is.lexeme c.take_told-answer.new.parser Refuses) machine
    (answered ended (scan_part_of c.args.set.now) _ _ is.lexeme _ _ Refuses c.in-Refuses.is
    (c.take_told-answer.ensures.taken ended is)))
    (c.in_ok-syntax_error-in-Refuses.ensures p is.lexeme is.taken (c.take_told-answer.ensures.terminal is)))

pub returns-in-FaultyTables-clause-runs : goal.returns-in-FaultyTables-clause-runs
returns-in-FaultyTables-clause-runs g c ended =
    let p = scan_part_of c.args.set.now in
    let m = c.args.parser.now.machine in
    let w = progress_of c.args.start c.args.parser.now in
    let l = c.args.lexer.now in
    let q = c.tell_from.new.place in
    let s = c.loop-told.parser in
    let is = told_at p l c.args.facts.now q c.in-Some.told c.requires.lexer c.requires.facts
    (c.in-Some.ensures.told c.requires.facts.numbers c.requires.facts.are) in
    settled_there ended p m w q s faulty
    (over ended p m w l c.loop-told.place q s c.requires.lexer (c.loop-told.invariant.onward ended)
    c.tell_from.ensures.passed)
    (subst (λ k. IsSettled ended p k (progress_of q s) faulty) c.loop-told.invariant.machine
    (answered ended (scan_part_of c.args.set.now) _ _ is.lexeme _ _ FaultyTables c.in-FaultyTables.is
    (c.take_told-answer.ensures.taken ended is)))

pub unreachable-requires : goal.unreachable-requires
unreachable-requires g c =
    let is = told_at (scan_part_of c.args.set.now) c.args.lexer.now c.args.facts.now c.tell_from.new.place
    c.in-Some.told c.requires.lexer c.requires.facts
    (c.in-Some.ensures.told c.requires.facts.numbers c.requires.facts.are) in
    answered false (scan_part_of c.args.set.now) _ _ is.lexeme _ _ Accepts c.in-Accepts.is
    (c.take_told-answer.ensures.taken false is)

pub unreachable-requires-in-Over : goal.unreachable-requires-in-Over
unreachable-requires-in-Over g c =
    let is = told_at (scan_part_of c.args.set.now) c.args.lexer.now c.args.facts.now c.tell_from.new.place
    c.in-Some.told c.requires.lexer c.requires.facts
    (c.in-Some.ensures.told c.requires.facts.numbers c.requires.facts.are) in
    answered false (scan_part_of c.args.set.now) _ _ is.lexeme _ _ Over c.in-Over.is
    (c.take_told-answer.ensures.taken false is)
