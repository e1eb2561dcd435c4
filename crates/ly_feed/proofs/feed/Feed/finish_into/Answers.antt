use Rattle.std.proofs.Common.{◌≡◌, ◌∙◌, ap, subst, sym}
use Rattle.std.specs.Prelude.{false, true}
use Rattle.ly_feed.proofs.EndingLemmas.{answered, at_fault, fault_of_ending, outcome_of, rest_of, writing_ends}
use Rattle.ly_feed.specs.Closed.{CanRun, IsVerdictOf, progress_of}
use Rattle.ly_feed.specs.ScanPart.{scan_part_of}
use Rattle.ly_feed.specs.TableAnswer.{IsRest}
use Rattle.ly_feed.specs.Verdict.{faulty, written_in}
use Rattle.ly_feed.specs.Vocabularies.{vocabulary_of}
use Rattle.ly_feed.proofs.feed.Feed.finish_into.Goals as goal

pub invariant_of-self : goal.invariant_of-self
invariant_of-self g c = record {
  lexer = c.self.invariant.lexer;
  facts = c.self.invariant.facts;
  machine = c.run_to_end.ensures.machine ∙ c.self.invariant.machine;
  runs = c.self.invariant.runs;
  parses = λ goes. absurd (let both : true ≡ false = goes in cc);
  waits = λ goes. absurd (let both : true ≡ false = goes in cc);
}

pub run_to_end-requires-clause-runs : goal.run_to_end-requires-clause-runs
run_to_end-requires-clause-runs g c =
    subst (CanRun (scan_part_of c.self.inside.set.now)) (sym c.self.invariant.machine) c.self.invariant.runs

pub returns-in_err-ended-clause-faulty : goal.returns-in_err-ended-clause-faulty
returns-in_err-ended-clause-faulty g c failed =
    let f = c.self.inside in
    let set = f.set.now in
    rest_of set f.form f.window c.place-place.result f.parser f.over c.args.self.now faulty c.self.view_is
    c.place-place.ensures
    (subst (λ m. IsRest (scan_part_of set) m (progress_of c.place-place.result f.parser) faulty)
    c.self.invariant.machine
    (at_fault (scan_part_of set) f.parser.machine (progress_of c.place-place.result f.parser)
    c.run_to_end.new.parser.forest c.in_err-ended.field-0.0 c.from_residual.result c.in_err-ended.ensures.closed
    c.from_residual.ensures.1 failed))

pub returns-in_err-ended-clause-ending : goal.returns-in_err-ended-clause-ending
returns-in_err-ended-clause-ending g c =
    let f = c.self.inside in
    fault_of_ending (scan_part_of f.set.now) f.parser.machine (progress_of c.place-place.result f.parser)
    c.run_to_end.new.parser.forest c.in_err-ended.field-0.0 c.from_residual.result c.in_err-ended.ensures.closed
    c.from_residual.ensures.1

pub returns-clause-ending : goal.returns-clause-ending
returns-clause-ending g c = writing_ends c.write_ended.result c.write_ended.ensures.of_writing

pub invariant_of-self-2 : goal.invariant_of-self-2
invariant_of-self-2 g c = record {
  lexer = c.self.invariant.lexer;
  facts = c.self.invariant.facts;
  machine = c.run_to_end.ensures.machine ∙ c.self.invariant.machine;
  runs = c.self.invariant.runs;
  parses = λ goes. absurd (let both : true ≡ false = goes in cc);
  waits = λ goes. absurd (let both : true ≡ false = goes in cc);
}

pub returns-clause-answered : goal.returns-clause-answered
returns-clause-answered g c =
    let sink = g.W.Sink in
    let f = c.self.inside in
    let set = f.set.now in
    let closed = c.in_ok-ended.ensures.closed in
    let said = subst (λ x. IsVerdictOf x c.in_ok-ended.ended closed.0) (sym c.forest.ensures) closed.2 in
    answered c.args.self.now set f.form closed.0 c.forest.result.now c.in_ok-ended.ended
    (sink.contents c.args.writer.now) (sink.contents c.write_ended.new.writer) c.write_ended.result
    (ap (λ x. x.set) (sym c.self.view_is)) (ap (λ x. x.form) (sym c.self.view_is))
    (rest_of set f.form f.window c.place-place.result f.parser f.over c.args.self.now closed.0 c.self.view_is
    c.place-place.ensures
    (subst (λ m. IsRest (scan_part_of set) m (progress_of c.place-place.result f.parser) closed.0)
    c.self.invariant.machine closed.1)) said c.write_ended.ensures.ok

pub returns-clause-beginning : goal.returns-clause-beginning
returns-clause-beginning g c written is =
    let f = c.self.inside in
    let set = f.set.now in
    let closed = c.in_ok-ended.ensures.closed in
    let said = subst (λ x. IsVerdictOf x c.in_ok-ended.ended closed.0) (sym c.forest.ensures) closed.2 in
    let out = outcome_of c.forest.result.now c.in_ok-ended.ended closed.0 said in (
      written_in f.form (vocabulary_of set) closed.0,
      out.0,
      (
        closed.0,
        rest_of set f.form f.window c.place-place.result f.parser f.over c.args.self.now closed.0 c.self.view_is
            c.place-place.ensures
            (subst (λ m. IsRest (scan_part_of set) m (progress_of c.place-place.result f.parser) closed.0)
            c.self.invariant.machine closed.1),
        out.1,
        ap (λ x. written_in x.form (vocabulary_of x.set) closed.0) c.self.view_is,
      ),
      c.write_ended.ensures.beginning written closed.0 is said,
    )
