use Rattle.std.proofs.Common.{◌∙◌, Err, Ok, ap, arith, length, refl, subst, sym}
use Rattle.std.specs.Prelude.{false, true}
use Rattle.ly_feed.proofs.FeedLemmas.{IsFurther, further, given_up, goes_onward, is_faulty, is_piece, is_settled}
use Rattle.ly_feed.proofs.FeedLemmas.{run_of_set}
use Rattle.ly_feed.proofs.RunLemmas.{halts_here}
use Rattle.ly_feed.specs.Held.{IsOnward, TakesPiece}
use Rattle.ly_feed.specs.Onward.{Onward, none_yet}
use Rattle.ly_feed.specs.Private.Feeding.{held_from}
use Rattle.ly_feed.specs.Closed.{CanRun, progress_of}
use Rattle.ly_feed.specs.Private.Running.{IsRunOn}
use Rattle.ly_feed.specs.ScanPart.{scan_part_of}
use Rattle.ly_feed.specs.declared.need.Need.TheVariants.{Settled}
use Rattle.ly_feed.proofs.feed.Feed.piece.Goals as goal
use Rattle.ly_scan.specs.Lexers.{IsUnderwayAt}
use Rattle.ly_scan.specs.Pieces.{IsUndecided, behind}
use Rattle.ly_tables.specs.TableSet.{machine_of}

pub returns-then-goes_on : goal.returns-then-goes_on
returns-then-goes_on c =
    let f = c.self.inside in
    let next = c.if-goes_on.ensures f.window (c.self.invariant.waits c.if-self.false) refl in
    is_piece c.args.self.now _ c.args.bytes.now _ (ap (λ x. x.over) (sym c.self.view_is) ∙ c.if-self.false)
    (subst (λ x. IsOnward x c.args.bytes.now (held_from f.set.now f.form c.push.new.self f.parser false)) c.self.view_is
    (subst (λ q. IsOnward (held_from f.set.now f.form f.window f.parser f.over) c.args.bytes.now
    (held_from f.set.now f.form q f.parser false)) (sym c.in_ok-push.ensures.ok)
    (goes_onward f.set.now f.form f.window f.parser f.over c.args.bytes.now (behind f.window c.args.bytes.now) f.parser
    none_yet
    (subst (λ s. IsUndecided s (behind f.window c.args.bytes.now)) c.self.invariant.lexer.scanner next.1)
    c.in_ok-push.ensures.countable)))

pub run_on-requires-clause-runs : goal.run_on-requires-clause-runs
run_on-requires-clause-runs c =
    subst (CanRun (scan_part_of c.self.inside.set.now)) (sym c.self.invariant.machine) c.self.invariant.runs

pub returns-in_err-place : goal.returns-in_err-place
returns-in_err-place c =
    let f = c.self.inside in
    let g = held_from f.set.now f.form c.push.new.self c.run_on.new.parser true in
    is_piece c.args.self.now g c.args.bytes.now c.from_residual-in_err-place.result
    (ap (λ x. x.over) (sym c.self.view_is) ∙ c.if-self.false)
    (subst (λ x. TakesPiece x c.args.bytes.now g c.from_residual-in_err-place.result) c.self.view_is
    (is_faulty f.set.now f.form f.window f.parser f.over c.args.bytes.now g c.in_err-place.field-0.0
    c.from_residual-in_err-place.result c.run_on.new.parser
    (subst (λ q. IsRunOn false (scan_part_of f.set.now) (machine_of f.set.now) (progress_of q f.parser)
    c.run_on.new.parser (Err c.in_err-place.field-0.0))
    (c.place-start.ensures ∙ c.in_ok-push.ensures.ok)
    (run_of_set (scan_part_of f.set.now) (progress_of c.place-start.result f.parser) c.run_on.new.parser
    c.self.invariant.machine (Err c.in_err-place.field-0.0) c.in_err-place.ensures.runs))
    c.from_residual-in_err-place.ensures.1 (record { set = refl; form = refl; over = refl })
    c.in_ok-push.ensures.countable))

pub returns-in-Stopped : goal.returns-in-Stopped
returns-in-Stopped c =
    let f = c.self.inside in
    let g = held_from f.set.now f.form c.push.new.self c.run_on.new.parser true in
    is_piece c.args.self.now g c.args.bytes.now _ (ap (λ x. x.over) (sym c.self.view_is) ∙ c.if-self.false)
    (subst (λ x. TakesPiece x c.args.bytes.now g
    (Ok (Settled c.in_ok-outcome-in-Stopped.outcome c.in_ok-outcome-in-Stopped.lines))) c.self.view_is
    (is_settled f.set.now f.form f.window f.parser f.over c.args.bytes.now g c.in-Stopped.syntax_error
    c.in_ok-outcome-in-Stopped.outcome c.in_ok-outcome-in-Stopped.lines c.run_on.new.parser c.in_ok-place.field-0
    (subst (λ q. IsRunOn false (scan_part_of f.set.now) (machine_of f.set.now) (progress_of q f.parser)
    c.run_on.new.parser (Ok c.in_ok-place.field-0))
    (c.place-start.ensures ∙ c.in_ok-push.ensures.ok)
    (run_of_set (scan_part_of f.set.now) (progress_of c.place-start.result f.parser) c.run_on.new.parser
    c.self.invariant.machine (Ok c.in_ok-place.field-0) c.in_ok-place.ensures.runs))
    c.in-Stopped.is c.in_ok-outcome-in-Stopped.ensures.0 c.in_ok-outcome-in-Stopped.ensures.1
    (record { set = refl; form = refl; over = refl }) c.in_ok-push.ensures.countable))

pub matcher_at-self-inside-requires : goal.matcher_at-self-inside-requires
matcher_at-self-inside-requires c =
    let f = c.self.inside in
    subst (λ s. IsUndecided s c.in-At.place) (sym c.self.invariant.lexer.scanner)
    (halts_here (scan_part_of f.set.now) (machine_of f.set.now) (progress_of c.place-start.result f.parser)
    c.run_on.new.parser c.in_ok-place.field-0 c.in-At.place
    c.self.invariant.machine c.in_ok-place.ensures.runs c.in-At.is).1

pub give_up-requires-clause-from : goal.give_up-requires-clause-from
give_up-requires-clause-from c =
    let f = c.self.inside in
    let run = halts_here (scan_part_of f.set.now) (machine_of f.set.now) (progress_of c.place-start.result f.parser)
    c.run_on.new.parser c.in_ok-place.field-0 c.in-At.place
    c.self.invariant.machine c.in_ok-place.ensures.runs c.in-At.is in
    let on = further run.0 in
    omega (arith, on.at, c.at-at.ensures, ap (λ q. q.at) c.place-start.ensures)

pub give_up-requires-clause-to : goal.give_up-requires-clause-to
give_up-requires-clause-to c =
    let f = c.self.inside in
    let run = halts_here (scan_part_of f.set.now) (machine_of f.set.now) (progress_of c.place-start.result f.parser)
    c.run_on.new.parser c.in_ok-place.field-0 c.in-At.place
    c.self.invariant.machine c.in_ok-place.ensures.runs c.in-At.is in
    let on = further run.0 in
    omega (
      arith,
      on.at,
      on.within,
      c.at-at.ensures,
      ap (λ q. q.at) c.place-start.ensures,
      ap (λ q. length q.rest) c.place-start.ensures,
    )

pub invariant_of-self-2 : goal.invariant_of-self-2
invariant_of-self-2 c =
    let f = c.self.inside in
    let run = halts_here (scan_part_of f.set.now) (machine_of f.set.now) (progress_of c.place-start.result f.parser)
    c.run_on.new.parser c.in_ok-place.field-0 c.in-At.place
    c.self.invariant.machine c.in_ok-place.ensures.runs c.in-At.is in record {
      lexer = c.self.invariant.lexer;
      facts = c.self.invariant.facts;
      machine = c.run_on.ensures.machine ∙ c.self.invariant.machine;
      runs = c.self.invariant.runs;
      parses = λ goes. run.2;
      waits = λ goes. subst (λ q. IsUnderwayAt f.lexer.now q c.matcher_at-self-inside.result) (sym (c.give_up.ensures
          ∙ given_up c.push.new.self c.in-At.place c.at-at.result c.at_line_start-line.result
          c.condition-condition.result
          (subst (λ q. IsFurther q c.in-At.place) c.place-start.ensures (further run.0)) c.at-at.ensures
          c.at_line_start-line.ensures c.condition-condition.ensures))
          c.matcher_at-self-inside.ensures;
    }

pub returns : goal.returns
returns c =
    let f = c.self.inside in
    let run = halts_here (scan_part_of f.set.now) (machine_of f.set.now) (progress_of c.place-start.result f.parser)
    c.run_on.new.parser c.in_ok-place.field-0 c.in-At.place
    c.self.invariant.machine c.in_ok-place.ensures.runs c.in-At.is in
    let at = c.place-start.ensures ∙ c.in_ok-push.ensures.ok in
    is_piece c.args.self.now _ c.args.bytes.now _ (ap (λ x. x.over) (sym c.self.view_is) ∙ c.if-self.false)
    (subst (λ x. IsOnward x c.args.bytes.now (held_from f.set.now f.form c.give_up.new.self c.run_on.new.parser false))
    c.self.view_is
    (subst (λ q. IsOnward (held_from f.set.now f.form f.window f.parser f.over) c.args.bytes.now
    (held_from f.set.now f.form q c.run_on.new.parser false)) (sym (c.give_up.ensures
    ∙ given_up c.push.new.self c.in-At.place c.at-at.result c.at_line_start-line.result
    c.condition-condition.result
    (subst (λ q. IsFurther q c.in-At.place) c.place-start.ensures (further run.0)) c.at-at.ensures
    c.at_line_start-line.ensures c.condition-condition.ensures))
    (goes_onward f.set.now f.form f.window f.parser f.over c.args.bytes.now c.in-At.place c.run_on.new.parser
    (subst (λ q. Onward false (scan_part_of f.set.now) (machine_of f.set.now) (progress_of q f.parser)
    (progress_of c.in-At.place c.run_on.new.parser)) at run.0) run.1 c.in_ok-push.ensures.countable)))
