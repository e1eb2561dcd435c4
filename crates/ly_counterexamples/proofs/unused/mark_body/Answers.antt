use Rattle.std.proofs.Common.{◌≡◌, map}
use Rattle.ly_join.specs.Grammar.{symbol_of}
use Rattle.ly_counterexamples.specs.Private.Unmarked.{StandsAt}
use Rattle.ly_counterexamples.proofs.MarkLemmas.{added_as, step_added, step_nothing}
use Rattle.ly_counterexamples.proofs.UnmarkedLemmas.{body_marked, no_terminal_at, terminal_at}
use Rattle.ly_counterexamples.proofs.unused.mark_body.Goals as goal
use Rattle.ly_counterexamples.proofs.unused.mark_body.Goals.{in-Terminal, in_default}

pub loop-symbol-preserved : goal.loop-symbol-preserved
loop-symbol-preserved c =
    let body = c.args.body.now in
    let P = StandsAt (map symbol_of body) in
    let k = c.loop-symbol.symbol-index in
    let old = c.loop-symbol.used in
    elim c.match-symbol.branch [
      | in-Terminal w ↦ rw w.used-is
          (step_added P k c.args.used.now old w.set.new.self c.loop-symbol.invariant
          (added_as (λ n. n ≡ w.in-Terminal.terminal.0) (P k) old w.set.new.self
          (terminal_at body k _ c.loop-symbol-test.true w.in-Terminal.terminal w.in-Terminal.is) w.set.ensures))
      | in_default w ↦ rw w.used-is
          (step_nothing P k c.args.used.now old
          (no_terminal_at body k _ c.loop-symbol-test.true w.in_default.field-0 w.in_default.is)
          c.loop-symbol.invariant)
    ]

pub returns : goal.returns
returns c = body_marked c.args.body.now c.loop-symbol.symbol-index c.args.used.now c.loop-symbol.used
    c.loop-symbol-test.false c.loop-symbol.invariant
