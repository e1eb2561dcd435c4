use Rattle.std.proofs.Common.{◌≡◌, ◌∙◌, ap, map, subst, sym}
use Rattle.std.proofs.lemmas.Bool.{iff_false}
use Rattle.ly_join.specs.Terminals.{byte, terminal_from}
use Rattle.ly_counterexamples.specs.Private.Marks.{IsMarked}
use Rattle.ly_counterexamples.specs.Private.Unmarked.{IsLiteralAt}
use Rattle.ly_counterexamples.proofs.MarkLemmas.{added_as, step_added, step_nothing}
use Rattle.ly_counterexamples.proofs.UnmarkedLemmas.{literal_step, literals_marked, no_literal, no_literal_step}
use Rattle.ly_counterexamples.proofs.unreturned.mark_literals.Goals as goal
use Rattle.ly_counterexamples.proofs.unreturned.mark_literals.Goals.{in-Literal+then-has, in-Literal+else-has}
use Rattle.ly_counterexamples.proofs.unreturned.mark_literals.Goals.{in_default}

pub loop-number-preserved : goal.loop-number-preserved
loop-number-preserved c =
    let names = c.args.names.now in
    let marks = c.args.bytes.now in
    let P = IsLiteralAt (map terminal_from names) marks in
    let k = c.loop-number.number in
    let first = c.args.returned.now in
    let old = c.loop-number.returned in
    let x = c.index-names-number.result in
    let at = sym c.index-names-number.is in
    elim c.match-names-number.branch [
      | in-Literal+then-has w ↦ rw w.returned-is
          (step_added P k first old w.set.new.self c.loop-number.invariant
          (added_as (λ n. n ≡ k) (P k) old w.set.new.self
          (literal_step names marks k x c.loop-number-test.true w.in-Literal.byte (at ∙ w.in-Literal.is)
          (subst (IsMarked marks) w.from.ensures (w.has.ensures.0 w.if-has.true))) w.set.ensures))
      | in-Literal+else-has w ↦ rw w.returned-is
          (step_nothing P k first old
          (no_literal_step names marks k x c.loop-number-test.true (λ b named on.
          let is : byte w.in-Literal.byte ≡ byte b = sym (ap terminal_from (at ∙ w.in-Literal.is)) ∙ named in
          let same : w.in-Literal.byte ≡ b = cc in
          iff_false w.has.ensures w.if-has.false (subst (IsMarked marks) (sym (w.from.ensures ∙ same)) on)))
          c.loop-number.invariant)
      | in_default w ↦ rw w.returned-is
          (step_nothing P k first old
          (no_literal_step names marks k x c.loop-number-test.true (λ b named on.
          no_literal x w.in_default.not-Literal b (ap terminal_from (sym at) ∙ named)))
          c.loop-number.invariant)
    ]

pub returns : goal.returns
returns c = literals_marked c.args.names.now c.args.bytes.now c.loop-number.number c.args.returned.now
    c.loop-number.returned c.loop-number-test.false c.loop-number.invariant
