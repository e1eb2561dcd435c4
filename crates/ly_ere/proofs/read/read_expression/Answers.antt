use Rattle.std.proofs.Common.{ap, arith, drop, drop-drop, length, length-drop, refl, subst, sym}
use Rattle.std.proofs.lemmas.Bool.Decides.{nat_tests}
use Rattle.std.proofs.lemmas.List.{nil_from_length}
use Rattle.std.proofs.lemmas.Result.{err_from_is_err_and}
use Rattle.ly_base.proofs.EscapeLemmas.{whole_slice}
use Rattle.ly_ere.specs.Private.Front.{CanEnd}
use Rattle.ly_ere.specs.Private.Levels.{group_of, reading_of}
use Rattle.ly_ere.proofs.ReadLemmas.{IsRead, init_reading, last_reading, no_element, no_open, no_step}
use Rattle.ly_ere.proofs.ReadLemmas.{no_whole, read_start, read_step, read_whole}
use Rattle.ly_ere.proofs.read.read_expression.Goals as goal

pub loop-rest-init : goal.loop-rest-init
loop-rest-init c = record {
  within = omega arith;
  parts = c.new-level.ensures.parts _;
  outer_parts = λ k d less. absurd (omega (arith, ap length c.new-outer.ensures.items));
  read = subst (λ r. IsRead c.args.names.now c.args.line.now c.args.line.now r)
      (sym (init_reading c.new-arena.result c.new-outer.result.items c.new-level.result c.new-outer.ensures.items
      (c.new-level.ensures.empty c.new-arena.result))) (read_start c.args.names.now c.args.line.now);
}

pub returns-in_err-element-clause-refused : goal.returns-in_err-element-clause-refused
returns-in_err-element-clause-refused c =
    let fault = err_from_is_err_and c.from_residual.result c.from_residual.ensures.1 in
    let goes_on : CanEnd (drop c.loop-rest.at c.args.line.now) → ⊥ = rw whole_slice at c.loop-rest-test.ensures in
    rw (fault.1, fault.2) (λ _. no_element c.loop-rest.invariant.read goes_on
    (rw whole_slice at c.in_err-element.ensures.element))

pub returns-in-Err-clause-refused : goal.returns-in-Err-clause-refused
returns-in-Err-clause-refused c other =
    let goes_on : CanEnd (drop c.loop-rest.at c.args.line.now) → ⊥ = rw whole_slice at c.loop-rest-test.ensures in
    no_step c.loop-rest.invariant.read goes_on c.in_ok-element.element c.in_ok-element.length
    (rw whole_slice at c.in_ok-element.ensures.element) (c.in-Err.ensures.refused (c.at.ensures.memory other))

pub loop-rest-preserved : goal.loop-rest-preserved
loop-rest-preserved c =
    let line = c.args.line.now in
    let at = c.loop-rest.at in
    let goes_on : CanEnd (drop at line) → ⊥ = rw whole_slice at c.loop-rest-test.ensures in
    let here = rw whole_slice at c.in_ok-element.ensures.element in
    let found = c.in-Ok.ensures.step in
    let next = reading_of c.with_element.new.arena c.with_element.new.outer.items c.in-Ok.level in
    record {
      within = omega (arith, c.loop-rest.invariant.within, here.front.1, length-drop at line);
      parts = c.in-Ok.ensures.parts;
      outer_parts = c.in-Ok.ensures.outer_parts;
      read = rw (← drop-drop c.in_ok-element.length at line)
          (read_step c.loop-rest.invariant.read c.in_ok-element.length next c.in_ok-element.element goes_on here
          found.0 found.1 found.2);
    }

pub returns-then-not-is_empty-clause-refused : goal.returns-then-not-is_empty-clause-refused
returns-then-not-is_empty-clause-refused c = λ _.
    let now = c.loop-rest in
    let here : CanEnd (drop now.at c.args.line.now) = rw whole_slice at c.loop-rest-test.ensures in
    no_open now.arena now.outer.items now.level now.invariant.read here (grind (arith, nat_tests))

pub returns-in-Err-whole-clause-refused : goal.returns-in-Err-whole-clause-refused
returns-in-Err-whole-clause-refused c other =
    let here : CanEnd (drop c.loop-rest.at c.args.line.now) = rw whole_slice at c.loop-rest-test.ensures in
    no_whole c.loop-rest.invariant.read here (c.in-Err-whole.ensures.refused (c.at-in-Err-whole.ensures.memory other))

pub returns-in-Ok-whole-clause-ok : goal.returns-in-Ok-whole-clause-ok
returns-in-Ok-whole-clause-ok c =
    let now = c.loop-rest in
    let here : CanEnd (drop now.at c.args.line.now) = rw whole_slice at c.loop-rest-test.ensures in
    rw c.of.ensures (read_whole now.invariant.read (group_of now.arena now.level) _ now.at now.invariant.within refl
    here
    (last_reading now.arena now.outer.items now.level (nil_from_length now.outer.items (grind (arith, nat_tests))))
    c.in-Ok-whole.ensures.whole)
