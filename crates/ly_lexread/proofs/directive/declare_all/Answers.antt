use Rattle.std.proofs.Common.{◌≡◌, ◌∙◌, ◌++◌, ◌∷◌, [], List, ℕ, ap, false, sym}
use Rattle.std.specs.Prelude.{is_some}
use Rattle.ly_base.proofs.GapLemmas.{at_none}
use Rattle.ly_lexread.specs.Conditions.{condition_of}
use Rattle.ly_lexread.specs.Definitions.{end}
use Rattle.ly_lexread.proofs.DirectiveLemmas.{declares_behind_into, declares_none, declares_on, declares_twice}
use Rattle.ly_lexread.specs.Lines.{left_in}
use Rattle.ly_lexread.specs.declared.rest.Line.{Line}
use Rattle.ly_lexread.proofs.directive.declare_all.Goals as goal

-- how many bytes of the file are left
abbrev left_from : Line → List ℕ → ℕ
left_from l = left_in l.text.bytes.now l.bytes.now

pub returns-in_default-clause-these : goal.returns-in_default-clause-these
returns-in_default-clause-these c = rw c.fault.ensures.1 (
  λ h. h,
  λ _ all d. declares_none c.args.exclusive (left_from c.args.line) c.loop-left.all all c.loop-left.left.now
      c.loop-left-test.ensures (at_none c.next_name.result _ _ c.in_default.not-Some c.next_name.ensures.these)
      (c.loop-left.invariant.complete all d),
)

pub returns-then-is_some-clause-these : goal.returns-then-is_some-clause-these
returns-then-is_some-clause-these c = rw c.fault-then-is_some.ensures.1 (
  λ h. h,
  λ _ all d. declares_twice c.args.exclusive (left_from c.args.line) c.loop-left.all all c.loop-left.left.now
      c.in-Some.here.now c.in-Some.name.now c.in-Some.behind.now c.in-Some.ensures.these.0
      c.in-Some.ensures.these.1 (ap is_some (sym c.find.ensures) ∙ sym c.is_some.ensures ∙ c.if-is_some.true)
      (c.loop-left.invariant.complete all d),
)

-- the conditions with the next one
here : (c : goal.In_ok-all) → c.in_ok-all.all ≡ c.loop-left.all
    ++ (c.in-Some.name.now, (c.args.exclusive, left_from c.args.line c.in-Some.here.now)) ∷ []
here c = c.in_ok-all.ensures
    ∙ ap (λ n. c.loop-left.all ++ (c.in-Some.name.now, (c.args.exclusive, n)) ∷ []) c.left_from.ensures

pub loop-left-preserved : goal.loop-left-preserved
loop-left-preserved c =
    let x = c.args.exclusive in
    let cs = c.loop-left.all in
    let left = c.loop-left.left.now in
    let u = c.in-Some.here.now in
    let from = left_from c.args.line in
    let name = c.in-Some.name.now in
    let behind = c.in-Some.behind.now in
    let new : is_some (condition_of cs name) ≡ false
    = ap is_some (sym c.find.ensures) ∙ sym c.is_some.ensures ∙ c.if-is_some.false in
    record {
      sound = λ all d. c.loop-left.invariant.sound all
          (declares_on x from cs c.in_ok-all.all all left u name behind c.in-Some.ensures.these.0
          c.in-Some.ensures.these.1 new (here c) d);
      complete = λ all d. declares_behind_into x from cs c.in_ok-all.all all left u name behind
          c.in-Some.ensures.these.0 c.in-Some.ensures.these.1 (here c)
          (c.loop-left.invariant.complete all d);
    }

pub returns-clause-these : goal.returns-clause-these
returns-clause-these c = c.loop-left.invariant.sound c.loop-left.all
    (end c.loop-left.all c.loop-left.left.now c.loop-left-test.ensures)
