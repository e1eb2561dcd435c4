use Rattle.std.proofs.Common.{take, ◌∙◌, sym, arith}
use Rattle.ly_base.specs.Private.Escapes.{base_of, test_of}
use Rattle.ly_base.specs.Escapes.{number}
use Rattle.ly_base.proofs.EscapeLemmas.{counted, uncounted, number_more, pass_more, run_ends, value_more}
use Rattle.ly_base.proofs.escapes.Digits.leading.Goals as goal

pub loop-count-preserved : goal.loop-count-preserved
loop-count-preserved c = let now = c.loop-count in let d = counted _ _ _ (sym c.in-Some.ensures.value) in record {
  few = omega arith;
  pass = pass_more (test_of c.args.radix) now.count c.args.text.now now.invariant.pass c.loop-count-test.true d.0;
  value = rw (
    number_more (base_of c.args.radix) now.count c.args.text.now c.loop-count-test.true,
    c.min-value.ensures,
    c.base.ensures.base,
    d.1,
  )
      (value_more c.args.radix now.value (number (base_of c.args.radix) (take now.count c.args.text.now)) _
      now.invariant.value);
}

-- enough digits
pub returns-in_default-clause-count : goal.returns-in_default-clause-count
returns-in_default-clause-count c = let now = c.loop-count
    in (run_ends (test_of c.args.radix) (base_of c.args.radix) c.args.most now.count now.value c.args.text.now
    now.invariant.pass now.invariant.few (omega arith) (λ h l. absurd (omega arith)) now.invariant.value).0

pub returns-in_default-clause-value : goal.returns-in_default-clause-value
returns-in_default-clause-value c = let now = c.loop-count
    in (run_ends (test_of c.args.radix) (base_of c.args.radix) c.args.most now.count now.value c.args.text.now
    now.invariant.pass now.invariant.few (omega arith) (λ h l. absurd (omega arith)) now.invariant.value).1

-- no digit
pub returns-in_default-2-clause-count : goal.returns-in_default-2-clause-count
returns-in_default-2-clause-count c = let now = c.loop-count
    in (run_ends (test_of c.args.radix) (base_of c.args.radix) c.args.most now.count now.value c.args.text.now
    now.invariant.pass now.invariant.few (omega arith)
    (λ h l. uncounted _ _ (sym c.digit.ensures.value ∙ c.in_default.is)) now.invariant.value).0

pub returns-in_default-2-clause-value : goal.returns-in_default-2-clause-value
returns-in_default-2-clause-value c = let now = c.loop-count
    in (run_ends (test_of c.args.radix) (base_of c.args.radix) c.args.most now.count now.value c.args.text.now
    now.invariant.pass now.invariant.few (omega arith)
    (λ h l. uncounted _ _ (sym c.digit.ensures.value ∙ c.in_default.is)) now.invariant.value).1

-- the end of the text
pub returns-clause-count : goal.returns-clause-count
returns-clause-count c = let now = c.loop-count
    in rw (← (run_ends (test_of c.args.radix) (base_of c.args.radix) c.args.most now.count now.value c.args.text.now
    now.invariant.pass now.invariant.few (omega arith) (λ h l. absurd (omega arith)) now.invariant.value).0)
    (omega arith)

pub returns-clause-value : goal.returns-clause-value
returns-clause-value c = let now = c.loop-count
    in (run_ends (test_of c.args.radix) (base_of c.args.radix) c.args.most now.count now.value c.args.text.now
    now.invariant.pass now.invariant.few (omega arith) (λ h l. absurd (omega arith)) now.invariant.value).1
