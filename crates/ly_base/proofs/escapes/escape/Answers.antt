use Rattle.std.proofs.Common.{Result, Ok, Err, arith, IfErr}
use Rattle.ly_base.proofs.EscapeLemmas.{bare_x_found, hexadecimal_found, hexadecimal_large, letter_found, octal_found}
use Rattle.ly_base.proofs.EscapeLemmas.{octal_large}
use Rattle.ly_base.proofs.escapes.escape.Goals as goal
use Rattle.ly_base.proofs.escapes.escape.Goals.{then-letter-eq120+else-hexadecimal-gt0, else-letter-eq120}

-- a fact that doesn't name the fault
always : {T E : Type 0} (P : Type 0) (r : Result T E) → P → IfErr r (λ _. P)
always P (Ok x) p = tt
always P (Err e) p = p

pub returns-in_err-byte-clause-refused : goal.returns-in_err-byte-clause-refused
returns-in_err-byte-clause-refused c
    = always _ _
    (octal_large c.args.text.now c.leading-octal.result.count c.leading-octal.result.value c.leading-octal.ensures.count
    c.leading-octal.ensures.value c.if-octal-gt0.true c.in_err-byte.ensures.refused)

pub returns-then-octal-gt0-clause-escape : goal.returns-then-octal-gt0-clause-escape
returns-then-octal-gt0-clause-escape c
    = rw c.in_ok-byte.ensures.ok
    (octal_found c.args.text.now c.leading-octal.result.count c.leading-octal.result.value c.leading-octal.ensures.count
    c.leading-octal.ensures.value c.if-octal-gt0.true
    (omega (arith, c.in_ok-byte.ensures.ok, c.in_ok-byte.ensures.small)))

pub returns-in_err-byte-2-clause-refused : goal.returns-in_err-byte-2-clause-refused
returns-in_err-byte-2-clause-refused c
    = always _ _ (hexadecimal_large c.args.text.now c.in-Some.field-0.now (omega (arith, c.in-Some.ensures.lookup.3.0))
    (c.in-Some.ensures.lookup.3.1 0) c.leading-octal.result.count c.leading-octal.ensures.count c.if-octal-gt0.false
    c.if-letter-eq10.false c.if-letter-eq120.true c.leading-hexadecimal.result.count c.leading-hexadecimal.result.value
    c.leading-hexadecimal.ensures.count c.leading-hexadecimal.ensures.value c.if-hexadecimal-gt0.true
    c.in_err-byte-2.ensures.refused)

pub returns-then-hexadecimal-gt0-clause-escape : goal.returns-then-hexadecimal-gt0-clause-escape
returns-then-hexadecimal-gt0-clause-escape c
    = rw c.in_ok-byte-2.ensures.ok (hexadecimal_found c.args.text.now c.in-Some.field-0.now
    (omega (arith, c.in-Some.ensures.lookup.3.0)) (c.in-Some.ensures.lookup.3.1 0) c.leading-octal.result.count
    c.leading-octal.ensures.count c.if-octal-gt0.false c.if-letter-eq10.false c.if-letter-eq120.true
    c.leading-hexadecimal.result.count c.leading-hexadecimal.result.value c.leading-hexadecimal.ensures.count
    c.leading-hexadecimal.ensures.value c.if-hexadecimal-gt0.true
    (omega (arith, c.in_ok-byte-2.ensures.ok, c.in_ok-byte-2.ensures.small)))

pub returns-clause-escape : goal.returns-clause-escape
returns-clause-escape c = rw c.meaning_of.ensures (elim c.if-letter-eq120.branch [
  | then-letter-eq120+else-hexadecimal-gt0 w ↦
      bare_x_found c.args.text.now c.in-Some.field-0.now (omega (arith, c.in-Some.ensures.lookup.3.0))
      (c.in-Some.ensures.lookup.3.1 0) c.leading-octal.result.count c.leading-octal.ensures.count c.if-octal-gt0.false
      c.if-letter-eq10.false w.if-letter-eq120.true w.leading-hexadecimal.result.count
      w.leading-hexadecimal.result.value w.leading-hexadecimal.ensures.count w.leading-hexadecimal.ensures.value
      w.if-hexadecimal-gt0.false
  | else-letter-eq120 w ↦
      letter_found c.args.text.now c.in-Some.field-0.now (omega (arith, c.in-Some.ensures.lookup.3.0))
      (c.in-Some.ensures.lookup.3.1 0) c.leading-octal.result.count c.leading-octal.ensures.count c.if-octal-gt0.false
      c.if-letter-eq10.false w.if-letter-eq120.false
])
