use Rattle.std.proofs.Common.{drop, refl, subst, sym}
use Rattle.std.proofs.lemmas.Result.{err_from_is_err_and}
use Rattle.ly_base.proofs.EscapeLemmas.{whole_slice}
use Rattle.ly_ere.specs.Private.Front.{IsFrontTail}
use Rattle.ly_ere.proofs.PatternLaws.{front_length_one}
use Rattle.ly_ere.proofs.sides.read_tailed.Goals as goal

pub returns-in_err-head-clause-refused : goal.returns-in_err-head-clause-refused
returns-in_err-head-clause-refused c =
    let fault = err_from_is_err_and c.from_residual.result c.from_residual.ensures.1 in
    rw (fault.1, fault.2) (λ other head tail n x. c.in_err-head.ensures.refused other head x.at x.head)

pub returns-in_err-tail-clause-refused : goal.returns-in_err-tail-clause-refused
returns-in_err-tail-clause-refused c =
    let fault = err_from_is_err_and c.from_residual-in_err-tail.result c.from_residual-in_err-tail.ensures.1 in
    let line = c.args.line.now in
    rw (fault.1, fault.2)
    (λ other head tail n x.
    let same = front_length_one c.args.names.now line c.in_ok-head.head head c.in_ok-head.at x.at
    c.in_ok-head.ensures.ok
    x.head in
    let refused = rw whole_slice at c.in_err-tail.ensures.refused in
    refused other tail x.more
    (subst (λ k. IsFrontTail c.args.names.now (drop k line) tail x.more) (sym same) x.tail))

pub returns-clause-ok : goal.returns-clause-ok
returns-clause-ok c = record {
  at = c.in_ok-head.at;
  more = c.in_ok-tail.length;
  head = c.in_ok-head.ensures.ok;
  tail = rw whole_slice at c.in_ok-tail.ensures.ok;
  is = refl;
}
