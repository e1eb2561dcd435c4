use Rattle.std.proofs.Common.{drop, subst, sym}
use Rattle.std.proofs.lemmas.Result.{err_from_is_err_and}
use Rattle.ly_base.proofs.EscapeLemmas.{whole_slice}
use Rattle.ly_ere.specs.Patterns.{IsBehind}
use Rattle.ly_ere.specs.Private.Front.{newline, none, tail}
use Rattle.ly_ere.proofs.PatternLaws.{front_length_one}
use Rattle.ly_ere.proofs.SidesLemmas.{dollar_left, no_tail}
use Rattle.ly_ere.proofs.sides.read_tail.Goals as goal

pub returns-then-is_behind-clause-ok : goal.returns-then-is_behind-clause-ok
returns-then-is_behind-clause-ok c = none c.args.line.now c.if-is_behind.ensures

pub returns-in_err-tail-clause-refused : goal.returns-in_err-tail-clause-refused
returns-in_err-tail-clause-refused c =
    let fault = err_from_is_err_and c.from_residual.result c.from_residual.ensures.1 in
    rw (fault.1, fault.2)
    (λ other. no_tail c.args.names.now c.args.line.now c.in-Some.rest.now c.in-Some.ensures
    (λ f m x b. c.in_err-tail.ensures.refused other f m x))

pub returns-then-not-is_behind-clause-refused : goal.returns-then-not-is_behind-clause-refused
returns-then-not-is_behind-clause-refused c = λ _.
    let rest = c.in-Some.rest.now in
    no_tail c.args.names.now c.args.line.now rest c.in-Some.ensures
    (λ f m x b.
    let same = front_length_one c.args.names.now rest c.in_ok-tail.tail f c.in_ok-tail.length m
    c.in_ok-tail.ensures.ok x
    in
    let more : IsBehind (drop c.in_ok-tail.length rest) → ⊥ = rw whole_slice at c.if-not-is_behind.ensures in
    more (subst (λ k. IsBehind (drop k rest)) (sym same) b))

pub returns-in-Some-clause-ok : goal.returns-in-Some-clause-ok
returns-in-Some-clause-ok c
    = rw c.in-Some.ensures (tail c.in-Some.rest.now c.in_ok-tail.tail c.in_ok-tail.length c.in_ok-tail.ensures.ok
    (rw whole_slice at c.if-not-is_behind.ensures))

pub returns-clause-ok : goal.returns-clause-ok
returns-clause-ok c =
    let line = c.args.line.now in
    let behind : IsBehind (drop 1 line) = rw whole_slice at c.if-not-is_behind-2.ensures in
    rw (c.in_ok-of_byte.ensures, dollar_left line c.requires c.if-is_behind.ensures c.in_default.ensures)
    (newline (drop 1 line) behind)
