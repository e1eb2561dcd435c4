use Rattle.std.proofs.Common.{ap, drop, inl, inr, subst, sym, ◌∙◌}
use Rattle.std.proofs.lemmas.Result.{err_from_is_err_and}
use Rattle.ly_ere.specs.Private.Front.{IsFrontTailed}
use Rattle.ly_ere.proofs.SidesLemmas.{no_start, sides_anywhere, sides_at_start, sides_back}
use Rattle.ly_ere.proofs.sides.read_sides.Goals as goal

pub returns-in_err-found-clause-refused : goal.returns-in_err-found-clause-refused
returns-in_err-found-clause-refused c =
    let fault = err_from_is_err_and c.from_residual.result c.from_residual.ensures.1 in
    let line = c.args.line.now in
    let names = c.args.names.now in
    rw (fault.1, fault.2)
    (λ other s n x. elim (sides_back names line s n x) [
      | inl p ↦ no_start names line c.in-Some.rest.now s.head s.tail n c.in-Some.ensures p.1
      | inr p ↦ c.in_err-found.ensures.refused other s.head s.tail p.1
          (subst (λ r. IsFrontTailed names r s.head s.tail p.1) (ap (drop 1) (sym p.2 ∙ c.in-Some.ensures)) p.5)
    ])

pub returns-in-Some-clause-ok : goal.returns-in-Some-clause-ok
returns-in-Some-clause-ok c
    = sides_at_start c.args.names.now c.args.line.now c.in-Some.rest.now c.in_ok-found.found.head
    c.in_ok-found.found.tail c.in_ok-found.found.length c.in-Some.ensures c.in_ok-found.ensures.ok

pub returns-in_err-found-2-clause-refused : goal.returns-in_err-found-2-clause-refused
returns-in_err-found-2-clause-refused c =
    let fault = err_from_is_err_and c.from_residual-in_err-found-2.result c.from_residual-in_err-found-2.ensures.1 in
    rw (fault.1, fault.2)
    (λ other s n x. elim (sides_back c.args.names.now c.args.line.now s n x) [
      | inl p ↦ c.in_err-found-2.ensures.refused other s.head s.tail n p.1
      | inr p ↦ c.in_default.ensures p.0 p.2
    ])

pub returns-clause-ok : goal.returns-clause-ok
returns-clause-ok c
    = sides_anywhere c.args.names.now c.args.line.now c.in_ok-found-2.found.head
    c.in_ok-found-2.found.tail c.in_ok-found-2.found.length c.in_ok-found-2.ensures.ok
