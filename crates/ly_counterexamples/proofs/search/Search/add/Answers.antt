use Rattle.std.proofs.Common.{arith, subst, sym, Contains}
use Rattle.std.proofs.lemmas.Bool.{iff_false}
use Rattle.std.proofs.lemmas.List.Elements.{Contains-push}
use Rattle.ly_counterexamples.proofs.SearchLemmas.{found_more, found_same, more_than_allowed}
use Rattle.ly_counterexamples.proofs.UnderwayLemmas.{not_too_many}
use Rattle.ly_counterexamples.proofs.search.Search.add.Goals as goal

pub returns-then-contains-clause-on : goal.returns-then-contains-clause-on
returns-then-contains-clause-on c =
    found_same c.args.sought.now c.args.self.now.found c.args.self.now.links.items c.requires.search

pub returns-clause-on : goal.returns-clause-on
returns-clause-on c = found_more c.args.sought.now c.args.self.now.found c.args.self.now.links.items c.requires.search
    c.args.demand c.args.link c.requires.step.0 c.requires.step.1 c.requires.step.2 c.requires.kept
    (omega (arith, c.len.ensures.count)) c.push.new.self.found c.push.new.self.links.items c.in_ok-push.ensures.found
    c.in_ok-push.ensures.links

pub returns-then-len-sought-clause-many : goal.returns-then-len-sought-clause-many
returns-then-len-sought-clause-many c = λ _. more_than_allowed c.args.sought.now c.args.self.now.found
    c.args.self.now.links.items c.requires.search c.args.demand c.requires.step.0 c.args.link c.len.ensures.apart
    (iff_false c.contains.ensures c.if-contains.false)
    (omega (arith, c.len.ensures.count)) c.requires.step.1 c.requires.step.2

pub returns-clause-there : goal.returns-clause-there
returns-clause-there c = subst (λ ds. Contains ds c.args.demand) (sym c.in_ok-push.ensures.found)
    (Contains-push c.args.self.now.found c.args.demand)

pub returns-in_err-push-clause-many : goal.returns-in_err-push-clause-many
returns-in_err-push-clause-many c = λ is.
    absurd (not_too_many c.from_residual.result is c.from_residual.ensures.1)
