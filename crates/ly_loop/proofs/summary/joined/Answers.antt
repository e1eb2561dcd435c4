use Rattle.std.proofs.Common.{inr, refl}
use Rattle.ly_loop.proofs.SummaryLemmas.{wider_mixed, wider_over}
use Rattle.ly_loop.proofs.summary.joined.Goals as goal

pub returns-in-Over-default-clause-first : goal.returns-in-Over-default-clause-first
returns-in-Over-default-clause-first c = wider_over c.args.one c.args.other c.in-Over-default.is-0

pub returns-in_default-Over-2-clause-second : goal.returns-in_default-Over-2-clause-second
returns-in_default-Over-2-clause-second c = wider_over c.args.other c.args.one c.in_default-Over.is-1

pub returns-in_default-clause-first : goal.returns-in_default-clause-first
returns-in_default-clause-first c = wider_mixed c.args.one

pub returns-in_default-clause-second : goal.returns-in_default-clause-second
returns-in_default-clause-second c = wider_mixed c.args.other

pub returns-in_default-2-clause-first : goal.returns-in_default-2-clause-first
returns-in_default-2-clause-first c = wider_mixed c.args.one

pub returns-in_default-2-clause-second : goal.returns-in_default-2-clause-second
returns-in_default-2-clause-second c = wider_mixed c.args.other

pub returns-in_default-3-clause-first : goal.returns-in_default-3-clause-first
returns-in_default-3-clause-first c = wider_mixed c.args.one

pub returns-in_default-4 : goal.returns-in_default-4
returns-in_default-4 c = record {
  first = wider_mixed c.args.one;
  second = wider_mixed c.args.other;
  one = inr (inr refl);
}
