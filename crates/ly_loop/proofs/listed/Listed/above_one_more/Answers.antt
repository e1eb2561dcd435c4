use Rattle.std.proofs.Common.{[], ◌-◌, arith, refl}
use Rattle.ly_loop.specs.Private.Summary.{IsBehind, IsGone}
use Rattle.ly_loop.proofs.ByRuleLemmas.{behind_more, behind_none, longer_is}
use Rattle.ly_loop.proofs.SummaryLemmas.{behind_over}
use Rattle.ly_loop.proofs.listed.Listed.above_one_more.Goals as goal

pub returns-in-Over : goal.returns-in-Over
returns-in-Over g c = record {
  allowed = c.requires.inner;
  runs = λ t stack known. behind_over c.args.self.now t c.args.below.0 stack c.args.inner c.in-Over.is;
}

pub returns-then-rest-eq0 : goal.returns-then-rest-eq0
returns-then-rest-eq0 g c =
    let m = c.args.self.now in
    let below = c.args.below.0 in
    let left = c.in-Leaves.left in
    longer_is m (IsGone m c.args.tokens below [] left.0) (IsBehind m c.args.tokens below c.args.inner) c.args.inner.most
    c.beside.result c.longer.result
    (behind_none m c.args.tokens below left.0 c.args.inner c.in-Leaves.rest left c.in-Leaves.is c.if-rest-eq0.true refl)
    c.beside.ensures c.longer.ensures

pub returns-else-rest-eq0 : goal.returns-else-rest-eq0
returns-else-rest-eq0 g c = behind_more c.args.self.now c.args.tokens c.args.below.0 c.args.inner c.in-Leaves.rest
    (c.in-Leaves.rest - 1) c.in-Leaves.left c.in-Leaves.is (omega arith) c.requires.inner
