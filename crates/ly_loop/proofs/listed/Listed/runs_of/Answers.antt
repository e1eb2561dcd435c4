use Rattle.std.proofs.Common.{◌≡◌, refl, subst, sym}
use Rattle.ly_pack.specs.Machine.{IsMachine, action_of, reduce}
use Rattle.ly_pack.specs.Values.{action_from}
use Rattle.ly_pack.proofs.LegalLemmas.{legal_reduction}
use Rattle.ly_loop.specs.Private.Known.{IsLookup}
use Rattle.ly_loop.specs.Private.Summary.{IsSummary}
use Rattle.ly_loop.specs.declared.summary.Ending.TheVariants.{Over}
use Rattle.ly_loop.specs.declared.summary.Summary.{Summary}
use Rattle.ly_loop.proofs.ByRuleLemmas.{one_found, one_over, unreduced}
use Rattle.ly_loop.proofs.listed.Listed.runs_of.Goals as goal

pub by_rule-requires-clause-rule : goal.by_rule-requires-clause-rule
by_rule-requires-clause-rule g c =
    let m = c.args.self.now in
    legal_reduction m c.args.edge.top.0 c.in-One.token.0 c.in-Reduce.rule.0
    (subst IsMachine c.self.view_is c.self.invariant.countable.machine)
    (sym (subst (λ n. reduce c.in-Reduce.rule.0 ≡ action_of n c.args.edge.top.0 c.in-One.token.0) c.self.view_is
    c.in-Reduce.ensures))

pub returns-in-Reduce : goal.returns-in-Reduce
returns-in-Reduce g c =
    let m = c.args.self.now in
    let below = c.args.edge.below.0 in
    let top = c.args.edge.top.0 in
    let rule = c.in-Reduce.rule.0 in
    let token = c.in-One.token in
    let by = sym (subst (λ n. reduce rule ≡ action_of n top token.0) c.self.view_is c.in-Reduce.ensures) in
    let known = legal_reduction m top token.0 rule (subst IsMachine c.self.view_is
    c.self.invariant.countable.machine) by in
    subst (λ k. IsLookup m (IsSummary m k below top) c.by_rule.result) (sym c.in-One.is)
    (one_found m token below top rule c.by_rule.result known by c.by_rule.ensures)

pub returns-in_default : goal.returns-in_default
returns-in_default g c =
    let m = c.args.self.now in
    let none : Summary = record { most = 0; ending = Over } in
    let is = subst (λ n. action_from c.action.result ≡ action_of n c.args.edge.top.0 c.in-One.token.0) c.self.view_is
    c.action.ensures in
    subst (λ k. IsSummary m k c.args.edge.below.0 c.args.edge.top.0 none) (sym c.in-One.is)
    (one_over m c.in-One.token c.args.edge.below.0 c.args.edge.top.0 (action_from c.action.result) none refl refl
    (sym is) (unreduced c.action.result c.in_default.not-Reduce))
