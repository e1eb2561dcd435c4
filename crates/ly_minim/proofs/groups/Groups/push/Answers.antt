use Rattle.std.proofs.Common.{◌<◌, length, IfSome, ◌+◌, ◌∙◌, ◌++◌, ◌∷◌, [], ap, sym, subst, set, Some}
use Rattle.ly_minim.specs.Private.Groups.{AreChains}
use Rattle.ly_minim.proofs.GroupLemmas.{chains_key}
use Rattle.ly_minim.proofs.groups.Groups.push.Goals as goal

pub returns-in_ok-push-in-Some-clause-chains : goal.returns-in_ok-push-in-Some-clause-chains
returns-in_ok-push-in-Some-clause-chains c =
    let last = c.args.self.now.last in
    let before = c.args.self.now.before in
    let less : c.in-Some.key < length last
    = subst (λ o. IfSome o (λ k. k < length last)) c.in-Some.is c.requires.key in
    subst (λ ls. AreChains (c.args.state + 1) ls c.push.new.self) (sym c.set.ensures)
    (subst (AreChains (c.args.state + 1) (set last c.in-Some.key (Some c.args.state)))
    (ap (λ o. before ++ o ∷ []) (sym c.get.ensures) ∙ sym c.in_ok-push-in-Some.ensures)
    (chains_key c.args.state last before c.requires.chains c.in-Some.key less))
