use Rattle.std.proofs.Common.{subst}
use Rattle.ly_digraph.specs.Least.{IsBetween, IsLeast}
use Rattle.ly_lookahead.specs.Private.Sets.{AreDirectSets}
use Rattle.ly_lookahead.proofs.ReadLemmas.{are_follows}
use Rattle.ly_lookahead.proofs.follow.follow_sets.Goals as goal

pub returns-clause-follows : goal.returns-clause-follows
returns-clause-follows c =
    let R = c.args.relations.now in
    let direct = c.in_ok-sets.sets.sets in
    let read = c.least.new.sets.sets in
    let follow = c.least-2.new.sets.sets in
    are_follows c.args.lr0.now R c.requires.relations direct read follow
    (subst (λ g. AreDirectSets c.args.lr0.now g direct) c.gotos.ensures c.in_ok-sets.ensures.direct)
    (subst (λ g. IsLeast g direct read) c.reads.ensures c.in_ok-least.ensures.least)
    (subst (λ g. IsBetween g direct read) c.reads.ensures c.in_ok-least.ensures.reached)
    (subst (λ g. IsLeast g read follow) c.includes.ensures c.in_ok-least-2.ensures.least)
    (subst (λ g. IsBetween g read follow) c.includes.ensures c.in_ok-least-2.ensures.reached)
