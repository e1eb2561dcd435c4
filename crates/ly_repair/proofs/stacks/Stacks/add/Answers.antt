use Rattle.std.proofs.Common.{◌∙◌, ◌<◌, ap, length, subst, sym}
use Rattle.ly_repair.specs.Private.Stacks.{IsGrown, raised, stacks_from}
use Rattle.ly_repair.proofs.StackLemmas.{added, found_level}
use Rattle.ly_repair.proofs.stacks.Stacks.add.Goals as goal

pub invariant_of-self-2 : goal.invariant_of-self-2
invariant_of-self-2 c = (added c.self.inside.levels.keys c.insert_full.new.self.keys c.args.level c.self.invariant
    (subst (λ s. c.args.level.below.0 < length s) (sym c.self.view_is) c.requires) c.in_ok-index.ensures.keys).raised

pub returns-clause-grown : goal.returns-clause-grown
returns-clause-grown c = subst (λ s. IsGrown s (stacks_from c.insert_full.new.self.keys)) c.self.view_is
    (added c.self.inside.levels.keys c.insert_full.new.self.keys c.args.level c.self.invariant
    (subst (λ s. c.args.level.below.0 < length s) (sym c.self.view_is) c.requires) c.in_ok-index.ensures.keys).grown

pub returns-clause-within : goal.returns-clause-within
returns-clause-within c =
    let low = subst (λ s. c.args.level.below.0 < length s) (sym c.self.view_is) c.requires in
    let x = added c.self.inside.levels.keys c.insert_full.new.self.keys c.args.level c.self.invariant low
    c.in_ok-index.ensures.keys in
    (found_level c.self.inside.levels.keys c.insert_full.new.self.keys c.args.level c.in_ok-index.ensures.stored.0
    c.in_ok-index.index x.raised x.grown low c.in_ok-index.ensures.stored.1 c.in_ok-index.ensures.stored.2).0

pub returns-clause-added : goal.returns-clause-added
returns-clause-added c =
    let low = subst (λ s. c.args.level.below.0 < length s) (sym c.self.view_is) c.requires in
    let x = added c.self.inside.levels.keys c.insert_full.new.self.keys c.args.level c.self.invariant low
    c.in_ok-index.ensures.keys in
    (found_level c.self.inside.levels.keys c.insert_full.new.self.keys c.args.level c.in_ok-index.ensures.stored.0
    c.in_ok-index.index x.raised x.grown low c.in_ok-index.ensures.stored.1 c.in_ok-index.ensures.stored.2).1
    ∙ ap (λ s. raised s c.args.level) c.self.view_is
