use Rattle.std.proofs.Common.{◌<◌, All, subst}
use Rattle.ly_subset.specs.Private.Keys.{IsKeyOf}
use Rattle.ly_subset.specs.Private.Packed.{unpack}
use Rattle.ly_subset.proofs.FoundLemmas.{entered_same, full_same, key_within, on_ok_one, set_of_key, some_member}
use Rattle.ly_subset.proofs.found.Found.enter.Goals as goal

pub enter_key-requires-clause-set : goal.enter_key-requires-clause-set
enter_key-requires-clause-set c = set_of_key c.members-members.result.now (unpack c.in_ok-key.key.items)
    c.in_ok-key.ensures.key
    (some_member c.members-members.result.now c.is_empty.result c.is_empty.ensures c.if-is_empty.false)

pub returns-clause-entered : goal.returns-clause-entered
returns-clause-entered c =
    let is_key : IsKeyOf c.args.set.now.positions.members (unpack c.in_ok-key.key.items)
    = subst (λ ms. IsKeyOf ms (unpack c.in_ok-key.key.items)) c.members-members.ensures.these c.in_ok-key.ensures.key in
    on_ok_one c.enter_key.result c.enter_key.ensures.entered (entered_same c.args.self.now c.enter_key.new.self
    (unpack c.in_ok-key.key.items) c.args.set.now.positions.members is_key.same)

pub returns-clause-kept : goal.returns-clause-kept
returns-clause-kept c =
    let is_key : IsKeyOf c.args.set.now.positions.members (unpack c.in_ok-key.key.items)
    = subst (λ ms. IsKeyOf ms (unpack c.in_ok-key.key.items)) c.members-members.ensures.these c.in_ok-key.ensures.key in
    on_ok_one c.enter_key.result c.enter_key.ensures.kept (λ f. f c.args.set.now.positions.below c.requires
    (key_within c.args.set.now.positions.below c.args.set.now.positions.members (unpack c.in_ok-key.key.items) is_key
    (subst (λ ms. All (λ p. p < c.args.set.now.positions.below) ms) c.members-members.ensures.these
    c.members-members.ensures.within)))

pub returns-clause-full : goal.returns-clause-full
returns-clause-full c = λ failed.
    let is_key : IsKeyOf c.args.set.now.positions.members (unpack c.in_ok-key.key.items)
    = subst (λ ms. IsKeyOf ms (unpack c.in_ok-key.key.items)) c.members-members.ensures.these c.in_ok-key.ensures.key in
    full_same c.args.self.now.limit c.args.self.now.keys (unpack c.in_ok-key.key.items)
    c.args.set.now.positions.members is_key.same (c.enter_key.ensures.full failed)
