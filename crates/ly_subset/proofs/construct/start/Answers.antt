use Rattle.std.proofs.Common.{◌∙◌, ℕ, [], ap, subst, sym, Contains, length}
use Rattle.std.specs.Prelude.{◌↔◌, slice_index_or}
use Rattle.ly_subset.specs.Private.Found.{AreKept}
use Rattle.ly_subset.proofs.FoundLemmas.{count_entered, filled, filled_room, on_ok_both, past_start, start_found}
use Rattle.ly_subset.proofs.construct.start.Goals as goal

pub enter-requires : goal.enter-requires
enter-requires c = subst (λ n. AreKept n c.args.found.now.limit c.args.found.now.keys)
    (sym (filled_room c.args.nfa.now c.fill.new.self c.args.set.now c.start.result.now c.fill.ensures
    c.requires.room).positions)
    (c.requires.found []).kept

pub returns-clause-room : goal.returns-clause-room
returns-clause-room c = filled_room c.args.nfa.now c.fill.new.self c.args.set.now c.start.result.now c.fill.ensures
    c.requires.room

pub returns-clause-found : goal.returns-clause-found
returns-clause-found c =
    let room = filled_room c.args.nfa.now c.fill.new.self c.args.set.now c.start.result.now c.fill.ensures
    c.requires.room in
    on_ok_both c.enter.result c.enter.ensures.entered c.enter.ensures.kept (λ entered kept. λ least.
    start_found c.args.nfa.now least c.args.found.now c.enter.new.self c.fill.new.self.positions.members
    (c.requires.found least) entered c.enter.ensures.starts c.enter.ensures.limit
    (subst (λ n. AreKept n c.enter.new.self.limit c.enter.new.self.keys) room.positions kept) c.requires.within
    (subst (λ xs. (q : ℕ) → Contains c.fill.new.self.positions.members q ↔ Contains xs q)
    (c.start.ensures.these ∙ ap (λ k. slice_index_or c.args.nfa.now.starts k []) (sym c.requires.next))
    (filled c.fill.new.self c.args.set.now c.start.result.now c.fill.ensures)))

pub returns-clause-more : goal.returns-clause-more
returns-clause-more c = on_ok_both c.enter.result c.enter.ensures.entered c.enter.ensures.kept (λ entered kept.
    count_entered c.args.nfa.now [] c.args.found.now c.enter.new.self c.fill.new.self.positions.members
    (c.requires.found []) entered c.enter.ensures.starts c.enter.ensures.limit)

pub returns-clause-past : goal.returns-clause-past
returns-clause-past c = λ failed least. past_start c.args.nfa.now least c.args.found.now
    c.fill.new.self.positions.members
    (length c.args.found.now.entries.items) (c.requires.found least) (c.enter.ensures.full failed) c.requires.within
    (subst (λ xs. (q : ℕ) → Contains c.fill.new.self.positions.members q ↔ Contains xs q)
    (c.start.ensures.these ∙ ap (λ k. slice_index_or c.args.nfa.now.starts k []) (sym c.requires.next))
    (filled c.fill.new.self c.args.set.now c.start.result.now c.fill.ensures))
