use Rattle.std.proofs.Common.{◌≡◌, ◌+◌, ◌<◌, ℕ, length, slice_index_or, subst}
use Rattle.ly_relate.specs.Private.Gotos.{IsNumbering, Numbering}
use Rattle.ly_relate.proofs.GotoLemmas.{IsRange, range_of}
use Rattle.ly_relate.proofs.gotos.Gotos.leaving.Goals as goal

-- what the two counts say, of the numbering as contracts see it
range_seen : (seen n : Numbering) (s start end : ℕ) → IsNumbering seen → seen ≡ n → s < length n.automaton.states
    → start ≡ slice_index_or seen.first s start → end ≡ slice_index_or seen.first (s + 1) end → IsRange n s start end
range_seen seen n s start end law e lt a b =
    range_of n s start end (subst IsNumbering e law) lt (subst (λ m. start ≡ slice_index_or m.first s start) e a)
    (subst (λ m. end ≡ slice_index_or m.first (s + 1) end) e b)

pub returns-clause-within : goal.returns-clause-within
returns-clause-within c = (range_seen _ c.args.self.now c.args.state.0 c.index.result.now c.index-2.result.now
    c.self.invariant c.self.view_is c.requires c.index.ensures c.index-2.ensures).within

pub returns-clause-ordered : goal.returns-clause-ordered
returns-clause-ordered c = (range_seen _ c.args.self.now c.args.state.0 c.index.result.now c.index-2.result.now
    c.self.invariant c.self.view_is c.requires c.index.ensures c.index-2.ensures).ordered

pub returns-clause-these : goal.returns-clause-these
returns-clause-these c = (range_seen _ c.args.self.now c.args.state.0 c.index.result.now c.index-2.result.now
    c.self.invariant c.self.view_is c.requires c.index.ensures c.index-2.ensures).these
