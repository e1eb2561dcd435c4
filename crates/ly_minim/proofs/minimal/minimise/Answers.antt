use Rattle.std.proofs.Common.{refl, subst, sym, map}
use Rattle.std.specs.Prelude.{option_map}
use Rattle.ly_subset.specs.Automaton.{Automaton, IsAutomaton, IsBreadthFirst}
use Rattle.ly_subset.specs.Dfa.{with_states}
use Rattle.ly_minim.specs.Smallest.{HaveSameRules, IsReducedAutomaton}
use Rattle.ly_minim.specs.Private.Rules.{HaveRules}
use Rattle.ly_minim.proofs.QuotientLemmas.{quotient_automaton, quotient_of, quotient_order, quotient_reduced}
use Rattle.ly_minim.proofs.QuotientLemmas.{quotient_same}
use Rattle.ly_minim.proofs.minimal.minimise.Goals as goal

pub with_states-requires : goal.with_states-requires
with_states-requires c =
    let A = c.args.dfa in
    let of = c.in_ok-blocks.blocks.of.items in
    let q = c.in_ok-quotient.quotient in
    let B = with_states A c.in_ok-rules.rules.items q.entries.items in
    let is = subst (λ (D : Automaton). IsAutomaton D) c.dfa.view_is c.dfa.invariant in
    quotient_automaton A B of q.picked.items is
    (quotient_of A B of c.in_ok-blocks.blocks.count q q.numbers refl refl refl refl
    (subst (λ ps. HaveRules A ps (map (option_map (λ i. i.0)) c.in_ok-rules.rules.items)) c.deref.ensures.value
    c.in_ok-rules.ensures) c.in_ok-quotient.ensures.quotient c.in_ok-quotient.ensures.numbered.by
    c.in_ok-blocks.ensures.blocks.states c.in_ok-quotient.ensures.whole)

pub returns-clause-same : goal.returns-clause-same
returns-clause-same c =
    let A = c.args.dfa in
    let of = c.in_ok-blocks.blocks.of.items in
    let q = c.in_ok-quotient.quotient in
    let B = with_states A c.in_ok-rules.rules.items q.entries.items in
    let is = subst (λ (D : Automaton). IsAutomaton D) c.dfa.view_is c.dfa.invariant in
    let so = quotient_of A B of c.in_ok-blocks.blocks.count q q.numbers refl refl refl refl
    (subst (λ ps. HaveRules A ps (map (option_map (λ i. i.0)) c.in_ok-rules.rules.items)) c.deref.ensures.value
    c.in_ok-rules.ensures) c.in_ok-quotient.ensures.quotient c.in_ok-quotient.ensures.numbered.by
    c.in_ok-blocks.ensures.blocks.states c.in_ok-quotient.ensures.whole in
    subst (λ (D : Automaton). HaveSameRules A D) (sym c.with_states.ensures)
    (quotient_same A B of q.picked.items is so c.in_ok-blocks.ensures.stable)

pub returns-clause-reduced : goal.returns-clause-reduced
returns-clause-reduced c =
    let A = c.args.dfa in
    let of = c.in_ok-blocks.blocks.of.items in
    let q = c.in_ok-quotient.quotient in
    let B = with_states A c.in_ok-rules.rules.items q.entries.items in
    let is = subst (λ (D : Automaton). IsAutomaton D) c.dfa.view_is c.dfa.invariant in
    let so = quotient_of A B of c.in_ok-blocks.blocks.count q q.numbers refl refl refl refl
    (subst (λ ps. HaveRules A ps (map (option_map (λ i. i.0)) c.in_ok-rules.rules.items)) c.deref.ensures.value
    c.in_ok-rules.ensures) c.in_ok-quotient.ensures.quotient c.in_ok-quotient.ensures.numbered.by
    c.in_ok-blocks.ensures.blocks.states c.in_ok-quotient.ensures.whole in
    λ trim. subst (λ (D : Automaton). IsReducedAutomaton D) (sym c.with_states.ensures)
    (quotient_reduced A B of q.picked.items is so c.in_ok-blocks.ensures.stable trim
    (c.in_ok-blocks.ensures.apart trim))

pub returns-clause-order : goal.returns-clause-order
returns-clause-order c =
    let A = c.args.dfa in
    let of = c.in_ok-blocks.blocks.of.items in
    let q = c.in_ok-quotient.quotient in
    let B = with_states A c.in_ok-rules.rules.items q.entries.items in
    let is = subst (λ (D : Automaton). IsAutomaton D) c.dfa.view_is c.dfa.invariant in
    let so = quotient_of A B of c.in_ok-blocks.blocks.count q q.numbers refl refl refl refl
    (subst (λ ps. HaveRules A ps (map (option_map (λ i. i.0)) c.in_ok-rules.rules.items)) c.deref.ensures.value
    c.in_ok-rules.ensures) c.in_ok-quotient.ensures.quotient c.in_ok-quotient.ensures.numbered.by
    c.in_ok-blocks.ensures.blocks.states c.in_ok-quotient.ensures.whole in
    subst (λ (D : Automaton). IsBreadthFirst D) (sym c.with_states.ensures)
    (quotient_order A B of q.picked.items is so)
