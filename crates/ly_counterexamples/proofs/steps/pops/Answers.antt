use Rattle.std.proofs.Common.{◌≡◌, ◌↔◌, refl, subst, sym, Contains, Some, slice_index_or}
use Rattle.ly_base.specs.declared.numbers.StateNo.{StateNo}
use Rattle.ly_join.specs.Grammar.{Symbol, symbol_of}
use Rattle.ly_lr0.specs.Automaton.{goto_of}
use Rattle.ly_counterexamples.specs.Demands.{IsPop}
use Rattle.ly_counterexamples.specs.Private.Steps.{ArePopped}
use Rattle.ly_counterexamples.proofs.BackLemmas.{all_related, none_at_all, only_none, related_on, some_alone}
use Rattle.ly_counterexamples.proofs.ClaimLemmas.{pop_from, pops_are, pops_never}
use Rattle.ly_counterexamples.proofs.steps.pops.Goals as goal

-- what stands where no predecessor does
abbrev none : StateNo
none = record { 0 = 0 }

pub returns-in_default-both_popped : goal.returns-in_default-both_popped
returns-in_default-both_popped c =
    let M = c.args.ground.now.lr0.now in
    let d = c.args.demand in
    let found = c.new-found.result.items in
    let never = none_at_all (ArePopped M.grammar (symbol_of c.in-Some.symbol) d) c.both_popped.result
    c.both_popped.ensures c.in_default-both_popped.is in
    only_none (λ p. IsPop M (symbol_of p.symbol) d p.demand) found found c.new-found.ensures.items refl
    (pops_never M d c.accessing_symbol.result c.accessing_symbol.ensures.only c.in-Some.symbol c.in-Some.is never)

pub loop-predecessor-preserved : goal.loop-predecessor-preserved
loop-predecessor-preserved c =
    let X = c.in-Some.symbol in
    let e = c.in-Some-both_popped.popped in
    let qs = c.of-predecessor-items.result.now in
    let k = c.loop-predecessor.predecessor-index in
    related_on (λ q r. pop_from X e q ≡ r) qs k none c.loop-predecessor-test.true
    (pop_from X e (slice_index_or qs k none))
    (λ r. ((λ same. same), (λ same. same))) c.loop-predecessor.found.items c.push.new.self.items
    c.in_ok-push.ensures.items
    c.loop-predecessor.invariant

pub returns : goal.returns
returns c p =
    let M = c.args.ground.now.lr0.now in
    let d = c.args.demand in
    let X = c.in-Some.symbol in
    let e = c.in-Some-both_popped.popped in
    let qs = c.of-predecessor-items.result.now in
    let one = some_alone (ArePopped M.grammar (symbol_of X) d) c.both_popped.result c.both_popped.ensures e
    c.in-Some-both_popped.is in
    let are = pops_are M d c.accessing_symbol.result c.accessing_symbol.ensures.only X c.in-Some.is e one qs
    (λ q. subst (λ w. Contains w q ↔ ((Y : Symbol) × (goto_of M q.0 Y ≡ Some d.state.0)))
    (sym c.of-predecessor-items.ensures) (c.requires.ground.predecessors.exact d.state.0 q c.requires.kept.state)) p in
    let all = all_related (λ q r. pop_from X e q ≡ r) qs c.loop-predecessor.predecessor-index
    c.loop-predecessor-test.false p in
    let inv = c.loop-predecessor.invariant p in
    ((λ has. are.0 (all.0 (inv.0 has))), (λ pops. inv.1 (all.1 (are.1 pops))))
