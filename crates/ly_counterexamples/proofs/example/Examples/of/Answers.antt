use Rattle.std.proofs.Common.{◌∙◌, ap, subst, map, List}
use Rattle.std.specs.Prelude.{reverse, MatchOption}
use Rattle.ly_join.specs.Grammar.{Symbol, symbol_of}
use Rattle.ly_resolve.specs.Values.{conflict_from}
use Rattle.ly_counterexamples.specs.Private.Met.{IsMet}
use Rattle.ly_counterexamples.proofs.OpeningLemmas.{found_example, no_example}
use Rattle.ly_counterexamples.proofs.example.Examples.of.Goals as goal

pub returns-in-Ok-Some : goal.returns-in-Ok-Some
returns-in-Ok-Some c =
    let M = c.args.self.now.automaton in
    let N = c.self.inside.ground.lr0.now in
    let t = c.args.conflict.now.terminal.0 in
    let d = c.demand-demand.result in
    found_example M N (c.self.invariant.1 ∙ ap (λ v. v.automaton) c.self.view_is) c.self.invariant.0.lawful
    (conflict_from M c.args.conflict.now) d (reverse (map symbol_of c.in-Ok-Some.string.items))
    c.demand-demand.ensures.opens
    (subst (λ o. MatchOption o ((g : List Symbol) → IsMet N t g d → ⊥)
    (λ string. IsMet N t (reverse (map symbol_of string.items)) d)) c.in-Ok-Some.field-0-is
    c.in-Ok-Some.ensures.found)

pub returns-in-Ok-None : goal.returns-in-Ok-None
returns-in-Ok-None c =
    let M = c.args.self.now.automaton in
    let N = c.self.inside.ground.lr0.now in
    let t = c.args.conflict.now.terminal.0 in
    let d = c.demand-demand.result in
    no_example M N (c.self.invariant.1 ∙ ap (λ v. v.automaton) c.self.view_is) c.self.invariant.0.lawful
    (conflict_from M c.args.conflict.now) d c.demand-demand.ensures.opens
    (subst (λ o. MatchOption o ((g : List Symbol) → IsMet N t g d → ⊥)
    (λ string. IsMet N t (reverse (map symbol_of string.items)) d)) c.in-Ok-None.field-0-is
    c.in-Ok-None.ensures.found)
