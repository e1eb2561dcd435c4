use Rattle.std.proofs.Common.{refl, map, subst}
use Rattle.std.specs.Prelude.{reverse, IfSome}
use Rattle.std.proofs.lemmas.Option.{IfSome_then}
use Rattle.std.proofs.lemmas.Result.{IfOk-weaker}
use Rattle.ly_join.specs.Grammar.{symbol_of}
use Rattle.ly_lr0.specs.Automaton.{IsLr0Automaton}
use Rattle.ly_resolve.specs.Values.{conflict_from}
use Rattle.ly_counterexamples.specs.Examples.{IsPlaceOf, rival}
use Rattle.ly_counterexamples.specs.Private.Met.{IsMet}
use Rattle.ly_counterexamples.specs.declared.claim.Claim.TheVariants.{Settled}
use Rattle.ly_counterexamples.specs.declared.claim.Demand.{Demand}
use Rattle.ly_counterexamples.proofs.ExampleLemmas.{place_of_rival}
use Rattle.ly_counterexamples.proofs.example.Examples.of_choice.Goals as goal

pub returns : goal.returns
returns c =
    let M = c.args.self.now.automaton in
    let is = subst (λ v. IsLr0Automaton v.automaton) c.self.view_is
    (subst IsLr0Automaton c.self.invariant.1 c.self.invariant.0.lawful) in
    let told = conflict_from M c.args.conflict.now in
    let d = c.demand.result in
    let e : Demand = record { state = d.state; first = Settled; second = d.second } in
    IfOk-weaker c.string_of.result
    (λ found. IfSome found (λ s. IsMet M told.terminal (reverse (map symbol_of s.items)) e))
    (λ found. IfSome found (λ s. IsPlaceOf M.grammar told (rival told.kind told.choice)
    (reverse (map symbol_of s.items))))
    (λ found met. IfSome_then found met
    (λ s m. place_of_rival M is told d e (reverse (map symbol_of s.items)) c.demand.ensures.opens refl refl m))
    c.string_of.ensures
