use Rattle.std.proofs.Common.{◌∙◌, ◌↔◌, ◌≤◌, List, [], ap, subst, sym, slice_index_or, Contains}
use Rattle.ly_join.specs.Grammar.{Symbol, nonterminal}
use Rattle.ly_counterexamples.specs.Demands.{IsAhead}
use Rattle.ly_counterexamples.proofs.example.Examples.waiting.Goals as goal

pub returns : goal.returns
returns c i =
    let A = c.args.left.0 in
    let all = c.self.inside.ground.waiting in
    let same = ap (λ M. M.grammar) (c.self.invariant.1 ∙ ap (λ v. v.automaton) c.self.view_is) in
    let le = subst (λ G. A ≤ G.accept) (sym same) c.requires in
    subst (λ w. Contains w i
    ↔ ((rest : List Symbol) × IsAhead c.args.self.now.automaton.grammar i (nonterminal A) rest)) (sym c.of.ensures)
    (subst (λ G. Contains (slice_index_or all A []) i ↔ ((rest : List Symbol) × IsAhead G i (nonterminal A) rest)) same
    (c.self.invariant.0.waiting.exact A i le))
