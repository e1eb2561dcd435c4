use Rattle.std.proofs.Common.{◌≡◌, ◌∙◌, ◌↔◌, ◌<◌, [], ap, subst, sym, length, slice_index_or, Contains, Some}
use Rattle.ly_join.specs.Grammar.{Symbol}
use Rattle.ly_lr0.specs.Automaton.{goto_of}
use Rattle.ly_counterexamples.proofs.example.Examples.predecessors.Goals as goal

pub returns : goal.returns
returns c q =
    let s = c.args.state.0 in
    let all = c.self.inside.ground.predecessors in
    let same = c.self.invariant.1 ∙ ap (λ v. v.automaton) c.self.view_is in
    let lt = subst (λ M. s < length M.states) (sym same) c.requires in
    subst (λ w. Contains w q ↔ ((X : Symbol) × (goto_of c.args.self.now.automaton q.0 X ≡ Some s))) (sym c.of.ensures)
    (subst (λ M. Contains (slice_index_or all s []) q ↔ ((X : Symbol) × (goto_of M q.0 X ≡ Some s))) same
    (c.self.invariant.0.predecessors.exact s q lt))
