use Rattle.std.proofs.Common.{◌≡◌, ◌≤◌, arith, ap, subst, sym}
use Rattle.std.specs.Prelude.{◌↔◌, Contains}
use Rattle.ly_join.specs.Grammar.{Grammar, IsRule, GrammarRule}
use Rattle.ly_lr0.proofs.lr0.Lr0.rules_of.Goals as goal

pub of-requires : goal.of-requires
of-requires c =
    let same : c.self.inside.reduced.now.grammar ≡ c.args.self.now.grammar = ap (λ a. a.grammar) c.self.view_is in
    let accept = ap (λ (G : Grammar). G.accept) same in
    let count = c.self.invariant.by_left.count in
    let low = c.requires in
    omega arith

pub returns : goal.returns
returns c = λ q.
    let same : c.self.inside.reduced.now.grammar ≡ c.args.self.now.grammar = ap (λ a. a.grammar) c.self.view_is in
    let Has : Grammar → Type 0 = λ G. (r : GrammarRule) × IsRule G q r × (r.left ≡ c.args.symbol.0) in
    subst (λ G. Contains c.of.result.now q ↔ Has G) same
    (subst (λ xs. Contains xs q ↔ Has c.self.inside.reduced.now.grammar) (sym c.of.ensures)
    (c.self.invariant.by_left.rules c.args.symbol.0 q (subst (λ G. c.args.symbol.0 ≤ G.accept) (sym same) c.requires)))
