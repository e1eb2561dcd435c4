use Rattle.std.proofs.Common.{◌≡◌, ◌<◌, ◌≤◌, ◌↔◌, ◌∙◌, [], ◌∷◌, sym, subst, arith, true}
use Rattle.ly_join.specs.Grammar.{nonterminal}
use Rattle.ly_grammar.specs.Derivations.{BeginsYield}
use Rattle.ly_grammar.specs.Reduction.{Reduction}
use Rattle.ly_grammar.proofs.reduced.Reduced.begins.Goals as goal

pub contains-requires-clause-row : goal.contains-requires-clause-row
contains-requires-clause-row c =
    let View : Reduction → Type 0 = λ r. c.args.symbol.0 ≤ r.grammar.accept in
    let le = subst View (sym c.self.view_is) c.requires.symbol in
    let rows = c.self.invariant.1.rows in
    omega (arith, le, rows)

pub contains-requires-clause-below : goal.contains-requires-clause-below
contains-requires-clause-below c =
    let View : Reduction → Type 0 = λ r. c.args.terminal.0 < r.grammar.terminals in
    let lt = subst View (sym c.self.view_is) c.requires.terminal in
    let width = c.self.invariant.1.width in
    omega (arith, lt, width)

pub returns : goal.returns
returns c =
    let Test : Reduction → Type 0 = λ r. (c.contains.result ≡ true)
    ↔ BeginsYield r.grammar (nonterminal c.args.symbol.0 ∷ []) c.args.terminal.0 in
    let View : Reduction → Type 0 = λ r. c.args.symbol.0 ≤ r.grammar.accept in
    let le = subst View (sym c.self.view_is) c.requires.symbol in
    let exact = c.self.invariant.0.first c.args.symbol.0 c.args.terminal.0 le in
    subst Test c.self.view_is
    (λ e. exact.0 (sym c.contains.ensures ∙ e), λ is. c.contains.ensures ∙ exact.1 is)
