use Rattle.std.proofs.Common.{◌≡◌, ◌<◌, ◌≤◌, ◌↔◌, ◌∙◌, [], ◌∷◌, sym, subst, arith, true, false, length}
use Rattle.std.proofs.lemmas.List.{get_or_default}
use Rattle.ly_join.specs.Grammar.{nonterminal}
use Rattle.ly_grammar.specs.Derivations.{IsNullable}
use Rattle.ly_grammar.specs.Reduction.{Reduction}
use Rattle.ly_grammar.proofs.reduced.Reduced.is_nullable.Goals as goal

pub index-requires : goal.index-requires
index-requires c =
    let View : Reduction → Type 0 = λ r. c.args.symbol.0 ≤ r.grammar.accept in
    let le = subst View (sym c.self.view_is) c.requires in
    let long = c.self.invariant.1.empties in
    let ok = c.self.inside.nullable.ok.0 in
    omega (arith, le, long, ok)

pub returns : goal.returns
returns c =
    let Test : Reduction → Type 0 = λ r. (c.index.result.now ≡ true)
    ↔ IsNullable r.grammar (nonterminal c.args.symbol.0 ∷ []) in
    let View : Reduction → Type 0 = λ r. c.args.symbol.0 ≤ r.grammar.accept in
    let le = subst View (sym c.self.view_is) c.requires in
    let exact = c.self.invariant.0.nullable c.args.symbol.0 le in
    let lt : c.args.symbol.0 < length c.self.inside.nullable.items
    = (let long = c.self.invariant.1.empties in omega (arith, le, long)) in
    let same = get_or_default c.self.inside.nullable.items c.args.symbol.0 c.index.result.now false lt in
    subst Test c.self.view_is
    (λ e. exact.0 (sym same ∙ sym c.index.ensures ∙ e), λ is. c.index.ensures ∙ same ∙ exact.1 is)
