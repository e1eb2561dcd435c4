use Rattle.std.proofs.Common.{◌≡◌, ◌<◌, ◌↔◌, ◌∙◌, sym, subst, arith, true, false, length}
use Rattle.std.proofs.lemmas.List.{get_or_default}
use Rattle.ly_join.specs.Grammar.{GrammarRule, IsRule}
use Rattle.ly_grammar.specs.Reduction.{Reduction}
use Rattle.ly_grammar.proofs.MarkedLemmas.{at_marked, marked_at, length-marked}
use Rattle.ly_grammar.proofs.reduced.Reduced.is_kept.Goals as goal

pub index-requires : goal.index-requires
index-requires c =
    let View : Reduction → Type 0 = λ r. c.args.number < length r.grammar.rules in
    let lt = subst View (sym c.self.view_is) c.requires in
    let long = c.self.invariant.1.marks in
    let same = length-marked c.self.inside.kept.items c.self.inside.grammar.now.rules long in
    let ok = c.self.inside.kept.ok.0 in
    omega (arith, lt, long, same, ok)

pub returns : goal.returns
returns c =
    let G = c.self.inside.grammar.now in
    let kept = c.self.inside.kept.items in
    let p = c.args.number in
    let Test : Reduction → Type 0 = λ r. (c.index.result.now ≡ true) ↔ ((q : GrammarRule) × IsRule r.grammar p q) in
    let View : Reduction → Type 0 = λ r. p < length r.grammar.rules in
    let lt = subst View (sym c.self.view_is) c.requires in
    let long = c.self.invariant.1.marks in
    let within : p < length G.rules = (let same = length-marked kept G.rules long in omega (arith, lt, same)) in
    let same = get_or_default kept p c.index.result.now false (let l = long in omega (arith, within, l)) in
    let there = c.self.invariant.1.lawful.whole p within in
    subst Test c.self.view_is (
      λ e. (there.0, at_marked kept G.rules p there.0 there.1 (sym same ∙ sym c.index.ensures ∙ e)),
      λ is. c.index.ensures ∙ same ∙ (marked_at kept G.rules p is.0 is.1).1,
    )
