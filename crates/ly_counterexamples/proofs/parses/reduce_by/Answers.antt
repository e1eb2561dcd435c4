use Rattle.std.proofs.Common.{◌≡◌, ◌∙◌, ◌-◌, ◌++◌, [], ◌∷◌, ap, arith, length, sym, take, true, false}
use Rattle.std.proofs.lemmas.List.{length-map}
use Rattle.std.proofs.lemmas.Slice.Eq.{ends_is}
use Rattle.ly_join.specs.Grammar.{symbol_of}
use Rattle.ly_join.specs.declared.symbol.Symbol.TheVariants.{Nonterminal}
use Rattle.ly_counterexamples.proofs.ParseLemmas.{lead_nowhere, reduced_to, symbols_tested}
use Rattle.ly_counterexamples.proofs.SentenceLemmas.{rule_kept}
use Rattle.ly_counterexamples.proofs.parses.reduce_by.Goals as goal

pub returns-then-not-ends_with : goal.returns-then-not-ends_with
returns-then-not-ends_with c =
    let G = c.args.grammar.now in
    let p = c.args.number in
    let r = c.in-Some.rule.now in
    let body = c.body.result.now in
    let is = rule_kept G c.rules.result.now c.rules.ensures.these p r c.in-Some.ensures.lookup.3.0
    c.in-Some.ensures.lookup.1 in
    let ends = ends_is symbols_tested c.deref.result.now body c.ends_with.result c.ends_with.ensures.value in
    lead_nowhere G p r is c.args.string.now.items body c.body.ensures
    (λ front e.
    let off : false ≡ true = sym c.if-not-ends_with.true ∙ ends.1 front (c.deref.ensures.value ∙ e) in
    absurd (cc))

pub returns : goal.returns
returns c =
    let G = c.args.grammar.now in
    let p = c.args.number in
    let r = c.in-Some.rule.now in
    let old = c.args.string.now.items in
    let body = c.body.result.now in
    let again = c.body-2.result.now in
    let is = rule_kept G c.rules.result.now c.rules.ensures.these p r c.in-Some.ensures.lookup.3.0
    c.in-Some.ensures.lookup.1 in
    let ends = ends_is symbols_tested c.deref.result.now body c.ends_with.result c.ends_with.ensures.value in
    let front = take (length old - length body) old in
    let split : old ≡ front ++ body
    = sym c.deref.ensures.value ∙ ends.0 c.if-not-ends_with.false
    ∙ ap (λ s. take (length s - length body) s ++ body) c.deref.ensures.value in
    let long : length again ≡ length body
    = sym (length-map again symbol_of) ∙ ap length (c.body-2.ensures ∙ sym c.body.ensures)
    ∙ length-map body symbol_of in
    let count : c.len.result - length again ≡ length old - length body = omega (arith, c.len.ensures, long) in
    let cut : c.truncate.new.self.items ≡ front = c.truncate.ensures.items ∙ ap (λ k. take k old) count in
    reduced_to G p r is old body front c.push.new.self.items c.left.result c.body.ensures c.left.ensures split
    (c.in_ok-push.ensures.items ∙ ap (λ s. s ++ Nonterminal c.left.result ∷ []) cut)
