use Rattle.std.proofs.Common.{◌≡◌, ◌≤◌, ◌∙◌, sym, subst, map, length, true, eq-eqb, List}
use Rattle.std.proofs.lemmas.Bool.{eqb-true}
use Rattle.std.proofs.lemmas.List.{length-map}
use Rattle.ly_base.proofs.MemberLemmas.{Contains-none}
use Rattle.ly_join.specs.Grammar.{Symbol, symbol_of}
use Rattle.ly_grammar.specs.Private.Search.{SymbolsPass}
use Rattle.ly_grammar.proofs.PassLemmas.{passes_to_end}
use Rattle.ly_grammar.proofs.useful.body_passes.Goals as goal

pub returns : goal.returns
returns c =
    let found = c.args.found.now in
    let symbols = c.body-body.result.now in
    let w : List Symbol = map symbol_of symbols in
    let at = c.passing_until.result in
    let long : length w ≡ length symbols = length-map symbols symbol_of in
    let ends = passes_to_end found true w at (subst (λ n. at ≤ n) (sym long) c.passing_until.ensures.within)
    (c.passing_until.ensures.passing (λ X member. Contains-none X member)) c.passing_until.ensures.stops in (
      λ e. subst (SymbolsPass found true) c.body-body.ensures (ends.0 (eqb-true at (length symbols) e ∙ sym long)),
      λ all. eq-eqb at (length symbols) (ends.1 (subst (SymbolsPass found true) (sym c.body-body.ensures) all) ∙ long),
    )
