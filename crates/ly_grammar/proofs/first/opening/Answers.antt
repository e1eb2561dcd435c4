use Rattle.std.proofs.Common.{◌≡◌, ◌<◌, ◌≤◌, ◌∙◌, sym, ap, subst, map, take, length, slice_get, slice_index_or, Some}
use Rattle.std.proofs.Common.{List}
use Rattle.std.proofs.Common.{false, add-one, ◌+◌}
use Rattle.std.proofs.lemmas.List.{length-map, take-map, take_all}
use Rattle.std.proofs.lemmas.Option.{slice_get-get_or}
use Rattle.ly_base.proofs.MemberLemmas.{Contains-none}
use Rattle.ly_join.specs.Grammar.{Symbol, symbol_of, terminal}
use Rattle.ly_grammar.specs.Private.Search.{SymbolsPass}
use Rattle.ly_grammar.proofs.FirstLemmas.{opening_all, opening_to}
use Rattle.ly_grammar.proofs.first.opening.Goals as goal

pub returns-then-passing-body : goal.returns-then-passing-body
returns-then-passing-body c =
    let marks = c.args.nullable.now in
    let symbols = c.args.body.now in
    let w : List Symbol = map symbol_of symbols in
    let at = c.passing_until-passing.result in
    let lt : at < length w = subst (λ n. at < n) (sym (length-map symbols symbol_of)) c.if-passing-body.true in
    let X : Symbol = slice_index_or w at (terminal 0) in
    let there : slice_get w at ≡ Some X = slice_get-get_or w at (terminal 0) lt in
    let passing : SymbolsPass marks false (take at w)
    = c.passing_until-passing.ensures.passing (λ Y member. Contains-none Y member) in
    sym (take-map symbol_of (at + 1) symbols) ∙ ap (λ n. take n w) (add-one at)
    ∙ sym (opening_to marks w at X passing there (c.passing_until-passing.ensures.stops X there))

pub returns-else-passing-body : goal.returns-else-passing-body
returns-else-passing-body c =
    let marks = c.args.nullable.now in
    let symbols = c.args.body.now in
    let w : List Symbol = map symbol_of symbols in
    let at = c.passing_until-passing.result in
    let le : length w ≤ at = subst (λ n. n ≤ at) (sym (length-map symbols symbol_of)) c.if-passing-body.false in
    let passing : SymbolsPass marks false (take at w)
    = c.passing_until-passing.ensures.passing (λ Y member. Contains-none Y member) in
    sym (opening_all marks w (subst (SymbolsPass marks false) (take_all at w le) passing))
