use Rattle.std.proofs.Common.{◌≡◌, ◌∙◌, ◌+◌, ◌++◌, ◌∷◌, [], ap, map, sym, take}
use Rattle.std.specs.List.{filter_map}
use Rattle.std.specs.Option.{option_to_list}
use Rattle.std.specs.Prelude.{option_map}
use Rattle.std.proofs.lemmas.List.Elements.{filter_map-append}
use Rattle.std.proofs.lemmas.Result.{IfOk-weaker}
use Rattle.ly_yaccread.specs.File.{ruling_of, symbol_word}
use Rattle.ly_join.specs.Numbering.{rule_literals}
use Rattle.ly_join.specs.Private.Numbering.{with_all}
use Rattle.ly_join.specs.Terminals.{literal_in, same_terminal}
use Rattle.ly_join.proofs.ListLemmas.{mapped_all, mapped_more}
use Rattle.ly_join.proofs.NumberingLemmas.{all_append, filter_one}
use Rattle.ly_join.proofs.numbering.with_rule.Goals as goal

pub loop-symbol-preserved : goal.loop-symbol-preserved
loop-symbol-preserved c =
    let word = symbol_word c.symbol-item.result in
    let at = c.loop-symbol.symbol-index in
    let all = c.deref-symbol-items.result.now in
    let before = take at (map symbol_word all) in
    let more : filter_map literal_in (take (at + 1) (map symbol_word all))
    ≡ filter_map literal_in before ++ option_to_list (literal_in word)
    = ap (filter_map literal_in)
    (mapped_more symbol_word all at c.symbol-item.result c.loop-symbol-test.true c.symbol-item.is)
    ∙ (filter_map-append literal_in before (word ∷ [])
    ∙ ap (λ ts. filter_map literal_in before ++ ts) (filter_one literal_in word)) in
    c.in_ok-terminals.ensures
    ∙ (ap (λ ts. with_all same_terminal ts (option_to_list (literal_in word))) c.loop-symbol.invariant
    ∙ sym (ap (with_all same_terminal c.args.terminals) more
    ∙ all_append same_terminal c.args.terminals (filter_map literal_in before) (option_to_list (literal_in word))))

pub returns-in-Some : goal.returns-in-Some
returns-in-Some c =
    let word = symbol_word c.deref.result.now in
    let body = map symbol_word c.args.production.now.body.items in
    let ts = c.args.terminals in
    let literals = filter_map literal_in body in
    let last = option_to_list (literal_in word) in
    let before : c.loop-symbol.terminals ≡ with_all same_terminal ts literals
    = c.loop-symbol.invariant ∙ (ap (λ ws. with_all same_terminal ts (filter_map literal_in ws))
    (mapped_all symbol_word c.deref-symbol-items.result.now c.loop-symbol.symbol-index c.loop-symbol-test.false)
    ∙ ap (λ xs. with_all same_terminal ts (filter_map literal_in (map symbol_word xs)))
    c.deref-symbol-items.ensures.value) in
    let whole : rule_literals (ruling_of c.args.production.now) ≡ literals ++ last
    = ap (λ p. filter_map literal_in (body ++ option_to_list (option_map (λ x. symbol_word x.value) p))) c.in-Some.is
    ∙ (ap (λ s. filter_map literal_in (body ++ symbol_word s ∷ [])) (sym c.deref.ensures)
    ∙ (filter_map-append literal_in body (word ∷ []) ∙ ap (λ xs. literals ++ xs) (filter_one literal_in word))) in
    IfOk-weaker c.with_literal-in-Some.result _ _
    (λ t is. is ∙ (ap (λ xs. with_all same_terminal xs last) before
    ∙ sym (ap (with_all same_terminal ts) whole ∙ all_append same_terminal ts literals last)))
    c.with_literal-in-Some.ensures
