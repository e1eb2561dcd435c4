use Rattle.std.proofs.Common.{◌≡◌, ◌∙◌, ◌++◌, ◌∷◌, [], ap, List, map, sym, take}
use Rattle.std.specs.List.{flat_map}
use Rattle.ly_yaccread.specs.File.{declared_of, ruling_of}
use Rattle.ly_join.specs.Numbering.{declared_terminals, first_appearances, rule_literals}
use Rattle.ly_join.specs.Private.Numbering.{with_all}
use Rattle.ly_join.specs.Private.Tables.{terminal_of}
use Rattle.ly_join.specs.Terminals.{TerminalName, end, undefined, same_terminal}
use Rattle.ly_join.proofs.CountLemmas.{declared_words}
use Rattle.ly_join.proofs.ListLemmas.{flat_more, mapped_all}
use Rattle.ly_join.proofs.NumberingLemmas.{all_append, first_append}
use Rattle.ly_join.proofs.TableLemmas.{same_itself, same_sound}
use Rattle.ly_join.proofs.numbering.number_terminals.Goals as goal

-- the end of the text and what the grammar doesn't name
abbrev two : List TerminalName
two = end ∷ undefined ∷ []

pub loop-declaration-preserved : goal.loop-declaration-preserved
loop-declaration-preserved c =
    let declaration = c.declaration-item.result in
    let at = c.loop-declaration.declaration-index in
    let all = c.deref-declaration-items.result.now in
    let before = flat_map declared_terminals (take at (map declared_of all)) in
    let one = declared_terminals (declared_of declaration) in
    let symbols : map terminal_of c.deref.result.now ≡ one
    = ap (map terminal_of) c.deref.ensures.value ∙ sym (declared_words declaration.symbols.items) in
    c.in_ok-terminals-2.ensures
    ∙ (ap (with_all same_terminal c.loop-declaration.terminals) symbols
    ∙ (ap (λ ts. with_all same_terminal ts one) c.loop-declaration.invariant
    ∙ sym (ap (with_all same_terminal two)
    (flat_more declared_terminals declared_of all at declaration c.loop-declaration-test.true c.declaration-item.is)
    ∙ all_append same_terminal two before one)))

pub loop-production-preserved : goal.loop-production-preserved
loop-production-preserved c =
    let production = c.production-item.result in
    let at = c.loop-production.production-index in
    let all = c.deref-production-items.result.now in
    let start = c.loop-declaration.terminals in
    let before = flat_map rule_literals (take at (map ruling_of all)) in
    let one = rule_literals (ruling_of production) in
    c.in_ok-terminals-3.ensures
    ∙ (ap (λ ts. with_all same_terminal ts one) c.loop-production.invariant
    ∙ sym (ap (with_all same_terminal start)
    (flat_more rule_literals ruling_of all at production c.loop-production-test.true c.production-item.is)
    ∙ all_append same_terminal start before one))

pub returns : goal.returns
returns c =
    let ds = c.deref-declaration-items.result.now in
    let rs = c.deref-production-items.result.now in
    let declared = flat_map declared_terminals (map declared_of ds) in
    let literals = flat_map rule_literals (map ruling_of rs) in
    let first : c.loop-declaration.terminals ≡ with_all same_terminal two declared
    = c.loop-declaration.invariant ∙ ap (λ xs. with_all same_terminal two (flat_map declared_terminals xs))
    (mapped_all declared_of ds c.loop-declaration.declaration-index c.loop-declaration-test.false) in
    c.loop-production.invariant
    ∙ (ap (λ xs. with_all same_terminal c.loop-declaration.terminals (flat_map rule_literals xs))
    (mapped_all ruling_of rs c.loop-production.production-index c.loop-production-test.false)
    ∙ (ap (λ ts. with_all same_terminal ts literals) first
    ∙ (sym (all_append same_terminal two declared literals)
    ∙ (sym (first_append same_terminal same_sound same_itself two (declared ++ literals))
    ∙ (ap (λ xs. first_appearances same_terminal
    (two ++ (flat_map declared_terminals (map declared_of xs) ++ literals))) c.deref-declaration-items.ensures.value
    ∙ ap (λ xs. first_appearances same_terminal
    (two ++ (flat_map declared_terminals (map declared_of c.args.yacc.now.declarations.items)
    ++ flat_map rule_literals (map ruling_of xs)))) c.deref-production-items.ensures.value)))))
