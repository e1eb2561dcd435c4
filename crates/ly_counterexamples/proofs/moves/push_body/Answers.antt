use Rattle.std.proofs.Common.{◌≡◌, ◌∙◌, ◌++◌, ap, refl, reverse, map, slice_index_or, take}
use Rattle.std.proofs.lemmas.List.{reverse-reverse, take_all}
use Rattle.indexmap.proofs.ReorderLemmas.{map-reverse}
use Rattle.ly_join.specs.Grammar.{symbol_of}
use Rattle.ly_join.specs.declared.symbol.Symbol as code
use Rattle.ly_join.specs.declared.symbol.Symbol.TheVariants.{Terminal}
use Rattle.ly_counterexamples.specs.Private.Leftmost.{Ahead, ahead_from, ahead_of, next_of}
use Rattle.ly_counterexamples.proofs.SentenceLemmas.{kept_more}
use Rattle.ly_counterexamples.proofs.moves.push_body.Goals as goal

-- what a symbol that is kept is ahead
abbrev told : code.Symbol → Ahead
told x = ahead_of (symbol_of x)

-- what stands where no symbol does
abbrev no_symbol : code.Symbol
no_symbol = Terminal (record { 0 = 0 })

pub loop-symbol-preserved : goal.loop-symbol-preserved
loop-symbol-preserved c =
    let items = c.deref-symbol-items.result.now in
    let n = c.loop-symbol.symbol-index in
    kept_more ahead_from told c.loop-symbol.ahead.items c.push.new.self.items c.args.ahead.now.items c.of.result items n
    no_symbol (slice_index_or items n no_symbol) c.loop-symbol-test.true refl c.in_ok-push.ensures.items c.of.ensures
    c.loop-symbol.invariant

pub returns : goal.returns
returns c =
    let items = c.deref-symbol-items.result.now in
    let body = c.args.body.now in
    let turned : items ≡ reverse body
    = c.deref-symbol-items.ensures.value ∙ c.reverse.ensures.items ∙ ap reverse c.in_ok-reversed.ensures.items in
    let all : reverse (map told (take c.loop-symbol.symbol-index items)) ≡ map told body
    = ap (λ xs. reverse (map told xs)) (take_all c.loop-symbol.symbol-index items c.loop-symbol-test.false ∙ turned)
    ∙ ap reverse (map-reverse told body) ∙ reverse-reverse (map told body) in
    c.loop-symbol.invariant ∙ ap (λ w. w ++ next_of c.args.ahead.now.items) all
