use Rattle.std.proofs.Common.{◌≡◌, ◌∙◌, ◌++◌, ◌∷◌, [], ap, length, sym}
use Rattle.std.proofs.lemmas.List.{length-map}
use Rattle.ly_yaccread.specs.Private.Read.{left, next_symbol}
use Rattle.ly_yaccread.specs.Private.Words.{word_of}
use Rattle.ly_yaccread.proofs.SymbolLemmas.{listed_end, listed_more}
use Rattle.ly_yaccread.proofs.symbols.read_listed.Goals as goal

pub loop-symbol-preserved : goal.loop-symbol-preserved
loop-symbol-preserved c =
    let count : length c.loop-symbol.rest.left.now ≡ length (left c.loop-symbol.rest)
    = sym (length-map c.loop-symbol.rest.left.now (λ w. word_of w.word)) in
    listed_more c.args.listing (left c.args.words) (left c.loop-symbol.rest) (left c.in-Some.behind)
    (left c.after_number-rest.result) c.loop-symbol.symbols.items c.push.new.self.items c.loop-symbol.left.items
    _ c.in_ok-owned.field-0 (next_symbol c.in-Some.symbol) c.loop-symbol.invariant
    c.in-Some.ensures c.in_ok-owned.ensures c.after_number-rest.ensures c.in_ok-push.ensures.items
    (c.in_ok-push-2.ensures.items ∙ ap (λ n. c.loop-symbol.left.items ++ n ∷ []) count)

pub returns : goal.returns
returns c = listed_end c.args.listing (left c.args.words) (left c.loop-symbol.rest) c.loop-symbol.symbols.items
    c.loop-symbol.left.items c.loop-symbol.invariant c.in_default.ensures
