use Rattle.std.proofs.Common.{◌∙◌, ap, map, take}
use Rattle.std.proofs.lemmas.List.{map_push}
use Rattle.std.proofs.lemmas.List.Elements.{All-contains}
use Rattle.std.proofs.lemmas.Result.{err_from_is_err_and}
use Rattle.ly_yaccread.specs.File.{symbol_word}
use Rattle.ly_join.specs.Grammar.{symbol_of}
use Rattle.ly_join.specs.Joined.{IsSymbol}
use Rattle.ly_join.specs.Private.Rules.{table_from, HasLiteral}
use Rattle.ly_join.proofs.ListLemmas.{mapped_in, mapped_more, read_in, zip_push}
use Rattle.ly_join.proofs.RuleLemmas.{undefined_in}
use Rattle.ly_join.proofs.rule.join_body.Goals as goal

pub join_symbol-requires : goal.join_symbol-requires
join_symbol-requires c = All-contains (HasLiteral c.args.table.now.terminals) (map symbol_word c.args.body.now)
    (symbol_word c.name-item.result) c.requires (mapped_in symbol_word c.args.body.now c.name-item.result
    (read_in c.args.body.now c.loop-name.name-index c.name-item.result c.loop-name-test.true c.name-item.is))

pub returns-in_err-join_symbol-clause-fault : goal.returns-in_err-join_symbol-clause-fault
returns-in_err-join_symbol-clause-fault c =
    let p = err_from_is_err_and c.from_residual.result c.from_residual.ensures.1 in
    rw (p.1, p.2) (undefined_in (table_from c.args.table.now) (map symbol_word c.args.body.now)
    (symbol_word c.name-item.result) c.in_err-join_symbol.field-0.0 (mapped_in symbol_word c.args.body.now
    c.name-item.result (read_in c.args.body.now c.loop-name.name-index c.name-item.result c.loop-name-test.true
    c.name-item.is)) c.in_err-join_symbol.ensures.fault)

pub loop-name-preserved : goal.loop-name-preserved
loop-name-preserved c =
    let R = IsSymbol (table_from c.args.table.now) in
    let at = c.loop-name.name-index in
    let before = take at (map symbol_word c.args.body.now) in
    let joined = map symbol_of c.loop-name.joined.items in
    let X = c.in_ok-join_symbol.field-0 in
    rw (
      mapped_more symbol_word c.args.body.now at c.name-item.result c.loop-name-test.true c.name-item.is,
      ap (map symbol_of) c.in_ok-push.ensures.items ∙ map_push symbol_of c.loop-name.joined.items X,
    )
    (zip_push R before joined (symbol_word c.name-item.result) (symbol_of X) c.loop-name.invariant
    c.in_ok-join_symbol.ensures.ok)
