use Rattle.std.proofs.Common.{subst}
use Rattle.ly_join.specs.Grammar.{nonterminal, symbol_of}
use Rattle.ly_lr0.specs.Private.Items.{IsBehind}
use Rattle.ly_lr0.proofs.ClosingLemmas.{added_none, added_one, end_off}
use Rattle.ly_lr0.proofs.closing.enter.Goals as goal

pub returns-in-Nonterminal : goal.returns-in-Nonterminal
returns-in-Nonterminal c =
    let G = c.args.reduced.now.grammar in
    let i = c.args.item in
    added_one G i c.args.entered.now c.insert.new.self c.in-Nonterminal.symbol.0 c.insert.result
    (subst (λ X. IsBehind G i.rule i.dot (symbol_of X)) c.in-Nonterminal.is c.in-Some.ensures.behind.behind)
    c.insert.ensures.added c.insert.ensures.new c.insert.ensures.room

pub returns-in_default : goal.returns-in_default
returns-in_default c =
    let G = c.args.reduced.now.grammar in
    added_none G c.args.item c.args.entered.now
    (λ A b. end_off G c.args.item (nonterminal A) c.in_default.ensures.behind b)
