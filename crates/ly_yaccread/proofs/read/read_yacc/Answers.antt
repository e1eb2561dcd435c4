use Rattle.std.proofs.Common.{List, length, subst, sym}
use Rattle.ly_yaccread.specs.Private.Read.{Says}
use Rattle.ly_yaccread.specs.Private.Refusals.{IsFaultOf}
use Rattle.ly_yaccread.specs.Private.Words.{offsets_of, words_of}
use Rattle.ly_yaccread.specs.declared.words.FileWord.{FileWord}
use Rattle.ly_yaccread.proofs.RefusalLemmas.{fault_within, still_refused}
use Rattle.ly_yaccread.proofs.TextLemmas.{declaring, text_says}
use Rattle.ly_yaccread.proofs.read.read_yacc.Goals as goal

pub returns-clause-refused : goal.returns-clause-refused
returns-clause-refused c =
    let bytes = c.args.bytes.now in
    let read = c.in_ok-words.words.items in
    λ h w t. c.in-Err.ensures
    (still_refused c.in-Err.refusal (length bytes) _ c.fault.result c.fault.ensures h) (declaring t) w.rules t.standings
    (subst (λ (ws : List FileWord). Says (words_of ws) (declaring t) w.rules t.standings) (sym c.deref.ensures.value)
    (text_says bytes (words_of read) (offsets_of read) c.in_ok-words.ensures w t))

pub returns-clause-within : goal.returns-clause-within
returns-clause-within c =
    let read = c.in_ok-words.words.items in
    fault_within c.args.bytes.now (words_of read) (offsets_of read) c.in_ok-words.ensures c.in-Err.refusal
    c.fault.result
    (subst (λ (ws : List FileWord). IsFaultOf c.in-Err.refusal (length c.args.bytes.now) (offsets_of ws) c.fault.result)
    c.deref-in-Err.ensures.value c.fault.ensures)
