use Rattle.std.proofs.Common.{refl}
use Rattle.lytab.proofs.CarriedLemmas.{begun_at_most, carried_lines, carried_run}
use Rattle.lytab.proofs.CarriedLemmas.{carried_run_placed, carried_table_tokens, carried_try, carried_try_placed}
use Rattle.lytab.proofs.CarriedLemmas.{carried_tokens, lines_told}
use Rattle.lytab.proofs.perform.carry_out.Goals as goal

pub returns-in_ok-bytes-in-Tokens-clause-carried_out : goal.returns-in_ok-bytes-in-Tokens-clause-carried_out
returns-in_ok-bytes-in-Tokens-clause-carried_out g c =
    let r = c.answer_text-ended.ensures in
    rw c.in-Tokens.is (carried_tokens
    (λ s. s.now) c.in-Tokens.lex.now c.deref.result.now c.in-Tokens.text c.in-Tokens.by c.answer_text-ended.result _
    (rw c.deref.ensures.value c.in_ok-bytes-in-Tokens.ensures.read) r.answered r.refused
    (begun_at_most g.W.Sink.contents c.answer_text-ended.result _ _ _ r.beginning (r.untouched tt)) r.unread
    (λ no. (r.needed no).unread) (λ no. (r.needed no).needed))

pub returns-in_ok-bytes-in-TableTokens-clause-carried_out
    : goal.returns-in_ok-bytes-in-TableTokens-clause-carried_out
returns-in_ok-bytes-in-TableTokens-clause-carried_out g c =
    let r = c.answer_text-ended-in-TableTokens.ensures in
    rw c.in-TableTokens.is (carried_table_tokens
    (λ s. s.now) c.in-TableTokens.tables.now c.deref-in-TableTokens.result.now c.in-TableTokens.text
    c.in-TableTokens.by c.answer_text-ended-in-TableTokens.result _
    (rw c.deref-in-TableTokens.ensures.value c.in_ok-bytes-in-TableTokens.ensures.read) r.answered r.refused
    (begun_at_most g.W.Sink.contents c.answer_text-ended-in-TableTokens.result _ _ _ r.beginning (r.untouched tt))
    r.unread (λ no. (r.needed no).unread) (λ no. (r.needed no).needed))

pub returns-in_ok-bytes-in-Run-clause-carried_out : goal.returns-in_ok-bytes-in-Run-clause-carried_out
returns-in_ok-bytes-in-Run-clause-carried_out g c =
    let r = c.answer_text-ended-in-Run.ensures in
    rw c.in-Run.is (carried_run
    (λ s. s.now) c.in-Run.tables.now c.deref-in-Run.result.now c.in-Run.text c.in-Run.by
    c.answer_text-ended-in-Run.result _
    (rw c.deref-in-Run.ensures.value c.in_ok-bytes-in-Run.ensures.read) r.answered r.refused
    (begun_at_most g.W.Sink.contents c.answer_text-ended-in-Run.result _ _ _ r.beginning (r.untouched tt)) r.unread
    (λ no. (r.needed no).unread) (λ no. (r.needed no).needed))

pub returns-in_ok-bytes-in-Lines-clause-carried_out : goal.returns-in_ok-bytes-in-Lines-clause-carried_out
returns-in_ok-bytes-in-Lines-clause-carried_out g c =
    let r = c.answer_text-ended-in-Lines.ensures in
    rw c.in-Lines.is (carried_lines
    (λ s. s.now) c.in-Lines.tables.now c.deref-in-Lines.result.now c.in-Lines.text c.in-Lines.by
    c.answer_text-ended-in-Lines.result _
    (rw c.deref-in-Lines.ensures.value c.in_ok-bytes-in-Lines.ensures.read) r.answered r.stopped
    r.unread (λ no. (r.needed no).unread) r.read)

pub returns-in_ok-bytes-in-Lines-clause-devices : goal.returns-in_ok-bytes-in-Lines-clause-devices
returns-in_ok-bytes-in-Lines-clause-devices g c =
    let r = c.answer_text-ended-in-Lines.ensures in
    rw c.in-Lines.is (lines_told c.answer_text-ended-in-Lines.result _ _ r.written r.kept)

pub returns-in_ok-bytes-in-RunPlaced-clause-carried_out : goal.returns-in_ok-bytes-in-RunPlaced-clause-carried_out
returns-in_ok-bytes-in-RunPlaced-clause-carried_out g c =
    let r = c.answer_text-ended-in-RunPlaced.ensures in
    rw c.in-RunPlaced.is (carried_run_placed
    (λ s. s.now) c.in-RunPlaced.tables.now c.deref-in-RunPlaced.result.now c.in-RunPlaced.text c.in-RunPlaced.points
    c.answer_text-ended-in-RunPlaced.result _
    (rw c.deref-in-RunPlaced.ensures.value c.in_ok-bytes-in-RunPlaced.ensures.read) r.answered r.refused
    (begun_at_most g.W.Sink.contents c.answer_text-ended-in-RunPlaced.result _ _ _ r.beginning (r.untouched tt))
    r.unread (λ no. (r.needed no).unread) (λ no. (r.needed no).needed))

pub returns-in_ok-yacc_bytes-in-TryPlaced-clause-carried_out
    : goal.returns-in_ok-yacc_bytes-in-TryPlaced-clause-carried_out
returns-in_ok-yacc_bytes-in-TryPlaced-clause-carried_out g c =
    let r = c.answer_text-ended-in-TryPlaced.ensures in
    rw c.in-TryPlaced.is (carried_try_placed
    (λ s. s.now) c.in-TryPlaced.lex.now c.in-TryPlaced.yacc.now c.deref-in-TryPlaced.result.now
    c.deref-in-TryPlaced-2.result.now c.in-TryPlaced.text c.in-TryPlaced.points
    c.answer_text-ended-in-TryPlaced.result _
    (rw c.deref-in-TryPlaced.ensures.value c.in_ok-lex_bytes-in-TryPlaced.ensures.read)
    (rw c.deref-in-TryPlaced-2.ensures.value c.in_ok-yacc_bytes-in-TryPlaced.ensures.read) r.answered
    r.refused
    (begun_at_most g.W.Sink.contents c.answer_text-ended-in-TryPlaced.result _ _ _ r.beginning (r.untouched tt))
    r.unread (λ no. (r.needed no).unread) (λ no. (r.needed no).needed))

pub returns-in_ok-yacc_bytes-in-Try-clause-carried_out : goal.returns-in_ok-yacc_bytes-in-Try-clause-carried_out
returns-in_ok-yacc_bytes-in-Try-clause-carried_out g c =
    let r = c.answer_text-ended-in-Try.ensures in
    rw c.in-Try.is (carried_try
    (λ s. s.now) c.in-Try.lex.now c.in-Try.yacc.now c.deref-in-Try.result.now c.deref-in-Try-2.result.now
    c.in-Try.text c.in-Try.by
    c.answer_text-ended-in-Try.result _ (rw c.deref-in-Try.ensures.value c.in_ok-lex_bytes-in-Try.ensures.read)
    (rw c.deref-in-Try-2.ensures.value c.in_ok-yacc_bytes-in-Try.ensures.read)
    r.answered r.refused
    (begun_at_most g.W.Sink.contents c.answer_text-ended-in-Try.result _ _ _ r.beginning (r.untouched tt)) r.unread
    (λ no. (r.needed no).unread) (λ no. (r.needed no).needed))

pub returns-in-Build-clause-carried_out : goal.returns-in-Build-clause-carried_out
returns-in-Build-clause-carried_out g c =
    rw c.in-Build.is (c.build_tables.ensures.built, c.build_tables.ensures.refused, refl)

pub returns-in-Build-clause-files : goal.returns-in-Build-clause-files
returns-in-Build-clause-files g c = rw c.in-Build.is (c.build_tables.ensures.others, c.build_tables.ensures.kept)

pub returns-in-Explain-clause-carried_out : goal.returns-in-Explain-clause-carried_out
returns-in-Explain-clause-carried_out g c =
    rw c.in-Explain.is (c.explain_files.ensures.said, c.explain_files.ensures.failed, refl)
