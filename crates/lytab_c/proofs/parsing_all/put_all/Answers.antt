use Rattle.std.proofs.Common.{◌∙◌, ap, arith, inl, length, refl}
use Rattle.lytab_c.proofs.AnswerLemmas.{length_reports, total_told}
use Rattle.lytab_c.proofs.parsing_all.put_all.Goals as goal

pub returns-then-told-len : goal.returns-then-told-len
returns-then-told-len c xs held =
    let list = c.args.answers.now in (
      inl (omega (
        arith,
        c.if-told-len.true,
        c.len-3.ensures,
        list.texts.ok.0,
        ap length held.texts,
        length_reports 0 0 xs,
      )),
      total_told xs list c.needing.result c.len-2.result c.len.result held c.needing.ensures
          (c.len-2.ensures ∙ list.parts.ok.0) (c.len.ensures ∙ list.expected.ok.0),
      refl,
    )
