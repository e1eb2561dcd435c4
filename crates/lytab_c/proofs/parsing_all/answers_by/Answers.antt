use Rattle.std.proofs.Common.{◌-◌, arith, drop, get_or, subst, take}
use Rattle.lytab_c.proofs.AnswerLemmas.{all_answered, none_answered, one_answered}
use Rattle.lytab_c.specs.Private.Answers.{IsAnswerBy}
use Rattle.lytab_c.proofs.parsing_all.answers_by.Goals as goal

pub loop-end-init : goal.loop-end-init
loop-end-init c = none_answered c.args.set.now c.args.texts.now c.args.ends.now c.new-answers.result c.requires
    c.new-answers.ensures

pub loop-end-preserved : goal.loop-end-preserved
loop-end-preserved c =
    let texts = c.args.texts.now in
    let ends = c.args.ends.now in
    let start = c.loop-end.start in
    let i = c.loop-end.end-index in
    let so_far = c.loop-end.invariant in
    let told = c.in_ok-answer_next.ensures so_far.xs so_far.held in
    one_answered c.args.set.now texts ends start i 0 c.loop-end.answers c.answer_next.new.answers
    (omega (arith, c.loop-end-test.true)) so_far (
      told.0,
      subst (λ s. IsAnswerBy s (take (get_or ends i 0 - start) (drop start texts)) told.0) c.in_ok-parser.ensures
          told.1,
      told.2,
    )

pub returns : goal.returns
returns c =
    all_answered c.args.set.now c.args.texts.now c.args.ends.now c.loop-end.start c.loop-end.end-index
    c.loop-end.answers c.loop-end-test.false c.loop-end.invariant
