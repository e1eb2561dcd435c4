use Rattle.std.proofs.Common.{append-nil, refl, sym}
use Rattle.lytab_c.proofs.AnswerLemmas.{held_more}
use Rattle.lytab_c.specs.Private.Answers.{tree_answer}
use Rattle.lytab_c.specs.declared.answer_list.AnswerList.{AnswerList}
use Rattle.lytab_c.proofs.answer_list.AnswerList.push_tree.Goals as goal

pub returns : goal.returns
returns c xs held =
    let old = c.args.self.now in
    let mid : AnswerList = record { texts = old.texts; parts = c.push_parts.new.parts; expected = old.expected } in
    held_more c.push_report.result xs (tree_answer c.args.list.now) old mid c.push_report.new.self _ held refl
    c.in_ok-push_parts.ensures (sym (append-nil old.expected.items)) c.push_report.ensures.parts
    c.push_report.ensures.expected c.needing.ensures c.push_report.ensures.texts
