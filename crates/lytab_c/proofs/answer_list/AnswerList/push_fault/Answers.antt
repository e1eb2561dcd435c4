use Rattle.std.proofs.Common.{ap, append-nil, refl, sym}
use Rattle.lytab_c.proofs.AnswerLemmas.{held_more}
use Rattle.lytab_c.specs.Private.Answers.{fault_answer}
use Rattle.lytab_c.specs.declared.report.Report.{Report}
use Rattle.lytab_c.proofs.answer_list.AnswerList.push_fault.Goals as goal

pub returns : goal.returns
returns c xs held =
    let old = c.args.self.now in
    held_more c.push_report.result xs fault_answer old old c.push_report.new.self _ held refl
    (sym (append-nil old.parts.items)) (sym (append-nil old.expected.items)) c.push_report.ensures.parts
    c.push_report.ensures.expected (ap (λ (r : Report). record r { fault = 90 }) c.needing.ensures)
    c.push_report.ensures.texts
