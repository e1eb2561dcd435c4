use Rattle.std.proofs.Common.{◌∙◌, ◌++◌, ap, append-nil, map, refl, sym}
use Rattle.lytab_c.proofs.AnswerLemmas.{held_more}
use Rattle.lytab_c.specs.Parsing.{expected_in}
use Rattle.lytab_c.specs.Private.Answers.{syntax_error_answer}
use Rattle.lytab_c.specs.declared.answer_list.AnswerList.{AnswerList}
use Rattle.lytab_c.proofs.answer_list.AnswerList.push_syntax_error.Goals as goal

pub returns-in_ok-push_terminals-in-Refused : goal.returns-in_ok-push_terminals-in-Refused
returns-in_ok-push_terminals-in-Refused c xs held =
    let old = c.args.self.now in
    let mid : AnswerList = record { texts = old.texts; parts = old.parts; expected = c.push_terminals.new.numbers } in
    let wanted = ap (λ ts. old.expected.items ++ ts)
    (ap (λ ts. map (λ t. t.0) ts) c.deref.ensures.value ∙ sym (ap expected_in c.in-Refused.is)) in
    held_more c.push_report.result xs
    (syntax_error_answer c.args.syntax_error.now) old mid c.push_report.new.self _ held refl
    (sym (append-nil old.parts.items)) (c.in_ok-push_terminals-in-Refused.ensures ∙ wanted)
    c.push_report.ensures.parts c.push_report.ensures.expected c.of_syntax_error-report.ensures
    c.push_report.ensures.texts

pub returns-in-NoRule : goal.returns-in-NoRule
returns-in-NoRule c xs held =
    let old = c.args.self.now in
    let none = ap (λ ts. old.expected.items ++ ts) (sym (ap expected_in c.in-NoRule.is)) in
    held_more c.push_report-in-NoRule.result xs
    (syntax_error_answer c.args.syntax_error.now) old old c.push_report-in-NoRule.new.self _
    held refl (sym (append-nil old.parts.items)) (sym (append-nil old.expected.items) ∙ none)
    c.push_report-in-NoRule.ensures.parts c.push_report-in-NoRule.ensures.expected c.of_syntax_error-report.ensures
    c.push_report-in-NoRule.ensures.texts
