use Rattle.std.proofs.Common.{◌∙◌, rules, subst}
use Rattle.ly_explain.specs.Findings.{IsInForm}
use Rattle.ly_generate.proofs.GenFaultLemmas.{ok_weaker}
use Rattle.lytab.specs.Devices.{WroteAllOrPrefix}
use Rattle.lytab.proofs.CarriedLemmas.{is_told}
use Rattle.lytab.proofs.explaining.explain_files.Goals as goal

pub returns-clause-said : goal.returns-clause-said
returns-clause-said g c =
    let explanation = c.in_ok-explanation.explanation in
    let before = g.W.Sink.contents c.args.output.now in
    let after = g.W.Sink.contents c.said.new.output in
    let is_said : WroteAllOrPrefix c.said.result before after explanation.text.items = search rules in
    is_told c.said.result before after (record {
      lex = c.deref.result.now;
      lex_read = rw c.deref.ensures.value c.in_ok-lex.ensures.read;
      yacc = c.deref-2.result.now;
      yacc_read = rw c.deref-2.ensures.value c.in_ok-yacc.ensures.read;
      explanation = explanation;
      explained = c.in_ok-explanation.ensures.explained;
      in_form = subst (λ form. IsInForm form explanation.findings explanation.text.items) c.form_of.ensures
          c.in_ok-explanation.ensures.form;
      written = c.in_ok-write_files.ensures.written;
      text = is_said;
      completed = ok_weaker c.said.result _ _ (λ done same. same ∙ c.of_findings.ensures) c.said.ensures.completed;
    })
