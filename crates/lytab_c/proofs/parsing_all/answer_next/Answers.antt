use Rattle.std.proofs.Common.{arith, inl, inr, length, refl, subst, sym}
use Rattle.lytab_c.proofs.AnswerLemmas.{found_syntax_error, found_parts, with_answer}
use Rattle.lytab_c.proofs.FitLemmas.{syntax_error_fits}
use Rattle.lytab_c.proofs.PartLemmas.{parts_end}
use Rattle.lytab_c.specs.Private.Answers.{syntax_error_answer}
use Rattle.lytab_c.specs.Private.Putting.{EndWithin}
use Rattle.ly_places.specs.declared.part.Part.{Part}
use Rattle.std.proofs.Common.{◌∙◌, List}
use Rattle.lytab_c.proofs.parsing_all.answer_next.Goals as goal

pub push_tree-requires : goal.push_tree-requires
push_tree-requires c =
    let told = found_parts c.args.parser.now c.args.text.now c.in-Ok-Tree.field-0 c.in-Ok-Tree.parts
    c.in-Ok-Tree.field-0-is c.in-Ok-Tree.ensures.parsed in
    subst (λ (ps : List Part). EndWithin (length ps) 0 ps) (sym (c.deref.ensures.value ∙ told.1)) (parts_end told.0)

pub push_syntax_error-requires : goal.push_syntax_error-requires
push_syntax_error-requires c =
    syntax_error_fits c.args.parser.now c.args.text.now c.in-Ok-Refused.syntax_error (omega arith)
    (found_syntax_error c.args.parser.now c.args.text.now c.in-Ok-Refused.field-0 c.in-Ok-Refused.syntax_error
    c.in-Ok-Refused.field-0-is c.in-Ok-Refused.ensures.parsed)

pub returns-in-Ok-Refused : goal.returns-in-Ok-Refused
returns-in-Ok-Refused c xs held =
    let syntax_error = c.in-Ok-Refused.syntax_error in
    let is = found_syntax_error c.args.parser.now c.args.text.now c.in-Ok-Refused.field-0 syntax_error
    c.in-Ok-Refused.field-0-is
    c.in-Ok-Refused.ensures.parsed in
    with_answer c.push_syntax_error.result c.args.parser.now c.args.text.now xs
    (syntax_error_answer syntax_error) c.push_syntax_error.new.self
    (inr (inl (syntax_error, is, refl))) (c.push_syntax_error.ensures xs held)
