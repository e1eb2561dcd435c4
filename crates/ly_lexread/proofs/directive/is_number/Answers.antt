use Rattle.ly_lexread.proofs.BlankLemmas.{no_number, number_in}
use Rattle.ly_lexread.proofs.directive.is_number.Goals as goal

pub returns-in_default : goal.returns-in_default
returns-in_default c = λ h. c.in_default.ensures.these h.0 h.3

pub returns-in-Some-leading_digits : goal.returns-in-Some-leading_digits
returns-in-Some-leading_digits c = number_in c.args.text.now c.in-Some.number.now c.in-Some-leading_digits._digits.now
    c.in-Some-leading_digits.rest.now c.are_blanks.result c.in-Some.ensures.these c.in-Some-leading_digits.ensures
    c.are_blanks.ensures

pub returns-in-None : goal.returns-in-None
returns-in-None c = no_number c.args.text.now c.in-Some.number.now c.in-Some.ensures.these c.in-None.ensures
