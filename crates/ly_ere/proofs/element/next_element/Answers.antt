use Rattle.std.proofs.Common.{get_or, arith, refl}
use Rattle.std.proofs.lemmas.Bool.Decides.{nat_tests}
use Rattle.ly_ere.specs.Elements.{opening, closing, bar, asterisk, plus_sign, question_mark, caret, dollar_sign, slash}
use Rattle.ly_ere.proofs.NextElementLemmas.{dot_next, plain_next, sign_next}
use Rattle.ly_ere.proofs.element.next_element.Goals as goal

pub returns-in-40-clause-element : goal.returns-in-40-clause-element
returns-in-40-clause-element c = sign_next c.args.text.now c.requires 40 _ opening c.in-40.is refl tt refl

pub returns-in-41-clause-element : goal.returns-in-41-clause-element
returns-in-41-clause-element c = sign_next c.args.text.now c.requires 41 _ closing c.in-41.is refl tt refl

pub returns-in-124-clause-element : goal.returns-in-124-clause-element
returns-in-124-clause-element c = sign_next c.args.text.now c.requires 124 _ bar c.in-124.is refl tt refl

pub returns-in-42-clause-element : goal.returns-in-42-clause-element
returns-in-42-clause-element c = sign_next c.args.text.now c.requires 42 _ asterisk c.in-42.is refl tt refl

pub returns-in-43-clause-element : goal.returns-in-43-clause-element
returns-in-43-clause-element c = sign_next c.args.text.now c.requires 43 _ plus_sign c.in-43.is refl tt refl

pub returns-in-63-clause-element : goal.returns-in-63-clause-element
returns-in-63-clause-element c = sign_next c.args.text.now c.requires 63 _ question_mark c.in-63.is refl tt refl

pub returns-in-94-clause-element : goal.returns-in-94-clause-element
returns-in-94-clause-element c = sign_next c.args.text.now c.requires 94 _ caret c.in-94.is refl tt refl

pub returns-in-36-clause-element : goal.returns-in-36-clause-element
returns-in-36-clause-element c = sign_next c.args.text.now c.requires 36 _ dollar_sign c.in-36.is refl tt refl

pub returns-in-47-clause-element : goal.returns-in-47-clause-element
returns-in-47-clause-element c = sign_next c.args.text.now c.requires 47 _ slash c.in-47.is refl tt refl

pub returns-in-46-clause-element : goal.returns-in-46-clause-element
returns-in-46-clause-element c
    = dot_next c.args.text.now c.requires c.all_but_newline.result c.in-46.is c.all_but_newline.ensures

pub returns-in_default-clause-element : goal.returns-in_default-clause-element
returns-in_default-clause-element c
    = plain_next c.args.text.now c.requires (get_or c.args.text.now 0 0) c.of.result refl c.of.ensures
    (grind (arith, nat_tests))
