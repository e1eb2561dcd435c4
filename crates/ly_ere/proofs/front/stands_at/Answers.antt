use Rattle.std.proofs.Common.{◌∙◌, sym, ap, nat_eq}
use Rattle.ly_ere.proofs.FrontLemmas.{at_is, at_none}
use Rattle.ly_ere.proofs.front.stands_at.Goals as goal

pub returns-in-Some : goal.returns-in-Some
returns-in-Some c = sym (at_is c.args.text.now c.args.at c.args.byte c.in-Some.ensures.lookup.3.0
    ∙ ap (λ x. nat_eq x c.args.byte) (sym (c.in-Some.ensures.lookup.3.1 0)))

pub returns-in-None : goal.returns-in-None
returns-in-None c = sym (at_none c.args.text.now c.args.at c.args.byte c.in-None.ensures.lookup.3)
