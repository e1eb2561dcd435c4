use Rattle.std.proofs.Common.{◌∷◌, subst}
use Rattle.ly_ere.specs.Elements.{Times, at_least, between, exactly}
use Rattle.ly_ere.proofs.BracedLemmas.{no_first, no_mark, no_upper}
use Rattle.ly_ere.proofs.braced.bounds.Goals as goal

pub returns-in_default-clause-bounds : goal.returns-in_default-clause-bounds
returns-in_default-clause-bounds c = no_first c.args.text.now c.in_default.ensures

pub returns-in-Some-behind_byte-clause-bounds : goal.returns-in-Some-behind_byte-clause-bounds
returns-in-Some-behind_byte-clause-bounds c
    = exactly c.args.text.now c.in-Some-behind_byte.rest.now c.in-Some.least
    (subst (Times c.args.text.now c.in-Some.least) c.in-Some-behind_byte.ensures c.in-Some.ensures)

pub returns-in_default-behind_byte-2-clause-bounds : goal.returns-in_default-behind_byte-2-clause-bounds
returns-in_default-behind_byte-2-clause-bounds c
    = no_mark c.args.text.now c.in-Some.least c.in-Some.behind.now c.in-Some.ensures c.in_default-behind_byte.ensures
    c.in_default-behind_byte-2.ensures

pub returns-in-Some-behind_byte-3-clause-bounds : goal.returns-in-Some-behind_byte-3-clause-bounds
returns-in-Some-behind_byte-3-clause-bounds c
    = at_least c.args.text.now c.in-Some-behind_byte-3.rest.now c.in-Some.least
    (subst (λ b. Times c.args.text.now c.in-Some.least (44 ∷ b)) c.in-Some-behind_byte-3.ensures
    (subst (Times c.args.text.now c.in-Some.least) c.in-Some-behind_byte-2.ensures c.in-Some.ensures))

pub returns-in_default-upper_bound-clause-bounds : goal.returns-in_default-upper_bound-clause-bounds
returns-in_default-upper_bound-clause-bounds c
    = no_upper c.args.text.now c.in-Some.least c.in-Some.behind.now c.in-Some.ensures
    c.in-Some-behind_byte-2.behind.now c.in-Some-behind_byte-2.ensures c.in_default-behind_byte-3.ensures
    c.in_default-upper_bound.ensures

pub returns-clause-bounds : goal.returns-clause-bounds
returns-clause-bounds c
    = between c.args.text.now c.in-Some-behind_byte-2.behind.now c.in-Some-upper_bound.rest.now c.in-Some.least
    c.in-Some-upper_bound.most
    (subst (Times c.args.text.now c.in-Some.least) c.in-Some-behind_byte-2.ensures c.in-Some.ensures)
    c.in-Some-upper_bound.ensures.0 c.in-Some-upper_bound.ensures.1
