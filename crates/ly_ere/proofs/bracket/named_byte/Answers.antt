use Rattle.std.proofs.Common.{◌∙◌, arith, refl, sym}
use Rattle.ly_ere.proofs.FrontLemmas.{stands}
use Rattle.ly_ere.proofs.bracket.named_byte.Goals as goal

pub bounds-text-2 : goal.bounds-text-2
bounds-text-2 c = let k = stands c.args.text.now 3 c.args.mark (sym c.stands_at-2.ensures ∙ c.if-stands_at-2.true)
    in omega (arith, k.0)

pub returns-then-stands_at-3-clause-length : goal.returns-then-stands_at-3-clause-length
returns-then-stands_at-3-clause-length c = let k = stands c.args.text.now 4 93 (sym c.stands_at-then-stands_at-2.ensures
    ∙ c.if-stands_at-3.true) in (refl, omega (arith, k.0))
