use Rattle.std.proofs.Common.{subst, arith, ap, length, length-append, length-drop, ◌∷◌, drop}
use Rattle.ly_base.specs.Language.{NameBefore}
use Rattle.ly_base.specs.declared.language.Language.TheVariants.{Lex}
use Rattle.ly_ere.proofs.BracedLemmas.{name_next, no_close_name}
use Rattle.ly_ere.proofs.braced.closed_name.Goals as goal

pub returns-in-Some-clause-element : goal.returns-in-Some-clause-element
returns-in-Some-clause-element c =
    let text = c.args.text.now in
    let named = subst (λ b. NameBefore Lex (drop 1 text) c.args.name.now b) c.in-Some.ensures c.requires.name in
    name_next text c.requires.some c.requires.opening c.args.name c.in-Some._rest.now _ named
    (omega (
      arith,
      length-drop 1 text,
      c.requires.some,
      ap length named.2,
      length-append c.args.name.now (125 ∷ c.in-Some._rest.now),
    ))

pub returns-in-None-clause-element : goal.returns-in-None-clause-element
returns-in-None-clause-element c
    = no_close_name c.args.text.now c.requires.some c.requires.opening c.args.name.now c.args.behind.now
    c.requires.name c.in-None.ensures
