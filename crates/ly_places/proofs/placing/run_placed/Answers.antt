use Rattle.std.proofs.Common.{◌≡◌, subst, sym}
use Rattle.std.specs.Prelude.{IfSome}
use Rattle.ly_places.proofs.placing.run_placed.Goals as goal

pub returns-clause-beginning : goal.returns-clause-beginning
returns-clause-beginning g c written is =
    let begun = c.place_text.ensures.beginning written is in (
      c.deref.result.now,
      begun.0,
      begun.1,
      subst (λ text. IfSome (g.R.Source.remaining c.args.reader.now) (λ bytes. text ≡ bytes))
          (sym c.deref.ensures.value) c.in-Ok.ensures.bytes,
      begun.2,
      begun.3.within,
      begun.3.went_out,
    )
