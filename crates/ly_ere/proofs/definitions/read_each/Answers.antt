use Rattle.std.proofs.Common.{refl, subst, sym}
use Rattle.ly_ere.specs.Private.Definitions.{AreRead}
use Rattle.ly_ere.proofs.DefinitionLemmas.{no_entry, texts_more}
use Rattle.ly_ere.proofs.definitions.read_each.Goals as goal

pub loop-definition-preserved : goal.loop-definition-preserved
loop-definition-preserved c =
    let list = c.args.list.now in
    let i = c.loop-definition.definition-index in
    record {
      so_far = subst (λ texts. AreRead c.args.known.now texts c.read_one.new.self)
          (sym (texts_more list i no_entry c.loop-definition-test.true))
          (c.in_ok-read_one.ensures _ _ c.loop-definition.invariant.so_far refl);
    }
