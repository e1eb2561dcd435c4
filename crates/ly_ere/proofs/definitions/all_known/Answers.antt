use Rattle.std.proofs.Common.{◌++◌, ◌∷◌, [], ap, get_or, ◌∙◌}
use Rattle.ly_ere.specs.Definitions.{named_text, named_texts}
use Rattle.ly_ere.proofs.DefinitionLemmas.{known_more, name_is_new, no_entry, text_at, texts_front}
use Rattle.ly_ere.proofs.definitions.all_known.Goals as goal

pub with_weighed-requires-clause-new : goal.with_weighed-requires-clause-new
with_weighed-requires-clause-new c =
    let list = c.args.list.now in
    let i = c.loop-definition.definition-index in
    rw (c.loop-definition.invariant.so_far, texts_front list i) (name_is_new (named_texts list) c.requires.distinct i
    (named_text (get_or list i no_entry)) (text_at list i no_entry c.loop-definition-test.true))

pub loop-definition-preserved : goal.loop-definition-preserved
loop-definition-preserved c =
    let list = c.args.list.now in
    let i = c.loop-definition.definition-index in
    let name = (named_text (get_or list i no_entry)).name in
    record {
      so_far = c.in_ok-known.ensures
          ∙ (ap (λ e. c.loop-definition.known ++ (name, e) ∷ []) c.in_ok-byte.ensures
          ∙ known_more c.loop-definition.known list i no_entry c.loop-definition-test.true
          c.loop-definition.invariant.so_far);
    }
