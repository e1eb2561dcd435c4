use Rattle.std.proofs.Common.{◌≡◌, ◌∙◌, ◌+◌, ◌++◌, ◌∷◌, [], ap, append_assoc, arith, get_or, length, sym, take}
use Rattle.std.proofs.lemmas.List.{length-take-le, take_more}
use Rattle.lytab_c.proofs.PartLemmas.{ends_within, listed_more}
use Rattle.lytab_c.specs.Parsing.{listed}
use Rattle.ly_places.specs.declared.part.Part as tree
use Rattle.ly_places.specs.declared.part.PartKind.TheVariants.{Nothing}
use Rattle.lytab_c.proofs.answer_list.push_parts.Goals as goal

abbrev none : tree.Part
none = record { kind = Nothing; extent = record { start = 0; end = 0 }; parts = 0 }

pub at-requires : goal.at-requires
at-requires c = omega (
  arith,
  ends_within (length c.args.list.now) 0 c.loop-index.index c.args.list.now none c.requires c.loop-index-test.true,
)

pub loop-index-preserved : goal.loop-index-preserved
loop-index-preserved c =
    let i = c.loop-index.index in
    let list = c.args.list.now in
    let front = listed 0 (take i list) in
    let size : i ≡ 0 + length (take i list)
    = omega (arith, length-take-le i list (omega (arith, c.loop-index-test.true))) in
    c.in_ok-push.ensures.items
    ∙ (ap (λ xs. xs ++ c.at.result ∷ []) c.loop-index.invariant
    ∙ (append_assoc c.args.parts.now.items front (c.at.result ∷ [])
    ∙ ap (λ rest. c.args.parts.now.items ++ rest) (ap (λ p. front ++ p ∷ []) c.at.ensures
    ∙ sym (ap (listed 0) (take_more list i none c.loop-index-test.true)
    ∙ listed_more 0 i (take i list) (get_or list i none) size))))
