use Rattle.std.proofs.Common.{◌∙◌, ◌++◌, ◌∷◌, [], ap, ap₂, map, sym}
use Rattle.std.proofs.lemmas.List.{map_push}
use Rattle.ly_join.proofs.ListLemmas.{mapped_all, mapped_next}
use Rattle.ly_join.proofs.nonterminals.Nonterminals.into_names.Goals as goal

pub loop-name-preserved : goal.loop-name-preserved
loop-name-preserved c = ap (map (λ n. n.items)) c.in_ok-push.ensures.items
    ∙ (map_push (λ n. n.items) c.loop-name.names.items c.in_ok-from_slice.field-0
    ∙ (ap₂ (λ ns n. ns ++ n ∷ []) c.loop-name.invariant c.in_ok-from_slice.ensures.items
    ∙ sym (mapped_next (λ k. k.now) c.as_slice-keys.result.now c.loop-name.name-index
    (record { ref_ptr = (0, 0); now = [] }) c.loop-name-test.true)))

pub returns : goal.returns
returns c = c.loop-name.invariant
    ∙ (mapped_all (λ k. k.now) c.as_slice-keys.result.now c.loop-name.name-index c.loop-name-test.false
    ∙ (ap (map (λ k. k.now)) c.as_slice-keys.ensures.keys ∙ c.self.view_is))
