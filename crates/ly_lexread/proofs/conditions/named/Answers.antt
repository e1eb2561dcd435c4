use Rattle.std.proofs.Common.{◌∙◌, ap, ap₂, arith, map, refl, sym}
use Rattle.std.specs.Prelude.{zip}
use Rattle.std.specs.Option.{option_copied}
use Rattle.std.proofs.lemmas.List.{take_all}
use Rattle.ly_lexread.specs.LexText.{declared_at}
use Rattle.ly_lexread.proofs.ConditionLemmas.{names_step}
use Rattle.ly_lexread.proofs.conditions.named.Goals as goal

pub loop-place-preserved : goal.loop-place-preserved
loop-place-preserved c = names_step c.args.names.now.keys c.args.lefts.now (declared_at c.args.whole) c.loop-place.place
    c.unwrap-name.result.now _ c.loop-place.all.items c.push.new.self.items _ c.requires c.loop-place-test.true
    (sym c.get_index.ensures.key ∙ ap option_copied c.unwrap-name.ensures) refl c.in_ok-push.ensures.items
    (ap₂ (λ n o. (n, o)) (c.in_ok-from_slice.ensures.items ∙ c.deref.ensures.value) c.declared_at.ensures)
    c.loop-place.invariant

pub returns : goal.returns
returns c =
    let ks = c.args.names.now.keys in
    let ls = c.args.lefts.now in
    c.loop-place.invariant
    ∙ ap₂ (λ xs ys. zip (map (λ k. k.items) xs) (map (declared_at c.args.whole) ys))
    (take_all c.loop-place.place ks (omega (arith, c.requires, c.loop-place-test.false)))
    (take_all c.loop-place.place ls c.loop-place-test.false)
