use Rattle.std.proofs.Common.{◌≡◌, ◌∙◌, ◌-◌, ◌++◌, ◌∷◌, [], length, set, ap, ap₂, arith, min, refl, slice_index_or}
use Rattle.std.proofs.lemmas.List.{length_push, get_or_push}
use Rattle.ly_digraph.specs.declared.walk.Frame.{Frame}
use Rattle.ly_digraph.proofs.StepLemmas.{set_last, lowered_is}
use Rattle.ly_digraph.proofs.walk.Walk.lower.Goals as goal

pub returns : goal.returns
returns c = record {
  path = λ fs f e.
      let at : c.len-last.result - 1 ≡ length fs = (let n = ap length e ∙ length_push fs f
      in omega (arith, n, c.len-last.ensures, c.args.self.now.path.ok.0)) in
      let frame : c.index_mut-frame.result.now ≡ f =
      c.index_mut-frame.ensures.value ∙ ap₂ (λ xs i. slice_index_or xs i c.index_mut-frame.result.now) e at
      ∙ get_or_push fs f c.index_mut-frame.result.now (length fs) refl in
      let low : c.min-frame.result ≡ min f.low c.args.position = c.min-frame.ensures
      ∙ ap (λ h. min h.low c.args.position) frame in
      let new : Frame = record {
        node = c.index_mut-frame.result.now.node;
        start = c.index_mut-frame.result.now.start;
        low = c.min-frame.result;
      } in
      ap (λ xs. set xs (c.len-last.result - 1) new) e ∙ set_last fs f new (c.len-last.result - 1) at
      ∙ ap (λ h. fs ++ h ∷ []) (lowered_is f c.index_mut-frame.result.now c.min-frame.result
      (min f.low c.args.position) frame low);
  others = refl;
}
