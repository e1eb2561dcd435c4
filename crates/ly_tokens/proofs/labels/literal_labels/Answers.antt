use Rattle.std.proofs.Common.{◌∙◌, [], ◌∷◌, ap, arith, length, length-append}
use Rattle.std.specs.Prelude.{slice_get}
use Rattle.ly_listing.specs.Labels.{label_for}
use Rattle.ly_print.specs.Text.{literal, name_of}
use Rattle.ly_tokens.proofs.LabelLemmas.{listed_more}
use Rattle.ly_tokens.proofs.labels.literal_labels.Goals as goal

pub loop-byte-preserved : goal.loop-byte-preserved
loop-byte-preserved c = record {
  count = omega (
    arith,
    ap length c.in_ok-push.ensures.items,
    length-append c.loop-byte.labels.items (c.in_ok-label_for.field-0 ∷ []),
    c.loop-byte.invariant.count,
  );
  same = λ b less. ap (λ labels. slice_get labels b) (c.in_ok-push.ensures.items)
      ∙ listed_more (λ k. label_for c.args.form (name_of (literal k))) c.loop-byte.labels.items c.loop-byte.byte _
      c.loop-byte.invariant.count c.loop-byte.invariant.same c.in_ok-label_for.ensures b less;
}
