use Rattle.std.proofs.Common.{◌≡◌, ◌∙◌, ◌<◌, ◌++◌, ◌∷◌, [], All, ap, arith, get_or, length}
use Rattle.std.proofs.Common.{subst, sym, take}
use Rattle.std.proofs.lemmas.List.{take_more}
use Rattle.std.proofs.lemmas.List.Elements.{All-push}
use Rattle.std.proofs.lemmas.Option.{get_or_from_slice_get, slice_get_within}
use Rattle.ly_emit.proofs.scanner_tables.classes.Goals as goal

pub loop-byte-preserved : goal.loop-byte-preserved
loop-byte-preserved c =
    let classes = c.args.dfa.now.class_of in
    let n = c.loop-byte.byte in
    let there : n < length classes = slice_get_within classes n c.class.result c.class.ensures.class in
    let at : get_or classes n 0 ≡ c.class.result
    = get_or_from_slice_get classes n c.class.result 0 c.class.ensures.class in
    record {
      these = c.in_ok-push.ensures.items ∙ ap (λ xs. xs ++ c.class.result ∷ []) c.loop-byte.invariant.these
          ∙ ap (λ x. take n classes ++ x ∷ []) (sym at) ∙ sym (take_more classes n 0 there);
      bytes = subst (All (λ class. class < 256)) (sym c.in_ok-push.ensures.items)
          (All-push (λ class. class < 256) c.loop-byte.classes.items c.class.result c.loop-byte.invariant.bytes
          (omega (arith, c.class.type_inv)));
    }
