use Rattle.std.proofs.Common.{◌++◌, ◌∷◌, [], subst, sym}
use Rattle.ly_base.specs.Keys.{IsAbsent}
use Rattle.ly_minim.specs.Private.Blocks.{IsNamed}
use Rattle.ly_minim.proofs.BlockLemmas.{named_new}
use Rattle.ly_minim.proofs.blocks.number.Goals as goal

pub returns : goal.returns
returns c = subst (λ ks. IsNamed c.args.keys.now c.args.key.items ks c.len-number.result)
    (sym c.in_ok-push.ensures.added)
    (subst (λ n. IsNamed c.args.keys.now c.args.key.items (c.args.keys.now ++ c.args.key.items ∷ []) n)
    (sym c.len-number.ensures)
    (named_new c.args.keys.now c.args.key.items
    (subst (λ k. IsAbsent c.args.keys.now k) c.deref.ensures.value c.in_default.ensures)))
