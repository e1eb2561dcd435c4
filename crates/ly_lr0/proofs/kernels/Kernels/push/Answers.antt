use Rattle.std.proofs.Common.{◌∙◌, ◌++◌, [], ◌∷◌, ap, map, refl, subst, sym}
use Rattle.ly_base.specs.Keys.{IsAbsent}
use Rattle.ly_base.proofs.LookedUpLemmas.{pushed}
use Rattle.ly_lr0.proofs.ItemLemmas.{item_same, item_self, same_item}
use Rattle.ly_lr0.proofs.kernels.Kernels.push.Goals as goal

pub returns : goal.returns
returns c = ap (map (λ v. v.items)) c.in_ok-insert.ensures.keys
    ∙ pushed same_item item_same item_self (λ v. v.items) c.args.kernel.items c.self.inside.kernels.keys
    c.args.kernel refl
    (subst (λ ks. IsAbsent ks c.args.kernel.items) (sym c.self.view_is) c.requires)
    ∙ ap (λ ks. ks ++ c.args.kernel.items ∷ []) c.self.view_is
