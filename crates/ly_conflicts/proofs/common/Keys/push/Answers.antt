use Rattle.std.proofs.Common.{◌∙◌, ◌++◌, [], ◌∷◌, ap, subst, sym, Contains}
use Rattle.ly_conflicts.proofs.KeyLemmas.{pushed}
use Rattle.ly_conflicts.proofs.common.Keys.push.Goals as goal

pub returns : goal.returns
returns c = c.in_ok-insert.ensures.keys
    ∙ pushed c.self.inside.keys.keys c.args.key
    (subst (λ ks. Contains ks c.args.key → ⊥) (sym c.self.view_is) c.requires)
    ∙ ap (λ ks. ks ++ c.args.key ∷ []) c.self.view_is
