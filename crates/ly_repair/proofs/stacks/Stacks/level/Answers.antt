use Rattle.std.proofs.Common.{◌≡◌, ◌∙◌, ◌<◌, [], ◌∷◌, ap, arith, length, subst, sym}
use Rattle.std.specs.Prelude.{MatchOption}
use Rattle.ly_repair.specs.Private.Stacks.{IsLevelAt, stack_of}
use Rattle.ly_repair.proofs.StackLemmas.{bottom_is, level_found}
use Rattle.ly_repair.proofs.stacks.Stacks.level.Goals as goal

pub returns-in-Some : goal.returns-in-Some
returns-in-Some c = subst (λ s. MatchOption c.copied.result (stack_of s c.args.at.0 ≡ 0 ∷ []) (IsLevelAt s c.args.at.0))
    c.self.view_is
    (level_found c.self.inside.levels.keys c.args.at.0 c.in-Some.index c.copied.result c.self.invariant
    (subst (λ s. c.args.at.0 < length s) (sym c.self.view_is) c.requires) (omega (arith, c.in-Some.ensures))
    (c.copied.ensures ∙ c.get_index.ensures.key))

pub returns-in-None : goal.returns-in-None
returns-in-None c =
    let zero : c.args.at.0 ≡ 0 = omega (arith, c.in-None.ensures) in
    ap (λ s. stack_of s c.args.at.0) (sym c.self.view_is)
    ∙ (ap (λ n. stack_of (Rattle.ly_repair.specs.Private.Stacks.stacks_from c.self.inside.levels.keys) n) zero
    ∙ bottom_is c.self.inside.levels.keys)
