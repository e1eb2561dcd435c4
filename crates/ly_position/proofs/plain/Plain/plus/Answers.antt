use Rattle.std.proofs.Common.{inl, inr, Some, None, refl, ap, sym, ◌∙◌}
use Rattle.ly_ere.specs.Expression.{empty, star, plus, optional}
use Rattle.ly_ere.specs.Arena.{expression_of, part_of}
use Rattle.ly_position.specs.Private.Plain.{expression_at}
use Rattle.ly_position.specs.Private.Slim.{slim_plus}
use Rattle.ly_position.proofs.PlainLemmas.{all_kept, makes_same, kept, added}
use Rattle.ly_position.proofs.plain.Plain.plus.Goals as goal

pub returns-in_default : goal.returns-in_default
returns-in_default c = makes_same c.args.self.now None (slim_plus (expression_at c.args.self.now c.args.part)) tt
    (sym (ap (λ q. slim_plus (expression_at c.args.self.now q)) c.in_default.is))

pub returns-in-Empty : goal.returns-in-Empty
returns-in-Empty c = elim c.in-Empty.is [
  | inl e ↦ kept slim_plus c.args.self.now c.args.part c.in-Some.a empty c.requires c.in-Some.is
      (ap (expression_of c.args.self.now) (sym e) ∙ c.node.ensures.is) refl
  | inr (inl e) ↦ kept slim_plus c.args.self.now c.args.part c.in-Some.a (star (part_of c.args.self.now e.0)) c.requires
      c.in-Some.is (ap (expression_of c.args.self.now) (sym e.1) ∙ c.node.ensures.is)
      refl
  | inr (inr e) ↦ kept slim_plus c.args.self.now c.args.part c.in-Some.a (plus (part_of c.args.self.now e.0)) c.requires
      c.in-Some.is (ap (expression_of c.args.self.now) (sym e.1) ∙ c.node.ensures.is)
      refl
]

pub returns-in-Optional : goal.returns-in-Optional
returns-in-Optional c = let e = c.in-Optional.is
    in added slim_plus c.push.result c.args.self.now c.push.new.self c.args.part c.in-Some.a
    (optional (part_of c.args.self.now c.in-Optional.b)) (star (part_of c.args.self.now c.in-Optional.b))
    c.push.ensures.ok c.push.ensures.number c.in-Some.is (ap (expression_of c.args.self.now) (sym e)
    ∙ c.node.ensures.is) refl

pub returns-in_default-node : goal.returns-in_default-node
returns-in_default-node c =
    let e = part_of c.args.self.now c.in-Some.a in
    let other = c.in_default-node in
    let all = all_kept c.args.self.now c.node.result e c.node.ensures.is other.not-Empty other.not-Star other.not-Plus
    other.not-Optional in
    added slim_plus c.push-in_default-node.result c.args.self.now c.push-in_default-node.new.self c.args.part
    c.in-Some.a e (plus e) c.push-in_default-node.ensures.ok c.push-in_default-node.ensures.number c.in-Some.is refl
    (ap (λ x. Some x) all.by_plus)
