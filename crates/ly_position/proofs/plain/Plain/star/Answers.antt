use Rattle.std.proofs.Common.{inl, inr, Some, refl, ap, sym, ◌∙◌}
use Rattle.ly_ere.specs.Expression.{empty, star, plus, optional}
use Rattle.ly_ere.specs.Arena.{expression_of, part_of}
use Rattle.ly_position.specs.Private.Slim.{slim_star}
use Rattle.ly_position.proofs.PlainLemmas.{all_kept, kept, added, added_none}
use Rattle.ly_position.proofs.plain.Plain.star.Goals as goal

pub returns-in_default : goal.returns-in_default
returns-in_default c = added_none slim_star c.push.result c.args.self.now c.push.new.self c.args.part empty
    c.push.ensures.ok c.push.ensures.number c.in_default.is refl

pub returns-in-Empty : goal.returns-in-Empty
returns-in-Empty c = elim c.in-Empty.is [
  | inl e ↦ kept slim_star c.args.self.now c.args.part c.in-Some.a empty c.requires c.in-Some.is
      (ap (expression_of c.args.self.now) (sym e) ∙ c.node.ensures.is) refl
  | inr e ↦ kept slim_star c.args.self.now c.args.part c.in-Some.a (star (part_of c.args.self.now e.0)) c.requires
      c.in-Some.is (ap (expression_of c.args.self.now) (sym e.1) ∙ c.node.ensures.is)
      refl
]

pub returns-in-Plus : goal.returns-in-Plus
returns-in-Plus c = elim c.in-Plus.is [
  | inl e ↦ added slim_star c.push-in-Plus.result c.args.self.now c.push-in-Plus.new.self c.args.part c.in-Some.a
      (plus (part_of c.args.self.now c.in-Plus.b)) (star (part_of c.args.self.now c.in-Plus.b))
      c.push-in-Plus.ensures.ok c.push-in-Plus.ensures.number c.in-Some.is (ap (expression_of c.args.self.now) (sym e)
      ∙ c.node.ensures.is) refl
  | inr e ↦ added slim_star c.push-in-Plus.result c.args.self.now c.push-in-Plus.new.self c.args.part c.in-Some.a
      (optional (part_of c.args.self.now c.in-Plus.b)) (star (part_of c.args.self.now c.in-Plus.b))
      c.push-in-Plus.ensures.ok c.push-in-Plus.ensures.number c.in-Some.is (ap (expression_of c.args.self.now) (sym e)
      ∙ c.node.ensures.is) refl
]

pub returns-in_default-node : goal.returns-in_default-node
returns-in_default-node c =
    let e = part_of c.args.self.now c.in-Some.a in
    let other = c.in_default-node in
    let all = all_kept c.args.self.now c.node.result e c.node.ensures.is other.not-Empty other.not-Star other.not-Plus
    other.not-Optional in
    added slim_star c.push-in_default-node.result c.args.self.now c.push-in_default-node.new.self c.args.part
    c.in-Some.a e (star e) c.push-in_default-node.ensures.ok c.push-in_default-node.ensures.number c.in-Some.is refl
    (ap (λ x. Some x) all.by_star)
