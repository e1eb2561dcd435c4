use Rattle.std.proofs.Common.{◌≡◌, ◌++◌, ◌∷◌, [], ap, arith, length, length-append, ◌∙◌, Bool, List, ℕ}
use Rattle.std.specs.Prelude.{map, zip}
use Rattle.ly_lexread.specs.Conditions.{condition_of}
use Rattle.ly_base.proofs.KeyLemmas.{new_key, zip_push}
use Rattle.ly_lexread.proofs.ConditionLemmas.{beside_keys, zip_more}
use Rattle.ly_lexread.proofs.conditions.Conditions.with_condition.Goals as goal

-- what stands beside the names
abbrev beside : (c : goal.In_ok-push-2) → List (Bool × ℕ)
beside c = zip c.self.inside.exclusive.items c.self.inside.lefts.items

as_many : (c : goal.In_ok-push-2) → length c.self.inside.names.keys ≡ length (beside c)
as_many c = beside_keys c.self.inside.names.keys c.self.inside.exclusive.items c.self.inside.lefts.items
    c.self.invariant.0 c.self.invariant.1

-- the names with the new one
keys : (c : goal.In_ok-push-2) → c.insert.new.self.keys ≡ c.self.inside.names.keys ++ c.in_ok-from_slice.field-0 ∷ []
keys c = c.in_ok-insert.ensures.keys
    ∙ new_key (λ k. k.items) c.self.inside.names.keys (beside c) c.in_ok-from_slice.field-0
    (as_many c) (ap (condition_of _) c.in_ok-from_slice.ensures.items
    ∙ (ap (λ cs. condition_of cs c.args.name.now) c.self.view_is ∙ c.requires))

pub invariant_of-self : goal.invariant_of-self
invariant_of-self c = (
  omega (
    arith,
    c.self.invariant.0,
    ap length (keys c),
    length-append c.self.inside.names.keys (c.in_ok-from_slice.field-0 ∷ []),
    ap length c.in_ok-push.ensures.items,
    length-append c.self.inside.exclusive.items (c.args.exclusive ∷ []),
  ),
  omega (
    arith,
    c.self.invariant.1,
    ap length c.in_ok-push-2.ensures.items,
    length-append c.self.inside.lefts.items (c.args.left ∷ []),
    ap length c.in_ok-push.ensures.items,
    length-append c.self.inside.exclusive.items (c.args.exclusive ∷ []),
  ),
  omega (
    arith,
    c.len.ensures,
    c.if-len.false,
    ap length c.in_ok-push.ensures.items,
    length-append c.self.inside.exclusive.items (c.args.exclusive ∷ []),
  ),
)

pub returns : goal.returns
returns c = rw (keys c, c.in_ok-push.ensures.items, c.in_ok-push-2.ensures.items)
    (ap (zip (map (λ k. k.items) (c.self.inside.names.keys ++ c.in_ok-from_slice.field-0 ∷ [])))
    (zip_more c.self.inside.exclusive.items c.self.inside.lefts.items c.args.exclusive c.args.left c.self.invariant.1)
    ∙ (zip_push (λ k. k.items) c.self.inside.names.keys (beside c) c.in_ok-from_slice.field-0
    (c.args.exclusive, c.args.left) (as_many c)
    ∙ (ap (λ n. zip (map (λ k. k.items) c.self.inside.names.keys) (beside c)
    ++ (n, (c.args.exclusive, c.args.left)) ∷ []) c.in_ok-from_slice.ensures.items
    ∙ ap (λ cs. cs ++ (c.args.name.now, (c.args.exclusive, c.args.left)) ∷ []) c.self.view_is)))
