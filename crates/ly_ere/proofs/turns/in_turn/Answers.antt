use Rattle.std.proofs.Common.{◌≡◌, arith, length, map, subst, ◌∙◌}
use Rattle.ly_ere.specs.Private.Turns.{ArePut, AreTurns}
use Rattle.ly_ere.proofs.TurnLemmas.{numbers_all, numbers_more, numbers_none, popped}
use Rattle.ly_ere.proofs.turns.in_turn.Goals as goal

pub settle-requires : goal.settle-requires
settle-requires c = (
  _,
  subst (AreTurns c.loop-number.turns)
      (numbers_more c.loop-number.number
      (length c.args.uses.now) c.loop-number-test.true) c.loop-number.invariant.turns,
)

pub loop-number-preserved : goal.loop-number-preserved
loop-number-preserved c = record {
  within = omega (arith, c.loop-number-test.true);
  same = c.in_ok-settle.ensures.same ∙ c.loop-number.invariant.same;
  turns = c.in_ok-settle.ensures.turns _ (subst (AreTurns c.loop-number.turns)
      (numbers_more c.loop-number.number (length c.args.uses.now) c.loop-number-test.true)
      c.loop-number.invariant.turns);
}

pub loop-number-2-init : goal.loop-number-2-init
loop-number-2-init c = record {
  same = c.loop-number.invariant.same;
  turns = subst (AreTurns c.loop-number.turns)
      (numbers_none c.loop-number.number (length c.args.uses.now) c.loop-number-test.false)
      c.loop-number.invariant.turns;
}

pub take-requires-clause-turns : goal.take-requires-clause-turns
take-requires-clause-turns c = popped _ _ _ _ _ _ _ c.in-Some.number c.loop-number-2.invariant.turns
    c.in-Some.ensures.member c.in-Some.ensures.updates.0

pub in_order-requires-clause-turns : goal.in_order-requires-clause-turns
in_order-requires-clause-turns c =
    let same : c.pop_first.new.self.keys ≡ c.loop-number-2.turns.ready.keys = c.in_default.ensures.unchanged in
    rw same c.loop-number-2.invariant.turns

pub loop-number-init : goal.loop-number-init
loop-number-init c = record {
  within = omega arith;
  same = c.in_ok-turns.ensures.same;
  turns = subst (AreTurns c.in_ok-turns.turns) (numbers_all (length c.args.uses.now)) c.in_ok-turns.ensures.turns;
}

pub take-requires-clause-through : goal.take-requires-clause-through
take-requires-clause-through c
    = (c.loop-number-2.invariant.turns.is_ready c.in-Some.number c.in-Some.ensures.member).1

pub loop-number-2-preserved : goal.loop-number-2-preserved
loop-number-2-preserved c = record {
  same = c.in_ok-take.ensures.same ∙ c.loop-number-2.invariant.same;
  turns = c.in_ok-take.ensures.turns;
}

pub returns : goal.returns
returns c = subst (λ us. ArePut (map (λ v. v.items) us) c.in_order.result) c.loop-number-2.invariant.same
    c.in_order.ensures
