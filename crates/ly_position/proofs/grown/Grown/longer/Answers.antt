use Rattle.std.proofs.Common.{arith, length-set}
use Rattle.ly_position.proofs.GrownLemmas.{grown_count, grown_known, grown_more}
use Rattle.ly_position.proofs.grown.Grown.longer.Goals as goal

pub index-known-requires : goal.index-known-requires
index-known-requires c
    = omega (arith, grown_count c.self.inside.extended.items c.args.self.now c.self.view_is, c.self.invariant.1)

pub returns-then-is_extended-clause-number : goal.returns-then-is_extended-clause-number
returns-then-is_extended-clause-number c =
    (grown_known c.self.inside.extended.items c.args.self.now c.index-known.result.now c.args.list c.args.entry
    c.self.invariant.0 c.self.view_is (rw (← c.deref.ensures.value) (c.is_extended.ensures c.if-is_extended.true))).0

pub returns-then-is_extended-clause-list : goal.returns-then-is_extended-clause-list
returns-then-is_extended-clause-list c =
    (grown_known c.self.inside.extended.items c.args.self.now c.index-known.result.now c.args.list c.args.entry
    c.self.invariant.0 c.self.view_is (rw (← c.deref.ensures.value) (c.is_extended.ensures c.if-is_extended.true))).1

pub index_mut-requires : goal.index_mut-requires
index_mut-requires c
    = omega (arith, grown_count c.self.inside.extended.items c.args.self.now c.self.view_is, c.self.invariant.1)

pub invariant_of-self-2 : goal.invariant_of-self-2
invariant_of-self-2 c =
    let m = grown_more c.self.inside.extended.items c.push-2.new.self.items c.args.self.now c.len-number.result
    c.args.list c.args.entry c.self.invariant.0 c.self.view_is c.requires c.in_ok-push-2.ensures.items
    (omega arith) in (
      m.are,
      omega (
        arith,
        c.self.invariant.1,
        c.in_ok-push.ensures.len,
        c.in_ok-push-2.ensures.len,
        length-set c.push.new.self.items c.args.list c.len-number.result,
      ),
    )

pub returns-clause-more : goal.returns-clause-more
returns-clause-more c =
    (grown_more c.self.inside.extended.items c.push-2.new.self.items c.args.self.now c.len-number.result c.args.list
    c.args.entry c.self.invariant.0 c.self.view_is c.requires c.in_ok-push-2.ensures.items (omega arith)).more

pub returns-clause-kept : goal.returns-clause-kept
returns-clause-kept c =
    (grown_more c.self.inside.extended.items c.push-2.new.self.items c.args.self.now c.len-number.result c.args.list
    c.args.entry c.self.invariant.0 c.self.view_is c.requires c.in_ok-push-2.ensures.items (omega arith)).kept

pub returns-clause-number : goal.returns-clause-number
returns-clause-number c =
    (grown_more c.self.inside.extended.items c.push-2.new.self.items c.args.self.now c.len-number.result c.args.list
    c.args.entry c.self.invariant.0 c.self.view_is c.requires c.in_ok-push-2.ensures.items (omega arith)).within

pub returns-clause-list : goal.returns-clause-list
returns-clause-list c =
    (grown_more c.self.inside.extended.items c.push-2.new.self.items c.args.self.now c.len-number.result c.args.list
    c.args.entry c.self.invariant.0 c.self.view_is c.requires c.in_ok-push-2.ensures.items (omega arith)).is
