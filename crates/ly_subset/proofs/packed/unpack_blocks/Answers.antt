use Rattle.std.proofs.Common.{◌≡◌, ◌+◌, ◌*◌, ◌++◌, arith, drop, subst}
use Rattle.ly_subset.specs.Private.Packed.{AreWords, members_of, unpack_by}
use Rattle.ly_subset.proofs.PackedLemmas.{unpacked_all, unpacked_more, words_ahead}
use Rattle.ly_subset.proofs.packed.unpack_blocks.Goals as goal

pub push_members-requires : goal.push_members-requires
push_members-requires c = words_ahead members_of c.args.row.now (2 * c.loop-pair.pair)
    (let l = c.loop-pair-test.true in omega (arith, l)) c.loop-pair.invariant.1

pub loop-pair-preserved : goal.loop-pair-preserved
loop-pair-preserved c =
    let l = c.loop-pair-test.true in
    let next : 2 * c.loop-pair.pair + 2 ≡ 2 * (c.loop-pair.pair + 1) = omega arith in
    subst (λ at. (c.push_members.new.numbers.items ++ unpack_by members_of (drop at c.args.row.now)
    ≡ unpack_by members_of c.args.row.now) × AreWords (unpack_by members_of (drop at c.args.row.now))) next
    (unpacked_more members_of c.args.row.now (2 * c.loop-pair.pair) c.loop-pair.numbers.items
    c.push_members.new.numbers.items (omega (arith, l)) c.in_ok-push_members.ensures c.loop-pair.invariant)

pub returns : goal.returns
returns c = unpacked_all members_of c.args.row.now (2 * c.loop-pair.pair) c.loop-pair.numbers.items
    (λ l. omega (arith, l, c.loop-pair-test.false)) c.loop-pair.invariant.0
