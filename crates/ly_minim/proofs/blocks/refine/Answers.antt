use Rattle.std.proofs.Common.{◌≡◌, ◌+◌, [], arith, subst, sym, length}
use Rattle.ly_minim.specs.Private.Blocks.{IsNamed}
use Rattle.ly_minim.proofs.BlockLemmas.{IsRefining, blocks_of, refined_of, refining_more, refining_none}
use Rattle.ly_minim.proofs.blocks.refine.Goals as goal

pub loop-state-init : goal.loop-state-init
loop-state-init c = subst (λ ks. IsRefining c.args.dfa.now c.args.of.now 0 c.in_ok-finer.finer.items ks)
    (sym c.new-keys.ensures)
    (subst (λ f. IsRefining c.args.dfa.now c.args.of.now 0 f []) (sym c.in_ok-finer.ensures.items)
    (refining_none c.args.dfa.now c.args.of.now))

pub overflow_cast-branch : goal.overflow_cast-branch
overflow_cast-branch c =
    let more = refining_more c.args.dfa.now c.args.of.now c.loop-state.state c.loop-state.finer.items c.loop-state.keys
    c.number.new.keys c.in_ok-number.field-0 c.loop-state.invariant
    (subst (λ k. IsNamed c.loop-state.keys k c.number.new.keys c.in_ok-number.field-0) c.in_ok-key.ensures
    c.in_ok-number.ensures) in
    let few = more.few in let within = c.in_ok-number.ensures.within in let less = c.loop-state-test.true in
    let fits = c.ranges.states.fits in omega arith

pub loop-state-preserved : goal.loop-state-preserved
loop-state-preserved c = subst (λ f. IsRefining c.args.dfa.now c.args.of.now
    (c.loop-state.state + 1) f c.number.new.keys)
    (sym c.in_ok-push.ensures.items)
    (refining_more c.args.dfa.now c.args.of.now c.loop-state.state c.loop-state.finer.items c.loop-state.keys
    c.number.new.keys c.in_ok-number.field-0 c.loop-state.invariant
    (subst (λ k. IsNamed c.loop-state.keys k c.number.new.keys c.in_ok-number.field-0) c.in_ok-key.ensures
    c.in_ok-number.ensures))

pub returns : goal.returns
returns c =
    let end : c.loop-state.state ≡ length c.args.dfa.now.rules = (let e = c.loop-state.auto.state-end in
    let f = c.loop-state-test.false in let all = c.requires.states in omega arith) in
    record {
      refined = refined_of c.args.dfa.now c.args.of.now c.loop-state.state c.loop-state.finer.items c.loop-state.keys
          end
          c.loop-state.invariant;
      blocks = blocks_of c.args.dfa.now c.args.of.now c.loop-state.state c.loop-state.finer.items c.loop-state.keys
          c.len.result end (let e = c.loop-state.auto.state-end in let fits = c.ranges.states.fits in omega arith)
          c.len.ensures c.loop-state.invariant;
    }
