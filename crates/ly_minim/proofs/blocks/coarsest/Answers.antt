use Rattle.std.proofs.Common.{◌≡◌, ◌<◌, ◌∙◌, ℕ, ap, arith, subst, sym, length, replicate}
use Rattle.std.proofs.lemmas.List.{get_or-replicate}
use Rattle.ly_minim.specs.Private.Blocks.{IsRefined}
use Rattle.ly_minim.specs.Private.Signature.{block_of}
use Rattle.ly_minim.proofs.BlockLemmas.{apart_more, count_le, stable_of}
use Rattle.ly_minim.proofs.blocks.coarsest.Goals as goal

pub loop-blocks-init : goal.loop-blocks-init
loop-blocks-init c =
    let A = c.args.dfa.now in
    let zeros = c.in_ok-vec.field-0.items in
    let all : zeros ≡ replicate c.len-2.result 0 = c.in_ok-vec.ensures.items_if_clones_equal (λ y h. h) in
    let zero : (s : ℕ) → s < length A.rules → block_of zeros s ≡ 0
    = λ s l. ap (λ xs. block_of xs s) all
    ∙ get_or-replicate c.len-2.result s 0 0 (omega (arith, l, c.len-2.ensures.count))
    in
    record {
      blocks = c.in_ok-blocks.ensures.blocks;
      apart = λ trim. c.in_ok-blocks.ensures.apart c.len.ensures.whole trim
          (apart_more A c.len.ensures.whole trim zeros (λ s t l m ne. absurd (ne (zero s l ∙ sym (zero t m))))
          c.in_ok-start.start.of.items (subst (λ of. IsRefined A of c.in_ok-start.start.of.items) c.deref.ensures.value
          c.in_ok-start.ensures.refined));
    }

pub loop-blocks-preserved : goal.loop-blocks-preserved
loop-blocks-preserved c = record {
  blocks = c.in_ok-finer.ensures.blocks;
  apart = λ trim. apart_more c.args.dfa.now c.len.ensures.whole trim c.loop-blocks.blocks.of.items
      (c.loop-blocks.invariant.apart trim) c.in_ok-finer.finer.of.items
      (subst (λ of. IsRefined c.args.dfa.now of c.in_ok-finer.finer.of.items) c.deref-in-loop-blocks.ensures.value
      c.in_ok-finer.ensures.refined);
}

pub loop-blocks-smaller : goal.loop-blocks-smaller
loop-blocks-smaller c =
    let le = count_le c.args.dfa.now c.loop-blocks.blocks.of.items c.in_ok-finer.finer.of.items
    c.loop-blocks.blocks.count c.in_ok-finer.finer.count c.loop-blocks.invariant.blocks c.in_ok-finer.ensures.blocks
    (subst (λ of. IsRefined c.args.dfa.now of c.in_ok-finer.finer.of.items) c.deref-in-loop-blocks.ensures.value
    c.in_ok-finer.ensures.refined) in
    let few = c.in_ok-finer.ensures.blocks.few in let ne = c.if-finer-blocks.false in omega (arith, le)

pub returns-then-finer-blocks-clause-stable : goal.returns-then-finer-blocks-clause-stable
returns-then-finer-blocks-clause-stable c = stable_of c.args.dfa.now c.loop-blocks.blocks.of.items
    c.in_ok-finer.finer.of.items c.loop-blocks.blocks.count c.in_ok-finer.finer.count c.loop-blocks.invariant.blocks
    c.in_ok-finer.ensures.blocks
    (subst (λ of. IsRefined c.args.dfa.now of c.in_ok-finer.finer.of.items) c.deref-in-loop-blocks.ensures.value
    c.in_ok-finer.ensures.refined) (sym c.if-finer-blocks.true)
