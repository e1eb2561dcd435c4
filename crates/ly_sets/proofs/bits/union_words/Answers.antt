use Rattle.std.proofs.Common.{◌≡◌, ◌*◌, ◌+◌, ◌||◌, subst, sym, ap, arith, ◌∙◌}
use Rattle.ly_sets.specs.Union.{IsUnited}
use Rattle.ly_sets.proofs.LaneLemmas.{united_more, united_none}
use Rattle.ly_sets.proofs.bits.union_words.Goals as goal
use Rattle.ly_sets.proofs.bits.union_words.Goals.{then-union_block, else-union_block}

pub loop-block-init : goal.loop-block-init
loop-block-init c = united_none c.args.words.now c.args.to c.args.from

pub loop-block-preserved : goal.loop-block-preserved
loop-block-preserved c =
    let grown : c.if-union_block.grew ≡ (c.union_block.result || c.loop-block.grew) = elim c.if-union_block.branch [
      | then-union_block w ↦ w.grew-is ∙ sym (ap (λ b. b || c.loop-block.grew) w.if-union_block.true)
      | else-union_block w ↦ w.grew-is ∙ sym (ap (λ b. b || c.loop-block.grew) w.if-union_block.false)
    ] in
    let next : c.loop-block.block * 4 + 4 ≡ (c.loop-block.block + 1) * 4 = omega arith in
    subst (λ n. IsUnited c.args.words.now c.union_block.new.words c.args.to c.args.from n c.if-union_block.grew) next
    (subst (λ b. IsUnited c.args.words.now c.union_block.new.words c.args.to c.args.from (c.loop-block.block * 4 + 4) b)
    (sym grown)
    (united_more c.args.words.now c.loop-block.words c.union_block.new.words c.args.to c.args.from c.args.len
    (c.loop-block.block * 4) c.loop-block.grew c.union_block.result c.requires.apart (omega arith)
    c.loop-block.invariant c.union_block.ensures))

pub returns : goal.returns
returns c =
    let whole : c.loop-block.block * 4 ≡ c.args.len = omega arith in
    subst (λ n. IsUnited c.args.words.now c.loop-block.words c.args.to c.args.from n c.loop-block.grew) whole
    c.loop-block.invariant
