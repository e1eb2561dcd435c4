use Rattle.std.proofs.Common.{◌∷◌, ◌++◌, ◌∙◌, ap₂, Some}
use Rattle.ly_subset.specs.Automaton.{rule_of}
use Rattle.ly_minim.specs.Private.Signature.{block_after, block_of, marked}
use Rattle.ly_minim.proofs.SignatureLemmas.{signature_more}
use Rattle.ly_minim.proofs.signature.signature.Goals as goal

pub loop-class-preserved : goal.loop-class-preserved
loop-class-preserved c = c.in_ok-push_marked-2.ensures
    ∙ ap₂ (λ xs o. xs ++ marked o) c.loop-class.invariant c.block_after.ensures
    ∙ signature_more (λ k. marked (block_after c.args.dfa.now c.args.of.now c.args.state k))
    (block_of c.args.of.now c.args.state ∷ marked (rule_of c.args.dfa.now (Some c.args.state))) c.loop-class.class
