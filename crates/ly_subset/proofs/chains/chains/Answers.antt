use Rattle.std.proofs.Common.{◌≡◌, ◌<◌, ◌+◌, ◌∙◌, ap, arith, get_or, length, subst, sym, ℕ}
use Rattle.std.specs.Prelude.{◌-◌}
use Rattle.std.proofs.lemmas.List.{length_push}
use Rattle.ly_subset.specs.Private.Chains.{IsChain}
use Rattle.ly_subset.proofs.ChainLemmas.{chain_more}
use Rattle.ly_subset.proofs.chains.chains.Goals as goal

pub loop-number-preserved : goal.loop-number-preserved
loop-number-preserved c =
    let pushed = c.in_ok-push.ensures.items in
    let number = c.loop-number.number in
    let first = c.first_of-first.result in
    record {
      count = ap length pushed ∙ length_push c.loop-number.firsts.items first
          ∙ ap (λ n. n + 1) c.loop-number.invariant.count;
      chain = subst (λ fs. (p : ℕ) → p < number + 1 → 0 < get_or fs p 0 → IsChain c.args.nfa.now (get_or fs p 0) p)
          (sym pushed)
          (chain_more c.args.nfa.now c.loop-number.firsts.items first number c.loop-number.invariant.count
          c.loop-number.invariant.chain c.first_of-first.ensures);
      last = subst (λ n. 0 < first → IsChain c.args.nfa.now first n)
          (let same : number ≡ number + 1 - 1 = omega arith in same) c.first_of-first.ensures;
    }
