use Rattle.std.proofs.Common.{rules, subst, sym}
use Rattle.ly_join.specs.Terminals.{IsOfByte}
use Rattle.ly_emit.proofs.ListingLemmas.{each_more}
use Rattle.ly_emit.proofs.set.literals.Goals as goal

pub loop-byte-preserved : goal.loop-byte-preserved
loop-byte-preserved c =
    let inv = c.loop-byte.invariant in
    let terminals = c.args.spec.now.terminals in
    record {
      count = search rules;
      literals = each_more (IsOfByte terminals) (λ t. t.0) c.loop-byte.literals.items c.push.new.self.items
          c.of_byte.result inv.literals
          (subst (λ n. IsOfByte terminals n c.of_byte.result.0) (sym inv.count) c.of_byte.ensures)
          c.in_ok-push.ensures.items;
    }
