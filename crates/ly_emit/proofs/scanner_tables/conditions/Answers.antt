use Rattle.std.proofs.Common.{rules, subst, sym}
use Rattle.ly_emit.specs.Private.Listing.{IsStartOf}
use Rattle.ly_emit.proofs.ListingLemmas.{each_more}
use Rattle.ly_tables.specs.Values.{starts_from}
use Rattle.ly_scan.specs.declared.starts.Starts as start
use Rattle.ly_emit.proofs.scanner_tables.conditions.Goals as goal

pub loop-condition-preserved : goal.loop-condition-preserved
loop-condition-preserved c =
    let inv = c.loop-condition.invariant in
    let x : start.Starts = record { elsewhere = c.map.result; at_line = c.map-in-loop-condition.result } in
    let here : IsStartOf c.args.dfa.now c.loop-condition.condition (starts_from x) = search rules in
    record {
      count = search rules;
      starts = each_more (IsStartOf c.args.dfa.now) starts_from c.loop-condition.conditions.items
          c.push.new.self.items x inv.starts
          (subst (λ n. IsStartOf c.args.dfa.now n (starts_from x)) (sym inv.count) here) c.in_ok-push.ensures.items;
    }
