use Rattle.std.proofs.Common.{◌∙◌, ap, subst, sym}
use Rattle.ly_feed.proofs.ReturnedLemmas.{can_run}
use Rattle.ly_feed.proofs.feed.Feed.new.Goals as goal
use Rattle.ly_feed.specs.Private.Told.{AreFactsOf}
use Rattle.ly_feed.specs.ScanPart.{scan_part_of}
use Rattle.ly_pack.specs.Steady.{IsSteady}
use Rattle.ly_scan.specs.Lexers.{IsUnderwayAt}

pub new-requires : goal.new-requires
new-requires c = subst IsSteady (sym c.machine.ensures.machine) c.machine.ensures.steady

pub invariant_of-result : goal.invariant_of-result
invariant_of-result c = record {
  lexer = c.prepared.invariant.0;
  facts = subst (AreFactsOf (scan_part_of c.prepared.inside.set.now) c.prepared.inside.lexer.scanner)
      (sym c.deref.ensures.value) c.prepared.invariant.1;
  machine = ap (λ x. x.machine) c.new.ensures ∙ c.machine.ensures.machine;
  runs = can_run c.prepared.inside.set.now c.machine.ensures.within c.machine.ensures.steady;
  parses = λ goes. ap (λ x. x.over) c.new.ensures;
  waits = λ goes. subst (λ q. IsUnderwayAt c.prepared.inside.lexer q c.matcher_at-matcher.result) c.place.ensures
      c.matcher_at-matcher.ensures;
}
