use Rattle.std.proofs.Common.{◌∙◌, ap, leb, rules}
use Rattle.std.proofs.lemmas.List.Sorted.{IsPartitionPoint-from_clause}
use Rattle.ly_spans.specs.Private.LineStarts.{line_starts}
use Rattle.ly_spans.proofs.LineStartsLemmas.{line_is, lines_part}
use Rattle.ly_spans.proofs.line_starts.LineStarts.line_of.Goals as goal

pub returns-clause-line : goal.returns-clause-line
returns-clause-line c = line_is c.args.self.now c.deref.result.now c.args.offset c.partition_point.result
    (c.deref.ensures.value ∙ (c.self.invariant ∙ ap line_starts c.self.view_is)) c.partition_point.ensures.bound
    (IsPartitionPoint-from_clause (λ start. leb start c.args.offset) c.deref.result.now c.partition_point.result
    c.partition_point.ensures.partitioned
    (lines_part c.args.self.now c.deref.result.now c.args.offset
    (c.deref.ensures.value ∙ (c.self.invariant ∙ ap line_starts c.self.view_is))) (λ a r q k. search rules))
