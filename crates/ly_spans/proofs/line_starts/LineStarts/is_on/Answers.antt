use Rattle.std.proofs.Common.{◌∙◌, ap, rules}
use Rattle.ly_spans.specs.Private.LineStarts.{line_starts}
use Rattle.ly_spans.proofs.LineStartsLemmas.{at_last, before_next}
use Rattle.ly_spans.proofs.line_starts.LineStarts.is_on.Goals as goal

pub returns-in-Some-get-2-clause-line : goal.returns-in-Some-get-2-clause-line
returns-in-Some-get-2-clause-line c =
    let stand = c.self.invariant ∙ ap line_starts c.self.view_is in
    let first = c.in-Some-get.ensures.lookup.3 in
    before_next c.args.self.now c.deref.result.now c.deref-2.result.now c.args.offset c.args.line c.in-Some.before
    c.in-Some-get.start.now c.in-Some-get-2.next.now (c.deref.ensures.value ∙ stand) (c.deref-2.ensures.value ∙ stand)
    (search rules) first.0 (first.1 0) (search rules) (c.in-Some-get-2.ensures.lookup.3.1 0)

pub returns-in-None-clause-line : goal.returns-in-None-clause-line
returns-in-None-clause-line c =
    let stand = c.self.invariant ∙ ap line_starts c.self.view_is in
    let first = c.in-Some-get.ensures.lookup.3 in
    at_last c.args.self.now c.deref.result.now c.deref-2.result.now c.args.offset c.args.line c.in-Some.before
    c.in-Some-get.start.now (c.deref.ensures.value ∙ stand) (c.deref-2.ensures.value ∙ stand)
    (search rules) first.0 (first.1 0) (search rules) (search rules)
