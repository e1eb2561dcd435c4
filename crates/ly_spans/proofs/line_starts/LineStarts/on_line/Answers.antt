use Rattle.std.proofs.Common.{◌∙◌, ap, arith}
use Rattle.ly_spans.specs.Private.LineStarts.{line_starts}
use Rattle.ly_spans.proofs.LineStartsLemmas.{column_is}
use Rattle.ly_spans.proofs.line_starts.LineStarts.on_line.Goals as goal

pub overflow_sub-result : goal.overflow_sub-result
overflow_sub-result c =
    omega (
      arith,
      column_is c.args.self.now c.self.inside.starts.items c.args.offset c.args.line c.index.result.now
          (c.self.invariant ∙ ap line_starts c.self.view_is) c.requires.within c.requires.line c.index.ensures,
    )

pub returns-clause-column : goal.returns-clause-column
returns-clause-column c =
    omega (
      arith,
      column_is c.args.self.now c.self.inside.starts.items c.args.offset c.args.line c.index.result.now
          (c.self.invariant ∙ ap line_starts c.self.view_is) c.requires.within c.requires.line c.index.ensures,
    )
