use Rattle.std.proofs.Common.{sym, ◌∙◌}
use Rattle.std.proofs.lemmas.Result.{err_from_is_err_and}
use Rattle.ly_lexread.specs.Definitions.{mark, more}
use Rattle.ly_lexread.specs.Private.Definitions.{preamble_of}
use Rattle.ly_lexread.proofs.DefinitionLemmas.{definitions_behind, no_definitions}
use Rattle.ly_lexread.proofs.definitions.read_definitions.Goals as goal

pub returns-then-is_mark-clause-these : goal.returns-then-is_mark-clause-these
returns-then-is_mark-clause-these c =
    let p = preamble_of c.loop-line.preamble in
    let behind = c.in-Some.behind.bytes.now in
    c.loop-line.invariant.sound p behind (mark p c.loop-line.left.bytes.now c.in-Some.line.now behind
    c.in-Some.ensures.these (sym c.kind_of.ensures ∙ c.if-is_mark.ensures))

pub returns-then-is_mark-clause-whole : goal.returns-then-is_mark-clause-whole
returns-then-is_mark-clause-whole c = c.in-Some.ensures.whole ∙ c.loop-line.invariant.whole

pub returns-in_err-preamble-2-clause-these : goal.returns-in_err-preamble-2-clause-these
returns-in_err-preamble-2-clause-these c =
    let p = err_from_is_err_and c.from_residual-in_err-preamble-2.result c.from_residual-in_err-preamble-2.ensures.1 in
    let e = c.in_err-preamble-2.ensures.these in
    rw (p.1, p.2) (
      e.0,
      λ ne all rest d. no_definitions (preamble_of c.loop-line.preamble) all c.loop-line.left.bytes.now
          c.in-Some.line.now c.in-Some.behind.bytes.now rest c.in-Some.ensures.these
          (λ i. c.if-is_mark.ensures (c.kind_of.ensures ∙ i)) (e.1 ne) (c.loop-line.invariant.complete all rest d),
    )

pub loop-line-preserved : goal.loop-line-preserved
loop-line-preserved c =
    let p = preamble_of c.loop-line.preamble in
    let q = preamble_of c.in_ok-preamble-2.field-0-0 in
    let left = c.loop-line.left.bytes.now in
    let u = c.in_ok-preamble-2.field-0-1.bytes.now in
    record {
      sound = λ all rest d. c.loop-line.invariant.sound all rest
          (more p q all left u rest c.in_ok-preamble-2.ensures.these d);
      complete = λ all rest d. definitions_behind p q all left u rest c.in_ok-preamble-2.ensures.these
          (c.loop-line.invariant.complete all rest d);
      whole = c.in_ok-preamble-2.ensures.whole ∙ c.loop-line.invariant.whole;
    }
