use Rattle.std.proofs.Common.{sym}
use Rattle.std.proofs.lemmas.Result.{err_from_is_err_and}
use Rattle.ly_lexread.specs.Private.Definitions.{preamble_of}
use Rattle.ly_lexread.proofs.DefinitionLemmas.{says_adds, says_back, says_both, says_ends, says_with}
use Rattle.ly_lexread.proofs.definitions.read_definition_line.Goals as goal

pub returns-in_default-behind_definition-clause-these : goal.returns-in_default-behind_definition-clause-these
returns-in_default-behind_definition-clause-these c =
    let p = preamble_of c.args.preamble in
    let kind = c.kind_of-kind.result in (
      λ h. h,
      λ _ q u h. c.in_default-behind_definition.ensures.these u
          (says_ends kind p q c.args.text.bytes.now c.in-Some.line.now c.in-Some.behind.bytes.now u
          (says_back p q c.args.text.bytes.now c.in-Some.line.now c.in-Some.behind.bytes.now u kind
          c.in-Some.ensures.these (sym c.kind_of-kind.ensures) h)),
    )

pub returns-in_err-with_line-clause-these : goal.returns-in_err-with_line-clause-these
returns-in_err-with_line-clause-these c =
    let r = err_from_is_err_and c.from_residual.result c.from_residual.ensures.1 in
    let p = preamble_of c.args.preamble in
    let kind = c.kind_of-kind.result in
    let e = c.in_err-with_line.ensures.these in
    rw (r.1, r.2) (
      e.0,
      λ ne q u h. e.1 ne (record { conditions = q.conditions; definitions = q.definitions })
          (says_adds kind p q c.args.text.bytes.now c.in-Some.line.now c.in-Some.behind.bytes.now u
          (says_back p q c.args.text.bytes.now c.in-Some.line.now c.in-Some.behind.bytes.now u kind
          c.in-Some.ensures.these (sym c.kind_of-kind.ensures) h)),
    )

pub returns-clause-these : goal.returns-clause-these
returns-clause-these c =
    let p = preamble_of c.args.preamble in
    let q = preamble_of c.in_ok-with_line.field-0 in
    let kind = c.kind_of-kind.result in
    says_with p q c.args.text.bytes.now c.in-Some.line.now c.in-Some.behind.bytes.now
    c.in-Some-behind_definition.rest.bytes.now kind c.in-Some.ensures.these (sym c.kind_of-kind.ensures)
    (says_both kind p q c.args.text.bytes.now c.in-Some.line.now c.in-Some.behind.bytes.now
    c.in-Some-behind_definition.rest.bytes.now c.in-Some-behind_definition.ensures.these
    c.in_ok-with_line.ensures.these)
