use Rattle.std.proofs.Common.{◌∙◌, Err, Ok, ap, map, refl, subst, sym}
use Rattle.ly_base.specs.Lexed.{start_of}
use Rattle.ly_feed.specs.Closed.{CanRun, IsClosed, IsVerdictOf, progress_of}
use Rattle.ly_feed.specs.ScanPart.{scan_part_of}
use Rattle.ly_feed.specs.TokenSpans.{AreSpansOf}
use Rattle.ly_places.proofs.DerivationLemmas.{accepted_with, fault_with, refused_with, said_by, starts}
use Rattle.ly_places.proofs.derivation.derive.Goals as goal
use Rattle.ly_places.specs.Private.Derived.{IsDerived}
use Rattle.ly_places.specs.declared.derivation.Derivation.{Derivation}
use Rattle.ly_places.specs.declared.derivation.Derived.TheVariants.{Accepted, Refused}
use Rattle.ly_places.specs.Shapes.{keeping_rule}

pub keeping_parser-parser-requires : goal.keeping_parser-parser-requires
keeping_parser-parser-requires c = c.requires.rules ∙ ap (λ s. map keeping_rule s.rules) (sym c.set-set.ensures)

pub run-requires-clause-runs : goal.run-requires-clause-runs
run-requires-clause-runs c =
    let parser = c.keeping_parser-parser in
    subst (λ s. CanRun (scan_part_of s) parser.result.machine) c.set-set.ensures
    (subst (CanRun (scan_part_of c.set-set.result.now)) (sym (ap (λ x. x.machine) parser.ensures.new))
    parser.ensures.runs)

pub returns-in_err-root : goal.returns-in_err-root
returns-in_err-root c =
    let parser = c.keeping_parser-parser in
    let set = c.set-set.result.now in
    let text = c.args.text.now in
    let machine = ap (λ x. x.machine) parser.ensures.new in
    let start = starts text (start_of text) parser.result refl (ap (λ x. x.stack) parser.ensures.new)
    (ap (λ x. x.count) parser.ensures.new) in
    let w = progress_of (start_of text) parser.result in
    let forest = c.run.new.parser.forest in
    let e = c.in_err-root.field-0.0 in
    subst (λ s. IsDerived s text c.from_residual.result) c.set-set.ensures
    (fault_with set text parser.ensures.machine parser.result.machine w forest e c.from_residual.result machine start
    (subst (λ s. IsClosed (scan_part_of s) parser.result.machine w forest (Err e)) (sym c.set-set.ensures)
    c.in_err-root.ensures.closed) c.from_residual.ensures.1)

pub returns-in-Accepted : goal.returns-in-Accepted
returns-in-Accepted c =
    let parser = c.keeping_parser-parser in
    let set = c.set-set.result.now in
    let text = c.args.text.now in
    let machine = ap (λ x. x.machine) parser.ensures.new in
    let start = starts text (start_of text) parser.result refl (ap (λ x. x.stack) parser.ensures.new)
    (ap (λ x. x.count) parser.ensures.new) in
    let w = progress_of (start_of text) parser.result in
    let forest = c.run.new.parser.forest in
    let closed = subst (λ s. IsClosed (scan_part_of s) parser.result.machine w forest (Ok c.in_ok-root.field-0))
    (sym c.set-set.ensures) c.in_ok-root.ensures.closed in
    let v = closed.0 in
    let tokens = c.in_ok-tokens-in-Accepted.tokens in
    let x : Derivation = record { forest = c.into_forest.result; root = c.in-Accepted.root; tokens = tokens } in
    subst (λ s. IsDerived s text (Ok (Accepted x))) c.set-set.ensures
    (accepted_with set text parser.ensures.machine forest c.in-Accepted.root v x
    (said_by set text parser.ensures.machine parser.result.machine w v machine start closed.1)
    (subst (λ ended. IsVerdictOf forest ended v) c.in-Accepted.is closed.2) c.into_forest.ensures refl
    (subst (λ s. AreSpansOf (scan_part_of s) text tokens.items) (sym c.set-set.ensures)
    c.in_ok-tokens-in-Accepted.ensures))

pub returns : goal.returns
returns c =
    let parser = c.keeping_parser-parser in
    let set = c.set-set.result.now in
    let text = c.args.text.now in
    let machine = ap (λ x. x.machine) parser.ensures.new in
    let start = starts text (start_of text) parser.result refl (ap (λ x. x.stack) parser.ensures.new)
    (ap (λ x. x.count) parser.ensures.new) in
    let w = progress_of (start_of text) parser.result in
    let forest = c.run.new.parser.forest in
    let closed = subst (λ s. IsClosed (scan_part_of s) parser.result.machine w forest (Ok c.in_ok-root.field-0))
    (sym c.set-set.ensures) c.in_ok-root.ensures.closed in
    let v = closed.0 in
    subst (λ s. IsDerived s text (Ok (Refused c.in-Refused.syntax_error))) c.set-set.ensures
    (refused_with set text parser.ensures.machine forest c.in-Refused.syntax_error v
    (said_by set text parser.ensures.machine parser.result.machine w v machine start closed.1)
    (subst (λ ended. IsVerdictOf forest ended v) c.in-Refused.is closed.2))
