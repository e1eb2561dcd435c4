use Rattle.std.proofs.Common.{◌∙◌, List, ℕ, subst, sym}
use Rattle.ly_base.proofs.GapLemmas.{at_none}
use Rattle.ly_lexread.specs.Definitions.{Directs}
use Rattle.ly_lexread.specs.declared.directive.Directed.TheVariants.{Inclusive, Exclusive}
use Rattle.ly_lexread.proofs.DirectiveLemmas.{directive_behind, directive_by, idle, no_directive}
use Rattle.ly_lexread.specs.Lines.{left_in}
use Rattle.ly_lexread.specs.declared.rest.Line.{Line}
use Rattle.ly_lexread.proofs.directive.read_directive.Goals as goal

-- how many bytes of the file are left
abbrev left_from : Line → List ℕ → ℕ
left_from l = left_in l.text.bytes.now l.bytes.now

pub returns-in_default-clause-these : goal.returns-in_default-clause-these
returns-in_default-clause-these c = rw c.fault.ensures.1 (
  λ h. h,
  λ _ all d. no_directive (left_from c.args.line) c.args.conditions all c.args.line.bytes.now
      (at_none c.directive_word.result _ _ c.in_default.not-Some c.directive_word.ensures) d,
)

pub returns-in-Inclusive-clause-these : goal.returns-in-Inclusive-clause-these
returns-in-Inclusive-clause-these c = directive_by (left_from c.args.line) c.args.conditions c.args.line.bytes.now
    c.in-Some.ensures.0 c.in-Some.word.now
    c.in-Some.rest.now Inclusive c.declare.result c.in-Some.ensures.1 c.in-Some.ensures.2
    (sym c.directive_of-directed.ensures ∙ c.in-Inclusive.is) c.declare.ensures.these

pub returns-in-Exclusive-clause-these : goal.returns-in-Exclusive-clause-these
returns-in-Exclusive-clause-these c = directive_by (left_from c.args.line) c.args.conditions c.args.line.bytes.now
    c.in-Some.ensures.0 c.in-Some.word.now
    c.in-Some.rest.now Exclusive c.declare-in-Exclusive.result c.in-Some.ensures.1 c.in-Some.ensures.2
    (sym c.directive_of-directed.ensures ∙ c.in-Exclusive.is) c.declare-in-Exclusive.ensures.these

pub returns-else-is_idle-clause-these : goal.returns-else-is_idle-clause-these
returns-else-is_idle-clause-these c = rw c.fault-else-is_idle.ensures.1 (
  λ h. h,
  λ _ all d.
      let directed = c.directive_of-directed.result in
      let rest = c.in-Some.rest.now in
      let from = left_from c.args.line in
      let s = directive_behind from c.args.conditions all c.args.line.bytes.now c.in-Some.ensures.0 c.in-Some.word.now
      rest c.in-Some.ensures.1 c.in-Some.ensures.2 d in
      c.if-is_idle.ensures (idle directed from c.args.conditions all rest c.in_default-directed.not-Inclusive
      c.in_default-directed.not-Exclusive
      (subst (λ i. Directs i from c.args.conditions rest all) (sym c.directive_of-directed.ensures) s)).1,
)
