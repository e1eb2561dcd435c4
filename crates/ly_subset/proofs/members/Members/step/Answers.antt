use Rattle.std.proofs.Common.{◌∙◌, ℕ, ap, subst, sym, Contains}
use Rattle.std.specs.Prelude.{◌↔◌}
use Rattle.ly_position.specs.Nfa.{Stepped}
use Rattle.ly_subset.specs.Private.Members.{listed}
use Rattle.ly_subset.proofs.members.Members.step.Goals as goal

pub returns-in_ok-numbers-in-Span-clause-members : goal.returns-in_ok-numbers-in-Span-clause-members
returns-in_ok-numbers-in-Span-clause-members c = subst (λ ps. (q : ℕ) → Contains c.step.new.into.positions.members q
    ↔ Stepped c.args.nfa.now ps c.args.byte q)
    (c.deref.ensures.value ∙ c.in_ok-numbers-in-Span.ensures ∙ sym (ap listed c.in-Span.is)) c.step.ensures.members

pub returns-in-List-clause-members : goal.returns-in-List-clause-members
returns-in-List-clause-members c = subst (λ ps. (q : ℕ) → Contains c.step-in-List.new.into.positions.members q
    ↔ Stepped c.args.nfa.now ps c.args.byte q)
    (c.deref-in-List.ensures.value ∙ sym (ap listed c.in-List.is)) c.step-in-List.ensures.members
