use Rattle.std.proofs.Common.{◌∙◌, ap, slice_get, subst, sym}
use Rattle.std.specs.Prelude.{Contains, IfSome}
use Rattle.std.proofs.lemmas.Option.{slice_get_within}
use Rattle.ly_join.proofs.ListLemmas.{member_at}
use Rattle.ly_counterexamples.specs.Examples.{IsSearchResult}
use Rattle.ly_conflicts.specs.Groups.{most_demands}
use Rattle.ly_conflicts.specs.GroupReport.{AreTerminalsOf}
use Rattle.ly_conflicts.proofs.ToldLemmas.{first_at, first_index}
use Rattle.ly_conflicts.proofs.conflicts.Reporter.report.Goals as goal

pub terminals-requires : goal.terminals-requires
terminals-requires c = λ i has.
    let one = c.requires.group.alike i (subst (λ xs. Contains xs i) c.deref.ensures.value has) in
    slice_get_within c.args.self.now.examples.now.conflicts i one.0 one.1

pub shown-requires-clause-conflict : goal.shown-requires-clause-conflict
shown-requires-clause-conflict c =
    member_at c.args.self.now.examples.now.conflicts c.index.result.now _ c.conflict-conflict.ensures.at

pub shown-requires-clause-example : goal.shown-requires-clause-example
shown-requires-clause-example c =
    let r = c.args.self.now.examples.now in
    let first = first_index r c.args.group.now c.requires.group c.index.result.now c.index.ensures in
    subst (λ x. IfSome c.args.group.now.example (IsSearchResult r.automaton x most_demands))
    (first_at r c.args.group.now c.requires.group c.index.result.now c.conflict-conflict.result first.0
    c.conflict-conflict.ensures) c.requires.group.example

pub returns-clause-report : goal.returns-clause-report
returns-clause-report c =
    let r = c.args.self.now.examples.now in
    let group = c.requires.group in
    let first = first_index r c.args.group.now group c.index.result.now c.index.ensures in
    record {
      first = group.first;
      begins = group.begins;
      is = ap (slice_get r.conflicts) (sym first.0) ∙ c.conflict-conflict.ensures.at;
      terminals = subst (λ xs. AreTerminalsOf r xs c.in_ok-terminals.field-0.items) c.deref.ensures.value
          c.in_ok-terminals.ensures;
      shown = c.in_ok-shown.ensures.shown;
      other = c.in_ok-other.ensures.other;
    }
