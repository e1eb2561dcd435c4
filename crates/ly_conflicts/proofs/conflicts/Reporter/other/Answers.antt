use Rattle.std.proofs.Common.{subst}
use Rattle.std.specs.Prelude.{Contains, IfOk}
use Rattle.std.proofs.lemmas.Option.{slice_get_within}
use Rattle.ly_conflicts.specs.GroupReport.{IsOtherIn}
use Rattle.ly_conflicts.proofs.conflicts.Reporter.other.Goals as goal

pub other_sentence-requires-clause-indices : goal.other_sentence-requires-clause-indices
other_sentence-requires-clause-indices c = λ i has.
    let one = c.requires.group.alike i (subst (λ xs. Contains xs i) c.deref.ensures.value has) in
    slice_get_within c.args.self.now.examples.now.conflicts i one.0 one.1

pub returns-clause-other : goal.returns-clause-other
returns-clause-other c = subst (λ xs. IfOk c.other_sentence.result (IsOtherIn c.args.self.now.examples.now xs))
    c.deref.ensures.value c.other_sentence.ensures.other
