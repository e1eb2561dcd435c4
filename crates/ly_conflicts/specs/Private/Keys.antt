-- What conflicts that are told together have in common, as it is kept.
use Rattle.std.specs.Prelude.{Bool, false, true, Option, None}
use Rattle.ly_resolve.specs.declared.action.Action.{Action}
use Rattle.ly_resolve.specs.declared.action.Action.TheVariants.{Shift, Reduce, Error}
use Rattle.ly_resolve.specs.declared.conflict.Conflict.{Conflict}
use Rattle.ly_resolve.specs.declared.conflict.ConflictKind.{ConflictKind}
use Rattle.ly_resolve.specs.declared.conflict.ConflictKind.TheVariants.{ShiftReduce, ReduceReduce}
use Rattle.ly_counterexamples.specs.declared.example.Example.{Example}
use Rattle.ly_conflicts.specs.declared.common.ExampleKind.{ExampleKind}
use Rattle.ly_conflicts.specs.declared.common.Choice.{Choice}
use Rattle.ly_conflicts.specs.declared.common.Choice.TheVariants as choice
use Rattle.ly_conflicts.specs.declared.common.Common.{Common}
use Rattle.ly_conflicts.specs.declared.common.Key.{Key}
use Rattle.ly_conflicts.specs.Groups.{answer_from}

abbrev pub choice_from : Action → Choice
choice_from Shift = choice.Shift
choice_from (Reduce p) = choice.Reduction p.0
choice_from Error = choice.Refusal

abbrev pub is_shift : ConflictKind → Bool
is_shift ShiftReduce = true
is_shift ReduceReduce = false

abbrev pub common_from : Conflict → Common
common_from c = record {
  state = c.state.0;
  rule = c.rule.0;
  choice = choice_from c.choice;
  is_shift = is_shift c.kind;
}

-- of a shift nothing is asked
abbrev pub asked_of : ConflictKind → Option Example → Option ExampleKind
asked_of ShiftReduce example = None
asked_of ReduceReduce example = answer_from example

abbrev pub key_from : Conflict → Option Example → Key
key_from c example = record { common = common_from c; answer = asked_of c.kind example }
