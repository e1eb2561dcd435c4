use Rattle.ly_position.specs.Private.Plain.{Makes, expression_at}
use Rattle.ly_position.specs.Private.Slim.{slim_up_to}
use Rattle.ly_position.proofs.plain.Plain.at_most.Given as goal

abbrev pub invariant-loop : goal.invariant-loop
invariant-loop l = Makes l.fn.self l.self l.rest (slim_up_to l.counter (expression_at l.fn.self l.fn.part))
