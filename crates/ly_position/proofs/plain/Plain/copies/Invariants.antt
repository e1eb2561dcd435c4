use Rattle.ly_position.specs.Private.Plain.{Makes, expression_at}
use Rattle.ly_position.specs.Private.Slim.{slim_copies}
use Rattle.ly_position.proofs.plain.Plain.copies.Given as goal

abbrev pub invariant-loop : goal.invariant-loop
invariant-loop l = Makes l.fn.self l.self l.all
    (slim_copies l.counter (expression_at l.fn.self l.fn.part) (expression_at l.fn.self l.fn.last))
