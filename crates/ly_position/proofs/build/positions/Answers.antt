use Rattle.std.proofs.Common.{map}
use Rattle.ly_ere.specs.Names.{defined}
use Rattle.ly_position.specs.Private.Program.{step_of}
use Rattle.ly_position.proofs.AutomatonLemmas.{assembled, assembled_places}
use Rattle.ly_position.proofs.build.positions.Goals as goal

pub returns-clause-positions : goal.returns-clause-positions
returns-clause-positions c =
    assembled (defined c.args.names.now) c.args.rules.now c.in_ok-plan.plan.plain c.in_ok-plan.plan.parts.items
    (map step_of c.in_ok-program.program.instructions.items) c.in_ok-program.program.entries.items c.args.conditions
    c.in_ok-assemble.field-0
    c.in_ok-plan.ensures c.in_ok-program.ensures c.in_ok-assemble.ensures

pub returns-clause-spots : goal.returns-clause-spots
returns-clause-spots c =
    assembled_places (defined c.args.names.now) c.args.rules.now c.in_ok-plan.plan.plain c.in_ok-plan.plan.parts.items
    (map step_of c.in_ok-program.program.instructions.items) c.in_ok-program.program.entries.items c.args.conditions
    c.in_ok-assemble.field-0
    c.in_ok-plan.ensures c.in_ok-program.ensures c.in_ok-assemble.ensures
