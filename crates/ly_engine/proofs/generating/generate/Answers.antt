use Rattle.ly_engine.proofs.generating.generate.Goals as goal

pub written-tables-requires : goal.written-tables-requires
written-tables-requires c = c.in_ok-generated.ensures.generated.0.generated.within
