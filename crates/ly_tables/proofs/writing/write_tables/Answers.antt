use Rattle.std.proofs.lemmas.Bool.{false≢true}
use Rattle.ly_tables.proofs.VersionLemmas.{beyond}
use Rattle.ly_tables.proofs.writing.write_tables.Goals as goal

pub returns-then-not-is_within-clause-too_large : goal.returns-then-not-is_within-clause-too_large
returns-then-not-is_within-clause-too_large c = λ refused. beyond c.args.version c.args.set.now
    c.if-not-is_within.ensures.kept (λ within. false≢true (c.if-not-is_within.ensures.within.1 within))
