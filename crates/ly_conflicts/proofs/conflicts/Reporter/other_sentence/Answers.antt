use Rattle.std.proofs.lemmas.List.Elements.{Contains-get_or}
use Rattle.ly_conflicts.proofs.conflicts.Reporter.other_sentence.Goals as goal

pub conflict-conflict-requires : goal.conflict-conflict-requires
conflict-conflict-requires c = c.requires.indices _
    (Contains-get_or c.args.group.now c.loop-index.index-index 0 c.loop-index-test.true)
