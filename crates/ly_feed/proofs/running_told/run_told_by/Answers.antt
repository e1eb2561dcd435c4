use Rattle.ly_feed.specs.Onward.{none_yet}
use Rattle.ly_feed.proofs.running_told.run_told_by.Goals as goal

pub returns-in_default-clause-runs : goal.returns-in_default-clause-runs
returns-in_default-clause-runs c ended = (none_yet, c.requires.goes_on)

pub returns-then-reaches-clause-runs : goal.returns-then-reaches-clause-runs
returns-then-reaches-clause-runs c ended = (none_yet, c.requires.goes_on)

pub returns-in-None-clause-runs : goal.returns-in-None-clause-runs
returns-in-None-clause-runs c ended = (none_yet, c.requires.goes_on)
