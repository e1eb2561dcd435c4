use Rattle.std.proofs.Common.{arith}
use Rattle.std.proofs.lemmas.List.Elements.{Contains-get_or}
use Rattle.ly_loop.proofs.ByRuleLemmas.{no_rule}
use Rattle.ly_loop.proofs.listed.Listed.first_wanted.Goals as goal

pub by_rule-requires-clause-rule : goal.by_rule-requires-clause-rule
by_rule-requires-clause-rule g c =
    c.requires.rules.rules _ (Contains-get_or c.args.rules.now c.loop-place.place no_rule (omega arith))
