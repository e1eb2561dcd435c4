use Rattle.std.proofs.Common.{◌≡◌, ◌-◌, length}
use Rattle.ly_lr0.specs.Private.Construction.{IsConstruction}
use Rattle.ly_lr0.proofs.construct.automaton.Given as goal

-- the rows before this one are made
abbrev pub invariant-loop-construction : goal.invariant-loop-construction
invariant-loop-construction l = record {
  made : IsConstruction l.construction;
  reduced : l.construction.found.reduced.now ≡ l.reduced;
  limit : l.construction.found.limit ≡ l.limits.parser_states;
}

abbrev pub decreases-loop-construction : goal.decreases-loop-construction
decreases-loop-construction l = l.construction.found.limit - length l.construction.found.rows.items
