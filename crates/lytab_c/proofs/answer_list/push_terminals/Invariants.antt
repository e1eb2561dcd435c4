use Rattle.std.proofs.Common.{◌≡◌, ◌++◌, map, take}
use Rattle.lytab_c.proofs.answer_list.push_terminals.Given as goal

abbrev pub invariant-loop-terminal : goal.invariant-loop-terminal
invariant-loop-terminal l = l.numbers.items ≡ l.fn.numbers.items
    ++ map (λ t. t.0) (take l.terminal-index l.terminals)
