use Rattle.std.proofs.Common.{◌≡◌, ◌++◌, map, take}
use Rattle.ly_feed.specs.JsonLines.{behind_commas}
use Rattle.ly_feed.specs.Private.Running.{words_of}
use Rattle.ly_feed.proofs.json_lines.push_behind_commas.Given as goal

-- the first terminals stand on the line
abbrev pub invariant-loop-terminal : goal.invariant-loop-terminal
invariant-loop-terminal l = l.line.items ≡ l.fn.line.items
    ++ behind_commas (words_of l.names) (map (λ t. t.0) (take l.terminal-index l.terminals))
