use Rattle.std.proofs.Common.{◌≡◌, ◌++◌, codes, map, take}
use Rattle.std.specs.List.{flat_map}
use Rattle.ly_feed.specs.Private.Running.{words_of}
use Rattle.ly_feed.proofs.lines.push_expected_line.Given as goal

-- the first terminals stand on the line
abbrev pub invariant-loop-terminal : goal.invariant-loop-terminal
invariant-loop-terminal l = l.line.items ≡ (l.fn.line.items ++ codes "expected:")
    ++ flat_map (λ t. codes " " ++ (words_of l.names).terminal t) (map (λ t. t.0) (take l.terminal-index l.expected))
