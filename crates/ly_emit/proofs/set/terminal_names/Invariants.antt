use Rattle.std.proofs.Common.{◌≡◌, ◌<◌, All, map, take}
use Rattle.ly_join.specs.Terminals.{terminal_from}
use Rattle.ly_report.specs.Report.{terminal_name}
use Rattle.ly_emit.proofs.set.terminal_names.Given as goal

-- the names of the terminals before this one are listed, and consist of bytes
abbrev pub invariant-loop-terminal : goal.invariant-loop-terminal
invariant-loop-terminal l = record {
  names : map (λ name. name.items) l.names.items
      ≡ map terminal_name (map terminal_from (take l.terminal-index l.terminal-items));
  bytes : All (λ name. All (λ byte. byte < 256) name.items) l.names.items;
}
