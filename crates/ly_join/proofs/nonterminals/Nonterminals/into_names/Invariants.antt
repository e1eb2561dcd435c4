use Rattle.std.proofs.Common.{◌≡◌, map, take}
use Rattle.ly_join.proofs.nonterminals.Nonterminals.into_names.Given as goal

abbrev pub invariant-loop-name : goal.invariant-loop-name
invariant-loop-name l = map (λ n. n.items) l.names.items ≡ take l.name-index (map (λ k. k.now) l.keys)
