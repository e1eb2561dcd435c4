use Rattle.std.proofs.Common.{◌<◌, sym, subst, length, [], ◌∷◌}
use Rattle.ly_join.specs.Grammar.{symbol_of}
use Rattle.ly_join.specs.declared.symbol.Symbol.TheVariants.{Terminal}
use Rattle.ly_grammar.specs.Private.First.{AreAdded}
use Rattle.ly_grammar.proofs.FirstLemmas.{inserted}
use Rattle.ly_grammar.proofs.first.add_first.Goals as goal

pub returns-in_ok-insert-in-Terminal-clause-sets : goal.returns-in_ok-insert-in-Terminal-clause-sets
returns-in_ok-insert-in-Terminal-clause-sets c =
    let m = c.args.sets.now in
    let lt : c.args.left < length m.sets = subst (λ n. c.args.left < n) (sym c.requires.rows) c.requires.left in
    subst (λ s. AreAdded m c.insert.new.self c.args.left (symbol_of s ∷ [])) (sym c.in-Terminal.is)
    (subst (λ n. AreAdded m n c.args.left (symbol_of (Terminal c.in-Terminal.terminal) ∷ []))
    (sym c.in_ok-insert-in-Terminal.ensures.ok)
    (inserted m c.args.left c.in-Terminal.terminal.0 lt))
