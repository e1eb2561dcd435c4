use Rattle.std.proofs.Common.{ap, arith, false, true}
use Rattle.ly_join.specs.Grammar.{symbol_of}
use Rattle.ly_lr0.specs.Automaton.{is_terminal}
use Rattle.ly_lr0.proofs.RowLemmas.{row_leads, row_ordered, row_there}
use Rattle.ly_lr0.proofs.lr0.Lr0.row_over.Goals as goal

pub index-row-requires : goal.index-row-requires
index-row-requires c = omega (arith, row_there c.self.invariant c.self.view_is c.args.state.0 c.requires)

pub returns-in-Terminal-clause-ordered : goal.returns-in-Terminal-clause-ordered
returns-in-Terminal-clause-ordered c = row_ordered c.self.invariant c.self.view_is c.args.state.0 c.requires
    c.index-row.result.now c.index-row.ensures true c.deref.ensures.value

pub returns-in-Terminal-clause-leads : goal.returns-in-Terminal-clause-leads
returns-in-Terminal-clause-leads c = row_leads c.self.invariant c.self.view_is c.args.state.0 c.requires
    c.index-row.result.now c.index-row.ensures true c.deref.ensures.value (symbol_of c.args.symbol)
    (ap (λ x. is_terminal (symbol_of x)) c.in-Terminal.is)

pub returns-in-Nonterminal-clause-ordered : goal.returns-in-Nonterminal-clause-ordered
returns-in-Nonterminal-clause-ordered c = row_ordered c.self.invariant c.self.view_is c.args.state.0 c.requires
    c.index-row.result.now c.index-row.ensures false c.deref-in-Nonterminal.ensures.value

pub returns-in-Nonterminal-clause-leads : goal.returns-in-Nonterminal-clause-leads
returns-in-Nonterminal-clause-leads c = row_leads c.self.invariant c.self.view_is c.args.state.0 c.requires
    c.index-row.result.now c.index-row.ensures false c.deref-in-Nonterminal.ensures.value (symbol_of c.args.symbol)
    (ap (λ x. is_terminal (symbol_of x)) c.in-Nonterminal.is)
