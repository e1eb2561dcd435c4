use Rattle.std.proofs.Common.{◌≡◌, ◌∙◌, suc, ap, arith, sym}
use Rattle.std.specs.Prelude.{option_map, slice_get}
use Rattle.ly_join.specs.Grammar.{symbol_of}
use Rattle.ly_lr0.proofs.LawLemmas.{last_symbol}
use Rattle.ly_lr0.proofs.RowLemmas.{first_by_links, is_automaton, last_by_link, link_there}
use Rattle.ly_lr0.proofs.lr0.Lr0.accessing_symbol.Goals as goal

pub returns-in_err-before-clause-last : goal.returns-in_err-before-clause-last
returns-in_err-before-clause-last c = ap (option_map symbol_of) c.from_residual.ensures
    ∙ sym (ap (λ g. slice_get g 0) (first_by_links c.self.invariant c.self.view_is c.args.state.0 (omega arith)))

pub returns-in_err-before-clause-only : goal.returns-in_err-before-clause-only
returns-in_err-before-clause-only c = λ q X e. returns-in_err-before-clause-last c
    ∙ last_symbol c.args.self.now (is_automaton c.self.invariant c.self.view_is) q X c.args.state.0 e

pub index-requires : goal.index-requires
index-requires c = omega (arith, link_there c.self.invariant c.self.view_is c.in_ok-before.before (omega arith))

pub returns-clause-last : goal.returns-clause-last
returns-clause-last c =
    let state : suc c.in_ok-before.before ≡ c.args.state.0 = omega arith in
    sym (last_by_link c.self.invariant c.self.view_is c.args.state.0 c.in_ok-before.before state c.requires
    c.index.result.now c.index.ensures)

pub returns-clause-only : goal.returns-clause-only
returns-clause-only c = λ q X e. returns-clause-last c
    ∙ last_symbol c.args.self.now (is_automaton c.self.invariant c.self.view_is) q X c.args.state.0 e
