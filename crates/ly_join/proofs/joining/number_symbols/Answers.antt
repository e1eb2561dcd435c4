use Rattle.std.proofs.Common.{◌≢◌, ◌∷◌, AllPairs, Contains, map, subst, sym}
use Rattle.std.specs.List.{flat_map}
use Rattle.std.proofs.lemmas.List.Elements.{Contains-append_left}
use Rattle.ly_yaccread.specs.File.{declared_of, ruling_of, written_of}
use Rattle.ly_join.specs.Numbering.{appearing, declared_terminals, rule_literals}
use Rattle.ly_join.specs.Precedences.{given}
use Rattle.ly_join.specs.Private.Rules.{AreGiven}
use Rattle.ly_join.specs.Terminals.{end, same_terminal, undefined}
use Rattle.ly_join.proofs.GivenLemmas.{given_zip}
use Rattle.ly_join.proofs.JoinLemmas.{terminal_there}
use Rattle.ly_join.proofs.NumberingLemmas.{first_once}
use Rattle.ly_join.proofs.TableLemmas.{same_itself, same_sound}
use Rattle.ly_join.proofs.joining.number_symbols.Goals as goal

pub precedences-requires-clause-once : goal.precedences-requires-clause-once
precedences-requires-clause-once c =
    subst (λ ts. AllPairs (λ x y. x ≢ y) ts) (sym c.in_ok-terminals.ensures)
    (first_once same_terminal same_sound same_itself (end ∷ undefined ∷ appearing (written_of c.args.yacc.now)))

pub precedences-requires-clause-all : goal.precedences-requires-clause-all
precedences-requires-clause-all c = λ x there.
    subst (λ ts. Contains ts x) (sym c.in_ok-terminals.ensures)
    (terminal_there (written_of c.args.yacc.now) x
    (Contains-append_left (flat_map declared_terminals (map declared_of c.args.yacc.now.declarations.items))
    (flat_map rule_literals (map ruling_of c.args.yacc.now.rules.items)) x
    (subst (λ ds. Contains (flat_map declared_terminals (map declared_of ds)) x) c.deref.ensures.value there)))

pub returns-clause-ok : goal.returns-clause-ok
returns-clause-ok c =
    let ts = c.in_ok-terminals.terminals in
    let ps = c.in_ok-precedences.precedences.items in
    let all = given (map declared_of c.args.yacc.now.declarations.items) in
    let found : AreGiven all ts ps
    = subst (λ ds. AreGiven (given (map declared_of ds)) ts ps) c.deref.ensures.value c.in_ok-precedences.ensures.ok in
    record {
      terminals = c.in_ok-terminals.ensures;
      nonterminals = c.in_ok-nonterminals.ensures;
      precedences = given_zip all ts ps found.long found.each;
      once = found.once;
    }
