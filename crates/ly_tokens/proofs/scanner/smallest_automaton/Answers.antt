use Rattle.ly_tokens.proofs.RowAgreementLemmas.{same_rules_agree}
use Rattle.ly_tokens.proofs.scanner.smallest_automaton.Goals as goal

pub returns-clause-agrees : goal.returns-clause-agrees
returns-clause-agrees c =
    let scanner = c.in_ok-subsets.ensures.scanner in
    same_rules_agree c.requires.spelled.0 c.args.file.now c.requires.spelled.1 scanner.nfa c.in_ok-subsets.subsets
    scanner.positions scanner.subsets c.in_ok-minimise.field-0 c.in_ok-minimise.ensures.same
