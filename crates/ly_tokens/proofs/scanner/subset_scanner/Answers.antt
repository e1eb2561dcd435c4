use Rattle.std.proofs.Common.{◌≤◌, ◌<◌, List, Err, ap, refl, subst}
use Rattle.ly_ere.specs.Names.{defined}
use Rattle.ly_ere.specs.declared.pattern.Rule.{Rule}
use Rattle.ly_position.specs.Patterns.{ArePositions}
use Rattle.ly_position.specs.Spots.{HasPositions}
use Rattle.ly_position.specs.TotalWeight.{total_weight}
use Rattle.ly_subset.proofs.RuleSetLemmas.{more_sets_of_rules, no_more_sets_than_states, subsets_are_spot_sets}
use Rattle.ly_tokens.specs.ScannerFault.{HasNoScanner, fault_of_positions, fault_of_states}
use Rattle.ly_tokens.proofs.ScannerFaultLemmas.{err_is, too_heavy, too_many}
use Rattle.ly_tokens.proofs.scanner.subset_scanner.Goals as goal

pub returns-in_err-nfa-clause-refused : goal.returns-in_err-nfa-clause-refused
returns-in_err-nfa-clause-refused c =
    let file = c.args.file.now in
    let limits = c.args.limits.now in
    let f = c.in_err-nfa.field-0.0 in
    err_is c.from_residual.result (fault_of_positions f) (HasNoScanner limits file) c.from_residual.ensures.1
    (too_heavy limits file f (λ is. (
      refl,
      subst (λ (rs : List Rule). limits.total_weight < total_weight (defined file.names) rs)
          c.deref.ensures.value (c.in_err-nfa.ensures.heavy (ap Err is)),
    )))

pub returns-in_err-subsets-clause-refused : goal.returns-in_err-subsets-clause-refused
returns-in_err-subsets-clause-refused c =
    let file = c.args.file.now in
    let names = defined file.names in
    let limits = c.args.limits.now in
    let f = c.in_err-subsets.field-0.0 in
    let spots : HasPositions names file.rules.items file.conditions c.in_ok-nfa.nfa =
    subst (λ (rs : List Rule). HasPositions names rs file.conditions c.in_ok-nfa.nfa) c.deref.ensures.value
    c.in_ok-nfa.ensures.spots in
    err_is c.from_residual-in_err-subsets.result (fault_of_states f) (HasNoScanner limits file)
    c.from_residual-in_err-subsets.ensures.1
    (too_many limits file f (λ is. (
      refl,
      subst (λ (rs : List Rule). total_weight names rs ≤ limits.total_weight) c.deref.ensures.value
          c.in_ok-nfa.ensures.light,
      (more_sets_of_rules names file.rules.items file.conditions c.in_ok-nfa.nfa limits.scanner_states spots).0
          (c.in_err-subsets.ensures.many (ap Err is)),
    )))

pub returns-clause-few : goal.returns-clause-few
returns-clause-few c =
    let file = c.args.file.now in
    let names = defined file.names in
    let spots : HasPositions names file.rules.items file.conditions c.in_ok-nfa.nfa =
    subst (λ (rs : List Rule). HasPositions names rs file.conditions c.in_ok-nfa.nfa) c.deref.ensures.value
    c.in_ok-nfa.ensures.spots in
    no_more_sets_than_states names file.rules.items file.conditions c.in_ok-subsets.field-0
    c.args.limits.now.scanner_states
    (subsets_are_spot_sets names file.rules.items file.conditions c.in_ok-nfa.nfa c.in_ok-subsets.field-0 spots
    c.in_ok-subsets.ensures.subsets c.in_ok-subsets.ensures.whole) c.in_ok-subsets.ensures.few

pub returns-clause-scanner : goal.returns-clause-scanner
returns-clause-scanner c =
    let file = c.args.file.now in
    let names = defined file.names in
    record {
      nfa = c.in_ok-nfa.nfa;
      positions = subst (λ (rs : List Rule). ArePositions names rs file.conditions c.in_ok-nfa.nfa)
          c.deref.ensures.value c.in_ok-nfa.ensures.positions;
      spots = subst (λ (rs : List Rule). HasPositions names rs file.conditions c.in_ok-nfa.nfa) c.deref.ensures.value
          c.in_ok-nfa.ensures.spots;
      subsets = c.in_ok-subsets.ensures.subsets;
      whole = c.in_ok-subsets.ensures.whole;
    }
