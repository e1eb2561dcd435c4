-- What two files say within the limits, and the automata that are made of it, a table file of a version can hold.
use Rattle.std.proofs.Common.{◌≡◌, ◌∙◌, ◌<◌, ◌≤◌, ℕ, List, Some, None, ap, arith, length, slice_get, sym}
use Rattle.std.proofs.lemmas.Option.{get_or_from_slice_get, slice_get_within}
use Rattle.ly_base.specs.Limits.{AreBounded, Sizes, sizes_in}
use Rattle.ly_base.specs.declared.version.Version.{Version}
use Rattle.ly_emit.specs.FitsFile.{FitsFile}
use Rattle.ly_generate.specs.Accepted.{Specifies}
use Rattle.ly_tokens.specs.Agreement.{Agrees}
use Rattle.ly_tokens.specs.RowWalk.{cut_in, row_walk, rows_of}
use Rattle.ly_generate.proofs.FitGrammarLemmas.{grammar_within}
use Rattle.ly_generate.proofs.FitScannerLemmas.{scanner_within}
use Rattle.ly_tokens.proofs.RowAgreementLemmas.{row_walk-says, same_rules_agree}
use Rattle.ly_ere.specs.Names.{defined}
use Rattle.ly_grammar.specs.Reduction.{KeepsUseful}
use Rattle.ly_join.specs.Joined.{Spec}
use Rattle.ly_join.specs.Scanning.{scanning_of}
use Rattle.ly_lr0.specs.Automaton as parser
use Rattle.ly_minim.specs.Smallest.{HaveSameRules, IsReducedAutomaton}
use Rattle.ly_minim.proofs.WalkLemmas.{smallest}
use Rattle.ly_position.specs.Nfa.{Nfa}
use Rattle.ly_position.specs.Patterns.{ArePositions}
use Rattle.ly_position.specs.Spots.{HasPositions}
use Rattle.ly_position.proofs.SpotLemmas.{positions_live}
use Rattle.ly_scan.specs.StateWalk.{says}
use Rattle.ly_subset.specs.Automaton.{Automaton, IsAutomaton, IsTrim}
use Rattle.ly_subset.specs.Subsets.{AreSubsets}
use Rattle.ly_subset.proofs.LawLemmas.{trim}

module _ (v : Version) (limits : Sizes) (lex yacc : List ℕ) (s : Spec) (given : Specifies limits lex yacc s)
    (bounded : AreBounded (sizes_in v) limits) (nfa : Nfa) (A walk : Automaton)
    (positions : ArePositions (defined given.file.names) given.file.rules.items given.file.conditions nfa)
    (spots : HasPositions (defined given.file.names) given.file.rules.items given.file.conditions nfa)
    (subsets : AreSubsets nfa given.file.conditions A) (whole : IsAutomaton A)
    (few_sets : length A.rules ≤ limits.scanner_states) (same : HaveSameRules A walk)
    (reduced : IsTrim A → IsReducedAutomaton walk) (starts : walk.starts ≡ A.starts) where
  smallest_walk : IsReducedAutomaton walk
  smallest_walk = reduced (trim nfa given.file.conditions A subsets whole
      (positions_live (defined given.file.names) given.file.rules.items given.file.conditions nfa spots))

  few_states : length walk.rules ≤ limits.scanner_states
  few_states = let le = smallest walk A smallest_walk whole (λ c line w. sym (same c line w)) in
      omega (arith, le, few_sets)

  -- what a state accepts is a rule of the file, for the state is reached
  accepted_there : (k p : ℕ) → slice_get walk.rules k ≡ Some (Some p) → p < length given.file.rules.items
  accepted_there k p at =
      let agrees : Agrees (defined given.file.names) given.file.rules.items
      (record { walk = row_walk walk; cut = cut_in given.file.rules.items })
      = same_rules_agree lex given.file given.lex_text nfa A positions subsets walk same in
      let reached = smallest_walk.trim.reached k (slice_get_within walk.rules k (Some p) at) in
      let said : row_walk walk reached.0 reached.1 reached.2 ≡ Some (Some p)
      = row_walk-says walk reached.0 reached.1 reached.2 ∙ ap (says (rows_of walk)) reached.3
      ∙ ap Some (get_or_from_slice_get walk.rules k (Some p) None at) in
      let string = agrees.belongs reached.0 reached.1 reached.2 p said in
      slice_get_within given.file.rules.items p string.rule string.is_active.is_rule

  -- so a table set of them can be made
  pub fits_file : (M : parser.Lr0Automaton) → parser.IsLr0Automaton M → KeepsUseful s.grammar M.grammar
      → length M.states ≤ limits.parser_states → FitsFile v s given.file.rules.items walk M
  fits_file M is useful few = record {
    grammar = grammar_within v limits yacc (scanning_of given.file) given.written s bounded given.yacc_text
        given.joined given.within M is useful few;
    scanner = scanner_within v limits lex given.file given.written s bounded given.lex_text given.joined given.within
        given.weight walk (starts ∙ subsets.two_starts) few_states accepted_there;
  }
