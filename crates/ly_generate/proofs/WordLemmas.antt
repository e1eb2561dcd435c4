-- Answers are written by the same words.
use Rattle.std.proofs.Common.{◌≡◌, ◌∙◌, ◌≤◌, ◌-◌, ℕ, zero, suc, List, [], ◌∷◌, Option, Some, None, ap, arith}
use Rattle.std.proofs.Common.{length, map, refl, slice_get, sym}
use Rattle.std.specs.Prelude.{option_map, unwrap_or}
use Rattle.std.proofs.lemmas.List.{length-map}
use Rattle.std.proofs.lemmas.Option.{slice_get-map, slice_get_past}
use Rattle.ly_print.specs.declared.answer_form.AnswerForm.{AnswerForm}
use Rattle.ly_feed.specs.Verdict.{Verdict, written_in}
use Rattle.ly_feed.specs.Vocabularies.{constructor_in, constructor_of, name_in, vocabulary_of}
use Rattle.ly_emit.specs.SetOf.{IsSetOf}
use Rattle.ly_emit.specs.Tables.{AreTables, shape_from, shape_in}
use Rattle.ly_ere.specs.declared.pattern.Rule as pattern
use Rattle.ly_generate.specs.SpecAnswer.{words_of}
use Rattle.ly_join.specs.Grammar as grammar
use Rattle.ly_join.specs.Grammar.{accept_rule}
use Rattle.ly_join.specs.Joined.{AreJoined, Joined, Note, Spec, SymbolTable, table_of}
use Rattle.ly_join.specs.Scanning.{Scanning}
use Rattle.ly_lr0.specs.Automaton.{Lr0Automaton}
use Rattle.ly_pack.specs.Machine.{TableRule}
use Rattle.ly_report.specs.Report.{terminal_name}
use Rattle.ly_subset.specs.Automaton as scanner
use Rattle.ly_tables.specs.TableSet.{TableSet}
use Rattle.ly_tree.specs.Shown.{Vocabulary}
use Rattle.ly_yaccread.specs.File.{Written}
use Rattle.ly_yaccread.specs.Rules.{Ruling}

-- vocabularies of the same words are one
one_vocabulary : (v w : Vocabulary) → ((t : ℕ) → v.terminal t ≡ w.terminal t)
    → ((p : ℕ) → v.constructor p ≡ w.constructor p) → v ≡ w
one_vocabulary v w terminals constructors =
    λ i. record { terminal = λ t. terminals t i; constructor = λ p. constructors p i }

-- where nothing stands the list has ended
none_past : {X : Type 0} (xs : List X) (k : ℕ) → slice_get xs k ≡ None → length xs ≤ k
none_past [] k e = omega arith
none_past (x ∷ xs) zero e = absurd cc
none_past (x ∷ xs) (suc k) e = omega (arith, none_past xs k e)

before_next : (p : ℕ) → p ≡ suc p - 1
before_next p = omega arith

-- each rule has its note
notes_of_rules : (m : SymbolTable) (rs : List Ruling) (rules : List grammar.GrammarRule) (notes : List Note)
    → AreJoined m rs rules notes → length notes ≡ length rules
notes_of_rules m [] [] [] h = refl
notes_of_rules m [] [] (n ∷ notes) h = absurd h
notes_of_rules m [] (rule ∷ rules) notes h = absurd h
notes_of_rules m (r ∷ rs) [] notes h = absurd h
notes_of_rules m (r ∷ rs) (rule ∷ rules) [] h = absurd h
notes_of_rules m (r ∷ rs) (rule ∷ rules) (n ∷ notes) h = ap suc (notes_of_rules m rs rules notes h.1)

module _ (x : Scanning) (w : Written) (s : Spec) (M : Lr0Automaton) (patterns : List pattern.Rule)
    (A : scanner.Automaton)
    (set : TableSet) (joined : Joined x w s) (of : IsSetOf s M patterns A set) where
  same_terminals : (t : ℕ) → name_in set.terminals t ≡ unwrap_or (option_map terminal_name (slice_get s.terminals t)) []
  same_terminals t = ap (λ names. name_in names t) of.terminals
      ∙ ap (λ o. unwrap_or o []) (slice_get-map terminal_name s.terminals t)

  all_rules : List grammar.GrammarRule
  all_rules = accept_rule (length s.nonterminals) s.grammar.start ∷ joined.rules

  rules_are : s.grammar.rules ≡ map Some all_rules
  unfolding all_rules
  rules_are = ap (λ g. g.rules) joined.grammar

  rule_there : (p : ℕ) (r : grammar.GrammarRule) → slice_get all_rules p ≡ Some r
      → slice_get s.grammar.rules p ≡ Some (Some r)
  rule_there p r at = ap (λ rs. slice_get rs p) rules_are ∙ slice_get-map Some all_rules p ∙ ap (option_map Some) at

  count_rules : length s.grammar.rules ≡ suc (length joined.rules)
  unfolding all_rules
  count_rules = ap length rules_are ∙ length-map all_rules Some

  count_notes : length s.notes ≡ suc (length joined.rules)
  count_notes = ap length joined.all_notes
      ∙ ap suc (notes_of_rules (table_of s) w.rules joined.rules joined.notes joined.joined)

  named_rule : (p : ℕ) (r : grammar.GrammarRule) → slice_get all_rules (suc p) ≡ Some r
      → constructor_in set.rules (suc p) ≡ constructor_of (shape_in s (suc p))
  named_rule p r at =
      let tables : AreTables s M of.machine.0 = of.machine.1 in
      let rule : slice_get of.machine.0.rules p
      ≡ Some (record { left = r.left; body_length = length r.body; shape = shape_in s (suc p) })
      = ap (λ k. slice_get of.machine.0.rules k) (before_next p)
      ∙ tables.rules (suc p) r (omega arith) (rule_there (suc p) r at) in
      ap (λ (rules : List TableRule). constructor_in rules (suc p)) of.machine.2.rules
      ∙ ap (λ o. unwrap_or (option_map (λ (r : TableRule). constructor_of r.shape) o) []) rule

  no_rule : (p : ℕ) → suc (length joined.rules) ≤ suc p
      → constructor_in set.rules (suc p) ≡ constructor_of (shape_in s (suc p))
  no_rule p past =
      let tables : AreTables s M of.machine.0 = of.machine.1 in
      let count : length set.rules ≡ length of.machine.0.rules = ap length of.machine.2.rules in
      ap (λ o. unwrap_or (option_map (λ (r : TableRule). constructor_of r.shape) o) [])
      (slice_get_past set.rules p (omega (arith, past, count, tables.numbers, count_rules)))
      ∙ sym (ap (λ o. constructor_of (shape_from o))
      (slice_get_past s.notes (suc p) (omega (arith, past, count_notes))))

  by_place : (p : ℕ) (o : Option grammar.GrammarRule) → slice_get all_rules (suc p) ≡ o
      → constructor_in set.rules (suc p) ≡ constructor_of (shape_in s (suc p))
  unfolding all_rules
  by_place p (Some r) at = named_rule p r at
  by_place p None at = no_rule p (none_past all_rules (suc p) at)

  same_constructors : (p : ℕ) → constructor_in set.rules p ≡ constructor_of (shape_in s p)
  same_constructors zero = sym (ap (λ notes. constructor_of (shape_from (slice_get notes 0))) joined.all_notes)
  same_constructors (suc p) = by_place p (slice_get all_rules (suc p)) refl

  -- what the table set says is written as what the specification says, in each form
  pub same_words : (form : AnswerForm) (v : Verdict)
      → written_in form (vocabulary_of set) v ≡ written_in form (words_of s) v
  same_words form v = ap (λ x. written_in form x v)
      (one_vocabulary (vocabulary_of set) (words_of s) same_terminals same_constructors)
