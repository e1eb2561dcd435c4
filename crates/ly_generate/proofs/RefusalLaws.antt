-- Files that are refused aren't accepted.
use Rattle.std.proofs.Common.{◌≡◌, ◌≢◌, ◌∙◌, ◌+◌, ℕ, suc, List, [], ◌∷◌, Bool}
use Rattle.std.proofs.Common.{arith, ap, ap₂}
use Rattle.std.proofs.Common.{refl, subst, sym}
use Rattle.std.specs.Prelude.{Contains, IsTrue, length, map}
use Rattle.std.proofs.lemmas.List.Elements.{All-weaker}
use Rattle.ly_base.specs.Limits.{Sizes}
use Rattle.ly_ere.specs.Expression.{Expression}
use Rattle.ly_ere.specs.Names.{defined}
use Rattle.ly_ere.specs.declared.pattern.Rule.{Rule}
use Rattle.ly_grammar.specs.Items.{HasMoreCores}
use Rattle.ly_grammar.specs.Reduction.{KeepsUseful}
use Rattle.ly_grammar.proofs.ReduceLemmas.{keeps_trees}
use Rattle.ly_join.specs.Grammar.{Grammar}
use Rattle.ly_join.specs.Joined.{Joined, Spec}
use Rattle.ly_join.specs.Scanning.{acting_of, returning_of, scanning_of, Returning}
use Rattle.ly_join.specs.Scanning as scanning
use Rattle.ly_join.specs.Terminals.{token, byte}
use Rattle.ly_join.proofs.JoinLemmas.{not_within}
use Rattle.ly_join.proofs.LawLemmas.{joined_one}
use Rattle.ly_lexread.specs.Action.{Meaning, nothing, literal_of, first_byte, meaning_of}
use Rattle.ly_lexread.specs.Action as meaning
use Rattle.ly_lexread.specs.LexText.{AreSame, AreSameActions, AreSameRules, LexText}
use Rattle.ly_lexread.specs.declared.action.LexAction.{LexAction}
use Rattle.ly_lexread.specs.declared.action.Returned.{Returned}
use Rattle.ly_lexread.specs.declared.action.Returned.TheVariants.{Nothing, Token, Literal, FirstByte}
use Rattle.ly_lexread.specs.declared.file.LexFile.{LexFile}
use Rattle.ly_lexread.proofs.FileLemmas.{lex_text_one}
use Rattle.ly_lexread.proofs.SameLemmas.{same_back, same_rule}
use Rattle.ly_position.specs.Numbered.{ComesNext}
use Rattle.ly_position.specs.Spots.{Spot, IsNext}
use Rattle.ly_position.specs.TotalWeight.{total_weight}
use Rattle.ly_position.specs.Written.{pattern_written}
use Rattle.ly_ere.specs.Weight.{weight_of_both}
use Rattle.ly_subset.specs.RuleSets.{HasSpot, HaveMoreSets}
use Rattle.ly_yaccread.proofs.TextLemmas.{text_one}
use Rattle.ly_emit.proofs.OneLemmas.{endless_excludes_steady}
use Rattle.ly_grammar.proofs.OneLemmas.{useful_rules_are_one}
use Rattle.ly_generate.specs.Accepted.{IsFit, IsRefusedFor, IsUnfitFor, Specifies}
use Rattle.ly_generate.specs.Laws.{RefusalIsExact}
use Rattle.ly_generate.specs.declared.gen_fault.GenFault.{GenFault}
use Rattle.ly_generate.specs.declared.gen_fault.GenFault.TheVariants.{Automaton, Endless, Grammar as NoGrammar, Join}
use Rattle.ly_generate.specs.declared.gen_fault.GenFault.TheVariants.{Lex, OutOfMemory, Positions, States, Yacc}

-- rules that say the same weigh the same
weight_same : (names : List Expression) (rs ss : List Rule) → AreSameRules rs ss
    → total_weight names rs ≡ total_weight names ss
weight_same names [] [] h = refl
weight_same names [] (s ∷ ss) h = absurd h
weight_same names (r ∷ rs) [] h = absurd h
weight_same names (r ∷ rs) (s ∷ ss) h
    = ap₂ ◌+◌ (ap (λ p. weight_of_both names p.head p.tail) h.0) (weight_same names rs ss h.2)

-- the same spots can come next by rules that say the same
module _ (names : List Expression) (rs ss : List Rule) (same : AreSameRules rs ss) where
  next_under : (condition : ℕ) (line : Bool) (w : List ℕ) (s : Spot) → IsNext names rs condition line w s
      → IsNext names ss condition line w s
  next_under condition line w s (r, active, comes) = let o = same_rule rs ss s.rule r same active.is_rule in (
    o.0,
    record {
      is_rule = o.1;
      in_condition = subst (λ (items : List ℕ). Contains items condition) o.3 active.in_condition;
      at_line = subst (λ p. IsTrue p.line_start → IsTrue line) o.2 active.at_line;
    },
    subst (λ p. ComesNext (pattern_written names p) w s.number) o.2 comes,
  )

-- and as many sets of them
more_sets_under : (names : List Expression) (rs ss : List Rule) (conditions n : ℕ) → AreSameRules rs ss
    → HaveMoreSets names rs conditions n → HaveMoreSets names ss conditions n
more_sets_under names rs ss conditions n same h = record {
  after = h.after;
  count = h.count;
  alive = All-weaker (HasSpot names rs conditions) (HasSpot names ss conditions)
      (λ o alive. (alive.0, (alive.1.0, next_under names rs ss same o.condition o.line o.text alive.1.0 alive.1.1)))
      h.after
      h.alive;
  apart = λ i j d l m both. h.apart i j d l m (λ s. (
    λ is. next_under names ss rs back _ _ _ s ((both s).0 (next_under names rs ss same _ _ _ s is)),
    λ is. next_under names ss rs back _ _ _ s ((both s).1 (next_under names rs ss same _ _ _ s is)),
  ));
}
  where
    back : AreSameRules ss rs
    back = same_back rs ss same

-- what an action returns, by what it means
returning_meant : Meaning → Returning
returning_meant nothing = scanning.nothing
returning_meant (meaning.token name) = scanning.returns (token name)
returning_meant (literal_of b) = scanning.returns (byte b)
returning_meant first_byte = scanning.first_byte

returning_by_meaning : (r : Returned) → returning_of r ≡ returning_meant (meaning_of r)
unfolding returning_meant
returning_by_meaning Nothing = refl
returning_by_meaning (Token name) = refl
returning_by_meaning (Literal b) = refl
returning_by_meaning FirstByte = refl

-- files that say the same say the same to the grammar
actings_same : (xs ys : List LexAction) → AreSameActions xs ys → map acting_of xs ≡ map acting_of ys
actings_same [] [] h = refl
actings_same [] (y ∷ ys) h = absurd h
actings_same (x ∷ xs) [] h = absurd h
actings_same (x ∷ xs) (y ∷ ys) h = ap₂ ◌∷◌
    (ap₂ (λ b r. let a : scanning.Acting = record { begin = b; returning = r } in a) h.0
    (returning_by_meaning x.returns ∙ (ap returning_meant h.1 ∙ sym (returning_by_meaning y.returns))))
    (actings_same xs ys h.2)

count_same : (rs ss : List Rule) → AreSameRules rs ss → length rs ≡ length ss
count_same [] [] h = refl
count_same [] (s ∷ ss) h = absurd h
count_same (r ∷ rs) [] h = absurd h
count_same (r ∷ rs) (s ∷ ss) h = ap suc (count_same rs ss h.2)

scanning_same : (f g : LexFile) → AreSame f g → scanning_of f ≡ scanning_of g
scanning_same f g same
    = ap (λ n. scanning_by n f.conditions (map acting_of f.actions.items))
    (count_same f.rules.items g.rules.items same.rules)
    ∙ (ap (λ n. scanning_by (length g.rules.items) n (map acting_of f.actions.items)) same.conditions
    ∙ ap (scanning_by (length g.rules.items) g.conditions) (actings_same f.actions.items g.actions.items same.actions))
  where
    scanning_by : ℕ → ℕ → List scanning.Acting → scanning.Scanning
    scanning_by rules conditions actions = record { rules = rules; conditions = conditions; actions = actions }

module _ (limits : Sizes) (lex yacc : List ℕ) (s : Spec) (is : Specifies limits lex yacc s) where
  -- another value of the lex file says the same to the grammar
  scanning_is : (file : LexFile) → LexText lex file → scanning_of file ≡ scanning_of is.file
  scanning_is file text = scanning_same file is.file (lex_text_one lex file is.file text is.lex_text)

  -- another specification of the files is this one
  specified_one : (t : Spec) → Specifies limits lex yacc t → t ≡ s
  specified_one t other = joined_one (scanning_of is.file) is.written t s
      (subst (λ x. Joined x is.written t) (scanning_is other.file other.lex_text)
      (subst (λ w. Joined (scanning_of other.file) w t)
      (text_one yacc other.written is.written other.yacc_text is.yacc_text)
      other.joined)) is.joined

  unfit_not_fit : (useful : Grammar) → IsFit limits s useful → (fault : GenFault) → fault ≢ OutOfMemory
      → IsUnfitFor limits s fault → ⊥
  unfit_not_fit useful fit (Lex f) some unfit = unfit
  unfit_not_fit useful fit (Yacc f) some unfit = unfit
  unfit_not_fit useful fit (Join f) some unfit = unfit
  unfit_not_fit useful fit (Positions f) some unfit = unfit
  unfit_not_fit useful fit (States f) some unfit = unfit
  unfit_not_fit useful fit OutOfMemory some unfit = some refl
  unfit_not_fit useful fit (NoGrammar f) some unfit = let d = fit.reduced.start_tree in
      unfit.1 d.0 ((keeps_trees s.grammar useful fit.useful_rules d.0).1 d.1)
  unfit_not_fit useful fit (Automaton f) some (e, other, keeps, more) = fit.few
      (subst (λ G. HasMoreCores G limits.parser_states)
      (useful_rules_are_one s.grammar other useful keeps fit.useful_rules) more)
  unfit_not_fit useful fit (Endless below top t name) some (run, named) =
      let steady = fit.steady in
      endless_excludes_steady s steady.automaton run.automaton steady.machine run.machine steady.is_automaton
      run.is_automaton
      (subst (λ G. KeepsUseful s.grammar G) (sym steady.same) fit.useful_rules) run.useful steady.is_machine
      run.is_machine run.within steady.steady below.0 top.0 t.0 run.first

  not_refused : (useful : Grammar) → IsFit limits s useful → (fault : GenFault) → fault ≢ OutOfMemory
      → IsRefusedFor limits lex yacc fault → ⊥
  not_refused useful fit (Lex f) some (memory, read, place)
      = read.refused memory (λ heavy. read.none_light heavy is.file is.lex_text is.light) is.file is.lex_text
  not_refused useful fit (Yacc f) some (none, within, stands) = none is.written is.yacc_text
  not_refused useful fit (Join f) some (memory, file, w, text, yacc_text, fault) =
      not_within (scanning_of is.file) is.written s is.joined limits f
      (subst (λ x. Rattle.ly_join.specs.Faults.IsAtFault limits x is.written f) (scanning_is file text)
      (subst (λ v. Rattle.ly_join.specs.Faults.IsAtFault limits (scanning_of file) v f)
      (text_one yacc w is.written yacc_text is.yacc_text) fault)) memory is.within
  not_refused useful fit (Positions f) some (e, (file, text, light, heavy)) =
      let same = lex_text_one lex file is.file text is.lex_text in
      omega (
        arith,
        heavy,
        is.weight,
        ap (λ names. total_weight (defined names) file.rules.items) same.names,
        weight_same (defined is.file.names) file.rules.items is.file.rules.items same.rules,
      )
  not_refused useful fit (States f) some (e, (file, text, light, weight, more)) =
      let same = lex_text_one lex file is.file text is.lex_text in
      is.few (more_sets_under (defined is.file.names) file.rules.items is.file.rules.items is.file.conditions
      limits.scanner_states same.rules
      (subst (λ conditions. HaveMoreSets (defined is.file.names) file.rules.items conditions limits.scanner_states)
      same.conditions
      (subst (λ names. HaveMoreSets (defined names) file.rules.items file.conditions limits.scanner_states) same.names
      more)))
  not_refused useful fit OutOfMemory some h = some refl
  not_refused useful fit (NoGrammar f) some (t, other, unfit) = unfit_not_fit useful fit (NoGrammar f) some
      (subst (λ x. IsUnfitFor limits x (NoGrammar f)) (specified_one t other) unfit)
  not_refused useful fit (Automaton f) some (t, other, unfit) = unfit_not_fit useful fit (Automaton f) some
      (subst (λ x. IsUnfitFor limits x (Automaton f)) (specified_one t other) unfit)
  not_refused useful fit (Endless below top u name) some (t, other, unfit)
      = unfit_not_fit useful fit (Endless below top u name) some
      (subst (λ x. IsUnfitFor limits x (Endless below top u name)) (specified_one t other) unfit)

pub refusal_exact : RefusalIsExact
refusal_exact limits lex yacc s useful fault some refused is fit
    = not_refused limits lex yacc s is useful fit fault some refused
