-- A table set that is made of what two files say is the one that they generate.
use Rattle.std.proofs.Common.{◌≡◌, ◌∙◌, ℕ, List, subst, sym}
use Rattle.ly_base.specs.Limits.{AreBounded, Sizes, sizes_in}
use Rattle.ly_base.specs.declared.version.Version.{Version}
use Rattle.ly_feed.specs.Verdict.{faulty}
use Rattle.ly_emit.specs.FitsFile.{FitsFile}
use Rattle.ly_generate.specs.Generated.{HasFormOf, IsGenerated, IsSpecification}
use Rattle.ly_generate.specs.Private.Making.{FitsWith, IsMadeOf}
use Rattle.ly_tokens.specs.Scanner.{IsSubsetScanner}
use Rattle.ly_generate.specs.Headline.{IsGeneratedSet}
use Rattle.ly_generate.proofs.FitLemmas.{fits_file}
use Rattle.ly_generate.proofs.HeadlineLemmas.{answers_follow, tables_answer}
use Rattle.ly_tokens.proofs.RowAgreementLemmas.{same_rules_agree}
use Rattle.ly_ere.specs.Names.{defined}
use Rattle.ly_join.specs.Joined.{Spec}
use Rattle.ly_lexread.specs.declared.file.LexFile.{LexFile}
use Rattle.ly_minim.specs.Smallest.{HaveSameRules, IsReducedAutomaton}
use Rattle.ly_position.proofs.SpotLemmas.{positions_live}
use Rattle.ly_subset.specs.Automaton.{Automaton, IsBreadthFirst, IsTrim}
use Rattle.ly_subset.specs.Classes.{AreClasses}
use Rattle.ly_subset.proofs.LawLemmas.{trim}
use Rattle.ly_tables.specs.TableSet.{TableSet}

module _ (v : Version) (limits : Sizes) (lex yacc : List ℕ) (given : LexFile) (s : Spec) (A walk : Automaton)
    (set : TableSet)
    (says : IsSpecification limits lex yacc given s A) (same : HaveSameRules A walk)
    (reduced : IsTrim A → IsReducedAutomaton walk) (order : IsBreadthFirst walk) (class_of : walk.class_of ≡ A.class_of)
    (classes : walk.classes ≡ A.classes) (starts : walk.starts ≡ A.starts)
    (of_given : IsMadeOf v limits given s walk set)
  where
    file : LexFile
    file = says.specifies.file

    made : IsMadeOf v limits file s walk set
    unfolding file
    made = subst (λ f. IsMadeOf v limits f s walk set) (sym says.same_file) of_given

    scanner : IsSubsetScanner file A
    unfolding file
    scanner = subst (λ f. IsSubsetScanner f A) (sym says.same_file) says.scanner

    generated_set : IsGeneratedSet v says.specifies.file says.specifies.written s set
    unfolding file
    generated_set = record {
      joined = says.specifies.joined;
      automaton = made.automaton;
      is_automaton = made.is_automaton;
      useful = made.fit.useful_rules;
      walk = walk;
      is_walk = made.is_walk;
      agrees = same_rules_agree lex file says.specifies.lex_text scanner.nfa A scanner.positions scanner.subsets walk
          same;
      is_set = made.is_set;
      within = made.within;
      steady = made.steady;
    }

    form : HasFormOf file walk
    unfolding file
    form = record {
      nfa = scanner.nfa;
      positions = scanner.positions;
      spots = scanner.spots;
      classes = subst (λ n. AreClasses scanner.nfa walk.class_of n) (sym classes)
          (subst (λ cs. AreClasses scanner.nfa cs A.classes) (sym class_of) scanner.subsets.classes);
      two_starts = starts ∙ scanner.subsets.two_starts;
    }

    generated : IsGenerated v limits lex yacc set
    unfolding file generated_set
    generated = record {
      spec = s;
      specifies = says.specifies;
      generated = generated_set;
      fit = made.fit;
      smallest = reduced (trim scanner.nfa file.conditions A scanner.subsets scanner.whole
          (positions_live (defined file.names) file.rules.items file.conditions scanner.nfa scanner.spots));
      order = order;
      form = form;
      answers = answers_follow v says.specifies.file says.specifies.written s set generated_set;
      never_faulty = λ text h. (tables_answer v says.specifies.file says.specifies.written s set generated_set text
          faulty h).3;
    }

    -- with what else holds of the specification
    pub generated_with : (P Q : Spec → Type 0) → P s → Q s
        → (g : IsGenerated v limits lex yacc set) × P g.spec × Q g.spec
    unfolding generated
    generated_with P Q p q = (generated, p, q)

-- and a table file of the version can hold what is made of them
pub fits_given : (v : Version) (limits : Sizes) (lex yacc : List ℕ) (given : LexFile) (s : Spec) (A walk : Automaton)
    → IsSpecification limits lex yacc given s A → HaveSameRules A walk → (IsTrim A → IsReducedAutomaton walk)
    → walk.starts ≡ A.starts → AreBounded (sizes_in v) limits → FitsWith v limits s given.rules.items walk
fits_given v limits lex yacc given s A walk says same reduced starts bounded M is useful few =
    let scanner : IsSubsetScanner says.specifies.file A
    = subst (λ f. IsSubsetScanner f A) (sym says.same_file) says.scanner in
    subst (λ (f : LexFile). FitsFile v s f.rules.items walk M) says.same_file
    (fits_file v limits lex yacc s says.specifies bounded scanner.nfa A walk scanner.positions scanner.spots
    scanner.subsets scanner.whole says.few same reduced starts M is useful few)
