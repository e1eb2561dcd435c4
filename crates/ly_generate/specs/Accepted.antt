-- Which lex files and yacc files are accepted, and what each rejection implies.
use Rattle.std.specs.Prelude.{length, ◌≡◌, ◌≢◌, ◌≤◌, ℕ, List, [], Err, option_map, slice_get, unwrap_or}
use Rattle.ly_base.specs.Limits.{Sizes}
use Rattle.ly_base.specs.Trees.{Tree}
use Rattle.ly_ere.specs.Names.{defined}
use Rattle.ly_grammar.specs.Derivations.{IsReduced, IsTree}
use Rattle.ly_grammar.specs.Items.{HasMoreCores}
use Rattle.ly_grammar.specs.Reduction.{KeepsUseful}
use Rattle.ly_grammar.specs.declared.fault.GrammarFault.TheVariants.{StartUnproductive}
use Rattle.ly_join.specs.Counts.{IsWithin}
use Rattle.ly_join.specs.Faults.{IsAtFault}
use Rattle.ly_join.specs.declared.fault.JoinFault.TheVariants as join_fault
use Rattle.ly_join.specs.Grammar.{Grammar, nonterminal}
use Rattle.ly_join.specs.Joined.{Joined, Spec}
use Rattle.ly_join.specs.Scanning.{scanning_of}
use Rattle.ly_lexread.specs.Faults.{IsAtMost}
use Rattle.ly_lexread.specs.LexText.{IsLight, IsRead, LexText}
use Rattle.ly_lexread.specs.declared.fault.LexFault.TheVariants as lex_fault
use Rattle.ly_lexread.specs.declared.file.LexFile.{LexFile}
use Rattle.ly_lr0.specs.declared.fault.Lr0Fault.TheVariants as automaton
use Rattle.ly_position.specs.TotalWeight.{total_weight}
use Rattle.ly_position.specs.declared.fault.PosFault.TheVariants.{TooManyPositions}
use Rattle.ly_subset.specs.RuleSets.{HaveMoreSets}
use Rattle.ly_subset.specs.declared.fault.SubsetFault.TheVariants.{TooManyStates}
use Rattle.ly_yaccread.specs.File.{Written}
use Rattle.ly_yaccread.specs.Faults.{IsWithin as IsWithinFile, StandsAt}
use Rattle.ly_yaccread.specs.YaccText.{YaccText}
use Rattle.ly_emit.specs.Tables.{IsMachineOf}
use Rattle.ly_loop.specs.Endless.{IsFirstEndless}
use Rattle.ly_lr0.specs.Automaton as parser
use Rattle.ly_pack.specs.Machine.{Machine, AreEntriesWithin}
use Rattle.ly_pack.specs.Steady.{IsSteady}
use Rattle.ly_report.specs.Report.{terminal_name}
use Rattle.ly_tokens.specs.Answers.{AreTooHeavy, HaveTooManyStates}
use Rattle.ly_generate.specs.declared.gen_fault.GenFault.{GenFault}
use Rattle.ly_generate.specs.declared.gen_fault.GenFault.TheVariants.{Automaton, Endless, Grammar as NoGrammar, Join}
use Rattle.ly_generate.specs.declared.gen_fault.GenFault.TheVariants.{Lex, OutOfMemory, Positions, States, Yacc}

-- The bytes of a lex file and a yacc file define this specification, and are within the limits of files and scanners.
pub record Specifies (limits : Sizes) (lex yacc : List ℕ) (s : Spec) : Type 0 where
  pub file : LexFile
  pub lex_text : LexText lex file
  pub light : IsLight limits.pattern_weight file
  pub written : Written
  pub yacc_text : YaccText yacc written
  pub joined : Joined (scanning_of file) written s
  pub within : IsWithin limits (scanning_of file) written
  pub weight : total_weight (defined file.names) file.rules.items ≤ limits.total_weight
  pub few : HaveMoreSets (defined file.names) file.rules.items file.conditions limits.scanner_states → ⊥

-- Each run of the tables of these rules ends.
pub record HasSteadyTables (s : Spec) (useful : Grammar) : Type 0 where
  pub automaton : parser.Lr0Automaton
  pub is_automaton : parser.IsLr0Automaton automaton
  pub same : automaton.grammar ≡ useful
  pub machine : Machine
  pub is_machine : IsMachineOf s automaton machine
  pub steady : IsSteady machine

-- The useful rules of the specification derive something, their number of cores is at most the limit of parser states,
-- and each run of their tables ends.
pub record IsFit (limits : Sizes) (s : Spec) (useful : Grammar) : Type 0 where
  pub useful_rules : KeepsUseful s.grammar useful
  pub reduced : IsReduced useful
  pub few : HasMoreCores useful limits.parser_states → ⊥
  pub steady : HasSteadyTables s useful

-- The run of the specification's tables from these two states makes too many reductions before this terminal. It is the
-- first such run.
pub record HasEndlessRun (s : Spec) (below top token : ℕ) : Type 0 where
  pub automaton : parser.Lr0Automaton
  pub is_automaton : parser.IsLr0Automaton automaton
  pub useful : KeepsUseful s.grammar automaton.grammar
  pub machine : Machine
  pub is_machine : IsMachineOf s automaton machine
  pub within : AreEntriesWithin machine
  pub first : IsFirstEndless machine below top token

-- the printed name of a terminal
abbrev pub terminal_name_in : Spec → ℕ → List ℕ
terminal_name_in s t = unwrap_or (option_map terminal_name (slice_get s.terminals t)) []

-- what an error implies for a specification
abbrev pub IsUnfitFor : Sizes → Spec → GenFault → Type 0
IsUnfitFor limits s (NoGrammar fault) = (fault ≡ StartUnproductive)
    × ((d : Tree) → IsTree s.grammar (nonterminal s.grammar.start) d → ⊥)
IsUnfitFor limits s (Automaton fault) = (fault ≡ automaton.TooManyStates)
    × (useful : Grammar) × KeepsUseful s.grammar useful × HasMoreCores useful limits.parser_states
IsUnfitFor limits s (Endless below top token name) = HasEndlessRun s below.0 top.0 token.0
    × (name.items ≡ terminal_name_in s token.0)
IsUnfitFor limits s OutOfMemory = Unit {0}
IsUnfitFor limits s _ = ⊥

-- what an error implies for the bytes of the files; out of memory implies nothing
abbrev pub IsRefusedFor : Sizes → List ℕ → List ℕ → GenFault → Type 0
IsRefusedFor limits lex yacc (Lex fault) = (fault ≢ lex_fault.OutOfMemory)
    × IsRead limits.pattern_weight lex (Err fault) × IsAtMost (length lex) fault
IsRefusedFor limits lex yacc (Yacc fault) = ((w : Written) → YaccText yacc w → ⊥) × IsWithinFile yacc fault
    × StandsAt yacc fault
IsRefusedFor limits lex yacc (Join fault) = (fault ≢ join_fault.OutOfMemory)
    × (file : LexFile) × (w : Written) × LexText lex file × YaccText yacc w
    × IsAtFault limits (scanning_of file) w fault
IsRefusedFor limits lex yacc (Positions fault) = (fault ≡ TooManyPositions) × AreTooHeavy limits lex
IsRefusedFor limits lex yacc (States fault) = (fault ≡ TooManyStates) × HaveTooManyStates limits lex
IsRefusedFor limits lex yacc OutOfMemory = Unit {0}
IsRefusedFor limits lex yacc fault = (s : Spec) × Specifies limits lex yacc s × IsUnfitFor limits s fault
