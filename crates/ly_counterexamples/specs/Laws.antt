-- What follows from the definitions of demands and of rules that match.
use Rattle.std.specs.Prelude.{◌≡◌, ◌↔◌, ℕ, List}
use Rattle.ly_lexread.specs.LexText.{LexText}
use Rattle.ly_lexread.specs.declared.file.LexFile.{LexFile}
use Rattle.ly_subset.specs.Automaton.{Automaton as Scanner}
use Rattle.ly_minim.specs.Smallest.{HaveSameRules}
use Rattle.ly_tokens.specs.Scanner.{IsSubsetScanner}
use Rattle.ly_join.specs.Grammar.{Grammar, Symbol}
use Rattle.ly_lr0.specs.Automaton.{Lr0Automaton, IsLr0Automaton, Reaches, goto_of}
use Rattle.ly_resolve.specs.Actions.{Judge}
use Rattle.ly_resolve.specs.Conflicts.{Conflict, IsConflict, shift_reduce}
use Rattle.ly_counterexamples.specs.Demands.{LeadsTo}
use Rattle.ly_counterexamples.specs.Doubts.{IsMatched, Wins}
use Rattle.ly_counterexamples.specs.Examples.{IsExample}
use Rattle.ly_counterexamples.specs.Openings.{Opens}
use Rattle.ly_counterexamples.specs.declared.claim.Claim.TheVariants.{Settled}
use Rattle.ly_counterexamples.specs.declared.claim.Demand.{Demand}

-- a conflict has a counterexample exactly if from its first demand one follows with nothing left to claim
abbrev pub ExamplesFollow : Type 0
ExamplesFollow = (M : Lr0Automaton) (c : Conflict) (d : Demand) → IsLr0Automaton M → Opens M c d
    → ((g : List Symbol) × IsExample M.grammar c g)
    ↔ ((e : Demand) × LeadsTo M c.terminal d e × (e.first ≡ Settled) × (e.second ≡ Settled)
    × (h : List Symbol) × Reaches (goto_of M) 0 h e.state.0)

-- each conflict has a first demand
abbrev pub ConflictsOpen : Type 0
ConflictsOpen = (M : Lr0Automaton) (judge : Judge) (c : Conflict) → IsLr0Automaton M → IsConflict M.grammar judge c
    → (d : Demand) × Opens M c d

-- a shift/reduce conflict always has a counterexample: merging makes no such conflict
abbrev pub ShiftsHaveExamples : Type 0
ShiftsHaveExamples = (G : Grammar) (judge : Judge) (c : Conflict) → IsConflict G judge c → c.kind ≡ shift_reduce
    → (g : List Symbol) × IsExample G c g

-- In a DFA with the rules of a lex file's scanner, some string of at least one byte leads to a rule exactly if the rule
-- wins somewhere in some text.
abbrev pub MatchedWin : Type 0
MatchedWin = (lex : List ℕ) (file : LexFile) (A B : Scanner) → LexText lex file → IsSubsetScanner file A
    → HaveSameRules A B → (i : ℕ) → IsMatched B i ↔ Wins file i
