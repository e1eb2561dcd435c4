-- The results of generated tables for tokens of a text that were not found by their scanner.
use Rattle.std.specs.Prelude.{◌≡◌, ◌≤◌, ◌<◌, ℕ, List, All, length}
use Rattle.ly_base.specs.Lexed.{Token}
use Rattle.ly_base.specs.Limits.{Sizes}
use Rattle.ly_base.specs.Trees.{Tree}
use Rattle.ly_base.specs.declared.lexeme.End.TheVariants.{Clean}
use Rattle.ly_base.specs.declared.version.Version.{Version}
use Rattle.ly_emit.specs.Tables.{shape_in}
use Rattle.ly_feed.specs.Verdict.{Verdict, accepted}
use Rattle.ly_generate.specs.Generated.{IsGenerated}
use Rattle.ly_generate.specs.SentenceAnswer.{IsDerivation, IsSentenceVerdict}
use Rattle.ly_generate.specs.SpecAnswer.{IsMachineVerdict}
use Rattle.ly_places.specs.TokenAnswer.{IsTokenVerdict}
use Rattle.ly_resolve.specs.Actions.{IsConflictFree}
use Rattle.ly_resolve.specs.Precedence.{judge_of}
use Rattle.ly_tables.specs.TableSet.{TableSet}
use Rattle.ly_tree.specs.Term.{Term, build}

-- each token has a terminal with a number below this count, and not the end's
abbrev pub HaveTerminals : ℕ → List (Token ℕ) → Type 0
HaveTerminals terminals tokens = All (λ t. (1 ≤ t.terminal) × (t.terminal < terminals)) tokens

-- The set's result for the tokens is that of the reference machine with the useful rules, for the tokens followed by
-- the end.
abbrev pub GivenTokensAreAnswered : Type 0
GivenTokensAreAnswered = (version : Version) (limits : Sizes) (lex yacc : List ℕ) (set : TableSet)
    (g : IsGenerated version limits lex yacc set) (text : List ℕ) (tokens : List (Token ℕ))
    → HaveTerminals (length set.terminals) tokens → (v : Verdict) → IsTokenVerdict set text tokens v
    → IsMachineVerdict g.generated.automaton.grammar (judge_of g.spec) (shape_in g.spec) text tokens Clean v

-- Without conflicts, the result is the one that the derivations of the tokens define.
abbrev pub GivenSentencesAreAnswered : Type 0
GivenSentencesAreAnswered = (version : Version) (limits : Sizes) (lex yacc : List ℕ) (set : TableSet)
    (g : IsGenerated version limits lex yacc set) → IsConflictFree g.generated.automaton.grammar
    → (text : List ℕ) (tokens : List (Token ℕ)) → HaveTerminals (length set.terminals) tokens → (v : Verdict)
    → IsTokenVerdict set text tokens v
    → IsSentenceVerdict g.generated.automaton.grammar (shape_in g.spec) text tokens Clean v

-- Whatever conflicts there are, the term of the result is built from a derivation of all of the tokens.
abbrev pub TreesAreOfGivenTokens : Type 0
TreesAreOfGivenTokens = (version : Version) (limits : Sizes) (lex yacc : List ℕ) (set : TableSet)
    (g : IsGenerated version limits lex yacc set) (text : List ℕ) (tokens : List (Token ℕ))
    → HaveTerminals (length set.terminals) tokens → (term : Term) → IsTokenVerdict set text tokens (accepted term)
    → (d : Tree) × IsDerivation g.generated.automaton.grammar tokens d × (term ≡ build (shape_in g.spec) d)
