-- What a grammar defines for a text by its derivations alone, without any machine.
use Rattle.std.specs.Prelude.{◌≡◌, ◌↔◌, ℕ, ◌+◌, ◌<◌, List, ◌∷◌, ◌++◌, AllPairs, Contains, length}
use Rattle.ly_base.specs.Lexed.{Token}
use Rattle.ly_base.specs.Limits.{Sizes}
use Rattle.ly_base.specs.Shape.{Shape}
use Rattle.ly_base.specs.Trees.{Tree, yield_of}
use Rattle.ly_base.specs.declared.version.Version.{Version}
use Rattle.ly_base.specs.declared.lexeme.End.{End}
use Rattle.ly_base.specs.declared.lexeme.End.TheVariants.{Clean, Stuck}
use Rattle.ly_feed.specs.TableAnswer.{IsVerdict, end_of, fed_with}
use Rattle.ly_feed.specs.Verdict.{Verdict, accepted, faulty, refused, unmatched}
use Rattle.ly_emit.specs.Tables.{shape_in}
use Rattle.ly_generate.specs.Generated.{IsGenerated}
use Rattle.ly_generate.specs.SpecAnswer.{AreTokensOf}
use Rattle.ly_grammar.specs.Derivations.{IsSentencePrefix, IsTree}
use Rattle.ly_join.specs.Grammar.{Grammar, nonterminal}
use Rattle.ly_join.specs.Joined.{Spec}
use Rattle.ly_lexread.specs.declared.file.LexFile.{LexFile}
use Rattle.ly_resolve.specs.Actions.{IsConflictFree}
use Rattle.ly_resolve.specs.Laws.{Continues, IsFirstWrong}
use Rattle.ly_tables.specs.TableSet.{TableSet}
use Rattle.ly_tree.specs.Term.{Term, build}

-- The tree is a derivation of the tokens from the start symbol.
pub record IsDerivation (G : Grammar) (tokens : List (Token ℕ)) (d : Tree) : Type 0 where
  pub is_tree : IsTree G (nonterminal G.start) d
  pub yields : yield_of d ≡ tokens

-- The tree is the only derivation of the tokens.
pub record IsOnlyDerivation (G : Grammar) (tokens : List (Token ℕ)) (d : Tree) : Type 0 where
  pub is : IsDerivation G tokens d
  pub only : (other : Tree) → IsTree G (nonterminal G.start) other → yield_of other ≡ tokens → d ≡ other

-- The list is in ascending order and has exactly the terminals that continue a sentence after these tokens.
pub record AreContinuing (G : Grammar) (before : List (Token ℕ)) (ts : List ℕ) : Type 0 where
  pub ordered : AllPairs (λ x y. x < y) ts
  pub are : (t : ℕ) → Contains ts t ↔ Continues G before t

-- What derivations define for the tokens of a text, by what comes first in it. Either the tokens have one derivation,
-- from which this term is built. Or a token, or the end, is the first that continues no sentence, and these terminals
-- would have continued one. Or the tokens begin a sentence, and no rule matches after them.
abbrev pub IsSentenceVerdict : Grammar → (ℕ → Shape) → List ℕ → List (Token ℕ) → End → Verdict → Type 0
IsSentenceVerdict G shape text tokens e (accepted term) = (e ≡ Clean) × (d : Tree) × IsOnlyDerivation G tokens d
    × (term ≡ build shape d)
IsSentenceVerdict G shape text tokens e (refused k t ts) = (before behind : List (Token ℕ))
    × (fed_with (end_of text) tokens e ≡ before ++ t ∷ behind) × IsFirstWrong G before t × (k ≡ length before + 1)
    × AreContinuing G before ts
IsSentenceVerdict G shape text tokens e (unmatched byte) = (e ≡ Stuck byte) × IsSentencePrefix G tokens
IsSentenceVerdict G shape text tokens e faulty = ⊥

-- what derivations by the useful rules of a specification define for a text
abbrev pub IsSaidBySentences : LexFile → Spec → Grammar → List ℕ → Verdict → Type 0
IsSaidBySentences file s useful text v = (tokens : List (Token ℕ)) × (e : End) × AreTokensOf file s text tokens e
    × IsSentenceVerdict useful (shape_in s) text tokens e v

-- If the grammar of two files has no conflicts, the set generated from them has one result for a text: the one that the
-- derivations of the text's tokens define.
abbrev pub AnswersSentences : Type 0
AnswersSentences = (version : Version) (limits : Sizes) (lex yacc : List ℕ) (set : TableSet)
    (g : IsGenerated version limits lex yacc set) → IsConflictFree g.generated.automaton.grammar → (text : List ℕ)
    → (v : Verdict) × IsVerdict set text v × ((u : Verdict) → IsVerdict set text u → v ≡ u)
    × IsSaidBySentences g.specifies.file g.spec g.generated.automaton.grammar text v

-- Whatever conflicts there are, the term that such a set gives for a text is built from a derivation of all the text's
-- tokens by the useful rules.
abbrev pub TreesAreOfTexts : Type 0
TreesAreOfTexts = (version : Version) (limits : Sizes) (lex yacc : List ℕ) (set : TableSet)
    (g : IsGenerated version limits lex yacc set) (text : List ℕ) (term : Term) → IsVerdict set text (accepted term)
    → (tokens : List (Token ℕ)) × AreTokensOf g.specifies.file g.spec text tokens Clean
    × (d : Tree) × IsDerivation g.generated.automaton.grammar tokens d × (term ≡ build (shape_in g.spec) d)
