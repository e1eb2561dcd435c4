-- The spans of the trees that generated tables give are those of derivations.
use Rattle.std.specs.Prelude.{◌≡◌, ℕ, List, length}
use Rattle.ly_base.specs.Lexed.{Token}
use Rattle.ly_base.specs.Limits.{Sizes}
use Rattle.ly_base.specs.Trees.{Tree}
use Rattle.ly_base.specs.declared.lexeme.End.TheVariants.{Clean}
use Rattle.ly_base.specs.declared.version.Version.{Version}
use Rattle.ly_emit.specs.Tables.{shape_in}
use Rattle.ly_engine.specs.GivenTokens.{HaveTerminals}
use Rattle.ly_generate.specs.Generated.{IsGenerated}
use Rattle.ly_generate.specs.SentenceAnswer.{IsDerivation, IsOnlyDerivation}
use Rattle.ly_generate.specs.SpecAnswer.{AreTokensOf}
use Rattle.ly_places.specs.Placed.{Placed, placed}
use Rattle.ly_places.specs.PlacedAnswer.{IsPlacedBy}
use Rattle.ly_places.specs.TokenAnswer.{IsPlacedOver}
use Rattle.ly_resolve.specs.Actions.{IsConflictFree}
use Rattle.ly_tables.specs.TableSet.{TableSet}

-- The tree that such a set gives for a text is, with its spans, that of a derivation of all the text's tokens by the
-- useful rules.
abbrev pub SpansAreOfDerivations : Type 0
SpansAreOfDerivations = (version : Version) (limits : Sizes) (lex yacc : List ℕ) (set : TableSet)
    (g : IsGenerated version limits lex yacc set) (text : List ℕ) (t : Placed) → IsPlacedBy set text t
    → (tokens : List (Token ℕ)) × AreTokensOf g.specifies.file g.spec text tokens Clean
    × (d : Tree) × IsDerivation g.generated.automaton.grammar tokens d × (t ≡ placed (shape_in g.spec) 0 d)

-- Without conflicts it is that of the only derivation.
abbrev pub SpansAreOfTheOnlyDerivation : Type 0
SpansAreOfTheOnlyDerivation = (version : Version) (limits : Sizes) (lex yacc : List ℕ) (set : TableSet)
    (g : IsGenerated version limits lex yacc set) → IsConflictFree g.generated.automaton.grammar
    → (text : List ℕ) (t : Placed) → IsPlacedBy set text t
    → (tokens : List (Token ℕ)) × AreTokensOf g.specifies.file g.spec text tokens Clean
    × (d : Tree) × IsOnlyDerivation g.generated.automaton.grammar tokens d × (t ≡ placed (shape_in g.spec) 0 d)

-- The same for tokens that were not found by the set's scanner.
abbrev pub SpansAreOfGivenTokens : Type 0
SpansAreOfGivenTokens = (version : Version) (limits : Sizes) (lex yacc : List ℕ) (set : TableSet)
    (g : IsGenerated version limits lex yacc set) (text : List ℕ) (tokens : List (Token ℕ))
    → HaveTerminals (length set.terminals) tokens → (t : Placed) → IsPlacedOver set text tokens t
    → (d : Tree) × IsDerivation g.generated.automaton.grammar tokens d × (t ≡ placed (shape_in g.spec) 0 d)
