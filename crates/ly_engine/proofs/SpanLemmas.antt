-- The spans of the trees that generated tables give are those of derivations.
use Rattle.std.proofs.Common.{◌≡◌, ◌∙◌, ◌+◌, ℕ, List, [], ◌∷◌, ◌++◌, ap, arith, length, length-append, refl, subst, sym}
use Rattle.ly_base.specs.Lexed.{Token}
use Rattle.ly_base.specs.Limits.{Sizes}
use Rattle.ly_base.specs.Trees.{Tree, yield_of}
use Rattle.ly_base.specs.declared.lexeme.End.TheVariants.{Clean}
use Rattle.ly_base.specs.declared.version.Version.{Version}
use Rattle.ly_emit.specs.Laws.{AreOf}
use Rattle.ly_emit.specs.Tables.{shape_in}
use Rattle.ly_engine.proofs.GivenTokenLemmas.{below, no_end}
use Rattle.ly_engine.specs.Spans.{SpansAreOfDerivations, SpansAreOfGivenTokens, SpansAreOfTheOnlyDerivation}
use Rattle.ly_feed.specs.TableAnswer.{end_of}
use Rattle.ly_generate.proofs.HeadlineLemmas.{all_of, derives_too, known_are, same_shapes, tokens_of}
use Rattle.ly_generate.proofs.SentenceLemmas.{derived, first_is_end, none_end, only}
use Rattle.ly_generate.specs.Generated.{IsGenerated}
use Rattle.ly_generate.specs.SentenceAnswer.{IsDerivation}
use Rattle.ly_parse.specs.Deriving.{Derives, shape_of_rule}
use Rattle.ly_places.proofs.PlacedTreeLemmas.{placed_alike}
use Rattle.ly_places.specs.Placed.{Placed, end_behind, placed}
use Rattle.ly_resolve.specs.Machine.{AcceptsWith}
use Rattle.ly_resolve.specs.Precedence.{judge_of}
use Rattle.ly_tables.specs.TableSet.{TableSet, machine_of}

-- nothing is before all
none_before : (before all : List (Token ℕ)) → all ≡ before ++ all → before ≡ []
none_before [] all e = refl
none_before (t ∷ before) all e =
    let size = ap length e in absurd (omega (arith, size, length-append (t ∷ before) all))

module _ (version : Version) (limits : Sizes) (lex yacc : List ℕ) (set : TableSet)
    (g : IsGenerated version limits lex yacc set) (text : List ℕ) (tokens : List (Token ℕ))
    (all : AreOf g.generated.automaton tokens) (d : Tree) (derives : Derives (machine_of set) tokens (end_of text) d)
  where
    -- the reference machine accepts the tokens with the tree
    pub run : AcceptsWith g.generated.automaton.grammar (judge_of g.spec) (tokens ++ end_of text ∷ []) d
    run = derives_too version g.specifies.file g.specifies.written g.spec set g.generated text tokens d all derives

    -- and the placed term is that of the specification's rules, from the start of the text
    pub placed_so : (before : List (Token ℕ)) (t : Placed) → tokens ≡ before ++ yield_of d → yield_of d ≡ tokens
        → t ≡ placed (shape_of_rule set.rules) (end_behind before) d → t ≡ placed (shape_in g.spec) 0 d
    placed_so before t yields whole stands =
        let none : before ≡ [] = none_before before tokens (yields ∙ ap (λ ts. before ++ ts) whole) in
        stands ∙ (ap (λ ts. placed (shape_of_rule set.rules) (end_behind ts) d) none
        ∙ placed_alike (shape_of_rule set.rules) (shape_in g.spec) 0 d
        (same_shapes version g.specifies.file g.specifies.written g.spec set g.generated text tokens d run))

pub spans_of_derivations : SpansAreOfDerivations
spans_of_derivations version limits lex yacc set g text t h =
    let file = g.specifies.file in
    let written = g.specifies.written in
    let all = all_of version file written g.spec set g.generated text h.tokens Clean h.are_tokens in
    let are = tokens_of version file written g.spec set g.generated text h.tokens Clean h.are_tokens in
    let ends = none_end g.spec.terminals _ h.tokens (first_is_end _ written g.spec g.specifies.joined) are.numbered in
    let is = derived g.generated.automaton.grammar (judge_of g.spec) g.generated.is_automaton.augmented text h.tokens
    ends h.tree (run version limits lex yacc set g text h.tokens all h.tree h.derives) in (
      h.tokens,
      are,
      h.tree,
      is,
      placed_so version limits lex yacc set g text h.tokens all h.tree h.derives h.before t h.yields is.yields h.stands,
    )

pub spans_of_the_only_derivation : SpansAreOfTheOnlyDerivation
spans_of_the_only_derivation version limits lex yacc set g free text t h =
    let file = g.specifies.file in
    let written = g.specifies.written in
    let all = all_of version file written g.spec set g.generated text h.tokens Clean h.are_tokens in
    let are = tokens_of version file written g.spec set g.generated text h.tokens Clean h.are_tokens in
    let ends = none_end g.spec.terminals _ h.tokens (first_is_end _ written g.spec g.specifies.joined) are.numbered in
    let is = only g.generated.automaton.grammar (judge_of g.spec) g.generated.is_automaton.augmented g.fit.reduced
    free text h.tokens ends h.tree (run version limits lex yacc set g text h.tokens all h.tree h.derives) in (
      h.tokens,
      are,
      h.tree,
      is,
      placed_so version limits lex yacc set g text h.tokens all h.tree h.derives h.before t h.yields is.is.yields
          h.stands,
    )

pub spans_of_given_tokens : SpansAreOfGivenTokens
spans_of_given_tokens version limits lex yacc set g text tokens terminals t h =
    let all = known_are version g.specifies.file g.specifies.written g.spec set g.generated text tokens
    (below (length set.terminals) tokens terminals) in
    let is : IsDerivation g.generated.automaton.grammar tokens h.tree
    = derived g.generated.automaton.grammar (judge_of g.spec) g.generated.is_automaton.augmented text tokens
    (no_end (length set.terminals) tokens terminals) h.tree
    (run version limits lex yacc set g text tokens all h.tree h.derives) in (
      h.tree,
      is,
      placed_so version limits lex yacc set g text tokens all h.tree h.derives h.before t h.yields is.yields h.stands,
    )
