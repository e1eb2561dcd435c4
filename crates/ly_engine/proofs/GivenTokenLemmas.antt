-- Tables that are generated say of tokens that are given what the specification says of them.
use Rattle.std.proofs.Common.{◌≡◌, ◌≢◌, ◌≤◌, ◌<◌, ℕ, List, [], ◌∷◌, ◌++◌, All, arith, length, refl, subst, sym}
use Rattle.std.proofs.lemmas.List.Elements.{All-weaker}
use Rattle.ly_base.specs.Lexed.{Token}
use Rattle.ly_base.specs.Limits.{Sizes}
use Rattle.ly_base.specs.declared.lexeme.End.TheVariants.{Clean}
use Rattle.ly_base.specs.declared.version.Version.{Version}
use Rattle.ly_emit.specs.Laws.{AreOf}
use Rattle.ly_emit.specs.Tables.{shape_in}
use Rattle.ly_engine.specs.GivenTokens.{GivenSentencesAreAnswered, GivenTokensAreAnswered, HaveTerminals}
use Rattle.ly_engine.specs.GivenTokens.{TreesAreOfGivenTokens}
use Rattle.ly_feed.specs.TableAnswer.{end_of}
use Rattle.ly_feed.specs.Verdict.{Verdict, accepted, faulty, refused, unmatched}
use Rattle.ly_generate.proofs.HeadlineLemmas.{accepts_too, known_are, never_at_fault, refuses_too, with_end}
use Rattle.ly_generate.proofs.SentenceLemmas.{derived, sentences_say}
use Rattle.ly_generate.specs.Generated.{IsGenerated}
use Rattle.ly_generate.specs.SpecAnswer.{IsMachineVerdict}
use Rattle.ly_parse.specs.Feeding as fed
use Rattle.ly_places.specs.TokenAnswer.{ComesOf, IsTokenVerdict}
use Rattle.ly_resolve.specs.Precedence.{judge_of}
use Rattle.ly_tables.specs.TableSet.{TableSet, machine_of}
use Rattle.ly_tree.specs.Term.{Term}

-- such tokens have terminals below the count
pub below : (terminals : ℕ) (tokens : List (Token ℕ)) → HaveTerminals terminals tokens
    → All (λ t. t.terminal < terminals) tokens
below terminals tokens all = All-weaker (λ t. (1 ≤ t.terminal) × (t.terminal < terminals))
    (λ t. t.terminal < terminals) (λ t both. both.1) tokens all

-- and none is the end
pub no_end : (terminals : ℕ) (tokens : List (Token ℕ)) → HaveTerminals terminals tokens
    → All (λ t. t.terminal ≢ 0) tokens
no_end terminals tokens all = All-weaker (λ t. (1 ≤ t.terminal) × (t.terminal < terminals)) (λ t. t.terminal ≢ 0)
    (λ t both zero. let some = both.0 in omega (arith, some, zero)) tokens all

module _ (version : Version) (limits : Sizes) (lex yacc : List ℕ) (set : TableSet)
    (g : IsGenerated version limits lex yacc set) (text : List ℕ) (tokens : List (Token ℕ))
    (all : HaveTerminals (length set.terminals) tokens) where
  are_of : AreOf g.generated.automaton tokens
  are_of = known_are version g.specifies.file g.specifies.written g.spec set g.generated text tokens
      (below (length set.terminals) tokens all)

  come_of : (before : List (Token ℕ)) (t : Token ℕ) (out : fed.Fed)
      (c : ComesOf (machine_of set) (tokens ++ end_of text ∷ []) before t out)
      → AreOf g.generated.automaton (before ++ t ∷ c.behind)
  come_of before t out c = subst (AreOf g.generated.automaton) c.split
      (with_end version g.specifies.file g.specifies.written g.spec set g.generated text tokens are_of)

  pub machine_says : (v : Verdict) → IsTokenVerdict set text tokens v
      → IsMachineVerdict g.generated.automaton.grammar (judge_of g.spec) (shape_in g.spec) text tokens Clean v
  machine_says (accepted d) (last, reads, feeds) =
      let run = accepts_too version g.specifies.file g.specifies.written g.spec set g.generated text tokens last d
      are_of reads feeds in
      (refl, run.0, run.1, run.2)
  machine_says (refused k t ts) (before, c, count, expected) =
      let both = refuses_too version g.specifies.file g.specifies.written g.spec set g.generated text before c.behind t
      c.last ts (come_of before t fed.refused c) c.reads c.feeds expected in
      (before, c.behind, c.split, both.0, count, both.1)
  machine_says (unmatched byte) never = absurd never
  machine_says faulty (before, t, c) = never_at_fault version g.specifies.file g.specifies.written g.spec set
      g.generated text before c.behind t c.last (come_of before t fed.faulty c) c.reads c.feeds

pub tokens_answered : GivenTokensAreAnswered
tokens_answered version limits lex yacc set g text tokens all v said = machine_says version limits lex yacc set g text
    tokens all v said

pub sentences_answered : GivenSentencesAreAnswered
sentences_answered version limits lex yacc set g free text tokens all v said = sentences_say
    g.generated.automaton.grammar (judge_of g.spec) g.generated.is_automaton.augmented g.fit.reduced free text tokens
    (no_end (length set.terminals) tokens all) (shape_in g.spec) Clean v
    (machine_says version limits lex yacc set g text tokens all v said)

pub trees_of_tokens : TreesAreOfGivenTokens
trees_of_tokens version limits lex yacc set g text tokens all term said =
    let run = machine_says version limits lex yacc set g text tokens all (accepted term) said in (
      run.1,
      derived g.generated.automaton.grammar (judge_of g.spec) g.generated.is_automaton.augmented text tokens
          (no_end (length set.terminals) tokens all) run.1 run.2,
      run.3,
    )
