-- Without conflicts what generated tables say of a text is what the derivations of its tokens say.
use Rattle.std.proofs.Common.{◌≡◌, ◌≢◌, ◌↔◌, ◌∙◌, ℕ, List, [], ◌∷◌, ◌++◌, All, Some, ap, append-nil, arith}
use Rattle.std.proofs.Common.{inl, inr, refl, slice_get, subst, sym}
use Rattle.std.specs.List.{AllZip}
use Rattle.std.specs.Prelude.{Contains}
use Rattle.std.proofs.lemmas.List.Elements.{All-cons}
use Rattle.ly_base.specs.Lexed.{Token}
use Rattle.ly_base.specs.Shape.{Shape}
use Rattle.ly_print.specs.Text.{Terminal, literal, token}
use Rattle.ly_base.specs.Trees.{Tree, yield_of}
use Rattle.ly_base.specs.declared.lexeme.End.{End}
use Rattle.ly_base.specs.declared.lexeme.End.TheVariants.{Clean}
use Rattle.ly_feed.specs.Laws.{HasOneVerdict, HasSomeVerdict}
use Rattle.ly_feed.specs.TableAnswer.{end_of}
use Rattle.ly_feed.specs.Verdict.{Verdict, accepted, faulty, refused, unmatched}
use Rattle.ly_emit.specs.Tables.{shape_in}
use Rattle.ly_generate.specs.SentenceAnswer.{AnswersSentences, AreContinuing, IsDerivation, IsOnlyDerivation}
use Rattle.ly_generate.specs.SentenceAnswer.{IsSentenceVerdict, TreesAreOfTexts}
use Rattle.ly_generate.specs.SpecAnswer.{AreNext, AreTokensOf, IsMachineVerdict, IsNumberOf, IsNumberedToken}
use Rattle.ly_generate.specs.SpecAnswer.{IsSpecVerdict}
use Rattle.ly_tables.specs.Ranges.{counts_of, width_of}
use Rattle.ly_generate.proofs.HeadlineLemmas.{tables_answer}
use Rattle.ly_grammar.specs.Derivations.{IsReduced}
use Rattle.ly_join.specs.Grammar.{Grammar, IsAugmented}
use Rattle.ly_join.specs.Joined.{Joined, Spec}
use Rattle.ly_join.specs.Scanning.{Scanning}
use Rattle.ly_join.specs.Terminals.{TerminalName, end}
use Rattle.ly_join.specs.Terminals as joined
use Rattle.ly_resolve.specs.Actions.{IsConflictFree, Judge}
use Rattle.ly_resolve.specs.Laws.{Continues}
use Rattle.ly_resolve.specs.Machine.{AcceptsWith}
use Rattle.ly_resolve.specs.Precedence.{judge_of}
use Rattle.ly_resolve.proofs.AcceptedLemmas.{accepts_trees}
use Rattle.ly_resolve.proofs.ExactLemmas.{end_is_last}
use Rattle.ly_resolve.proofs.NextLemmas.{next_continues}
use Rattle.ly_resolve.proofs.RefuseLemmas.{read_prefix, refused_first}
use Rattle.ly_resolve.proofs.RunLemmas.{unambiguous}
use Rattle.ly_yaccread.specs.File.{Written}

-- no named terminal is the end's
not_end : (terminals : List TerminalName) (n : Terminal) (t : ℕ) → slice_get terminals 0 ≡ Some end
    → IsNumberOf terminals n t → t ≢ 0
not_end terminals (token name) t first is zero =
    let no : Some end ≡ Some (joined.token name) = sym first ∙ (ap (slice_get terminals) (sym zero) ∙ is) in cc
not_end terminals (literal b) t first (inl is) zero =
    let no : Some end ≡ Some (joined.byte b) = sym first ∙ (ap (slice_get terminals) (sym zero) ∙ is) in cc
not_end terminals (literal b) t first (inr other) zero = let one = other.1 in omega (arith, one, zero)

-- so no numbered token is the end
pub none_end : (terminals : List TerminalName) (ts : List (Token Terminal)) (us : List (Token ℕ))
    → slice_get terminals 0 ≡ Some end → AllZip (IsNumberedToken terminals) ts us → All (λ u. u.terminal ≢ 0) us
none_end terminals [] [] first zip = λ k d lt. absurd (omega (arith, lt))
none_end terminals [] (u ∷ us) first zip = absurd zip
none_end terminals (t ∷ ts) [] first zip = absurd zip
none_end terminals (t ∷ ts) (u ∷ us) first zip = All-cons (λ x. x.terminal ≢ 0) u us
    (not_end terminals t.terminal u.terminal first zip.0.terminal) (none_end terminals ts us first zip.1)

-- terminal 0 is the end's
pub first_is_end : (x : Scanning) (w : Written) (s : Spec) → Joined x w s → slice_get s.terminals 0 ≡ Some end
first_is_end x w s j = ap (λ ts. slice_get ts 0) j.terminals

same_front : (a b : List (Token ℕ)) (x y : Token ℕ) → a ++ x ∷ [] ≡ b ++ y ∷ [] → a ≡ b
same_front [] [] x y e = refl
same_front [] (u ∷ []) x y e = absurd (let off : x ∷ [] ≡ u ∷ y ∷ [] → ⊥ = λ k. cc in off e)
same_front [] (u ∷ v ∷ b) x y e = absurd (let off : x ∷ [] ≡ u ∷ v ∷ (b ++ y ∷ []) → ⊥ = λ k. cc in off e)
same_front (u ∷ []) [] x y e = absurd (let off : u ∷ x ∷ [] ≡ y ∷ [] → ⊥ = λ k. cc in off e)
same_front (u ∷ v ∷ a) [] x y e = absurd (let off : u ∷ v ∷ (a ++ x ∷ []) ≡ y ∷ [] → ⊥ = λ k. cc in off e)
same_front (u ∷ a) (v ∷ b) x y e =
    let heads : u ≡ v = cc in
    let tails : a ++ x ∷ [] ≡ b ++ y ∷ [] = cc in
    let rest = same_front a b x y tails in
    cc

-- what is accepted, also with conflicts, is a derivation of all tokens before the end
pub derived : (G : Grammar) (judge : Judge) → IsAugmented G → (text : List ℕ) (tokens : List (Token ℕ))
    → All (λ t. t.terminal ≢ 0) tokens → (d : Tree) → AcceptsWith G judge (tokens ++ end_of text ∷ []) d
    → IsDerivation G tokens d
derived G judge augmented text tokens ends d run =
    let w = accepts_trees G judge augmented (tokens ++ end_of text ∷ []) d run in
    let none_behind = end_is_last tokens (yield_of d) w.2 (end_of text) w.1 ends w.3 w.4 in
    let whole : tokens ++ end_of text ∷ [] ≡ yield_of d ++ w.1 ∷ []
    = w.4 ∙ ap (λ b. yield_of d ++ w.1 ∷ b) none_behind in
    record { is_tree = w.0; yields = sym (same_front tokens (yield_of d) (end_of text) w.1 whole) }

module _ (G : Grammar) (judge : Judge) (augmented : IsAugmented G) (reduced : IsReduced G)
    (free : IsConflictFree G) (text : List ℕ) (tokens : List (Token ℕ)) (ends : All (λ t. t.terminal ≢ 0) tokens) where
  -- what is accepted is the only derivation
  pub only : (d : Tree) → AcceptsWith G judge (tokens ++ end_of text ∷ []) d → IsOnlyDerivation G tokens d
  only d run =
      let is = derived G judge augmented text tokens ends d run in
      record {
        is = is;
        only = λ other is_tree same. unambiguous G augmented free d other is.is_tree is_tree
            (is.yields ∙ sym same);
      }

  -- what it would read next continues a sentence
  continuing : (before : List (Token ℕ)) (ts : List ℕ) → AreNext G judge before ts → AreContinuing G before ts
  continuing before ts next = record { ordered = next.ordered; are = same } where
    same : (t : ℕ) → Contains ts t ↔ Continues G before t
    same t =
        let reads = next_continues G judge augmented reduced free before next.stack next.reads t in
        (λ has. reads.0 ((next.are t).0 has), λ continues. (next.are t).1 (reads.1 continues))

  -- what the reference machine says, derivations say
  pub sentences_say : (shape : ℕ → Shape) (e : End) (v : Verdict) → IsMachineVerdict G judge shape text tokens e v
      → IsSentenceVerdict G shape text tokens e v
  sentences_say shape e (accepted term) (clean, d, run, built) = (clean, d, only d run, built)
  sentences_say shape e (refused k t ts) (before, behind, split, refuses, count, next) = (
    before,
    behind,
    split,
    refused_first G judge augmented reduced free before behind t refuses,
    count,
    continuing before ts next,
  )
  sentences_say shape e (unmatched byte) (stuck, stack, leads) = (
    stuck,
    read_prefix G judge augmented reduced tokens tokens (record { stack = stack; rest = [] }) leads
        (sym (append-nil tokens)),
  )
  sentences_say shape e faulty h = absurd h

-- so does a set that two files generate
pub answers_sentences : HasOneVerdict → HasSomeVerdict → AnswersSentences
answers_sentences one some version limits lex yacc set g free text =
    let v = some (width_of version) (counts_of version) set g.generated.within g.generated.steady text in
    let file = g.specifies.file in
    let spec = g.spec in
    let useful = g.generated.automaton.grammar in
    let said : IsSpecVerdict file spec useful text v.0
    = tables_answer version file g.specifies.written spec set g.generated text v.0 v.1 in
    let tokens = said.0 in
    let are : AreTokensOf file spec text tokens said.1 = said.2 in
    let ends = none_end spec.terminals _ tokens
    (first_is_end _ g.specifies.written spec g.specifies.joined) are.numbered in (
      v.0,
      v.1,
      λ u h. one set text v.0 u v.1 h,
      (
        tokens,
        said.1,
        are,
        sentences_say useful (judge_of spec) g.generated.is_automaton.augmented g.fit.reduced free text tokens ends
            (shape_in spec) said.1 v.0 said.3,
      ),
    )

-- a term that such a set answers is built of a derivation of the text's tokens
pub trees_of_texts : TreesAreOfTexts
trees_of_texts version limits lex yacc set g text term is =
    let file = g.specifies.file in
    let spec = g.spec in
    let useful = g.generated.automaton.grammar in
    let said : IsSpecVerdict file spec useful text (accepted term)
    = tables_answer version file g.specifies.written spec set g.generated text (accepted term) is in
    let tokens = said.0 in
    let verdict = said.3 in
    let clean : said.1 ≡ Clean = verdict.0 in
    let are : AreTokensOf file spec text tokens said.1 = said.2 in
    let ends = none_end spec.terminals _ tokens
    (first_is_end _ g.specifies.written spec g.specifies.joined) are.numbered in (
      tokens,
      subst (AreTokensOf file spec text tokens) clean are,
      verdict.1,
      derived useful (judge_of spec) g.generated.is_automaton.augmented text tokens ends verdict.1 verdict.2,
      verdict.3,
    )
