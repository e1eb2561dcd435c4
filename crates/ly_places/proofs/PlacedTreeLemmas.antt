-- The spans of a text's tree: each part is within its node, and without spans the tree is the text's term.
use Rattle.std.proofs.Common.{◌≡◌, ◌∙◌, ◌≤◌, ◌+◌, ◌-◌, ℕ, List, [], ◌∷◌, ◌++◌, All, Option, Some, None, ap, arith, drop}
use Rattle.std.proofs.Common.{inl, inr, length, refl, subst, sym, take}
use Rattle.std.proofs.lemmas.List.{drop-drop, length-drop, length-take-le}
use Rattle.std.proofs.lemmas.List.Elements.{All-append, All-cons, All-nil}
use Rattle.ly_base.specs.Lexed.{Lexed, Place, Token, place_after, start_of, token_if, tokens_from}
use Rattle.ly_base.specs.Shape.{Shape}
use Rattle.ly_base.specs.Trees.{Occurs, OccursAmong, Tree, Trees, leaf, more, node, none, yield_of}
use Rattle.ly_base.specs.declared.lexeme.End.{End}
use Rattle.ly_base.specs.declared.lexeme.End.TheVariants.{Clean}
use Rattle.ly_base.specs.declared.lexeme.Lexeme.{Lexeme}
use Rattle.ly_feed.specs.ScanPart.{ScanPart, condition_in, scan_part_of, scanner_in, terminal_in}
use Rattle.ly_feed.specs.TableAnswer.{AreTokens, IsVerdict}
use Rattle.ly_feed.specs.Verdict.{accepted}
use Rattle.ly_pack.proofs.CellLemmas.{All-right}
use Rattle.ly_parse.specs.Deriving.{shape_of_rule}
use Rattle.ly_places.proofs.PlaceLemmas.{forget, placed_good}
use Rattle.ly_places.proofs.WithinLemmas.{StandFrom, stand_behind, stand_follow, taken_there, text_stands}
use Rattle.ly_places.specs.Placed.{Placed, end_behind, end_or, extent_or, forgotten, made, placed, placed_all, start_or}
use Rattle.ly_places.specs.Placed.{tokens_extent, tokens_extents}
use Rattle.ly_places.specs.Placed as place
use Rattle.ly_places.specs.PlacedAnswer.{IsPlacedBy}
use Rattle.ly_places.specs.PlacedLaws.{IsNested, IsOfText, PlacedTreesAreNested, PlacedTreesAreOfVerdicts}
use Rattle.ly_scan.specs.Lexer.{IsLexemeAt, ScanEndsAt}
use Rattle.ly_spans.specs.Spans.{bytes_at, span_of}
use Rattle.ly_tables.specs.TableSet.{TableSet}
use Rattle.ly_tree.specs.Term.{build}

module _ (p : ScanPart) (text : List ℕ) where
  -- a token of bytes that are in the text has them in its span
  one_of_text : (o : Option ℕ) (at n : ℕ) (rest : List ℕ) → rest ≡ drop at text → n ≤ length rest
      → All (IsOfText text) (token_if o at (take n rest))
  one_of_text None at n rest is within = All-nil (IsOfText text)
  one_of_text (Some terminal) at n rest is within =
      let size = length-take-le n rest within in
      let count : at + length (take n rest) - at ≡ n = omega (arith, size) in
      All-cons (IsOfText text) _ [] (ap (λ k. take k (drop at text)) count ∙ ap (take n) (sym is))
      (All-nil (IsOfText text))

  lexemes_of_text : (lexemes : List Lexeme) (q : Place) (e : End) → q.rest ≡ drop q.at text
      → Lexed (IsLexemeAt (scanner_in p)) (ScanEndsAt (scanner_in p)) (condition_in p) q lexemes e
      → All (IsOfText text) (tokens_from (terminal_in p) q.at q.rest lexemes)
  lexemes_of_text [] q e is h = All-nil (IsOfText text)
  lexemes_of_text (t ∷ ts) q e is h =
      let within = taken_there p q t h.0 in
      let next : drop t.taken q.rest ≡ drop (q.at + t.taken) text
      = ap (drop t.taken) is ∙ drop-drop t.taken q.at text in
      All-append (IsOfText text) (token_if (terminal_in p t.rule.0 (take t.taken q.rest)) q.at (take t.taken q.rest))
      (tokens_from (terminal_in p) (q.at + t.taken) (drop t.taken q.rest) ts)
      (one_of_text (terminal_in p t.rule.0 (take t.taken q.rest)) q.at t.taken q.rest is within)
      (lexemes_of_text ts (place_after (condition_in p) q t) e next h.1)

  -- the tokens of a text have its bytes in their spans
  pub tokens_of_text : (tokens : List (Token ℕ)) (e : End) → AreTokens p (start_of text) tokens e
      → All (IsOfText text) tokens
  tokens_of_text tokens e are = subst (All (IsOfText text)) (sym are.are_of_lexemes)
      (lexemes_of_text are.lexemes (start_of text) e refl are.lexed)

pub placed_trees_are_nested : PlacedTreesAreNested
placed_trees_are_nested s text t h =
    let last = end_behind h.before in
    let own = stand_behind (length text) h.before (yield_of h.tree) (subst (StandFrom 0 (length text)) h.yields
    (text_stands (scan_part_of s) text h.tokens Clean h.are_tokens)) in
    subst IsNested (sym h.stands) (placed_good (shape_of_rule s.rules) last h.tree
    (stand_follow last (length text) (yield_of h.tree) own.0)).1

pub placed_trees_are_of_verdicts : PlacedTreesAreOfVerdicts
placed_trees_are_of_verdicts s text t h =
    let all = subst (All (IsOfText text)) h.yields
    (tokens_of_text (scan_part_of s) text h.tokens Clean h.are_tokens) in
    let same : forgotten text t ≡ build (shape_of_rule s.rules) h.tree
    = ap (forgotten text) h.stands ∙ forget text (shape_of_rule s.rules) (end_behind h.before) h.tree
    (All-right (IsOfText text) h.before (yield_of h.tree) all) in
    subst (λ d. IsVerdict s text (accepted d)) (sym same) h.says

mutual
  -- trees whose rules have the same shapes have the same placed terms
  pub placed_alike : (f g : ℕ → Shape) (last : ℕ) (d : Tree) → ((p : ℕ) → Occurs p d → f p ≡ g p)
      → placed f last d ≡ placed g last d
  placed_alike f g last (leaf t) same = refl
  placed_alike f g last (node p ts) same =
      ap (λ s. made p s (extent_or last (tokens_extents ts)) (placed_all f (start_or last (tokens_extents ts)) ts))
      (same p (inl refl))
      ∙ ap (made p (g p) (extent_or last (tokens_extents ts)))
      (all_placed_alike f g (start_or last (tokens_extents ts)) ts (λ q there. same q (inr there)))

  all_placed_alike : (f g : ℕ → Shape) (last : ℕ) (ts : Trees) → ((p : ℕ) → OccursAmong p ts → f p ≡ g p)
      → placed_all f last ts ≡ placed_all g last ts
  all_placed_alike f g last none same = refl
  all_placed_alike f g last (more t ts) same = λ i. place.more
      (placed_alike f g last t (λ p here. same p (inl here)) i)
      (all_placed_alike f g (end_or last (tokens_extent t)) ts (λ p there. same p (inr there)) i)
