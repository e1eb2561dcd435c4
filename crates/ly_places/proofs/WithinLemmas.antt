-- The tokens of a text stand in it one behind another, and so the parts of a term that is placed by them stand in it.
use Rattle.std.proofs.Common.{◌≡◌, ◌∙◌, ◌≤◌, ◌+◌, ℕ, List, [], ◌∷◌, ◌++◌, Option, Some, None, ap, arith, drop, length}
use Rattle.std.proofs.Common.{map, subst, sym, take}
use Rattle.std.proofs.lemmas.List.{length-drop, length-take-le}
use Rattle.ly_base.specs.Lexed.{Lexed, Place, Token, place_after, start_of, token_if, tokens_from}
use Rattle.ly_base.specs.Shape.{Shape}
use Rattle.ly_base.specs.Trees.{Tree, yield_of}
use Rattle.ly_base.specs.declared.lexeme.End.{End}
use Rattle.ly_base.specs.declared.lexeme.End.TheVariants.{BadCut, Clean, Stuck}
use Rattle.ly_base.specs.declared.lexeme.Lexeme.{Lexeme}
use Rattle.ly_spans.specs.Spans.{span_of, IsWithin}
use Rattle.ly_spans.specs.declared.span.Span.{Span}
use Rattle.ly_feed.specs.ScanPart.{ScanPart, condition_in, cut_in, scan_part_of, scanner_in, terminal_in}
use Rattle.ly_feed.specs.TableAnswer.{AreTokens, IsVerdict, end_of, fed_with}
use Rattle.ly_feed.specs.Verdict.{refused, unmatched}
use Rattle.ly_places.proofs.KeptLemmas.{joined_is}
use Rattle.ly_places.proofs.PlaceLemmas.{end_behind_one, placed_good}
use Rattle.ly_places.proofs.SpanLemmas.{or_end}
use Rattle.ly_places.specs.Placed.{Placed, PlacedTerms, built, end_behind, end_or, extent_or, leaf, more, none}
use Rattle.ly_places.specs.Placed.{nothing, placed, tokens_extent, where_of}
use Rattle.ly_places.specs.PlacedLaws.{AreNestedIn, FollowFrom, IsInside, IsNested}
use Rattle.ly_places.specs.Private.Kept.{all_joined}
use Rattle.ly_places.specs.Within.{AllStandWithin, StandsWithin}
use Rattle.ly_scan.proofs.LexingLemmas.{taken_within}
use Rattle.ly_scan.specs.Lexer.{IsLexemeAt, ScanEndsAt}
use Rattle.ly_tables.specs.TableSet.{TableSet}

-- tokens follow one another from a byte on, and end by another one
abbrev pub StandFrom : ℕ → ℕ → List (Token ℕ) → Type 0
StandFrom last end [] = Unit {0}
StandFrom last end (t ∷ ts) = ((last ≤ t.at) × (t.at + length t.bytes ≤ end)) × StandFrom (t.at + length t.bytes) end ts

module _ (p : ScanPart) where
  -- what a lexeme takes is there
  pub taken_there : (q : Place) (t : Lexeme) → IsLexemeAt (scanner_in p) q t → t.taken ≤ length q.rest
  taken_there q t is =
      let longest = is.0 in
      let cut = taken_within (cut_in p t.rule.0) t.matched t.taken longest.some_byte is.1 in
      let whole = longest.within in
      omega (arith, cut.1, whole)

  -- behind it the text ends where it did
  same_end : (q : Place) (t : Lexeme) → t.taken ≤ length q.rest
      → q.at + t.taken + length (drop t.taken q.rest) ≡ q.at + length q.rest
  same_end q t within = omega (arith, length-drop t.taken q.rest, within)

  -- a token in front of others, if there is one
  one_stands : (o : Option ℕ) (at last end : ℕ) (bytes : List ℕ) (ts : List (Token ℕ)) → last ≤ at
      → at + length bytes ≤ end → ((from : ℕ) → from ≤ at + length bytes → StandFrom from end ts)
      → StandFrom last end (token_if o at bytes ++ ts)
  one_stands None at last end bytes ts low high others = others last (omega (arith, low))
  one_stands (Some terminal) at last end bytes ts low high others =
      ((low, high), others (at + length bytes) (omega arith))

  lexemes_stand : (lexemes : List Lexeme) (q : Place) (e : End) (last : ℕ) → last ≤ q.at
      → Lexed (IsLexemeAt (scanner_in p)) (ScanEndsAt (scanner_in p)) (condition_in p) q lexemes e
      → StandFrom last (q.at + length q.rest) (tokens_from (terminal_in p) q.at q.rest lexemes)
  lexemes_stand [] q e last low h = tt
  lexemes_stand (t ∷ ts) q e last low h =
      let within = taken_there q t h.0 in
      let bytes = take t.taken q.rest in
      let size = length-take-le t.taken q.rest within in
      one_stands (terminal_in p t.rule.0 bytes) q.at last (q.at + length q.rest) bytes
      (tokens_from (terminal_in p) (q.at + t.taken) (drop t.taken q.rest) ts) low (omega (arith, size, within))
      (λ from h2. subst
      (λ end. StandFrom from end (tokens_from (terminal_in p) (q.at + t.taken) (drop t.taken q.rest) ts))
      (same_end q t within)
      (lexemes_stand ts (place_after (condition_in p) q t) e from (omega (arith, h2, size)) h.1))

  -- the tokens of what is left at a place stand there
  pub tokens_stand : (q : Place) (tokens : List (Token ℕ)) (e : End) → AreTokens p q tokens e
      → StandFrom q.at (q.at + length q.rest) tokens
  tokens_stand q tokens e are = subst (StandFrom q.at (q.at + length q.rest)) (sym are.are_of_lexemes)
      (lexemes_stand are.lexemes q e q.at (omega arith) are.lexed)

  -- a run that gets stuck does so there
  stuck_there : (lexemes : List Lexeme) (q : Place) (byte : ℕ)
      → Lexed (IsLexemeAt (scanner_in p)) (ScanEndsAt (scanner_in p)) (condition_in p) q lexemes (Stuck byte)
      → byte ≤ q.at + length q.rest
  stuck_there [] q byte h = omega (arith, h.1)
  stuck_there (t ∷ ts) q byte h =
      let within = taken_there q t h.0 in
      let there = stuck_there ts (place_after (condition_in p) q t) byte h.1 in
      omega (arith, there, same_end q t within)

-- tokens that stand so follow one another
pub stand_follow : (last end : ℕ) (ts : List (Token ℕ)) → StandFrom last end ts → FollowFrom last ts
stand_follow last end [] f = tt
stand_follow last end (t ∷ ts) f = (f.0.0, stand_follow (t.at + length t.bytes) end ts f.1)

-- the end of the text stands behind them
end_stands : (last : ℕ) (text : List ℕ) (ts : List (Token ℕ)) → last ≤ length text
    → StandFrom last (length text) ts → StandFrom last (length text) (ts ++ end_of text ∷ [])
end_stands last text [] low f = ((low, omega arith), tt)
end_stands last text (t ∷ ts) low f = (f.0, end_stands (t.at + length t.bytes) text ts f.0.1 f.1)

fed_stand : (text : List ℕ) (ts : List (Token ℕ)) (e : End) → StandFrom 0 (length text) ts
    → StandFrom 0 (length text) (fed_with (end_of text) ts e)
fed_stand text ts Clean f = end_stands 0 text ts (omega arith) f
fed_stand text ts (Stuck byte) f = f
fed_stand text ts (BadCut byte) f = f

-- so each of them ends there
one_within : (last end : ℕ) (before : List (Token ℕ)) (t : Token ℕ) (behind : List (Token ℕ))
    → StandFrom last end (before ++ t ∷ behind) → t.at + length t.bytes ≤ end
one_within last end [] t behind f = f.0.1
one_within last end (u ∷ us) t behind f = one_within (u.at + length u.bytes) end us t behind f.1

-- the tokens of a text stand in it
pub text_stands : (p : ScanPart) (text : List ℕ) (tokens : List (Token ℕ)) (e : End)
    → AreTokens p (start_of text) tokens e → StandFrom 0 (length text) tokens
text_stands p text tokens e are = subst (λ end. StandFrom 0 end tokens) (nothing_before (length text))
    (tokens_stand p (start_of text) tokens e are)
  where
    nothing_before : (n : ℕ) → 0 + n ≡ n
    nothing_before n = omega arith

-- a token that is refused stands in the text, or is its end
pub refused_within : (s : TableSet) (text : List ℕ) (k : ℕ) (t : Token ℕ) (expected : List ℕ)
    → IsVerdict s text (refused k t expected) → t.at + length t.bytes ≤ length text
refused_within s text k t expected is =
    let comes = is.1 in
    one_within 0 (length text) is.0 t comes.behind (subst (StandFrom 0 (length text)) comes.split
    (fed_stand text comes.tokens comes.e (text_stands (scan_part_of s) text comes.tokens comes.e comes.are_tokens)))

-- so does a byte at which no rule matches
pub unmatched_within : (s : TableSet) (text : List ℕ) (byte : ℕ) → IsVerdict s text (unmatched byte)
    → byte ≤ length text
unmatched_within s text byte is =
    let are = is.are_tokens in
    let there = stuck_there (scan_part_of s) are.lexemes (start_of text) byte are.lexed in omega (arith, there)

-- tokens that stand behind others do so from where the last of those ends
behind_some : (last end : ℕ) (t : Token ℕ) (before ts : List (Token ℕ)) → StandFrom last end (t ∷ (before ++ ts))
    → StandFrom (end_behind (t ∷ before)) end ts × (end_behind (t ∷ before) ≤ end)
behind_some last end t [] ts f = (f.1, f.0.1)
behind_some last end t (u ∷ us) ts f = behind_some (t.at + length t.bytes) end u us ts f.1

pub stand_behind : (end : ℕ) (before ts : List (Token ℕ)) → StandFrom 0 end (before ++ ts)
    → StandFrom (end_behind before) end ts × (end_behind before ≤ end)
stand_behind end [] ts f = (f, omega arith)
stand_behind end (t ∷ before) ts f = behind_some 0 end t before ts f

-- the last of them ends there
last_within : (last end : ℕ) (ts : List (Token ℕ)) → last ≤ end → StandFrom last end ts
    → end_or last (all_joined (map span_of ts)) ≤ end
last_within last end [] low f = low
last_within last end (t ∷ ts) low f =
    subst (λ n. n ≤ end) (end_behind_one last (span_of t) (all_joined (map span_of ts)))
    (last_within (t.at + length t.bytes) end ts f.0.1 f.1)

-- what stands within something that ends there does so too, with all that it consists of
within_one : (count : ℕ) (inner outer : Span) → IsInside inner outer → outer.end ≤ count → IsWithin count inner
within_one count inner outer h high = record { forward = h.turned; inside = omega (arith, h.end, high) }

mutual
  nested_within : (count : ℕ) (k : Placed) (e : Span) → IsInside (where_of k) e → IsNested k → e.end ≤ count
      → StandsWithin count k
  nested_within count (nothing own) e h f high = within_one count own e h high
  nested_within count (leaf t own) e h f high = within_one count own e h high
  nested_within count (built p own ks) e h f high =
      let here = within_one count own e h high in (here, all_nested_within count ks own f here.inside)

  all_nested_within : (count : ℕ) (ks : PlacedTerms) (e : Span) → AreNestedIn e ks → e.end ≤ count
      → AllStandWithin count ks
  all_nested_within count none e f high = tt
  all_nested_within count (more k ks) e f high =
      (nested_within count k e f.0 f.1 high, all_nested_within count ks e f.2 high)

-- the parts of a term stand in the text by whose tokens it is placed
pub placed_within : (p : ScanPart) (text : List ℕ) (tokens : List (Token ℕ)) (e : End) (shape : ℕ → Shape)
    (before : List (Token ℕ)) (d : Tree) → AreTokens p (start_of text) tokens e → tokens ≡ before ++ yield_of d
    → StandsWithin (length text) (placed shape (end_behind before) d)
placed_within p text tokens e shape before d are yields =
    let last = end_behind before in
    let own = stand_behind (length text) before (yield_of d)
    (subst (StandFrom 0 (length text)) yields (text_stands p text tokens e are)) in
    let ends = last_within last (length text) (yield_of d) own.1 own.0 in
    let is : end_or last (all_joined (map span_of (yield_of d))) ≡ (extent_or last (tokens_extent d)).end
    = ap (end_or last) (joined_is d) ∙ sym (or_end last (tokens_extent d)) in
    let both = placed_good shape last d (stand_follow last (length text) (yield_of d) own.0) in
    nested_within (length text) (placed shape last d) (extent_or last (tokens_extent d)) both.0 both.1
    (subst (λ n. n ≤ length text) is ends)
