-- The verdict of a parser's tables on tokens of a text that weren't found by the set's scanner.
use Rattle.std.specs.Prelude.{◌≡◌, ◌↔◌, ◌<◌, ◌≤◌, ℕ, ◌+◌, List, [], ◌∷◌, ◌++◌, length, map}
use Rattle.ly_base.specs.Lexed.{Token, start_of}
use Rattle.ly_base.specs.Trees.{Tree, yield_of}
use Rattle.ly_base.specs.declared.lexeme.End.TheVariants.{Clean}
use Rattle.ly_spans.specs.Spans.{bytes_at, IsWithin}
use Rattle.ly_feed.specs.ScanPart.{scan_part_of}
use Rattle.ly_feed.specs.TableAnswer.{AreTokens, IsVerdict, end_of}
use Rattle.ly_feed.specs.Verdict as plain
use Rattle.ly_feed.specs.Verdict.{Verdict, accepted, faulty, refused, unmatched}
use Rattle.ly_pack.specs.Machine.{Machine}
use Rattle.ly_parse.specs.Expected.{AreExpected}
use Rattle.ly_parse.specs.Feeding as fed
use Rattle.ly_parse.specs.Feeding.{Fed, Feeds, Level, states_on}
use Rattle.ly_parse.specs.Reading.{ReadsTokens}
use Rattle.ly_places.specs.Placed.{Placed, end_behind, placed}
use Rattle.ly_places.specs.PlacedAnswer as with_places
use Rattle.ly_places.specs.PlacedAnswer.{PlacedVerdict}
use Rattle.ly_parse.specs.Deriving.{Derives, shape_of_rule}
use Rattle.ly_places.specs.declared.placed_token.PlacedToken.{PlacedToken}
use Rattle.ly_tables.specs.TableSet.{TableSet, machine_of}
use Rattle.ly_tree.specs.Term.{build}

-- a token of a text, with its bytes
abbrev pub token_over : List ℕ → PlacedToken → Token ℕ
token_over text t = record { terminal = t.terminal.0; at = t.extent.start; bytes = bytes_at text t.extent }

-- Its terminal is less than this number and isn't the end, and its span is within this many bytes.
pub record IsTokenOver (terminals count : ℕ) (t : PlacedToken) : Type 0 where
  pub some : 1 ≤ t.terminal.0
  pub known : t.terminal.0 < terminals
  pub within : IsWithin count t.extent

-- Of its input a parser reads the tokens before this one, which has this outcome.
pub record ComesOf (m : Machine) (all before : List (Token ℕ)) (t : Token ℕ) (out : Fed) : Type 0 where
  pub behind : List (Token ℕ)
  pub split : all ≡ before ++ t ∷ behind
  pub last : List Level
  pub reads : ReadsTokens m [] before last
  pub feeds : Feeds m t last out

-- The verdict of a parser's tables on tokens followed by the end: the one that IsSaidFrom defines for tokens found by a
-- scanner.
abbrev pub IsSaidOf : Machine → List (Token ℕ) → Token ℕ → Verdict → Type 0
IsSaidOf m tokens end (accepted d) = (last : List Level) × ReadsTokens m [] tokens last × Feeds m end last (fed.done d)
IsSaidOf m tokens end (refused k t ts) = (before : List (Token ℕ)) × (c : ComesOf m (tokens ++ end ∷ []) before t
    fed.refused) × (k ≡ length before + 1) × AreExpected m (states_on c.last) ts
IsSaidOf m tokens end (unmatched byte) = ⊥
IsSaidOf m tokens end faulty = (before : List (Token ℕ)) × (t : Token ℕ) × ComesOf m (tokens ++ end ∷ []) before t
    fed.faulty

-- the verdict of a table set on tokens of a text
abbrev pub IsTokenVerdict : TableSet → List ℕ → List (Token ℕ) → Verdict → Type 0
IsTokenVerdict s text tokens v = IsSaidOf (machine_of s) tokens (end_of text) v

-- The tables accept these tokens with this derivation tree, their term is what the set's rules build from it, and the
-- spans are those of the tree. It has exactly these tokens after some others (after none, if the tables accept with one
-- level on their stack).
pub record IsPlacedOver (s : TableSet) (text : List ℕ) (tokens : List (Token ℕ)) (t : Placed) : Type 0 where
  pub tree : Tree
  pub derives : Derives (machine_of s) tokens (end_of text) tree
  pub before : List (Token ℕ)
  pub yields : tokens ≡ before ++ yield_of tree
  pub says : IsTokenVerdict s text tokens (accepted (build (shape_of_rule s.rules) tree))
  pub stands : t ≡ placed (shape_of_rule s.rules) (end_behind before) tree

abbrev pub IsPlacedTokenVerdict : TableSet → List ℕ → List (Token ℕ) → PlacedVerdict → Type 0
IsPlacedTokenVerdict s text tokens (with_places.accepted t) = IsPlacedOver s text tokens t
IsPlacedTokenVerdict s text tokens (with_places.refused k t ts) = IsTokenVerdict s text tokens (refused k t ts)
IsPlacedTokenVerdict s text tokens (with_places.unmatched byte) = ⊥
IsPlacedTokenVerdict s text tokens with_places.faulty = IsTokenVerdict s text tokens faulty

-- The verdict on the tokens that a set's scanner finds in a text is the verdict on the text.
abbrev pub SaysTheSameOfItsTokens : Type 0
SaysTheSameOfItsTokens = (s : TableSet) (text : List ℕ) (tokens : List (Token ℕ)) (v : Verdict)
    → AreTokens (scan_part_of s) (start_of text) tokens Clean → IsTokenVerdict s text tokens v ↔ IsVerdict s text v
