-- What is left to print of parts, and of the nodes around them. Of each of these that isn't ended it is known how many
-- parts stand behind it; the innermost is the first.
use Rattle.std.specs.Prelude.{ℕ, suc, ◌≤◌, ◌+◌, ◌-◌, ◌*◌, List, [], ◌∷◌, ◌++◌, Bool, codes, length}
use Rattle.std.specs.Prelude.{if◌then◌else◌, nat_eq, nat_lt}
use Rattle.ly_spans.specs.declared.span.Span.{Span}
use Rattle.ly_spans.specs.Spans.{bytes_at, json_span, IsWithin}
use Rattle.ly_places.specs.declared.part.Part.{Part}
use Rattle.ly_places.specs.declared.part.PartKind.{PartKind}
use Rattle.ly_places.specs.declared.part.PartKind.TheVariants.{Node, Nothing, Token}
use Rattle.ly_print.specs.Json.{json_content, json_name}
use Rattle.ly_tree.specs.Shown.{Vocabulary}

-- what is printed of a part before its children: of one that is no node, all of it
abbrev pub opening : Vocabulary → List ℕ → PartKind → Span → List ℕ
opening v text Nothing e = codes "null"
opening v text (Token t) e = codes "{\"token\":" ++ (json_name (v.terminal t.0) ++ (json_span text e
    ++ (codes "," ++ (json_content (bytes_at text e) ++ codes "}"))))
opening v text (Node p) e = codes "{\"node\":" ++ (json_name (v.constructor p.0) ++ (json_span text e
    ++ codes ",\"children\":["))

-- the nodes that aren't ended once a part of so many is begun, with so many parts behind its first one
abbrev pub begun : PartKind → ℕ → ℕ → List ℕ → List ℕ
begun Nothing parts left nodes = nodes
begun (Token t) parts left nodes = nodes
begun (Node p) parts left nodes = (suc left - parts) ∷ nodes

-- a part that has others, of which the next one is the first
abbrev pub has_others : Part → Bool
has_others p = nat_lt 1 p.parts

-- what is printed where so many parts are left: the ends of nodes, and a comma if another part comes
abbrev pub closing : ℕ → List ℕ → List ℕ
closing left [] = []
closing left (n ∷ ns) = if nat_eq n left then codes "]}" ++ closing left ns else codes ","

-- the nodes that aren't ended there
abbrev pub still_open : ℕ → List ℕ → List ℕ
still_open left [] = []
still_open left (n ∷ ns) = if nat_eq n left then still_open left ns else n ∷ ns

-- what is printed behind the opening of a part
abbrev pub behind_opening : Part → ℕ → List ℕ → List ℕ
behind_opening p left nodes = if has_others p then [] else closing left (begun p.kind p.parts left nodes)

-- the nodes that aren't ended then
abbrev pub open_behind : Part → ℕ → List ℕ → List ℕ
open_behind p left nodes =
    if has_others p then begun p.kind p.parts left nodes else still_open left (begun p.kind p.parts left nodes)

-- what is printed of a part up to the next one
abbrev pub part_text : Vocabulary → List ℕ → Part → ℕ → List ℕ → List ℕ
part_text v text p left nodes = opening v text p.kind p.extent ++ behind_opening p left nodes

-- what is printed of parts that are left
abbrev pub parts_text : Vocabulary → List ℕ → List ℕ → List Part → List ℕ
parts_text v text nodes [] = []
parts_text v text nodes (p ∷ ps) = opening v text p.kind p.extent ++ (behind_opening p (length ps) nodes
    ++ parts_text v text (open_behind p (length ps) nodes) ps)

-- A part stands within the text, and has at least itself, and at most those that are left behind it.
pub record IsSound (count : ℕ) (p : Part) (left : ℕ) : Type 0 where
  pub within : IsWithin count p.extent
  pub some : 1 ≤ p.parts
  pub left_for_it : p.parts ≤ suc left

-- each of these does
abbrev pub AreSound : ℕ → List Part → Type 0
AreSound count [] = Unit {0}
AreSound count (p ∷ ps) = IsSound count p (length ps) × AreSound count ps

-- how many bytes a part takes at most, where so many are enough beside its token's
abbrev pub most_of : ℕ → Part → ℕ
most_of each p = each + 6 * (p.extent.end - p.extent.start)
