-- A JSON text with locations determines its tree.
use Rattle.std.specs.Prelude.{◌≡◌, ◌<◌, ◌^◌, ℕ, List, [], ◌++◌, All, codes, take}
use Rattle.ly_base.specs.Location.{column_behind, line_behind}
use Rattle.ly_spans.specs.Spans.{bytes_at}
use Rattle.ly_places.specs.Placed as placed
use Rattle.ly_places.specs.Placed.{Placed, PlacedTerms}
use Rattle.ly_places.specs.PlacedJson.{placed_json}
use Rattle.ly_print.specs.Json.{json_content, json_located, json_name}
use Rattle.ly_tree.specs.Shown.{Vocabulary}

-- an offset, with its line and its column
pub record Spot : Type 0 where
  pub offset : ℕ
  pub line : ℕ
  pub column : ℕ

-- the location of an offset in a text
abbrev pub spot_at : List ℕ → ℕ → Spot
spot_at text offset = record {
  offset = offset;
  line = line_behind (take offset text);
  column = column_behind (take offset text);
}

mutual
  -- a placed term with names in place of numbers, and with the locations where it begins and ends
  pub data NamedPlaces : Type 0 where
    nothing : NamedPlaces
    leaf : List ℕ → Spot → Spot → List ℕ → NamedPlaces
    built : List ℕ → Spot → Spot → AllNamedPlaces → NamedPlaces

  pub data AllNamedPlaces : Type 0 where
    none : AllNamedPlaces
    more : NamedPlaces → AllNamedPlaces → AllNamedPlaces

abbrev mutual
  -- a placed term with its names
  pub named : Vocabulary → List ℕ → Placed → NamedPlaces
  named v text (placed.nothing e) = nothing
  named v text (placed.leaf t e) =
      leaf (v.terminal t) (spot_at text e.start) (spot_at text e.end) (bytes_at text e)
  named v text (placed.built p e ts) =
      built (v.constructor p) (spot_at text e.start) (spot_at text e.end) (all_named v text ts)

  pub all_named : Vocabulary → List ℕ → PlacedTerms → AllNamedPlaces
  all_named v text placed.none = none
  all_named v text (placed.more t ts) = more (named v text t) (all_named v text ts)

-- the printed form of a location, and of a start and an end
abbrev pub json_spot : Spot → List ℕ
json_spot s = json_located s.offset s.line s.column

abbrev pub json_spots : Spot → Spot → List ℕ
json_spots a b = codes ",\"start\":" ++ (json_spot a ++ (codes ",\"end\":" ++ json_spot b))

abbrev mutual
  -- its JSON text
  pub json_named : NamedPlaces → List ℕ
  json_named nothing = codes "null"
  json_named (leaf name a b bytes) = codes "{\"token\":" ++ (json_name name ++ (json_spots a b
      ++ (codes "," ++ (json_content bytes ++ codes "}"))))
  json_named (built name a b ts) = codes "{\"node\":" ++ (json_name name ++ (json_spots a b
      ++ (codes ",\"children\":[" ++ (jsons_named ts ++ codes "]}"))))

  -- the text of terms, with commas between them
  pub jsons_named : AllNamedPlaces → List ℕ
  jsons_named none = []
  jsons_named (more t ts) = json_named t ++ others_named ts

  pub others_named : AllNamedPlaces → List ℕ
  others_named none = []
  others_named (more t ts) = codes "," ++ (json_named t ++ others_named ts)

-- its numbers are below 2^64
pub record IsCounted (s : Spot) : Type 0 where
  pub offset : s.offset < 2 ^ 64
  pub line : s.line < 2 ^ 64
  pub column : s.column < 2 ^ 64

abbrev mutual
  -- the texts of leaves consist of bytes, and all numbers are below 2^64
  pub IsSpelled : NamedPlaces → Type 0
  IsSpelled nothing = Unit {0}
  IsSpelled (leaf name a b bytes) = IsCounted a × IsCounted b × All (λ byte. byte < 256) bytes
  IsSpelled (built name a b ts) = IsCounted a × IsCounted b × AreSpelled ts

  pub AreSpelled : AllNamedPlaces → Type 0
  AreSpelled none = Unit {0}
  AreSpelled (more t ts) = IsSpelled t × AreSpelled ts

-- a text that begins with a placed term determines the term and where it ends
abbrev pub SaysOnePlacedTree : Type 0
SaysOnePlacedTree = (s t : NamedPlaces) (r q : List ℕ) → IsSpelled s → IsSpelled t
    → json_named s ++ r ≡ json_named t ++ q → (s ≡ t) × (r ≡ q)

-- the text of a placed term is that of its names and locations
abbrev pub IsOfNamedPlaces : Type 0
IsOfNamedPlaces = (v : Vocabulary) (text : List ℕ) (t : Placed) → placed_json v text t ≡ json_named (named v text t)
