-- Placed terms as JSON texts (RFC 8259), without blanks.
use Rattle.std.specs.Prelude.{ℕ, List, ◌++◌, codes}
use Rattle.ly_spans.specs.Spans.{bytes_at, json_span}
use Rattle.ly_places.specs.Placed.{Placed, PlacedTerms, built, leaf, more, none, nothing}
use Rattle.ly_print.specs.Json.{json_content, json_name}
use Rattle.ly_tree.specs.Shown.{Vocabulary}

abbrev mutual
  -- `null`; a leaf, as `{"token":"NUM","start":[0,1,1],"end":[2,1,3],"text":"12"}`; a node, as
  -- `{"node":"Add","start":[0,1,1],"end":[5,1,6],"children":[..]}`
  pub placed_json : Vocabulary → List ℕ → Placed → List ℕ
  placed_json v text (nothing e) = codes "null"
  placed_json v text (leaf t e) = codes "{\"token\":" ++ (json_name (v.terminal t) ++ (json_span text e
      ++ (codes "," ++ (json_content (bytes_at text e) ++ codes "}"))))
  placed_json v text (built p e ts) = codes "{\"node\":" ++ (json_name (v.constructor p) ++ (json_span text e
      ++ (codes ",\"children\":[" ++ (placed_jsons v text ts ++ codes "]}"))))

  -- terms with commas between them
  pub placed_jsons : Vocabulary → List ℕ → PlacedTerms → List ℕ
  placed_jsons v text none = codes ""
  placed_jsons v text (more t none) = placed_json v text t
  placed_jsons v text (more t (more u ts)) = placed_json v text t ++ (codes "," ++ placed_jsons v text (more u ts))
