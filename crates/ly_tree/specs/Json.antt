-- Terms as JSON texts (RFC 8259), without blanks.
use Rattle.std.specs.Prelude.{ℕ, List, ◌++◌, codes}
use Rattle.ly_print.specs.Json.{json_content, json_name}
use Rattle.ly_tree.specs.Shown.{Vocabulary}
use Rattle.ly_tree.specs.Term.{Term, Terms}
use Rattle.ly_tree.specs.Written.{written, written_all, Notation}

-- the text before the content of a leaf, with the name of its terminal
abbrev pub before_content : List ℕ → List ℕ
before_content name = codes "{\"token\":" ++ (json_name name ++ codes ",")

-- the text before the children of a node, with its constructor
abbrev pub before_children : List ℕ → List ℕ
before_children name = codes "{\"node\":" ++ (json_name name ++ codes ",\"children\":[")

-- `null`; a leaf, as `{"token":"NUM","text":"12"}`; a node, as `{"node":"Add","children":[..]}`
abbrev pub as_json : Vocabulary → Notation
as_json v = record {
  no_term = codes "null";
  leaf_text = λ t bytes. before_content (v.terminal t) ++ (json_content bytes ++ codes "}");
  opens = λ p. before_children (v.constructor p);
  closes = codes "]}";
}

abbrev pub json : Vocabulary → Term → List ℕ
json v t = written (as_json v) t

-- terms with commas between them
abbrev pub jsons : Vocabulary → Terms → List ℕ
jsons v ts = written_all (as_json v) ts
