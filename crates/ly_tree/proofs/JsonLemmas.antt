-- How long terms are as JSON.
use Rattle.std.proofs.Common.{◌+◌, ◌≤◌, ◌++◌, ℕ, arith, codes, length, length-append}
use Rattle.ly_print.proofs.JsonLemmas.{json_content_len}
use Rattle.ly_print.specs.Json.{json_content}
use Rattle.ly_tree.specs.Json.{as_json, before_children, before_content}
use Rattle.ly_tree.specs.Shown.{Vocabulary}
use Rattle.ly_tree.specs.Written.{IsWithin}

-- Six bytes are enough for each byte of a leaf, as in `\u001f`, and twelve beside the longest label: the ten of
-- `"bytes":[` and `]`, what closes a leaf, and a comma.
pub json_within : (v : Vocabulary) (longest : ℕ) → ((t : ℕ) → length (before_content (v.terminal t)) ≤ longest)
    → ((p : ℕ) → length (before_children (v.constructor p)) ≤ longest) → IsWithin (as_json v) (longest + 12) 6
json_within v longest leaves nodes = record {
  no_term = omega arith;
  leaves = λ t bytes all.
      omega (
        arith,
        leaves t,
        length-append (before_content (v.terminal t)) (json_content bytes ++ codes "}"),
        length-append (json_content bytes) (codes "}"),
        json_content_len bytes all,
      );
  nodes = λ p. omega (arith, nodes p);
}
