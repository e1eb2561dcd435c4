-- Lines of JSON.
use Rattle.std.proofs.Common.{◌≡◌, ◌++◌, ◌∷◌, ℕ, List, [], append_assoc, codes}
use Rattle.ly_base.specs.Bytes.{newline}
use Rattle.ly_base.specs.Lexed.{Token}
use Rattle.ly_feed.specs.JsonLines.{json_expected, json_refusal, json_refused_line, json_refused_with, json_token}
use Rattle.ly_tree.specs.Shown.{Vocabulary}

from_the_left : (a b c d e : List ℕ) → a ++ (b ++ (c ++ (d ++ e))) ≡ (((a ++ b) ++ c) ++ d) ++ e
from_the_left a b c d e = simp append_assoc

-- without places it is the line of an answer that has none
pub refused_without : (v : Vocabulary) (k : ℕ) (t : Token ℕ) (ts : List ℕ)
    → json_refused_with v k t [] ts ≡ json_refused_line v k t ts
refused_without v k t ts =
    from_the_left (json_refusal k t.at) (json_token v t) (json_expected v ts) (codes "}") (newline ∷ [])
