-- The error in a text as a line of JSON (RFC 8259): an object, and a newline.
use Rattle.std.specs.Prelude.{ℕ, List, [], ◌∷◌, ◌++◌, nat_eq, if◌then◌else◌, codes}
use Rattle.std.specs.Fmt.{decimal}
use Rattle.std.specs.List.{flat_map}
use Rattle.ly_base.specs.Bytes.{newline}
use Rattle.ly_base.specs.Lexed.{Token}
use Rattle.ly_print.specs.Json.{json_content, json_name}
use Rattle.ly_tree.specs.Shown.{Vocabulary}

-- the members with the number of an unexpected token, and its offset
abbrev pub json_refusal : ℕ → ℕ → List ℕ
json_refusal k at = codes "{\"error\":\"refused\",\"number\":" ++ decimal k ++ codes ",\"byte\":" ++ decimal at

-- the member with its name, followed by its bytes; the end has a name, and no bytes
abbrev pub json_token : Vocabulary → Token ℕ → List ℕ
json_token v t = if nat_eq t.terminal 0 then codes ",\"token\":\"$end\""
    else codes ",\"token\":" ++ json_name (v.terminal t.terminal) ++ codes "," ++ json_content t.bytes

-- the names of terminals, a comma before each
abbrev pub behind_commas : Vocabulary → List ℕ → List ℕ
behind_commas v ts = flat_map (λ t. codes "," ++ json_name (v.terminal t)) ts

-- the names of terminals, commas between them
abbrev pub json_names : Vocabulary → List ℕ → List ℕ
json_names v [] = []
json_names v (t ∷ ts) = json_name (v.terminal t) ++ behind_commas v ts

-- the member with the expected terminals
abbrev pub json_expected : Vocabulary → List ℕ → List ℕ
json_expected v ts = codes ",\"expected\":[" ++ json_names v ts ++ codes "]"

-- a token is unexpected, or the end
abbrev pub json_refused_line : Vocabulary → ℕ → Token ℕ → List ℕ → List ℕ
json_refused_line v k t ts = json_refusal k t.at ++ json_token v t ++ json_expected v ts ++ codes "}" ++ newline ∷ []

-- no rule matches at a byte
abbrev pub json_unmatched_line : ℕ → List ℕ
json_unmatched_line byte = codes "{\"error\":\"unmatched\",\"byte\":" ++ decimal byte ++ codes "}" ++ newline ∷ []

-- Both with members after the offset, which give the location.
abbrev pub json_refused_with : Vocabulary → ℕ → Token ℕ → List ℕ → List ℕ → List ℕ
json_refused_with v k t places ts = json_refusal k t.at ++ (places ++ (json_token v t ++ (json_expected v ts
    ++ (codes "}" ++ newline ∷ []))))

abbrev pub json_unmatched_with : ℕ → List ℕ → List ℕ
json_unmatched_with byte places = codes "{\"error\":\"unmatched\",\"byte\":" ++ (decimal byte ++ (places ++ (codes "}"
    ++ newline ∷ [])))
