-- What a page appends as JSON.
use Rattle.std.specs.Prelude.{ℕ, List, ◌++◌, codes, if◌then◌else◌}
use Rattle.std.specs.Str.{is_utf8}
use Rattle.ly_print.specs.Json.{json_name, json_string}

-- Bytes as a string: text if they are UTF-8, else each byte as the character with its number.
abbrev pub json_words : List ℕ → List ℕ
json_words bytes = if is_utf8 bytes then json_string bytes else json_name bytes

-- a comma and the key of a member of an object
abbrev pub key_words : List ℕ → List ℕ
key_words key = codes ",\"" ++ key ++ codes "\":"
