-- Bytes in a JSON text (RFC 8259), without whitespace. A string is written as `JSON.stringify` writes it (ECMA-262,
-- QuoteJSONString).
use Rattle.std.specs.Prelude.{ℕ, ◌/◌, ◌%◌, List, [], ◌∷◌, ◌++◌, ◌||◌, false, codes, if◌then◌else◌, nat_eq, nat_lt}
use Rattle.std.specs.Char.{encode_utf8}
use Rattle.std.specs.Fmt.{decimal, digit_glyph}
use Rattle.std.specs.List.{flat_map}
use Rattle.std.specs.Str.{is_utf8}
use Rattle.ly_base.specs.Bytes.{backslash, double_quote, newline, tab}

-- a byte below 32 in a string: a backslash and a letter, or `\u00` and two hexadecimal digits
abbrev pub control_escape : ℕ → List ℕ
control_escape b = if nat_eq b 8 then codes "\\b" else
    (if nat_eq b tab then codes "\\t" else
    (if nat_eq b newline then codes "\\n" else
    (if nat_eq b 12 then codes "\\f" else
    (if nat_eq b 13 then codes "\\r" else
    codes "\\u00" ++ digit_glyph false (b / 16) ∷ digit_glyph false (b % 16) ∷ []))))

-- a byte in a string: `"` and `\` have a backslash before them, and all others from 32 on are written as they are
abbrev pub string_byte : ℕ → List ℕ
string_byte b = if nat_eq b double_quote || nat_eq b backslash then backslash ∷ b ∷ [] else
    (if nat_lt b 32 then control_escape b else b ∷ [])

-- bytes in a string, between its quotes
abbrev pub string_body : List ℕ → List ℕ
string_body bytes = flat_map string_byte bytes

-- bytes as a string
abbrev pub json_string : List ℕ → List ℕ
json_string bytes = double_quote ∷ (string_body bytes ++ double_quote ∷ [])

-- A name as a string. Each of its bytes becomes the character with that number, so that any name is valid Unicode.
abbrev pub json_name : List ℕ → List ℕ
json_name name = json_string (flat_map encode_utf8 name)

-- a number after another one
abbrev pub other_number : ℕ → List ℕ
other_number n = codes "," ++ decimal n

-- numbers, separated by commas
abbrev pub numbers : List ℕ → List ℕ
numbers [] = []
numbers (n ∷ ns) = decimal n ++ flat_map other_number ns

-- an offset of a text, with its line and its column, as `[4,1,5]`
abbrev pub json_located : ℕ → ℕ → ℕ → List ℕ
json_located offset line column = codes "[" ++ (decimal offset ++ (codes "," ++ (decimal line ++ (codes ","
    ++ (decimal column ++ codes "]")))))

-- a text as a member of an object; bytes as a member of an object
abbrev pub text_member : List ℕ → List ℕ
text_member text = codes "\"text\":" ++ json_string text

abbrev pub bytes_member : List ℕ → List ℕ
bytes_member bytes = codes "\"bytes\":[" ++ (numbers bytes ++ codes "]")

-- The text of a token as a member of an object: a string if it is UTF-8, else a list of bytes.
abbrev pub json_content : List ℕ → List ℕ
json_content text = if is_utf8 text then text_member text else bytes_member text
