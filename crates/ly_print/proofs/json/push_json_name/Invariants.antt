use Rattle.std.proofs.Common.{◌≡◌, ◌++◌, ◌∷◌, [], take}
use Rattle.std.specs.Char.{encode_utf8}
use Rattle.std.specs.List.{flat_map}
use Rattle.ly_base.specs.Bytes.{double_quote}
use Rattle.ly_print.specs.Json.{string_body}
use Rattle.ly_print.proofs.json.push_json_name.Given as goal

-- the characters so far stand behind a quote
abbrev pub invariant-loop-byte : goal.invariant-loop-byte
invariant-loop-byte l = l.out.items
    ≡ (l.fn.out.items ++ double_quote ∷ []) ++ string_body (flat_map encode_utf8 (take l.byte-index l.name))
