-- How long the line of parts is at most.
use Rattle.std.proofs.Common.{◌≡◌, ◌<◌, ◌≤◌, ◌+◌, ◌*◌, ◌-◌, ◌^◌, ◌++◌, ℕ, Bool, true, false, List, [], ◌∷◌}
use Rattle.std.proofs.Common.{arith, cond, drop, length, length-append, nat_eq, take}
use Rattle.std.proofs.lemmas.Fmt.{length-decimal-le}
use Rattle.std.proofs.lemmas.List.{length-take}
use Rattle.std.proofs.lemmas.List.Elements.{All-drop, All-take}
use Rattle.std.proofs.lemmas.List.Sums.{count_by-le-length, sum_by-cons}
use Rattle.std.specs.Fmt.{decimal}
use Rattle.std.specs.Prelude.{All, codes, sum_by}
use Rattle.ly_base.specs.Location.{column_behind, is_newline, line_behind}
use Rattle.ly_spans.proofs.LineStartsLemmas.{column_within}
use Rattle.ly_feed.specs.NameMembers.{node_member, token_member}
use Rattle.ly_spans.specs.Spans.{bytes_at, json_span, json_location, IsWithin}
use Rattle.ly_places.specs.Private.Printing.{begun, behind_opening, closing, has_others, most_of, open_behind, opening}
use Rattle.ly_places.specs.Private.Printing.{parts_text, still_open, AreSound}
use Rattle.ly_spans.specs.declared.span.Span.{Span}
use Rattle.ly_places.specs.declared.part.Part.{Part}
use Rattle.ly_places.specs.declared.part.PartKind.{PartKind}
use Rattle.ly_places.specs.declared.part.PartKind.TheVariants.{Node, Nothing, Token}
use Rattle.ly_print.proofs.JsonLemmas.{json_content_len}
use Rattle.ly_print.specs.Json.{json_content, json_name}
use Rattle.ly_tree.specs.Shown.{Vocabulary}

-- the ends of nodes, of which each is printed once, and a comma
closing_len : (left : ℕ) (nodes : List ℕ)
    → length (closing left nodes) + 2 * length (still_open left nodes) ≤ 2 * length nodes + 1
closing_len left [] = omega arith
closing_len left (n ∷ ns) = either (nat_eq n left) (closing_len left ns)
  where
    either : (b : Bool) → length (closing left ns) + 2 * length (still_open left ns) ≤ 2 * length ns + 1
        → length (cond b (codes "]}" ++ closing left ns) (codes ","))
        + 2 * length (cond b (still_open left ns) (n ∷ ns)) ≤ 2 * length (n ∷ ns) + 1
    either true within = omega (arith, within)
    either false within = omega arith

behind_len : (p : Part) (left : ℕ) (nodes : List ℕ)
    → length (behind_opening p left nodes) + 2 * length (open_behind p left nodes)
    ≤ 2 * length (begun p.kind p.parts left nodes) + 1
behind_len p left nodes = either (has_others p)
  where
    around : List ℕ
    around = begun p.kind p.parts left nodes

    either : (b : Bool) → length (cond b [] (closing left (begun p.kind p.parts left nodes)))
        + 2 * length (cond b (begun p.kind p.parts left nodes) (still_open left (begun p.kind p.parts left nodes)))
        ≤ 2 * length (begun p.kind p.parts left nodes) + 1
    either true = omega arith
    either false = closing_len left (begun p.kind p.parts left nodes)

-- numbers below 2^64
number_len : (n : ℕ) → n < 2 ^ 64 → length (decimal n) ≤ 20
number_len n fits = length-decimal-le 20 n (omega arith) (omega (arith, fits)) fits

-- A text that fits memory, and labels of names of which none is longer than so.
module _ (v : Vocabulary) (text : List ℕ) (longest : ℕ) (fits : length text < 2 ^ 63)
    (bytes : All (λ b. b < 256) text) (leaves : (t : ℕ) → length (token_member (v.terminal t)) ≤ longest)
    (nodes : (p : ℕ) → length (node_member (v.constructor p)) ≤ longest) where
  line_within : (o : ℕ) → o ≤ length text → line_behind (take o text) ≤ o + 1
  line_within o within = omega (arith, count_by-le-length is_newline (take o text), length-take o text)

  location_len : (o : ℕ) → o ≤ length text → length (json_location text o) ≤ 64
  location_len o within =
      let line = decimal (line_behind (take o text)) in
      let column = decimal (column_behind (take o text)) in
      omega (
        arith,
        number_len o (omega (arith, fits, within)),
        number_len (line_behind (take o text)) (omega (arith, fits, within, line_within o within)),
        number_len (column_behind (take o text)) (omega (arith, fits, within, column_within text o within)),
        length-append (decimal o) (codes "," ++ (line ++ (codes "," ++ (column ++ codes "]")))),
        length-append line (codes "," ++ (column ++ codes "]")),
        length-append column (codes "]"),
      )

  extent_len : (e : Span) → IsWithin (length text) e → length (json_span text e) ≤ 144
  extent_len e within =
      omega (
        arith,
        location_len e.start (omega (arith, within.forward, within.inside)),
        location_len e.end within.inside,
        length-append (json_location text e.start) (codes ",\"end\":" ++ json_location text e.end),
      )

  content_len : (e : Span) → length (json_content (bytes_at text e)) ≤ 6 * (e.end - e.start) + 10
  content_len e =
      omega (
        arith,
        json_content_len (bytes_at text e) (All-take (λ b. b < 256) (e.end - e.start) (drop e.start text)
            (All-drop (λ b. b < 256) e.start text bytes)),
        length-take (e.end - e.start) (drop e.start text),
      )

  -- a part up to its children, its end and a comma
  begun_len : (kind : PartKind) (e : Span) (parts left : ℕ) (ns : List ℕ) → IsWithin (length text) e
      → length (opening v text kind e) + 2 * length (begun kind parts left ns) + 1
      ≤ longest + 162 + 6 * (e.end - e.start) + 2 * length ns
  begun_len Nothing e parts left ns within = omega arith
  begun_len (Token t) e parts left ns within =
      let content = json_content (bytes_at text e) in
      omega (
        arith,
        leaves t.0,
        extent_len e within,
        content_len e,
        length-append (json_name (v.terminal t.0)) (json_span text e ++ (codes "," ++ (content ++ codes "}"))),
        length-append (json_span text e) (codes "," ++ (content ++ codes "}")),
        length-append content (codes "}"),
      )
  begun_len (Node p) e parts left ns within =
      omega (
        arith,
        nodes p.0,
        extent_len e within,
        length-append (json_name (v.constructor p.0)) (json_span text e ++ codes ",\"children\":["),
        length-append (json_span text e) (codes ",\"children\":["),
      )

  -- all of them, and the nodes around them
  pub parts_len : (each : ℕ) → each ≡ longest + 162 → (ns : List ℕ) (ps : List Part) → AreSound (length text) ps
      → length (parts_text v text ns ps) ≤ 2 * length ns + sum_by (most_of each) ps
  parts_len each is ns [] sound = omega arith
  parts_len each is ns (p ∷ ps) sound =
      let open_nodes = open_behind p (length ps) ns in
      omega (
        arith,
        is,
        begun_len p.kind p.extent p.parts (length ps) ns sound.0.within,
        behind_len p (length ps) ns,
        parts_len each is open_nodes ps sound.1,
        sum_by-cons (most_of each) p ps,
        length-append (opening v text p.kind p.extent)
            (behind_opening p (length ps) ns ++ parts_text v text open_nodes ps),
        length-append (behind_opening p (length ps) ns) (parts_text v text open_nodes ps),
      )
