-- How many bytes the lines of tokens have at most.
use Rattle.std.proofs.Common.{◌≡◌, ◌∙◌, ◌<◌, ◌≤◌, ◌+◌, ◌-◌, ◌*◌, ◌^◌, ℕ, zero, suc, List, [], ◌∷◌, ◌++◌, All, Option}
use Rattle.std.proofs.Common.{Bool, None, Some, append-nil, ap, append_assoc, arith, codes, drop, get_or, length, length-append, length-drop}
use Rattle.std.proofs.Common.{false, length-take-le, refl, subst, sym, take, true}
use Rattle.std.proofs.lemmas.Option.{get_or_from_slice_get, slice_get_within}
use Rattle.std.proofs.lemmas.Fmt.{length-decimal-le}
use Rattle.std.proofs.lemmas.List.Elements.{All-take}
use Rattle.std.proofs.lemmas.List.Sums.{count_by-le-length}
use Rattle.std.proofs.Math.Nat.{add-mul}
use Rattle.std.specs.Fmt.{decimal}
use Rattle.std.specs.Prelude.{if◌then◌else◌, nat_eq, nat_le, option_and_then, slice_get, slice_index}
use Rattle.ly_base.specs.Bytes.{double_quote, newline}
use Rattle.ly_base.specs.Lexed.{LexedTo, Place, Token, moved, place_after, token_if, tokens_from}
use Rattle.ly_base.specs.Location.{column_behind, is_newline, line_behind}
use Rattle.ly_base.specs.declared.lexeme.End.TheVariants.{Stuck}
use Rattle.ly_base.specs.declared.lexeme.Lexeme.{Lexeme}
use Rattle.ly_listing.specs.Labels.{before_end, before_text, begin_by, label_at, labelled_line, labelled_lines, labelling}
use Rattle.ly_listing.specs.Listings.{end_line}
use Rattle.ly_listing.specs.Private.Room.{bytes_each}
use Rattle.ly_listing.specs.Private.SoFar.{SoFar, StandsIn}
use Rattle.ly_listing.specs.declared.rule_labels.RuleLabel.{RuleLabel}
use Rattle.ly_listing.specs.declared.rule_labels.RuleLabels.{RuleLabels}
use Rattle.ly_listing.proofs.TokenLemmas.{stands_moved}
use Rattle.ly_print.proofs.JsonLemmas.{json_content_len}
use Rattle.ly_print.proofs.RoomLemmas.{escaped_len, no_rule_len}
use Rattle.ly_print.specs.Json.{json_content, json_located}
use Rattle.ly_print.specs.Text.{escaped}
use Rattle.ly_print.specs.declared.answer_form.AnswerForm.{AnswerForm}
use Rattle.ly_print.specs.declared.answer_form.AnswerForm.TheVariants.{Json, Plain}
use Rattle.ly_scan.proofs.LexingLemmas.{taken_within}
use Rattle.ly_scan.specs.Lexer.{IsLexemeAt, Scanner}
use Rattle.ly_spans.proofs.LineStartsLemmas.{column_within}
use Rattle.ly_spans.specs.Spans.{json_location}

-- the lines of tokens and of others
pub lines_append : (form : AnswerForm) (text : List ℕ) (xs ys : List (Token (List ℕ)))
    → labelled_lines form text (xs ++ ys) ≡ labelled_lines form text xs ++ labelled_lines form text ys
lines_append form text [] ys = refl
lines_append form text (x ∷ xs) ys = ap (λ z. labelled_line form text x ++ z) (lines_append form text xs ys)
    ∙ sym (append_assoc (labelled_line form text x) (labelled_lines form text xs) (labelled_lines form text ys))

-- an offset with its location
located_len : (o n c : ℕ) → o < 2 ^ 64 → n < 2 ^ 64 → c < 2 ^ 64 → length (json_located o n c) ≤ 64
located_len o n c h k m =
    let column = decimal c ++ codes "]" in
    let line = decimal n ++ (codes "," ++ column) in
    omega (
      arith,
      length-append (decimal o) (codes "," ++ line),
      length-append (decimal n) (codes "," ++ column),
      length-append (decimal c) (codes "]"),
      length-decimal-le 20 o (omega arith) (omega (arith, h)) h,
      length-decimal-le 20 n (omega arith) (omega (arith, k)) k,
      length-decimal-le 20 c (omega arith) (omega (arith, m)) m,
    )

pub line_within : (text : List ℕ) (at : ℕ) → at ≤ length text → line_behind (take at text) ≤ at + 1
line_within text at within =
    omega (arith, count_by-le-length is_newline (take at text), length-take-le at text within)

location_len : (text : List ℕ) (at : ℕ) → at ≤ length text → length text < 2 ^ 63
    → length (json_location text at) ≤ 64
location_len text at within few = located_len at (line_behind (take at text)) (column_behind (take at text))
    (omega (arith, within, few)) (omega (arith, line_within text at within, within, few))
    (omega (arith, column_within text at within, within, few))

-- a line
line_len : (form : AnswerForm) (text label : List ℕ) (at : ℕ) (bytes : List ℕ) → at + length bytes ≤ length text
    → length text < 2 ^ 63 → All (λ b. b < 256) bytes
    → length (labelled_line form text (record { terminal = label; at = at; bytes = bytes }))
    ≤ length label + 6 * length bytes + 160
line_len Plain text label at bytes within few all = omega (
  arith,
  length-append (label ++ (escaped double_quote bytes ++ double_quote ∷ [])) (newline ∷ []),
  length-append label (escaped double_quote bytes ++ double_quote ∷ []),
  length-append (escaped double_quote bytes) (double_quote ∷ []),
  escaped_len double_quote bytes,
)
line_len Json text label at bytes within few all =
    let end = at + length bytes in
    let content = json_content bytes ++ codes "}\n" in
    omega (
      arith,
      length-append label ((before_end text at ++ before_text text end) ++ content),
      length-append (before_end text at ++ before_text text end) content,
      length-append (before_end text at) (before_text text end),
      length-append (json_content bytes) (codes "}\n"),
      length-append (json_location text at) (codes ",\"end\":"),
      length-append (json_location text end) (codes ","),
      location_len text at (omega (arith, within)) few,
      location_len text end within few,
      json_content_len bytes all,
    )

-- the last line
pub end_len : (form : AnswerForm) (text : List ℕ) (byte : ℕ) → byte ≤ length text → length text < 2 ^ 63
    → length (end_line form text (Stuck byte)) ≤ 256
end_len Plain text byte within few = omega (arith, no_rule_len byte (omega (arith, within, few)))
end_len Json text byte within few =
    let here = json_location text byte in
    let behind = codes ",\"end\":" ++ here in
    let rest = (codes ",\"start\":" ++ (here ++ behind)) ++ codes "}\n" in
    omega (
      arith,
      length-append (codes "{\"error\":\"unmatched\",\"byte\":") (decimal byte ++ rest),
      length-append (decimal byte) rest,
      length-append (codes ",\"start\":" ++ (here ++ behind)) (codes "}\n"),
      length-append (codes ",\"start\":") (here ++ behind),
      length-append here behind,
      length-append (codes ",\"end\":") here,
      location_len text byte within few,
      length-decimal-le 20 byte (omega arith) (omega (arith, within, few)) (omega (arith, within, few)),
    )

many : (k longest : ℕ) → 256 * k ≤ k * bytes_each longest
many zero longest = omega arith
many (suc k) longest = let h = many k longest in omega (arith, h)

room_each : (k longest named : ℕ) → 1 ≤ k → named ≤ longest → named + 6 * k + 160 ≤ k * bytes_each longest
room_each zero longest named some within = absurd (omega arith)
room_each (suc k) longest named some within = let h = many k longest in omega (arith, h)

-- the room for some bytes of those that are left, and the room for the others
room_left : (k rest e : ℕ) → k ≤ rest → k * e + (rest - k) * e ≡ rest * e
room_left k rest e h =
    let same : k + (rest - k) ≡ rest = omega arith in sym (add-mul k (rest - k) e) ∙ ap (λ m. m * e) same

-- labels have at most so many bytes
abbrev pub AreAtMost : ℕ → List (List ℕ) → Type 0
AreAtMost longest labels = All (λ (l : List ℕ). length l ≤ longest) labels

abbrev IsAtMost : ℕ → Option (List ℕ) → Type 0
IsAtMost longest o = (label : List ℕ) → o ≡ Some label → length label ≤ longest

at_most_at : (labels : List (List ℕ)) (longest k : ℕ) → AreAtMost longest labels → IsAtMost longest (slice_get labels k)
at_most_at labels longest k all label is = subst (λ (l : List ℕ). length l ≤ longest)
    (get_or_from_slice_get labels k label [] is) (all k [] (slice_get_within labels k label is))

at_most_by : (b : Bool) (o : Option (List ℕ)) (longest : ℕ) → IsAtMost longest o
    → IsAtMost longest (if b then None else o)
at_most_by true o longest h label is = absurd cc
at_most_by false o longest h label is = h label is

label_at_most : (l : RuleLabels) (longest i : ℕ) (bytes : List ℕ) → AreAtMost longest l.labels.items
    → IsAtMost longest (labelling l i bytes)
label_at_most l longest i bytes all = by (slice_get l.rules.items i)
  where
    by : (o : Option RuleLabel) → IsAtMost longest (option_and_then (λ (r : RuleLabel).
        label_at l.labels.items r.number (slice_index bytes 0)) o)
    by None label is = absurd cc
    by (Some r) label is = at_most_by (nat_le r.number 1)
        (slice_get l.labels.items (if nat_eq r.number 2 then slice_index bytes 0 else r.number)) longest
        (at_most_at l.labels.items longest (if nat_eq r.number 2 then slice_index bytes 0 else r.number) all) label is

-- the line of a token, if there is one
token_len : (form : AnswerForm) (text : List ℕ) (longest : ℕ) (o : Option (List ℕ)) (at : ℕ) (bytes : List ℕ)
    → IsAtMost longest o → 0 < length bytes → at + length bytes ≤ length text → length text < 2 ^ 63
    → All (λ b. b < 256) bytes
    → length (labelled_lines form text (token_if o at bytes)) ≤ length bytes * bytes_each longest
token_len form text longest None at bytes most some within few all = omega arith
token_len form text longest (Some label) at bytes most some within few all =
    let line = labelled_line form text (record { terminal = label; at = at; bytes = bytes }) in
    omega (
      arith,
      ap length (append-nil line),
      line_len form text label at bytes within few all,
      room_each (length bytes) longest (length label) some (most label refl),
    )

-- the line of a lexeme and those of the bytes behind it
pub line_left : (form : AnswerForm) (text : List ℕ) (l : RuleLabels) (longest i taken : ℕ) (p : Place) (bytes : List ℕ)
    → AreAtMost longest l.labels.items → length text < 2 ^ 63 → StandsIn text p → 0 < taken → taken ≤ length p.rest
    → bytes ≡ take taken p.rest
    → length (labelled_lines form text (token_if (labelling l i bytes) p.at bytes))
    + length (drop taken p.rest) * bytes_each longest ≤ length p.rest * bytes_each longest
line_left form text l longest i taken p bytes most few stands some within is =
    let len : length bytes ≡ taken = ap length is ∙ length-take-le taken p.rest within in
    let all = subst (All (λ b. b < 256)) (sym is) (All-take (λ b. b < 256) taken p.rest stands.bytes) in
    omega (
      arith,
      token_len form text longest (labelling l i bytes) p.at bytes (label_at_most l longest i bytes most)
          (omega (arith, len, some)) (omega (arith, len, within, stands.whole)) few all,
      ap (λ m. m * bytes_each longest) len,
      ap (λ m. m * bytes_each longest) (length-drop taken p.rest),
      room_left taken (length p.rest) (bytes_each longest) within,
    )

-- the lines of lexemes, and the room for those of what is left
led_within : (form : AnswerForm) (text : List ℕ) (l : RuleLabels) (longest : ℕ) (s : Scanner) (p q : Place)
    (ts : List Lexeme) → AreAtMost longest l.labels.items → length text < 2 ^ 63 → StandsIn text p
    → LexedTo (IsLexemeAt s) (begin_by l) p ts q
    → length (labelled_lines form text (tokens_from (labelling l) p.at p.rest ts)) + length q.rest * bytes_each longest
    ≤ length p.rest * bytes_each longest
led_within form text l longest s p q [] most few stands h =
    omega (arith, ap (λ (x : Place). length x.rest * bytes_each longest) h)
led_within form text l longest s p q (t ∷ ts) most few stands h =
    let is = h.0 in
    let taken = taken_within (s.cut t.rule.0) t.matched t.taken is.0.some_byte is.1 in
    let matched : t.matched ≤ length p.rest = is.0.within in
    let within : t.taken ≤ length p.rest = omega (arith, taken.1, matched) in
    let token = take t.taken p.rest in
    let next = place_after (begin_by l) p t in
    let others = tokens_from (labelling l) next.at next.rest ts in
    let one = token_if (labelling l t.rule.0 token) p.at token in
    omega (
      arith,
      ap length (lines_append form text one others),
      length-append (labelled_lines form text one) (labelled_lines form text others),
      line_left form text l longest t.rule.0 t.taken p token most few stands taken.0 within refl,
      led_within form text l longest s next q ts most few
          (stands_moved text p t.taken (begin_by l t.rule.0) within stands) h.1,
    )

pub lines_left : (form : AnswerForm) (text : List ℕ) (l : RuleLabels) (longest : ℕ) (s : Scanner) (p q : Place)
    (told : List (Token (List ℕ))) → AreAtMost longest l.labels.items → length text < 2 ^ 63 → StandsIn text p
    → SoFar l s p q told
    → length (labelled_lines form text told) + length q.rest * bytes_each longest ≤ length p.rest * bytes_each longest
lines_left form text l longest s p q told most few stands f = omega (
  arith,
  ap (λ ts. length (labelled_lines form text ts)) f.2,
  led_within form text l longest s p q f.0 most few stands f.1,
)

-- a text whose lines can be counted is short
pub few_bytes : (bytes longest : ℕ) → bytes * bytes_each longest + 256 < 2 ^ 64 → bytes < 2 ^ 63
few_bytes bytes longest h = omega (arith, many bytes longest, h)
