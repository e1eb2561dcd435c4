-- The line of parts, as it is printed part by part.
use Rattle.std.proofs.Common.{◌≡◌, ◌∙◌, ◌<◌, ◌≤◌, ◌+◌, ◌^◌, ◌++◌, ◌∷◌, [], ℕ, List, Option, Ok, Err, ap, append_assoc}
use Rattle.std.proofs.Common.{append-nil, arith, length, length-append, refl, subst, sym}
use Rattle.std.specs.Prelude.{IfSome, Some}
use Rattle.ly_base.specs.Bytes.{newline}
use Rattle.ly_places.specs.Private.Printing.{behind_opening, open_behind, opening, part_text, parts_text, AreSound}
use Rattle.ly_places.specs.declared.part.Part.{Part}
use Rattle.ly_print.proofs.TextWriterLemmas.{appended_twice, failed_before}
use Rattle.ly_print.specs.TextWriter.{IsAppended, IsCutShort, Outgoing}
use Rattle.ly_print.specs.declared.whole.WriteFault.{WriteFault}
use Rattle.ly_tree.proofs.PrintingLemmas.{line_cut}
use Rattle.ly_tree.specs.Shown.{Vocabulary}

-- a part is next
pub next_part : (v : Vocabulary) (text nodes : List ℕ) (rest ps : List Part) (p : Part) (left : ℕ) → rest ≡ p ∷ ps
    → left ≡ length ps → part_text v text p left nodes ++ parts_text v text (open_behind p left nodes) ps
    ≡ parts_text v text nodes rest
next_part v text nodes rest ps p left is count =
    append_assoc (opening v text p.kind p.extent) (behind_opening p left nodes)
    (parts_text v text (open_behind p left nodes) ps)
    ∙ (ap (λ n. opening v text p.kind p.extent
    ++ (behind_opening p n nodes ++ parts_text v text (open_behind p n nodes) ps)) count
    ∙ ap (parts_text v text nodes) (sym is))

pub others_sound : (count : ℕ) (rest ps : List Part) (p : Part) → rest ≡ p ∷ ps → AreSound count rest
    → AreSound count (p ∷ ps)
others_sound count rest ps p is sound = subst (AreSound count) is sound

module _ (line : List ℕ) (before : Option (List ℕ)) (o o' : Outgoing) (now now' : Option (List ℕ))
    (told text left whole : List ℕ) (parts : text ++ left ≡ whole) (is : (told ++ whole) ++ newline ∷ [] ≡ line)
    (come : IsAppended (record { sent = 0; held = [] }) o before now told (Ok tt)) where
  -- a part is printed
  pub part_goes_on : IsAppended o o' now now' text (Ok tt) → (more : List ℕ)
      × ((more ++ left) ++ newline ∷ [] ≡ line)
      × IsAppended (record { sent = 0; held = [] }) o' before now' more (Ok tt)
  part_goes_on printed = (
    told ++ text,
    ap (λ t. t ++ newline ∷ []) (append_assoc told text left ∙ ap (λ t. told ++ t) parts) ∙ is,
    appended_twice (record { sent = 0; held = [] }) o o' before now now' told text tt (Ok tt) come printed,
  )

  -- the writer failed at one
  pub part_cut : (fault : WriteFault) → IsAppended o o' now now' text (Err fault)
      → IsCutShort before now' fault.written line
  part_cut fault failed = line_cut line before o o' now now' told whole fault is come
      (failed_before o o' o' now now' text left whole (Err fault) fault parts refl failed)

-- nothing is left but the newline
pub none_left : (v : Vocabulary) (text nodes told line : List ℕ) (rest : List Part) → rest ≡ []
    → (told ++ parts_text v text nodes rest) ++ newline ∷ [] ≡ line → told ++ newline ∷ [] ≡ line
none_left v text nodes told line rest none is =
    ap (λ t. t ++ newline ∷ []) (sym (append-nil told)
    ∙ ap (λ ps. told ++ parts_text v text nodes ps) (sym none)) ∙ is

-- a line that is no longer than a number below 2^64
pub line_fits : (text : List ℕ) (most : Option ℕ) (m : ℕ) → most ≡ Some m
    → IfSome most (λ n. (length text + 1 ≤ n) × (n < 2 ^ 64)) → length (text ++ newline ∷ []) < 2 ^ 64
line_fits text most m is within =
    let enough = subst (λ o. IfSome o (λ n. (length text + 1 ≤ n) × (n < 2 ^ 64))) is within in
    omega (arith, enough.0, enough.1, length-append text (newline ∷ []))
