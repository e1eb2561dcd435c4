-- Parts of several fields: the fields one behind another are the part.
use Rattle.std.proofs.Common.{◌≡◌, ◌∙◌, ◌++◌, ℕ, List, [], All, ap, append_assoc, arith, length, refl, sym}
use Rattle.std.proofs.Common.{replicate}
use Rattle.std.specs.Int.{Width, w32, to_be_bytes}
use Rattle.std.specs.List.{flat_map}
use Rattle.std.proofs.lemmas.List.{length-replicate}
use Rattle.std.proofs.lemmas.List.Elements.{All-nil, All-replicate}
use Rattle.ly_tables.specs.Private.Found.{IsThere, zero_fits}
use Rattle.ly_tables.specs.Private.Parts.{AreBytes, AreStartsText, IsNumberText, IsRuleText, IsScanRuleText}
use Rattle.ly_tables.specs.Private.Parts.{IsCombText, Spells, Then, single}
use Rattle.ly_tables.specs.RawSet.{Fits, IsByte, IsString}
use Rattle.ly_tables.specs.Spelling.{number, string}

-- a number of one byte, and what is behind it
abbrev pub ByteThen : (List ℕ → Type 0) → List ℕ → Type 0
ByteThen behind = Then IsByte single (λ n. behind)

-- a number of the width, and what is behind it
abbrev pub NumberThen : Width → (List ℕ → Type 0) → List ℕ → Type 0
NumberThen w behind = Then (Fits w) (number w) (λ n. behind)

pub some_byte_then : {behind : List ℕ → Type 0} (some : IsThere behind) → IsThere (ByteThen behind)
some_byte_then some =
    (single 0 ++ some.0, record { value = 0; rest = some.0; fit = omega arith; follows = some.1; is = refl })

pub some_number_then : (w : Width) {behind : List ℕ → Type 0} (some : IsThere behind) → IsThere (NumberThen w behind)
some_number_then w some =
    (number w 0 ++ some.0, record { value = 0; rest = some.0; fit = zero_fits w; follows = some.1; is = refl })

-- fields one behind another
apart_scan_rule : {whole r1 r2 r3 r4 : List ℕ} (a b c d e : List ℕ) → whole ≡ a ++ r1 → r1 ≡ b ++ r2 → r2 ≡ c ++ r3
    → r3 ≡ d ++ r4 → r4 ≡ e → whole ≡ ((a ++ b) ++ c) ++ (d ++ e)
apart_scan_rule {whole} a b c d e first second third fourth last =
    let all : whole ≡ a ++ (b ++ (c ++ (d ++ e))) = cc in all ∙ simp append_assoc

apart_rule : {whole r1 r2 r3 r4 : List ℕ} (a b c d e f : List ℕ) → whole ≡ a ++ r1 → r1 ≡ b ++ r2 → r2 ≡ c ++ r3
    → r3 ≡ d ++ r4 → r4 ≡ e ++ f → whole ≡ (a ++ ((b ++ c) ++ d)) ++ (e ++ f)
apart_rule {whole} a b c d e f first second third fourth last =
    let all : whole ≡ a ++ (b ++ (c ++ (d ++ (e ++ f)))) = cc in all ∙ simp append_assoc

-- a rule of the scanner
pub scan_rule_part : (w : Width) (whole : List ℕ)
    → ByteThen (NumberThen w (NumberThen w (ByteThen (IsNumberText w)))) whole → IsScanRuleText w whole
scan_rule_part w whole kind =
    let terminal = kind.follows in let begin = terminal.follows in let cut = begin.follows in
    let len = cut.follows in
    record {
      value = record {
        kind = kind.value;
        terminal = terminal.value;
        begin = begin.value;
        cut = cut.value;
        len = len.value;
      };
      fit = record { kind = kind.fit; terminal = terminal.fit; begin = begin.fit; cut = cut.fit; len = len.fit };
      is = apart_scan_rule (single kind.value) (number w terminal.value) (number w begin.value) (single cut.value)
          (number w len.value) kind.is terminal.is begin.is cut.is len.is;
    }

-- where a condition begins
pub starts_part : (w : Width) (whole : List ℕ) → NumberThen w (IsNumberText w) whole → AreStartsText w whole
starts_part w whole elsewhere =
    let at_line = elsewhere.follows in
    record {
      value = record { elsewhere = elsewhere.value; at_line = at_line.value };
      fit = record { elsewhere = elsewhere.fit; at_line = at_line.fit };
      is = cc;
    }

-- so many bytes, and before them how many, in one byte
abbrev pub PlacesText : List ℕ → Type 0
PlacesText = Then IsByte single AreBytes

pub some_places : IsThere PlacesText
some_places = (
  single 0,
  record {
    value = 0;
    rest = [];
    fit = omega arith;
    follows = (refl, All-nil IsByte);
    is =
        refl;
  },
)

abbrev pub NameThen : List ℕ → Type 0
NameThen = Then IsString string (λ name. PlacesText)

pub some_name_then : IsThere NameThen
some_name_then = (
  string [] ++ some_places.0,
  record {
    value = [];
    rest = some_places.0;
    fit = (omega arith, All-nil IsByte);
    follows = some_places.1;
    is = refl;
  },
)

-- a rule of the parser
pub rule_part : (w : Width) (whole : List ℕ) → NumberThen w (ByteThen (ByteThen NameThen)) whole → IsRuleText w whole
rule_part w whole left =
    let body_length = left.follows in let kind = body_length.follows in let name = kind.follows in
    let count = name.follows in
    record {
      value = record {
        left = left.value;
        body_length = body_length.value;
        kind = kind.value;
        name = name.value;
        places = count.rest;
      };
      fit = record {
        left = left.fit;
        body_length = body_length.fit;
        kind = kind.fit;
        name = name.fit;
        place_count = omega (arith, count.fit, count.follows.0);
        places = count.follows.1;
      };
      is = apart_rule (number w left.value) (single body_length.value) (single kind.value) (string name.value)
          (single (length count.rest)) count.rest left.is body_length.is kind.is name.is
          (count.is ∙ ap (λ n. single n ++ count.rest) (sym count.follows.0));
    }

-- so many numbers of the width
abbrev pub AreNumbers : Width → ℕ → List ℕ → Type 0
AreNumbers w n ns = (length ns ≡ n) × All (Fits w) ns

-- the rows of so many slots
abbrev pub RowsText : Width → ℕ → List ℕ → Type 0
RowsText w slots = Spells (AreNumbers w slots) (flat_map (number w))

-- the entries of so many slots, and their rows
abbrev pub EntriesText : Width → ℕ → List ℕ → Type 0
EntriesText w slots = Then (AreNumbers w slots) (flat_map (number w)) (λ entries. RowsText w slots)

-- how many slots there are, and these
abbrev pub SlotsText : Width → List ℕ → Type 0
SlotsText w = Then (Fits w32) (to_be_bytes w32) (EntriesText w)

abbrev pub CombText : Width → ℕ → List ℕ → Type 0
CombText w states = Then (AreNumbers w32 states) (flat_map (to_be_bytes w32)) (λ bases. SlotsText w)

pub some_rows : (w : Width) (n : ℕ) → IsThere (RowsText w n)
some_rows w n = (
  flat_map (number w) (replicate n 0),
  record {
    value = replicate n 0;
    fit = (length-replicate n 0, All-replicate (Fits w) n 0 (zero_fits w));
    is = refl;
  },
)

pub some_entries : (w : Width) (n : ℕ) → IsThere (EntriesText w n)
some_entries w n =
    let rows = some_rows w n in (
      flat_map (number w) (replicate n 0) ++ rows.0,
      record {
        value = replicate n 0;
        rest = rows.0;
        fit = (length-replicate n 0, All-replicate (Fits w) n 0 (zero_fits w));
        follows = rows.1;
        is = refl;
      },
    )

pub some_slots : (w : Width) → IsThere (SlotsText w)
some_slots w =
    let entries = some_entries w 0 in (
      to_be_bytes w32 0 ++ entries.0,
      record { value = 0; rest = entries.0; fit = omega arith; follows = entries.1; is = refl },
    )

apart_comb : {whole r1 r2 r3 : List ℕ} (b s e r : List ℕ) → whole ≡ b ++ r1 → r1 ≡ s ++ r2 → r2 ≡ e ++ r3 → r3 ≡ r
    → whole ≡ ((b ++ s) ++ e) ++ r
apart_comb {whole} b s e r first second third last =
    let all : whole ≡ b ++ (s ++ (e ++ r)) = cc in all ∙ simp append_assoc

-- rows laid over one another
pub comb_part : (w : Width) (states : ℕ) (whole : List ℕ) → CombText w states whole → IsCombText w states whole
comb_part w states whole bases =
    let slots = bases.follows in let entries = slots.follows in let rows = entries.follows in
    record {
      value = record { bases = bases.value; entries = entries.value; rows = rows.value };
      fit = record {
        count = bases.fit.0;
        bases = bases.fit.1;
        slots = omega (arith, slots.fit, entries.fit.0);
        entries = entries.fit.1;
        row_count = rows.fit.0 ∙ sym entries.fit.0;
        rows = rows.fit.1;
      };
      is = apart_comb (flat_map (to_be_bytes w32) bases.value) (to_be_bytes w32 (length entries.value))
          (flat_map (number w) entries.value) (flat_map (number w) rows.value) bases.is
          (slots.is ∙ ap (λ n. to_be_bytes w32 n ++ slots.rest) (sym entries.fit.0)) entries.is rows.is;
    }
