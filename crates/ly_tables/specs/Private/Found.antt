-- Parts that there are, of each kind.
use Rattle.std.specs.Prelude.{ℕ, List, [], refl}
use Rattle.std.specs.Int.{Width, w8, w16, w32, w64, w128}
use Rattle.std.proofs.Common.{arith}
use Rattle.std.proofs.lemmas.List.Elements.{All-nil}
use Rattle.ly_tables.specs.Private.Parts.{AreStartsText, IsByteText, IsNumberText, IsRuleText, IsScanRuleText}
use Rattle.ly_tables.specs.Private.Parts.{IsStringText, single}
use Rattle.ly_tables.specs.RawSet.{Fits, IsByte, RawRule, RawScanRule, RawStarts, RuleFits, ScanRuleFits, StartsFit}
use Rattle.ly_tables.specs.RawSet.{raw_rule, raw_scan_rule, raw_starts}
use Rattle.ly_tables.specs.Spelling.{number, string}

-- there are bytes of this kind
abbrev pub IsThere : (List ℕ → Type 0) → Type 0
IsThere kind = (bytes : List ℕ) × kind bytes

-- 0 is a number of any width
pub zero_fits : (w : Width) → Fits w 0
zero_fits w8 = omega arith
zero_fits w16 = omega arith
zero_fits w32 = omega arith
zero_fits w64 = omega arith
zero_fits w128 = omega arith

pub some_byte : IsThere IsByteText
some_byte = (single 0, record { value = 0; fit = omega arith; is = refl })

pub some_number : (w : Width) → IsThere (IsNumberText w)
some_number w = (number w 0, record { value = 0; fit = zero_fits w; is = refl })

pub some_string : IsThere IsStringText
some_string = (string [], record { value = []; fit = (omega arith, All-nil IsByte); is = refl })

pub some_scan_rule : (w : Width) → IsThere (IsScanRuleText w)
some_scan_rule w =
    let rule : RawScanRule = record { kind = 0; terminal = 0; begin = 0; cut = 0; len = 0 } in
    let fit : ScanRuleFits w rule = record {
      kind = omega arith;
      terminal = zero_fits w;
      begin = zero_fits w;
      cut = omega arith;
      len = zero_fits w;
    } in
    (raw_scan_rule w rule, record { value = rule; fit = fit; is = refl })

pub some_starts : (w : Width) → IsThere (AreStartsText w)
some_starts w =
    let starts : RawStarts = record { elsewhere = 0; at_line = 0 } in
    let fit : StartsFit w starts = record { elsewhere = zero_fits w; at_line = zero_fits w } in
    (raw_starts w starts, record { value = starts; fit = fit; is = refl })

pub some_rule : (w : Width) → IsThere (IsRuleText w)
some_rule w =
    let rule : RawRule = record { left = 0; body_length = 0; kind = 0; name = []; places = [] } in
    let fit : RuleFits w rule = record {
      left = zero_fits w;
      body_length = omega arith;
      kind = omega arith;
      name = (omega arith, All-nil IsByte);
      place_count = omega arith;
      places = All-nil IsByte;
    } in
    (raw_rule w rule, record { value = rule; fit = fit; is = refl })
