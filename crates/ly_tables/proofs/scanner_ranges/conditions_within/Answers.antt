use Rattle.std.proofs.Common.{arith, length, refl}
use Rattle.std.proofs.lemmas.List.{length-map}
use Rattle.std.proofs.lemmas.List.Elements.{All-map}
use Rattle.ly_tables.specs.Private.RawValues.{starts_raw}
use Rattle.ly_tables.specs.RawSections.{IsNoneOr}
use Rattle.ly_tables.specs.RawSet.{RawStarts}
use Rattle.ly_tables.proofs.RangeLemmas.{All-unmap}
use Rattle.ly_tables.proofs.WidthLemmas.{of_version}
use Rattle.ly_tables.specs.Ranges.{width_of}
use Rattle.ly_tables.proofs.scanner_ranges.conditions_within.Goals as goal

pub returns-then-is_count_within : goal.returns-then-is_count_within
returns-then-is_count_within c =
    let w = width_of c.args.version in
    let conditions = c.args.raw.now.conditions.items in
    let states = length c.args.raw.now.accepted.items in
    let fits = λ (s : RawStarts). IsNoneOr w states s.elsewhere × IsNoneOr w states s.at_line in
    let each = rw (c.deref.ensures.value, c.len-then-is_count_within.ensures, c.args.raw.now.accepted.ok.0)
    at c.are_starts_within.ensures in
    let most = (of_version c.args.version).conditions in
    let count = c.if-is_count_within.ensures.0 refl in (
      λ e. record {
        some = omega (arith, length-map conditions starts_raw, count.0, c.len.ensures);
        count = omega (arith, length-map conditions starts_raw, count.1, c.len.ensures, most);
        states = All-map fits starts_raw conditions (each.0 e);
      },
      λ r. each.1 (All-unmap fits starts_raw conditions r.states),
    )
