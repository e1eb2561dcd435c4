use Rattle.std.proofs.Common.{◌∙◌, ◌++◌, ap, sym}
use Rattle.std.specs.Option.{option_map}
use Rattle.std.proofs.lemmas.List.Folds.{flat_map-map}
use Rattle.std.proofs.lemmas.Result.{on_ok_weaker}
use Rattle.ly_pack.specs.Combs.{used_from}
use Rattle.ly_tables.specs.Private.Short.{IsSlotShort}
use Rattle.ly_tables.specs.Ranges.{width_of}
use Rattle.ly_tables.specs.Spelling.{next_of, number}
use Rattle.ly_tables.proofs.RangeLemmas.{All-unmap}
use Rattle.ly_tables.proofs.combs.push_entries.Goals as goal

pub push_numbers-requires : goal.push_numbers-requires
push_numbers-requires g c
    = All-unmap (IsSlotShort (width_of c.args.version) (g.E.CombEntry.code c.args.version)) (option_map used_from)
    c.args.slots.now c.requires

pub returns : goal.returns
returns g c =
    let w = width_of c.args.version in
    on_ok_weaker c.push_numbers.result (λ put. put ∙ ap (λ bytes. c.args.out.now.items ++ bytes)
    (sym (flat_map-map (λ u. number w (next_of (g.E.CombEntry.code c.args.version) u)) (option_map used_from)
    c.args.slots.now))) c.push_numbers.ensures
