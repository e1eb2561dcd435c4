use Rattle.std.proofs.Common.{◌∙◌, eqb-true, inl, inr, length, refl, rules, sym, tests}
use Rattle.std.proofs.lemmas.List.{nil_from_length}
use Rattle.std.proofs.lemmas.Option.{slice_get_read}
use Rattle.ly_loop.proofs.KnownLemmas.{among_by}
use Rattle.ly_loop.proofs.by_rule.look_up.Goals as goal

pub returns-then-is_empty : goal.returns-then-is_empty
returns-then-is_empty c =
    let row = c.index-reductions-edge.result in
    let rows = c.args.reductions.now in
    inl (
      row,
      slice_get_read rows (length rows) c.args.edge.top.0 row refl c.requires c.index-reductions-edge.is,
      nil_from_length row.items (sym row.ok.0 ∙ eqb-true row.len 0 (sym c.is_empty.ensures ∙ c.if-is_empty.true)),
      refl,
      refl,
    )

pub returns-in-Some-Some : goal.returns-in-Some-Some
returns-in-Some-Some c =
    inr (among_by c.args.summaries.now c.args.edge _ c.above-kept.result.now c.above-kept.ensures
    (search (rules, tests)))
