use Rattle.std.proofs.Common.{◌∙◌, ap, arith, inl, inr, map, replicate, None}
use Rattle.std.proofs.lemmas.Bool.{cases_lt}
use Rattle.std.proofs.lemmas.List.{get_or-map, get_or-replicate, get_or_past, length-map, length-replicate}
use Rattle.ly_base.specs.Entry.{target_of}
use Rattle.ly_subset.specs.Automaton.{entry_at}
use Rattle.ly_minim.proofs.links.Links.none.Goals as goal

pub returns-clause-none : goal.returns-clause-none
returns-clause-none c = λ k.
    let nones = replicate c.args.count c.none.result in
    ap (λ es. entry_at (map target_of es) k) (c.in_ok-vec.ensures.items_if_clones_equal (λ y e. e))
    ∙ elim (cases_lt k c.args.count) [
      | inl less ↦ get_or-map target_of nones k c.none.result None
          (omega (arith, less, length-replicate c.args.count c.none.result))
          ∙ ap target_of (get_or-replicate c.args.count k c.none.result c.none.result less) ∙ c.none.ensures
      | inr past ↦ get_or_past (map target_of nones) k None
          (omega (arith, past, length-map nones target_of, length-replicate c.args.count c.none.result))
    ]
