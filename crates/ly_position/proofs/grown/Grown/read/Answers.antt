use Rattle.std.proofs.Common.{◌≡◌, ◌<◌, ◌-◌, ◌++◌, [], arith, ap, sym, refl, ◌∙◌, get_or, length, reverse}
use Rattle.std.proofs.lemmas.Option.{slice_get_read}
use Rattle.ly_position.proofs.GrownLemmas.{grown_count, grown_first, grown_step}
use Rattle.ly_position.proofs.grown.Grown.read.Goals as goal

pub index-list-requires : goal.index-list-requires
index-list-requires c
    = omega (
      arith,
      grown_count c.self.inside.extended.items c.args.self.now c.self.view_is,
      c.loop-left.invariant.within,
    )

pub loop-left-smaller : goal.loop-left-smaller
loop-left-smaller c =
    let ls = c.self.inside.extended.items in
    let here : c.loop-left.left - 1 < length ls
    = omega (arith, grown_count ls c.args.self.now c.self.view_is, c.loop-left.invariant.within) in
    (grown_step ls c.args.self.now c.args.number c.loop-left.left c.loop-left.into.items c.index-list.result.now
    c.self.invariant.0 c.self.view_is c.loop-left-test.true
    (slice_get_read ls (length ls) (c.loop-left.left - 1) c.index-list.result.now refl here c.index-list.ensures)
    c.loop-left.invariant.read).0

pub loop-left-preserved : goal.loop-left-preserved
loop-left-preserved c =
    let ls = c.self.inside.extended.items in
    let here : c.loop-left.left - 1 < length ls
    = omega (arith, grown_count ls c.args.self.now c.self.view_is, c.loop-left.invariant.within) in
    let step = grown_step ls c.args.self.now c.args.number c.loop-left.left c.loop-left.into.items
    c.index-list.result.now c.self.invariant.0 c.self.view_is c.loop-left-test.true
    (slice_get_read ls (length ls) (c.loop-left.left - 1) c.index-list.result.now refl here c.index-list.ensures)
    c.loop-left.invariant.read in
    record {
      within = omega (arith, step.0, c.loop-left.invariant.within);
      read = rw c.in_ok-push.ensures.items step.1;
    }

pub returns : goal.returns
returns c =
    let none : c.loop-left.left ≡ 0 = omega (arith, c.loop-left-test.false) in
    let first : get_or c.args.self.now c.loop-left.left [] ≡ []
    = rw none (grown_first c.self.inside.extended.items c.args.self.now c.self.view_is) in
    c.reverse.ensures.items ∙ sym (c.loop-left.invariant.read ∙ ap (λ xs. xs ++ reverse c.loop-left.into.items) first)
