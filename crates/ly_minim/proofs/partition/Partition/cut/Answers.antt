use Rattle.std.proofs.Common.{◌≡◌, ◌<◌, ◌≤◌, ◌∙◌, ℕ, ap, arith, get_or, length, sym}
use Rattle.std.proofs.lemmas.List.{get_or_default, length-set}
use Rattle.ly_minim.proofs.PartitionLemmas.{few}
use Rattle.ly_minim.proofs.SplitLemmas.{moved_more, others_more, part_inside}
use Rattle.ly_minim.proofs.partition.Partition.cut.Goals as goal

pub overflow_cast-number : goal.overflow_cast-number
overflow_cast-number c =
    let p = c.args.self.now in
    let few_blocks : length p.first.items ≤ length p.of.items = few (length p.of.items) p.states.items p.place.items
    p.of.items p.first.items p.middle.items p.end.items c.requires.laid in
    let fits = c.requires.laid.fits in omega arith

pub loop-place-preserved : goal.loop-place-preserved
loop-place-preserved c =
    let p = c.args.self.now in
    let laid = c.requires.laid in
    let was = c.loop-place.invariant in
    let i = c.loop-place.place in
    let n = length p.of.items in
    let inside : c.args.part.end ≤ n = part_inside p c.args.block c.args.kept.first c.args.kept.end c.args.part.first
    c.args.part.end laid c.requires.block c.requires.parts in
    let past : c.args.part.first ≤ i = c.loop-place.auto.place in
    let here : i < n = (let to = c.loop-place-test.true in omega arith) in
    let there : i < length c.loop-place.self.states.items
    = (let all = laid.states_count in omega (arith, here, ap length was.states)) in
    let state : c.index.result.now ≡ get_or p.states.items i 0 = c.index.ensures
    ∙ get_or_default c.loop-place.self.states.items i c.index.result.now 0 there
    ∙ ap (λ xs. get_or xs i 0) was.states in
    let less : c.index.result.now < n = omega (arith, state, laid.state_within i here) in
    let at : get_or p.place.items c.index.result.now 0 ≡ i = ap (λ s. get_or p.place.items s 0) state
    ∙ laid.place_at i here in
    let only : (s : ℕ) → s < n → get_or p.place.items s 0 ≡ i → s ≡ c.index.result.now
    = λ s l e. sym (laid.at_place s l) ∙ ap (λ j. get_or p.states.items j 0) e ∙ sym state in
    record {
      states = was.states;
      place = was.place;
      first = was.first;
      middle = was.middle;
      end = was.end;
      count = length-set c.loop-place.self.of.items c.index.result.now c.len-number.result ∙ was.count;
      moved = moved_more n p.place.items p.of.items c.loop-place.self.of.items c.len-number.result c.args.part.first i
          c.index.result.now was.count less at only past was.moved;
      others = others_more n p.place.items p.of.items c.loop-place.self.of.items c.len-number.result c.args.part.first i
          c.index.result.now was.count less at only past was.others;
    }
