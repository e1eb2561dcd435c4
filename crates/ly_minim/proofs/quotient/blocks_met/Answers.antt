use Rattle.std.proofs.Common.{◌∙◌, ap, arith, length, subst, sym}
use Rattle.ly_subset.specs.Automaton.{entry_at}
use Rattle.ly_minim.specs.Private.Quotient.{AreNumberedBy}
use Rattle.ly_minim.proofs.QuotientLemmas.{entered_count, entered_start, picked_few, quotient_none, unnumbered}
use Rattle.ly_minim.proofs.quotient.blocks_met.Goals as goal

pub loop-place-init : goal.loop-place-init
loop-place-init c =
    let of = c.args.blocks.now.of.items in
    record {
      quotient = quotient_none c.args.dfa.now of _ c.new.ensures.items c.new-2.ensures.items;
      numbered = record {
        by = subst (λ ps. AreNumberedBy of c.args.blocks.now.count c.in_ok-none.field-0 ps)
            (sym c.new.ensures.items)
            (unnumbered of c.args.blocks.now.count c.in_ok-none.field-0 c.in_ok-none.ensures.count
            (λ s l. c.requires.within s (let states = c.requires.states in omega arith))
            c.in_ok-none.ensures.none);
        fits = let few = c.requires.few in let fits = c.requires.fits in omega arith;
      };
      at = ap length c.new-2.ensures.items;
    }

pub loop-place-preserved : goal.loop-place-preserved
loop-place-preserved c =
    let A = c.args.dfa.now in
    let of = c.args.blocks.now.of.items in
    let was = c.loop-place.invariant in
    let entered = c.in_ok-enter.ensures.entered in
    let count = entered_count A of c.loop-place.quotient c.enter.new.self c.entry.result was.quotient entered in
    record {
      quotient = entered_start A of c.loop-place.quotient c.enter.new.self c.entry.result was.quotient entered
          (let at = was.at in let less = c.loop-place-test.true in let all = c.starts-place-end.ensures.count in omega
          arith)
          (c.entry.ensures.state ∙ ap (entry_at A.entries) (sym was.at));
      numbered = c.in_ok-enter.ensures.numbered;
      at = let at = was.at in omega (arith, count);
    }

pub loop-state-smaller : goal.loop-state-smaller
loop-state-smaller c =
    let by = c.loop-state.invariant.numbered.by in
    let few = picked_few c.args.blocks.now.of.items c.args.blocks.now.count c.loop-state.quotient.numbers
    c.loop-state.quotient.picked.items by in
    let less = c.loop-state-test.true in let len = c.len.ensures in let same = c.loop-state.quotient.picked.ok.0 in
    omega (arith, few)
