use Rattle.std.proofs.Common.{◌∙◌, ap, arith, length, length-drop, sym}
use Rattle.std.proofs.lemmas.Result.{MatchResult-from_err}
use Rattle.ly_base.proofs.EscapeLemmas.{whole_slice}
use Rattle.ly_ere.proofs.FrontLemmas.{stands}
use Rattle.ly_ere.proofs.ReadItemLemmas.{end_items, next_items, no_next, start_items}
use Rattle.ly_ere.proofs.bracket.items.Goals as goal

pub loop-set-init : goal.loop-set-init
loop-set-init c =
    let found = c.in_ok-at.ensures.item in
    record {
      within = c.in_ok-at.ensures.front.1;
      items = start_items c.args.text.now c.in_ok-at.at c.new-set.result c.add_item.new.set found.0 c.new-set.ensures
          found.1 found.2;
    }

pub returns-in_err-at-2-clause-refused : goal.returns-in_err-at-2-clause-refused
returns-in_err-at-2-clause-refused c = let now = c.loop-set
    in MatchResult-from_err c.from_residual-in_err-at-2.result _ _ c.from_residual-in_err-at-2.ensures.0
    (λ _. no_next now.invariant.items (sym c.stands_at.ensures ∙ c.loop-set-test.true)
    (rw whole_slice at c.in_err-at-2.ensures.refused))

pub loop-set-preserved : goal.loop-set-preserved
loop-set-preserved c =
    let now = c.loop-set in
    let text = c.args.text.now in
    let found = simp whole_slice at c.in_ok-at-2.ensures.item in
    record {
      within = omega (
        arith,
        c.in_ok-at-2.ensures.front.1,
        ap length (whole_slice now.at text),
        length-drop now.at text,
        now.invariant.within,
      );
      items = next_items now.invariant.items c.in_ok-at-2.field-0 c.add_item-in-loop-set.new.set found.0
          (sym c.stands_at.ensures ∙ c.loop-set-test.true) found.1 found.2;
    }

pub returns-clause-within : goal.returns-clause-within
returns-clause-within c
    = omega (arith, (stands c.args.text.now c.loop-set.at 93 (sym c.stands_at.ensures ∙ c.loop-set-test.false)).0)

pub returns-clause-items : goal.returns-clause-items
returns-clause-items c = end_items c.loop-set.invariant.items (sym c.stands_at.ensures ∙ c.loop-set-test.false)
