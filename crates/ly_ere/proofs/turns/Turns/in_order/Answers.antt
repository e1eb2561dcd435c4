use Rattle.std.proofs.Common.{◌≡◌, ap, not, rules, tests, ◌∙◌}
use Rattle.std.specs.List.{position}
use Rattle.std.proofs.lemmas.Iterator.{YieldsList-from_slice}
use Rattle.std.proofs.lemmas.Iterator.Search.{position_from_yields_List}
use Rattle.ly_ere.proofs.TurnLemmas.{last_turn, left_over}
use Rattle.ly_ere.proofs.turns.Turns.in_order.Goals as goal

pub returns : goal.returns
returns c =
    let p : c.position-left.result ≡ position not c.deref.result.now
    = position_from_yields_List not _ _ c.position-left.result c.position-left.ensures.ran
    (YieldsList-from_slice c.deref.result.now cc) (λ x b q k. search (rules, tests)) in
    let a = c.requires.turns in record {
      in_turn = a.in_turn;
      last = last_turn _ _ _ _ _ _ a c.requires.none;
      left = left_over _ _ _ _ _ _ a c.position-left.result (p ∙ ap (position not) c.deref.ensures.value);
    }
