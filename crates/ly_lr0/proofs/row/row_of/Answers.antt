use Rattle.std.proofs.Common.{◌-◌, ◌∙◌, arith, drop, length, subst, sym}
use Rattle.std.proofs.lemmas.List.{length-drop, take_all}
use Rattle.ly_lr0.specs.Private.Kinds.{AreOverNonterminals, AreOverTerminals}
use Rattle.ly_lr0.proofs.ShiftLemmas.{gotos_behind, shifts_before}
use Rattle.ly_lr0.proofs.row.row_of.Goals as goal

pub invariant_of-result : goal.invariant_of-result
invariant_of-result c =
    let ts = c.args.transitions.now in
    let place = c.place_of-place.result in
    let is = c.place_of-place.ensures in
    let rest = take_all (length ts - place) (drop place ts) (omega (arith, length-drop place ts)) in
    record {
      over_terminals = subst AreOverTerminals (sym c.in_ok-shared_shifts.ensures) (shifts_before ts place is);
      over_nonterminals = subst AreOverNonterminals (sym (c.in_ok-from_slice.ensures.items ∙ rest))
          (gotos_behind ts place is);
    }
