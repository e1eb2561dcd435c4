use Rattle.std.proofs.Common.{◌∙◌, ap, map, sym}
use Rattle.ly_join.specs.Grammar.{terminal}
use Rattle.ly_lr0.specs.Automaton.{target_of}
use Rattle.ly_lr0.specs.Transitions.{transition_of}
use Rattle.ly_lr0.proofs.ShiftLemmas.{shifts_goto, transitions_same}
use Rattle.ly_relate.proofs.groups.shift_alike.Goals as goal

pub returns : goal.returns
returns c = λ yes t.
    let M = c.args.lr0.now in
    let same = transitions_same c.shifts.result.now c.shifts-2.result.now c.eq.result c.eq.ensures yes in
    let shifts = sym c.shifts.ensures ∙ ap (map transition_of) same ∙ c.shifts-2.ensures in
    sym (shifts_goto M c.args.one.0 t c.requires.one) ∙ ap (λ ts. target_of ts (terminal t)) shifts
    ∙ shifts_goto M c.args.other.0 t c.requires.other
