use Rattle.std.proofs.Common.{◌∙◌, ◌++◌, ◌∷◌, [], ap, arith, get_or, subst, sym, take}
use Rattle.std.proofs.lemmas.List.{take_all, take_more}
use Rattle.std.proofs.lemmas.List.Elements.{Contains-get_or}
use Rattle.ly_base.specs.SparseSet.{Chosen}
use Rattle.ly_loop.proofs.EntryLemmas.{no_entry}
use Rattle.ly_loop.proofs.ReductionLemmas.{IsRow, at_join, entry_rule, row_default, row_more, row_none, row_same}
use Rattle.ly_loop.proofs.ReductionLemmas.{row_whole}
use Rattle.ly_loop.proofs.reductions.reductions.Goals as goal
use Rattle.ly_loop.proofs.reductions.reductions.Goals.{in-Some+in_ok-note, in_default}
use Rattle.ly_loop.proofs.reductions.reductions.Goals.{in-Reduce+in_ok-note-2, in_default-entry}

pub loop-cell-init : goal.loop-cell-init
loop-cell-init g c =
    let m = c.args.machine.now in
    let state = c.args.state.0 in
    let none = ap (λ (s : Chosen). s.members) c.clear.ensures in
    let room = ap (λ (s : Chosen). s.below) c.clear.ensures ∙ c.requires.room in
    elim c.match-default.branch [
      | in-Some+in_ok-note w ↦
          let rule = w.in-Some.rule in
          let row = row_default m state rule c.clear.new.self.members c.new-row.result.items w.note.new.seen.members
          w.note.new.row.items w.in-Some.ensures (c.requires.countable.machine.defaults state rule.0 w.in-Some.ensures)
          none c.new-row.ensures.items w.in_ok-note.ensures.noted in
          record {
            row = at_join m state [] w.note.new.seen.members c.match-default.seen.members w.note.new.row.items
                c.match-default.row.items (ap (λ (s : Chosen). s.members) w.seen-is) (ap (λ v. v.items) w.row-is) row;
            room = ap (λ (s : Chosen). s.below) w.seen-is ∙ (w.in_ok-note.ensures.room ∙ room);
          }
      | in_default w ↦ record {
        row = at_join m state [] [] c.match-default.seen.members [] c.match-default.row.items
            (ap (λ (s : Chosen). s.members) w.seen-is ∙ none) (ap (λ v. v.items) w.row-is ∙ c.new-row.ensures.items)
            (row_none m state w.in_default.ensures);
        room = ap (λ (s : Chosen). s.below) w.seen-is ∙ room;
      }
    ]

pub note-requires-in-Reduce : goal.note-requires-in-Reduce
note-requires-in-Reduce g c =
    let known = entry_rule c.args.machine.now c.args.state.0 c.args.entries.now _ c.in-Reduce.rule
    c.requires.countable.machine c.requires.entries
    (Contains-get_or c.args.entries.now c.loop-cell.cell-index no_entry c.loop-cell-test.true) c.in-Reduce.is in
    omega (arith, known.1, c.loop-cell.invariant.room)

pub loop-cell-preserved : goal.loop-cell-preserved
loop-cell-preserved g c =
    let m = c.args.machine.now in
    let state = c.args.state.0 in
    let entries = c.args.entries.now in
    let k = c.loop-cell.cell-index in
    let e = get_or entries k no_entry in
    let was = c.loop-cell.invariant in
    let more = sym (take_more entries k no_entry c.loop-cell-test.true) in
    elim c.match-cell.branch [
      | in-Reduce+in_ok-note-2 w ↦
          let rule = w.in-Reduce.rule in
          let has = Contains-get_or entries k no_entry c.loop-cell-test.true in
          let known = entry_rule m state entries e rule c.requires.countable.machine c.requires.entries has
          w.in-Reduce.is in
          let row = row_more m state (take k entries) c.loop-cell.seen.members c.loop-cell.row.items e rule
          w.note-in-Reduce.new.seen.members w.note-in-Reduce.new.row.items was.row w.in-Reduce.is known
          w.in_ok-note-2.ensures.noted in
          record {
            row = subst (λ es. IsRow m state es c.match-cell.seen.members c.match-cell.row.items) more
                (at_join m state (take k entries ++ e ∷ []) w.note-in-Reduce.new.seen.members c.match-cell.seen.members
                w.note-in-Reduce.new.row.items c.match-cell.row.items (ap (λ (s : Chosen). s.members) w.seen-is)
                (ap (λ v. v.items) w.row-is) row);
            room = ap (λ (s : Chosen). s.below) w.seen-is ∙ (w.in_ok-note-2.ensures.room ∙ was.room);
          }
      | in_default-entry w ↦ record {
        row = subst (λ es. IsRow m state es c.match-cell.seen.members c.match-cell.row.items) more
            (at_join m state (take k entries ++ e ∷ []) c.loop-cell.seen.members c.match-cell.seen.members
            c.loop-cell.row.items c.match-cell.row.items (ap (λ (s : Chosen). s.members) w.seen-is)
            (ap (λ v. v.items) w.row-is)
            (row_same m state (take k entries) c.loop-cell.seen.members c.loop-cell.row.items e was.row
            w.in_default-entry.not-Reduce));
        room = ap (λ (s : Chosen). s.below) w.seen-is ∙ was.room;
      }
    ]

pub returns-clause-row : goal.returns-clause-row
returns-clause-row g c =
    let m = c.args.machine.now in
    let state = c.args.state.0 in
    row_whole m state c.args.entries.now c.loop-cell.seen.members c.loop-cell.row.items c.requires.entries
    (subst (λ es. IsRow m state es c.loop-cell.seen.members c.loop-cell.row.items)
    (take_all c.loop-cell.cell-index c.args.entries.now c.loop-cell-test.false) c.loop-cell.invariant.row)
