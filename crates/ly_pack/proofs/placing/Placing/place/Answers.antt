use Rattle.std.proofs.Common.{◌<◌, ◌∙◌, arith, length, sym}
use Rattle.std.proofs.lemmas.Bool.{eqb-true, eqb-false}
use Rattle.ly_pack.specs.Private.Placing.{table_of}
use Rattle.ly_pack.proofs.PlacingLemmas.{placed_keeps, placed_none, placed_some}
use Rattle.ly_pack.proofs.placing.Placing.place.Goals as goal

pub returns-then-is_empty-clause-placed : goal.returns-then-is_empty-clause-placed
returns-then-is_empty-clause-placed g c = placed_none (table_of c.args.dense.now) c.args.row.0 c.args.columns.now
    c.args.self.now.slots.items c.requires.columns
    (eqb-true (length c.args.columns.now) 0 (sym c.is_empty.ensures ∙ c.if-is_empty.true))

pub returns-clause-placed : goal.returns-clause-placed
returns-clause-placed g c =
    let not_none = eqb-false (length c.args.columns.now) 0 (sym c.is_empty.ensures ∙ c.if-is_empty.false) in
    let some : 0 < length c.args.columns.now = omega arith in
    placed_some (table_of c.args.dense.now) c.args.row.0 c.first_fit-base.result c.args.columns.now
    c.args.self.now.used.words.items c.args.self.now.slots.items c.fill.new.self.slots.items c.requires.columns
    some
    c.requires.tied c.first_fit-base.ensures.free c.first_fit-base.ensures.least
    c.in_ok-fill.ensures.filled

pub returns-clause-still : goal.returns-clause-still
returns-clause-still g c = placed_keeps (table_of c.args.dense.now) c.args.row.0 c.first_fit-base.result
    c.args.self.now.used.words.items c.fill.new.self.used.words.items c.args.self.now.slots.items
    c.fill.new.self.slots.items c.requires.tied c.in_ok-fill.ensures.tied (returns-clause-placed g c)
