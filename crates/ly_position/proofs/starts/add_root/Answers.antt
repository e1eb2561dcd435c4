use Rattle.std.proofs.Common.{◌+◌, ◌*◌, sym, ◌∙◌, arith, subst}
use Rattle.std.proofs.lemmas.Result.{on_ok_weaker}
use Rattle.ly_position.specs.Private.Starts.{AddsIn}
use Rattle.ly_position.proofs.StartLemmas.{put_within, put_length, within_trans, added_at_line, added_anywhere}
use Rattle.ly_position.proofs.starts.add_root.Goals as goal

pub returns-then-line_start-clause-count : goal.returns-then-line_start-clause-count
returns-then-line_start-clause-count c =
    on_ok_weaker c.put.result
    (λ is. put_length c.args.roots.now c.put.new.self (2 * c.args.condition + 1) c.args.entry is) c.put.ensures

pub returns-then-line_start-clause-within : goal.returns-then-line_start-clause-within
returns-then-line_start-clause-within c =
    on_ok_weaker c.put.result
    (λ is. put_within c.args.roots.now c.put.new.self (2 * c.args.condition + 1) c.args.entry c.requires is)
    c.put.ensures

pub returns-then-line_start-clause-added : goal.returns-then-line_start-clause-added
returns-then-line_start-clause-added c =
    on_ok_weaker c.put.result
    (λ is. subst (λ b. AddsIn c.args.roots.now c.put.new.self c.args.condition b c.args.entry)
    (sym c.if-line_start.true)
    (added_at_line c.args.roots.now c.put.new.self c.args.condition c.args.entry c.requires is)) c.put.ensures

pub returns-clause-count : goal.returns-clause-count
returns-clause-count c =
    on_ok_weaker c.put-3.result
    (λ is. put_length c.put-2.new.self c.put-3.new.self (2 * c.args.condition + 1) c.args.entry is
    ∙ put_length c.args.roots.now c.put-2.new.self (2 * c.args.condition) c.args.entry c.in_ok-put.ensures)
    c.put-3.ensures

pub returns-clause-within : goal.returns-clause-within
returns-clause-within c =
    let L = c.args.roots.now in
    let M = c.put-2.new.self in
    on_ok_weaker c.put-3.result (λ is. within_trans L M c.put-3.new.self c.args.entry
    (put_within L M (2 * c.args.condition) c.args.entry (omega (arith, c.requires)) c.in_ok-put.ensures)
    (put_within M c.put-3.new.self (2 * c.args.condition + 1) c.args.entry
    (omega (arith, c.requires, put_length L M (2 * c.args.condition) c.args.entry c.in_ok-put.ensures)) is))
    c.put-3.ensures

pub returns-clause-added : goal.returns-clause-added
returns-clause-added c =
    let L = c.args.roots.now in
    let M = c.put-2.new.self in
    on_ok_weaker c.put-3.result
    (λ is. subst (λ b. AddsIn L c.put-3.new.self c.args.condition b c.args.entry) (sym c.if-line_start.false)
    (added_anywhere L M c.put-3.new.self c.args.condition c.args.entry c.requires
    (omega (arith, c.requires, put_length L M (2 * c.args.condition) c.args.entry c.in_ok-put.ensures))
    c.in_ok-put.ensures is)) c.put-3.ensures
