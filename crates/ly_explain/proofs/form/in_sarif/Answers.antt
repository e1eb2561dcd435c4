use Rattle.std.proofs.Common.{codes}
use Rattle.ly_explain.proofs.FormLemmas.{begins_more, has_one, if_begins}
use Rattle.ly_explain.proofs.form.in_sarif.Goals as goal

pub returns : goal.returns
returns c = let front = codes "{\"version\":\"2.1.0\"" in
    if_begins front c.push-2.new.self c.finish.result
    (begins_more front c.args.said.now c.push.new.self c.push-2.new.self
    (has_one front c.new-buffer.result c.push.new.self c.new-buffer.ensures c.push.ensures) c.push-2.ensures)
    c.finish.ensures.ok
