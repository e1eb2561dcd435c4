use Rattle.std.proofs.Common.{Some, None, codes, subst, sym}
use Rattle.std.specs.Fmt.{decimal}
use Rattle.ly_explain.specs.Findings.{json_front}
use Rattle.ly_explain.proofs.FormLemmas.{begins_more, has_four, has_one, if_begins, Has}
use Rattle.ly_explain.proofs.form.in_json.Goals as goal
use Rattle.ly_explain.proofs.form.in_json.Goals.{in-Some, in-None}

pub returns : goal.returns
returns c =
    let buffer = c.match-findings.buffer in
    let has : Has (json_front c.args.findings.now) buffer = elim c.match-findings.branch [
      | in-Some w ↦
          let counts = w.in-Some.found.conflicts in
          let known : Has (json_front (Some w.in-Some.found)) buffer = rw w.buffer-is (has_four
          (codes "{\"accepted\":true,\"counts\":{\"shift_reduce\":") (decimal counts.shift_reduce)
          (codes ",\"reduce_reduce\":") (decimal counts.reduce_reduce) c.new-buffer.result w.push.new.self
          w.push_number.new.self w.push-in-Some.new.self w.push_number-in-Some.new.self c.new-buffer.ensures
          w.push.ensures w.push_number.ensures w.push-in-Some.ensures w.push_number-in-Some.ensures) in
          subst (λ found. Has (json_front found) buffer) (sym w.in-Some.is) known
      | in-None w ↦
          let known : Has (json_front None) buffer = rw w.buffer-is (has_one
          (codes "{\"accepted\":false,\"counts\":null") c.new-buffer.result w.push-in-None.new.self
          c.new-buffer.ensures w.push-in-None.ensures) in
          subst (λ found. Has (json_front found) buffer) (sym w.in-None.is) known
    ] in
    if_begins (json_front c.args.findings.now) c.push-2.new.self c.finish.result
    (begins_more (json_front c.args.findings.now) c.args.said.now buffer c.push-2.new.self has c.push-2.ensures)
    c.finish.ensures.ok
