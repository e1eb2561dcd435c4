use Rattle.std.proofs.Common.{◌≡◌, ◌∙◌, ◌+◌, ◌-◌, ◌++◌, ap, arith, drop, length, take}
use Rattle.ly_base.specs.Bytes.{double_quote}
use Rattle.ly_print.specs.Text.{escaped, escaped_byte}
use Rattle.ly_print.proofs.TextLemmas.{run_behind}
use Rattle.ly_print.proofs.room.put_text.Goals as goal

pub returns-clause-bytes : goal.returns-clause-bytes
returns-clause-bytes c =
    let run = c.put_plain-run in
    let before = take c.args.at c.args.room.now in
    let bytes = c.text.inside.bytes.now in
    let left = c.text.inside.count - run.result in
    let all : run.result + left ≡ c.text.inside.count = omega (arith, run.ensures.most) in
    c.put_runs.ensures.bytes
    ∙ ap (λ t. t ++ escaped double_quote (take left (take (length bytes - run.result) (drop run.result bytes))))
    run.ensures.bytes
    ∙ run_behind (escaped_byte double_quote) before bytes run.result left
    ∙ ap (λ n. before ++ escaped double_quote (take n bytes)) all
    ∙ ap (λ t. before ++ escaped double_quote t) c.text.view_is
