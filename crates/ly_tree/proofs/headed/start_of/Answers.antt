use Rattle.std.proofs.Common.{◌≡◌, ◌∙◌, ◌-◌, suc, ap, arith}
use Rattle.ly_tree.specs.Private.Headed.{start_after}
use Rattle.ly_tree.proofs.HeadedLemmas.{start_behind}
use Rattle.ly_tree.proofs.headed.start_of.Goals as goal

pub returns-else-number-eq0 : goal.returns-else-number-eq0
returns-else-number-eq0 g c =
    let same : suc (c.args.number - 1) ≡ c.args.number = omega arith in
    start_behind 0 c.args.headings.now (c.args.number - 1) c.index-headings-number.result (omega arith)
    ∙ ap (start_after 0 c.args.headings.now) same
