use Rattle.std.proofs.Common.{refl}
use Rattle.ly_scan.proofs.StateRowLemmas.{none_lead}
use Rattle.ly_scan.proofs.state_rows.StateRows.new.Goals as goal

pub returns-clause-none : goal.returns-clause-none
returns-clause-none c = none_lead c.in_ok-vec.field-0.items 1 c.in_ok-count.count refl
    (c.in_ok-vec.ensures.items_if_clones_equal (λ y e. e))
