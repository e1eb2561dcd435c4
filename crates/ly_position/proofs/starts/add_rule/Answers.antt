use Rattle.std.proofs.Common.{◌≡◌, ◌+◌, ◌++◌, ◌∷◌, [], ℕ, List, length, take, get_or, ap, subst, ◌∙◌}
use Rattle.std.proofs.Common.{arith}
use Rattle.std.proofs.lemmas.List.{take_more, take_all}
use Rattle.ly_position.specs.Private.Starts.{AddsInEach}
use Rattle.ly_position.proofs.StartLemmas.{each_more, each_skip, within_trans}
use Rattle.ly_position.proofs.starts.add_rule.Goals as goal
use Rattle.ly_position.proofs.starts.add_rule.Goals.{then-condition-conditions+in_ok-add_root}
use Rattle.ly_position.proofs.starts.add_rule.Goals.{else-condition-conditions}
use Rattle.ly_ere.specs.Winner.{active_of}

pub loop-condition-preserved : goal.loop-condition-preserved
loop-condition-preserved c =
    let L = c.args.roots.now in
    let M = c.loop-condition.roots in
    let n = c.args.conditions in
    let i = c.loop-condition.condition-index in
    let active = active_of c.args.rule.now in
    let d = get_or c.as_slice-condition-items.result.now i 0 in
    let start = c.args.rule.now.pattern.line_start in
    let more : take (i + 1) active ≡ take i active ++ d ∷ []
    = subst (λ (xs : List ℕ). take (i + 1) xs ≡ take i xs ++ d ∷ []) c.as_slice-condition-items.ensures.value
    (take_more c.as_slice-condition-items.result.now i 0 c.loop-condition-test.true) in
    elim c.if-condition-conditions.branch [
      | then-condition-conditions+in_ok-add_root w ↦ rw w.roots-is (record {
        count = w.in_ok-add_root.ensures.count ∙ c.loop-condition.invariant.count;
        within = within_trans L M w.add_root.new.roots c.args.entry c.loop-condition.invariant.within
            w.in_ok-add_root.ensures.within;
        added = each_more L M w.add_root.new.roots n (take i active)
            (take (i + 1) active) d start c.args.entry c.loop-condition.invariant.added w.in_ok-add_root.ensures.added
            more;
      })
      | else-condition-conditions w ↦ rw w.roots-is (record {
        count = c.loop-condition.invariant.count;
        within = c.loop-condition.invariant.within;
        added = each_skip L M n (take i active) (take (i + 1) active) d start c.args.entry
            c.loop-condition.invariant.added w.if-condition-conditions.false more;
      })
    ]

pub returns-clause-added : goal.returns-clause-added
returns-clause-added c =
    let active = active_of c.args.rule.now in
    let all = take_all c.loop-condition.condition-index active (let t = c.loop-condition-test.false
    in let v = ap length c.as_slice-condition-items.ensures.value in omega arith) in
    subst (λ (xs : List ℕ). AddsInEach c.args.roots.now c.loop-condition.roots c.args.conditions
    xs c.args.rule.now.pattern.line_start c.args.entry) all c.loop-condition.invariant.added
