use Rattle.std.proofs.Common.{[], get_or, subst, sym, take}
use Rattle.std.proofs.lemmas.List.{take_all, take_more}
use Rattle.std.proofs.lemmas.List.Elements.{Contains-get_or}
use Rattle.ly_loop.proofs.ByRuleLemmas.{no_rule}
use Rattle.ly_loop.proofs.ReductionLemmas.{AreKeptOn, firsts_none, kept_all, kept_more, kept_none}
use Rattle.ly_loop.proofs.reductions.without_ends.Goals as goal

pub loop-rule-init : goal.loop-rule-init
loop-rule-init g c = record {
  alike = firsts_none c.args.machine.now c.new-alike.result c.new-kept.result.items c.new-alike.ensures.empty;
  kept = subst (AreKeptOn c.args.machine.now c.args.state.0 []) (sym c.new-kept.ensures.items)
      (kept_none c.args.machine.now c.args.state.0);
}

pub keep-requires-clause-rule : goal.keep-requires-clause-rule
keep-requires-clause-rule g c = c.requires.row.rules _
    (Contains-get_or c.args.row.now c.loop-rule.rule-index no_rule c.loop-rule-test.true)

pub loop-rule-preserved : goal.loop-rule-preserved
loop-rule-preserved g c =
    let m = c.args.machine.now in
    let row = c.args.row.now in
    let k = c.loop-rule.rule-index in
    record {
      alike = c.in_ok-keep.ensures.alike;
      kept = subst (λ rs. AreKeptOn m c.args.state.0 rs c.keep.new.kept.items)
          (sym (take_more row k no_rule c.loop-rule-test.true))
          (kept_more m c.args.state.0 (take k row) c.loop-rule.kept.items (get_or row k no_rule) c.keep.new.kept.items
          (c.requires.row.rules _ (Contains-get_or row k no_rule c.loop-rule-test.true)) c.loop-rule.invariant.kept
          c.in_ok-keep.ensures.kept);
    }

pub keep-requires-clause-alike : goal.keep-requires-clause-alike
keep-requires-clause-alike g c = c.loop-rule.invariant.alike

pub returns : goal.returns
returns g c =
    let m = c.args.machine.now in
    kept_all m c.args.state.0 c.args.row.now c.loop-rule.kept.items c.requires.row
    (subst (λ rs. AreKeptOn m c.args.state.0 rs c.loop-rule.kept.items)
    (take_all c.loop-rule.rule-index c.args.row.now c.loop-rule-test.false) c.loop-rule.invariant.kept)
