use Rattle.std.proofs.Common.{◌<◌, ◌≤◌, ◌+◌, ◌∙◌, sym, ap, subst, arith, length, replicate, []}
use Rattle.std.specs.FinSet as set
use Rattle.ly_digraph.specs.Digraph.{Digraph}
use Rattle.ly_join.specs.Grammar.{Grammar, GrammarRule, IsRule}
use Rattle.ly_sets.specs.SetMatrix.{Matrix}
use Rattle.ly_grammar.specs.Reduction.{restricted}
use Rattle.ly_grammar.proofs.FirstLemmas.{AreFirsts, firsts_none, firsts_more, firsts_past, start_rows}
use Rattle.ly_grammar.proofs.MarkedLemmas.{at_marked, at_dropped, length-marked}
use Rattle.ly_grammar.proofs.first.first_sets.Goals as goal
use Rattle.ly_grammar.proofs.first.first_sets.Goals.{then-kept-number+in_ok-add_firsts, else-kept-number}

pub loop-number-init : goal.loop-number-init
loop-number-init c =
    let R = restricted c.args.kept.now c.args.grammar.now in
    let accept = c.accept.ensures in
    firsts_none R c.args.nullable.now c.in_ok-graph.graph c.in_ok-sets.sets
    (c.in_ok-graph.ensures ∙ ap (λ k. let g : Digraph = record { nodes = k + 1; edges = [] } in g) accept)
    (ap (λ m. m.width) c.in_ok-sets.ensures ∙ c.terminals.ensures)
    (ap (λ m. m.sets) c.in_ok-sets.ensures ∙ ap (λ k. replicate (k + 1) set.empty) accept)

pub loop-number-preserved : goal.loop-number-preserved
loop-number-preserved c =
    let G : Grammar = c.args.grammar.now in
    let kept = c.args.kept.now in
    let R = restricted kept G in
    let marks = c.args.nullable.now in
    let n = c.loop-number.number in
    let lt : n < length G.rules = subst (λ k. n < k) c.requires.kept c.loop-number-test.true in
    let Firsts : Digraph → Matrix → Type 0 = λ g m. AreFirsts R marks g m (n + 1) in
    elim c.if-kept-number.branch [
      | then-kept-number+in_ok-add_firsts w ↦
          let r : GrammarRule = w.rule.result.now in
          let rule : IsRule R n r = at_marked kept G.rules n r w.rule.ensures.there w.if-kept-number.true in
          subst (λ g. Firsts g c.if-kept-number.sets) (sym w.graph-is)
          (subst (λ m. Firsts w.add_firsts.new.graph m) (sym w.sets-is)
          (firsts_more R marks c.loop-number.graph w.add_firsts.new.graph c.loop-number.sets w.add_firsts.new.sets n r
          c.loop-number.invariant rule w.in_ok-add_firsts.ensures.graph w.in_ok-add_firsts.ensures.sets))
      | else-kept-number w ↦
          subst (λ g. Firsts g c.if-kept-number.sets) (sym w.graph-is)
          (subst (λ m. Firsts c.loop-number.graph m) (sym w.sets-is)
          (firsts_past R marks c.loop-number.graph c.loop-number.sets n c.loop-number.invariant
          (at_dropped kept G.rules n lt c.requires.kept w.if-kept-number.false)))
    ]

pub returns-clause-exact : goal.returns-clause-exact
returns-clause-exact c =
    let G : Grammar = c.args.grammar.now in
    let kept = c.args.kept.now in
    let R = restricted kept G in
    let past : length R.rules ≤ c.loop-number.number = (let e = length-marked kept G.rules c.requires.kept in
    let l = c.requires.kept in let f = c.loop-number-test.false in omega (arith, e, l, f)) in
    start_rows R c.args.nullable.now c.loop-number.graph c.loop-number.sets c.least.new.sets.sets c.loop-number.number
    c.loop-number.invariant past c.in_ok-least.ensures.least c.in_ok-least.ensures.reached
