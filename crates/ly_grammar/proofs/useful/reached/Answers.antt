use Rattle.std.proofs.Common.{◌≡◌, ◌<◌, ◌+◌, ◌++◌, ◌∙◌, ℕ, List, sym, ap, subst, arith, length, take, slice_set}
use Rattle.std.specs.FinSet as set
use Rattle.std.proofs.lemmas.List.{length-replicate, take_all}
use Rattle.ly_digraph.specs.Digraph.{Digraph}
use Rattle.ly_digraph.specs.Least.{IsLeast, IsBetween}
use Rattle.ly_join.specs.Grammar.{Grammar, GrammarRule}
use Rattle.ly_sets.specs.SetMatrix.{row}
use Rattle.ly_grammar.specs.Reduction.{restricted}
use Rattle.ly_grammar.specs.Private.Reach.{uses, use_edges}
use Rattle.ly_grammar.specs.Private.Search.{RuleNumbered}
use Rattle.ly_grammar.proofs.MarkedLemmas.{rule_numbered, length-marked}
use Rattle.ly_grammar.proofs.ReachLemmas.{kept_more, dropped_more, led_rows, one_member, used_graph}
use Rattle.ly_grammar.proofs.useful.reached.Goals as goal
use Rattle.ly_grammar.proofs.useful.reached.Goals.{then-productive-number+in_ok-add_uses, else-productive-number}

pub add_uses-requires : goal.add_uses-requires
add_uses-requires c = subst (λ n. RuleNumbered n c.rule.result.now) (sym (ap (λ g. g.nodes) c.loop-number.invariant))
    (rule_numbered c.args.grammar.now c.loop-number.number c.rule.result.now c.rule.ensures.lawful c.rule.ensures.there)

-- the graph of these edges
abbrev graph_of : Grammar → List (ℕ × ℕ) → Digraph
graph_of G edges = record { nodes = G.accept + 1; edges = edges }

pub loop-number-preserved : goal.loop-number-preserved
loop-number-preserved c =
    let G : Grammar = c.args.grammar.now in
    let kept = c.args.productive.now in
    let n = c.loop-number.number in
    let lt : n < length G.rules = subst (λ k. n < k) c.requires c.loop-number-test.true in
    elim c.if-productive-number.branch [
      | then-productive-number+in_ok-add_uses w ↦
          let r : GrammarRule = w.rule.result.now in
          w.graph-is ∙ w.in_ok-add_uses.ensures
          ∙ ap (λ g. let it : Digraph = record g { edges = g.edges ++ uses r.left r.body } in
          it) c.loop-number.invariant
          ∙ ap (graph_of G) (sym (kept_more (λ r. uses r.left r.body) G kept n r w.rule.ensures.there
          w.if-productive-number.true))
      | else-productive-number w ↦
          w.graph-is ∙ c.loop-number.invariant
          ∙ ap (graph_of G) (sym (dropped_more (λ r. uses r.left r.body) G kept n lt c.requires
          w.if-productive-number.false))
    ]

pub insert-requires-clause-row : goal.insert-requires-clause-row
insert-requires-clause-row c =
    let rows : length c.in_ok-sets.sets.sets ≡ c.accept.result.0 + 1
    = ap (λ m. length m.sets) c.in_ok-sets.ensures ∙ length-replicate (c.accept.result.0 + 1) set.empty in
    let lt = c.start.ensures.within in
    let accept = c.accept.ensures in
    omega (arith, rows, lt, accept)

pub returns-clause-exact : goal.returns-clause-exact
returns-clause-exact c =
    let G : Grammar = c.args.grammar.now in
    let kept = c.args.productive.now in
    let R = restricted kept G in
    let at = c.start.result.0 in
    let given : c.insert.new.self.sets ≡ one_member (G.accept + 1) G.start
    = ap (λ m. m.sets) c.in_ok-insert.ensures.ok
    ∙ ap (λ m. slice_set m.sets at (set.insert (row m.sets at) 0)) c.in_ok-sets.ensures
    ∙ ap (λ k. one_member (k + 1) at) c.accept.ensures ∙ ap (one_member (G.accept + 1)) c.start.ensures.value in
    let all : take c.loop-number.number R.rules ≡ R.rules = take_all c.loop-number.number R.rules
    (let e = length-marked kept G.rules c.requires in let l = c.requires in let past = c.loop-number-test.false in
    omega (arith, e, l, past)) in
    let graph : c.loop-number.graph ≡ used_graph R
    = c.loop-number.invariant ∙ ap (λ rs. graph_of G (use_edges rs)) all in
    let new = c.least.new.sets.sets in
    led_rows R new (let lt = c.start.ensures.within in let s = c.start.ensures.value in omega (arith, lt, s))
    (subst (λ g. IsLeast g (one_member (G.accept + 1) G.start) new) graph
    (subst (λ old. IsLeast c.loop-number.graph old new) given c.in_ok-least.ensures.least))
    (subst (λ g. IsBetween g (one_member (G.accept + 1) G.start) new) graph
    (subst (λ old. IsBetween c.loop-number.graph old new) given c.in_ok-least.ensures.reached))
