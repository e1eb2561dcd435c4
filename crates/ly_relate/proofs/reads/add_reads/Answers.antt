use Rattle.std.proofs.Common.{true, false, ◌+◌, ◌≡◌, ◌≤◌, ◌∙◌, [], ◌∷◌, arith, sym, ap, subst}
use Rattle.ly_join.specs.Grammar.{nonterminal}
use Rattle.ly_grammar.specs.Derivations.{IsNullable}
use Rattle.ly_relate.specs.Private.Reads.{IsNullableWithin}
use Rattle.ly_relate.specs.Private.Walks.{AreEdgesFrom}
use Rattle.ly_relate.specs.Values.{goto_from}
use Rattle.ly_relate.proofs.GotoLemmas.{numbered_named, numbered_states}
use Rattle.ly_relate.proofs.ReadLemmas.{nullable_more, nullable_past, read_edges}
use Rattle.ly_relate.proofs.reads.add_reads.Goals as goal
use Rattle.ly_relate.proofs.reads.add_reads.Goals.{then-is_nullable+in_ok-add, else-is_nullable}

pub leaving-range-requires : goal.leaving-range-requires
leaving-range-requires c =
    (numbered_states c.args.gotos.now c.get.ensures.lawful c.args.goto (goto_from c.get.result) c.get.ensures.there).1

pub is_nullable-requires : goal.is_nullable-requires
is_nullable-requires c =
    subst (λ g. c.get-in-loop-next.result.symbol.0 ≤ g.accept)
    (sym (c.reduced.ensures ∙ ap (λ M. M.grammar) c.lr0.ensures.automaton))
    (numbered_named c.args.gotos.now c.get.ensures.lawful c.loop-next.next (goto_from c.get-in-loop-next.result)
    c.get-in-loop-next.ensures.there)

pub add-requires : goal.add-requires
add-requires c =
    let nodes = c.loop-next.invariant.nodes in
    let count = c.requires.nodes in
    let from = c.requires.goto in
    let lt = c.loop-next-test.true in
    let le = c.leaving-range.ensures.within in
    (omega (arith, nodes, count, from), omega (arith, nodes, count, lt, le))

pub loop-next-preserved : goal.loop-next-preserved
loop-next-preserved c =
    let n = c.args.gotos.now in
    let next = c.loop-next.next in
    let start = c.leaving-range.result.start in
    let le = c.loop-next.invariant.start in
    let y = goto_from c.get-in-loop-next.result in
    let here = c.get-in-loop-next.ensures.there in
    let same = ap (λ r. r) c.reduced.ensures ∙ ap (λ M. M.grammar) c.lr0.ensures.automaton in
    let more : start ≤ next + 1 = omega (arith, le) in
    elim c.if-is_nullable.branch [
      | then-is_nullable+in_ok-add w ↦
          let null = subst (λ g. IsNullable g (nonterminal y.symbol ∷ [])) same
          (c.is_nullable.ensures.0 w.if-is_nullable.true) in
          let graph = w.graph-is ∙ w.in_ok-add.ensures.ok in
          record {
            start = more;
            nodes = ap (λ g. g.nodes) graph ∙ c.loop-next.invariant.nodes;
            edges = nullable_more n c.args.graph.now c.loop-next.graph c.if-is_nullable.graph c.args.goto start next y
                le here
                null (ap (λ g. g.edges) graph) c.loop-next.invariant.edges;
          }
      | else-is_nullable w ↦
          let lacks : IsNullable n.automaton.grammar (nonterminal y.symbol ∷ []) → ⊥
          = λ null. let on = c.is_nullable.ensures.1
          (subst (λ g. IsNullable g (nonterminal y.symbol ∷ [])) (sym same) null) in
          let no : true ≡ false = sym on ∙ w.if-is_nullable.false in cc in
          record {
            start = more;
            nodes = ap (λ g. g.nodes) w.graph-is ∙ c.loop-next.invariant.nodes;
            edges = subst (λ g. AreEdgesFrom c.args.graph.now g c.args.goto (IsNullableWithin n start (next + 1)))
                (sym w.graph-is)
                (nullable_past n c.args.graph.now c.loop-next.graph c.args.goto start next y here lacks
                c.loop-next.invariant.edges);
          }
    ]

pub returns-clause-edges : goal.returns-clause-edges
returns-clause-edges c =
    let end = c.leaving-range.result.end in
    read_edges c.args.gotos.now c.args.graph.now c.loop-next.graph c.args.goto c.leaving-range.result.start end
    c.loop-next.next (goto_from c.get.result) c.get.ensures.lawful c.get.ensures.there c.loop-next-test.false
    (c.loop-next.auto.next-end c.leaving-range.ensures.ordered)
    c.leaving-range.ensures.these c.loop-next.invariant.edges
