use Rattle.std.proofs.Common.{◌≡◌, ◌<◌, ◌∙◌, ◌++◌, ◌∷◌, [], sym, ap, subst, map, take, All, List, ℕ, slice_index_or}
use Rattle.std.proofs.lemmas.List.{append_assoc}
use Rattle.ly_digraph.specs.Digraph.{Digraph}
use Rattle.ly_join.specs.Grammar.{symbol_of}
use Rattle.ly_join.specs.declared.symbol.Symbol.{Symbol}
use Rattle.ly_join.specs.declared.symbol.Symbol.TheVariants.{Terminal}
use Rattle.ly_grammar.specs.Private.Reach.{uses}
use Rattle.ly_grammar.specs.Private.Search.{HasNumberBelow}
use Rattle.ly_grammar.proofs.PassLemmas.{place_numbered}
use Rattle.ly_grammar.proofs.ReachLemmas.{uses_more}
use Rattle.ly_grammar.proofs.useful.add_uses.Goals as goal

-- what stands where no symbol does
abbrev nowhere : Symbol
nowhere = Terminal (record { 0 = 0 })

pub add_use-requires-clause-numbered : goal.add_use-requires-clause-numbered
add_use-requires-clause-numbered c =
    let symbols = c.body-symbol-items.result.now in
    let at = c.loop-symbol.symbol-index in
    let nodes : c.loop-symbol.graph.nodes ≡ c.args.graph.now.nodes = ap (λ g. g.nodes) c.loop-symbol.invariant in
    subst (λ n. HasNumberBelow n (symbol_of (slice_index_or symbols at nowhere))) (sym nodes)
    (place_numbered c.args.graph.now.nodes symbols at nowhere c.loop-symbol-test.true
    (subst (All (HasNumberBelow c.args.graph.now.nodes)) (sym c.body-symbol-items.ensures) c.requires.body))

pub add_use-requires-clause-left : goal.add_use-requires-clause-left
add_use-requires-clause-left c =
    subst (λ n. c.left-left.result.0 < n) (sym (ap (λ g. g.nodes) c.loop-symbol.invariant))
    (subst (λ n. n < c.args.graph.now.nodes) (sym c.left-left.ensures) c.requires.left)

pub loop-symbol-preserved : goal.loop-symbol-preserved
loop-symbol-preserved c =
    let symbols = c.body-symbol-items.result.now in
    let at = c.loop-symbol.symbol-index in
    let left = c.left-left.result.0 in
    let edges = c.args.graph.now.edges in
    let before = uses left (map symbol_of (take at symbols)) in
    let graph : List (ℕ × ℕ) → Digraph = λ es. record { nodes = c.args.graph.now.nodes; edges = es } in
    c.in_ok-add_use.ensures
    ∙ ap (λ g. let it : Digraph = record g {
      edges = g.edges ++ uses left (symbol_of (slice_index_or symbols at nowhere) ∷ []);
    } in it) c.loop-symbol.invariant
    ∙ ap graph (append_assoc edges before (uses left (symbol_of (slice_index_or symbols at nowhere) ∷ []))
    ∙ ap (λ es. edges ++ es) (sym (uses_more left symbols at nowhere c.loop-symbol-test.true)))
