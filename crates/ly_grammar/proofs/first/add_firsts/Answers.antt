use Rattle.std.proofs.Common.{◌≡◌, ◌<◌, ◌+◌, ◌++◌, ◌∙◌, ◌∷◌, [], sym, ap, subst, map, take, List, ℕ, slice_index_or}
use Rattle.std.proofs.Common.{Contains}
use Rattle.std.proofs.lemmas.List.{append_assoc, length-map}
use Rattle.std.proofs.lemmas.List.Elements.{All-contains, Contains-get_or}
use Rattle.std.proofs.Math.ListN.{get_or-map}
use Rattle.ly_digraph.specs.Digraph.{Digraph}
use Rattle.ly_join.specs.Grammar.{symbol_of}
use Rattle.ly_join.specs.Grammar as join
use Rattle.ly_join.specs.declared.symbol.Symbol.{Symbol}
use Rattle.ly_join.specs.declared.symbol.Symbol.TheVariants.{Terminal}
use Rattle.ly_grammar.specs.Private.First.{parts, AreAdded, HasPlace}
use Rattle.ly_grammar.proofs.FirstLemmas.{added_more, opening_in, parts_append, shown_more}
use Rattle.ly_grammar.proofs.first.add_firsts.Goals as goal

-- what stands where no symbol does
abbrev nowhere : Symbol
nowhere = Terminal (record { 0 = 0 })

pub add_first-requires-clause-place : goal.add_first-requires-clause-place
add_first-requires-clause-place c =
    let symbols = c.opening-symbol-items.result.now in
    let at = c.loop-symbol.symbol-index in
    let w : List join.Symbol = map symbol_of symbols in
    let X = symbol_of (slice_index_or symbols at nowhere) in
    let shown : Contains w X = subst (Contains w) (get_or-map symbol_of symbols at nowhere)
    (Contains-get_or w at (symbol_of nowhere)
    (subst (λ n. at < n) (sym (length-map symbols symbol_of)) c.loop-symbol-test.true)) in
    let body : Contains (map symbol_of c.body.result.now) X
    = opening_in c.args.nullable.now (map symbol_of c.body.result.now) X
    (subst (λ v. Contains v X) c.opening-symbol-items.ensures shown) in
    let width : c.loop-symbol.sets.width ≡ c.args.sets.now.width = c.loop-symbol.invariant.sets.width in
    let nodes : c.loop-symbol.graph.nodes ≡ c.args.graph.now.nodes = ap (λ g. g.nodes) c.loop-symbol.invariant.graph in
    subst (λ k. HasPlace k c.loop-symbol.graph.nodes X) (sym width)
    (subst (λ k. HasPlace c.args.sets.now.width k X) (sym nodes)
    (All-contains (HasPlace c.args.sets.now.width c.args.graph.now.nodes) c.args.rule.now.body X c.requires.places.body
    (subst (λ v. Contains v X) c.body.ensures body)))

pub loop-symbol-preserved : goal.loop-symbol-preserved
loop-symbol-preserved c =
    let symbols = c.opening-symbol-items.result.now in
    let at = c.loop-symbol.symbol-index in
    let left = c.left-left.result.0 in
    let edges = c.args.graph.now.edges in
    let before = map symbol_of (take at symbols) in
    let one = symbol_of (slice_index_or symbols at nowhere) ∷ [] in
    let more : map symbol_of (take (at + 1) symbols) ≡ before ++ one
    = shown_more symbols at nowhere c.loop-symbol-test.true in
    let graph : List (ℕ × ℕ) → Digraph = λ es. record { nodes = c.args.graph.now.nodes; edges = es } in
    record {
      graph = c.in_ok-add_first.ensures.graph
          ∙ ap (λ g. let it : Digraph = record g { edges = g.edges ++ parts left one } in
          it) c.loop-symbol.invariant.graph
          ∙ ap graph (append_assoc edges (parts left before) (parts left one)
          ∙ ap (λ es. edges ++ es) (sym (parts_append left before one) ∙ ap (parts left) (sym more)));
      sets = subst (AreAdded c.args.sets.now c.add_first.new.sets left) (sym more)
          (added_more c.args.sets.now c.loop-symbol.sets c.add_first.new.sets left before one
          c.loop-symbol.invariant.sets
          c.in_ok-add_first.ensures.sets);
    }
