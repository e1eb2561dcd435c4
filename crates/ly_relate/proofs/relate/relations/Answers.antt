use Rattle.std.proofs.Common.{◌≡◌, List, map, sym, subst}
use Rattle.ly_digraph.specs.Digraph.{Digraph}
use Rattle.ly_lr0.specs.Automaton.{Lr0Automaton}
use Rattle.ly_relate.specs.Private.Gotos.{IsNumbering, Numbering}
use Rattle.ly_relate.specs.Related.{AreEdges, AreGathered, AreLookbacks, AreRelations, Goto}
use Rattle.ly_relate.specs.Related.{IsIncluding, IsRead}
use Rattle.ly_relate.specs.Related.{Lookback}
use Rattle.ly_relate.specs.Values.{goto_from, lookback_from}
use Rattle.ly_relate.proofs.GotoLemmas.{numbered_are}
use Rattle.ly_relate.proofs.relate.relations.Goals as goal

-- what was found over a numbering is an automaton's, where the numbering is
are_relations : (M : Lr0Automaton) (gotos : List Goto) (n : Numbering) (reads includes : Digraph)
    (lookbacks : List Lookback) → IsNumbering n → n.automaton ≡ M → gotos ≡ n.gotos
    → AreEdges n.gotos (IsRead n.automaton n.gotos) reads
    → AreGathered n.gotos (IsIncluding n.automaton n.gotos) includes
    → AreLookbacks n.automaton n.gotos includes lookbacks
    → AreRelations M (record { gotos = gotos; reads = reads; includes = includes; lookbacks = lookbacks })
are_relations M gotos n reads includes lookbacks law same listed r i l =
    subst (λ A. AreRelations A
    (record { gotos = gotos; reads = reads; includes = includes; lookbacks = lookbacks })) same
    (subst (λ w. AreRelations n.automaton
    (record { gotos = w; reads = reads; includes = includes; lookbacks = lookbacks })) (sym listed)
    (record { gotos = numbered_are n law; reads = r; includes = i; lookbacks = l }))

pub returns : goal.returns
returns c =
    are_relations c.args.lr0.now (map goto_from c.into_list.result.items) c.in_ok-gotos.gotos c.in_ok-reads.reads
    c.into_graph.result (map lookback_from c.in_ok-walks.walks.lookbacks)
    (subst IsNumbering c.gotos.view_is c.gotos.invariant) c.in_ok-gotos.ensures c.into_list.ensures
    c.in_ok-reads.ensures
    (subst (AreGathered c.in_ok-gotos.gotos.gotos
    (IsIncluding c.in_ok-gotos.gotos.automaton c.in_ok-gotos.gotos.gotos)) (sym c.into_graph.ensures)
    c.in_ok-walks.ensures.includes)
    (subst (λ g. AreLookbacks c.in_ok-gotos.gotos.automaton c.in_ok-gotos.gotos.gotos g
    (map lookback_from c.in_ok-walks.walks.lookbacks)) (sym c.into_graph.ensures) c.in_ok-walks.ensures.lookbacks)
