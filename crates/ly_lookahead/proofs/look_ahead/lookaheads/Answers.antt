use Rattle.std.proofs.Common.{◌≡◌, ◌∙◌, ℕ, List, All, ap, arith, length, slice_index_or, subst, sym}
use Rattle.ly_digraph.specs.Digraph.{Digraph, IsInside as JoinsNodes}
use Rattle.ly_digraph.proofs.StepLemmas.{read_is}
use Rattle.ly_lr0.specs.Automaton.{Lr0Automaton}
use Rattle.ly_relate.specs.Related.{Relations}
use Rattle.ly_lookahead.specs.Private.Rows.{AreRows}
use Rattle.ly_lookahead.specs.Private.Sets.{AreLookedBack}
use Rattle.ly_lookahead.proofs.LookaheadLemmas.{are_lookaheads, rows_count}
use Rattle.ly_lookahead.proofs.look_ahead.lookaheads.Goals as goal

-- the rows behind those of the nodes as they are counted
rows_of : (M : Lr0Automaton) (R : Relations) (g : Digraph) (k n : ℕ) (first : List ℕ) → g ≡ R.includes → k ≡ g.nodes
    → AreRows M k n first → AreRows M R.includes.nodes n first
rows_of M R g k n first e count rows = subst (λ m. AreRows M m n first) (count ∙ ap (λ h. h.nodes) e) rows

-- and edges join them
inside_of : (R : Relations) (g : Digraph) (k : ℕ) → g ≡ R.includes → k ≡ g.nodes → All (JoinsNodes k) g.edges
    → All (JoinsNodes R.includes.nodes) R.includes.edges
inside_of R g k e count inside = subst (λ h. All (JoinsNodes h.nodes) h.edges) e
    (subst (λ m. All (JoinsNodes m) g.edges) count inside)

-- the last of the numbers is how many rows there are
last_is : (M : Lr0Automaton) (nodes n : ℕ) (first : List ℕ) (i x : ℕ) → AreRows M nodes n first → i ≡ n
    → x ≡ slice_index_or first i x → slice_index_or first n 0 ≡ x
last_is M nodes n first i x rows e is =
    let long = rows.long in
    ap (λ k. slice_index_or first k 0) (sym e) ∙ read_is first i x 0 (omega (arith, long, e)) is

pub follow_sets-requires-clause-room : goal.follow_sets-requires-clause-room
follow_sets-requires-clause-room c =
    let M = c.args.lr0.now in
    let R = c.in_ok-relations.relations in
    let first = c.in_ok-first.first.items in
    let rows = rows_of M R c.includes.result.now c.nodes.result (length M.states) first c.includes.ensures
    c.nodes.ensures.count c.in_ok-first.ensures in
    let last = last_is M R.includes.nodes (length M.states) first c.states.result c.index.result.now rows
    c.states.ensures.count c.index.ensures in
    let le = rows_count M c.states.ensures.lawful R c.in_ok-relations.ensures first rows in
    omega (arith, last, le)

pub returns : goal.returns
returns c =
    let M = c.args.lr0.now in
    let R = c.in_ok-relations.relations in
    let first = c.in_ok-first.first.items in
    let rows = rows_of M R c.includes.result.now c.nodes.result (length M.states) first c.includes.ensures
    c.nodes.ensures.count c.in_ok-first.ensures in
    let inside = inside_of R c.includes.result.now c.nodes.result c.includes.ensures c.nodes.ensures.count
    c.nodes.ensures.inside in
    let last = last_is M R.includes.nodes (length M.states) first c.states.result c.index.result.now rows
    c.states.ensures.count c.index.ensures in
    let old = c.in_ok-sets.sets.sets in
    let new = c.look_back.new.sets.sets in
    are_lookaheads M c.states.ensures.lawful R c.in_ok-relations.ensures first rows inside old new
    c.in_ok-sets.ensures.follows
    (subst (λ f. AreLookedBack M f R.lookbacks old new) c.deref.ensures.value c.in_ok-look_back.ensures.united)
    (c.in_ok-look_back.ensures.rows ∙ (c.in_ok-sets.ensures.rows ∙ sym last))
