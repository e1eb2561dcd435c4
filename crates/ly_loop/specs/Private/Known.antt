-- What is known of the runs of edges.
use Rattle.std.specs.Prelude.{◌≡◌, ◌⊎◌, ℕ, ◌+◌, ◌<◌, ◌≤◌, List, [], Option, None, Some, All, IfSome, slice_get}
use Rattle.std.specs.BTreeMap.{BTreeMap}
use Rattle.std.specs.BTreeMap as tree
use Rattle.std.specs.Global.{Vec}
use Rattle.ly_base.specs.declared.numbers.RuleNo.{RuleNo}
use Rattle.ly_pack.specs.Machine.{Machine, states_of}
use Rattle.ly_pack.specs.Steady.{run_bound}
use Rattle.ly_loop.specs.Private.Pairs.{pair_cmp}
use Rattle.ly_loop.specs.Private.Summary.{IsSummary}
use Rattle.ly_loop.specs.declared.known.Edge.{Edge}
use Rattle.ly_loop.specs.declared.known.Lookup.{Lookup}
use Rattle.ly_loop.specs.declared.known.Lookup.TheVariants.{Known, Unknown, Wanted}
use Rattle.ly_loop.specs.declared.known.Pending.{Pending}
use Rattle.ly_loop.specs.declared.summary.Ending.TheVariants.{Over}
use Rattle.ly_loop.specs.declared.summaries.Summaries.{Summaries}
use Rattle.ly_loop.specs.declared.summary.Summary.{Summary}
use Rattle.ly_loop.specs.declared.tokens.Tokens.{Tokens}

-- summaries, by the states of their edges
abbrev pub Kept : Type 0
Kept = BTreeMap (ℕ × ℕ) (Option Summary)

-- what is kept for an edge, if anything is
abbrev pub kept_at : Kept → ℕ × ℕ → Option (Option Summary)
kept_at kept edge = tree.get pair_cmp kept edge

-- the summaries that are kept are true, on these terminals
abbrev pub AreTrue : Machine → Tokens → Kept → Type 0
AreTrue m k kept = (below top : ℕ) (o : Summary) → kept_at kept (below, top) ≡ Some (Some o)
    → IsSummary m k below top o

-- so are those of the edges above one state, and of others
abbrev pub AreKnown : Machine → Tokens → Summaries → Type 0
AreKnown m k summaries = AreTrue m k summaries.own × AreTrue m k summaries.others

-- summaries that were true are so with those that are kept now
abbrev pub IsNoMore : Summaries → Summaries → Type 0
IsNoMore old new = (m : Machine) (k : Tokens) → AreKnown m k old → AreKnown m k new

-- and with one of an edge that is true
abbrev pub IsPut : Summaries → Summaries → Edge → Option Summary → Type 0
IsPut old new edge found = (m : Machine) (k : Tokens) → AreKnown m k old
    → IfSome found (IsSummary m k edge.below.0 edge.top.0) → AreKnown m k new

-- a summary is kept for an edge
abbrev pub IsAmongKept : Summaries → Edge → Summary → Type 0
IsAmongKept summaries edge o = (kept_at summaries.own (edge.below.0, edge.top.0) ≡ Some (Some o))
    ⊎ (kept_at summaries.others (edge.below.0, edge.top.0) ≡ Some (Some o))

-- the states of an edge are there
abbrev pub IsWithinStates : Machine → Edge → Type 0
IsWithinStates m edge = (edge.below.0 < states_of m) × (edge.top.0 < states_of m)

-- the edges that are sought are there
abbrev pub ArePending : Machine → List Pending → Type 0
ArePending m agenda = All (λ p. IsWithinStates m p.edge) agenda

-- what is looked up: a summary of which something is true, or an edge that is wanted first
abbrev pub IsLookup : Machine → (Summary → Type 0) → Lookup → Type 0
IsLookup m P (Known o) = P o
IsLookup m P Unknown = Unit {0}
IsLookup m P (Wanted edge) = IsWithinStates m edge

-- a known summary makes no more reductions than are allowed
abbrev pub IsLow : Lookup → Type 0
IsLow (Known o) = o.most ≤ run_bound
IsLow _ = Unit {0}

-- the same with so many reductions before, where it is known
abbrev pub IsLonger : ℕ → Lookup → Lookup → Type 0
IsLonger made (Known o) (Known p) = (p.most ≡ made + o.most) × (p.most ≤ run_bound) × (p.ending ≡ o.ending)
IsLonger made (Known o) Unknown = Unit {0}
IsLonger made (Known o) (Wanted edge) = ⊥
IsLonger made Unknown found = found ≡ Unknown
IsLonger made (Wanted edge) found = found ≡ Wanted edge

-- what is looked up: runs that end at once, above a state that doesn't reduce, or what is kept
abbrev pub IsKept : List (Vec RuleNo) → Summaries → Edge → Lookup → Type 0
IsKept reductions summaries edge (Known o) =
    ((row : Vec RuleNo) × (slice_get reductions edge.top.0 ≡ Some row) × (row.items ≡ []) × (o.most ≡ 0)
    × (o.ending ≡ Over)) ⊎ IsAmongKept summaries edge o
IsKept reductions summaries edge Unknown = Unit {0}
IsKept reductions summaries edge (Wanted wanted) = wanted ≡ edge

-- the summary, if it is known
abbrev pub IsSummaryOf : Lookup → Option Summary → Type 0
IsSummaryOf (Known o) found = found ≡ Some o
IsSummaryOf _ found = found ≡ None
