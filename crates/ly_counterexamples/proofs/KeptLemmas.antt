-- The states and items of demands that follow from a demand are there where its own are.
use Rattle.std.proofs.Common.{inl, inr, ℕ, ◌<◌, List, Option, Some, None}
use Rattle.std.proofs.Common.{sym, ap, subst, arith, length}
use Rattle.std.proofs.lemmas.List.{length-drop}
use Rattle.std.proofs.lemmas.Option.{slice_get_within}
use Rattle.ly_join.specs.Grammar.{Grammar, Symbol}
use Rattle.ly_lr0.specs.Automaton.{Lr0Automaton}
use Rattle.ly_lr0.proofs.StateLemmas.{goto_some}
use Rattle.ly_counterexamples.specs.Demands.{ClimbsTo, IsAhead, IsStep, PopsTo}
use Rattle.ly_lr0.specs.declared.item.Item.{Item}
use Rattle.ly_counterexamples.specs.declared.claim.Claim.{Claim}
use Rattle.ly_counterexamples.specs.declared.claim.Claim.TheVariants.{InCore, Settled, With}
use Rattle.ly_counterexamples.specs.declared.claim.Demand.{Demand}
use Rattle.ly_counterexamples.specs.Private.Kept.{IsKeptClaim, IsKeptDemand, IsKeptItem}

-- an item with a symbol behind its dot is there
ahead_kept : (G : Grammar) (i : Item) (X : Symbol) (rest : List Symbol) → IsAhead G i X rest → IsKeptItem G i
ahead_kept G i X rest a =
    (a.rule, a.is_rule, omega (arith, ap length a.ahead, length-drop i.dot a.rule.body))

climbs_kept : (M : Lr0Automaton) (t s : ℕ) (c e : Claim) → ClimbsTo M t s c e → IsKeptClaim M.grammar e
climbs_kept M t s c Settled climbs = tt
climbs_kept M t s (With q) (InCore i) (dot, rest, (r, rule, ahead), begins) = ahead_kept M.grammar i _ rest ahead
climbs_kept M t s (With q) (With i) (dot, rest, (r, rule, ahead), null) = ahead_kept M.grammar i _ rest ahead
climbs_kept M t s (InCore q) (InCore i) climbs = absurd climbs
climbs_kept M t s (InCore q) (With i) climbs = absurd climbs
climbs_kept M t s Settled (InCore i) climbs = absurd climbs
climbs_kept M t s Settled (With i) climbs = absurd climbs

pops_kept : (G : Grammar) (X : Symbol) (c e : Claim) → PopsTo G X c e → IsKeptClaim G e
pops_kept G X c Settled pops = tt
pops_kept G X (InCore i) (InCore j) (rule, dot, rest, ahead) = ahead_kept G j X rest ahead
pops_kept G X (With i) (With j) (rule, dot, rest, ahead) = ahead_kept G j X rest ahead
pops_kept G X Settled (InCore j) pops = absurd pops
pops_kept G X Settled (With j) pops = absurd pops
pops_kept G X (InCore i) (With j) pops = absurd pops
pops_kept G X (With i) (InCore j) pops = absurd pops

pub step_kept : (M : Lr0Automaton) (t : ℕ) (popped : Option Symbol) (d e : Demand) → IsStep M t popped d e
    → IsKeptDemand M d → IsKeptDemand M e
step_kept M t None d e (state, inl (climbs, second)) kept = record {
  state = subst (λ s. s.0 < length M.states) (sym state) kept.state;
  first = climbs_kept M t d.state.0 d.first e.first climbs;
  second = subst (IsKeptClaim M.grammar) (sym second) kept.second;
}
step_kept M t None d e (state, inr (climbs, first)) kept = record {
  state = subst (λ s. s.0 < length M.states) (sym state) kept.state;
  first = subst (IsKeptClaim M.grammar) (sym first) kept.first;
  second = climbs_kept M t d.state.0 d.second e.second climbs;
}
step_kept M t (Some X) d e (goes, first, second) kept = record {
  state =
      let q = goto_some M.states e.state.0 X d.state.0 goes in slice_get_within M.states e.state.0 q.0 q.1;
  first = pops_kept M.grammar X d.first e.first first;
  second = pops_kept M.grammar X d.second e.second second;
}
