-- The demand on the examples of a conflict, and what is answered of the conflict.
use Rattle.std.proofs.Common.{◌≡◌, ℕ, ◌<◌, ◌≤◌, List, refl, sym, ap, subst, length}
use Rattle.std.specs.Prelude.{Contains}
use Rattle.ly_base.specs.declared.numbers.RuleNo.{RuleNo}
use Rattle.ly_join.specs.Grammar.{Grammar, IsRule, GrammarRule, Symbol}
use Rattle.ly_lr0.specs.Automaton.{Lr0Automaton, IsLr0Automaton, prefix_of}
use Rattle.ly_grammar.specs.Reduction.{KeepsUseful}
use Rattle.ly_resolve.specs.Conflicts.{Conflict, IsConflict}
use Rattle.ly_resolve.specs.Precedence.{judge_of}
use Rattle.ly_resolve.specs.Resolved.{AreResolved, Resolved}
use Rattle.ly_resolve.specs.Values.{action_from, conflict_from, kind_from}
use Rattle.ly_resolve.specs.declared.action.Action as action
use Rattle.ly_resolve.specs.declared.action.Action.TheVariants.{Error, Reduce, Shift}
use Rattle.ly_resolve.specs.declared.conflict.Conflict as conflict
use Rattle.ly_resolve.specs.declared.conflict.ConflictKind as kind
use Rattle.ly_resolve.specs.declared.conflict.ConflictKind.TheVariants.{ReduceReduce, ShiftReduce}
use Rattle.ly_counterexamples.specs.Examples.{rival}
use Rattle.ly_counterexamples.specs.Openings.{ClaimsAction, ClaimsWhole, Opens}
use Rattle.ly_lr0.specs.declared.item.Item.{Item}
use Rattle.ly_counterexamples.specs.declared.claim.Claim.{Claim}
use Rattle.ly_counterexamples.specs.declared.claim.Claim.TheVariants.{Settled, With}
use Rattle.ly_counterexamples.specs.declared.claim.Demand.{Demand}
use Rattle.ly_counterexamples.specs.Private.Opening.{ClaimsRival}
use Rattle.ly_counterexamples.specs.Examples.{IsExample}
use Rattle.ly_counterexamples.specs.Private.Met.{IsMet}
use Rattle.ly_counterexamples.proofs.ExampleLemmas.{IsAskedRival, IsAskedRule, conflict_rival, conflict_rule}
use Rattle.ly_counterexamples.proofs.ExampleLemmas.{example_of_met, met_of_example}

-- the item of a rule with its dot at the end
pub whole_claim : (G : Grammar) (p : ℕ) → 1 ≤ p → (i : Item) → i.rule ≡ p
    → (x : GrammarRule) × IsRule G p x × (i.dot ≡ length x.body) → ClaimsWhole G p (With i)
whole_claim G p some i rule (x, is, end) = record {
  some = some;
  rule = x;
  is_rule = is;
  dot = i.dot;
  end = end;
  claim = ap (λ n. With (record { rule = n; dot = i.dot })) rule;
}

-- a rule that is kept is the specification's
pub rule_within : (G R : Grammar) → KeepsUseful G R → (p : ℕ) (x : GrammarRule) → IsRule R p x → IsRule G p x
rule_within G R keeps p x is = ((keeps.rules p x).0 is).0

-- what stands against a rule, by what is counted and what is chosen
rival_rule_of : (G : Grammar) (g : List Symbol) (t : ℕ) (p : RuleNo) (k : kind.ConflictKind) (a : action.Action)
    → k ≡ ReduceReduce → a ≡ Reduce p → IsAskedRival G g t (rival (kind_from k) (action_from a)) → IsAskedRule G p.0
rival_rule_of G g t p ReduceReduce (Reduce q) e f asked =
    let same : q ≡ p = cc in subst (λ n. IsAskedRule G n.0) same asked
rival_rule_of G g t p ReduceReduce Shift e f asked = absurd (cc)
rival_rule_of G g t p ReduceReduce Error e f asked = absurd (cc)
rival_rule_of G g t p ShiftReduce a e f asked = absurd (cc)

rival_claim_of : (G : Grammar) (g : List Symbol) (t : ℕ) (p : RuleNo) (claim : Claim) (k : kind.ConflictKind)
    (a : action.Action) → k ≡ ReduceReduce → a ≡ Reduce p → ClaimsWhole G p.0 claim
    → ClaimsAction G g t (rival (kind_from k) (action_from a)) claim
rival_claim_of G g t p claim ReduceReduce (Reduce q) e f whole =
    let same : p ≡ q = cc in subst (λ n. ClaimsWhole G n.0 claim) same whole
rival_claim_of G g t p claim ReduceReduce Shift e f whole = absurd (cc)
rival_claim_of G g t p claim ReduceReduce Error e f whole = absurd (cc)
rival_claim_of G g t p claim ShiftReduce a e f whole = absurd (cc)

settled_of : (G : Grammar) (g : List Symbol) (t : ℕ) (k : kind.ConflictKind) (a : action.Action)
    → (k ≡ ReduceReduce → (p : RuleNo) → a ≡ Reduce p → ⊥)
    → IsAskedRival G g t (rival (kind_from k) (action_from a))
    → ClaimsAction G g t (rival (kind_from k) (action_from a)) Settled
settled_of G g t ShiftReduce a none asked = (refl, asked)
settled_of G g t ReduceReduce Shift none asked = (refl, asked)
settled_of G g t ReduceReduce (Reduce p) none asked = absurd (none refl p refl)
settled_of G g t ReduceReduce Error none asked = absurd asked

-- A conflict of those that were counted.
module _ (r : Resolved) (are : AreResolved r.spec r.automaton r) (c : conflict.Conflict)
    (among : Contains r.conflicts (conflict_from r.automaton c)) where
  is_conflict : IsConflict r.automaton.grammar (judge_of r.spec) (conflict_from r.automaton c)
  is_conflict = (are.conflicts.are (conflict_from r.automaton c)).0 among

  asked_rule_of : IsAskedRule r.automaton.grammar c.rule.0
  asked_rule_of = conflict_rule r.automaton.grammar (judge_of r.spec) (conflict_from r.automaton c) is_conflict

  asked_rival_of : IsAskedRival r.automaton.grammar (prefix_of r.automaton c.state.0) c.terminal.0
      (rival (kind_from c.kind) (action_from c.choice))
  asked_rival_of = conflict_rival r.automaton.grammar (judge_of r.spec) (conflict_from r.automaton c) is_conflict

  pub rule_there : (x : GrammarRule) × IsRule r.automaton.grammar c.rule.0 x
  rule_there = (asked_rule_of.rule, asked_rule_of.is_rule)

  pub rival_there : (p : RuleNo) → c.kind ≡ ReduceReduce → c.choice ≡ Reduce p
      → (x : GrammarRule) × IsRule r.automaton.grammar p.0 x
  rival_there p e f =
      let a = rival_rule_of r.automaton.grammar (prefix_of r.automaton c.state.0) c.terminal.0 p c.kind c.choice e f
      asked_rival_of in
      (a.rule, a.is_rule)

  pub rival_whole : (p : RuleNo) (i : Item) → c.kind ≡ ReduceReduce → c.choice ≡ Reduce p → i.rule ≡ p.0
      → (x : GrammarRule) × IsRule r.automaton.grammar p.0 x × (i.dot ≡ length x.body)
      → ClaimsRival r.automaton (conflict_from r.automaton c) (With i)
  rival_whole p i e f rule end =
      let a = rival_rule_of r.automaton.grammar (prefix_of r.automaton c.state.0) c.terminal.0 p c.kind c.choice e f
      asked_rival_of in
      rival_claim_of r.automaton.grammar (prefix_of r.automaton c.state.0) c.terminal.0 p (With i) c.kind c.choice e f
      (whole_claim r.automaton.grammar p.0 a.some i rule end)

  pub rival_settled : (c.kind ≡ ReduceReduce → (p : RuleNo) → c.choice ≡ Reduce p → ⊥)
      → ClaimsRival r.automaton (conflict_from r.automaton c) Settled
  rival_settled none = settled_of r.automaton.grammar (prefix_of r.automaton c.state.0) c.terminal.0 c.kind c.choice
      none asked_rival_of

  pub opens : IsLr0Automaton r.automaton → c.state.0 < length r.automaton.states → (i : Item) (second : Claim)
      → i.rule ≡ c.rule.0 → (x : GrammarRule) × IsRule r.automaton.grammar c.rule.0 x × (i.dot ≡ length x.body)
      → ClaimsRival r.automaton (conflict_from r.automaton c) second
      → Opens r.automaton (conflict_from r.automaton c)
      (record { state = c.state; first = With i; second = second })
  opens is within i second rule end claims = record {
    leads = is.numbered.leads c.state.0 within;
    first = whole_claim r.automaton.grammar c.rule.0 asked_rule_of.some i rule end;
    second = claims;
  }

-- a string that was found is an example, and there is none where no string is found
pub found_example : (M N : Lr0Automaton) → N ≡ M → IsLr0Automaton N → (c : Conflict) (d : Demand) (g : List Symbol)
    → Opens M c d → IsMet N c.terminal g d → IsExample M.grammar c g
found_example M N e is c d g opens met =
    example_of_met M (subst IsLr0Automaton e is) c d g opens (subst (λ A. IsMet A c.terminal g d) e met)

pub no_example : (M N : Lr0Automaton) → N ≡ M → IsLr0Automaton N → (c : Conflict) (d : Demand) → Opens M c d
    → ((g : List Symbol) → IsMet N c.terminal g d → ⊥) → (g : List Symbol) → IsExample M.grammar c g → ⊥
no_example M N e is c d opens none g example =
    none g (subst (λ A. IsMet A c.terminal g d) (sym e)
    (met_of_example M (subst IsLr0Automaton e is) c d g opens example))
