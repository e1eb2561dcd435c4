-- The strings that meet the demand with which a search begins are the examples of its conflict.
use Rattle.std.proofs.Common.{refl, length}
use Rattle.std.proofs.Common.{◌≡◌, ◌∙◌, inl, inr, ℕ, ◌≤◌, List, ◌∷◌, sym, subst, Some, None}
use Rattle.ly_join.specs.Grammar.{Grammar, IsRule, GrammarRule, Symbol, terminal}
use Rattle.ly_grammar.specs.Items.{IsNextSymbol, Merges}
use Rattle.ly_grammar.proofs.ItemLemmas.{body_of}
use Rattle.ly_lr0.specs.Automaton.{Lr0Automaton, IsLr0Automaton, Reaches, goto_of}
use Rattle.ly_resolve.specs.Actions.{Action, IsAction, IsRaw, Judge, error, reduce, shift}
use Rattle.ly_resolve.specs.Actions.{to_reduce, to_shift, unsettled}
use Rattle.ly_resolve.specs.Conflicts.{Conflict, CountsAs, IsConflict, Kind, reduce_reduce, shift_reduce}
use Rattle.ly_counterexamples.specs.Demands.{LeadsTo, at_start, by_step}
use Rattle.ly_counterexamples.specs.Laws.{ConflictsOpen, ExamplesFollow, ShiftsHaveExamples}
use Rattle.ly_counterexamples.specs.Examples.{IsExample, IsPlaceOf, IsPossible, rival}
use Rattle.ly_counterexamples.specs.declared.claim.Claim.{Claim}
use Rattle.ly_counterexamples.specs.declared.claim.Claim.TheVariants.{Settled, With}
use Rattle.ly_counterexamples.specs.declared.claim.Demand.{Demand}
use Rattle.ly_counterexamples.specs.Openings.{ClaimsAction, ClaimsWhole, Opens}
use Rattle.ly_counterexamples.specs.Private.Met.{IsMet, IsProper, IsTrueIn}
use Rattle.ly_counterexamples.proofs.AtLemmas.{at_of_complete, complete_of_at}
use Rattle.ly_counterexamples.proofs.StepLemmas.{settles, step_met}

module _ (M : Lr0Automaton) (is : IsLr0Automaton M) (t : ℕ) where
  whole_proper : (p : ℕ) (c : Claim) → ClaimsWhole M.grammar p c → IsProper c
  whole_proper p c whole = subst (IsProper) (sym whole.claim) whole.some

  whole_possible : (g : List Symbol) (p : ℕ) (c : Claim) → ClaimsWhole M.grammar p c
      → (n : ℕ) × IsTrueIn M.grammar t n g c → IsPossible M.grammar g t (reduce p)
  whole_possible g p c whole true_here =
      let at = subst (λ d. (n : ℕ) × IsTrueIn M.grammar t n g d) whole.claim true_here in
      complete_of_at p whole.dot whole.rule is.augmented whole.is_rule whole.end at.1

  possible_whole : (g : List Symbol) (p : ℕ) (c : Claim) → ClaimsWhole M.grammar p c
      → IsPossible M.grammar g t (reduce p) → (n : ℕ) × IsTrueIn M.grammar t n g c
  possible_whole g p c whole possible =
      subst (λ d. (n : ℕ) × IsTrueIn M.grammar t n g d) (sym whole.claim)
      (at_of_complete p whole.dot whole.rule whole.is_rule whole.end possible)

  action_proper : (prefix : List Symbol) (a : Action) (c : Claim) → ClaimsAction M.grammar prefix t a c
      → IsProper c
  action_proper prefix shift c claims = subst (IsProper) (sym claims.0) tt
  action_proper prefix (reduce p) c claims = whole_proper p c claims
  action_proper prefix error c claims = absurd claims

  action_possible : (prefix g : List Symbol) (a : Action) (c : Claim) → Merges M.grammar prefix g
      → ClaimsAction M.grammar prefix t a c → (n : ℕ) × IsTrueIn M.grammar t n g c → IsPossible M.grammar g t a
  action_possible prefix g shift c merges claims true_here =
      let i = claims.1 in
      (i.0, i.1, i.2, (merges.cores i.0 i.1 (terminal t ∷ i.2)).0 i.3)
  action_possible prefix g (reduce p) c merges claims true_here = whole_possible g p c claims true_here
  action_possible prefix g error c merges claims true_here = absurd claims

  possible_action : (prefix g : List Symbol) (a : Action) (c : Claim) → ClaimsAction M.grammar prefix t a c
      → IsPossible M.grammar g t a → (n : ℕ) × IsTrueIn M.grammar t n g c
  possible_action prefix g shift c claims possible =
      subst (λ d. (n : ℕ) × IsTrueIn M.grammar t n g d) (sym claims.0) (0, tt)
  possible_action prefix g (reduce p) c claims possible = possible_whole g p c claims possible
  possible_action prefix g error c claims possible = absurd claims

-- a string that leads to the state of the demand has the core of the conflict's prefix
merges_there : (M : Lr0Automaton) → IsLr0Automaton M → (c : Conflict) (d : Demand) (g : List Symbol) → Opens M c d
    → Reaches (goto_of M) 0 g d.state.0 → Merges M.grammar c.prefix g
merges_there M is c d g opens leads = record {
  left = is.cores.only c.prefix d.state.0 opens.leads;
  right = is.cores.only g d.state.0 leads;
  cores = is.cores.same c.prefix g d.state.0 opens.leads leads;
}

-- where a demand for its rule alone is met, that is possible
pub place_of_rule : (M : Lr0Automaton) → IsLr0Automaton M → (c : Conflict) (d e : Demand) (g : List Symbol)
    → Opens M c d → e.state ≡ d.state → e.first ≡ d.first → IsMet M c.terminal g e
    → IsPlaceOf M.grammar c (reduce c.rule) g
place_of_rule M is c d e g opens state first met = record {
  merges = merges_there M is c d g opens (subst (λ s. Reaches (goto_of M) 0 g s.0) state met.leads);
  possible = whole_possible M is c.terminal g c.rule d.first opens.first
      (subst (λ f. (n : ℕ) × IsTrueIn M.grammar c.terminal n g f) first met.first);
}

-- and where one for its rival alone is met, that is
pub place_of_rival : (M : Lr0Automaton) → IsLr0Automaton M → (c : Conflict) (d e : Demand) (g : List Symbol)
    → Opens M c d → e.state ≡ d.state → e.second ≡ d.second → IsMet M c.terminal g e
    → IsPlaceOf M.grammar c (rival c.kind c.choice) g
place_of_rival M is c d e g opens state second met =
    let merges = merges_there M is c d g opens (subst (λ s. Reaches (goto_of M) 0 g s.0) state met.leads) in
    record {
      merges = merges;
      possible = action_possible M is c.terminal c.prefix g (rival c.kind c.choice) d.second merges opens.second
          (subst (λ f. (n : ℕ) × IsTrueIn M.grammar c.terminal n g f) second met.second);
    }

-- what meets the demand is an example
pub example_of_met : (M : Lr0Automaton) → IsLr0Automaton M → (c : Conflict) (d : Demand) (g : List Symbol) → Opens M c d
    → IsMet M c.terminal g d → IsExample M.grammar c g
example_of_met M is c d g opens met =
    let merges : Merges M.grammar c.prefix g = record {
      left = is.cores.only c.prefix d.state.0 opens.leads;
      right = is.cores.only g d.state.0 met.leads;
      cores = is.cores.same c.prefix g d.state.0 opens.leads met.leads;
    } in
    record {
      merges = merges;
      rule = whole_possible M is c.terminal g c.rule d.first opens.first met.first;
      rival = action_possible M is c.terminal c.prefix g (rival c.kind c.choice) d.second merges opens.second
          met.second;
    }

-- and an example meets it
pub met_of_example : (M : Lr0Automaton) → IsLr0Automaton M → (c : Conflict) (d : Demand) (g : List Symbol) → Opens M c d
    → IsExample M.grammar c g → IsMet M c.terminal g d
met_of_example M is c d g opens example =
    let there = is.cores.has g example.merges.right in
    let same : d.state.0 ≡ there.0
    = is.cores.one c.prefix g d.state.0 there.0 opens.leads there.1 example.merges.cores in
    record {
      leads = subst (Reaches (goto_of M) 0 g) (sym same) there.1;
      first = possible_whole M is c.terminal g c.rule d.first opens.first example.rule;
      second = possible_action M is c.terminal c.prefix g (rival c.kind c.choice) d.second opens.second example.rival;
    }

pub opening_proper : (M : Lr0Automaton) → IsLr0Automaton M → (c : Conflict) (d : Demand) → Opens M c d
    → IsProper d.first × IsProper d.second
opening_proper M is c d opens = (
  whole_proper M is c.terminal c.rule d.first opens.first,
  action_proper M is c.terminal c.prefix (rival c.kind c.choice) d.second opens.second,
)

-- A rule that is asked for is one of the grammar's.
pub record IsAskedRule (G : Grammar) (p : ℕ) : Type 0 where
  pub some : 1 ≤ p
  pub rule : GrammarRule
  pub is_rule : IsRule G p rule

pub asked_rule : (G : Grammar) (g : List Symbol) (t p : ℕ) → IsRaw G g t (reduce p) → IsAskedRule G p
asked_rule G g t p (some, asked) =
    let b = body_of asked.valid in
    record { some = some; rule = b.0; is_rule = b.1 }

-- the rule of a conflict is one
pub conflict_rule : (G : Grammar) (judge : Judge) (c : Conflict) → IsConflict G judge c → IsAskedRule G c.rule
conflict_rule G judge c is = of_kind c.kind is.counted where
  of_kind : (k : Kind) → CountsAs (IsRaw G c.prefix c.terminal) (λ p. judge p c.terminal) k c.rule
      → IsAskedRule G c.rule
  of_kind shift_reduce counted = asked_rule G c.prefix c.terminal c.rule counted.1
  of_kind reduce_reduce counted = asked_rule G c.prefix c.terminal c.rule counted.0.0

-- What stands against the rule of a conflict: a shift that is asked for, or a rule.
abbrev pub IsAskedRival : Grammar → List Symbol → ℕ → Action → Type 0
IsAskedRival G g t shift = IsNextSymbol G g (terminal t)
IsAskedRival G g t (reduce p) = IsAskedRule G p
IsAskedRival G g t error = ⊥

pub conflict_rival : (G : Grammar) (judge : Judge) (c : Conflict) → IsConflict G judge c
    → IsAskedRival G c.prefix c.terminal (rival c.kind c.choice)
conflict_rival G judge c is = of_kind c.kind c.choice is.counted is.choice where
  of_kind : (k : Kind) (a : Action) → CountsAs (IsRaw G c.prefix c.terminal) (λ p. judge p c.terminal) k c.rule
      → IsAction G judge c.prefix c.terminal a → IsAskedRival G c.prefix c.terminal (rival k a)
  of_kind shift_reduce a counted done = counted.0
  of_kind reduce_reduce (reduce q) counted done = asked_rule G c.prefix c.terminal q done.0.0
  of_kind reduce_reduce shift counted done =
      let verdict = counted.0.1 done.0 in
      absurd (elim (done.1 c.rule counted.0.0) [
        | inl for_shift ↦ let no : to_shift ≡ to_reduce = sym for_shift ∙ verdict in cc
        | inr nothing ↦ let no : unsettled ≡ to_reduce = sym nothing ∙ verdict in cc
      ])
  of_kind reduce_reduce error counted done = absurd (done.1 c.rule counted.0.0 (counted.0.1 done.0))

-- what follows from a demand, and the string that meets it, meet the first demand
follows_met : (M : Lr0Automaton) (is : IsLr0Automaton M) (t : ℕ) (from d : Demand) (g : List Symbol)
    → LeadsTo M t from d
    → IsMet M t g d → (h : List Symbol) × IsMet M t h from
follows_met M is t from d g at_start met = (g, met)
follows_met M is t from d g (by_step {d = e} popped follows step) met =
    follows_met M is t from e _ follows (step_met M is t popped e d g step met)

-- A conflict has an example exactly where a demand follows that claims nothing more, in a state.
pub examples_follow : ExamplesFollow
examples_follow M c d is opens = (
  λ (g, example).
      let proper = opening_proper M is c d opens in
      let s = settles M is c.terminal (LeadsTo M c.terminal d) (λ a b f step. by_step None f step)
      (λ X a b f step. by_step (Some X) f step) d g at_start proper.0 proper.1
      (met_of_example M is c d g opens example) in
      (s.demand, s.among, s.first, s.second, s.string, s.leads),
  λ (e, follows, first, second, h, leads).
      let met : IsMet M c.terminal h e = record {
        leads = leads;
        first = subst (λ a. (n : ℕ) × IsTrueIn M.grammar c.terminal n h a) (sym first) (0, tt);
        second = subst (λ a. (n : ℕ) × IsTrueIn M.grammar c.terminal n h a) (sym second) (0, tt);
      } in
      let back = follows_met M is c.terminal d e h follows met in
      (back.0, example_of_met M is c d back.0 opens back.1),
)

-- the claim that a rule, complete, is valid with the terminal
whole_claims : (G : Grammar) (p : ℕ) (a : IsAskedRule G p) → (c : Claim) × ClaimsWhole G p c
whole_claims G p a = (
  With (record { rule = p; dot = length a.rule.body }),
  record {
    some = a.some;
    rule = a.rule;
    is_rule = a.is_rule;
    dot = length a.rule.body;
    end = refl;
    claim = refl;
  },
)

action_claims : (G : Grammar) (prefix : List Symbol) (t : ℕ) (a : Action) → IsAskedRival G prefix t a
    → (c : Claim) × ClaimsAction G prefix t a c
action_claims G prefix t shift asked = (Settled, (refl, asked))
action_claims G prefix t (reduce p) asked = whole_claims G p asked
action_claims G prefix t error asked = absurd asked

-- each conflict has a demand on its examples
pub conflicts_open : ConflictsOpen
conflicts_open M judge c is conflict =
    let there = is.cores.has c.prefix conflict.least.0 in
    let first = whole_claims M.grammar c.rule (conflict_rule M.grammar judge c conflict) in
    let second = action_claims M.grammar c.prefix c.terminal (rival c.kind c.choice)
    (conflict_rival M.grammar judge c conflict) in (
      record { state = record { 0 = there.0 }; first = first.0; second = second.0 },
      record { leads = there.1; first = first.1; second = second.1 },
    )

-- a shift against a reduction has an example
pub shifts_have_examples : ShiftsHaveExamples
shifts_have_examples G judge c conflict kind = of_kind c.kind kind conflict.counted where
  of_kind : (k : Kind) → k ≡ shift_reduce
      → CountsAs (IsRaw G c.prefix c.terminal) (λ p. judge p c.terminal) k c.rule → (g : List Symbol) × IsExample G c g
  of_kind reduce_reduce other counted = absurd (cc)
  of_kind shift_reduce same counted =
      let asked = counted.1.1 in
      let i = counted.0 in
      let next : IsNextSymbol G asked.at (terminal c.terminal)
      = (i.0, i.1, i.2, (asked.merges.cores i.0 i.1 (terminal c.terminal ∷ i.2)).0 i.3) in (
        asked.at,
        record {
          merges = asked.merges;
          rule = (asked.before, asked.valid);
          rival = subst (λ k. IsPossible G asked.at c.terminal (rival k c.choice)) (sym kind) next;
        },
      )
