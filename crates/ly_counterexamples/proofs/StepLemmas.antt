-- A demand is met by the demands that it leads to, and by nothing else.
use Rattle.std.proofs.Common.{◌≡◌, ◌∙◌, inl, inr, ℕ, zero, suc, ◌+◌, ◌<◌, ◌≤◌, List, [], ◌∷◌, Option, Some, None}
use Rattle.std.proofs.Common.{refl, sym, ap, subst, arith, drop}
use Rattle.ly_join.specs.Grammar.{IsRule, GrammarRule, Symbol, accept_rule, nonterminal, terminal}
use Rattle.ly_grammar.specs.Derivations.{IsNullable}
use Rattle.ly_grammar.specs.Items.{InCore as IsInCore, at_start}
use Rattle.ly_grammar.proofs.ItemLemmas.{closes}
use Rattle.ly_grammar.proofs.SearchLemmas.{rule_is_one}
use Rattle.ly_lr0.specs.Automaton.{Lr0Automaton, IsLr0Automaton, Reaches, goto_of}
use Rattle.ly_relate.proofs.ReachLemmas.{Reaches_one, apart, back}
use Rattle.ly_relate.proofs.WalkLemmas.{terminal_not_nullable}
use Rattle.ly_counterexamples.specs.Demands.{ClimbsTo, IsAhead, IsBefore, IsBegun, IsClimb, IsPop, IsStep, PopsTo}
use Rattle.ly_lr0.specs.declared.item.Item.{Item}
use Rattle.ly_counterexamples.specs.declared.claim.Claim.{Claim}
use Rattle.ly_counterexamples.specs.declared.claim.Claim.TheVariants.{InCore, Settled, With}
use Rattle.ly_counterexamples.specs.declared.claim.Demand.{Demand}
use Rattle.ly_counterexamples.specs.Private.Met.{At, IsMet, IsProper, IsTrueIn, added, item_at, passed}
use Rattle.ly_counterexamples.proofs.AtLemmas.{at_first, at_of_valid, by_item, by_symbol, comes, valid_of_at}

-- a string with a symbol that was popped, or as it is
abbrev pub with_popped : Option Symbol → List Symbol → List Symbol
with_popped None g = g
with_popped (Some X) g = X ∷ g

module _ (M : Lr0Automaton) (is : IsLr0Automaton M) (t : ℕ) where
  -- rule 0 is valid where state 0 is led to
  zero_at : (g : List Symbol) → Reaches (goto_of M) 0 g 0 → (n : ℕ) × (u : ℕ) × At M.grammar n g 0 0 u
  zero_at g leads =
      let G = M.grammar in
      let w = (accept_rule G.accept G.start).body in
      let here : IsInCore G [] 0 [] w = (0, at_start is.augmented.rule_0 refl) in
      let there = ((is.cores.same g [] 0 leads refl) 0 [] w).1 here in
      let i = at_of_valid there.1 in
      (i.0, there.0, i.1)

  -- a rule is valid where its left side leaves the state
  begun_at : (g : List Symbol) (s q x : ℕ) (r : GrammarRule) → Reaches (goto_of M) 0 g s → IsRule M.grammar q r
      → goto_of M s (nonterminal r.left) ≡ Some x → (n : ℕ) × (u : ℕ) × At M.grammar n g q 0 u
  begun_at g s q x r leads rule goes =
      let viable = is.cores.only (nonterminal r.left ∷ g) x (s, leads, goes) in
      let waits = back viable.4.1 in
      let v = closes q r is.augmented is.reduced waits.valid rule refl in
      let i = at_of_valid v.1 in
      (i.0, v.0, i.1)

  -- what a claim climbs to makes it true
  climb_true : (g : List Symbol) (s : ℕ) (c e : Claim) → Reaches (goto_of M) 0 g s → ClimbsTo M t s c e
      → (n : ℕ) × IsTrueIn M.grammar t n g e → (n : ℕ) × IsTrueIn M.grammar t n g c
  climb_true g s (With q) (InCore i) leads (dot, rest, (r, rule, ahead), begins) (n, (u, at)) =
      (suc n, subst (λ d. At M.grammar (suc n) g q.rule d t) (sym dot) (added at rule ahead (inl begins)))
  climb_true g s (With q) (With i) leads (dot, rest, (r, rule, ahead), null) (n, at) =
      (suc n, subst (λ d. At M.grammar (suc n) g q.rule d t) (sym dot) (added at rule ahead (inr (null, refl))))
  climb_true g s (InCore q) Settled leads (dot, inl (zero_rule, zero_state)) true_there =
      let i = zero_at g (subst (Reaches (goto_of M) 0 g) zero_state leads) in (
        i.0,
        (
          i.1,
          subst (λ d. At M.grammar i.0 g q.rule d i.1) (sym dot)
              (subst (λ p. At M.grammar i.0 g p 0 i.1) (sym zero_rule) i.2),
        ),
      )
  climb_true g s (InCore q) Settled leads (dot, inr (r, rule, x, goes)) true_there =
      let i = begun_at g s q.rule x r leads rule goes in
      (i.0, (i.1, subst (λ d. At M.grammar i.0 g q.rule d i.1) (sym dot) i.2))
  climb_true g s (InCore q) (InCore i) leads climbs true_there = absurd climbs
  climb_true g s (InCore q) (With i) leads climbs true_there = absurd climbs
  climb_true g s (With q) Settled leads climbs true_there = absurd climbs
  climb_true g s Settled e leads climbs true_there = absurd climbs

  -- an item behind one more symbol
  passed_at : {n : ℕ} {g : List Symbol} {u : ℕ} (X : Symbol) (i j : Item) → IsBefore M.grammar X i j
      → At M.grammar n g j.rule j.dot u → At M.grammar (suc n) (X ∷ g) i.rule i.dot u
  passed_at {n} {g} {u} X i j (rule, dot, rest, ahead) at =
      subst (λ d. At M.grammar (suc n) (X ∷ g) i.rule d u) (sym dot)
      (subst (λ p. At M.grammar (suc n) (X ∷ g) p (suc j.dot) u) (sym rule) (passed at ahead))

  -- what a claim pops to makes it true
  pop_true : (g : List Symbol) (X : Symbol) (c e : Claim) → PopsTo M.grammar X c e
      → (n : ℕ) × IsTrueIn M.grammar t n g e → (n : ℕ) × IsTrueIn M.grammar t n (X ∷ g) c
  pop_true g X Settled Settled pops true_there = (0, tt)
  pop_true g X (InCore i) (InCore j) pops (n, (u, at)) = (suc n, (u, passed_at X i j pops at))
  pop_true g X (With i) (With j) pops (n, at) = (suc n, passed_at X i j pops at)
  pop_true g X Settled (InCore j) pops true_there = absurd pops
  pop_true g X Settled (With j) pops true_there = absurd pops
  pop_true g X (InCore i) Settled pops true_there = absurd pops
  pop_true g X (InCore i) (With j) pops true_there = absurd pops
  pop_true g X (With i) Settled pops true_there = absurd pops
  pop_true g X (With i) (InCore j) pops true_there = absurd pops

  -- and so the string that meets a demand meets the one from which it was found, with what was popped
  pub step_met : (popped : Option Symbol) (d e : Demand) (g : List Symbol) → IsStep M t popped d e → IsMet M t g e
      → IsMet M t (with_popped popped g) d
  step_met None d e g (state, inl (climbs, second)) met =
      let leads = subst (λ s. Reaches (goto_of M) 0 g s.0) state met.leads in
      record {
        leads = leads;
        first = climb_true g d.state.0 d.first e.first leads climbs met.first;
        second = subst (λ c. (n : ℕ) × IsTrueIn M.grammar t n g c) second met.second;
      }
  step_met None d e g (state, inr (climbs, first)) met =
      let leads = subst (λ s. Reaches (goto_of M) 0 g s.0) state met.leads in
      record {
        leads = leads;
        first = subst (λ c. (n : ℕ) × IsTrueIn M.grammar t n g c) first met.first;
        second = climb_true g d.state.0 d.second e.second leads climbs met.second;
      }
  step_met (Some X) d e g (goes, first, second) met = record {
    leads = (e.state.0, met.leads, goes);
    first = pop_true g X d.first e.first first met.first;
    second = pop_true g X d.second e.second second met.second;
  }

  -- what stands behind a nonterminal of rule 0 isn't nullable
  zero_ends : (i : Item) (r : GrammarRule) (rest : List Symbol) → i.rule ≡ 0
      → IsAhead M.grammar i (nonterminal r.left) rest → IsNullable M.grammar rest → ⊥
  zero_ends i r rest zero_rule a null =
      let one : a.rule ≡ accept_rule M.grammar.accept M.grammar.start = rule_is_one M.grammar 0 a.rule
      (accept_rule M.grammar.accept M.grammar.start) (subst (λ p. IsRule M.grammar p a.rule) zero_rule a.is_rule)
      is.augmented.rule_0 in
      at i.dot (sym (ap (λ x. drop i.dot x.body) one) ∙ a.ahead)
    where
      at : (d : ℕ) → drop d (nonterminal M.grammar.start ∷ terminal 0 ∷ []) ≡ nonterminal r.left ∷ rest → ⊥
      at zero e =
          let ends : terminal 0 ∷ [] ≡ rest = cc in
          terminal_not_nullable M.grammar 0 (subst (IsNullable M.grammar) (sym ends) null)
      at (suc zero) e = cc
      at (suc (suc zero)) e = cc
      at (suc (suc (suc d))) e = cc

  -- How a claim comes to be true.
  pub data Onward (s n : ℕ) (g : List Symbol) (c : Claim) : Type 0 where
    settled : c ≡ Settled → Onward s n g c
    up : (m : ℕ) (e : Claim) → m < n → ClimbsTo M t s c e → IsProper e → IsTrueIn M.grammar t m g e → Onward s n g c
    down : (m : ℕ) (e : Claim) (X : Symbol) (h : List Symbol) → m < n → g ≡ X ∷ h → PopsTo M.grammar X c e
        → IsProper e → IsTrueIn M.grammar t m h e → Onward s n g c

  -- a rule in the core is begun
  begun_in : (g : List Symbol) (s q m p d u : ℕ) (r : GrammarRule) (rest : List Symbol) → Reaches (goto_of M) 0 g s
      → IsRule M.grammar q r → At M.grammar m g p d u → IsAhead M.grammar (item_at p d) (nonterminal r.left) rest
      → IsBegun M s q
  begun_in g s q m p d u r rest leads rule at ahead =
      let split = valid_of_at is.augmented (passed at ahead) in
      let free = (is.cores.only g s leads).0 in
      let on = is.cores.has (nonterminal r.left ∷ g)
      ((apart, free), p, split.before, split.after, (u, split.valid)) in
      let same = Reaches_one (goto_of M) 0 g s on.1.0 leads on.1.1 in
      inr (r, rule, on.0, ap (λ z. goto_of M z (nonterminal r.left)) same ∙ on.1.2)

  onward : (s n : ℕ) (g : List Symbol) (c : Claim) → Reaches (goto_of M) 0 g s → IsProper c
      → IsTrueIn M.grammar t n g c → Onward s n g c
  onward s n g Settled leads proper true_here = settled refl
  onward s n g (InCore i) leads proper (u, at) = elim (comes at) [
    | at_first one p d empty ↦
        up 0 Settled (omega (arith, one))
        (d, inl (p, Reaches_one (goto_of M) 0 [] s 0 (subst (λ w. Reaches (goto_of M) 0 w s) empty leads) refl)) tt tt
    | by_item m q e v r rest less d before rule ahead first ↦
        up 0 Settled (omega (arith, less)) (d, begun_in g s i.rule m q e v r rest leads rule before ahead) tt tt
    | by_symbol m e X h rest less d ends before ahead ↦
        down m (InCore (item_at i.rule e)) X h (omega (arith, less)) ends (refl, d, rest, ahead) tt (u, before)
  ]
  onward s n g (With i) leads proper at = elim (comes at) [
    | at_first one p d empty ↦ absurd (omega (arith, p, proper))
    | by_item m q e u r rest less d before rule ahead first ↦ elim first [
      | inl begins ↦
          up m (InCore (item_at q e)) (omega (arith, less)) (d, rest, (r, rule, ahead), begins) tt (u, before)
      | inr null ↦ up m (With (item_at q e)) (omega (arith, less)) (d, rest, (r, rule, ahead), null.0)
          (some q (λ z. zero_ends (item_at q e) r rest z ahead null.0))
          (subst (λ w. At M.grammar m g q e w) (sym null.1) before)
    ]
    | by_symbol m e X h rest less d ends before ahead ↦
        down m (With (item_at i.rule e)) X h (omega (arith, less)) ends (refl, d, rest, ahead) proper before
  ]
    where
      some : (q : ℕ) → (q ≡ 0 → ⊥) → 1 ≤ q
      some zero never = absurd (never refl)
      some (suc q) never = omega arith

  -- the states before and behind a symbol
  before_last : (X : Symbol) (g h : List Symbol) (s : ℕ) → g ≡ X ∷ h → Reaches (goto_of M) 0 g s
      → (r : ℕ) × Reaches (goto_of M) 0 h r × (goto_of M r X ≡ Some s)
  before_last X g h s ends leads = subst (λ w. Reaches (goto_of M) 0 w s) ends leads

  -- A demand of a set that claims nothing more, and whose state is led to.
  pub record Settles (Among : Demand → Type 0) : Type 0 where
    pub demand : Demand
    pub among : Among demand
    pub first : demand.first ≡ Settled
    pub second : demand.second ≡ Settled
    pub string : List Symbol
    pub leads : Reaches (goto_of M) 0 string demand.state.0

  -- A set that holds all that its demands lead to has one that claims nothing more, where a string meets one of them.
  module _ (Among : Demand → Type 0)
      (climbs : (d e : Demand) → Among d → IsClimb M t d e → Among e)
      (pops : (X : Symbol) (d e : Demand) → Among d → IsPop M X d e → Among e) where
    settles_in : (k n m : ℕ) (d : Demand) (g : List Symbol) → n + m < k → Among d → Reaches (goto_of M) 0 g d.state.0
        → IsProper d.first → IsProper d.second → IsTrueIn M.grammar t n g d.first → IsTrueIn M.grammar t m g d.second
        → Settles Among
    settles_in zero n m d g less among leads p q x y = absurd (omega (arith, less))
    settles_in (suc k) n m d g less among leads p q x y =
        elim (onward d.state.0 n g d.first leads p x) [
          | up n' c' fewer climb p' x' ↦
              settles_in k n' m (record d { first = c' }) g (omega (arith, less, fewer))
              (climbs d (record d { first = c' }) among (refl, inl (climb, refl))) leads p' q x' y
          | settled nothing ↦ elim (onward d.state.0 m g d.second leads q y) [
            | up m' e' fewer climb q' y' ↦
                settles_in k n m' (record d { second = e' }) g (omega (arith, less, fewer))
                (climbs d (record d { second = e' }) among (refl, inr (climb, refl))) leads p q' x y'
            | settled nothing' ↦
                record { demand = d; among = among; first = nothing; second = nothing'; string = g; leads = leads }
            | down m' e' X h fewer ends pop q' y' ↦
                let last = before_last X g h d.state.0 ends leads in
                let e : Demand = record { state = record { 0 = last.0 }; first = Settled; second = e' } in
                settles_in k 0 m' e h (omega (arith, less, fewer))
                (pops X d e among (last.2, subst (λ c. PopsTo M.grammar X c Settled) (sym nothing) tt, pop))
                last.1 tt q' tt y'
          ]
          | down n' c' X h fewer ends pop p' x' ↦ elim (onward d.state.0 m g d.second leads q y) [
            | up m' e' fewer' climb q' y' ↦
                settles_in k n m' (record d { second = e' }) g (omega (arith, less, fewer'))
                (climbs d (record d { second = e' }) among (refl, inr (climb, refl))) leads p q' x y'
            | settled nothing ↦
                let last = before_last X g h d.state.0 ends leads in
                let e : Demand = record { state = record { 0 = last.0 }; first = c'; second = Settled } in
                settles_in k n' 0 e h (omega (arith, less, fewer))
                (pops X d e among (last.2, pop, subst (λ c. PopsTo M.grammar X c Settled) (sym nothing) tt))
                last.1 p' tt x' tt
            | down m' e' Y h' fewer' ends' pop' q' y' ↦
                let both : X ∷ h ≡ Y ∷ h' = sym ends ∙ ends' in
                let same_symbol : Y ≡ X = cc in
                let same_rest : h' ≡ h = cc in
                let last = before_last X g h d.state.0 ends leads in
                let e : Demand = record { state = record { 0 = last.0 }; first = c'; second = e' } in
                settles_in k n' m' e h (omega (arith, less, fewer, fewer'))
                (pops X d e among (last.2, pop, subst (λ Z. PopsTo M.grammar Z d.second e') same_symbol pop'))
                last.1 p' q' x' (subst (λ w. IsTrueIn M.grammar t m' w e') same_rest y')
          ]
        ]

    pub settles : (d : Demand) (g : List Symbol) → Among d → IsProper d.first → IsProper d.second → IsMet M t g d
        → Settles Among
    settles d g among p q met = settles_in (suc (met.first.0 + met.second.0)) met.first.0 met.second.0 d g (omega arith)
        among met.leads p q met.first.1 met.second.1
