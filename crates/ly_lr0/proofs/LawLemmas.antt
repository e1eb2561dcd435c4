-- What follows of an automaton: all transitions to a state are over one symbol, and there are no more cores of viable
-- strings than states (the pigeonhole principle).
use Rattle.std.proofs.Common.{◌≡◌, ℕ, suc, ◌≤◌, ◌<◌, List, [], ◌∷◌, Some, inl, inr, arith}
use Rattle.std.specs.Prelude.{length, slice_get, slice_index_or}
use Rattle.std.proofs.lemmas.Bool.{cases_eq, cases_lt}
use Rattle.ly_base.proofs.PigeonholeLemmas.{pigeonhole}
use Rattle.ly_join.specs.Grammar.{Symbol}
use Rattle.ly_lr0.specs.Automaton.{Lr0Automaton, IsLr0Automaton, Reaches, goto_of, prefix_of}
use Rattle.ly_lr0.specs.Laws.{NoMoreCoresThanStates}
use Rattle.ly_lr0.proofs.CoreLemmas.{item_of_viable, same_items}
use Rattle.ly_lr0.proofs.KernelLemmas.{end_alike}
use Rattle.ly_lr0.proofs.StateLemmas.{goto_some, target_some}

-- strings lead to states that are there
pub reached_within : (M : Lr0Automaton) → IsLr0Automaton M → (g : List Symbol) (s : ℕ) → Reaches (goto_of M) 0 g s
    → s < length M.states
reached_within M is [] s r = let some = is.some in omega (arith, r)
reached_within M is (X ∷ g) s r =
    let q = goto_some M.states r.0 X s r.2 in
    (is.each r.0 q.0 q.1).within (record { symbol = X; target = s }) (target_some q.0.transitions X s q.2)

-- a transition to a state is over the last symbol of its prefix
pub last_symbol : (M : Lr0Automaton) → IsLr0Automaton M → (q : ℕ) (X : Symbol) (s : ℕ) → goto_of M q X ≡ Some s
    → slice_get (prefix_of M s) 0 ≡ Some X
last_symbol M is q X s e =
    let G = M.grammar in
    let from = is.cores.is_reached q X s e in
    let g = X ∷ from.0 in
    let leads : Reaches (goto_of M) 0 g s = (q, from.1, e) in
    let core = is.cores.same g (prefix_of M s) s leads (is.numbered.leads s (reached_within M is g s leads)) in
    let item = item_of_viable G is.augmented is.reduced g (is.cores.only g s leads) in
    end_alike G from.0 (prefix_of M s) X item.0 item.1 (same_items G is.augmented is.reduced g (prefix_of M s) core)
    item.2

pub no_more : NoMoreCoresThanStates
no_more M n is few more =
    let at : ℕ → List Symbol = λ i. slice_index_or more.strings i [] in
    let reached : (i : ℕ) → i < suc n → (s : ℕ) × Reaches (goto_of M) 0 (at i) s
    = λ i l. is.cores.has (at i) (more.viable i [] (let count = more.count in omega arith)) in
    let bounded : (g : List Symbol) (s : ℕ) → Reaches (goto_of M) 0 g s → s < n
    = λ g s r. omega (arith, reached_within M is g s r, few) in
    let states : suc n ≤ n = pigeonhole (suc n) n (λ i s. Reaches (goto_of M) 0 (at i) s)
    (λ i l. ((reached i l).0, bounded (at i) (reached i l).0 (reached i l).1, (reached i l).1))
    (λ i h s a b r q. elim (cases_eq i h) [
      | inl same ↦ same
      | inr other ↦ absurd (elim (cases_lt i h) [
        | inl less ↦ more.apart i h [] less (let count = more.count in omega arith) (is.cores.same (at i) (at h) s r q)
        | inr past ↦ more.apart h i [] (omega arith) (let count = more.count in omega arith)
            (is.cores.same (at h) (at i) s q r)
      ])
    ]) in
    omega (arith, states)
