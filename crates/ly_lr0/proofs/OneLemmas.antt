-- A grammar has one automaton: its states are the cores of viable strings, in the order of the least strings of each.
use Rattle.std.proofs.Common.{◌≡◌, ◌∙◌, ◌<◌, inl, inr, ℕ, List, [], ◌∷◌, Some, ap, arith, get_or, length}
use Rattle.std.proofs.Common.{map, subst, sym}
use Rattle.std.specs.Prelude.{AllPairs, Contains}
use Rattle.std.proofs.lemmas.List.{get_or-map, get_or_default, length-map, same_lists}
use Rattle.std.proofs.lemmas.List.Elements.{Contains-get_or}
use Rattle.ly_base.proofs.ListLemmas.{rising_one}
use Rattle.ly_join.specs.Grammar.{Grammar, Symbol}
use Rattle.ly_grammar.specs.Items.{IsComplete, SameCore}
use Rattle.ly_lr0.specs.Automaton.{Lr0Automaton, ComesBefore, HasCores, IsLr0Automaton, IsLess, Reaches}
use Rattle.ly_lr0.specs.Automaton.{Transition, goto_of, prefix_of, state_at}
use Rattle.ly_lr0.specs.Laws.{AutomatonIsOne}
use Rattle.ly_lr0.proofs.LawLemmas.{reached_within}
use Rattle.ly_lr0.proofs.OrderLemmas.{before_off, less_off, less_trans}
use Rattle.ly_lr0.proofs.StateLemmas.{goes_by, state_there, target_at, target_some}

-- a string has its own core
same_itself : (G : Grammar) (g : List Symbol) → SameCore G g g
same_itself G g p before after = (λ c. c, λ c. c)

-- the prefix of a state is its own
prefix_at : (M : Lr0Automaton) (s : ℕ) → s < length M.states → prefix_of M s ≡ (state_at M s).prefix
prefix_at M s lt = get_or-map (λ q. q.prefix) M.states s (record { prefix = []; transitions = []; complete = [] }) [] lt

-- the prefixes of all states
abbrev prefixes : Lr0Automaton → List (List Symbol)
prefixes M = map (λ q. q.prefix) M.states

rising_prefixes : (M : Lr0Automaton) → IsLr0Automaton M → AllPairs ComesBefore (prefixes M)
rising_prefixes M is i j d less within =
    let count = length-map M.states (λ q. q.prefix) in
    let a = get_or_default (prefixes M) i d [] (omega (arith, less, within)) in
    let b = get_or_default (prefixes M) j d [] within in
    subst (λ g. ComesBefore g (get_or (prefixes M) j d)) (sym a)
    (subst (ComesBefore (prefix_of M i)) (sym b) (is.numbered.rising i j less (omega (arith, within, count))))

module _ (M N : Lr0Automaton) (one : IsLr0Automaton M) (two : IsLr0Automaton N)
    (cores : HasCores M.grammar (goto_of N)) where
  -- the prefix of a state of the one is that of a state of the other
  prefix_too : (s : ℕ) → s < length M.states → (t : ℕ) × (t < length N.states) × (prefix_of N t ≡ prefix_of M s)
  prefix_too s lt =
      let g = prefix_of M s in
      let leads = one.numbered.leads s lt in
      let t = cores.has g (one.cores.only g s leads) in
      let within = reached_within N two g t.0 t.1 in
      let h = prefix_of N t.0 in
      let back = two.numbered.leads t.0 within in
      let r = one.cores.has h (cores.only h t.0 back) in
      let meet : s ≡ r.0 = one.cores.one g h s r.0 leads r.1 (cores.same g h t.0 t.1 back) in (
        t.0,
        within,
        elim (one.numbered.least s h (subst (Reaches (goto_of M) 0 h) (sym meet) r.1)) [
          | inl e ↦ e
          | inr before ↦ elim (two.numbered.least t.0 g t.1) [
            | inl e ↦ sym e
            | inr after ↦ absurd (before_off g h before after)
          ]
        ],
      )

  member_too : (g : List Symbol) → Contains (prefixes M) g → Contains (prefixes N) g
  member_too g c =
      let lt : c.0 < length M.states = omega (arith, c.1, length-map M.states (λ q. q.prefix)) in
      let t = prefix_too c.0 lt in
      let g_at : prefix_of M c.0 ≡ g = get_or_default (prefixes M) c.0 [] g c.1 ∙ c.2 in
      subst (Contains (prefixes N)) (t.2 ∙ g_at)
      (Contains-get_or (prefixes N) t.0 [] (omega (arith, t.1, length-map N.states (λ q. q.prefix))))

  module _ (same : prefixes M ≡ prefixes N) where
    count : length M.states ≡ length N.states
    count = sym (length-map M.states (λ q. q.prefix)) ∙ ap length same ∙ length-map N.states (λ q. q.prefix)

    prefix_same : (s : ℕ) → prefix_of M s ≡ prefix_of N s
    prefix_same s = ap (λ gs. get_or gs s []) same

    -- a transition of the one is one of the other
    transition_too : (s : ℕ) → s < length M.states → (x : Transition) → Contains (state_at M s).transitions x
        → Contains (state_at N s).transitions x
    transition_too s lt x c =
        let X = x.symbol in
        let g = prefix_of M s in
        let state = one.each s (state_at M s) (state_there M s lt) in
        let goes : goto_of M s X ≡ Some x.target
        = goes_by M s X lt ∙ target_at (state_at M s).transitions state.ordered x c in
        let leads : Reaches (goto_of M) 0 (X ∷ g) x.target = (s, one.numbered.leads s lt, goes) in
        let other = cores.has (X ∷ g) (one.cores.only (X ∷ g) x.target leads) in
        let here = subst (λ w. Reaches (goto_of N) 0 w s) (sym (prefix_same s))
        (two.numbered.leads s (omega (arith, lt, count))) in
        let from : other.1.0 ≡ s = cores.one g g other.1.0 s other.1.1 here (same_itself M.grammar g) in
        let h = prefix_of M x.target in
        let core = one.cores.same (X ∷ g) h x.target leads (one.numbered.leads x.target (state.within x c)) in
        let target : Reaches (goto_of N) 0 h x.target = subst (λ w. Reaches (goto_of N) 0 w x.target)
        (sym (prefix_same x.target))
        (two.numbered.leads x.target (omega (arith, state.within x c, count))) in
        let to : other.0 ≡ x.target = cores.one (X ∷ g) h other.0 x.target other.1 target core in
        target_some (state_at N s).transitions X x.target (sym (goes_by N s X (omega (arith, lt, count)))
        ∙ ap (λ r. goto_of N r X) (sym from) ∙ other.1.2 ∙ ap Some to)

    -- so is a rule that is complete
    complete_too : N.grammar ≡ M.grammar → (s : ℕ) → s < length M.states → (p : ℕ) → Contains (state_at M s).complete p
        → Contains (state_at N s).complete p
    complete_too rules s lt p c =
        let less : s < length N.states = omega (arith, lt, count) in
        let at : (state_at M s).prefix ≡ (state_at N s).prefix
        = sym (prefix_at M s lt) ∙ prefix_same s ∙ prefix_at N s less in
        let is = ((one.each s (state_at M s) (state_there M s lt)).complete p).0 c in
        ((two.each s (state_at N s) (state_there N s less)).complete p).1
        (subst (λ G. IsComplete G (state_at N s).prefix p) (sym rules) (subst (λ g. IsComplete M.grammar g p) at is))

less_once : (t u : Transition) → IsLess t.symbol u.symbol → IsLess u.symbol t.symbol → ⊥
less_once t u a b = less_off t.symbol (less_trans t.symbol u.symbol t.symbol a b)

pub automaton_is_one : AutomatonIsOne
automaton_is_one M N one two same = λ i. record { grammar = same i; states = states i }
  where
    to : HasCores M.grammar (goto_of N)
    to = subst (λ G. HasCores G (goto_of N)) (sym same) two.cores

    back : HasCores N.grammar (goto_of M)
    back = subst (λ G. HasCores G (goto_of M)) same one.cores

    prefixes_one : prefixes M ≡ prefixes N
    prefixes_one = rising_one ComesBefore before_off (prefixes M) (prefixes N) (rising_prefixes M one)
        (rising_prefixes N two) (member_too M N one two to) (member_too N M two one back)

    states : M.states ≡ N.states
    states = same_lists M.states N.states (count M N one two to prefixes_one) (λ s d lt.
        let less : s < length N.states = omega (arith, lt, count M N one two to prefixes_one) in
        get_or_default M.states s d _ lt ∙ state_one s lt less ∙ get_or_default N.states s _ d less)
      where
        state_one : (s : ℕ) → s < length M.states → s < length N.states → state_at M s ≡ state_at N s
        state_one s lt less =
            let m = one.each s (state_at M s) (state_there M s lt) in
            let n = two.each s (state_at N s) (state_there N s less) in
            let prefix : (state_at M s).prefix ≡ (state_at N s).prefix
            = sym (prefix_at M s lt) ∙ prefix_same M N one two to prefixes_one s ∙ prefix_at N s less in
            let transitions : (state_at M s).transitions ≡ (state_at N s).transitions
            = rising_one (λ t u. IsLess t.symbol u.symbol) less_once (state_at M s).transitions
            (state_at N s).transitions m.ordered n.ordered
            (transition_too M N one two to prefixes_one s lt)
            (transition_too N M two one back (sym prefixes_one) s less) in
            let complete : (state_at M s).complete ≡ (state_at N s).complete
            = rising_one (λ p q. p < q) (λ p q a b. omega arith) (state_at M s).complete (state_at N s).complete
            m.rising n.rising (complete_too M N one two to prefixes_one (sym same) s lt)
            (complete_too N M two one back (sym prefixes_one) same s less) in
            λ i. record { prefix = prefix i; transitions = transitions i; complete = complete i }
