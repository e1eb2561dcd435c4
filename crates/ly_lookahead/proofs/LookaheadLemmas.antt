-- The rows of complete rules, once the lookbacks were gone through, are the lookaheads.
use Rattle.std.proofs.Common.{◌≡◌, ◌∙◌, ◌⊎◌, inl, inr, ◌↔◌, ℕ, zero, suc, ◌+◌, ◌<◌, ◌≤◌, List, [], ◌∷◌, Contains}
use Rattle.std.proofs.Common.{None, Option, Some}
use Rattle.std.proofs.Common.{All, ap, arith, length, map, refl, slice_get, slice_index_or, subst, sym}
use Rattle.std.specs.List.{AllPairs}
use Rattle.std.proofs.lemmas.Bool.{cases_lt, cases_order}
use Rattle.std.proofs.lemmas.List.Elements.{All-contains}
use Rattle.std.proofs.lemmas.Option.{get_or_from_slice_get, slice_get_within}
use Rattle.ly_join.specs.Grammar.{Grammar, IsAugmented, IsRule, GrammarRule, Symbol, accept_rule, nonterminal, terminal}
use Rattle.ly_join.proofs.ListLemmas.{member_at}
use Rattle.ly_grammar.specs.Items.{HasNoEnd, Valid, at_start, closed, moved}
use Rattle.ly_grammar.proofs.ItemLemmas.{body_of, zero_split}
use Rattle.ly_grammar.proofs.SearchLemmas.{rule_is_one}
use Rattle.ly_digraph.specs.Digraph.{IsInside as JoinsNodes}
use Rattle.ly_sets.specs.NumberSet.{NumberSet, Member}
use Rattle.ly_sets.specs.SetMatrix.{row}
use Rattle.ly_lr0.specs.Automaton.{Lr0Automaton, IsLr0Automaton, Reaches, State, goto_of, state_at}
use Rattle.ly_lr0.proofs.StateLemmas.{target_some}
use Rattle.ly_relate.specs.Related.{AreRelations, Goto, Lookback, Relations, StandsFor}
use Rattle.ly_relate.specs.Relations.{Follow, LookaheadBy, LooksBack}
use Rattle.ly_relate.proofs.GotoLemmas.{leads_from}
use Rattle.ly_lookahead.specs.Lookaheads.{AreLookaheads}
use Rattle.ly_lookahead.specs.Private.Rows.{AreRows}
use Rattle.ly_lookahead.specs.Private.Sets.{AreFollowSets, AreLookedBack}
use Rattle.ly_lookahead.proofs.FromRelations.{lookahead_from}
use Rattle.ly_lookahead.proofs.ReadLemmas.{goto_at, one_goto}
use Rattle.ly_lookahead.proofs.RowLemmas.{past_nodes, rises, row_once}
use Rattle.ly_lookahead.proofs.ToRelations.{lookahead_to}

-- the body of rule 0
zero_body : {G : Grammar} {p : ℕ} {r : GrammarRule} → IsAugmented G → p ≡ 0 → IsRule G p r
    → r.body ≡ nonterminal G.start ∷ terminal 0 ∷ []
zero_body {G} {p} {r} augmented z is = ap (λ x. x.body)
    (rule_is_one G 0 r (accept_rule G.accept G.start) (subst (λ k. IsRule G k r) z is) augmented.rule_0)

-- rule 0 is complete at no string without the end
pub no_zero : {G : Grammar} {g : List Symbol} {p : ℕ} {before : List Symbol} {t : ℕ} → IsAugmented G → p ≡ 0
    → HasNoEnd g → Valid G g p before [] t → ⊥
no_zero {G} augmented z ends (at_start is e) =
    let no : [] ≡ nonterminal G.start ∷ terminal 0 ∷ [] = e ∙ zero_body augmented z is in cc
no_zero {G} augmented z ends (closed v is left w f) =
    let no : [] ≡ nonterminal G.start ∷ terminal 0 ∷ [] = w ∙ zero_body augmented z is in cc
no_zero {G} augmented z ends (moved {before = before} {X = X} v) =
    let body = body_of v in
    elim (zero_split G before [] X (body.2 ∙ zero_body augmented z body.1)) [
      | inl x ↦ (let no : [] ≡ terminal 0 ∷ [] = x.2 in cc)
      | inr x ↦ ends.0 x.1
    ]

-- places of a rising list hold different numbers
rising_once : (xs : List ℕ) (i j x : ℕ) → AllPairs (λ p q. p < q) xs → slice_get xs i ≡ Some x → slice_get xs j ≡ Some x
    → i ≡ j
rising_once xs i j x pairs a b = at (cases_order i j) where
  no : (n m : ℕ) → n < m → slice_get xs n ≡ Some x → slice_get xs m ≡ Some x → ⊥
  no n m lt a b =
      let less = pairs n m x lt (slice_get_within xs m x b) in
      let at_n = get_or_from_slice_get xs n x x a in
      let at_m = get_or_from_slice_get xs m x x b in
      omega (arith, less, at_n, at_m)

  at : (i ≡ j) ⊎ ((i < j) ⊎ (j < i)) → i ≡ j
  at (inl e) = e
  at (inr (inl lt)) = absurd (no i j lt a b)
  at (inr (inr lt)) = absurd (no j i lt b a)

-- something stands at each place
some_within : {X : Type 0} (xs : List X) (i : ℕ) → i < length xs → slice_get xs i ≡ None → ⊥
some_within [] i lt e = omega (arith, lt)
some_within (x ∷ xs) zero lt e = cc
some_within (x ∷ xs) (suc i) lt e = some_within xs i (omega (arith, lt)) e

-- what is read from a list that was gone over
map_at : {A B : Type 0} (f : A → B) (d : B) (xs : List A) (i : ℕ) (x : A) → slice_get xs i ≡ Some x
    → slice_index_or (map f xs) i d ≡ f x
map_at f d [] i x at = absurd (cc)
map_at f d (y ∷ xs) zero x at = let e : y ≡ x = cc in ap f e
map_at f d (y ∷ xs) (suc i) x at = map_at f d xs i x at

module _ (M : Lr0Automaton) (is : IsLr0Automaton M) where
  -- the state of a number is what stands at its place
  pub state_is : (s : ℕ) (q : State) → slice_get M.states s ≡ Some q → state_at M s ≡ q
  state_is s q at = get_or_from_slice_get M.states s q (record { prefix = []; transitions = []; complete = [] }) at

  -- a symbol leads from a state to a state
  pub leads_within : (s r : ℕ) (X : Symbol) → goto_of M s X ≡ Some r → (s < length M.states) × (r < length M.states)
  leads_within s r X e =
      let of = leads_from M s X r e in (
        slice_get_within M.states s of.0 of.1,
        (is.each s of.0 of.1).within (record { symbol = X; target = r }) (target_some of.0.transitions X r of.2),
      )

  reaches_within : (q : ℕ) (w : List Symbol) (s : ℕ) → q < length M.states → Reaches (goto_of M) q w s
      → s < length M.states
  reaches_within q [] s lt e = omega (arith, lt, e)
  reaches_within q (X ∷ w) s lt a = (leads_within a.0 s X a.2).1

  pub prefix_leads : (s : ℕ) (q : State) → slice_get M.states s ≡ Some q → Reaches (goto_of M) 0 q.prefix s
  prefix_leads s q at = subst (λ g. Reaches (goto_of M) 0 g s) (map_at (λ q. q.prefix) [] M.states s q at)
      (is.numbered.leads s (slice_get_within M.states s q at))

  -- a rule that is complete in a state isn't rule 0
  complete_past_zero : (s k p : ℕ) (q : State) → slice_get M.states s ≡ Some q → slice_get q.complete k ≡ Some p → 1 ≤ p
  complete_past_zero s k zero q at there =
      let c = ((is.each s q at).complete 0).0 (member_at q.complete k 0 there) in
      let viable = is.cores.only q.prefix s (prefix_leads s q at) in
      absurd (no_zero is.augmented refl viable.0 c.1.1)
  complete_past_zero s k (suc p) q at there = omega arith

  -- the rules that are complete in a state rise
  pub complete_rising : (s : ℕ) → s < length M.states → AllPairs (λ p q. p < q) (state_at M s).complete
  complete_rising s lt = at (slice_get M.states s) refl where
    at : (o : Option State) → slice_get M.states s ≡ o → AllPairs (λ p q. p < q) (state_at M s).complete
    at None e = absurd (some_within M.states s lt e)
    at (Some q) e = subst (λ x. AllPairs (λ p q. p < q) x.complete) (sym (state_is s q e)) (is.each s q e).rising

  -- and so each stands there once
  pub complete_once : (s i j p : ℕ) → s < length M.states → slice_get (state_at M s).complete i ≡ Some p
      → slice_get (state_at M s).complete j ≡ Some p → i ≡ j
  complete_once s i j p lt a b = rising_once (state_at M s).complete i j p (complete_rising s lt) a b

  module _ (R : Relations) (are : AreRelations M R) where
    -- a lookback is of a state and of a node
    pub lookback_within : (l : Lookback) → Contains R.lookbacks l
        → (l.state < length M.states) × (l.node < R.includes.nodes)
    lookback_within l has =
        let node = are.lookbacks.stands l has in
        let at = (are.lookbacks.back l.state l.rule node.1 node.2).0 (l.node, has, node.3) in
        let b = at.2 in
        let from = b.from in
        let start = leads_within at.0.from from.0 (nonterminal at.0.symbol) from.1 in
        (reaches_within at.0.from b.before l.state start.0 b.leads, node.0)

    module _ (first : List ℕ) (rows : AreRows M R.includes.nodes (length M.states) first) where
      -- the row of a complete rule is one of them
      pub place_within : (s k p : ℕ) → s < length M.states → slice_get (state_at M s).complete k ≡ Some p
          → slice_index_or first s 0 + k < slice_index_or first (length M.states) 0
      place_within s k p lt at =
          let end = rises rows s (length M.states) lt (omega arith) in
          let inside = slice_get_within (state_at M s).complete k p at in
          omega (arith, end, inside)

      -- the rows are at least as many as the nodes
      pub rows_count : R.includes.nodes ≤ slice_index_or first (length M.states) 0
      rows_count = past_nodes rows (length M.states) (omega arith)

      -- and none of a node
      pub rows_apart : (l m : Lookback) (k : ℕ) → Contains R.lookbacks l → Contains R.lookbacks m
          → l.node ≡ slice_index_or first m.state 0 + k → ⊥
      rows_apart l m k has other e =
          let lt = (lookback_within l has).1 in
          let le = past_nodes rows m.state (let less = (lookback_within m other).0 in omega (arith, less)) in
          omega (arith, lt, le, e)

      module _ (inside : All (JoinsNodes R.includes.nodes) R.includes.edges) (old new : List NumberSet)
          (follows : AreFollowSets M R.gotos R.includes old)
          (back : AreLookedBack M first R.lookbacks old new)
          (long : length new ≡ slice_index_or first (length M.states) 0) where
        -- the rows of complete rules are empty at first
        fresh : (i t : ℕ) → R.includes.nodes ≤ i → Member (row old i) t → ⊥
        fresh i t past m =
            let most = are.includes.nodes in
            let came = (follows.gathered i t (omega (arith, past, most))).0 m in
            let lt = (All-contains (JoinsNodes R.includes.nodes) R.includes.edges (i, came.0) inside came.2).0 in
            omega (arith, lt, past)

        -- the row of a node has what follows a transition for which it stands
        stands_from : (k t : ℕ) → k < R.includes.nodes → Member (row old k) t
            → (j : ℕ) × (x : Goto) × StandsFor R.gotos R.includes k j × (slice_get R.gotos j ≡ Some x)
            × Follow M.grammar (goto_of M) x.from x.symbol t
        stands_from k t lt m = elim (cases_lt k (length R.gotos)) [
          | inl below ↦
              let x = goto_at R.gotos k below in
              (k, x.0, inl refl, x.1, (follows.follows k t x.0 x.1).0 m)
          | inr past ↦
              let f = (follows.gathered k t past).0 m in
              (f.0, f.1, inr (past, f.2), f.3, f.4)
        ]

        stands_to : (k j t : ℕ) (x : Goto) → StandsFor R.gotos R.includes k j → slice_get R.gotos j ≡ Some x
            → Follow M.grammar (goto_of M) x.from x.symbol t → Member (row old k) t
        stands_to k j t x (inl e) at f = subst (λ n. Member (row old n) t) (sym e) ((follows.follows j t x at).1 f)
        stands_to k j t x (inr (past, e)) at f = (follows.gathered k t past).1 (j, x, e, at, f)

        by_relations : (s k p t : ℕ) → s < length M.states → slice_get (state_at M s).complete k ≡ Some p
            → Member (row new (slice_index_or first s 0 + k)) t ↔ LookaheadBy M.grammar (goto_of M) s p t
        by_relations s k p t lt at = (to, from) where
          to : Member (row new (slice_index_or first s 0 + k)) t → LookaheadBy M.grammar (goto_of M) s p t
          to m = elim ((back (slice_index_or first s 0 + k) t).0 m) [
            | inl was ↦
                let le = past_nodes rows s (omega (arith, lt)) in
                absurd (fresh (slice_index_or first s 0 + k) t (omega (arith, le)) was)
            | inr (l, has, place, came) ↦
                let within = lookback_within l has in
                let below = within.0 in
                let same = row_once rows s l.state k place.0 lt below (slice_get_within (state_at M s).complete k p at)
                (slice_get_within (state_at M l.state).complete place.0 l.rule place.1) place.2 in
                let there = subst (λ j. slice_get (state_at M l.state).complete j ≡ Some l.rule) (sym same.1) place.1 in
                let here = subst (λ q. slice_get (state_at M q).complete k ≡ Some l.rule) (sym same.0) there in
                let one : Some l.rule ≡ Some p = sym here ∙ at in
                let rule : l.rule ≡ p = cc in
                let f = stands_from l.node t within.1 came in
                let b = (are.lookbacks.back l.state l.rule f.0 (slice_get_within R.gotos f.0 f.1 f.3)).0
                (l.node, has, f.2) in
                let looks = subst (λ q. LooksBack M.grammar (goto_of M) q l.rule b.0.from b.0.symbol) (sym same.0)
                b.2 in (
                  b.0.from,
                  b.0.symbol,
                  subst (λ r. LooksBack M.grammar (goto_of M) s r b.0.from b.0.symbol) rule looks,
                  subst (λ x. Follow M.grammar (goto_of M) x.from x.symbol t)
                      (one_goto R.gotos f.0 f.1 b.0 f.3 b.1) f.4,
                )
          ]

          from : LookaheadBy M.grammar (goto_of M) s p t → Member (row new (slice_index_or first s 0 + k)) t
          from (q, A, looks, follow) =
              let leads = looks.from in
              let there = are.gotos.all q A leads.0 leads.1 in
              let x : Goto = record { from = q; symbol = A; target = leads.0 } in
              let node = (are.lookbacks.back s p there.0 (slice_get_within R.gotos there.0 x there.1)).1
              (x, there.1, looks) in
              let l : Lookback = record { state = s; rule = p; node = node.0 } in
              (back (slice_index_or first s 0 + k) t).1 (inr (
                l,
                node.1,
                (k, at, refl),
                stands_to node.0 there.0 t x node.2 there.1 follow,
              ))

        -- the rows of complete rules are their lookaheads
        pub are_lookaheads : AreLookaheads M (record { first = first; sets = new })
        are_lookaheads = record {
          has = λ s k p q here at.
              let lt = slice_get_within M.states s q here in
              let count = rows.long in
              let place = subst (λ x. slice_get x.complete k ≡ Some p) (sym (state_is s q here)) at in
              let end = place_within s k p lt place in
              (omega (arith, lt, count), omega (arith, end, long));
          are = λ s k p t q here at.
              let lt = slice_get_within M.states s q here in
              let place = subst (λ x. slice_get x.complete k ≡ Some p) (sym (state_is s q here)) at in
              let by = by_relations s k p t lt place in
              let reaches = prefix_leads s q here in
              let some = complete_past_zero s k p q here at in (
                (λ m. lookahead_from M.grammar (goto_of M) is.augmented is.reduced is.cores q.prefix s p t reaches
                    (by.0 m)),
                (λ x. by.1 (lookahead_to M.grammar (goto_of M) is.augmented is.cores q.prefix s p t reaches some x)),
              );
        }
