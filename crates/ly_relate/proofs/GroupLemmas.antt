-- What is said of transitions by way of nodes that stand for them.
use Rattle.std.proofs.Common.{◌≡◌, ◌≢◌, ◌∙◌, ◌⊎◌, ◌↔◌, inl, inr, ℕ, ◌+◌, ◌-◌, ◌<◌, ◌≤◌, List, Some, arith, refl, sym}
use Rattle.std.proofs.Common.{◌∷◌, ap}
use Rattle.std.proofs.Common.{subst, length, slice_get, slice_index_or, Contains}
use Rattle.std.proofs.lemmas.Bool.{cases_order}
use Rattle.std.proofs.lemmas.Option.{get_or_from_slice_get, slice_get-get_or, slice_get_within}
use Rattle.ly_digraph.specs.Digraph.{Digraph, IsEdge}
use Rattle.ly_join.specs.Grammar.{terminal}
use Rattle.ly_lr0.specs.Automaton.{Lr0Automaton, goto_of}
use Rattle.ly_relate.specs.Private.Gotos.{IsNumbering, Numbering}
use Rattle.ly_relate.specs.Private.Groups.{AreGroupable, AreAllParted, AreGroups, Grouping, IsJoined, IsRuleOf, Leads}
use Rattle.ly_relate.specs.Private.Groups.{BeginsSolid, LeadAlike, RuleLists, leader_of, node_of, others_of, solid_of}
use Rattle.ly_relate.specs.Private.Walks.{AreBack, AreBackBy, AreEdgesBy, AreEdgesTo, BackFrom, EdgeFrom, EdgeTo}
use Rattle.ly_relate.specs.Private.Walks.{IncludesByOne}
use Rattle.ly_relate.specs.Private.Walks.{IsIncludingBy, IsLookingBack, IsSaidOf}
use Rattle.ly_relate.specs.Private.Walks.{LooksBackByOne, no_goto, rules_at}
use Rattle.ly_relate.specs.Related.{AreGathered, AreLookbacks, Goto, IsIncluding, Lookback, StandsFor}
use Rattle.ly_relate.proofs.AlikeLemmas.{alike_back, moved_includes, moved_looks}
use Rattle.ly_relate.proofs.GotoLemmas.{numbered_named}

-- one more of what is said up to a number
pub below_more : {E F : Type 0} (P : ℕ → Type 0) (k : ℕ) → E ↔ ((j : ℕ) × (j < k) × P j) → F ↔ (E ⊎ P k)
    → F ↔ ((j : ℕ) × (j < k + 1) × P j)
below_more {E} {F} P k before one = (to, back) where
  to : F → (j : ℕ) × (j < k + 1) × P j
  to f = elim (one.0 f) [
    | inl e ↦ let b = before.0 e in (b.0, (let lt = b.1 in omega (arith, lt)), b.2)
    | inr p ↦ (k, omega arith, p)
  ]

  back : ((j : ℕ) × (j < k + 1) × P j) → F
  back (j, lt, p) = elim (cases_order j k) [
    | inl same ↦ one.1 (inr (subst P same p))
    | inr (inl less) ↦ one.1 (inl (before.1 (j, less, p)))
    | inr (inr above) ↦ absurd (omega (arith, lt, above))
  ]

-- GROUPS

module _ (n : Numbering) (solid : ℕ → List ℕ) (w : Grouping) (are : AreGroups n solid (length n.gotos) w) where
  -- a transition that leads and whose node is past all of them is the first of its node
  pub leads_there : (m g : ℕ) → Leads w m → node_of w m ≡ length n.gotos + g → leader_of w g ≡ m
  leads_there m g (inl lt) is = let long = are.long in absurd (omega (arith, lt, is, long))
  leads_there m g (inr (le, e)) is =
      let long = are.long in
      let same : node_of w m - length w.nodes ≡ g = omega (arith, is, long) in
      ap (leader_of w) (sym same) ∙ e

  -- a node past all transitions isn't one of theirs
  pub own_node : (m : ℕ) → m < length n.gotos → node_of w m < length n.gotos → node_of w m ≡ m
  own_node m lt within = elim (are.each m lt) [
    | inl own ↦ own
    | inr joined ↦ let is = joined.1.node in absurd (omega (arith, is, within))
  ]

  -- which of the nodes past them it is
  pub joined_node : (m : ℕ) → m < length n.gotos → length n.gotos ≤ node_of w m
      → (g : ℕ) × IsJoined n solid (length n.gotos) w m g
  joined_node m lt past = elim (are.each m lt) [
    | inl own ↦ absurd (omega (arith, own, lt, past))
    | inr joined ↦ joined
  ]

  -- each node is below the end
  pub node_within : (m : ℕ) → m < length n.gotos → node_of w m < w.end
  node_within m lt = let end = are.end in elim (are.each m lt) [
    | inl own ↦ omega (arith, own, lt, end)
    | inr joined ↦ let is = joined.1.node in let in_list = joined.1.within in omega (arith, is, in_list, end)
  ]

  -- What is said of transitions, by others of themselves and by solid rules of all that lead alike, is said of the
  -- nodes that stand for them.
  module _ (g : Digraph) (O S T : ℕ → Type 0) (F : ℕ → Type 0)
      (total : (j : ℕ) → j < length n.gotos → (O j ⊎ S j) ↔ T j)
      (moves : (a b : ℕ) → AreGroupable n solid a b → S a → S b)
      (found : (o : ℕ) → F o ↔ ((m : ℕ) × (m < length n.gotos) × IsSaidOf w m (O m) (S m) o))
      (gather : (k j : ℕ) → length n.gotos ≤ k
      → IsEdge g k j ↔ ((m : ℕ) × (m < length n.gotos) × (k ≡ node_of w m) × (k ≢ m) × (j ≡ m))) where
    said_to : (j : ℕ) → j < length n.gotos → ((k : ℕ) × F k × StandsFor n.gotos g k j) → T j
    said_to j lt (k, f, stands) = let m = (found k).0 f in at m.0 m.1 m.2 stands where
      at : (m : ℕ) → m < length n.gotos → IsSaidOf w m (O m) (S m) k → StandsFor n.gotos g k j → T j
      at m in_list (inl (o, same)) (inl here) =
          (total j lt).0 (inl (subst O (sym same ∙ here) o))
      at m in_list (inl (o, same)) (inr (past, edge)) = absurd (omega (arith, same, in_list, past))
      at m in_list (inr (s, leads, node)) (inl here) =
          let own = own_node m in_list (omega (arith, node, here, lt)) in
          (total j lt).0 (inr (subst S (sym own ∙ (sym node ∙ here)) s))
      at m in_list (inr (s, leads, node)) (inr (past, edge)) =
          let to = (gather k j past).0 edge in
          let joined = joined_node j lt (let is : k ≡ node_of w j = to.2 ∙ ap (node_of w) (sym to.4) in
          omega (arith, is, past)) in
          let same_node : node_of w m ≡ length n.gotos + joined.0
          = sym node ∙ (to.2 ∙ (ap (node_of w) (sym to.4) ∙ joined.1.node)) in
          let leader = leads_there m joined.0 leads same_node in
          let alike : AreGroupable n solid m j = subst (λ l. AreGroupable n solid l j) leader joined.1.alike in
          (total j lt).0 (inr (moves m j alike s))

    said_back : (j : ℕ) → j < length n.gotos → T j → (k : ℕ) × F k × StandsFor n.gotos g k j
    said_back j lt t = at ((total j lt).1 t) (are.each j lt) where
      at : O j ⊎ S j → (node_of w j ≡ j) ⊎ ((i : ℕ) × IsJoined n solid (length n.gotos) w j i)
          → (k : ℕ) × F k × StandsFor n.gotos g k j
      at (inl o) either = (j, (found j).1 (j, lt, inl (o, refl)), inl refl)
      at (inr s) (inl own) =
          let long = are.long in
          let leads : Leads w j = inl (omega (arith, own, lt, long)) in
          (node_of w j, (found (node_of w j)).1 (j, lt, inr (s, leads, refl)), inl own)
      at (inr s) (inr (i, is)) =
          let l = leader_of w i in
          let long = are.long in
          let there = is.leads in
          let same : node_of w l - length w.nodes ≡ i = omega (arith, there, long) in
          let leads : Leads w l = inr (omega (arith, there, long), ap (leader_of w) same) in
          let moved : S l = moves j l (alike_back n solid l j is.alike) s in
          let past : length n.gotos ≤ node_of w j = (let node = is.node in omega (arith, node)) in
          let apart : node_of w j ≢ j = λ e. omega (arith, e, past, lt) in
          let edge : IsEdge g (node_of w j) j = (gather (node_of w j) j past).1 (j, lt, refl, apart, refl) in (
            node_of w j,
            (found (node_of w j)).1 (l, is.leader, inr (moved, leads, is.node ∙ sym there)),
            inr (past, edge),
          )

    pub said_all : (j : ℕ) → j < length n.gotos → ((k : ℕ) × F k × StandsFor n.gotos g k j) ↔ T j
    said_all j lt = (said_to j lt, said_back j lt)

-- THE RULES OF A TRANSITION

-- the transition of a number
pub goto_here : (n : Numbering) (j : ℕ) → j < length n.gotos
    → slice_get n.gotos j ≡ Some (slice_index_or n.gotos j no_goto)
goto_here n j lt = slice_get-get_or n.gotos j no_goto lt

module _ (n : Numbering) (law : IsNumbering n) (r : RuleLists) (parted : AreAllParted n.automaton r) where
  -- a rule of a transition's nonterminal is in one of two lists
  rule_listed : (j p : ℕ) (x : Goto) → slice_get n.gotos j ≡ Some x → IsRuleOf n.automaton x.symbol p
      → Contains (rules_at n (others_of r) j) p ⊎ Contains (rules_at n (solid_of r) j) p
  rule_listed j p x at is =
      let same : slice_index_or n.gotos j no_goto ≡ x = get_or_from_slice_get n.gotos j x no_goto at in
      let lists = parted.each x.symbol (numbered_named n law j x at) in
      elim ((lists.all p).1 is) [
        | inl s ↦ inr (subst (λ y. Contains (solid_of r y.symbol) p) (sym same) s)
        | inr o ↦ inl (subst (λ y. Contains (others_of r y.symbol) p) (sym same) o)
      ]

  -- what rules include, in all
  pub includes_total : (i j : ℕ) → (IncludesByOne n (rules_at n (others_of r) j) j i
      ⊎ IncludesByOne n (rules_at n (solid_of r) j) j i) ↔ IsIncluding n.automaton n.gotos i j
  includes_total i j = (to, back) where
    some : {P : ℕ → Type 0} → ((p : ℕ) × P p × IsIncludingBy n.automaton n.gotos p i j)
        → IsIncluding n.automaton n.gotos i j
    some (p, has, (x, y, here, there, is, e)) = (x, y, here, there, is)

    to : IncludesByOne n (rules_at n (others_of r) j) j i ⊎ IncludesByOne n (rules_at n (solid_of r) j) j i
        → IsIncluding n.automaton n.gotos i j
    to (inl o) = some o
    to (inr s) = some s

    back : IsIncluding n.automaton n.gotos i j
        → IncludesByOne n (rules_at n (others_of r) j) j i ⊎ IncludesByOne n (rules_at n (solid_of r) j) j i
    back (x, y, here, there, is) =
        elim (rule_listed j is.number y there (is.rule, is.is_rule, is.is_left)) [
          | inl o ↦ inl (is.number, o, (x, y, here, there, is, refl))
          | inr s ↦ inr (is.number, s, (x, y, here, there, is, refl))
        ]

  pub looks_total : (s p j : ℕ) → (LooksBackByOne n (rules_at n (others_of r) j) j s p
      ⊎ LooksBackByOne n (rules_at n (solid_of r) j) j s p) ↔ IsLookingBack n.automaton n.gotos j s p
  looks_total s p j = (to, back) where
    to : LooksBackByOne n (rules_at n (others_of r) j) j s p ⊎ LooksBackByOne n (rules_at n (solid_of r) j) j s p
        → IsLookingBack n.automaton n.gotos j s p
    to (inl (has, is)) = is
    to (inr (has, is)) = is

    back : IsLookingBack n.automaton n.gotos j s p
        → LooksBackByOne n (rules_at n (others_of r) j) j s p ⊎ LooksBackByOne n (rules_at n (solid_of r) j) j s p
    back (x, at, is) = elim (rule_listed j p x at (is.rule, is.is_rule, is.is_left)) [
      | inl o ↦ inl (o, (x, at, is))
      | inr s ↦ inr (s, (x, at, is))
    ]

  -- and those that begin with terminals say the same of transitions that lead alike
  solid_there : (a p : ℕ) (x : Goto) → slice_get n.gotos a ≡ Some x → Contains (rules_at n (solid_of r) a) p
      → Contains (solid_of r x.symbol) p
  solid_there a p x at has =
      subst (λ y. Contains (solid_of r y.symbol) p) (get_or_from_slice_get n.gotos a x no_goto at) has

  solid_moved : (a b p : ℕ) → AreGroupable n (solid_of r) a b → Contains (rules_at n (solid_of r) a) p
      → Contains (rules_at n (solid_of r) b) p
  solid_moved a b p (x, y, at, there, same, lead) has =
      subst (λ z. Contains (solid_of r z.symbol) p) (sym (get_or_from_slice_get n.gotos b y no_goto there))
      (subst (λ A. Contains (solid_of r A) p) same (solid_there a p x at has))

  pub includes_moves : (i a b : ℕ) → AreGroupable n (solid_of r) a b
      → IncludesByOne n (rules_at n (solid_of r) a) a i → IncludesByOne n (rules_at n (solid_of r) b) b i
  includes_moves i a b alike (p, has, is) =
      let own = solid_there a p alike.0 alike.2 has in
      let lists = parted.each alike.0.symbol (numbered_named n law a alike.0 alike.2) in (
        p,
        solid_moved a b p alike has,
        moved_includes n law (solid_of r) a b p alike own (lists.begin p own) i is,
      )

  pub looks_moves : (s p a b : ℕ) → AreGroupable n (solid_of r) a b
      → LooksBackByOne n (rules_at n (solid_of r) a) a s p → LooksBackByOne n (rules_at n (solid_of r) b) b s p
  looks_moves s p a b alike (has, is) =
      let own = solid_there a p alike.0 alike.2 has in
      let lists = parted.each alike.0.symbol (numbered_named n law a alike.0 alike.2) in (
        solid_moved a b p alike has,
        moved_looks n law (solid_of r) a b p alike own (lists.begin p own) s is,
      )

  -- ALL OF IT

  module _ (w : Grouping) (are : AreGroups n (solid_of r) (length n.gotos) w) (g : Digraph) (nodes : g.nodes ≡ w.end)
      (edges : (i o : ℕ) → IsEdge g i o ↔ ((j : ℕ) × (j < length n.gotos) × EdgeFrom n r w j i o)) where
    -- what is included has a transition's number
    included_within : (rules : List ℕ) (i m : ℕ) → IncludesByOne n rules m i → i < length n.gotos
    included_within rules i m (p, has, (x, y, here, there, is, e)) = slice_get_within n.gotos i x here

    gather : (k j : ℕ) → length n.gotos ≤ k
        → IsEdge g k j ↔ ((m : ℕ) × (m < length n.gotos) × (k ≡ node_of w m) × (k ≢ m) × (j ≡ m))
    gather k j past = (to, back) where
      at : (m : ℕ) → m < length n.gotos → EdgeFrom n r w m k j
          → (m : ℕ) × (m < length n.gotos) × (k ≡ node_of w m) × (k ≢ m) × (j ≡ m)
      at m lt (inl (inl (o, same))) =
          let in_list = included_within (rules_at n (others_of r) m) k m o in absurd (omega (arith, in_list, past))
      at m lt (inl (inr (s, leads, same))) =
          let in_list = included_within (rules_at n (solid_of r) m) k m s in absurd (omega (arith, in_list, past))
      at m lt (inr (node, other, same)) = (m, lt, node, other, same)

      to : IsEdge g k j → (m : ℕ) × (m < length n.gotos) × (k ≡ node_of w m) × (k ≢ m) × (j ≡ m)
      to edge = let m = (edges k j).0 edge in at m.0 m.1 m.2

      back : ((m : ℕ) × (m < length n.gotos) × (k ≡ node_of w m) × (k ≢ m) × (j ≡ m)) → IsEdge g k j
      back (m, lt, node, other, same) = (edges k j).1 (m, lt, inr (node, other, same))

    edge_found : (i : ℕ) → i < length n.gotos → (o : ℕ) → IsEdge g i o ↔ ((m : ℕ) × (m < length n.gotos)
        × EdgeTo n r w m i o)
    edge_found i lt o = (to, back) where
      at : (m : ℕ) → m < length n.gotos → EdgeFrom n r w m i o → (m : ℕ) × (m < length n.gotos)
          × EdgeTo n r w m i o
      at m in_list (inl said) = (m, in_list, said)
      at m in_list (inr (node, other, same)) =
          absurd (other (node ∙ own_node n (solid_of r) w are m in_list (omega (arith, node, lt))))

      to : IsEdge g i o → (m : ℕ) × (m < length n.gotos)
          × EdgeTo n r w m i o
      to edge = let m = (edges i o).0 edge in at m.0 m.1 m.2

      back : ((m : ℕ) × (m < length n.gotos) × EdgeTo n r w m i o) → IsEdge g i o
      back (m, in_list, said) = (edges i o).1 (m, in_list, inl said)

    pub are_gathered : AreGathered n.gotos (IsIncluding n.automaton n.gotos) g
    are_gathered = record {
      nodes = (let end = are.end in omega (arith, nodes, end));
      gathered = λ k j past edge. let m = (gather k j past).0 edge in let lt = m.1 in let same = m.4 in
          omega (arith, lt, same);
      edges = λ i j i_lt j_lt. said_all n (solid_of r) w are g
          (λ m. IncludesByOne n (rules_at n (others_of r) m) m i) (λ m. IncludesByOne n (rules_at n (solid_of r) m) m i)
          (λ m. IsIncluding n.automaton n.gotos i m) (IsEdge g i) (λ m lt. includes_total i m)
          (λ a b alike. includes_moves i a b alike) (edge_found i i_lt) gather j j_lt;
    }

    pub are_lookbacks : (lookbacks : List Lookback)
        → ((s p o : ℕ) → Contains lookbacks (record { state = s; rule = p; node = o })
        ↔ ((j : ℕ) × (j < length n.gotos) × BackFrom n r w j s p o))
        → AreLookbacks n.automaton n.gotos g lookbacks
    are_lookbacks lookbacks back = record {
      stands = λ l has. let m = (back l.state l.rule l.node).0 has in node_is l.state l.rule l.node m.0 m.1 m.2;
      back = λ s p j lt. said_all n (solid_of r) w are g
          (λ m. LooksBackByOne n (rules_at n (others_of r) m) m s p)
          (λ m. LooksBackByOne n (rules_at n (solid_of r) m) m s p)
          (λ m. IsLookingBack n.automaton n.gotos m s p)
          (λ o. Contains lookbacks (record { state = s; rule = p; node = o })) (λ m in_list. looks_total s p m)
          (λ a b alike. looks_moves s p a b alike) (back s p) gather j lt;
    } where
      node_is : (s p o m : ℕ) → m < length n.gotos → BackFrom n r w m s p o
          → (o < g.nodes) × (j : ℕ) × (j < length n.gotos) × StandsFor n.gotos g o j
      node_is s p o m lt (inl (said, same)) =
          ((let end = are.end in omega (arith, lt, same, nodes, end)), m, lt, inl same)
      node_is s p o m lt (inr (said, leads, same)) = (
        (let end = node_within n (solid_of r) w are m lt in omega (arith, same, nodes, end)),
        m,
        lt,
        elim (cases_order (node_of w m) (length n.gotos)) [
          | inl e ↦ inr (past (omega (arith, e)))
          | inr (inl less) ↦ inl (same ∙ own_node n (solid_of r) w are m lt less)
          | inr (inr above) ↦ inr (past (omega (arith, above)))
        ],
      ) where
        past : length n.gotos ≤ node_of w m → (length n.gotos ≤ o) × IsEdge g o m
        past le = (
          omega (arith, le, same),
          (gather o m (omega (arith, le, same))).1 (m, lt, same, (λ e. omega (arith, e, lt, le, same)), refl),
        )

-- WALKS FROM ONE TRANSITION

module _ {E₀ E₁ : Type 0} (w : Grouping) (j o : ℕ) (O S : Type 0) (first : E₁ ↔ (E₀ ⊎ ((o ≡ j) × O))) where
  -- what is said of a transition by two lists of rules, if it leads
  pub said_both : {E₂ : Type 0} → E₂ ↔ (E₁ ⊎ ((o ≡ node_of w j) × S)) → Leads w j → E₂ ↔ (E₀ ⊎ IsSaidOf w j O S o)
  said_both {E₂} second leads = (to, back) where
    to : E₂ → E₀ ⊎ IsSaidOf w j O S o
    to e = elim (second.0 e) [
      | inl was ↦ elim (first.0 was) [ inl old ↦ inl old | inr (same, is) ↦ inr (inl (is, same)) ]
      | inr (same, is) ↦ inr (inr (is, leads, same))
    ]

    back : E₀ ⊎ IsSaidOf w j O S o → E₂
    back (inl old) = second.1 (inl (first.1 (inl old)))
    back (inr (inl (is, same))) = second.1 (inl (first.1 (inr (same, is))))
    back (inr (inr (is, led, same))) = second.1 (inr (same, is))

  -- and if it doesn't
  pub said_first : (Leads w j → ⊥) → E₁ ↔ (E₀ ⊎ IsSaidOf w j O S o)
  said_first lacks = (to, back) where
    to : E₁ → E₀ ⊎ IsSaidOf w j O S o
    to e = elim (first.0 e) [ inl old ↦ inl old | inr (same, is) ↦ inr (inl (is, same)) ]

    back : E₀ ⊎ IsSaidOf w j O S o → E₁
    back (inl old) = first.1 (inl old)
    back (inr (inl (is, same))) = first.1 (inr (same, is))
    back (inr (inr (is, leads, same))) = absurd (lacks leads)

module _ {E₀ E₂ Said : Type 0} (i node j o : ℕ) (said : E₂ ↔ (E₀ ⊎ Said)) where
  -- and the edge from its node to it, if that is another
  pub edge_more : {E₃ : Type 0} → E₃ ↔ (E₂ ⊎ ((o ≡ j) × (i ≡ node))) → node ≢ j
      → E₃ ↔ (E₀ ⊎ (Said ⊎ ((i ≡ node) × (i ≢ j) × (o ≡ j))))
  edge_more {E₃} last other = (to, back) where
    to : E₃ → E₀ ⊎ (Said ⊎ ((i ≡ node) × (i ≢ j) × (o ≡ j)))
    to e = elim (last.0 e) [
      | inl was ↦ elim (said.0 was) [ inl old ↦ inl old | inr is ↦ inr (inl is) ]
      | inr (same, from) ↦ inr (inr (from, (λ own. other (sym from ∙ own)), same))
    ]

    back : E₀ ⊎ (Said ⊎ ((i ≡ node) × (i ≢ j) × (o ≡ j))) → E₃
    back (inl old) = last.1 (inl (said.1 (inl old)))
    back (inr (inl is)) = last.1 (inl (said.1 (inr is)))
    back (inr (inr (from, apart, same))) = last.1 (inr (same, from))

  pub edge_same : node ≡ j → E₂ ↔ (E₀ ⊎ (Said ⊎ ((i ≡ node) × (i ≢ j) × (o ≡ j))))
  edge_same own = (to, back) where
    to : E₂ → E₀ ⊎ (Said ⊎ ((i ≡ node) × (i ≢ j) × (o ≡ j)))
    to e = elim (said.0 e) [ inl old ↦ inl old | inr is ↦ inr (inl is) ]

    back : E₀ ⊎ (Said ⊎ ((i ≡ node) × (i ≢ j) × (o ≡ j))) → E₂
    back (inl old) = said.1 (inl old)
    back (inr (inl is)) = said.1 (inr is)
    back (inr (inr (from, apart, same))) = absurd (apart (from ∙ own))

-- the rules of a transition's nonterminal, by its number
pub listed_at : (n : Numbering) (rules : ℕ → List ℕ) (j : ℕ) (x : Goto) (list : List ℕ) → slice_get n.gotos j ≡ Some x
    → list ≡ rules x.symbol → list ≡ rules_at n rules j
listed_at n rules j x list at is =
    is ∙ ap (λ g. rules g.symbol) (sym (get_or_from_slice_get n.gotos j x no_goto at))

module _ (n : Numbering) (r : RuleLists) (w : Grouping) (j node : ℕ) (x : Goto) (at : slice_get n.gotos j ≡ Some x)
    (others solid : List ℕ) (are_others : others ≡ others_of r x.symbol) (are_solid : solid ≡ solid_of r x.symbol)
    (is_node : node ≡ node_of w j) where
  others_here : others ≡ rules_at n (others_of r) j
  others_here = listed_at n (others_of r) j x others at are_others

  solid_here : solid ≡ rules_at n (solid_of r) j
  solid_here = listed_at n (solid_of r) j x solid at are_solid

  -- the edges of a transition that leads, but that from its node
  pub edges_both : (g₀ g₁ g₂ : Digraph) → AreEdgesTo g₀ g₁ j (IncludesByOne n others j)
      → AreEdgesTo g₁ g₂ node (IncludesByOne n solid j) → Leads w j
      → AreEdgesBy (EdgeTo n r w j) g₀ g₂
  edges_both g₀ g₁ g₂ first second leads i o =
      said_both w j o (IncludesByOne n (rules_at n (others_of r) j) j i)
      (IncludesByOne n (rules_at n (solid_of r) j) j i)
      (subst (λ l. AreEdgesTo g₀ g₁ j (IncludesByOne n l j)) others_here first i o)
      (subst (λ l. AreEdgesTo g₁ g₂ (node_of w j) (IncludesByOne n l j)) solid_here
      (subst (λ k. AreEdgesTo g₁ g₂ k (IncludesByOne n solid j)) is_node second) i o) leads

  -- its lookbacks
  pub back_both : (ls₀ ls₁ ls₂ : List Lookback) → AreBack ls₀ ls₁ j (LooksBackByOne n others j)
      → AreBack ls₁ ls₂ node (LooksBackByOne n solid j) → Leads w j
      → AreBackBy (BackFrom n r w j) ls₀ ls₂
  back_both ls₀ ls₁ ls₂ first second leads s p o =
      said_both w j o (LooksBackByOne n (rules_at n (others_of r) j) j s p)
      (LooksBackByOne n (rules_at n (solid_of r) j) j s p)
      (subst (λ l. AreBack ls₀ ls₁ j (LooksBackByOne n l j)) others_here first s p o)
      (subst (λ l. AreBack ls₁ ls₂ (node_of w j) (LooksBackByOne n l j)) solid_here
      (subst (λ k. AreBack ls₁ ls₂ k (LooksBackByOne n solid j)) is_node second) s p o) leads

-- those of one that doesn't lead
module _ (n : Numbering) (r : RuleLists) (w : Grouping) (j : ℕ) (x : Goto) (at : slice_get n.gotos j ≡ Some x)
    (others : List ℕ) (are_others : others ≡ others_of r x.symbol) (lacks : Leads w j → ⊥) where
  pub edges_first : (g₀ g₁ : Digraph) → AreEdgesTo g₀ g₁ j (IncludesByOne n others j)
      → AreEdgesBy (EdgeTo n r w j) g₀ g₁
  edges_first g₀ g₁ first i o =
      said_first w j o (IncludesByOne n (rules_at n (others_of r) j) j i)
      (IncludesByOne n (rules_at n (solid_of r) j) j i)
      (subst (λ l. AreEdgesTo g₀ g₁ j (IncludesByOne n l j)) (listed_at n (others_of r) j x others at are_others)
      first i o) lacks

  pub back_first : (ls₀ ls₁ : List Lookback) → AreBack ls₀ ls₁ j (LooksBackByOne n others j)
      → AreBackBy (BackFrom n r w j) ls₀ ls₁
  back_first ls₀ ls₁ first s p o =
      said_first w j o (LooksBackByOne n (rules_at n (others_of r) j) j s p)
      (LooksBackByOne n (rules_at n (solid_of r) j) j s p)
      (subst (λ l. AreBack ls₀ ls₁ j (LooksBackByOne n l j)) (listed_at n (others_of r) j x others at are_others)
      first s p o) lacks

-- where the same terminals lead from two states to the same ones, rules that begin with terminals lead alike
pub shifts_alike : (M : Lr0Automaton) (rules : List ℕ) (p q : ℕ)
    → ((k : ℕ) → Contains rules k → BeginsSolid M.grammar k)
    → ((t : ℕ) → goto_of M p (terminal t) ≡ goto_of M q (terminal t)) → LeadAlike M rules p q
shifts_alike M rules p q solid same k has r X rest is_rule begins =
    let first = solid k has r is_rule in
    let whole : X ∷ rest ≡ terminal first.0 ∷ first.1 = sym begins ∙ first.2 in
    let here : X ≡ terminal first.0 = cc in
    subst (λ Y. goto_of M p Y ≡ goto_of M q Y) (sym here) (same first.0)
