-- Nodes that stand for transitions, as they are given out.
use Rattle.std.proofs.Common.{◌≡◌, ◌≢◌, ◌∙◌, ◌⊎◌, inl, inr, ℕ, ◌+◌, ◌<◌, ◌≤◌, ◌++◌, ◌∷◌, [], List, ap, arith, length}
use Rattle.std.proofs.Common.{refl, slice_index_or, slice_set, subst, sym}
use Rattle.std.proofs.lemmas.Bool.{cases_eq, cases_order}
use Rattle.std.proofs.lemmas.List.{get_or-set_other, get_or-set_same, get_or_append_left, length-append}
use Rattle.std.proofs.lemmas.Option.{slice_get-get_or}
use Rattle.std.proofs.Math.ListN.{length-set}
use Rattle.std.proofs.Math.Seq.{get_or-append_seam}
use Rattle.ly_relate.specs.Private.Gotos.{Numbering}
use Rattle.ly_relate.specs.Private.Groups.{AreGroupable, AreGroups, Grouping, IsJoined, IsNodeBeside, IsNodeFor}
use Rattle.ly_relate.specs.Private.Groups.{leader_of, node_of}
use Rattle.ly_relate.specs.Private.Walks.{no_goto}
use Rattle.ly_relate.proofs.AlikeLemmas.{alike_more}

module _ (n : Numbering) (solid : ℕ → List ℕ) (k : ℕ) (few : k ≤ length n.gotos) where
  -- a transition leads as itself
  alike_same : (j : ℕ) → j < length n.gotos → AreGroupable n solid j j
  alike_same j lt =
      let x = slice_index_or n.gotos j no_goto in
      let at = slice_get-get_or n.gotos j no_goto lt in
      (x, x, at, at, refl, λ i has r X rest is body. refl)

  -- a transition that stood for itself gets the next node
  module _ (old : Grouping) (are : AreGroups n solid k old) (l : ℕ) (lt : l < k) (own : node_of old l ≡ l) where
    abbrev next : Grouping
    next = record {
      nodes = slice_set old.nodes l old.end;
      leaders = old.leaders ++ l ∷ [];
      end = old.end + 1;
    }

    more : length next.leaders ≡ length old.leaders + 1
    more = length-append old.leaders (l ∷ [])

    changed : node_of next l ≡ length n.gotos + length old.leaders
    changed = get_or-set_same old.nodes l old.end 0 (let long = are.long in omega (arith, lt, long)) ∙ are.end

    same : (j : ℕ) → j ≢ l → node_of next j ≡ node_of old j
    same j ne = get_or-set_other old.nodes l j old.end 0 ne

    first : leader_of next (length old.leaders) ≡ l
    first = get_or-append_seam old.leaders l [] 0

    kept : (g : ℕ) → g < length old.leaders → leader_of next g ≡ leader_of old g
    kept g within = get_or_append_left old.leaders (l ∷ []) 0 g within

    own_joined : IsJoined n solid k next l (length old.leaders)
    own_joined = record {
      within = (let m = more in omega (arith, m));
      node = changed;
      leader = subst (λ i. i < k) (sym first) lt;
      leads = ap (node_of next) first ∙ changed;
      alike = subst (λ i. AreGroupable n solid i l) (sym first) (alike_same l (omega (arith, lt, few)));
    }

    still_joined : (j g : ℕ) → j ≢ l → IsJoined n solid k old j g → IsJoined n solid k next j g
    still_joined j g ne is = record {
      within = (let m = more in let in_list = is.within in omega (arith, m, in_list));
      node = same j ne ∙ is.node;
      leader = subst (λ i. i < k) (sym (kept g is.within)) is.leader;
      leads = ap (node_of next) (kept g is.within) ∙ (same (leader_of old g) other ∙ is.leads);
      alike = subst (λ i. AreGroupable n solid i j) (sym (kept g is.within)) is.alike;
    } where
      other : leader_of old g ≢ l
      other e =
          let past : node_of old l ≡ length n.gotos + g = ap (node_of old) (sym e) ∙ is.leads in
          omega (arith, past, own, lt, few)

    next_groups : AreGroups n solid k next
    next_groups = record {
      long = length-set old.nodes l old.end ∙ are.long;
      end = (let m = more in let end = are.end in omega (arith, m, end));
      each = λ j in_list. elim (cases_eq j l) [
        | inl e ↦ inr (subst (λ i. (g : ℕ) × IsJoined n solid k next i g) (sym e) (length old.leaders, own_joined))
        | inr ne ↦ elim (are.each j in_list) [
          | inl stays ↦ inl (same j ne ∙ stays)
          | inr joined ↦ inr (joined.0, still_joined j joined.0 ne joined.1)
        ]
      ];
    }

  -- the node of a transition that stands for others too
  pub joined_beside : (old new : Grouping) (l node : ℕ) → AreGroups n solid k old → l < k → IsNodeBeside old new l node
      → AreGroups n solid k new × (g : ℕ) × IsJoined n solid k new l g × (node ≡ length n.gotos + g)
  joined_beside old new l node are lt beside = at beside.how where
    at : ((node_of old l ≢ l) × (new ≡ old)) ⊎ ((node_of old l ≡ l) × (new ≡ record {
      nodes = slice_set old.nodes l
          old.end;
      leaders = old.leaders ++ l ∷ [];
      end = old.end + 1;
    }))
        → AreGroups n solid k new × (g : ℕ) × IsJoined n solid k new l g × (node ≡ length n.gotos + g)
    at (inl (ne, e)) = elim (are.each l lt) [
      | inl own ↦ absurd (ne own)
      | inr joined ↦
          let is = subst (λ w. IsJoined n solid k w l joined.0) (sym e) joined.1 in (
            subst (AreGroups n solid k) (sym e) are,
            joined.0,
            is,
            sym beside.is ∙ is.node,
          )
    ]
    at (inr (own, e)) =
        let is = subst (λ w. IsJoined n solid k w l (length old.leaders)) (sym e) (own_joined old are l lt own) in (
          subst (AreGroups n solid k) (sym e) (next_groups old are l lt own),
          length old.leaders,
          is,
          sym beside.is ∙ is.node,
        )

  -- and that of the next transition, if it leads as one that stands for others
  pub node_joined : (w : Grouping) (l node : ℕ)
      → (g : ℕ) × IsJoined n solid k w l g × (node ≡ length n.gotos + g) → AreGroupable n solid l k
      → IsNodeFor n solid w k node
  node_joined w l node (g, is, e) alike = inr (
    g,
    is.within,
    e,
    is.leader,
    is.leads ∙ sym e,
    alike_more n solid (leader_of w g) l k is.alike alike,
  )

  -- one more transition has its node
  module _ (w : Grouping) (node : ℕ) (are : AreGroups n solid k w) (is : IsNodeFor n solid w k node) where
    abbrev new : Grouping
    new = record { nodes = w.nodes ++ node ∷ []; leaders = w.leaders; end = w.end }

    earlier : (j : ℕ) → j < k → node_of new j ≡ node_of w j
    earlier j lt = get_or_append_left w.nodes (node ∷ []) 0 j (let long = are.long in omega (arith, lt, long))

    last : node_of new k ≡ node
    last = ap (λ i. slice_index_or (w.nodes ++ node ∷ []) i 0) (sym are.long) ∙ get_or-append_seam w.nodes node [] 0

    each_more : (j : ℕ) → j < k + 1 → (j ≡ k) ⊎ ((j < k) ⊎ (k < j))
        → (node_of new j ≡ j) ⊎ ((g : ℕ) × IsJoined n solid (k + 1) new j g)
    each_more j lt (inl e) = subst (λ i. (node_of new i ≡ i) ⊎ ((g : ℕ) × IsJoined n solid (k + 1) new i g)) (sym e)
        (elim is [
          | inl own ↦ inl (last ∙ own)
          | inr (g, within, number, leader, leads, alike) ↦ inr (
            g,
            record {
              within = within;
              node = last ∙ number;
              leader = omega (arith, leader);
              leads = earlier (leader_of w g) leader ∙ (leads ∙ number);
              alike = alike;
            },
          )
        ])
    each_more j lt (inr (inl less)) = elim (are.each j less) [
      | inl own ↦ inl (earlier j less ∙ own)
      | inr (g, joined) ↦ inr (
        g,
        record {
          within = joined.within;
          node = earlier j less ∙ joined.node;
          leader = (let lead = joined.leader in omega (arith, lead));
          leads = earlier (leader_of w g) joined.leader ∙ joined.leads;
          alike = joined.alike;
        },
      )
    ]
    each_more j lt (inr (inr above)) = absurd (omega (arith, lt, above))

    pub groups_more : AreGroups n solid (k + 1)
        (record { nodes = w.nodes ++ node ∷ []; leaders = w.leaders; end = w.end })
    groups_more = record {
      long = length-append w.nodes (node ∷ []) ∙ ap (λ m. m + 1) are.long;
      end = are.end;
      each = λ j lt. each_more j lt (cases_order j k);
    }
