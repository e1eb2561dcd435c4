use Rattle.std.proofs.Common.{ℕ, ◌≡◌, ◌∙◌, ◌↔◌, ◌⊎◌, inl, inr, arith, map, subst, sym, Contains, refl, true, false}
use Rattle.ly_digraph.specs.Digraph.{IsEdge}
use Rattle.ly_relate.specs.Private.Groups.{node_of}
use Rattle.ly_relate.specs.Private.Walks.{AreBackBy, AreEdgesBy, BackFrom, EdgeTo}
use Rattle.ly_relate.specs.Values.{goto_from, lookback_from}
use Rattle.ly_relate.proofs.GotoLemmas.{numbered_named}
use Rattle.ly_relate.proofs.GroupLemmas.{back_both, back_first, edge_more, edge_same, edges_both, edges_first}
use Rattle.ly_relate.proofs.walks.Walks.walk_from.Goals as goal
use Rattle.ly_relate.proofs.walks.Walks.walk_from.Goals.{then-leads+in_ok-walk_rules-2, else-leads}

pub others-requires : goal.others-requires
others-requires c =
    let le = numbered_named c.args.gotos.now c.get.ensures.lawful c.args.goto (goto_from c.get.result)
    c.get.ensures.there in
    let lt = c.requires.rules.others in
    omega (arith, le, lt)

pub solid-requires : goal.solid-requires
solid-requires c =
    let le = numbered_named c.args.gotos.now c.get.ensures.lawful c.args.goto (goto_from c.get.result)
    c.get.ensures.there in
    let lt = c.requires.rules.solid in
    omega (arith, le, lt)

pub walk_rules-requires-clause-rules : goal.walk_rules-requires-clause-rules
walk_rules-requires-clause-rules c =
    let x = goto_from c.get.result in
    let le = numbered_named c.args.gotos.now c.get.ensures.lawful c.args.goto x c.get.ensures.there in (
      x,
      c.get.ensures.there,
      λ q has. ((c.requires.rules.each x.symbol le).all q).0
          (inr (subst (λ l. Contains l q) c.others.ensures has)),
    )

pub walk_rules-requires-then-leads-clause-rules : goal.walk_rules-requires-then-leads-clause-rules
walk_rules-requires-then-leads-clause-rules c =
    let x = goto_from c.get.result in
    let le = numbered_named c.args.gotos.now c.get.ensures.lawful c.args.goto x c.get.ensures.there in (
      x,
      c.get.ensures.there,
      λ q has. ((c.requires.rules.each x.symbol le).all q).0
          (inl (subst (λ l. Contains l q) c.solid.ensures has)),
    )

pub returns-in_ok-add-clause-includes : goal.returns-in_ok-add-clause-includes
returns-in_ok-add-clause-includes c = λ i o.
    let n = c.args.gotos.now in
    let r = c.args.rules.now in
    let w = c.args.groups.now in
    let j = c.args.goto in
    let x = goto_from c.get.result in
    let there = c.get.ensures.there in
    let old = c.args.self.now.includes in
    let first = c.walk_rules.new.self.includes in
    let said : AreEdgesBy (EdgeTo n r w j) old c.if-leads.self.includes
    = elim c.if-leads.branch [
      | then-leads+in_ok-walk_rules-2 b ↦ subst (λ v. AreEdgesBy (EdgeTo n r w j) old v.includes) (sym b.self-is)
          (edges_both n r w j c.node-node.result x there c.others.result.now b.solid.result.now c.others.ensures
          b.solid.ensures c.node-node.ensures old first
          b.walk_rules-then-leads.new.self.includes c.in_ok-walk_rules.ensures.includes
          b.in_ok-walk_rules-2.ensures.includes (b.if-leads.ensures.0 refl))
      | else-leads b ↦ subst (λ v. AreEdgesBy (EdgeTo n r w j) old v.includes) (sym b.self-is)
          (edges_first n r w j x there c.others.result.now c.others.ensures
          (λ l. let off : false ≡ true = b.if-leads.ensures.1 l in cc)
          old first c.in_ok-walk_rules.ensures.includes)
    ] in
    edge_more i (node_of w j) j o (said i o)
    (subst (λ k. IsEdge c.add.new.self i o ↔ (IsEdge c.if-leads.self.includes i o ⊎ ((o ≡ j) × (i ≡ k))))
    c.node-node.ensures (c.in_ok-add.ensures.edges i o)) (λ e. c.if-node-goto.true (c.node-node.ensures ∙ e))

pub returns-in_ok-add-clause-lookbacks : goal.returns-in_ok-add-clause-lookbacks
returns-in_ok-add-clause-lookbacks c =
    let n = c.args.gotos.now in
    let r = c.args.rules.now in
    let w = c.args.groups.now in
    let j = c.args.goto in
    let x = goto_from c.get.result in
    let there = c.get.ensures.there in
    let old = map lookback_from c.args.self.now.lookbacks in
    let first = map lookback_from c.walk_rules.new.self.lookbacks in
    let said : ℕ → ℕ → ℕ → Type 0 = BackFrom n r w j in
    elim c.if-leads.branch [
      | then-leads+in_ok-walk_rules-2 b ↦ subst (λ v. AreBackBy said old (map lookback_from v.lookbacks))
          (sym b.self-is)
          (back_both n r w j c.node-node.result x there c.others.result.now b.solid.result.now c.others.ensures
          b.solid.ensures c.node-node.ensures old first
          (map lookback_from b.walk_rules-then-leads.new.self.lookbacks) c.in_ok-walk_rules.ensures.lookbacks
          b.in_ok-walk_rules-2.ensures.lookbacks (b.if-leads.ensures.0 refl))
      | else-leads b ↦ subst (λ v. AreBackBy said old (map lookback_from v.lookbacks))
          (sym b.self-is)
          (back_first n r w j x there c.others.result.now c.others.ensures
          (λ l. let off : false ≡ true = b.if-leads.ensures.1 l in cc)
          old first c.in_ok-walk_rules.ensures.lookbacks)
    ]

pub returns-else-node-goto-clause-includes : goal.returns-else-node-goto-clause-includes
returns-else-node-goto-clause-includes c = λ i o.
    let n = c.args.gotos.now in
    let r = c.args.rules.now in
    let w = c.args.groups.now in
    let j = c.args.goto in
    let x = goto_from c.get.result in
    let there = c.get.ensures.there in
    let old = c.args.self.now.includes in
    let first = c.walk_rules.new.self.includes in
    let said : AreEdgesBy (EdgeTo n r w j) old c.if-leads.self.includes
    = elim c.if-leads.branch [
      | then-leads+in_ok-walk_rules-2 b ↦ subst (λ v. AreEdgesBy (EdgeTo n r w j) old v.includes) (sym b.self-is)
          (edges_both n r w j c.node-node.result x there c.others.result.now b.solid.result.now c.others.ensures
          b.solid.ensures c.node-node.ensures old first
          b.walk_rules-then-leads.new.self.includes c.in_ok-walk_rules.ensures.includes
          b.in_ok-walk_rules-2.ensures.includes (b.if-leads.ensures.0 refl))
      | else-leads b ↦ subst (λ v. AreEdgesBy (EdgeTo n r w j) old v.includes) (sym b.self-is)
          (edges_first n r w j x there c.others.result.now c.others.ensures
          (λ l. let off : false ≡ true = b.if-leads.ensures.1 l in cc)
          old first c.in_ok-walk_rules.ensures.includes)
    ] in
    edge_same i (node_of w j) j o (said i o) (sym c.node-node.ensures ∙ c.if-node-goto.false)

pub returns-else-node-goto-clause-lookbacks : goal.returns-else-node-goto-clause-lookbacks
returns-else-node-goto-clause-lookbacks c =
    let n = c.args.gotos.now in
    let r = c.args.rules.now in
    let w = c.args.groups.now in
    let j = c.args.goto in
    let x = goto_from c.get.result in
    let there = c.get.ensures.there in
    let old = map lookback_from c.args.self.now.lookbacks in
    let first = map lookback_from c.walk_rules.new.self.lookbacks in
    let said : ℕ → ℕ → ℕ → Type 0 = BackFrom n r w j in
    elim c.if-leads.branch [
      | then-leads+in_ok-walk_rules-2 b ↦ subst (λ v. AreBackBy said old (map lookback_from v.lookbacks))
          (sym b.self-is)
          (back_both n r w j c.node-node.result x there c.others.result.now b.solid.result.now c.others.ensures
          b.solid.ensures c.node-node.ensures old first
          (map lookback_from b.walk_rules-then-leads.new.self.lookbacks) c.in_ok-walk_rules.ensures.lookbacks
          b.in_ok-walk_rules-2.ensures.lookbacks (b.if-leads.ensures.0 refl))
      | else-leads b ↦ subst (λ v. AreBackBy said old (map lookback_from v.lookbacks))
          (sym b.self-is)
          (back_first n r w j x there c.others.result.now c.others.ensures
          (λ l. let off : false ≡ true = b.if-leads.ensures.1 l in cc)
          old first c.in_ok-walk_rules.ensures.lookbacks)
    ]
