use Rattle.std.proofs.Common.{◌≡◌, ◌<◌, ◌≤◌, ◌+◌, ◌∙◌, ℕ, Option, Some, None, All, ap, arith, length, refl}
use Rattle.std.proofs.Common.{slice_index_or, subst, sym}
use Rattle.std.specs.Prelude.{IfSome}
use Rattle.std.proofs.lemmas.List.Elements.{All-get_or, All-set}
use Rattle.std.proofs.Math.ListN.{length-set}
use Rattle.ly_relate.specs.Private.Groups.{AreGroups, solid_of}
use Rattle.ly_relate.specs.Values.{goto_from}
use Rattle.ly_relate.proofs.GotoLemmas.{numbered_named}
use Rattle.ly_relate.proofs.NodeLemmas.{groups_more}
use Rattle.ly_relate.proofs.groups.Groups.new.Goals as goal
use Rattle.ly_relate.proofs.groups.Groups.new.Goals.{then-node-goto, else-node-goto}

-- a nonterminal has a place in a list that has one for each
in_room : (A accept items vec solid : ℕ) → A ≤ accept → accept < solid → vec ≡ items → items ≡ solid → A < vec
in_room A accept items vec solid le lt a b = omega (arith, le, lt, a, b)

-- one that was below a number is below the next
later : (k : ℕ) (o : Option ℕ) → IfSome o (λ e. e < k) → IfSome o (λ e. e < k + 1)
later k None is = is
later k (Some e) is = omega (arith, is)

pub index-requires : goal.index-requires
index-requires c =
    in_room c.get.result.symbol.0 c.args.gotos.now.automaton.grammar.accept (length c.loop-goto.last.items) _
    (length c.args.rules.now.solid)
    (numbered_named c.args.gotos.now c.get.ensures.lawful c.loop-goto.goto (goto_from c.get.result) c.get.ensures.there)
    c.requires.solid c.loop-goto.last.ok.0 c.loop-goto.invariant.room

pub node_for-requires-clause-earlier : goal.node_for-requires-clause-earlier
node_for-requires-clause-earlier c =
    subst (λ o. IfSome o (λ e. e < c.loop-goto.goto)) (sym c.index.ensures)
    (All-get_or (λ o. IfSome o (λ e. e < c.loop-goto.goto)) c.loop-goto.last.items c.get.result.symbol.0
    c.index.result.now (in_room c.get.result.symbol.0 c.args.gotos.now.automaton.grammar.accept
    (length c.loop-goto.last.items) (length c.loop-goto.last.items) (length c.args.rules.now.solid)
    (numbered_named c.args.gotos.now c.get.ensures.lawful c.loop-goto.goto (goto_from c.get.result) c.get.ensures.there)
    c.requires.solid refl c.loop-goto.invariant.room) c.loop-goto.invariant.last)

pub index_mut-requires : goal.index_mut-requires
index_mut-requires c =
    in_room c.get.result.symbol.0 c.args.gotos.now.automaton.grammar.accept (length c.loop-goto.last.items) _
    (length c.args.rules.now.solid)
    (numbered_named c.args.gotos.now c.get.ensures.lawful c.loop-goto.goto (goto_from c.get.result) c.get.ensures.there)
    c.requires.solid c.loop-goto.last.ok.0 c.loop-goto.invariant.room

pub loop-goto-preserved : goal.loop-goto-preserved
loop-goto-preserved c =
    let n = c.args.gotos.now in
    let solid = solid_of c.args.rules.now in
    let k = c.loop-goto.goto in
    let lt = c.loop-goto-test.true in
    let count = c.len-goto-end.ensures.count in
    let in_list : k < length n.gotos = omega (arith, lt, count) in
    let known = c.loop-goto.invariant.last in
    let room = c.loop-goto.invariant.room in
    let more : All (λ o. IfSome o (λ e. e < k + 1)) c.loop-goto.last.items
    = λ i d within. later k (slice_index_or c.loop-goto.last.items i d) (known i d within) in
    record {
      within = omega (arith, in_list);
      last = elim c.if-node-goto.branch [
        | then-node-goto w ↦ subst (λ v. All (λ o. IfSome o (λ e. e < k + 1)) v.items) (sym w.last-is)
            (All-set (λ o. IfSome o (λ e. e < k + 1)) c.loop-goto.last.items c.get.result.symbol.0 (Some k)
            (omega arith) more)
        | else-node-goto w ↦ subst (λ v. All (λ o. IfSome o (λ e. e < k + 1)) v.items) (sym w.last-is) more
      ];
      room = elim c.if-node-goto.branch [
        | then-node-goto w ↦ ap (λ v. length v.items) w.last-is
            ∙ (length-set c.loop-goto.last.items c.get.result.symbol.0 (Some k) ∙ room)
        | else-node-goto w ↦ ap (λ v. length v.items) w.last-is ∙ room
      ];
      groups = subst (AreGroups n solid (k + 1)) (sym c.in_ok-push.ensures)
          (groups_more n solid k (omega (arith, in_list)) c.node_for.new.self c.in_ok-node.node
          c.in_ok-node.ensures.after c.in_ok-node.ensures.node);
    }
