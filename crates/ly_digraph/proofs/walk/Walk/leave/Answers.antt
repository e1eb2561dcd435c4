use Rattle.std.proofs.Common.{◌≡◌, ◌∙◌, ◌++◌, ◌∷◌, [], ap, sym, subst, refl, length, get_or}
use Rattle.ly_digraph.specs.Search.{IsAtFrame, IsClosed}
use Rattle.ly_digraph.specs.declared.walk.Walk.{Walk}
use Rattle.ly_digraph.proofs.StepLemmas.{top_is}
use Rattle.ly_digraph.proofs.CloseLemmas.{closed_on, at_popped, continues_popped}
use Rattle.ly_digraph.proofs.walk.Walk.leave.Goals as goal

pub returns-in_ok-close-clause-on : goal.returns-in_ok-close-clause-on
returns-in_ok-close-clause-on c =
    let w : Walk = c.args.self.now in
    let popped : Walk = record w { path = c.pop.new.self } in
    let items : w.path.items ≡ c.pop.new.self.items ++ c.in-Some.frame ∷ [] = c.in-Some.ensures.items in
    let at : IsAtFrame c.args.graph.now c.args.sets.now.sets popped c.in-Some.frame
    = at_popped w c.pop.new.self.items c.in-Some.frame items c.requires.at in
    let spent : get_or popped.cursors.items c.in-Some.frame.node 0 ≡ 0
    = ap (λ f. get_or w.cursors.items f.node 0) (sym (top_is w c.pop.new.self.items c.in-Some.frame items))
    ∙ c.requires.spent in
    let closed : IsClosed c.args.sets.now c.close.new.sets popped.places.items c.close.new.self.places.items
    c.in-Some.frame.start (length popped.pending.items) c.in-Some.frame.node =
    subst (λ n. IsClosed c.args.sets.now c.close.new.sets popped.places.items c.close.new.self.places.items
    c.in-Some.frame.start n c.in-Some.frame.node) w.pending.ok.0 c.in_ok-close.ensures.closed in
    continues_popped w popped refl refl
    (closed_on c.args.graph.now c.args.sets.now c.close.new.sets popped c.close.new.self c.in-Some.frame at spent
    c.if-frame.true closed c.in_ok-close.ensures.pending c.in_ok-close.ensures.cursors c.in_ok-close.ensures.path)
