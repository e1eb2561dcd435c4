use Rattle.std.proofs.Common.{[], ◌∷◌, ◌∙◌, ap, length, sym}
use Rattle.std.proofs.lemmas.List.{length-map}
use Rattle.ly_tree.proofs.CostLemmas.{long_pays}
use Rattle.ly_tree.proofs.GrownLemmas.{lists_keep, lists_known, long_joined, long_stands}
use Rattle.ly_tree.specs.Private.Grown.{lists_from, long_leaf}
use Rattle.ly_tree.proofs.forest.Forest.long_leaf.Goals as goal

pub invariant_of-self-2 : goal.invariant_of-self-2
invariant_of-self-2 c =
    lists_known (lists_from c.self.inside.texts c.self.inside.long_leaves c.self.inside.long_nodes.items)
    (record { texts = []; long_leaves = long_leaf (c.args.terminal, c.args.text.now) ∷ []; long_nodes = [] })
    (lists_from c.self.inside.texts c.push.new.self c.self.inside.long_nodes.items) c.self.inside.children.items
    c.self.invariant
    (long_joined c.self.inside.texts c.self.inside.long_leaves c.push.new.self c.self.inside.long_nodes.items
    (c.args.terminal, c.args.text.now) c.in_ok-push.ensures.ok)

pub returns-clause-stands : goal.returns-clause-stands
returns-clause-stands c =
    long_stands c.self.inside.texts c.self.inside.long_leaves c.push.new.self c.self.inside.long_nodes.items
    c.self.inside.children.items (c.args.terminal, c.args.text.now) c.args.high c.args.low c.in_ok-push.ensures.ok
    (c.requires ∙ (ap (λ f. length f.lists.long_leaves) (sym c.self.view_is)
    ∙ length-map c.self.inside.long_leaves long_leaf))

pub returns-clause-keeps : goal.returns-clause-keeps
returns-clause-keeps c =
    lists_keep (lists_from c.self.inside.texts c.self.inside.long_leaves c.self.inside.long_nodes.items)
    (record { texts = []; long_leaves = long_leaf (c.args.terminal, c.args.text.now) ∷ []; long_nodes = [] })
    (lists_from c.self.inside.texts c.push.new.self c.self.inside.long_nodes.items) c.self.inside.children.items
    c.args.self.now c.self.invariant
    c.self.view_is (long_joined c.self.inside.texts c.self.inside.long_leaves c.push.new.self
    c.self.inside.long_nodes.items (c.args.terminal, c.args.text.now) c.in_ok-push.ensures.ok)

pub returns-clause-pays : goal.returns-clause-pays
returns-clause-pays c each byte =
    long_pays c.self.inside.texts c.self.inside.long_leaves c.push.new.self c.self.inside.long_nodes.items
    (c.args.terminal, c.args.text.now)
    c.self.inside.children.items c.args.self.now each byte c.self.invariant c.self.view_is c.in_ok-push.ensures.ok
