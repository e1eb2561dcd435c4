use Rattle.std.proofs.Common.{◌∙◌, ap, get_or, length, refl, subst}
use Rattle.std.specs.Prelude.{IsSome}
use Rattle.std.proofs.lemmas.Option.{slice_get_read}
use Rattle.ly_tree.proofs.ChildLemmas.{long_node_seen, short_seen}
use Rattle.ly_tree.proofs.GrownLemmas.{long_node_inside}
use Rattle.ly_tree.specs.Forest.{number_of, term_of}
use Rattle.ly_tree.proofs.forest.Forest.look.Goals as goal

pub returns-in-ShortLeaf : goal.returns-in-ShortLeaf
returns-in-ShortLeaf c children =
    short_seen c.args.self.now children c.in-ShortLeaf.length c.in-ShortLeaf.terminal c.in-ShortLeaf.start
    c.from.result c.args.term c.requires c.in-ShortLeaf.is c.from.ensures

pub returns-in-LongLeaf : goal.returns-in-LongLeaf
returns-in-LongLeaf c children = (
  c.long_leaf_at.result.1.now,
  ap (term_of (record { lists = c.args.self.now.lists; children = children })) c.in-LongLeaf.is
      ∙ c.long_leaf_at.ensures,
)

pub returns-in-LongNode : goal.returns-in-LongNode
returns-in-LongNode c children =
    let texts = c.self.inside.texts in
    let long = c.self.inside.long_leaves in
    let spans = c.self.inside.long_nodes.items in
    let high = c.in-LongNode.high in
    let low = c.in-LongNode.low in
    let span = c.index.result.now in
    long_node_seen texts long spans c.self.inside.children.items c.args.self.now children high low span c.args.term
    c.self.view_is c.in-LongNode.is
    (slice_get_read spans (length spans) (number_of high low) span refl
    (long_node_inside texts long spans c.self.inside.children.items c.args.self.now high low c.self.view_is
    (subst (λ r. IsSome (term_of c.args.self.now r)) c.in-LongNode.is c.requires))
    (c.index.ensures ∙ ap (λ k. get_or spans k span) c.number_of.ensures))
