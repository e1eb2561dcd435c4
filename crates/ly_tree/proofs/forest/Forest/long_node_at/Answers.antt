use Rattle.std.proofs.Common.{◌∙◌, ap, get_or, length, refl}
use Rattle.std.proofs.lemmas.Option.{slice_get_read}
use Rattle.ly_tree.proofs.GrownLemmas.{long_node_inside, long_node_is}
use Rattle.ly_tree.specs.Forest.{number_of}
use Rattle.ly_tree.proofs.forest.Forest.long_node_at.Goals as goal

pub returns-clause-term : goal.returns-clause-term
returns-clause-term c =
    let spans = c.self.inside.long_nodes.items in
    let span = c.index.result.now in
    let texts = c.self.inside.texts in
    let long = c.self.inside.long_leaves in
    long_node_is texts long spans c.self.inside.children.items c.args.self.now c.args.high c.args.low span
    c.self.view_is (slice_get_read spans (length spans) (number_of c.args.high c.args.low) span refl
    (long_node_inside texts long spans c.self.inside.children.items c.args.self.now c.args.high c.args.low
    c.self.view_is c.requires) (c.index.ensures ∙ ap (λ k. get_or spans k span) c.number_of.ensures))
    ∙ c.children_of.ensures.term
