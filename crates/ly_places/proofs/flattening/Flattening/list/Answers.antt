use Rattle.std.proofs.Common.{◌∙◌, ap, arith, drop, refl, subst, Some}
use Rattle.std.proofs.lemmas.Result.{on_ok_weaker}
use Rattle.ly_places.proofs.ListedLemmas.{node_listed, node_seen, node_shaped, node_taken, plain_listed, plain_taken}
use Rattle.ly_places.proofs.ListedLemmas.{term_seen}
use Rattle.ly_places.proofs.MeasureLemmas.{child_within}
use Rattle.ly_places.specs.Private.Kept.{first_extent}
use Rattle.ly_places.specs.Private.Waiting.{kind_of, shapes_of}
use Rattle.ly_places.specs.declared.part.Part.{Part}
use Rattle.ly_tree.specs.Look.{IsSeen}
use Rattle.ly_tree.specs.Private.Printing.{term_at}
use Rattle.ly_places.proofs.flattening.Flattening.list.Goals as goal

pub measured-requires : goal.measured-requires
measured-requires c =
    let d = c.args.self.now in
    let f = d.forest.now in
    child_within (shapes_of d) f.children (term_at f c.args.next.term) c.look-look.result d.measures.now
    (term_seen f c.args.next.term c.look-look.result c.requires.ready.known c.look-look.ensures)
    c.requires.measured.measures

pub extent_at-requires : goal.extent_at-requires
extent_at-requires c =
    let d = c.args.self.now in
    let f = d.forest.now in
    let t = term_at f c.args.next.term in
    let seen = term_seen f c.args.next.term c.look-look.result c.requires.ready.known c.look-look.ensures in
    omega (
      arith,
      c.requires.ready.within,
      ap (λ m. m.tokens) (c.in_ok-measure.ensures f.children t seen c.requires.measured.measures),
    )

pub list_node-requires : goal.list_node-requires
list_node-requires c =
    let d = c.args.self.now in
    let f = d.forest.now in
    let t = term_at f c.args.next.term in
    let s = c.in-Node.span in
    let seen = subst (λ l. IsSeen f.children l (Some t)) c.in-Node.is
    (term_seen f c.args.next.term c.look-look.result c.requires.ready.known c.look-look.ensures) in
    let node = node_seen (shapes_of d) f d.measures.now s t seen c.requires.measured.measures in record {
      children = omega (arith, node.within, c.requires.measured.children.count);
      measures = node.measured;
      tokens = omega (arith, node.tokens, c.requires.ready.within);
      shape = node_shaped (shapes_of d) f d.measures.now s t node c.requires.ready.whole;
    }

pub returns-in-Node : goal.returns-in-Node
returns-in-Node c =
    let d = c.args.self.now in
    let f = d.forest.now in
    let t = term_at f c.args.next.term in
    let s = c.in-Node.span in
    let look = c.look-look.result in
    let seen = term_seen f c.args.next.term look c.requires.ready.known c.look-look.ensures in
    let measure = c.in_ok-measure.ensures f.children t seen c.requires.measured.measures in
    let node = node_seen (shapes_of d) f d.measures.now s t
    (subst (λ l. IsSeen f.children l (Some t)) c.in-Node.is seen) c.requires.measured.measures in
    let part : Part = record {
      kind = c.kind_of.result;
      extent = c.extent_at.result;
      parts = c.in_ok-measure.measure.parts;
    } in
    on_ok_weaker c.list_node.result
    (node_listed (shapes_of d) d.tokens.now f c.args.next s.rule.0 (shapes_of d s.rule.0) part.extent part _
    c.args.listing.now c.list_node.new.listing
    (node_taken (shapes_of d) d.tokens.now f c.args.next d.children.now d.measures.now s part node
    c.requires.measured.children c.requires.measured.measures c.requires.ready
    (c.kind_of.ensures ∙ ap kind_of c.in-Node.is)
    (c.extent_at.ensures
    ∙ ap (λ m. first_extent c.args.next.last m.tokens (drop c.args.next.first d.tokens.now)) measure)
    (ap (λ m. m.parts) measure)) c.requires.others) c.list_node.ensures

pub returns : goal.returns
returns c =
    let d = c.args.self.now in
    let f = d.forest.now in
    let t = term_at f c.args.next.term in
    let look = c.look-look.result in
    let seen = term_seen f c.args.next.term look c.requires.ready.known c.look-look.ensures in
    let measure = c.in_ok-measure.ensures f.children t seen c.requires.measured.measures in
    let part : Part = record {
      kind = c.kind_of.result;
      extent = c.extent_at.result;
      parts = c.in_ok-measure.measure.parts;
    } in
    let taken = plain_taken (shapes_of d) d.tokens.now f c.args.next look part seen c.in_default.not-Node
    c.kind_of.ensures
    (c.extent_at.ensures
    ∙ ap (λ m. first_extent c.args.next.last m.tokens (drop c.args.next.first d.tokens.now)) measure)
    (ap (λ m. m.parts) measure) in
    plain_listed (shapes_of d) d.tokens.now f c.args.next part c.args.listing.now _ taken.0 taken.1 c.requires.others
    c.in_ok-push.ensures.items refl
