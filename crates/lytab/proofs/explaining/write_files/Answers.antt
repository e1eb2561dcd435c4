use Rattle.std.proofs.Common.{option_map}
use Rattle.lytab.specs.CarriedOut.{drawn_by}
use Rattle.lytab.proofs.FilesLemmas.{both_keep, names_graph, names_states, writing_if_keeps}
use Rattle.lytab.proofs.explaining.write_files.Goals as goal

pub returns-clause-others : goal.returns-clause-others
returns-clause-others g c =
    let paths = drawn_by c.args.paths in
    let states = option_map (λ p. p.now) c.args.paths.states in
    let graph = option_map (λ p. p.now) c.args.paths.graph in
    let before = g.D.Folder.holds c.args.folder.now in
    let between = g.D.Folder.holds c.write_if_named.new.folder in
    let after = g.D.Folder.holds c.write_if_named-2.new.folder in
    both_keep paths before between after
    (writing_if_keeps paths states c.args.explanation.now.states c.write_if_named.result before between
    (names_states states graph) c.write_if_named.ensures.written c.write_if_named.ensures.left)
    (writing_if_keeps paths graph c.args.explanation.now.picture c.write_if_named-2.result between after
    (names_graph states graph) c.write_if_named-2.ensures.written c.write_if_named-2.ensures.left)
