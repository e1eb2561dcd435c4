use Rattle.std.proofs.Common.{subst, sym}
use Rattle.ly_tree.proofs.PlainLemmas.{plain_within}
use Rattle.ly_tree.specs.Shown.{plain, Vocabulary}
use Rattle.ly_tree.specs.Written.{IsWithin}
use Rattle.ly_tree.proofs.plain.PlainTermNotation.most.Goals as goal

pub returns : goal.returns
returns g c =
    let v : Vocabulary = record {
      terminal = g.W.Words.terminals c.args.self.now.words.now;
      constructor = g.W.Words.constructors c.args.self.now.words.now;
    } in
    subst (λ n. IsWithin (plain v) n 4) (sym c.in_ok-checked_add.ensures.1)
    (plain_within v c.longest.result c.longest.ensures.leaves c.longest.ensures.nodes)
