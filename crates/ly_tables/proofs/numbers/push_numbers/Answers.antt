use Rattle.std.proofs.Common.{◌++◌, All, subst, sym}
use Rattle.std.specs.List.{flat_map}
use Rattle.std.proofs.lemmas.List.Elements.{All-drop}
use Rattle.ly_tables.specs.Ranges.{width_of}
use Rattle.ly_tables.specs.Spelling.{number}
use Rattle.ly_tables.proofs.BlockLemmas.{block_put}
use Rattle.ly_tables.proofs.numbers.push_numbers.Goals as goal

pub loop-left-preserved : goal.loop-left-preserved
loop-left-preserved g c = (
  subst (All (g.N.Numbering.has c.args.version)) (sym c.split_at.ensures.back)
      (All-drop (g.N.Numbering.has c.args.version) c.min.result c.loop-left.left.now c.loop-left.invariant.0),
  block_put (λ x. number (width_of c.args.version) (g.N.Numbering.code c.args.version x)) c.loop-left.out.items
      c.push_block.new.out.items (c.args.out.now.items
      ++ flat_map (λ x. number (width_of c.args.version) (g.N.Numbering.code c.args.version x)) c.args.items.now)
      c.min.result c.loop-left.left.now c.split_at.result.0.now c.split_at.result.1.now c.split_at.ensures.front
      c.split_at.ensures.back c.in_ok-push_block.ensures c.loop-left.invariant.1,
)
