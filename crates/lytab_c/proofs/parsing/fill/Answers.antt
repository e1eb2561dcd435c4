use Rattle.std.proofs.Common.{◌≡◌, ◌∙◌, ap, arith, get_or, length, min}
use Rattle.std.proofs.Math.ListN.{set}
use Rattle.ly_base.specs.declared.numbers.Sym.{Sym}
use Rattle.lytab_c.proofs.BlockLemmas.{mapped_all, mapped_put}
use Rattle.lytab_c.proofs.parsing.fill.Goals as goal

pub loop-index-preserved : goal.loop-index-preserved
loop-index-preserved c =
    let i = c.loop-index.index in
    let none : Sym = record { 0 = 0 } in
    ap (λ block. set block i (get_or c.args.terminals.now i none).0) c.loop-index.invariant
    ∙ mapped_put (λ t. t.0) c.args.terminals.now c.args.block.now i none (omega arith) (omega arith)

pub returns : goal.returns
returns c =
    let all : c.loop-index.index ≡ min (length c.args.terminals.now) (length c.args.block.now) = omega arith in
    c.loop-index.invariant ∙ mapped_all (λ t. t.0) c.args.terminals.now c.args.block.now c.loop-index.index all
