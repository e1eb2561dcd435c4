use Rattle.ly_tables.proofs.RangeLemmas.{All-at}
use Rattle.ly_base.specs.declared.numbers.Sym.{Sym}
use Rattle.ly_tables.specs.RawSet.{Fits}
use Rattle.ly_tables.specs.Ranges.{width_of}
use Rattle.ly_tables.proofs.symbol_part.push_literals.Goals as goal

pub push_number-requires : goal.push_number-requires
push_number-requires c = All-at (Fits (width_of c.args.version)) (λ (t : Sym). t.0) c.args.literals.now
    c.loop-literal.literal-index _
    c.loop-literal-test.true c.requires
