use Rattle.std.proofs.Common.{subst, sym}
use Rattle.ly_scan.specs.Lexer.{Scanner}
use Rattle.ly_scan.specs.LoneBytes.{AreLone}
use Rattle.ly_scan.proofs.LoneByteLemmas.{none_begins}
use Rattle.ly_scan.proofs.lone_bytes.LoneBytes.find.Goals as goal

pub loop-byte-init : goal.loop-byte-init
loop-byte-init g c =
    let scanner : Scanner
    = record { walk = g.S.Steps.walk c.args.steps.now; cut = g.S.Steps.cut_of c.args.steps.now } in record {
      lone = subst (λ b. AreLone scanner c.args.passed.now (b, c.in_ok-vec-2.field-0.items))
          (sym (c.in_ok-vec.ensures.items_if_clones_equal (λ y e. e)))
          (none_begins scanner c.args.passed.now c.in_ok-vec-2.field-0.items
          (g.met.S.Steps.stays_ended c.args.steps.now 0));
    }
