use Rattle.std.proofs.Common.{arith, set, subst, sym}
use Rattle.std.specs.Prelude.{true}
use Rattle.ly_scan.specs.Lexer.{Scanner}
use Rattle.ly_scan.specs.LoneBytes.{AreLone}
use Rattle.ly_scan.proofs.LoneByteLemmas.{one_added}
use Rattle.ly_scan.proofs.lone_bytes.LoneBytes.add.Goals as goal

pub returns-then-is_passed-2 : goal.returns-then-is_passed-2
returns-then-is_passed-2 g c =
    let scanner : Scanner
    = record { walk = g.S.Steps.walk c.args.steps.now; cut = g.S.Steps.cut_of c.args.steps.now } in
    let begins = c.self.inside.begins.items in
    let first = c.follow in
    let next = c.follow-then-is_passed-2 in
    λ h. subst (λ i. AreLone scanner c.args.passed.now (set begins i true, next.new.goes_on.items))
    (sym c.from.ensures)
    (one_added scanner c.args.passed.now begins c.self.inside.goes_on.items next.new.goes_on.items c.args.byte
    (omega arith) (subst (AreLone scanner c.args.passed.now) (sym c.self.view_is) h)
    c.if-is_passed.ensures c.if-is_passed-2.ensures
    (λ k e. first.ensures.kept k (next.ensures.kept k e))
    (λ k low e. first.ensures.ended k low (next.ensures.kept k e)) next.ensures.ended)
