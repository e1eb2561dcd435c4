use Rattle.std.proofs.Common.{arith, ap, length, length-drop, subst}
use Rattle.ly_scan.proofs.LexerLemmas.{passes_one}
use Rattle.ly_scan.specs.LoneBytes.{AreLone}
use Rattle.ly_scan.specs.Pieces.{none_yet}
use Rattle.ly_scan.specs.Lexers.{scanner_of}
use Rattle.ly_scan.proofs.lexer.Lexer.pass_over.Goals as goal

pub loop-self-init : goal.loop-self-init
loop-self-init c = record { passed = none_yet; left = omega arith }

pub loop-self-preserved : goal.loop-self-preserved
loop-self-preserved c =
    let l = c.args.self.now in
    let lone = c.self.inside.lone in
    record {
      passed = passes_one (scanner_of l.scanner) l.passed c.args.place.now c.loop-self.place c.advance.new.self
          c.loop-self.invariant.passed
          (c.loop-self-test.ensures.lone (scanner_of l.scanner) l.passed
          (subst (λ l. AreLone (scanner_of l.scanner) l.passed lone) c.self.view_is c.self.invariant))
          c.advance.ensures;
      left = omega (
        arith,
        c.loop-self.invariant.left,
        ap (λ p. length p.rest) c.advance.ensures,
        length-drop 1 c.loop-self.place.rest,
      );
    }
