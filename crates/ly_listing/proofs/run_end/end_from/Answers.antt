use Rattle.std.proofs.Common.{◌++◌, [], ap, arith, length, length-drop, refl, subst, sym, take}
use Rattle.std.specs.Prelude.{true}
use Rattle.ly_scan.proofs.PieceLemmas.{answered, end_at, lexeme_at}
use Rattle.ly_scan.specs.KnownWalks.{AreKnown}
use Rattle.ly_scan.specs.Lexers.{scanner_of}
use Rattle.ly_scan.specs.StateTable.{ahead_in}
use Rattle.ly_base.specs.Lexed.{token_if}
use Rattle.ly_listing.specs.Labels.{labelling}
use Rattle.ly_listing.proofs.TokenLemmas.{ends_from, one_more, passes_tokens, so_far_on}
use Rattle.ly_listing.proofs.run_end.end_from.Goals as goal

pub loop-lexeme-init : goal.loop-lexeme-init
loop-lexeme-init c = record {
  so_far = ([], ([], refl, refl));
  known = c.requires.known;
}

pub next-requires : goal.next-requires
next-requires c = record {
  known = c.pass_told-place.ensures.1.known (ahead_in c.args.lexer.now.scanner) c.loop-lexeme.known
      c.loop-lexeme.invariant.known;
}

pub loop-lexeme-preserved : goal.loop-lexeme-preserved
loop-lexeme-preserved c =
    let labels = c.args.labels.now in
    let s = scanner_of c.args.lexer.now.scanner in
    let start = c.args.start in
    let before = c.loop-lexeme.invariant.so_far in
    let on = c.pass_told-place.ensures in
    let told = before.0 ++ on.0 in
    let here = c.next.new.place in
    let lexeme = c.in-Ok-Some.lexeme in
    let fast = answered true s here c.in-Ok-Some.field-0 lexeme c.in-Ok-Some.field-0-is c.in-Ok-Some.ensures.found in
    let token = take lexeme.taken here.rest in
    let line = token_if (labelling labels lexeme.rule.0 token) here.at token in record {
      so_far = (
        told ++ line,
        one_more labels s start here c.advance.new.self lexeme c.begin.result token told (told ++ line)
            (lexeme_at s here true lexeme fast) c.begin.ensures c.advance.ensures refl refl
            (passes_tokens labels s c.args.lexer.now.passed start c.pass_told-place.result told c.requires.passed
            (so_far_on labels s start c.loop-lexeme.place c.pass_told-place.result before.0 on.0 before.1 on.1.so_far)
            c.next.ensures.passed),
      );
      known = subst (λ x. AreKnown (ahead_in c.args.lexer.now.scanner) true x.rest c.next.new.known)
          (sym c.advance.ensures) (c.next.ensures.known lexeme.taken fast.within);
    }

pub loop-lexeme-smaller : goal.loop-lexeme-smaller
loop-lexeme-smaller c =
    let s = scanner_of c.args.lexer.now.scanner in
    let here = c.next.new.place in
    let lexeme = c.in-Ok-Some.lexeme in
    let fast = answered true s here c.in-Ok-Some.field-0 lexeme c.in-Ok-Some.field-0-is c.in-Ok-Some.ensures.found in
    omega (
      arith,
      fast.some,
      fast.within,
      c.pass_told-place.ensures.1.fewer,
      c.next.ensures.left,
      ap (λ p. length p.rest) c.advance.ensures,
      length-drop lexeme.taken here.rest,
    )

pub returns-in-Err : goal.returns-in-Err
returns-in-Err c =
    let labels = c.args.labels.now in
    let s = scanner_of c.args.lexer.now.scanner in
    let start = c.args.start in
    let before = c.loop-lexeme.invariant.so_far in
    let on = c.pass_told-place.ensures in
    let told = before.0 ++ on.0 in
    ends_from labels s start told c.next.new.place c.in-Err.end
    (end_at s c.next.new.place true c.in-Err.end c.in-Err.ensures.end)
    (passes_tokens labels s c.args.lexer.now.passed start c.pass_told-place.result told c.requires.passed
    (so_far_on labels s start c.loop-lexeme.place c.pass_told-place.result before.0 on.0 before.1 on.1.so_far)
    c.next.ensures.passed)
