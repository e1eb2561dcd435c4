use Rattle.std.proofs.Common.{◌∙◌, ◌++◌, [], ap, arith, length, length-drop, refl, sym, take}
use Rattle.std.specs.Prelude.{map}
use Rattle.ly_base.specs.Lexed.{token_if}
use Rattle.ly_listing.specs.Labels.{fact_of, labelling}
use Rattle.ly_listing.proofs.TokenLemmas.{leads_nowhere, leads_over, leads_told, none_set}
use Rattle.ly_scan.specs.Lexers.{scanner_of}
use Rattle.ly_listing.proofs.run_end.pass_told.Goals as goal

pub loop-told-init : goal.loop-told-init
loop-told-init c =
    ([], leads_nowhere c.args.labels.now (scanner_of c.args.lexer.now.scanner) c.args.start)

pub advance-requires : goal.advance-requires
advance-requires c =
    let is = c.in-Some.ensures.told (map fact_of c.args.labels.now.rules.items) c.requires.facts in
    omega (arith, is.stands.within, is.taken)

pub loop-told-preserved : goal.loop-told-preserved
loop-told-preserved c =
    let labels = c.args.labels.now in
    let so_far = c.loop-told.invariant in
    let here = c.tell.new.place in
    let told = c.in-Some.told in
    let is = c.in-Some.ensures.told (map fact_of labels.rules.items) c.requires.facts in
    let rule = is.lexeme.rule.0 in
    let token = take told.taken here.rest in (
      so_far.0 ++ token_if (labelling labels rule token) here.at token,
      leads_told labels (scanner_of c.args.lexer.now.scanner) c.args.lexer.now.passed c.args.start c.loop-told.place
          here c.advance.new.self is.lexeme told.taken token so_far.0
          (so_far.0 ++ token_if (labelling labels rule token) here.at token) c.requires.passed so_far.1 c.tell.ensures.passed
          c.tell.ensures.left is.stands is.taken
          (none_set labels rule told.fact is.fact is.some) c.advance.ensures refl refl,
    )

pub loop-told-smaller : goal.loop-told-smaller
loop-told-smaller c =
    let here = c.tell.new.place in
    let is = c.in-Some.ensures.told (map fact_of c.args.labels.now.rules.items) c.requires.facts in
    omega (
      arith,
      is.stands.some,
      is.stands.within,
      is.taken,
      c.tell.ensures.left,
      ap (λ p. length p.rest) c.advance.ensures,
      length-drop c.in-Some.told.taken here.rest,
    )

pub returns-in_default : goal.returns-in_default
returns-in_default c =
    let so_far = c.loop-told.invariant in (
      so_far.0,
      leads_over c.args.labels.now (scanner_of c.args.lexer.now.scanner) c.args.lexer.now.passed
          c.args.start c.loop-told.place c.tell.new.place so_far.0 c.requires.passed so_far.1 c.tell.ensures.passed
          c.tell.ensures.left,
    )
