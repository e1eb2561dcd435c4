use Rattle.std.proofs.Common.{◌∷◌, ◌∙◌, ◌++◌, [], ap, arith, length, length-drop, length-take-le, subst, sym, take}
use Rattle.ly_base.specs.Lexed.{place_after}
use Rattle.ly_feed.proofs.OnwardLemmas.{stands_here}
use Rattle.ly_feed.proofs.SpanListLemmas.{listed_behind, listed_over, listed_with, none_terminal, some_terminal}
use Rattle.ly_feed.proofs.ToldLemmas.{ahead_none, ahead_on, ahead_over, terminal_there, told_after, told_at}
use Rattle.ly_feed.specs.Private.TokenSpans.{AreListed}
use Rattle.ly_feed.specs.ScanPart.{condition_in, scan_part_of, scanner_in, terminal_in}
use Rattle.ly_feed.proofs.token_spans.told_spans.Goals as goal
use Rattle.std.specs.Prelude.{false}

pub loop-told-init : goal.loop-told-init
loop-told-init c = record { listed = λ start h. h; ahead = ahead_none c.args.place.now }

pub new-text-requires : goal.new-text-requires
new-text-requires c =
    let p = scan_part_of c.args.set.now in
    let l = c.args.lexer.now in
    let q = c.tell.new.place in
    let told = c.in-Some.told in
    let is = told_at p l c.args.facts.now q told c.requires.lexer c.requires.facts
    (c.in-Some.ensures.told c.requires.facts.numbers c.requires.facts.are) in
    omega (arith, is.stands.within, is.taken, ap length c.rest.ensures)

pub first_of-requires : goal.first_of-requires
first_of-requires c =
    let p = scan_part_of c.args.set.now in
    let l = c.args.lexer.now in
    let q = c.tell.new.place in
    let told = c.in-Some.told in
    let is = told_at p l c.args.facts.now q told c.requires.lexer c.requires.facts
    (c.in-Some.ensures.told c.requires.facts.numbers c.requires.facts.are) in
    omega (
      arith,
      is.stands.some,
      is.stands.within,
      is.taken,
      ap length (c.new-text.ensures ∙ ap (take told.taken) c.rest.ensures),
      length-take-le told.taken q.rest (omega (arith, is.stands.within, is.taken)),
    )

pub told_terminal-requires-clause-some : goal.told_terminal-requires-clause-some
told_terminal-requires-clause-some c =
    let p = scan_part_of c.args.set.now in
    let l = c.args.lexer.now in
    let q = c.tell.new.place in
    let told = c.in-Some.told in
    let is = told_at p l c.args.facts.now q told c.requires.lexer c.requires.facts
    (c.in-Some.ensures.told c.requires.facts.numbers c.requires.facts.are) in
    is.some

pub advance-requires : goal.advance-requires
advance-requires c =
    let p = scan_part_of c.args.set.now in
    let l = c.args.lexer.now in
    let q = c.tell.new.place in
    let told = c.in-Some.told in
    let is = told_at p l c.args.facts.now q told c.requires.lexer c.requires.facts
    (c.in-Some.ensures.told c.requires.facts.numbers c.requires.facts.are) in
    omega (arith, is.stands.within, is.taken)

pub loop-told-smaller-in-Continue-1 : goal.loop-told-smaller-in-Continue-1
loop-told-smaller-in-Continue-1 c =
    let p = scan_part_of c.args.set.now in
    let l = c.args.lexer.now in
    let q = c.tell.new.place in
    let told = c.in-Some.told in
    let is = told_at p l c.args.facts.now q told c.requires.lexer c.requires.facts
    (c.in-Some.ensures.told c.requires.facts.numbers c.requires.facts.are) in
    omega (
      arith,
      is.stands.some,
      is.stands.within,
      is.taken,
      c.tell.ensures.left,
      ap (λ x. length x.rest) c.advance.ensures,
      length-drop told.taken q.rest,
    )

pub loop-told-smaller : goal.loop-told-smaller
loop-told-smaller c =
    let p = scan_part_of c.args.set.now in
    let l = c.args.lexer.now in
    let q = c.tell.new.place in
    let told = c.in-Some.told in
    let is = told_at p l c.args.facts.now q told c.requires.lexer c.requires.facts
    (c.in-Some.ensures.told c.requires.facts.numbers c.requires.facts.are) in
    omega (
      arith,
      is.stands.some,
      is.stands.within,
      is.taken,
      c.tell.ensures.left,
      ap (λ x. length x.rest) c.advance.ensures,
      length-drop told.taken q.rest,
    )

pub loop-told-preserved : goal.loop-told-preserved
loop-told-preserved c =
    let p = scan_part_of c.args.set.now in
    let l = c.args.lexer.now in
    let q = c.tell.new.place in
    let told = c.in-Some.told in
    let is = told_at p l c.args.facts.now q told c.requires.lexer c.requires.facts
    (c.in-Some.ensures.told c.requires.facts.numbers c.requires.facts.are) in
    let terminal = terminal_there p q told is c.new-text.result c.first_of.result c.told_terminal.result
    (c.new-text.ensures ∙ ap (take told.taken) c.rest.ensures) c.first_of.ensures
    (c.told_terminal.ensures p c.literals.ensures.literals) in
    let there = told_after p q c.advance.new.self told is c.advance.ensures in
    let spans = c.loop-told.spans.items in
    let none = none_terminal c.told_terminal.result (terminal_in p is.lexeme.rule.0 (take is.lexeme.taken q.rest))
    terminal (sym c.is_some-has_token.ensures ∙ c.if-has_token.false) in record {
      listed = λ start h. subst (AreListed p start spans) (sym there)
          (listed_behind p start q spans is.lexeme (stands_here false (scanner_in p) q is.lexeme is.stands) none
          (listed_over p l start c.loop-told.place q spans c.requires.lexer
          (c.loop-told.invariant.listed start h) c.tell.ensures.passed));
      ahead = ahead_on c.args.place.now q c.advance.new.self told.taken
          (ahead_over l c.args.place.now c.loop-told.place q c.loop-told.invariant.ahead c.tell.ensures.passed
          c.tell.ensures.left) (omega (arith, is.stands.within, is.taken)) c.advance.ensures;
    }

pub loop-told-preserved-in-Continue-1 : goal.loop-told-preserved-in-Continue-1
loop-told-preserved-in-Continue-1 c =
    let p = scan_part_of c.args.set.now in
    let l = c.args.lexer.now in
    let q = c.tell.new.place in
    let told = c.in-Some.told in
    let is = told_at p l c.args.facts.now q told c.requires.lexer c.requires.facts
    (c.in-Some.ensures.told c.requires.facts.numbers c.requires.facts.are) in
    let terminal = terminal_there p q told is c.new-text.result c.first_of.result c.told_terminal.result
    (c.new-text.ensures ∙ ap (take told.taken) c.rest.ensures) c.first_of.ensures
    (c.told_terminal.ensures p c.literals.ensures.literals) in
    let there = told_after p q c.advance.new.self told is c.advance.ensures in
    let spans = c.loop-told.spans.items in
    let some = some_terminal c.told_terminal.result (terminal_in p is.lexeme.rule.0 (take is.lexeme.taken q.rest))
    terminal (sym c.is_some-has_token.ensures ∙ c.if-has_token.true) in
    let end = c.at-end.ensures ∙ ap (λ x. x.at) there in
    let items = c.in_ok-push.ensures.items
    ∙ (λ i. spans ++ record { start = c.at-start.ensures i; end = end i } ∷ []) in record {
      listed = λ start h. subst (AreListed p start c.push.new.self.items) (sym there)
          (subst (λ xs. AreListed p start xs (place_after (condition_in p) q is.lexeme)) (sym items)
          (listed_with p start q spans is.lexeme some.0 (stands_here false (scanner_in p) q is.lexeme is.stands)
          is.stands.within some.1 (listed_over p l start c.loop-told.place q spans c.requires.lexer
          (c.loop-told.invariant.listed start h) c.tell.ensures.passed)));
      ahead = ahead_on c.args.place.now q c.advance.new.self told.taken
          (ahead_over l c.args.place.now c.loop-told.place q c.loop-told.invariant.ahead c.tell.ensures.passed
          c.tell.ensures.left) (omega (arith, is.stands.within, is.taken)) c.advance.ensures;
    }

pub returns-clause-listed : goal.returns-clause-listed
returns-clause-listed c start h =
    listed_over (scan_part_of c.args.set.now) c.args.lexer.now start c.loop-told.place c.tell.new.place
    c.loop-told.spans.items c.requires.lexer (c.loop-told.invariant.listed start h) c.tell.ensures.passed

pub returns-clause-ahead : goal.returns-clause-ahead
returns-clause-ahead c = ahead_over c.args.lexer.now c.args.place.now c.loop-told.place c.tell.new.place
    c.loop-told.invariant.ahead c.tell.ensures.passed c.tell.ensures.left
