use Rattle.std.proofs.Common.{◌∙◌, ap, arith, length, length-take-le, refl, sym, take}
use Rattle.ly_feed.proofs.OnwardLemmas.{fast_of}
use Rattle.ly_feed.proofs.TakingLemmas.{no_terminal, passes_on, taken, terminal_is}
use Rattle.ly_feed.proofs.ToldLemmas.{terminal_there}
use Rattle.ly_feed.specs.ScanPart.{scan_part_of, scanner_in, terminal_in}
use Rattle.ly_feed.proofs.running_told.take_told.Goals as goal

pub new-text-requires : goal.new-text-requires
new-text-requires c =
    let is = c.requires.told in
    omega (arith, is.stands.within, is.taken, ap length c.rest.ensures)

pub first_of-requires : goal.first_of-requires
first_of-requires c =
    let is = c.requires.told in
    let rest = c.args.place.now.rest in
    omega (
      arith,
      is.stands.some,
      is.stands.within,
      is.taken,
      ap length (c.new-text.ensures ∙ ap (take c.args.told.taken) c.rest.ensures),
      length-take-le c.args.told.taken rest (omega (arith, is.stands.within, is.taken)),
    )

pub returns-in_default-clause-taken : goal.returns-in_default-clause-taken
returns-in_default-clause-taken c ended is =
    let p = scan_part_of c.args.set.now in
    let q = c.args.place.now in (
      passes_on ended p c.args.parser.now.machine q c.args.parser.now is.lexeme
          (fast_of ended (scanner_in p) q is.lexeme is.stands)
          (no_terminal c.told_terminal.result _ (terminal_there p q c.args.told is c.new-text.result
          c.first_of.result c.told_terminal.result (c.new-text.ensures ∙ ap (take c.args.told.taken) c.rest.ensures)
          c.first_of.ensures (c.told_terminal.ensures p c.literals.ensures.literals)) c.in_default.is),
      c.requires.goes_on,
    )

pub go_on-answer-requires-clause-not_end : goal.go_on-answer-requires-clause-not_end
go_on-answer-requires-clause-not_end c =
    let p = scan_part_of c.args.set.now in
    let q = c.args.place.now in
    let is = c.requires.told in
    let low = (c.requires.runs.returned is.lexeme.rule.0 (take is.lexeme.taken q.rest) c.in-Some.terminal.0
    (terminal_is c.told_terminal.result c.in-Some.terminal _ (terminal_there p q c.args.told is c.new-text.result
    c.first_of.result c.told_terminal.result (c.new-text.ensures ∙ ap (take c.args.told.taken) c.rest.ensures)
    c.first_of.ensures (c.told_terminal.ensures p c.literals.ensures.literals)) c.in-Some.is)).0 in
    omega (arith, low)

pub go_on-answer-requires-clause-terminal : goal.go_on-answer-requires-clause-terminal
go_on-answer-requires-clause-terminal c =
    let p = scan_part_of c.args.set.now in
    let q = c.args.place.now in
    let is = c.requires.told in
    (c.requires.runs.returned is.lexeme.rule.0 (take is.lexeme.taken q.rest) c.in-Some.terminal.0
    (terminal_is c.told_terminal.result c.in-Some.terminal _ (terminal_there p q c.args.told is c.new-text.result
    c.first_of.result c.told_terminal.result (c.new-text.ensures ∙ ap (take c.args.told.taken) c.rest.ensures)
    c.first_of.ensures (c.told_terminal.ensures p c.literals.ensures.literals)) c.in-Some.is)).1

pub returns-clause-taken : goal.returns-clause-taken
returns-clause-taken c ended is =
    let p = scan_part_of c.args.set.now in
    let q = c.args.place.now in
    let text = c.new-text.ensures ∙ ap (take c.args.told.taken) c.rest.ensures in
    let there = terminal_is c.told_terminal.result c.in-Some.terminal _ (terminal_there p q c.args.told is
    c.new-text.result c.first_of.result c.told_terminal.result text c.first_of.ensures
    (c.told_terminal.ensures p c.literals.ensures.literals)) c.in-Some.is in
    let bytes = text ∙ ap (λ n. take n q.rest) (sym is.taken) in
    taken ended p c.args.parser.now.machine q c.args.parser.now c.go_on-answer.new.self is.lexeme _
    c.go_on-answer.result
    c.requires.runs.machine refl c.requires.goes_on
    (c.requires.runs.returned is.lexeme.rule.0 (take is.lexeme.taken q.rest) c.in-Some.terminal.0 there).0
    (fast_of ended (scanner_in p) q is.lexeme is.stands) (record {
      at = c.at-at.ensures;
      bytes = bytes;
      terminal = ap (terminal_in p is.lexeme.rule.0) bytes ∙ there;
    }) c.go_on-answer.ensures

pub returns-in_default-clause-terminal : goal.returns-in_default-clause-terminal
returns-in_default-clause-terminal c is =
    let p = scan_part_of c.args.set.now in
    let q = c.args.place.now in
    sym (no_terminal c.told_terminal.result _ (terminal_there p q c.args.told is c.new-text.result c.first_of.result
    c.told_terminal.result (c.new-text.ensures ∙ ap (take c.args.told.taken) c.rest.ensures) c.first_of.ensures
    (c.told_terminal.ensures p c.literals.ensures.literals)) c.in_default.is)

pub returns-clause-terminal : goal.returns-clause-terminal
returns-clause-terminal c is =
    let p = scan_part_of c.args.set.now in
    let q = c.args.place.now in
    sym (terminal_is c.told_terminal.result c.in-Some.terminal _ (terminal_there p q c.args.told is c.new-text.result
    c.first_of.result c.told_terminal.result (c.new-text.ensures ∙ ap (take c.args.told.taken) c.rest.ensures)
    c.first_of.ensures (c.told_terminal.ensures p c.literals.ensures.literals)) c.in-Some.is)
