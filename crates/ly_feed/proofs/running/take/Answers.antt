use Rattle.std.proofs.Common.{◌∙◌, ap, arith, refl, sym, take}
use Rattle.ly_feed.proofs.TakingLemmas.{no_terminal, passes_on, taken, terminal_is}
use Rattle.ly_feed.specs.ScanPart.{scan_part_of, terminal_in}
use Rattle.ly_feed.proofs.running.take.Goals as goal

pub returns-in_default-clause-taken : goal.returns-in_default-clause-taken
returns-in_default-clause-taken c ended fast =
    let p = scan_part_of c.args.set.now in (
      passes_on ended p c.args.parser.now.machine c.args.place.now c.args.parser.now c.args.lexeme fast
          (ap (terminal_in p c.args.lexeme.rule.0)
          (ap (take c.args.lexeme.taken) (sym c.rest.ensures) ∙ sym c.new-text.ensures ∙ sym c.bytes.ensures)
          ∙ no_terminal c.terminal.result _ (c.terminal.ensures ∙ c.requires.emits c.bytes.result.now) c.in_default.is),
      c.requires.goes_on,
    )

pub take-requires-clause-not_end : goal.take-requires-clause-not_end
take-requires-clause-not_end c =
    let low = (c.requires.runs.returned c.args.lexeme.rule.0 c.bytes.result.now c.in-Some.terminal.0
    (terminal_is c.terminal.result c.in-Some.terminal _
    (c.terminal.ensures ∙ c.requires.emits c.bytes.result.now) c.in-Some.is)).0 in
    omega arith

pub take-requires-clause-terminal : goal.take-requires-clause-terminal
take-requires-clause-terminal c = (c.requires.runs.returned c.args.lexeme.rule.0 c.bytes.result.now
    c.in-Some.terminal.0
    (terminal_is c.terminal.result c.in-Some.terminal _
    (c.terminal.ensures ∙ c.requires.emits c.bytes.result.now) c.in-Some.is)).1

pub returns-clause-taken : goal.returns-clause-taken
returns-clause-taken c ended fast =
    let p = scan_part_of c.args.set.now in
    taken ended p c.args.parser.now.machine c.args.place.now c.args.parser.now c.take.new.self c.args.lexeme _
    c.take.result c.requires.runs.machine refl c.requires.goes_on
    (c.requires.runs.returned c.args.lexeme.rule.0 c.bytes.result.now c.in-Some.terminal.0
    (terminal_is c.terminal.result c.in-Some.terminal _
    (c.terminal.ensures ∙ c.requires.emits c.bytes.result.now) c.in-Some.is)).0
    fast (record {
      at = c.at-at.ensures;
      bytes = c.new-text.ensures ∙ ap (take c.args.lexeme.taken) c.rest.ensures;
      terminal = ap (terminal_in p c.args.lexeme.rule.0) (sym c.bytes.ensures)
          ∙ terminal_is c.terminal.result c.in-Some.terminal _
          (c.terminal.ensures ∙ c.requires.emits c.bytes.result.now) c.in-Some.is;
    }) c.take.ensures
