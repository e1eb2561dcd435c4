use Rattle.std.proofs.Common.{◌≡◌, ◌∙◌, None, Some, ap, map, sym, take}
use Rattle.ly_feed.proofs.TakingLemmas.{no_terminal, terminal_is}
use Rattle.ly_feed.specs.SyntaxError.{token_of}
use Rattle.ly_feed.specs.ScanPart.{scan_part_of, terminal_in}
use Rattle.ly_feed.specs.Verdict.{refused}
use Rattle.ly_feed.proofs.running.refusal.Goals as goal

pub unreachable-requires : goal.unreachable-requires
unreachable-requires c =
    let by_rule = terminal_in (scan_part_of c.args.set.now) c.args.lexeme.rule.0 in
    let there = c.requires.token.1 in
    let bytes = c.bytes.ensures ∙ c.new-text.ensures ∙ ap (take c.args.lexeme.taken) c.rest.ensures in
    let none = no_terminal c.terminal.result (by_rule c.bytes.result.now)
    (c.terminal.ensures ∙ c.action.ensures.emits c.bytes.result.now) c.in_default.is in
    let no : None ≡ Some c.requires.token.0.terminal
    = sym none ∙ ap by_rule (bytes ∙ sym there.bytes) ∙ there.terminal in
    absurd cc

pub returns : goal.returns
returns c = (
  token_of (record { terminal = c.in-Some.terminal; at = c.at-at.result; text = c.new-text.result }),
  map (λ s. s.0) c.in_ok-number.field-0.expected.items,
  record {
    at = c.at-at.ensures;
    bytes = c.new-text.ensures ∙ ap (take c.args.lexeme.taken) c.rest.ensures;
    terminal = ap (terminal_in (scan_part_of c.args.set.now) c.args.lexeme.rule.0) (sym c.bytes.ensures)
        ∙ terminal_is c.terminal.result c.in-Some.terminal _
        (c.terminal.ensures ∙ c.action.ensures.emits c.bytes.result.now) c.in-Some.is;
  },
  c.in_ok-number.ensures.expected,
  ap (λ n. refused n (token_of (record {
    terminal = c.in-Some.terminal;
    at = c.at-at.result;
    text = c.new-text.result;
  })) (map (λ s. s.0) c.in_ok-number.field-0.expected.items)) c.in_ok-number.ensures.number,
)
