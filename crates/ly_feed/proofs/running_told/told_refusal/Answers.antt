use Rattle.std.proofs.Common.{◌∙◌, ap, map, sym, take}
use Rattle.ly_feed.proofs.TakingLemmas.{terminal_is}
use Rattle.ly_feed.specs.SyntaxError.{token_of}
use Rattle.ly_feed.specs.ScanPart.{terminal_in}
use Rattle.ly_feed.specs.Verdict.{refused}
use Rattle.ly_feed.proofs.running_told.told_refusal.Goals as goal

pub returns : goal.returns
returns c p t taken there =
    let text = c.new-text.ensures ∙ ap (take c.args.taken) c.rest.ensures in
    let bytes = text ∙ ap (λ n. take n c.args.place.rest) (sym taken) in
    let token = token_of (record { terminal = c.in-Some.terminal; at = c.at-at.result; text = c.new-text.result }) in
    let expected = map (λ s. s.0) c.in_ok-number.field-0.expected.items in (
      token,
      expected,
      record {
        at = c.at-at.ensures;
        bytes = bytes;
        terminal = ap (terminal_in p t.rule.0) bytes
            ∙ terminal_is c.args.terminal c.in-Some.terminal _ there c.in-Some.is;
      },
      c.in_ok-number.ensures.expected,
      ap (λ n. refused n token expected) c.in_ok-number.ensures.number,
    )
