use Rattle.std.proofs.Common.{◌≡◌, ◌∙◌, [], ap, arith, get_or, subst, sym}
use Rattle.std.specs.Prelude.{Err, Ok}
use Rattle.ly_feed.proofs.FeedingLemmas.{accepts_end}
use Rattle.ly_feed.specs.SyntaxError.{token_of}
use Rattle.ly_pack.specs.Machine.{IsMachine}
use Rattle.ly_parse.specs.Parse.{IsCall}
use Rattle.ly_parse.specs.Reading.{at_end, ReadsTokens}
use Rattle.ly_places.proofs.TokenLemmas.{fault_at, read_at, refused_at}
use Rattle.ly_places.specs.TokenAnswer.{token_over}
use Rattle.ly_places.specs.declared.placed_token.PlacedToken.{PlacedToken}
use Rattle.ly_places.proofs.token_derivation.read_tokens.Goals as goal

abbrev none : PlacedToken
none = record { terminal = record { 0 = 0 }; extent = record { start = 0; end = 0 } }

pub loop-given-init : goal.loop-given-init
loop-given-init c = record {
  reads = subst (ReadsTokens c.args.parser.now.machine [] []) (sym c.requires.empty) at_end;
  count = c.requires.none;
  over = c.requires.goes_on;
  machine = λ i. c.args.parser.now.machine;
}

pub returns-in-Ok-Refused-clause-read : goal.returns-in-Ok-Refused-clause-read
returns-in-Ok-Refused-clause-read c =
    let p = c.loop-given.parser in
    let takes = (subst (λ s. IsCall p (token_of c.over-token.result) c.feed.new.self (Ok s)) c.in-Ok-Refused.field-0-is
    c.in-Ok-Refused.ensures).before_end c.loop-given.invariant.over in
    refused_at (token_over c.args.text.now) c.args.tokens.now c.loop-given.given-index none p
    c.args.parser.now.machine (token_of c.over-token.result) c.in-Ok-Refused.number _ c.loop-given-test.true
    c.loop-given.invariant.machine c.loop-given.invariant.count c.loop-given.invariant.reads c.over-token.ensures
    takes.0 takes.1 takes.3

pub returns-in-Err-FaultyTables-clause-read : goal.returns-in-Err-FaultyTables-clause-read
returns-in-Err-FaultyTables-clause-read c =
    let p = c.loop-given.parser in
    let takes = (subst (λ e. IsCall p (token_of c.over-token.result) c.feed.new.self (Err e))
    c.in-Err-FaultyTables.field-0-is c.in-Err-FaultyTables.ensures).before_end c.loop-given.invariant.over in
    fault_at (token_over c.args.text.now) c.args.tokens.now c.loop-given.given-index none p
    c.args.parser.now.machine (token_of c.over-token.result) c.loop-given-test.true c.loop-given.invariant.machine
    c.loop-given.invariant.reads c.over-token.ensures takes

pub unreachable-requires : goal.unreachable-requires
unreachable-requires c =
    let p = c.loop-given.parser in
    let takes = (subst (λ s. IsCall p (token_of c.over-token.result) c.feed.new.self (Ok s)) c.in-Ok-Done.field-0-is
    c.in-Ok-Done.ensures).before_end c.loop-given.invariant.over in
    let is_end : c.over-token.result.terminal.0 ≡ 0
    = accepts_end (subst IsMachine (sym c.loop-given.invariant.machine) c.requires.machine) takes.1 in
    let same : c.over-token.result.terminal.0 ≡ (get_or c.args.tokens.now c.loop-given.given-index none).terminal.0
    = ap (λ t. t.terminal) c.over-token.ensures in
    let over = c.requires.tokens c.loop-given.given-index none c.loop-given-test.true in
    omega (arith, is_end, same, over.some)

pub loop-given-preserved : goal.loop-given-preserved
loop-given-preserved c =
    let p = c.loop-given.parser in
    let call = subst (λ s. IsCall p (token_of c.over-token.result) c.feed.new.self (Ok s)) c.in-Ok-More.field-0-is
    c.in-Ok-More.ensures in
    let takes = call.before_end c.loop-given.invariant.over in
    record {
      reads = read_at (token_over c.args.text.now) c.args.tokens.now c.loop-given.given-index none p
          c.args.parser.now.machine (token_of c.over-token.result) c.feed.new.self.stack c.loop-given-test.true
          c.loop-given.invariant.machine c.loop-given.invariant.reads c.over-token.ensures takes.0;
      count = omega (arith, takes.1, c.loop-given.invariant.count);
      over = call.over;
      machine = call.machine ∙ c.loop-given.invariant.machine;
    }
