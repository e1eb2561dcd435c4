use Rattle.std.proofs.Common.{◌≡◌, map, take}
use Rattle.std.specs.Prelude.{false}
use Rattle.std.proofs.Common.{[]}
use Rattle.ly_parse.specs.Reading.{ReadsTokens}
use Rattle.ly_places.specs.TokenAnswer.{token_over}
use Rattle.ly_places.proofs.token_derivation.read_tokens.Given as goal

-- the tokens so far are read
abbrev pub invariant-loop-given : goal.invariant-loop-given
invariant-loop-given l = record {
  reads : ReadsTokens l.fn.parser.machine [] (map (token_over l.text) (take l.given-index l.tokens)) l.parser.stack;
  count : l.parser.count ≡ l.given-index;
  over : l.parser.over ≡ false;
  machine : l.parser.machine ≡ l.fn.parser.machine;
}
