use Rattle.std.proofs.Common.{subst}
use Rattle.std.specs.Prelude.{IfOk}
use Rattle.ly_feed.specs.TableAnswer.{IsVerdict}
use Rattle.ly_feed.specs.Verdict.{faulty}
use Rattle.ly_places.specs.Parsing.{IsParsedAs}
use Rattle.ly_places.specs.PlacedAnswer.{IsPlacedVerdict, PlacedVerdict}
use Rattle.ly_places.proofs.text_parser.TextParser.parse.Goals as goal

pub returns-clause-parsed : goal.returns-clause-parsed
returns-clause-parsed c = subst (λ s. IfOk c.parse_by.result (λ p. (v : PlacedVerdict)
    × IsPlacedVerdict s c.args.text.now v × IsParsedAs c.args.text.now v p)) c.self.view_is
    c.parse_by.ensures.parsed

pub returns-clause-faulty : goal.returns-clause-faulty
returns-clause-faulty c is = subst (λ s. IsVerdict s c.args.text.now faulty) c.self.view_is
    (c.parse_by.ensures.faulty is)
