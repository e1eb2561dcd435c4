use Rattle.std.proofs.Common.{[], subst}
use Rattle.ly_parse.specs.Parse.{IsTake}
use Rattle.ly_parse.specs.Private.Answered.{with_note}
use Rattle.ly_parse.proofs.TakeLemmas.{refusal_told, told_call}
use Rattle.ly_parse.proofs.parser.Parser.end.Goals as goal

pub told-requires : goal.told-requires
told-requires g c =
    refusal_told (with_note c.self.inside.running c.self.inside.before) (record {
      terminal = 0;
      at = c.args.at;
      bytes = [];
    }) (with_note c.end-answer.new.self c.end-answer.new.before) c.end-answer.result
    (c.end-answer.ensures.call c.args.at)

pub returns-clause-call : goal.returns-clause-call
returns-clause-call g c =
    told_call c.args.self.now (record { terminal = 0; at = c.args.at; bytes = [] })
    (with_note c.end-answer.new.self c.end-answer.new.before) c.end-answer.result c.told.result
    (subst (λ p. IsTake p (record {
      terminal = 0;
      at = c.args.at;
      bytes = [];
    }) (with_note c.end-answer.new.self c.end-answer.new.before) c.end-answer.result) c.self.view_is
    (c.end-answer.ensures.call c.args.at)) c.told.ensures.told
