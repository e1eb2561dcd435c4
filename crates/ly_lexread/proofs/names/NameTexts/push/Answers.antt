use Rattle.std.proofs.Common.{refl}
use Rattle.ly_lexread.specs.Private.Names.{parts_of}
use Rattle.ly_lexread.proofs.NameLemmas.{cut_push}
use Rattle.ly_lexread.proofs.names.NameTexts.push.Goals as goal

pub returns : goal.returns
returns c ds a =
    let p = cut_push ds c.args.self.now c.push.new.self.items _ c.first_flaw-self.result (parts_of c.args.line)
    c.expression_in-is_whole.result.1 a c.in_ok-push.ensures.items refl c.expression_in-is_whole.ensures
    c.first_flaw-self.ensures.none c.first_flaw-self.ensures.some in
    record { names = p.0; texts = p.1 }
