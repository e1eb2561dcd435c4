use Rattle.std.proofs.Common.{refl}
use Rattle.ly_ere.proofs.DefinitionLemmas.{read_more, uses_below}
use Rattle.ly_ere.proofs.definitions.DefinitionTexts.push.Goals as goal

pub returns : goal.returns
returns c known list d a is = read_more known list d c.args.self.now _ a _ c.in_ok-push.ensures.items c.args.re is
    c.in_ok-uses.ensures c.in_ok-push-2.ensures.items refl (uses_below known d.text c.args.re is)
