use Rattle.std.proofs.Common.{subst, ◌∙◌, ap}
use Rattle.std.specs.Prelude.{Contains, MatchBool}
use Rattle.ly_lexread.specs.Definitions.{defined_names}
use Rattle.ly_lexread.proofs.NameLemmas.{key_found}
use Rattle.ly_lexread.proofs.defined.NameLines.defines.Goals as goal

pub returns : goal.returns
returns c =
    let names = c.self.invariant.0 ∙ ap defined_names c.self.view_is in
    subst (λ ns. MatchBool c.contains.result (Contains ns c.args.name.now) (Contains ns c.args.name.now → ⊥)) names
    (key_found c.args.name.now c.self.inside.names.keys c.contains.result c.contains.ensures)
