use Rattle.ly_lexread.specs.Definitions.{defined_names}
use Rattle.ly_lexread.proofs.NameLemmas.{lines_push}
use Rattle.std.specs.Prelude.{Contains}
use Rattle.std.proofs.Common.{subst, sym}
use Rattle.ly_lexread.proofs.defined.NameLines.with_line.Goals as goal

pub invariant_of-self : goal.invariant_of-self
invariant_of-self c =
    let ks = c.self.inside.names.keys in
    let v = c.in_ok-from_slice.field-0 in
    let n = c.args.line.defined.name.now in
    let new = subst (λ ds. Contains (defined_names ds) n → ⊥) (sym c.self.view_is) c.requires in
    lines_push ks c.insert.new.self.keys v c.self.inside.lines.items c.push.new.self.items c.args.line
    c.in_ok-from_slice.ensures.items c.self.invariant.0 c.self.invariant.1 new
    c.in_ok-insert.ensures.keys c.in_ok-push.ensures.items
