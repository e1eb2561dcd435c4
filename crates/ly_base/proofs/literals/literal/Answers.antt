use Rattle.std.proofs.Common.{sym, ◌∙◌}
use Rattle.ly_base.proofs.EscapeLemmas.{whole_slice}
use Rattle.ly_base.proofs.LiteralLemmas.{literal_ok}
use Rattle.ly_base.proofs.literals.literal.Goals as goal

pub returns-clause-literal : goal.returns-clause-literal
returns-clause-literal c =
    let first = c.in_ok-first.ensures.item.3 in
    let closing = rw whole_slice at c.in_ok-closing.ensures.lookup.3 in
    literal_ok c.args.text.now c.in_ok-byte.byte c.in_ok-byte.length first.0 (sym c.if-branch-ne39.false ∙ first.1 0)
    (rw whole_slice at c.in_ok-byte.ensures.inside) closing.0 (sym (closing.1 0)
    ∙ c.if-closing-ne39.false) c.if-byte-eq0.false
