use Rattle.std.proofs.Common.{sym, subst}
use Rattle.ly_lexread.specs.Private.Definitions.{preamble_of, Adds, IsDirected}
use Rattle.ly_lexread.proofs.definitions.Preamble.with_line.Goals as goal

pub returns-in-Directive-clause-these : goal.returns-in-Directive-clause-these
returns-in-Directive-clause-these c = subst (λ k. IsDirected (λ q. Adds k (preamble_of c.args.self)
    c.args.line.text.bytes.now c.args.line.bytes.now (preamble_of q))
    c.directed.result) (sym c.in-Directive.is) c.directed.ensures.these

pub returns-in-Plain-clause-these : goal.returns-in-Plain-clause-these
returns-in-Plain-clause-these c = subst (λ k. IsDirected (λ q. Adds k (preamble_of c.args.self)
    c.args.line.text.bytes.now c.args.line.bytes.now (preamble_of q))
    c.with_name.result) (sym c.in-Plain.is) c.with_name.ensures.these
