use Rattle.ly_emit.proofs.ShapeLemmas.{shapes_are_within}
use Rattle.ly_join.specs.Scanning.{scanning_of}
use Rattle.ly_generate.specs.Accepted.{IsRefusedFor, IsUnfitFor}
use Rattle.ly_generate.proofs.GenFaultLemmas.{err_weaker, ok_weaker, unfit_refused, when_same}
use Rattle.ly_generate.specs.declared.gen_fault.GenFault.TheVariants.{OutOfMemory}
use Rattle.ly_explain.proofs.ExplainedLemmas.{explained}
use Rattle.ly_explain.proofs.explaining.of_accepted.Goals as goal

pub of_read-said-requires-clause-shapes : goal.of_read-said-requires-clause-shapes
of_read-said-requires-clause-shapes c =
    let says = c.in_ok-given.ensures.says.specifies in
    shapes_are_within c.args.yacc.bytes.now (scanning_of says.file) says.written c.in_ok-given.given.spec says.yacc_text
    says.joined

pub returns-in_err-dfa-clause-refused : goal.returns-in_err-dfa-clause-refused
returns-in_err-dfa-clause-refused c = when_same c.from_residual-in_err-dfa.result OutOfMemory
    (IsRefusedFor _ c.args.lex.bytes.now c.args.yacc.bytes.now) c.from_residual-in_err-dfa.ensures.1 tt

pub returns-clause-formed : goal.returns-clause-formed
returns-clause-formed c = ok_weaker c.of_read-said.result _ _
    (λ e fit. explained _ _ _ c.in_ok-given.given.spec c.in_ok-given.ensures.says.specifies e fit.0 fit.1)
    c.of_read-said.ensures.fit

pub returns-clause-refused : goal.returns-clause-refused
returns-clause-refused c =
    let limits = c.args.limits.now in
    let spec = c.in_ok-given.given.spec in
    err_weaker c.of_read-said.result (IsUnfitFor limits spec)
    (IsRefusedFor limits c.args.lex.bytes.now c.args.yacc.bytes.now)
    (λ fault unfit. unfit_refused limits c.args.lex.bytes.now c.args.yacc.bytes.now spec
    c.in_ok-given.ensures.says.specifies fault unfit) c.of_read-said.ensures.unfit
