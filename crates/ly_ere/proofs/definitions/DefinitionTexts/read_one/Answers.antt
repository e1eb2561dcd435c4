use Rattle.std.proofs.Common.{◌≡◌, arith, subst, sym, ◌∙◌}
use Rattle.ly_ere.specs.declared.fault.ReadFault.TheVariants.{Syntax, OutOfMemory}
use Rattle.ly_ere.specs.declared.fault.SyntaxFault.{SyntaxFault}
use Rattle.ly_ere.specs.Definitions.{IsNoText}
use Rattle.ly_ere.proofs.definitions.DefinitionTexts.read_one.Goals as goal

no_memory : (fault : SyntaxFault) → Syntax fault ≡ OutOfMemory → ⊥
no_memory fault e = cc

pub returns-in-Err-Syntax : goal.returns-in-Err-Syntax
returns-in-Err-Syntax c list d a is = c.push_fault.ensures c.args.known.now list d a
    (subst (IsNoText c.args.known.now) (sym is) (c.in-Err-Syntax.ensures.refused (λ e. no_memory _
    (sym c.in-Err-Syntax.field-0-is ∙ e)))) (rw (is, c.in_text.ensures) (omega arith))
