use Rattle.std.proofs.Common.{subst, ◌≡◌, ◌∷◌}
use Rattle.std.proofs.lemmas.Result.{err_from_is_err_and}
use Rattle.ly_yaccread.specs.Declarations.{Declares, directive_name}
use Rattle.ly_yaccread.specs.Private.Read.{left}
use Rattle.ly_yaccread.specs.Words.{directive}
use Rattle.ly_yaccread.specs.declared.declaration.Directive.TheVariants.{Tokens, Types}
use Rattle.ly_yaccread.proofs.DeclarationLemmas.{behind_directive}
use Rattle.ly_yaccread.proofs.ReadLemmas.{refused}
use Rattle.ly_yaccread.proofs.declaration.read_declaration.Goals as goal

pub returns-in_err-listed-in-Tokens : goal.returns-in_err-listed-in-Tokens
returns-in_err-listed-in-Tokens c =
    let ws = left c.args.words in
    let behind = left c.in-Some-directive_first.behind in
    let is = subst (λ d. ws ≡ directive (directive_name d) ∷ behind) c.in-Tokens.is c.in-Some-directive_first.ensures in
    let p = err_from_is_err_and c.from_residual.result c.from_residual.ensures.1 in
    refused (Declares ws) _ _ _ _ _ p.1 p.2 (λ n s r d.
    let f = behind_directive (Tokens c.in-Tokens.kind) ws behind s r is d in
    c.in_err-listed-in-Tokens.ensures n (f.0, f.1) r f.2)

pub returns-in_err-_listed-in-Types : goal.returns-in_err-_listed-in-Types
returns-in_err-_listed-in-Types c =
    let ws = left c.args.words in
    let behind = left c.in-Some-directive_first.behind in
    let is = subst (λ d. ws ≡ directive (directive_name d) ∷ behind) c.in-Types.is c.in-Some-directive_first.ensures in
    let p = err_from_is_err_and c.from_residual-in_err-_listed-in-Types.result
    c.from_residual-in_err-_listed-in-Types.ensures.1 in
    refused (Declares ws) _ _ _ _ _ p.1 p.2 (λ n s r d.
    let f = behind_directive Types ws behind s r is d in c.in_err-_listed-in-Types.ensures n (f.0, f.1) r f.2)
