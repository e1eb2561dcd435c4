use Rattle.std.proofs.Common.{◌≡◌, ◌∙◌, ap, arith, length, refl, subst, sym}
use Rattle.std.specs.Prelude.{All}
use Rattle.std.proofs.lemmas.List.{length-map}
use Rattle.ly_places.specs.TokenAnswer.{IsTokenOver}
use Rattle.lytab_c.proofs.TokenLemmas.{fault_said, token_syntax_error_fits}
use Rattle.lytab_c.specs.Private.TokenPutting.{IsParsedOver}
use Rattle.lytab_c.specs.Tokens.{placed_from}
use Rattle.lytab_c.proofs.parsing_tokens.answer_tokens.Goals as goal

pub put_syntax_error-requires : goal.put_syntax_error-requires
put_syntax_error-requires c =
    let s = c.args.set.now in
    let text = c.args.text.now in
    let tokens = c.args.tokens.now in
    let count : length c.terminals.result.now ≡ length s.terminals
    = sym (length-map c.terminals.result.now (λ n. n.items)) ∙ ap length c.terminals.ensures in
    token_syntax_error_fits s text tokens c.in-Ok-Refused.syntax_error (omega arith)
    (subst (λ n. All (λ t. IsTokenOver n (length text) (placed_from t)) tokens) count (c.in_default.ensures.right refl))
    (subst (IsParsedOver s text tokens) c.in-Ok-Refused.field-0-is c.in-Ok-Refused.ensures.parsed)

pub returns-in-Err : goal.returns-in-Err
returns-in-Err c =
    fault_said c.args.text.now c.args.tokens.now _ _ _ c.args.set.now c.tell_fault.result c.in-Err.fault
    c.in-Err.ensures.fault c.tell_fault.ensures refl
