use Rattle.std.proofs.Common.{◌∙◌, [], ap, length, map, refl, subst}
use Rattle.std.specs.Prelude.{Ok}
use Rattle.ly_places.proofs.TokenLemmas.{end_derived, end_err_told, end_syntax_error_told, syntax_error_told}
use Rattle.ly_places.proofs.TokenLemmas.{none_refused}
use Rattle.ly_places.proofs.TokenLemmas.{read_err_told, same_extents}
use Rattle.ly_places.specs.Private.TokenDerived.{AreReadOver, IsEndRead}
use Rattle.ly_parse.specs.Reading.{ReadsTokens}
use Rattle.ly_places.specs.TokenAnswer.{token_over}
use Rattle.ly_places.proofs.token_derivation.derive_tokens.Goals as goal

pub returns-in_err-syntax_error : goal.returns-in_err-syntax_error
returns-in_err-syntax_error c =
    let parser = c.keeping_parser-parser in
    read_err_told c.args.set.now c.args.text.now parser.ensures.machine
    (map (token_over c.args.text.now) c.args.tokens.now) parser.result.machine c.read_tokens.new.parser
    c.in_err-syntax_error.field-0.0 c.from_residual.result (ap (λ x. x.machine) parser.ensures.new)
    c.in_err-syntax_error.ensures.read c.from_residual.ensures.1

pub returns-in-Some : goal.returns-in-Some
returns-in-Some c =
    let parser = c.keeping_parser-parser in
    let tokens = map (token_over c.args.text.now) c.args.tokens.now in
    syntax_error_told c.args.set.now c.args.text.now parser.ensures.machine tokens parser.result.machine
    c.read_tokens.new.parser c.in-Some.syntax_error (ap (λ x. x.machine) parser.ensures.new)
    (subst (λ o. AreReadOver parser.result.machine tokens c.read_tokens.new.parser (Ok o)) c.in-Some.is
    c.in_ok-syntax_error.ensures.read)

pub returns-in_err-root : goal.returns-in_err-root
returns-in_err-root c =
    let parser = c.keeping_parser-parser in
    let p = c.read_tokens.new.parser in
    let tokens = map (token_over c.args.text.now) c.args.tokens.now in
    let machine = ap (λ x. x.machine) parser.ensures.new in
    let read = none_refused parser.result.machine tokens p c.in_ok-syntax_error.field-0 c.in_default.not-Some
    c.in_ok-syntax_error.ensures.read in
    end_err_told c.args.set.now c.args.text.now parser.ensures.machine tokens p
    (subst (λ k. ReadsTokens k [] tokens p.stack) machine read.0) (c.in_ok-syntax_error.ensures.machine
    ∙ machine) read.1
    c.read_end.new.parser.forest c.in_err-root.field-0.0 c.from_residual-in_err-root.result c.in_err-root.ensures
    c.from_residual-in_err-root.ensures.1

pub returns-in-Accepted : goal.returns-in-Accepted
returns-in-Accepted c =
    let parser = c.keeping_parser-parser in
    let p = c.read_tokens.new.parser in
    let tokens = map (token_over c.args.text.now) c.args.tokens.now in
    let machine = ap (λ x. x.machine) parser.ensures.new in
    let read = none_refused parser.result.machine tokens p c.in_ok-syntax_error.field-0 c.in_default.not-Some
    c.in_ok-syntax_error.ensures.read in
    end_derived c.args.set.now c.args.text.now parser.ensures.machine tokens p
    (subst (λ k. ReadsTokens k [] tokens p.stack) machine read.0) (c.in_ok-syntax_error.ensures.machine
    ∙ machine) read.1
    c.read_end.new.parser.forest c.in-Accepted.root _ (map (λ t. t.extent) c.args.tokens.now)
    (subst (λ e. IsEndRead p c.args.text.now c.read_end.new.parser.forest (Ok e)) c.in-Accepted.is
    c.in_ok-root.ensures) c.into_forest.ensures refl c.in_ok-tokens-in-Accepted.ensures
    (same_extents (length c.args.set.now.terminals) c.args.text.now c.args.tokens.now c.requires.tokens)

pub returns : goal.returns
returns c =
    let parser = c.keeping_parser-parser in
    let p = c.read_tokens.new.parser in
    let tokens = map (token_over c.args.text.now) c.args.tokens.now in
    let machine = ap (λ x. x.machine) parser.ensures.new in
    let read = none_refused parser.result.machine tokens p c.in_ok-syntax_error.field-0 c.in_default.not-Some
    c.in_ok-syntax_error.ensures.read in
    end_syntax_error_told c.args.set.now c.args.text.now parser.ensures.machine tokens p
    (subst (λ k. ReadsTokens k [] tokens p.stack) machine read.0) (c.in_ok-syntax_error.ensures.machine
    ∙ machine) read.1
    c.read_end.new.parser.forest c.in-Refused.syntax_error
    (subst (λ e. IsEndRead p c.args.text.now c.read_end.new.parser.forest (Ok e)) c.in-Refused.is
    c.in_ok-root.ensures)
