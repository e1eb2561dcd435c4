use Rattle.std.proofs.Common.{[], ◌∷◌, ◌∙◌, sym, ◌≢◌, Result, Ok, Err, IfErr, IfOk, IfSome, arith}
use Rattle.std.proofs.lemmas.Bool.{false≢true}
use Rattle.std.proofs.lemmas.Bool.Decides.{Decides-eqb}
use Rattle.std.proofs.lemmas.Slice.Eq.{starts_is}
use Rattle.std.specs.Result.{result_ok}
use Rattle.std.specs.Option.{IfNone}
use Rattle.std.proofs.lemmas.Result.{IfErr-weaker}
use Rattle.ly_base.proofs.LiteralLemmas.{bare_inside, escape_inside, line_inside, no_escape_inside}
use Rattle.ly_base.proofs.literals.literal_byte.Goals as goal

onto : {T E : Type 0} (P Q : T → Type 0) (r : Result T E) → ((x : T) → P x → Q x) → IfOk r P → IfSome (result_ok r) Q
onto P Q (Ok x) f p = f x p
onto P Q (Err e) f p = tt

missing : {T E : Type 0} (P : Type 0) (r : Result T E) → IfErr r (λ _. P) → IfNone (result_ok r) P
missing P (Ok x) p = tt
missing P (Err e) p = p

pub returns-then-starts_with-clause-inside : goal.returns-then-starts_with-clause-inside
returns-then-starts_with-clause-inside c =
    let newline = starts_is Decides-eqb _ (92 ∷ 10 ∷ []) _ c.starts_with.ensures.value in
    line_inside c.args.inside.now _ (newline.0 c.if-starts_with.true)

pub returns-in-92-clause-none : goal.returns-in-92-clause-none
returns-in-92-clause-none c =
    let newline = starts_is Decides-eqb _ (92 ∷ 10 ∷ []) _ c.starts_with.ensures.value in
    rw c.ok.ensures.value (missing _ c.escape.result
    (IfErr-weaker c.escape.result _ _ (λ fault none. no_escape_inside c.args.inside.now c.in_ok-byte.ensures.item.3.0
    (omega (arith, c.in_ok-byte.ensures.item.3.1 0, c.in-92.is))
    (λ s e. false≢true (sym c.if-starts_with.false ∙ newline.1 s e)) none) c.escape.ensures.refused))

pub returns-in-92-clause-inside : goal.returns-in-92-clause-inside
returns-in-92-clause-inside c = rw c.ok.ensures.value (onto _ _ c.escape.result
    (λ found h. escape_inside c.args.inside.now c.in_ok-byte.ensures.item.3.0 found.0 found.1
    (omega (arith, c.in_ok-byte.ensures.item.3.1 0, c.in-92.is)) h) c.escape.ensures.escape)

pub returns-in_default-clause-inside : goal.returns-in_default-clause-inside
returns-in_default-clause-inside c =
    let backslash : c.in_ok-byte.field-0.now ≢ 92 = omega arith in
    let quote : c.in_ok-byte.field-0.now ≢ 39 = omega arith in
    bare_inside c.args.inside.now c.in_ok-byte.ensures.item.3.0 c.in_ok-byte.field-0.now
    (omega (arith, c.in_ok-byte.ensures.item.3.1 0)) backslash quote
