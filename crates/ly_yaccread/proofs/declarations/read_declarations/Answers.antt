use Rattle.std.proofs.Common.{◌≡◌, Some, None, subst}
use Rattle.std.specs.Prelude.{MatchBool}
use Rattle.std.proofs.lemmas.Result.{err_from_is_err_and}
use Rattle.ly_yaccread.specs.Declarations.{Declarations, none_declared, with_saying}
use Rattle.ly_yaccread.specs.Private.Read.{declaring_of, left, saying_of}
use Rattle.ly_yaccread.proofs.DeclarationLemmas.{declarations_end, declares_shorter, none_more, one_more}
use Rattle.ly_yaccread.proofs.ReadLemmas.{refused}
use Rattle.ly_yaccread.proofs.declarations.read_declarations.Goals as goal

pub returns-in-Some : goal.returns-in-Some
returns-in-Some c =
    let h = declaring_of c.loop-rules.preamble in
    c.loop-rules.invariant.sound h (left c.in-Some.rules)
    (declarations_end h (left c.loop-rules.rest) (left c.in-Some.rules) c.in-Some.ensures)

pub returns-in_err-said : goal.returns-in_err-said
returns-in_err-said c =
    let ws = left c.args.words in
    let p = err_from_is_err_and c.from_residual.result c.from_residual.ensures.1 in
    refused (Declarations none_declared ws) _ _ _ _ _ p.1 p.2 (λ n all rest d.
    none_more (declaring_of c.loop-rules.preamble) (left c.loop-rules.rest) c.in_default.ensures
    (c.in_err-said.ensures n) all rest (c.loop-rules.invariant.complete all rest d))

pub loop-rules-smaller : goal.loop-rules-smaller
loop-rules-smaller c
    = declares_shorter (left c.loop-rules.rest) (saying_of c.in_ok-said.said) (left c.in_ok-said.behind)
    c.in_ok-said.ensures

pub loop-rules-preserved : goal.loop-rules-preserved
loop-rules-preserved c =
    let h = declaring_of c.loop-rules.preamble in
    let i = declaring_of c.add.new.self in
    let s = saying_of c.in_ok-said.said in
    one_more none_declared h i (left c.args.words) (left c.loop-rules.rest) (left c.in_ok-said.behind) s
    c.loop-rules.invariant c.in_ok-said.ensures
    (subst (λ t. MatchBool t (with_saying h s ≡ Some i) (with_saying h s ≡ None)) c.if-not-branch.false
    c.in_ok-add.ensures)
