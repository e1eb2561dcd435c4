use Rattle.std.proofs.Common.{◌≡◌, ℕ, List, ap, length, subst, sym}
use Rattle.std.proofs.lemmas.List.{length-map}
use Rattle.std.proofs.lemmas.Result.{err_from_is_err_and}
use Rattle.ly_yaccread.specs.File.{ruling_of}
use Rattle.ly_yaccread.specs.Private.Read.{last_of, left, left_side}
use Rattle.ly_yaccread.specs.Private.Words.{word_of}
use Rattle.ly_yaccread.specs.Rules.{Body, Ruling}
use Rattle.ly_yaccread.specs.Words.{Word}
use Rattle.ly_yaccread.specs.declared.standing.Standing.{Standing}
use Rattle.ly_yaccread.proofs.RuleLemmas.{bad_body, no_rule, one_rule, one_semicolon, rule_shorter, rules_end}
use Rattle.ly_yaccread.proofs.rules.read_rules.Goals as goal

pub loop-last-preserved-in-Some : goal.loop-last-preserved-in-Some
loop-last-preserved-in-Some c = one_semicolon (left c.args.words) c.loop-last.rules.items c.loop-last.standings.items
    (last_of c.loop-last.last) (left c.loop-last.rest) c.loop-last.invariant (left c.in-Some.behind)
    c.in-Some.ensures.0 c.in-Some.ensures.1

pub returns-in_default-body_follows : goal.returns-in_default-body_follows
returns-in_default-body_follows c = λ n all every h.
    no_rule (left c.args.words) c.loop-last.rules.items c.loop-last.standings.items (last_of c.loop-last.last)
    (left c.loop-last.rest) c.loop-last.invariant c.loop-last-test.ensures c.in_default.ensures
    c.in_default-body_follows.ensures all every h

pub returns-in_err-rule : goal.returns-in_err-rule
returns-in_err-rule c =
    let p = err_from_is_err_and c.from_residual-in_err-rule.result c.from_residual-in_err-rule.ensures.1 in
    let inside = left c.in-Some-body_follows.inside in
    rw (p.1, p.2) (λ n all every h. bad_body (left c.args.words) c.loop-last.rules.items c.loop-last.standings.items
    (last_of c.loop-last.last) (left c.loop-last.rest) c.loop-last.invariant (left_side c.in-Some-body_follows.side)
    inside c.in-Some-body_follows.ensures
    (subst (λ name. (r : Ruling) (rest : List Word) → Body name inside r rest → ⊥) c.in_ok-shared.ensures
    (c.in_err-rule.ensures n)) all every h)

pub loop-last-smaller : goal.loop-last-smaller
loop-last-smaller c =
    let inside = left c.in-Some-body_follows.inside in
    rule_shorter (last_of c.loop-last.last) (left c.loop-last.rest) (left_side c.in-Some-body_follows.side) inside
    (ruling_of c.in_ok-rule.rule) (left c.in_ok-rule.behind) c.in-Some-body_follows.ensures
    (subst (λ name. Body name inside (ruling_of c.in_ok-rule.rule) (left c.in_ok-rule.behind)) c.in_ok-shared.ensures
    c.in_ok-rule.ensures)

pub loop-last-preserved : goal.loop-last-preserved
loop-last-preserved c =
    let inside = left c.in-Some-body_follows.inside in
    let side = left_side c.in-Some-body_follows.side in
    let words = c.in-Some-body_follows.inside.left.now in
    let count : length words ≡ length inside = sym (length-map words (λ w. word_of w.word)) in
    let standing : ℕ → Standing = λ n. record { left = side.left; body = n } in
    one_rule (left c.args.words) c.loop-last.rules.items c.loop-last.standings.items (last_of c.loop-last.last)
    (left c.loop-last.rest) c.loop-last.invariant side inside (left c.in_ok-rule.behind) c.in_ok-rule.rule
    c.push.new.self.items (standing (length words)) _ c.in-Some-body_follows.ensures
    (subst (λ name. Body name inside (ruling_of c.in_ok-rule.rule) (left c.in_ok-rule.behind)) c.in_ok-shared.ensures
    c.in_ok-rule.ensures) c.in_ok-push.ensures.items (ap standing count) c.in_ok-push-2.ensures.items

pub returns : goal.returns
returns c = rules_end (left c.args.words) c.loop-last.rules.items c.loop-last.standings.items
    (last_of c.loop-last.last) (left c.loop-last.rest) c.loop-last.invariant c.loop-last-test.ensures
