use Rattle.std.proofs.Common.{◌+◌, ◌∙◌, drop, sym}
use Rattle.std.proofs.lemmas.Result.{MatchResult-from_err}
use Rattle.ly_base.proofs.EscapeLemmas.{whole_slice}
use Rattle.ly_ere.proofs.ListedLemmas.{drop_one, drop_two, excluded_no, excluded_ok, listed_no, listed_ok}
use Rattle.ly_ere.proofs.bracket.bracket.Goals as goal

pub returns-in_err-some_byte-clause-refused : goal.returns-in_err-some_byte-clause-refused
returns-in_err-some_byte-clause-refused c =
    let caret = rw whole_slice at (sym c.stands_at.ensures ∙ c.if-stands_at.true) in
    let found = simp whole_slice at c.in_ok-set.ensures.items in
    MatchResult-from_err c.from_residual-in_err-some_byte.result _ _ c.from_residual-in_err-some_byte.ensures.0
    (λ _. excluded_no (drop 1 c.args.text.now) c.complement.result _ c.in_ok-set.set caret found c.complement.ensures
    c.in_err-some_byte.ensures.none)

pub returns-then-stands_at-clause-listed : goal.returns-then-stands_at-clause-listed
returns-then-stands_at-clause-listed c =
    let text = c.args.text.now in
    let caret = rw whole_slice at (sym c.stands_at.ensures ∙ c.if-stands_at.true) in
    let found = simp (whole_slice, drop_two) at c.in_ok-set.ensures.items in
    let same = c.in_ok-some_byte.ensures.same in
    excluded_ok (drop 1 text) c.in_ok-some_byte.field-0 (drop (c.in_ok-set.length + 2) text) c.in_ok-set.set caret found
    (λ b l. rw same (c.complement.ensures b l)) c.in_ok-some_byte.ensures.some

pub returns-in_err-some_byte-2-clause-refused : goal.returns-in_err-some_byte-2-clause-refused
returns-in_err-some_byte-2-clause-refused c =
    let here = rw whole_slice at (sym c.stands_at.ensures ∙ c.if-stands_at.false) in
    let found = simp whole_slice at c.in_ok-set-2.ensures.items in
    MatchResult-from_err c.from_residual-in_err-some_byte-2.result _ _ c.from_residual-in_err-some_byte-2.ensures.0
    (λ _. listed_no (drop 1 c.args.text.now) c.in_ok-set-2.set _ here found c.in_err-some_byte-2.ensures.none)

pub returns-clause-listed : goal.returns-clause-listed
returns-clause-listed c =
    let text = c.args.text.now in
    let here = rw whole_slice at (sym c.stands_at.ensures ∙ c.if-stands_at.false) in
    let found = simp (whole_slice, drop_one) at c.in_ok-set-2.ensures.items in
    rw c.in_ok-some_byte-2.ensures.same
    (listed_ok (drop 1 text) c.in_ok-set-2.set (drop (c.in_ok-set-2.length + 1) text) here found
    (rw c.in_ok-some_byte-2.ensures.same at c.in_ok-some_byte-2.ensures.some))
