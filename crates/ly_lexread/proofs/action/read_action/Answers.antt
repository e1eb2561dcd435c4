use Rattle.std.proofs.Common.{◌≡◌, ◌≢◌, ◌∙◌, ◌++◌, List, ℕ, ap₂, arith, subst, sym, take-append-drop}
use Rattle.std.specs.Prelude.{IfErr, IfOk}
use Rattle.ly_base.specs.declared.language.Language.TheVariants.{Lex}
use Rattle.ly_lexread.specs.Action.{Effect, effect_of, no_effect, own}
use Rattle.ly_lexread.specs.Private.Statements.{saying_of}
use Rattle.ly_lexread.specs.Statements.{LineEnds, Statements}
use Rattle.ly_lexread.specs.declared.fault.LexFault.TheVariants.{OutOfMemory}
use Rattle.ly_lexread.specs.declared.statement.Extent.TheVariants.{Braces}
use Rattle.ly_lexread.proofs.StatementLemmas.{bar_refused, braced_fault, braced_said, line_refused, mark_suffix}
use Rattle.ly_lexread.proofs.StatementLemmas.{next_said, on_line_said, rest_of_line}
use Rattle.ly_lexread.proofs.WordLemmas.{mark_front}
use Rattle.ly_lexread.proofs.action.read_action.Goals as goal

-- what stands behind the brace, to the end of the text
inside : (c : goal.After-read_braced) → c.split_at-then-is.result.1.now
    ≡ c.next_word.result.1.now ++ c.split_at.result.1.now
inside c =
    let line = c.split_at.result.0.now in
    let end = c.split_at.result.1.now in
    let front = mark_front Lex line c.next_word.result.0 c.next_word.result.1.now 123 c.next_word.ensures.front
    c.if-is.ensures (omega arith) in
    let p = mark_suffix Lex line c.next_word.result.1.now 123 front in
    let whole : c.args.text.bytes.now ≡ line ++ end
    = sym (take-append-drop c.args.on_line c.args.text.bytes.now)
    ∙ ap₂ ◌++◌ (sym c.split_at.ensures.front) (sym c.split_at.ensures.back) in
    c.split_at-then-is.ensures.back ∙ rest_of_line c.args.text.bytes.now line end c.next_word.result.1.now p.0 whole p.1

pub returns-then-is-clause-ok : goal.returns-then-is-clause-ok
returns-then-is-clause-ok c =
    let front = mark_front Lex c.split_at.result.0.now c.next_word.result.0 c.next_word.result.1.now 123
    c.next_word.ensures.front c.if-is.ensures (omega arith) in
    rw (← c.split_at.ensures.front, ← c.split_at.ensures.back)
    (braced_said c.args.conditions.now c.split_at.result.0.now c.split_at.result.1.now c.next_word.result.1.now
    c.read_braced.result front
    (subst (λ (i : List ℕ). IfOk c.read_braced.result (λ read. (e : Effect) × ((behind : List ℕ)
    × (saying_of read.0 ≡ own e) × Statements c.args.conditions.now Braces no_effect i e behind
    × LineEnds behind read.1.bytes.now))) (inside c) c.read_braced.ensures.ok))

pub returns-then-is-clause-refused : goal.returns-then-is-clause-refused
returns-then-is-clause-refused c =
    let front = mark_front Lex c.split_at.result.0.now c.next_word.result.0 c.next_word.result.1.now 123
    c.next_word.ensures.front c.if-is.ensures (omega arith) in
    rw (← c.split_at.ensures.front, ← c.split_at.ensures.back)
    (braced_fault c.args.conditions.now c.split_at.result.0.now c.split_at.result.1.now c.next_word.result.1.now
    c.read_braced.result front
    (subst (λ (i : List ℕ). IfErr c.read_braced.result (λ fault. fault ≢ OutOfMemory
    → (e : Effect) (behind rest : List ℕ) → Statements c.args.conditions.now Braces no_effect i e behind
    → LineEnds behind rest → ⊥)) (inside c) c.read_braced.ensures.refused))

pub returns-then-not-is_gap-clause-refused : goal.returns-then-not-is_gap-clause-refused
returns-then-not-is_gap-clause-refused c =
    let front = mark_front Lex c.split_at.result.0.now c.next_word.result.0 c.next_word.result.1.now 124
    c.next_word.ensures.front c.if-is-2.ensures (omega arith) in
    rw (← c.split_at.ensures.front, ← c.split_at.ensures.back)
    (λ _. bar_refused c.args.conditions.now c.split_at.result.0.now c.split_at.result.1.now c.next_word.result.1.now
    front c.if-not-is_gap.ensures)

pub returns-then-is-2-clause-ok : goal.returns-then-is-2-clause-ok
returns-then-is-2-clause-ok c =
    let front = mark_front Lex c.split_at.result.0.now c.next_word.result.0 c.next_word.result.1.now 124
    c.next_word.ensures.front c.if-is-2.ensures (omega arith) in
    rw (← c.split_at.ensures.front, ← c.split_at.ensures.back)
    (next_said c.args.conditions.now c.split_at.result.0.now c.split_at.result.1.now c.next_word.result.1.now
    c.behind_newline.result.now front c.if-not-is_gap.ensures c.behind_newline.ensures)

pub returns-in-Ok-clause-ok : goal.returns-in-Ok-clause-ok
returns-in-Ok-clause-ok c = rw (← c.split_at.ensures.front, ← c.split_at.ensures.back)
    (on_line_said c.args.conditions.now c.split_at.result.0.now c.split_at.result.1.now c.in-Ok._rest.now
    c.behind_newline.result.now (effect_of c.in-Ok.action) c.in-Ok.ensures.ok c.behind_newline.ensures)

pub returns-in-Err-clause-refused : goal.returns-in-Err-clause-refused
returns-in-Err-clause-refused c = rw (← c.split_at.ensures.front, ← c.split_at.ensures.back)
    (λ ne. line_refused c.args.conditions.now c.split_at.result.0.now c.split_at.result.1.now c.next_word.result.1.now
    c.next_word.result.0 c.next_word.ensures.front c.if-is.ensures c.if-is-2.ensures
    (c.in-Err.ensures.refused (λ e. ne (c.on_line.ensures.memory e))))
