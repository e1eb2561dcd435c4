use Rattle.std.proofs.Common.{◌≡◌, ◌++◌, Some, None, slice_get, length, refl, arith, codes}
use Rattle.std.proofs.lemmas.Grind.{common_steps}
use Rattle.std.proofs.lemmas.Option.{slice_get_past, slice_get_read}
use Rattle.ly_join.specs.Grammar.{nonterminal}
use Rattle.ly_text_buffer.specs.TextBuffer.{body_words, Says, symbol_words}
use Rattle.ly_text_buffer.proofs.PageLemmas.{nothing_said, numbered, said_behind}
use Rattle.ly_text_buffer.proofs.buffer.TextBuffer.push_rule.Goals as goal

pub returns-in-Some : goal.returns-in-Some
returns-in-Some c =
    let s = c.args.spec.now in
    let dot = c.args.dot in
    let rule = c.in-Some.rule.now in
    let rules = c.rules.result.now in
    let here : slice_get rules c.args.rule ≡ Some rule =
    slice_get_read rules (length rules) c.args.rule rule refl c.in-Some.ensures.lookup.3.0
    (c.in-Some.ensures.lookup.3.1 rule) in
    let found : slice_get s.grammar.rules c.args.rule ≡ Some (Some rule) =
    numbered rules s.grammar.rules c.args.rule (Some rule) (rw c.grammar.ensures.grammar at c.rules.ensures.these)
    here in
    let left : Says c.args.self.now (symbol_words s (nonterminal rule.left)) c.push_symbol.new.self =
    grind (arith, common_steps) in
    let body : Says c.push.new.self (body_words s rule.body dot) c.push_body.new.self = grind (arith, common_steps) in
    rw found
    (said_behind c.args.self.now c.push.new.self c.push_body.new.self
    (symbol_words s (nonterminal rule.left) ++ codes " :")
    (body_words s rule.body dot)
    (said_behind c.args.self.now c.push_symbol.new.self c.push.new.self (symbol_words s (nonterminal rule.left))
    (codes " :") left c.push.ensures) body)

pub returns-in_default : goal.returns-in_default
returns-in_default c =
    let rules = c.rules.result.now in
    let past : slice_get rules c.args.rule ≡ None =
    slice_get_past rules c.args.rule c.in_default.ensures.lookup.3 in
    let none : slice_get c.args.spec.now.grammar.rules c.args.rule ≡ None =
    numbered rules c.args.spec.now.grammar.rules c.args.rule None
    (rw c.grammar.ensures.grammar at c.rules.ensures.these) past in
    nothing_said _ _ (rw none refl)
