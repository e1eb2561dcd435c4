use Rattle.std.proofs.Common.{◌≡◌, subst, sym, ap, ◌∙◌, List, [], ◌∷◌, ◌++◌, map}
use Rattle.ly_join.specs.Grammar.{GrammarRule, accept_rule, grammar_from, symbol_of, IsGrammar}
use Rattle.ly_join.specs.declared.symbol.Symbol.{Symbol}
use Rattle.ly_join.specs.declared.symbol.Symbol.TheVariants.{Terminal, Nonterminal}
use Rattle.ly_join.proofs.GrammarLemmas.{grammar_of}
use Rattle.ly_join.proofs.grammar.Grammar.new.Goals as goal

pub invariant_of-result : goal.invariant_of-result
invariant_of-result c =
    let accept = c.args.nonterminals in
    let start = c.args.start in
    let pushed : List Symbol → Symbol → List Symbol = λ xs x. xs ++ x ∷ [] in
    let end : Symbol = Terminal (record { 0 = 0 }) in
    let body : c.push-2.new.self.items ≡ Nonterminal start ∷ end ∷ [] = c.in_ok-push-2.ensures.items
    ∙ ap (λ xs. pushed xs end) (c.in_ok-push.ensures.items
    ∙ ap (λ xs. pushed xs (Nonterminal start)) c.new-body.ensures.items) in
    let rule : c.new.result ≡ accept_rule accept start.0 = c.new.ensures
    ∙ ap (λ xs. let r : GrammarRule = record { left = accept; body = map symbol_of xs } in r) body in
    let rules = c.in_ok-insert.ensures.items ∙ ap (λ r. r ∷ c.args.rules.items) rule in
    subst (λ rs. IsGrammar (grammar_from c.args.terminals accept start.0 rs)) (sym rules)
    (grammar_of c.args.terminals accept start.0 c.args.rules.items c.requires.start c.requires.some c.requires.within)
