use Rattle.std.proofs.Common.{◌<◌, ◌∙◌, sym, ap, subst, length, Some, All, Contains}
use Rattle.std.specs.Option.{IfSome}
use Rattle.std.proofs.lemmas.Result.{on_ok_weaker}
use Rattle.ly_join.specs.Grammar.{GrammarRule, symbol_of}
use Rattle.ly_grammar.specs.Private.Search.{Progress, HasNumberBelow, Advances, StopsAt, stopped, with_found}
use Rattle.ly_grammar.specs.Private.Search.{with_waiting}
use Rattle.ly_join.specs.declared.symbol.Symbol.TheVariants.{Terminal, Nonterminal}
use Rattle.ly_grammar.proofs.AdvanceLemmas.{numbered_in, all_passed, nonterminal_stops, then_advances}
use Rattle.ly_grammar.proofs.search.Search.advance.Goals as goal

pub wait-requires : goal.wait-requires
wait-requires c =
    let r : GrammarRule = c.args.rule.now in
    let s : Progress = c.args.self.now in
    let A = c.in-Some-Nonterminal.symbol.0 in
    let inside : IfSome (Some (Nonterminal c.in-Some-Nonterminal.symbol)) (λ X. Contains r.body (symbol_of X))
    = subst (λ o. IfSome o (λ X. Contains r.body (symbol_of X)))
    (c.in-Some-Nonterminal.is ∙ ap (λ X. Some X) c.in-Some-Nonterminal.field-0-is) c.pass.ensures.inside in
    subst (λ n. A < n) (sym c.requires.waiting ∙ ap (λ s. length s.waiting) (sym c.pass.ensures.rest))
    (numbered_in (length s.found) r.body A c.requires.numbered.body inside)

pub find-requires : goal.find-requires
find-requires c =
    subst (λ n. n < length c.pass.new.self.found) (sym c.left.ensures)
    (subst (λ n. c.args.rule.now.left < n)
    (ap (λ s. length s.found) (sym c.pass.ensures.rest)) c.requires.numbered.left)

pub returns-in-None : goal.returns-in-None
returns-in-None c =
    let p = c.args.number in
    let r : GrammarRule = c.args.rule.now in
    let s : Progress = c.args.self.now in
    let t : Progress = c.pass.new.self in
    on_ok_weaker c.find.result (λ e G search rule.
    let on = c.pass.ensures.on G search rule in
    let all = subst (StopsAt t r) c.in-None.is (c.pass.ensures.stops G search rule) in
    let lt : r.left < length t.found
    = subst (λ n. r.left < n) (ap (λ s. length s.found) (sym c.pass.ensures.rest)) c.requires.numbered.left in
    subst (λ n. Advances G s n p r) (sym (e ∙ ap (with_found t) c.left.ensures))
    (then_advances G s t (with_found t r.left) p r on (all_passed G t p r lt on.search rule all)))
    c.find.ensures

pub returns-in-Some-Nonterminal : goal.returns-in-Some-Nonterminal
returns-in-Some-Nonterminal c =
    let p = c.args.number in
    let r : GrammarRule = c.args.rule.now in
    let s : Progress = c.args.self.now in
    let t : Progress = c.pass.new.self in
    let A = c.in-Some-Nonterminal.symbol.0 in
    let numbered : All (HasNumberBelow (length t.found)) r.body
    = subst (λ n. All (HasNumberBelow n) r.body) (ap (λ s. length s.found) (sym c.pass.ensures.rest))
    c.requires.numbered.body in
    on_ok_weaker c.wait.result (λ e G search rule.
    let on = c.pass.ensures.on G search rule in
    let stop : StopsAt t r (Some (Nonterminal c.in-Some-Nonterminal.symbol))
    = subst (StopsAt t r) (c.in-Some-Nonterminal.is ∙ ap (λ X. Some X) c.in-Some-Nonterminal.field-0-is)
    (c.pass.ensures.stops G search rule) in
    subst (λ n. Advances G s n p r) (sym e)
    (then_advances G s t (with_waiting t A p) p r on
    (nonterminal_stops G t p r A on.search rule stop.0 stop.1 (subst (λ n. A < n)
    (on.search.found_long ∙ sym on.search.waiting_long)
    (numbered_in (length t.found) r.body A numbered stop.0)))))
    c.wait.ensures

pub returns-in-Some-Terminal : goal.returns-in-Some-Terminal
returns-in-Some-Terminal c G search rule =
    let r : GrammarRule = c.args.rule.now in
    let t : Progress = c.pass.new.self in
    let stop : StopsAt t r (Some (Terminal c.in-Some-Terminal.field-0-0))
    = subst (StopsAt t r) (c.in-Some-Terminal.is ∙ ap (λ X. Some X) c.in-Some-Terminal.field-0-is)
    (c.pass.ensures.stops G search rule) in
    record {
      on = c.pass.ensures.on G search rule;
      settled = λ pending. stopped c.in-Some-Terminal.field-0-0.0 stop.0 stop.1;
    }
