use Rattle.std.proofs.Common.{◌∙◌, sym, subst}
use Rattle.ly_join.specs.Grammar.{GrammarRule}
use Rattle.ly_grammar.specs.Private.Search.{Progress, HasPlaces, HasPassed, with_passed}
use Rattle.ly_grammar.proofs.AdvanceLemmas.{IsRead, copied_get, has_passed}
use Rattle.ly_grammar.proofs.search.Search.pass.Goals as goal

pub returns : goal.returns
returns c =
    let s : Progress = record {
      terminals = c.self.inside.terminals;
      found = c.self.inside.found.items;
      passed = c.self.inside.passed.items;
      waiting = c.self.inside.waiting;
      queue = c.self.inside.queue.items;
    } in
    let p = c.args.number in
    let r : GrammarRule = c.args.rule.now in
    let symbols = c.body-body.result.now in
    let at = c.passing_until-at.result in
    let read : IsRead s p r symbols c.deref.result.now c.index.result.now at = record {
      body = c.body-body.ensures;
      found = c.deref.ensures.value;
      first = c.index.ensures;
      within = c.passing_until-at.ensures.within;
      passing = c.passing_until-at.ensures.passing;
      stops = c.passing_until-at.ensures.stops;
    } in
    subst (λ n. HasPassed n (with_passed s p at) p r c.copied.result) c.self.view_is
    (has_passed s p r symbols c.deref.result.now c.index.result.now at c.copied.result read
    (subst (λ n. HasPlaces n p r) (sym c.self.view_is) c.requires)
    (c.copied.ensures ∙ copied_get c.get.result symbols at c.get.ensures.lookup.0 c.get.ensures.lookup.1))
