use Rattle.std.proofs.Common.{◌∙◌, ◌++◌, ◌∷◌, [], length, map, sym, ap, ap₂, subst}
use Rattle.std.specs.Prelude.{MatchOption}
use Rattle.std.proofs.lemmas.List.{length-map, map-append}
use Rattle.ly_join.specs.Grammar.{symbol_of}
use Rattle.ly_relate.specs.Private.Walks.{AreEdgesTo, IsIncludingBy, IsPassed, IsStopped}
use Rattle.ly_relate.specs.Values.{goto_from, lookback_from}
use Rattle.ly_relate.specs.declared.walks.Lookback as code
use Rattle.ly_relate.proofs.GotoLemmas.{numbered_states}
use Rattle.ly_relate.proofs.RuleLemmas.{back_by, included_by, not_stopped, walked}
use Rattle.ly_relate.proofs.walks.Walks.walk.Goals as goal

pub pass-requires : goal.pass-requires
pass-requires c =
    (numbered_states c.args.gotos.now c.get.ensures.lawful c.args.goto (goto_from c.get.result) c.get.ensures.there).0

pub returns-in_ok-include-clause-includes : goal.returns-in_ok-include-clause-includes
returns-in_ok-include-clause-includes c =
    let n = c.args.gotos.now in
    let body = map symbol_of c.body-body.result.now in
    let is = walked n c.args.goto c.args.rule c.get.result c.grammar.result.now c.reduced.result.now.grammar
    c.rule.result.now body c.get.ensures.there c.requires.rule c.grammar.ensures.keeps
    (c.reduced.ensures ∙ ap (λ M. M.grammar) c.lr0.ensures.automaton) c.rule.ensures.there c.body-body.ensures in
    let path = map (λ q. q.0) c.pass.new.self.path.items in
    let passed : IsPassed n.automaton c.get.result.from.0 body (length c.body-body.result.now) path c.in-Some.state.0
    = subst (λ o. MatchOption o (IsStopped n.automaton c.get.result.from.0 body) (λ s. IsPassed n.automaton
    c.get.result.from.0 body (length c.body-body.result.now) path s.0)) c.in-Some.is c.in_ok-state.ensures.passed in
    subst (λ g. AreEdgesTo g c.include.new.self.includes c.args.node
    (λ i. IsIncludingBy n.automaton n.gotos c.args.rule i c.args.goto))
    c.in_ok-state.ensures.includes
    (included_by n c.get.ensures.lawful c.args.goto c.args.node c.args.rule c.get.result.from.0 body
    (length c.body-body.result.now) path
    c.in-Some.state.0 c.pass.new.self.includes c.include.new.self.includes is
    (sym (length-map c.body-body.result.now symbol_of)) passed c.in_ok-include.ensures.includes)

pub returns-in_ok-include-clause-lookbacks : goal.returns-in_ok-include-clause-lookbacks
returns-in_ok-include-clause-lookbacks c =
    let n = c.args.gotos.now in
    let body = map symbol_of c.body-body.result.now in
    let is = walked n c.args.goto c.args.rule c.get.result c.grammar.result.now c.reduced.result.now.grammar
    c.rule.result.now body c.get.ensures.there c.requires.rule c.grammar.ensures.keeps
    (c.reduced.ensures ∙ ap (λ M. M.grammar) c.lr0.ensures.automaton) c.rule.ensures.there c.body-body.ensures in
    let path = map (λ q. q.0) c.pass.new.self.path.items in
    let passed : IsPassed n.automaton c.get.result.from.0 body (length c.body-body.result.now) path c.in-Some.state.0
    = subst (λ o. MatchOption o (IsStopped n.automaton c.get.result.from.0 body) (λ s. IsPassed n.automaton
    c.get.result.from.0 body (length c.body-body.result.now) path s.0)) c.in-Some.is c.in_ok-state.ensures.passed in
    let v : code.Lookback = c.in_ok-lookback.lookback in
    let before = ap (map lookback_from) c.in_ok-state.ensures.lookbacks in
    back_by n c.get.ensures.lawful c.args.goto c.args.node c.args.rule c.get.result.from.0 body
    (length c.body-body.result.now) path
    c.in-Some.state.0 (map lookback_from c.args.self.now.lookbacks)
    (map lookback_from c.include.new.self.lookbacks) is
    (sym (length-map c.body-body.result.now symbol_of)) passed
    (ap (map lookback_from) c.in_ok-include.ensures.lookbacks
    ∙ ap (map lookback_from) c.in_ok-push.ensures
    ∙ map-append lookback_from c.pass.new.self.lookbacks (v ∷ [])
    ∙ ap₂ (λ w l. w ++ l ∷ []) before c.in_ok-lookback.ensures)

pub returns-in_default-clause-includes : goal.returns-in_default-clause-includes
returns-in_default-clause-includes c =
    let n = c.args.gotos.now in
    let body = map symbol_of c.body-body.result.now in
    let is = walked n c.args.goto c.args.rule c.get.result c.grammar.result.now c.reduced.result.now.grammar
    c.rule.result.now body c.get.ensures.there c.requires.rule c.grammar.ensures.keeps
    (c.reduced.ensures ∙ ap (λ M. M.grammar) c.lr0.ensures.automaton) c.rule.ensures.there c.body-body.ensures in
    let path = map (λ q. q.0) c.pass.new.self.path.items in
    absurd (not_stopped n c.get.ensures.lawful c.args.goto c.args.rule c.get.result.from.0 body is
    (subst (λ o. MatchOption o (IsStopped n.automaton c.get.result.from.0 body) (λ s. IsPassed n.automaton
    c.get.result.from.0 body (length c.body-body.result.now) path s.0)) c.in_default.is c.in_ok-state.ensures.passed))

pub returns-in_default-clause-lookbacks : goal.returns-in_default-clause-lookbacks
returns-in_default-clause-lookbacks c =
    let n = c.args.gotos.now in
    let body = map symbol_of c.body-body.result.now in
    let is = walked n c.args.goto c.args.rule c.get.result c.grammar.result.now c.reduced.result.now.grammar
    c.rule.result.now body c.get.ensures.there c.requires.rule c.grammar.ensures.keeps
    (c.reduced.ensures ∙ ap (λ M. M.grammar) c.lr0.ensures.automaton) c.rule.ensures.there c.body-body.ensures in
    let path = map (λ q. q.0) c.pass.new.self.path.items in
    absurd (not_stopped n c.get.ensures.lawful c.args.goto c.args.rule c.get.result.from.0 body is
    (subst (λ o. MatchOption o (IsStopped n.automaton c.get.result.from.0 body) (λ s. IsPassed n.automaton
    c.get.result.from.0 body (length c.body-body.result.now) path s.0)) c.in_default.is c.in_ok-state.ensures.passed))
