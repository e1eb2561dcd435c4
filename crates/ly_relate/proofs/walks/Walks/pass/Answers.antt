use Rattle.std.proofs.Common.{◌≡◌, ◌∙◌, ◌<◌, ◌∷◌, [], All, Some, length, map, sym, ap, subst, refl, slice_index_or}
use Rattle.std.proofs.lemmas.List.{map-append}
use Rattle.std.proofs.lemmas.List.Elements.{All-nil, All-push}
use Rattle.ly_join.specs.Grammar.{symbol_of}
use Rattle.ly_lr0.specs.Automaton.{goto_of}
use Rattle.ly_base.specs.declared.numbers.StateNo.{StateNo}
use Rattle.ly_relate.proofs.WalkLemmas.{leads_to, no_symbol, passed_more, passed_none, shown_symbol}
use Rattle.ly_relate.proofs.walks.Walks.pass.Goals as goal

pub loop-symbol-init : goal.loop-symbol-init
loop-symbol-init c =
    let IsIn : StateNo → Type 0 = λ q. q.0 < length c.args.gotos.now.automaton.states in
    record {
      includes = refl;
      lookbacks = refl;
      state = c.requires;
      path = subst (All IsIn) (sym c.clear.ensures.items) (All-nil IsIn);
      passed = passed_none c.args.gotos.now.automaton c.args.from.0 (map symbol_of c.args.body.now)
          (map (λ q. q.0) c.clear.new.self.items) (ap (map (λ q. q.0)) c.clear.ensures.items);
    }

pub loop-symbol-preserved : goal.loop-symbol-preserved
loop-symbol-preserved c =
    let M = c.args.gotos.now.automaton in
    let IsIn : StateNo → Type 0 = λ q. q.0 < length M.states in
    let k = c.loop-symbol.symbol-index in
    let path = c.loop-symbol.self.path.items in
    let X = symbol_of (slice_index_or c.args.body.now k no_symbol) in
    let goes : goto_of M c.loop-symbol.state.0 X ≡ Some c.in-Some.next.0
    = sym c.in-Some.ensures.leads in
    record {
      includes = c.loop-symbol.invariant.includes;
      lookbacks = c.loop-symbol.invariant.lookbacks;
      state = leads_to M c.goto.ensures.lawful.lawful c.loop-symbol.state.0 X c.in-Some.next.0 goes;
      path = subst (All IsIn) (sym c.in_ok-push.ensures.items)
          (All-push IsIn path c.loop-symbol.state c.loop-symbol.invariant.path c.loop-symbol.invariant.state);
      passed = passed_more M c.args.from.0 (map symbol_of c.args.body.now) k (map (λ q. q.0) path)
          (map (λ q. q.0) c.push.new.self.items) X c.loop-symbol.state.0 c.in-Some.next.0
          (shown_symbol c.args.body.now k c.loop-symbol-test.true)
          (ap (map (λ q. q.0)) c.in_ok-push.ensures.items ∙ map-append (λ q. q.0) path (c.loop-symbol.state ∷ [])) goes
          c.loop-symbol.invariant.passed;
    }
