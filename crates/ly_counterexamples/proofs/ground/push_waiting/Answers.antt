use Rattle.std.proofs.Common.{◌≡◌, ◌∙◌, ◌<◌, ◌+◌, ap, arith, subst, sym, length, map, slice_index_or}
use Rattle.ly_join.specs.Grammar.{nonterminal, symbol_of}
use Rattle.ly_grammar.specs.Private.Search.{HasNumberBelow}
use Rattle.ly_relate.proofs.WalkLemmas.{no_symbol, shown_symbol}
use Rattle.ly_counterexamples.specs.Private.Lists.{AreWaitingAdded}
use Rattle.ly_counterexamples.proofs.RestLemmas.{symbol_within}
use Rattle.ly_counterexamples.proofs.GroundLemmas.{waiting_none, waiting_push, waiting_skip}
use Rattle.ly_counterexamples.proofs.ground.push_waiting.Goals as goal
use Rattle.ly_counterexamples.proofs.ground.push_waiting.Goals.{in-Nonterminal+in_ok-push, in_default}

pub loop-dot-init : goal.loop-dot-init
loop-dot-init c = waiting_none c.args.waiting.now (map symbol_of c.args.body.now) c.args.rule

pub push-requires : goal.push-requires
push-requires c =
    let lt : c.in-Nonterminal.symbol.0 < length c.args.waiting.now
    = subst (HasNumberBelow (length c.args.waiting.now)) (ap symbol_of c.in-Nonterminal.is)
    (symbol_within (HasNumberBelow (length c.args.waiting.now)) c.args.body.now c.loop-dot.dot c.requires
    c.loop-dot-test.true) in
    let long = c.loop-dot.invariant.count in
    omega (arith, lt, long)

pub loop-dot-preserved : goal.loop-dot-preserved
loop-dot-preserved c =
    let body = c.args.body.now in
    let k = c.loop-dot.dot in
    let X = symbol_of (slice_index_or body k no_symbol) in
    let at = shown_symbol body k c.loop-dot-test.true in
    elim c.match-body-dot.branch [
      | in-Nonterminal+in_ok-push w ↦
          let named : X ≡ nonterminal w.in-Nonterminal.symbol.0 = ap symbol_of w.in-Nonterminal.is in
          let lt : w.in-Nonterminal.symbol.0 < length c.args.waiting.now
          = subst (HasNumberBelow (length c.args.waiting.now)) named
          (symbol_within (HasNumberBelow (length c.args.waiting.now)) body k c.requires c.loop-dot-test.true) in
          let long = c.loop-dot.invariant.count in
          waiting_push c.args.waiting.now c.loop-dot.waiting (map symbol_of body) c.args.rule k X at
          c.loop-dot.invariant c.match-body-dot.waiting w.in-Nonterminal.symbol.0 named (omega (arith, lt, long))
          (w.waiting-is ∙ w.in_ok-push.ensures)
      | in_default w ↦ subst (λ v. AreWaitingAdded c.args.waiting.now v (map symbol_of body) c.args.rule (k + 1))
          (sym w.waiting-is) (waiting_skip c.args.waiting.now c.loop-dot.waiting (map symbol_of body) c.args.rule k X at
          c.loop-dot.invariant w.in_default.field-0.0 (ap symbol_of w.in_default.is))
    ]
