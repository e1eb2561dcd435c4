use Rattle.std.proofs.Common.{◌∙◌, ap, arith, refl, rules, subst, sym, tests}
use Rattle.ly_base.specs.declared.numbers.StateNo.{StateNo}
use Rattle.ly_pack.specs.Machine.{states_of}
use Rattle.ly_loop.specs.Private.Edges.{AreDoubtful, AreTargets}
use Rattle.ly_loop.specs.Private.Listed.{IsListed}
use Rattle.ly_loop.specs.declared.tokens.Tokens.TheVariants.{All}
use Rattle.ly_loop.proofs.EdgeLemmas.{doubtful_more}
use Rattle.ly_loop.proofs.TargetLemmas.{targets_at}
use Rattle.ly_loop.proofs.listed.Listed.doubtful_edges.Goals as goal

pub push_doubtful-requires-clause-targets : goal.push_doubtful-requires-clause-targets
push_doubtful-requires-clause-targets g c =
    let m = c.args.self.now in
    let listed = subst (λ n. IsListed n c.self.inside.entries.now c.self.inside.gotos.now c.self.inside.reductions.now)
    c.self.view_is c.self.invariant in
    subst (AreTargets m c.loop-number.number) (sym c.deref-in-loop-number-4.ensures.value)
    (targets_at m c.self.inside.entries.now c.self.inside.gotos.now c.loop-number.number
    c.index-self-number.result c.index-self-number-in-loop-number.result c.deref-in-loop-number.result.now
    c.deref-in-loop-number-3.result.now c.targets.new.targets.items listed.entries_are listed.gotos_are
    (omega (arith, c.loop-number-test.true, ap states_of c.self.view_is, c.states-number-end.ensures.count))
    c.index-self-number.is c.index-self-number-in-loop-number.is
    (c.deref-in-loop-number.ensures.value ∙ ap (λ v. v.items) c.deref.ensures
    ∙ ap (λ r. r.value.items) (sym c.index-self-number.is))
    (c.deref-in-loop-number-3.ensures.value ∙ ap (λ v. v.items) c.deref-in-loop-number-2.ensures
    ∙ ap (λ r. r.value.items) (sym c.index-self-number-in-loop-number.is))
    c.in_ok-targets.ensures)

pub loop-number-init : goal.loop-number-init
loop-number-init g c = record {
  known = c.new-known.ensures c.args.self.now All;
  doubtful = search (rules, tests);
}

pub loop-number-preserved : goal.loop-number-preserved
loop-number-preserved g c =
    let m = c.args.self.now in
    let listed = subst (λ n. IsListed n c.self.inside.entries.now c.self.inside.gotos.now c.self.inside.reductions.now)
    c.self.view_is c.self.invariant in
    let n = c.loop-number.number in
    let below : StateNo = record { 0 = n } in
    let targets = c.deref-in-loop-number-4.result.now in
    let are = subst (AreTargets m n) (sym c.deref-in-loop-number-4.ensures.value)
    (targets_at m c.self.inside.entries.now c.self.inside.gotos.now n
    c.index-self-number.result c.index-self-number-in-loop-number.result c.deref-in-loop-number.result.now
    c.deref-in-loop-number-3.result.now c.targets.new.targets.items listed.entries_are listed.gotos_are
    (omega (arith, c.loop-number-test.true, ap states_of c.self.view_is, c.states-number-end.ensures.count))
    c.index-self-number.is c.index-self-number-in-loop-number.is
    (c.deref-in-loop-number.ensures.value ∙ ap (λ v. v.items) c.deref.ensures
    ∙ ap (λ r. r.value.items) (sym c.index-self-number.is))
    (c.deref-in-loop-number-3.ensures.value ∙ ap (λ v. v.items) c.deref-in-loop-number-2.ensures
    ∙ ap (λ r. r.value.items) (sym c.index-self-number-in-loop-number.is))
    c.in_ok-targets.ensures) in
    record {
      known = c.in_ok-push_doubtful.ensures.known;
      doubtful = doubtful_more m n below targets c.loop-number.doubtful.items c.push_doubtful.new.doubtful.items refl
          c.loop-number.invariant.doubtful are c.in_ok-push_doubtful.ensures.doubtful;
    }

pub returns : goal.returns
returns g c =
    subst (λ n. AreDoubtful c.args.self.now n c.loop-number.doubtful.items)
    (omega (arith, c.loop-number-test.false, ap states_of c.self.view_is, c.states-number-end.ensures.count))
    c.loop-number.invariant.doubtful
