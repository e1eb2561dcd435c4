use Rattle.std.proofs.Common.{◌≡◌, Some, get_or, take}
use Rattle.std.specs.Prelude.{slice_get}
use Rattle.std.proofs.lemmas.List.{take_all}
use Rattle.std.proofs.lemmas.Option.{slice_get-get_or}
use Rattle.ly_position.specs.declared.nfa.Target.{Target}
use Rattle.ly_position.specs.declared.nfa.Target.TheVariants.{Position}
use Rattle.ly_position.proofs.SetLemmas.{puts_all, puts_one}
use Rattle.ly_position.proofs.starts.fill_from.Goals as goal

pub loop-root-preserved : goal.loop-root-preserved
loop-root-preserved c =
    let ts = c.args.targets.now in
    let roots = c.args.roots.now in
    let i = c.loop-root.root-index in
    let at = slice_get-get_or ts (get_or roots i 0) (Position 0) (c.requires.roots i 0 c.loop-root-test.true) in
    let same : (u : Target) → slice_get ts (get_or roots i 0) ≡ Some u → get_or ts (get_or roots i 0) (Position 0) ≡ u
    = λ u e. cc in
    puts_one (λ r t. slice_get ts r ≡ Some t) c.args.set.now c.loop-root.set roots i c.loop-root-test.true
    c.loop-root.invariant c.put.new.self (get_or ts (get_or roots i 0) (Position 0)) at same c.put.ensures.added
    c.put.ensures.room

pub returns-clause-members : goal.returns-clause-members
returns-clause-members c =
    let ts = c.args.targets.now in
    let all : take c.loop-root.root-index c.args.roots.now ≡ c.args.roots.now =
    take_all c.loop-root.root-index c.args.roots.now c.loop-root-test.false in
    puts_all (λ r t. slice_get ts r ≡ Some t) c.args.set.now c.loop-root.set c.args.forks.now
    c.follow.new.self c.args.roots.now (rw all at c.loop-root.invariant) c.follow.ensures.closed
