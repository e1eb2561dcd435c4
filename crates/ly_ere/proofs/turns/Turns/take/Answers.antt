use Rattle.std.proofs.Common.{◌≡◌, ◌<◌, [], ap, arith, set, length, refl, sym, subst, map, true, ◌∙◌}
use Rattle.std.specs.BTreeSet.{contains}
use Rattle.std.specs.Ordering.{nat_cmp}
use Rattle.std.proofs.lemmas.Bool.{false_from_ne_true}
use Rattle.std.proofs.lemmas.List.{drop_more, get_or-map, length-map, map-set}
use Rattle.ly_ere.specs.Private.Turns.{AreTaken, AreTurns, uses_at, uses_in}
use Rattle.ly_ere.proofs.TurnLemmas.{fewer_untaken, taken}
use Rattle.ly_ere.proofs.turns.Turns.take.Goals as goal

pub loop-sleeper-init : goal.loop-sleeper-init
loop-sleeper-init c =
    let self = c.args.self.now in
    let free = c.requires.turns.are_open 0 0 (omega arith) in
    let there : c.args.number < length self.waiting.items
    = omega (arith, free.0, c.requires.turns.waiting_counted, length-map self.waiting.items (λ v. v.items)) in
    let new = taken _ _ _ _ _ _ c.args.number c.requires.turns c.requires.through c.requires.least in
    let woken : uses_at (map (λ v. v.items) self.waiting.items) c.args.number ≡ c.deref-sleeper-items.result.now
    = get_or-map (λ v. v.items) self.waiting.items c.args.number c.index_mut-2.result.now [] there
    ∙ sym (c.deref-sleeper-items.ensures.value ∙ (ap (λ v. v.items) c.replace-woken.ensures.value
    ∙ ap (λ v. v.items) c.index_mut-2.ensures.value)) in
    let emptied : c.replace-woken.new.dest.items ≡ []
    = ap (λ v. v.items) c.replace-woken.ensures.after ∙ c.new.ensures.items in
    let done : AreTaken (uses_in self) self.passed.items
    (map (λ v. v.items) (set self.waiting.items c.args.number c.replace-woken.new.dest))
    (set self.taken.items c.args.number true) (contains nat_cmp self.ready) c.push.new.self.items
    c.deref-sleeper-items.result.now
    = rw (map-set, emptied, c.in_ok-push.ensures.items, ← woken) new in
    record {
      same = refl;
      taken = refl;
      turns = done;
    }

pub loop-sleeper-preserved : goal.loop-sleeper-preserved
loop-sleeper-preserved c = record {
  same = c.in_ok-settle.ensures.same ∙ c.loop-sleeper.invariant.same;
  taken = c.in_ok-settle.ensures.taken ∙ c.loop-sleeper.invariant.taken;
  turns = c.in_ok-settle.ensures.turns _ (subst (AreTurns c.loop-sleeper.self)
      (drop_more c.deref-sleeper-items.result.now c.loop-sleeper.sleeper-index 0 c.loop-sleeper-test.true)
      c.loop-sleeper.invariant.turns);
}

pub returns-clause-fewer : goal.returns-clause-fewer
returns-clause-fewer c =
    let a = c.requires.turns in
    let free = a.are_open 0 0 (omega arith) in
    let there : c.args.number < length c.args.self.now.taken.items = omega (arith, free.0, a.taken_counted) in
    rw c.loop-sleeper.invariant.taken (fewer_untaken c.args.self.now.taken.items c.args.number there
    (false_from_ne_true _ (λ is. free.1 ((a.is_taken c.args.number free.0).0 is))))

pub settle-requires : goal.settle-requires
settle-requires c = (
  _,
  subst (AreTurns c.loop-sleeper.self)
      (drop_more c.deref-sleeper-items.result.now c.loop-sleeper.sleeper-index 0 c.loop-sleeper-test.true)
      c.loop-sleeper.invariant.turns,
)

pub index_mut-requires : goal.index_mut-requires
index_mut-requires c =
    let a = c.requires.turns in
    omega (arith, (a.are_open 0 0 (omega arith)).0, a.taken_counted)

pub index_mut-requires-2 : goal.index_mut-requires-2
index_mut-requires-2 c =
    let a = c.requires.turns in
    omega (
      arith,
      (a.are_open 0 0 (omega arith)).0,
      a.waiting_counted,
      length-map c.args.self.now.waiting.items (λ v. v.items),
    )
