use Rattle.std.proofs.Common.{◌-◌, ap, refl}
use Rattle.ly_parse.proofs.BeforeLemmas.{alike_below, still_some}
use Rattle.ly_parse.proofs.PassLemmas.{acts_on, counts, has_top, one_level, passed_on, passes_lead, situated}
use Rattle.ly_parse.proofs.ShortcutLemmas.{passes_from}
use Rattle.ly_parse.proofs.running.Running.pass.Goals as goal

pub invariant_of-self : goal.invariant_of-self
invariant_of-self g c =
    let place = c.len-height.result - 1 in
    let size = counts c.self.inside.stack c.len-height.result place c.len-height.ensures (c.if-height-gt0.true, refl) in
    let top = has_top c.self.inside.machine c.self.inside.forest c.self.inside.stack.items c.args.self.now
    c.self.inside.count c.self.inside.over place c.top_at.result.0 c.index.result.now c.self.view_is
    c.self.invariant.0 size c.index.ensures c.top_at.ensures.top in (
      passed_on c.args.self.now c.self.inside.machine c.self.inside.forest c.self.inside.stack.items
          place c.index.result.now
          (record { state = c.in-Some.shortcut.state; term = c.index_mut.result.now.term })
          (record { below = c.top_at.result; top = c.index.result.now.state; terminal = c.args.terminal }) top
          (situated c.args.self.now c.self.inside.machine c.self.inside.forest c.self.inside.stack.items
          place c.index.result.now
          (record { below = c.top_at.result; top = c.index.result.now.state; terminal = c.args.terminal }) top refl
          c.top_at.ensures.known c.requires)
          (passes_from c.self.inside.machine
          (record { below = c.top_at.result; top = c.index.result.now.state; terminal = c.args.terminal })
          c.in-Some.shortcut (c.in-Some.ensures c.self.inside.machine c.self.invariant.1.passes))
          (ap (λ x. x.term) (one_level c.self.inside.stack.items place c.index.result.now
          c.index_mut.result.now size c.index.ensures c.index_mut.ensures.value)),
      c.self.invariant.1,
    )

pub returns-in-Some-clause-leads : goal.returns-in-Some-clause-leads
returns-in-Some-clause-leads g c =
    let place = c.len-height.result - 1 in
    let size = counts c.self.inside.stack c.len-height.result place c.len-height.ensures (c.if-height-gt0.true, refl) in
    let top = has_top c.self.inside.machine c.self.inside.forest c.self.inside.stack.items c.args.self.now
    c.self.inside.count c.self.inside.over place c.top_at.result.0 c.index.result.now c.self.view_is
    c.self.invariant.0 size c.index.ensures c.top_at.ensures.top in
    passes_lead c.args.self.now c.self.inside.machine c.self.inside.forest c.self.inside.stack.items
    place c.index.result.now
    (record { state = c.in-Some.shortcut.state; term = c.index_mut.result.now.term })
    (record { below = c.top_at.result; top = c.index.result.now.state; terminal = c.args.terminal }) top refl
    (passes_from c.self.inside.machine
    (record { below = c.top_at.result; top = c.index.result.now.state; terminal = c.args.terminal })
    c.in-Some.shortcut (c.in-Some.ensures c.self.inside.machine c.self.invariant.1.passes))
    (ap (λ x. x.term) (one_level c.self.inside.stack.items place c.index.result.now
    c.index_mut.result.now size c.index.ensures c.index_mut.ensures.value))

pub returns-in-Some-clause-action : goal.returns-in-Some-clause-action
returns-in-Some-clause-action g c =
    let place = c.len-height.result - 1 in
    let size = counts c.self.inside.stack c.len-height.result place c.len-height.ensures (c.if-height-gt0.true, refl) in
    let top = has_top c.self.inside.machine c.self.inside.forest c.self.inside.stack.items c.args.self.now
    c.self.inside.count c.self.inside.over place c.top_at.result.0 c.index.result.now c.self.view_is
    c.self.invariant.0 size c.index.ensures c.top_at.ensures.top in
    acts_on c.args.self.now c.self.inside.machine c.self.inside.forest c.self.inside.stack.items place
    c.top_at.result.0 c.index.result.now
    (record { state = c.in-Some.shortcut.state; term = c.index_mut.result.now.term })
    (record { below = c.top_at.result; top = c.index.result.now.state; terminal = c.args.terminal })
    c.in-Some.shortcut top (c.in-Some.ensures c.self.inside.machine c.self.invariant.1.passes) refl
    (ap (λ x. x.term) (one_level c.self.inside.stack.items place c.index.result.now
    c.index_mut.result.now size c.index.ensures c.index_mut.ensures.value))

pub returns-in-Some-clause-below : goal.returns-in-Some-clause-below
returns-in-Some-clause-below g c =
    let place = c.len-height.result - 1 in
    let size = counts c.self.inside.stack c.len-height.result place c.len-height.ensures (c.if-height-gt0.true, refl) in
    let top = has_top c.self.inside.machine c.self.inside.forest c.self.inside.stack.items c.args.self.now
    c.self.inside.count c.self.inside.over place c.top_at.result.0 c.index.result.now c.self.view_is
    c.self.invariant.0 size c.index.ensures c.top_at.ensures.top in
    alike_below c.args.self.now c.self.inside.machine c.self.inside.forest c.self.inside.stack.items place
    c.top_at.result.0 c.index.result.now
    (record { state = c.in-Some.shortcut.state; term = c.index_mut.result.now.term }) top
    (ap (λ x. x.term) (one_level c.self.inside.stack.items place c.index.result.now
    c.index_mut.result.now size c.index.ensures c.index_mut.ensures.value))

pub returns-in-Some-clause-some : goal.returns-in-Some-clause-some
returns-in-Some-clause-some g c =
    let place = c.len-height.result - 1 in
    let size = counts c.self.inside.stack c.len-height.result place c.len-height.ensures (c.if-height-gt0.true, refl) in
    let top = has_top c.self.inside.machine c.self.inside.forest c.self.inside.stack.items c.args.self.now
    c.self.inside.count c.self.inside.over place c.top_at.result.0 c.index.result.now c.self.view_is
    c.self.invariant.0 size c.index.ensures c.top_at.ensures.top in
    still_some c.args.self.now c.self.inside.machine c.self.inside.forest c.self.inside.stack.items place
    c.top_at.result.0 c.index.result.now
    (record { state = c.in-Some.shortcut.state; term = c.index_mut.result.now.term }) top
    (ap (λ x. x.term) (one_level c.self.inside.stack.items place c.index.result.now
    c.index_mut.result.now size c.index.ensures c.index_mut.ensures.value))
