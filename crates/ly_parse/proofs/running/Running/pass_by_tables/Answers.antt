use Rattle.std.proofs.Common.{ap, refl}
use Rattle.ly_pack.specs.Steady.{here}
use Rattle.ly_parse.proofs.BeforeLemmas.{alike_below}
use Rattle.ly_parse.proofs.PassLemmas.{acts_on, counts, has_top, one_level, passed_on, passes_fail, passes_lead}
use Rattle.ly_parse.proofs.PassLemmas.{situated}
use Rattle.ly_parse.proofs.ShortcutLemmas.{passes_from}
use Rattle.ly_parse.proofs.running.Running.pass_by_tables.Goals as goal

pub returns-in_default-clause-leads : goal.returns-in_default-clause-leads
returns-in_default-clause-leads g c = record { alike = λ token out same fed. fed; count = 0; moves = here }

pub find-requires-clause-from : goal.find-requires-clause-from
find-requires-clause-from g c =
    let size = counts c.self.inside.stack c.len.result c.in-Some.place c.len.ensures c.in-Some.ensures in
    let top = has_top c.self.inside.machine c.self.inside.forest c.self.inside.stack.items c.args.self.now
    c.self.inside.count c.self.inside.over c.in-Some.place c.top_at.result.0 c.index.result.now c.self.view_is
    c.self.invariant.0 size c.index.ensures c.top_at.ensures.top in
    situated c.args.self.now c.self.inside.machine c.self.inside.forest c.self.inside.stack.items c.in-Some.place
    c.index.result.now
    (record { below = c.top_at.result; top = c.index.result.now.state; terminal = c.args.terminal }) top refl
    c.top_at.ensures.known c.requires

pub returns-in_default-find-clause-faulty : goal.returns-in_default-find-clause-faulty
returns-in_default-find-clause-faulty g c is =
    let size = counts c.self.inside.stack c.len.result c.in-Some.place c.len.ensures c.in-Some.ensures in
    let top = has_top c.self.inside.machine c.self.inside.forest c.self.inside.stack.items c.args.self.now
    c.self.inside.count c.self.inside.over c.in-Some.place c.top_at.result.0 c.index.result.now c.self.view_is
    c.self.invariant.0 size c.index.ensures c.top_at.ensures.top in
    passes_fail c.args.self.now c.self.inside.machine c.self.inside.forest c.self.inside.stack.items
    c.in-Some.place c.index.result.now
    (record { below = c.top_at.result; top = c.index.result.now.state; terminal = c.args.terminal }) top refl
    c.in_default-find.ensures

pub invariant_of-self-2 : goal.invariant_of-self-2
invariant_of-self-2 g c =
    let size = counts c.self.inside.stack c.len.result c.in-Some.place c.len.ensures c.in-Some.ensures in
    let top = has_top c.self.inside.machine c.self.inside.forest c.self.inside.stack.items c.args.self.now
    c.self.inside.count c.self.inside.over c.in-Some.place c.top_at.result.0 c.index.result.now c.self.view_is
    c.self.invariant.0 size c.index.ensures c.top_at.ensures.top in (
      passed_on c.args.self.now c.self.inside.machine c.self.inside.forest c.self.inside.stack.items
          c.in-Some.place c.index.result.now
          (record { state = c.in-Some-find.shortcut.state; term = c.index_mut.result.now.term })
          (record { below = c.top_at.result; top = c.index.result.now.state; terminal = c.args.terminal }) top
          (situated c.args.self.now c.self.inside.machine c.self.inside.forest c.self.inside.stack.items
          c.in-Some.place c.index.result.now
          (record { below = c.top_at.result; top = c.index.result.now.state; terminal = c.args.terminal }) top refl
          c.top_at.ensures.known c.requires)
          (passes_from c.self.inside.machine
          (record { below = c.top_at.result; top = c.index.result.now.state; terminal = c.args.terminal })
          c.in-Some-find.shortcut c.in-Some-find.ensures)
          (ap (λ x. x.term) (one_level c.self.inside.stack.items c.in-Some.place c.index.result.now
          c.index_mut.result.now size c.index.ensures c.index_mut.ensures.value)),
      record {
        passes = c.keep.ensures c.self.inside.machine c.self.invariant.1.passes c.in-Some-find.ensures.1;
        gotos = c.self.invariant.1.gotos;
      },
    )

pub returns-clause-leads : goal.returns-clause-leads
returns-clause-leads g c =
    let size = counts c.self.inside.stack c.len.result c.in-Some.place c.len.ensures c.in-Some.ensures in
    let top = has_top c.self.inside.machine c.self.inside.forest c.self.inside.stack.items c.args.self.now
    c.self.inside.count c.self.inside.over c.in-Some.place c.top_at.result.0 c.index.result.now c.self.view_is
    c.self.invariant.0 size c.index.ensures c.top_at.ensures.top in
    passes_lead c.args.self.now c.self.inside.machine c.self.inside.forest c.self.inside.stack.items
    c.in-Some.place c.index.result.now
    (record { state = c.in-Some-find.shortcut.state; term = c.index_mut.result.now.term })
    (record { below = c.top_at.result; top = c.index.result.now.state; terminal = c.args.terminal }) top refl
    (passes_from c.self.inside.machine
    (record { below = c.top_at.result; top = c.index.result.now.state; terminal = c.args.terminal })
    c.in-Some-find.shortcut c.in-Some-find.ensures)
    (ap (λ x. x.term) (one_level c.self.inside.stack.items c.in-Some.place c.index.result.now
    c.index_mut.result.now size c.index.ensures c.index_mut.ensures.value))

pub returns-clause-action : goal.returns-clause-action
returns-clause-action g c =
    let size = counts c.self.inside.stack c.len.result c.in-Some.place c.len.ensures c.in-Some.ensures in
    let top = has_top c.self.inside.machine c.self.inside.forest c.self.inside.stack.items c.args.self.now
    c.self.inside.count c.self.inside.over c.in-Some.place c.top_at.result.0 c.index.result.now c.self.view_is
    c.self.invariant.0 size c.index.ensures c.top_at.ensures.top in
    acts_on c.args.self.now c.self.inside.machine c.self.inside.forest c.self.inside.stack.items c.in-Some.place
    c.top_at.result.0 c.index.result.now
    (record { state = c.in-Some-find.shortcut.state; term = c.index_mut.result.now.term })
    (record { below = c.top_at.result; top = c.index.result.now.state; terminal = c.args.terminal })
    c.in-Some-find.shortcut top c.in-Some-find.ensures refl
    (ap (λ x. x.term) (one_level c.self.inside.stack.items c.in-Some.place c.index.result.now
    c.index_mut.result.now size c.index.ensures c.index_mut.ensures.value))

pub returns-clause-below : goal.returns-clause-below
returns-clause-below g c =
    let size = counts c.self.inside.stack c.len.result c.in-Some.place c.len.ensures c.in-Some.ensures in
    let top = has_top c.self.inside.machine c.self.inside.forest c.self.inside.stack.items c.args.self.now
    c.self.inside.count c.self.inside.over c.in-Some.place c.top_at.result.0 c.index.result.now c.self.view_is
    c.self.invariant.0 size c.index.ensures c.top_at.ensures.top in
    alike_below c.args.self.now c.self.inside.machine c.self.inside.forest c.self.inside.stack.items
    c.in-Some.place c.top_at.result.0 c.index.result.now
    (record { state = c.in-Some-find.shortcut.state; term = c.index_mut.result.now.term }) top
    (ap (λ x. x.term) (one_level c.self.inside.stack.items c.in-Some.place c.index.result.now
    c.index_mut.result.now size c.index.ensures c.index_mut.ensures.value))
