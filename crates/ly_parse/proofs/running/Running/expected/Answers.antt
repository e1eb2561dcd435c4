use Rattle.std.proofs.Common.{◌<◌, All, ap, map, subst, sym}
use Rattle.std.specs.Prelude.{IfOk}
use Rattle.ly_pack.specs.Machine.{states_of}
use Rattle.ly_pack.specs.SteadyLaws.{IsStack}
use Rattle.ly_parse.specs.Expected.{AreExpected}
use Rattle.ly_parse.specs.Private.Before.{before_on}
use Rattle.ly_parse.proofs.BeforeLemmas.{listed_states}
use Rattle.ly_parse.proofs.running.Running.expected.Goals as goal

pub expected-requires-clause-states : goal.expected-requires-clause-states
expected-requires-clause-states g c =
    subst (All (λ k. k < states_of c.self.inside.machine))
    (sym (listed_states c.self.inside.machine c.self.inside.forest c.self.inside.stack.items c.deref.result.now
    c.args.self.now c.self.inside.count c.self.inside.over c.args.before.now c.in_ok-states.states.items
    c.deref-2.result.now c.self.view_is c.deref.ensures.value c.in_ok-states.ensures c.deref-2.ensures.value))
    (subst (λ m. All (λ k. k < states_of m) (before_on c.args.self.now.stack c.args.before.now))
    (sym (ap (λ q. q.machine) c.self.view_is)) c.requires.states)

pub expected-requires-clause-stack : goal.expected-requires-clause-stack
expected-requires-clause-stack g c =
    subst (IsStack c.self.inside.machine)
    (sym (listed_states c.self.inside.machine c.self.inside.forest c.self.inside.stack.items c.deref.result.now
    c.args.self.now c.self.inside.count c.self.inside.over c.args.before.now c.in_ok-states.states.items
    c.deref-2.result.now c.self.view_is c.deref.ensures.value c.in_ok-states.ensures c.deref-2.ensures.value))
    (subst (λ m. IsStack m (before_on c.args.self.now.stack c.args.before.now))
    (sym (ap (λ q. q.machine) c.self.view_is)) c.requires.edges)

pub returns : goal.returns
returns g c =
    subst (λ m. IfOk c.expected.result (λ ts. AreExpected m (before_on c.args.self.now.stack c.args.before.now)
    (map (λ s. s.0) ts.items))) (ap (λ q. q.machine) c.self.view_is)
    (subst (λ w. IfOk c.expected.result (λ ts. AreExpected c.self.inside.machine w (map (λ s. s.0) ts.items)))
    (listed_states c.self.inside.machine c.self.inside.forest c.self.inside.stack.items c.deref.result.now
    c.args.self.now c.self.inside.count c.self.inside.over c.args.before.now c.in_ok-states.states.items
    c.deref-2.result.now c.self.view_is c.deref.ensures.value c.in_ok-states.ensures c.deref-2.ensures.value)
    c.expected.ensures)
