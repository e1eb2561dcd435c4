use Rattle.std.proofs.Common.{◌∙◌, ◌<◌, ap, drop, get_or, map, suc, subst, sym}
use Rattle.std.proofs.lemmas.Result.{IfOk-weaker}
use Rattle.ly_repair.specs.Private.Stacks.{stack_of}
use Rattle.ly_repair.specs.Private.Text.{IsNext, IsOutcome, after}
use Rattle.ly_repair.proofs.TextLemmas.{after_none, after_some, end_is, known_at, next_is}
use Rattle.ly_repair.proofs.text.Text.read.Goals as goal

pub run-requires-clause-terminal : goal.run-requires-clause-terminal
run-requires-clause-terminal g c = subst (λ m. (get_or c.self.inside.rest.now c.args.index
    (record { 0 = 0 })).0 < m.terminals)
    (ap (λ x. x.machine) c.self.view_is)
    (known_at c.self.inside.machine.now c.self.inside.rest.now c.args.index (record { 0 = 0 }) c.self.invariant.known
    c.if-index-self.true).1

pub returns-then-index-self-clause-next : goal.returns-then-index-self-clause-next
returns-then-index-self-clause-next g c =
    let m = c.args.self.now.machine in
    let rest = c.self.inside.rest.now in
    let stack = stack_of c.args.runs.now.stacks c.args.at.0 in
    let stacks = c.run.new.runs.stacks in
    let t = (get_or rest c.args.index (record { 0 = 0 })).0 in
    let is = ap (λ x. drop c.args.index x.terminals) (sym c.self.view_is)
    ∙ after_some rest c.args.index (record { 0 = 0 }) c.if-index-self.true in
    let low = (known_at c.self.inside.machine.now rest c.args.index (record { 0 = 0 }) c.self.invariant.known
    c.if-index-self.true).0 in
    IfOk-weaker c.run.result (IsOutcome m t stack stacks) (IsNext m (after c.args.self.now c.args.index) stack stacks)
    (λ r o. subst (λ w. IsNext m w stack stacks r) (sym is)
    (next_is m stack stacks t (drop (suc c.args.index) (map (λ s. s.0) rest)) r low o)) c.run.ensures.outcome

pub returns-clause-next : goal.returns-clause-next
returns-clause-next g c =
    let m = c.args.self.now.machine in
    let rest = c.self.inside.rest.now in
    let stack = stack_of c.args.runs.now.stacks c.args.at.0 in
    let stacks = c.run-2.new.runs.stacks in
    let is = ap (λ x. drop c.args.index x.terminals) (sym c.self.view_is)
    ∙ after_none rest c.args.index c.if-index-self.false in
    IfOk-weaker c.run-2.result (IsOutcome m 0 stack stacks) (IsNext m (after c.args.self.now c.args.index) stack stacks)
    (λ r o. subst (λ w. IsNext m w stack stacks r) (sym is) (end_is m stack stacks r o)) c.run-2.ensures.outcome
