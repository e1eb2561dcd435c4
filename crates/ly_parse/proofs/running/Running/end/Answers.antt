use Rattle.std.proofs.Common.{◌∙◌, [], ap, arith, refl, subst, sym}
use Rattle.std.specs.Prelude.{true}
use Rattle.ly_pack.specs.Machine.{shift}
use Rattle.ly_parse.specs.Feeding.{top_of}
use Rattle.ly_parse.specs.Parse.{Comes}
use Rattle.ly_parse.specs.Private.Answered.{with_note}
use Rattle.ly_parse.specs.Private.Stack.{parse_from}
use Rattle.ly_parse.specs.declared.token_outcome.TokenOutcome.TheVariants as answers
use Rattle.ly_parse.proofs.FeedingLemmas.{legal}
use Rattle.ly_parse.proofs.TakeLemmas.{acceptance_ends, accepts_token, has_states, refuses_token, taken}
use Rattle.ly_parse.proofs.running.Running.end.Goals as goal

pub returns-in-Accepts-clause-call : goal.returns-in-Accepts-clause-call
returns-in-Accepts-clause-call g c at =
    taken (with_note c.args.self.now c.args.before.now) (record { terminal = 0; at = at; bytes = [] })
    (with_note c.settle.new.self c.settle.new.before) c.acceptance.result
    (sym (ap (λ p. p.over) c.self.view_is) ∙ c.if-self.false)
    (subst (λ p. Comes (with_note p c.args.before.now) (record { terminal = 0; at = at; bytes = [] })
    (with_note c.settle.new.self c.settle.new.before) c.acceptance.result) c.self.view_is
    (accepts_token (parse_from c.self.inside.machine c.self.inside.forest c.self.inside.stack.items
    c.self.inside.count true) (record { terminal = 0; at = at; bytes = [] })
    c.args.before.now c.settle.new.self c.in-Accepts.ensures.settled.0 c.in-Accepts.ensures.machine
    c.in-Accepts.ensures.count c.acceptance.result c.settle.new.before c.in-Accepts.ensures.settled.1
    c.acceptance.ensures)) (c.in-Accepts.ensures.machine ∙ ap (λ p. p.machine) c.self.view_is)
    (c.in-Accepts.ensures.over ∙ acceptance_ends c.settle.new.self.stack c.acceptance.result c.acceptance.ensures)

pub returns-in-Refuses-clause-call : goal.returns-in-Refuses-clause-call
returns-in-Refuses-clause-call g c at =
    taken (with_note c.args.self.now c.args.before.now) (record { terminal = 0; at = at; bytes = [] })
    (with_note c.settle.new.self c.settle.new.before) answers.Refuses
    (sym (ap (λ p. p.over) c.self.view_is) ∙ c.if-self.false)
    (subst (λ p. Comes (with_note p c.args.before.now) (record { terminal = 0; at = at; bytes = [] })
    (with_note c.settle.new.self c.settle.new.before) answers.Refuses) c.self.view_is
    (refuses_token (parse_from c.self.inside.machine c.self.inside.forest c.self.inside.stack.items
    c.self.inside.count true) (record { terminal = 0; at = at; bytes = [] })
    c.args.before.now c.settle.new.self c.in-Refuses.ensures.settled.0 c.in-Refuses.ensures.machine
    c.in-Refuses.ensures.count c.settle.new.before
    (has_states c.self.inside.machine c.self.inside.forest c.self.inside.stack.items
    (parse_from c.self.inside.machine c.self.inside.forest c.self.inside.stack.items c.self.inside.count true)
    c.self.inside.count true refl c.self.invariant.0) c.in-Refuses.ensures.settled.1
    c.in-Refuses.ensures.settled.2)) (c.in-Refuses.ensures.machine ∙ ap (λ p. p.machine) c.self.view_is)
    c.in-Refuses.ensures.over

pub unreachable-requires : goal.unreachable-requires
unreachable-requires g c =
    let some = (legal c.self.inside.machine (top_of c.settle.new.self.stack) 0 (shift c.in-Reads.field-0.0)
    c.self.invariant.0.machine c.in-Reads.ensures.settled.1).1 in
    absurd (omega (arith, some))
