use Rattle.std.proofs.Common.{◌<◌, ℕ, arith, length, refl, subst, sym, inl, Contains}
use Rattle.ly_join.specs.Grammar.{IsRule}
use Rattle.ly_relate.specs.Private.Groups.{BeginsSolid, LeadAlike, solid_of}
use Rattle.ly_relate.specs.Values.{goto_from}
use Rattle.ly_relate.proofs.GotoLemmas.{numbered_named, numbered_states}
use Rattle.ly_relate.proofs.GroupLemmas.{shifts_alike}
use Rattle.ly_relate.proofs.groups.lead_alike.Goals as goal

pub solid-solid-requires : goal.solid-solid-requires
solid-solid-requires c =
    let le = numbered_named c.args.gotos.now c.get-one.ensures.lawful c.args.one (goto_from c.get-one.result)
    c.get-one.ensures.there in
    let lt = c.requires.rules.solid in
    omega (arith, le, lt)

pub all_lead_alike-requires-clause-one : goal.all_lead_alike-requires-clause-one
all_lead_alike-requires-clause-one c =
    subst (λ M. c.get-one.result.from.0 < length M.states) (sym c.lr0-lr0.ensures.automaton)
    (numbered_states c.args.gotos.now c.get-one.ensures.lawful c.args.one (goto_from c.get-one.result)
    c.get-one.ensures.there).0

pub all_lead_alike-requires-clause-other : goal.all_lead_alike-requires-clause-other
all_lead_alike-requires-clause-other c =
    subst (λ M. c.get-other.result.from.0 < length M.states) (sym c.lr0-lr0.ensures.automaton)
    (numbered_states c.args.gotos.now c.get-other.ensures.lawful c.args.other (goto_from c.get-other.result)
    c.get-other.ensures.there).0

pub all_lead_alike-requires-clause-rules : goal.all_lead_alike-requires-clause-rules
all_lead_alike-requires-clause-rules c = λ k has.
    let x = goto_from c.get-one.result in
    let le = numbered_named c.args.gotos.now c.get-one.ensures.lawful c.args.one x c.get-one.ensures.there in
    let is = ((c.requires.rules.each x.symbol le).all k).0
    (inl (subst (λ l. Contains l k) c.solid-solid.ensures has)) in
    (is.0, subst (λ M. IsRule M.grammar k is.0) (sym c.lr0-lr0.ensures.automaton) is.1)

pub shift_alike-requires-clause-one : goal.shift_alike-requires-clause-one
shift_alike-requires-clause-one c =
    subst (λ M. c.get-one.result.from.0 < length M.states) (sym c.lr0-lr0.ensures.automaton)
    (numbered_states c.args.gotos.now c.get-one.ensures.lawful c.args.one (goto_from c.get-one.result)
    c.get-one.ensures.there).0

pub shift_alike-requires-clause-other : goal.shift_alike-requires-clause-other
shift_alike-requires-clause-other c =
    subst (λ M. c.get-other.result.from.0 < length M.states) (sym c.lr0-lr0.ensures.automaton)
    (numbered_states c.args.gotos.now c.get-other.ensures.lawful c.args.other (goto_from c.get-other.result)
    c.get-other.ensures.there).0

pub returns-then-shift_alike : goal.returns-then-shift_alike
returns-then-shift_alike c = λ _.
    let x = goto_from c.get-one.result in
    let y = goto_from c.get-other.result in
    let le = numbered_named c.args.gotos.now c.get-one.ensures.lawful c.args.one x c.get-one.ensures.there in (
      x,
      y,
      c.get-one.ensures.there,
      c.get-other.ensures.there,
      c.if-one-other.false,
      subst (λ M. LeadAlike M (solid_of c.args.rules.now x.symbol) x.from y.from) c.lr0-lr0.ensures.automaton
          (shifts_alike c.lr0-lr0.result.now (solid_of c.args.rules.now x.symbol) x.from y.from
          (subst (λ M. (k : ℕ) → Contains (solid_of c.args.rules.now x.symbol) k → BeginsSolid M.grammar k)
          (sym c.lr0-lr0.ensures.automaton) (c.requires.rules.each x.symbol le).begin)
          (c.if-shift_alike.ensures refl)),
    )

pub returns-else-shift_alike : goal.returns-else-shift_alike
returns-else-shift_alike c = λ yes.
    let x = goto_from c.get-one.result in
    let y = goto_from c.get-other.result in (
      x,
      y,
      c.get-one.ensures.there,
      c.get-other.ensures.there,
      c.if-one-other.false,
      subst (λ M. LeadAlike M (solid_of c.args.rules.now x.symbol) x.from y.from) c.lr0-lr0.ensures.automaton
          (subst (λ l. LeadAlike c.lr0-lr0.result.now l x.from y.from) c.solid-solid.ensures
          (c.all_lead_alike.ensures yes)),
    )
