use Rattle.std.proofs.Common.{◌≡◌, ◌∙◌, ◌-◌, ◌<◌, [], ◌∷◌, ◌++◌, Err, ap, arith, false, refl, subst, sym, take}
use Rattle.std.proofs.Common.{true}
use Rattle.ly_pack.specs.Values.{action_from, rule_from}
use Rattle.ly_parse.specs.Private.Paying.{IsStackPaid}
use Rattle.ly_parse.specs.Private.Stack.{at_once, IsParse}
use Rattle.ly_parse.specs.declared.fault.ParseFault.TheVariants.{FaultyTables}
use Rattle.ly_parse.proofs.BeforeLemmas.{note_kept, shifted_not_open}
use Rattle.ly_parse.proofs.LandingLemmas.{acts_there, landed, lands_from, leads_on, legal_there}
use Rattle.ly_parse.proofs.LandingLemmas.{strands}
use Rattle.ly_parse.proofs.PassLemmas.{top_below}
use Rattle.ly_parse.proofs.ReduceLemmas.{body_exceeds, body_fits, is_cut}
use Rattle.ly_parse.proofs.ReduceLemmas.{past_bottom, rule_within, shape_fits}
use Rattle.ly_parse.proofs.SettleLemmas.{same_fault}
use Rattle.ly_parse.proofs.StackLemmas.{on_top}
use Rattle.ly_parse.specs.Private.Before.{IsNoteOf}
use Rattle.ly_parse.specs.Private.Stack.{stack_from}
use Rattle.ly_parse.proofs.running.Running.reduce.Goals as goal
use Rattle.ly_parse.proofs.running.Running.reduce.Goals.{else-not-matches, in-Shift, in_default}
use Rattle.ly_parse.proofs.running.Running.reduce.Goals.{then-not-matches+in_ok-note}

pub returns-then-height-rule-clause-faulty : goal.returns-then-height-rule-clause-faulty
returns-then-height-rule-clause-faulty g c e =
    at_once (past_bottom c.self.inside.machine c.self.inside.forest c.self.inside.stack.items c.args.self.now
    c.self.inside.count c.self.inside.over c.args.number.0 (rule_from c.rule-rule.result.now) c.self.view_is
    c.rule-rule.ensures
    (body_exceeds c.self.inside.stack c.len-height.result c.rule-rule.result.now.body_length c.len-height.ensures
    (λ fits. omega (arith, fits, c.if-height-rule.true))))

pub make-requires-clause-shape : goal.make-requires-clause-shape
make-requires-clause-shape g c =
    let low = c.len-height.result - c.rule-rule.result.now.body_length in
    shape_fits c.self.inside.machine c.self.inside.forest c.self.inside.stack.items c.args.self.now
    c.self.inside.count c.self.inside.over c.args.number.0 low (rule_from c.rule-rule.result.now)
    c.self.view_is c.self.invariant.0 c.rule-rule.ensures
    (body_fits c.self.inside.stack c.len-height.result c.rule-rule.result.now.body_length low
    c.len-height.ensures (omega (arith, c.if-height-rule.false), refl))

pub invariant_of-self : goal.invariant_of-self
invariant_of-self g c = (
  c.self-2.invariant.0,
  record { passes = c.self-2.invariant.1.passes; gotos = c.in_err-shortcut.ensures.kept },
)

pub land-requires-clause-left : goal.land-requires-clause-left
land-requires-clause-left g c =
    subst (λ m. c.rule-rule.result.now.left.0 < m.nonterminals)
    (ap (λ p. p.machine) c.self.view_is
    ∙ (sym c.in_ok-term.ensures.machine ∙ sym (ap (λ p. p.machine) c.self-2.view_is)))
    (rule_within c.self.inside.machine c.args.number.0 (rule_from c.rule-rule.result.now)
    c.self.invariant.0.machine c.rule-rule.ensures).left

pub returns-in_err-shortcut-clause-faulty : goal.returns-in_err-shortcut-clause-faulty
returns-in_err-shortcut-clause-faulty g c is =
    let low = c.len-height.result - c.rule-rule.result.now.body_length in
    strands c.args.self.now c.args.number.0 (rule_from c.rule-rule.result.now) low
    c.self-2.inside.machine c.self-2.inside.forest c.self-2.inside.stack.items
    (take low c.self-2.inside.stack.items)
    (record { below = c.top_at.result; left = c.rule-rule.result.now.left; terminal = c.args.terminal })
    (record { state = record { 0 = 0 }; term = c.in_ok-term.term }) c.make.new.self.forest
    (record {
      cut = is_cut c.self.inside.machine c.self-2.inside.machine c.self.inside.forest c.self-2.inside.forest
          c.self.inside.stack.items c.self-2.inside.stack.items c.args.self.now c.make.new.self c.self.inside.count
          c.self-2.inside.count c.self.inside.over c.self-2.inside.over c.args.number.0 low
          (rule_from c.rule-rule.result.now) c.self.view_is c.self-2.view_is c.self-2.invariant.0
          c.in_ok-term.ensures.machine c.in_ok-term.ensures.stack c.rule-rule.ensures
          (body_fits c.self.inside.stack c.len-height.result c.rule-rule.result.now.body_length low
          c.len-height.ensures (omega (arith, c.if-height-rule.false), refl));
      left_of = refl;
      below = top_below c.self-2.inside.machine c.self-2.inside.forest c.self-2.inside.stack.items c.make.new.self
          c.self-2.inside.count c.self-2.inside.over low c.top_at.result.0 c.self-2.view_is
          c.top_at.ensures.top;
      left = refl;
      same = sym (ap (λ p. p.forest) c.self-2.view_is);
      stands = c.in_ok-term.ensures.made;
    })
    (c.in_err-shortcut.ensures.faulty (ap Err
    (same_fault c.from_residual-in_err-shortcut.result c.in_err-shortcut.field-0.0 FaultyTables
    c.from_residual-in_err-shortcut.ensures.1 is)))

pub invariant_of-self-2 : goal.invariant_of-self-2
invariant_of-self-2 g c =
    let low = c.len-height.result - c.rule-rule.result.now.body_length in (
      subst (IsParse c.self-2.inside.machine c.self-2.inside.forest)
          (sym (on_top _ _ _ _ c.in_ok-reserve.ensures.items c.push_reserved.ensures.items
          ∙ ap (λ w. w ++ (record { state = c.in_ok-shortcut.shortcut.state; term = c.in_ok-term.term }) ∷ [])
          c.truncate.ensures.items))
          (landed c.args.self.now c.args.number.0 (rule_from c.rule-rule.result.now) low
          c.self-2.inside.machine c.self-2.inside.forest c.self-2.inside.stack.items
          (take low c.self-2.inside.stack.items)
          (record { below = c.top_at.result; left = c.rule-rule.result.now.left; terminal = c.args.terminal })
          (record { state = c.in_ok-shortcut.shortcut.state; term = c.in_ok-term.term }) c.make.new.self.forest
          (record {
            cut = is_cut c.self.inside.machine c.self-2.inside.machine c.self.inside.forest c.self-2.inside.forest
                c.self.inside.stack.items c.self-2.inside.stack.items c.args.self.now c.make.new.self
                c.self.inside.count c.self-2.inside.count c.self.inside.over c.self-2.inside.over c.args.number.0 low
                (rule_from c.rule-rule.result.now) c.self.view_is c.self-2.view_is c.self-2.invariant.0
                c.in_ok-term.ensures.machine c.in_ok-term.ensures.stack c.rule-rule.ensures
                (body_fits c.self.inside.stack c.len-height.result c.rule-rule.result.now.body_length low
                c.len-height.ensures (omega (arith, c.if-height-rule.false), refl));
            left_of = refl;
            below = top_below c.self-2.inside.machine c.self-2.inside.forest c.self-2.inside.stack.items c.make.new.self
                c.self-2.inside.count c.self-2.inside.over low c.top_at.result.0 c.self-2.view_is
                c.top_at.ensures.top;
            left = refl;
            same = sym (ap (λ p. p.forest) c.self-2.view_is);
            stands = c.in_ok-term.ensures.made;
          })
          (action_from c.in_ok-shortcut.shortcut.action)
          (lands_from c.self-2.inside.machine
          (record { below = c.top_at.result; left = c.rule-rule.result.now.left; terminal = c.args.terminal })
          c.in_ok-shortcut.shortcut c.in_ok-shortcut.ensures.ok)
          (subst (λ p. IsStackPaid p.forest p.stack) c.self.view_is c.self.invariant.0.paid) c.in_ok-term.ensures.pays),
      record { passes = c.self-2.invariant.1.passes; gotos = c.in_ok-shortcut.ensures.kept },
    )

pub returns-clause-leads : goal.returns-clause-leads
returns-clause-leads g c =
    let low = c.len-height.result - c.rule-rule.result.now.body_length in
    leads_on c.args.self.now c.args.number.0 (rule_from c.rule-rule.result.now) low
    c.self-2.inside.machine c.self-2.inside.forest c.self-2.inside.stack.items
    (take low c.self-2.inside.stack.items)
    (record { below = c.top_at.result; left = c.rule-rule.result.now.left; terminal = c.args.terminal })
    (record { state = c.in_ok-shortcut.shortcut.state; term = c.in_ok-term.term }) c.make.new.self.forest
    (record {
      cut = is_cut c.self.inside.machine c.self-2.inside.machine c.self.inside.forest c.self-2.inside.forest
          c.self.inside.stack.items c.self-2.inside.stack.items c.args.self.now c.make.new.self c.self.inside.count
          c.self-2.inside.count c.self.inside.over c.self-2.inside.over c.args.number.0 low
          (rule_from c.rule-rule.result.now) c.self.view_is c.self-2.view_is c.self-2.invariant.0
          c.in_ok-term.ensures.machine c.in_ok-term.ensures.stack c.rule-rule.ensures
          (body_fits c.self.inside.stack c.len-height.result c.rule-rule.result.now.body_length low
          c.len-height.ensures (omega (arith, c.if-height-rule.false), refl));
      left_of = refl;
      below = top_below c.self-2.inside.machine c.self-2.inside.forest c.self-2.inside.stack.items c.make.new.self
          c.self-2.inside.count c.self-2.inside.over low c.top_at.result.0 c.self-2.view_is
          c.top_at.ensures.top;
      left = refl;
      same = sym (ap (λ p. p.forest) c.self-2.view_is);
      stands = c.in_ok-term.ensures.made;
    })
    (action_from c.in_ok-shortcut.shortcut.action)
    (lands_from c.self-2.inside.machine
    (record { below = c.top_at.result; left = c.rule-rule.result.now.left; terminal = c.args.terminal })
    c.in_ok-shortcut.shortcut c.in_ok-shortcut.ensures.ok)
    c.push_reserved.new.self.items (on_top _ _ _ _ c.in_ok-reserve.ensures.items c.push_reserved.ensures.items
    ∙ ap (λ w. w ++ (record { state = c.in_ok-shortcut.shortcut.state; term = c.in_ok-term.term }) ∷ [])
    c.truncate.ensures.items)

pub returns-clause-action : goal.returns-clause-action
returns-clause-action g c =
    let low = c.len-height.result - c.rule-rule.result.now.body_length in
    acts_there c.args.self.now c.args.number.0 (rule_from c.rule-rule.result.now) low
    c.self-2.inside.machine c.self-2.inside.forest c.self-2.inside.stack.items
    (take low c.self-2.inside.stack.items)
    (record { below = c.top_at.result; left = c.rule-rule.result.now.left; terminal = c.args.terminal })
    (record { state = c.in_ok-shortcut.shortcut.state; term = c.in_ok-term.term }) c.make.new.self.forest
    (record {
      cut = is_cut c.self.inside.machine c.self-2.inside.machine c.self.inside.forest c.self-2.inside.forest
          c.self.inside.stack.items c.self-2.inside.stack.items c.args.self.now c.make.new.self c.self.inside.count
          c.self-2.inside.count c.self.inside.over c.self-2.inside.over c.args.number.0 low
          (rule_from c.rule-rule.result.now) c.self.view_is c.self-2.view_is c.self-2.invariant.0
          c.in_ok-term.ensures.machine c.in_ok-term.ensures.stack c.rule-rule.ensures
          (body_fits c.self.inside.stack c.len-height.result c.rule-rule.result.now.body_length low
          c.len-height.ensures (omega (arith, c.if-height-rule.false), refl));
      left_of = refl;
      below = top_below c.self-2.inside.machine c.self-2.inside.forest c.self-2.inside.stack.items c.make.new.self
          c.self-2.inside.count c.self-2.inside.over low c.top_at.result.0 c.self-2.view_is
          c.top_at.ensures.top;
      left = refl;
      same = sym (ap (λ p. p.forest) c.self-2.view_is);
      stands = c.in_ok-term.ensures.made;
    })
    (action_from c.in_ok-shortcut.shortcut.action)
    (lands_from c.self-2.inside.machine
    (record { below = c.top_at.result; left = c.rule-rule.result.now.left; terminal = c.args.terminal })
    c.in_ok-shortcut.shortcut c.in_ok-shortcut.ensures.ok)
    c.push_reserved.new.self.items (on_top _ _ _ _ c.in_ok-reserve.ensures.items c.push_reserved.ensures.items
    ∙ ap (λ w. w ++ (record { state = c.in_ok-shortcut.shortcut.state; term = c.in_ok-term.term }) ∷ [])
    c.truncate.ensures.items)

pub returns-clause-legal : goal.returns-clause-legal
returns-clause-legal g c =
    let low = c.len-height.result - c.rule-rule.result.now.body_length in
    legal_there c.args.self.now c.args.number.0 (rule_from c.rule-rule.result.now) low
    c.self-2.inside.machine c.self-2.inside.forest c.self-2.inside.stack.items
    (take low c.self-2.inside.stack.items)
    (record { below = c.top_at.result; left = c.rule-rule.result.now.left; terminal = c.args.terminal })
    (record { state = c.in_ok-shortcut.shortcut.state; term = c.in_ok-term.term }) c.make.new.self.forest
    (record {
      cut = is_cut c.self.inside.machine c.self-2.inside.machine c.self.inside.forest c.self-2.inside.forest
          c.self.inside.stack.items c.self-2.inside.stack.items c.args.self.now c.make.new.self c.self.inside.count
          c.self-2.inside.count c.self.inside.over c.self-2.inside.over c.args.number.0 low
          (rule_from c.rule-rule.result.now) c.self.view_is c.self-2.view_is c.self-2.invariant.0
          c.in_ok-term.ensures.machine c.in_ok-term.ensures.stack c.rule-rule.ensures
          (body_fits c.self.inside.stack c.len-height.result c.rule-rule.result.now.body_length low
          c.len-height.ensures (omega (arith, c.if-height-rule.false), refl));
      left_of = refl;
      below = top_below c.self-2.inside.machine c.self-2.inside.forest c.self-2.inside.stack.items c.make.new.self
          c.self-2.inside.count c.self-2.inside.over low c.top_at.result.0 c.self-2.view_is
          c.top_at.ensures.top;
      left = refl;
      same = sym (ap (λ p. p.forest) c.self-2.view_is);
      stands = c.in_ok-term.ensures.made;
    })
    (action_from c.in_ok-shortcut.shortcut.action)
    (lands_from c.self-2.inside.machine
    (record { below = c.top_at.result; left = c.rule-rule.result.now.left; terminal = c.args.terminal })
    c.in_ok-shortcut.shortcut c.in_ok-shortcut.ensures.ok)

pub returns-clause-noted : goal.returns-clause-noted
returns-clause-noted g c later states before =
    let low = c.len-height.result - c.rule-rule.result.now.body_length in elim c.if-not-matches.branch [
      | then-not-matches+in_ok-note w ↦
          subst (IsNoteOf states (stack_from c.self-2.inside.forest c.push_reserved.new.self.items)) (sym w.before-is)
          (note_kept c.args.self.now c.args.number.0 (rule_from c.rule-rule.result.now) low
          c.self-2.inside.machine c.self-2.inside.forest c.self-2.inside.stack.items w.deref.result.now
          c.truncate.new.self.items c.push_reserved.new.self.items c.args.before.now w.note.new.self
          (record { state = c.in_ok-shortcut.shortcut.state; term = c.in_ok-term.term }) states
          (is_cut c.self.inside.machine c.self-2.inside.machine c.self.inside.forest c.self-2.inside.forest
          c.self.inside.stack.items c.self-2.inside.stack.items c.args.self.now c.make.new.self c.self.inside.count
          c.self-2.inside.count c.self.inside.over c.self-2.inside.over c.args.number.0 low
          (rule_from c.rule-rule.result.now) c.self.view_is c.self-2.view_is c.self-2.invariant.0
          c.in_ok-term.ensures.machine c.in_ok-term.ensures.stack c.rule-rule.ensures
          (body_fits c.self.inside.stack c.len-height.result c.rule-rule.result.now.body_length low
          c.len-height.ensures (omega (arith, c.if-height-rule.false), refl)))
          w.deref.ensures.value c.truncate.ensures.items
          (on_top _ _ _ _ c.in_ok-reserve.ensures.items c.push_reserved.ensures.items) w.in_ok-note.ensures.before
          w.in_ok-note.ensures.low before)
      | else-not-matches w ↦ elim c.match-matches.branch [
        | in-Shift s ↦ absurd (shifted_not_open c.in_ok-shortcut.shortcut.action
            (s.in-Shift.field-0, s.in-Shift.is) later)
        | in_default d ↦ absurd (let off : true ≡ false = sym w.if-not-matches.false ∙ d.matches-is in cc)
      ]
    ]
