use Rattle.std.proofs.Common.{◌≡◌, ◌∙◌, [], ap, arith, sym}
use Rattle.std.proofs.lemmas.List.{nil_from_length}
use Rattle.ly_lexread.specs.Action.{effect_of}
use Rattle.ly_lexread.proofs.SharedLemmas.{all_shared, bar_at_end, last_is, last_none, next_on, own_on}
use Rattle.ly_lexread.proofs.shared.share_actions.Goals as goal
use Rattle.ly_lexread.proofs.shared.share_actions.Goals.{in-Own, in-Next+in-Some-last+in_ok-action-in-Some-last}

pub returns-in-None : goal.returns-in-None
returns-in-None c =
    let i = c.loop-last.invariant in
    let none : c.loop-last.actions.items ≡ []
    = sym c.deref.ensures.value ∙ last_none c.deref.result.now (sym c.in-None.ensures.value) in
    bar_at_end c.args.said.items c.loop-last.said.items c.pop.new.self.items i.0 c.loop-last.actions.items i.1 i.2
    c.in-Some.last _ c.in-Some.ensures.items c.in-Next.is none

pub loop-last-preserved : goal.loop-last-preserved
loop-last-preserved c =
    let i = c.loop-last.invariant in
    elim c.match-last.branch [
      | in-Own w ↦
          own_on c.args.said.items c.loop-last.said.items c.pop.new.self.items i.0 c.loop-last.actions.items i.1 i.2
          c.in-Some.last w.in-Own.action c.match-last.action c.push.new.self.items c.in-Some.ensures.items w.in-Own.is
          w.action-is c.in_ok-push.ensures.items
      | in-Next+in-Some-last+in_ok-action-in-Some-last w ↦
          next_on c.args.said.items c.loop-last.said.items c.pop.new.self.items i.0 c.loop-last.actions.items i.1 i.2
          c.in-Some.last _ c.match-last.action w.in-Some-last.next.now c.push.new.self.items c.in-Some.ensures.items
          w.in-Next.is (last_is c.loop-last.actions.items w.deref.result.now w.in-Some-last.next.now
          w.deref.ensures.value
          w.in-Some-last.ensures.value)
          (ap effect_of w.action-is ∙ w.in_ok-action-in-Some-last.ensures) c.in_ok-push.ensures.items
    ]

pub returns : goal.returns
returns c =
    let i = c.loop-last.invariant in
    all_shared c.args.said.items c.loop-last.said.items i.0 c.loop-last.actions.items c.reverse.new.self.items i.1 i.2
    (nil_from_length c.loop-last.said.items (omega (arith, c.in_default.ensures.cases.0))) c.reverse.ensures.items
