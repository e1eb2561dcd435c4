use Rattle.std.proofs.Common.{◌<◌, ◌∷◌, [], ℕ, List, length, get_or, ap, ◌∙◌, subst, arith, length-append}
use Rattle.ly_position.specs.Private.Targets.{IsEnteredList}
use Rattle.ly_position.proofs.StartLemmas.{lists_more}
use Rattle.ly_position.proofs.starts.followed.Goals as goal
use Rattle.ly_position.proofs.starts.followed.Goals.{then-twins-number+in_ok-push_again}
use Rattle.ly_position.proofs.starts.followed.Goals.{else-twins-number+in_ok-read+in_ok-push}

pub loop-number-preserved : goal.loop-number-preserved
loop-number-preserved c =
    let before = c.loop-number.invariant in
    let i = c.loop-number.number in
    let S = c.loop-number.lists in
    let R = c.args.roots.now in
    let t = get_or c.args.twins.now i 0 in
    let here : i < length R = omega (arith, c.loop-number-test.true, c.requires.twins.count) in
    let IsEntered = IsEnteredList c.args.linked.now.targets.items c.args.linked.now.forks.items in
    elim c.if-twins-number.branch [
      | then-twins-number+in_ok-push_again w ↦
          let less : t < i = omega (arith, w.if-twins-number.true) in
          let list : IsEntered (get_or R i []) (get_or S t [])
          = subst (λ (xs : List ℕ). IsEntered xs (get_or S t [])) (c.requires.twins.same i here) (before.each t less) in
          rw (w.set-is, w.lists-is) (record {
            positions = before.positions;
            forks = before.forks;
            count = omega (
              arith,
              ap length w.in_ok-push_again.ensures,
              length-append S (get_or S t [] ∷ []),
              before.count,
            );
            each = lists_more IsEntered R S w.push_again.new.self i (get_or S t []) before.count before.each list
                w.in_ok-push_again.ensures;
          })
      | else-twins-number+in_ok-read+in_ok-push w ↦
          let list : IsEntered (get_or R i []) w.members.result.now = record {
            members = rw (← w.in_ok-read.ensures, ← w.deref.ensures.value, w.members.ensures.these)
                (rw (w.deref-else-twins-number.ensures.value, w.deref-else-twins-number-2.ensures.value)
                at w.fill_from.ensures.members);
            once = w.members.ensures.once;
          } in
          rw (w.set-is, w.lists-is) (record {
            positions = w.fill_from.ensures.room.positions ∙ before.positions;
            forks = w.fill_from.ensures.room.forks ∙ before.forks;
            count = omega (
              arith,
              ap length w.in_ok-push.ensures,
              length-append S (w.members.result.now ∷ []),
              before.count,
            );
            each = lists_more IsEntered R S w.push.new.self i w.members.result.now before.count before.each list
                w.in_ok-push.ensures;
          })
    ]
