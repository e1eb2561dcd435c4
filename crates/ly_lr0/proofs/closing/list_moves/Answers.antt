use Rattle.std.proofs.Common.{◌≡◌, ◌⊎◌, ◌∙◌, ap, arith, subst, take, true}
use Rattle.std.specs.Prelude.{Contains, ◌↔◌}
use Rattle.std.proofs.lemmas.List.{take_all, take_more}
use Rattle.std.proofs.lemmas.List.Elements.{Contains-get_or}
use Rattle.std.proofs.lemmas.List.Filters.{dedup_is}
use Rattle.std.proofs.lemmas.List.Kept.{Contains-dedup, Contains-from_dedup, IsStrictlySortedBy-dedup}
use Rattle.std.proofs.lemmas.List.Sorted.{Contains-permutation, IsPermutation-sym}
use Rattle.ly_lr0.specs.Private.Closing.{IsMoveOfOne}
use Rattle.ly_lr0.proofs.ClosingLemmas.{behind_one, end_off}
use Rattle.ly_lr0.proofs.ListLemmas.{move_eq, moves_more, moves_rise, moves_same}
use Rattle.ly_lr0.specs.contracts.item.MoveEq.TheImpl.Laws as eq
use Rattle.ly_lr0.specs.contracts.item.MoveOrd.TheImpl.Laws as order
use Rattle.ly_lr0.specs.declared.item.Move.{Move}
use Rattle.ly_lr0.proofs.closing.list_moves.Goals as goal
use Rattle.ly_lr0.proofs.closing.list_moves.Goals.{in-Some+then-not-is_end+in_ok-push-2, in-Some+else-not-is_end}
use Rattle.ly_lr0.proofs.closing.list_moves.Goals.{in_default}

pub move_of-requires : goal.move_of-requires
move_of-requires c = c.requires _
    (Contains-get_or c.args.items.now c.loop-item.item-index (record { rule = 0; dot = 0 })
    c.loop-item-test.true)

pub loop-item-preserved : goal.loop-item-preserved
loop-item-preserved c =
    let G = c.args.reduced.now.grammar in
    let items = c.args.items.now in
    let k = c.loop-item.item-index in
    let more = take_more items k (record { rule = 0; dot = 0 }) c.loop-item-test.true in
    elim c.match-move_of.branch [
      | in-Some+then-not-is_end+in_ok-push-2 w ↦ moves_more G c.args.known.now (take k items) _ _
          c.loop-item.moves.items c.match-move_of.moves.items c.loop-item.invariant more w.in-Some.step
          w.in-Some.ensures.behind
          (λ e. let on : w.is_end.result ≡ true = w.is_end.ensures.1 e in let off = w.if-not-is_end.true in absurd (cc))
          (ap (λ v. v.items) w.moves-is ∙ w.in_ok-push-2.ensures.items)
      | in-Some+else-not-is_end w ↦ moves_same G c.args.known.now (take k items) _ _ c.loop-item.moves.items
          c.match-move_of.moves.items
          c.loop-item.invariant more
          (λ m h o. o (behind_one G _ _ _ _ h.behind w.in-Some.ensures.behind.behind
          ∙ w.is_end.ensures.0 (let off = w.if-not-is_end.false in cc)))
          (ap (λ v. v.items) w.moves-is)
      | in_default w ↦ moves_same G c.args.known.now (take k items) _ _ c.loop-item.moves.items
          c.match-move_of.moves.items
          c.loop-item.invariant more (λ m h o. end_off G _ _ w.in_default.ensures.behind h.behind)
          (ap (λ v. v.items) w.moves-is)
    ]

pub returns-clause-each : goal.returns-clause-each
returns-clause-each c m =
    let is = dedup_is _ _ _ c.dedup.ensures.filtered in
    let moved = c.sort_unstable.ensures.permutation in
    let all = subst (λ is. (m : Move) → Contains c.loop-item.moves.items m
    ↔ (Contains c.args.known.now m ⊎ IsMoveOfOne c.args.reduced.now.grammar is m))
    (take_all c.loop-item.item-index c.args.items.now (omega (arith, c.loop-item-test.false)))
    c.loop-item.invariant in (
      λ h. (all m).0 (Contains-permutation _ _ m (IsPermutation-sym _ _ moved)
          (Contains-from_dedup _ _ m (rw is at h))),
      λ h. rw is (Contains-dedup (eq.laws-law) move_eq _ m (Contains-permutation _ _ m moved ((all m).1 h))),
    )

pub returns-clause-rising : goal.returns-clause-rising
returns-clause-rising c =
    let is = dedup_is _ _ _ c.dedup.ensures.filtered in
    moves_rise c.dedup.new.self.items (rw is (IsStrictlySortedBy-dedup order.total-law order.matches_eq-law _
    c.sort_unstable.ensures.sorted))
