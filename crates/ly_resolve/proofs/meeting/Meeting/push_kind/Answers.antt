use Rattle.std.proofs.Common.{◌∙◌, ◌++◌, ◌∷◌, [], ℕ, ap, append_assoc, map, slice_index_or, subst}
use Rattle.std.proofs.Common.{sym, take, All}
use Rattle.std.proofs.lemmas.List.{map-append}
use Rattle.std.proofs.lemmas.List.Elements.{All-push}
use Rattle.ly_lr0.specs.Automaton.{Lr0Automaton, prefix_of}
use Rattle.ly_resolve.specs.Actions.{PrecedenceVerdict}
use Rattle.ly_resolve.specs.Precedence.{judge_of}
use Rattle.ly_resolve.specs.Private.Meetings.{told}
use Rattle.ly_resolve.specs.declared.conflict.Conflict.{Conflict}
use Rattle.ly_resolve.specs.Values.{action_from, conflict_from, kind_from, IsInside}
use Rattle.ly_resolve.proofs.MeetingLemmas.{told_past, told_rule}
use Rattle.ly_resolve.proofs.meeting.Meeting.push_kind.Goals as goal
use Rattle.ly_resolve.proofs.meeting.Meeting.push_kind.Goals.{then-is_counted+in_ok-push, else-is_counted}

pub loop-rule-preserved : goal.loop-rule-preserved
loop-rule-preserved c =
    let m = c.args.self.now in
    let rs = m.reductions.now in
    let i = c.loop-rule.rule-index in
    let lt = c.loop-rule-test.true in
    let v : ℕ → PrecedenceVerdict = λ p. judge_of m.spec.now p m.terminal.0 in
    let a = action_from c.args.choice in
    let k = kind_from c.args.kind in
    let g : Lr0Automaton → _ = λ M. prefix_of M c.args.state.0 in
    let old = c.loop-rule.conflicts in
    let new : Conflict = record {
      state = c.args.state;
      terminal = m.terminal;
      kind = c.args.kind;
      rule = record { 0 = slice_index_or rs i 0 };
      choice = c.args.choice;
    } in
    elim c.if-is_counted.branch [
      | then-is_counted+in_ok-push w ↦ record {
        told = λ M.
            ap (map (conflict_from M)) (w.conflicts-is ∙ w.in_ok-push.ensures)
            ∙ map-append (conflict_from M) old (new ∷ [])
            ∙ ap (λ z. z ++ conflict_from M new ∷ []) (c.loop-rule.invariant.told M)
            ∙ append_assoc (map (conflict_from M) c.args.conflicts.now)
            (told (g M) m.terminal.0 m.shift (take i rs) v a k) (conflict_from M new ∷ [])
            ∙ ap (λ z. map (conflict_from M) c.args.conflicts.now ++ z)
            (sym (told_rule m.shift rs v i (g M) m.terminal.0 a k lt
            (sym c.is_counted.ensures ∙ w.if-is_counted.true)));
        inside = λ M state terminal all. subst (λ z. All (IsInside M) z)
            (sym (w.conflicts-is ∙ w.in_ok-push.ensures))
            (All-push (IsInside M) old new (c.loop-rule.invariant.inside M state terminal all)
            (record { state = state; terminal = terminal }));
      }
      | else-is_counted w ↦ record {
        told = λ M.
            ap (map (conflict_from M)) w.conflicts-is
            ∙ c.loop-rule.invariant.told M
            ∙ ap (λ z. map (conflict_from M) c.args.conflicts.now ++ z)
            (sym (told_past m.shift rs v i (g M) m.terminal.0 a k lt
            (sym c.is_counted.ensures ∙ w.if-is_counted.false)));
        inside = λ M state terminal all. subst (λ z. All (IsInside M) z) (sym w.conflicts-is)
            (c.loop-rule.invariant.inside M state terminal all);
      }
    ]
