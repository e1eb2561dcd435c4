use Rattle.std.proofs.Common.{◌≡◌, ◌∙◌, ◌++◌, [], ◌∷◌, ap, refl}
use Rattle.ly_conflicts.proofs.groups.Groups.open.Goals as goal
use Rattle.ly_conflicts.proofs.groups.Groups.open.Goals.{then-len-lt-TOLD+in_ok-insert, else-len-lt-TOLD}

pub returns-clause-list : goal.returns-clause-list
returns-clause-list c =
    let same : c.if-len-lt-TOLD.self.list.items ≡ c.args.self.now.list.items
    = elim c.if-len-lt-TOLD.branch [
      | then-len-lt-TOLD+in_ok-insert w ↦ ap (λ s. s.list.items) w.self-is
      | else-len-lt-TOLD w ↦ ap (λ s. s.list.items) w.self-is
    ] in
    record {
      group = record { conflicts = c.push.new.self; example = c.args.example };
      list = c.in_ok-push-3.ensures.items
          ∙ ap (λ xs. xs ++ record { conflicts = c.push.new.self; example = c.args.example } ∷ []) same;
      conflicts = c.in_ok-push.ensures.items ∙ ap (λ xs. xs ++ c.args.index ∷ []) c.new-conflicts.ensures.items;
      has = refl;
    }
