use Rattle.std.proofs.Common.{refl, ap, ◌∙◌, Some, sym}
use Rattle.std.proofs.lemmas.Option.{slice_get-get_or}
use Rattle.ly_conflicts.proofs.GroupLemmas.{set_joined}
use Rattle.ly_conflicts.proofs.groups.Groups.join.Goals as goal

pub returns-clause-list : goal.returns-clause-list
returns-clause-list c =
    let old = c.args.self.now.list.items in
    let group = c.index_mut.result.now in
    set_joined c.args.place c.args.index old group (record { conflicts = c.push.new.self; example = group.example })
    (slice_get-get_or old c.args.place group c.requires ∙ ap Some (sym c.index_mut.ensures.value))
    c.in_ok-push.ensures.items refl
