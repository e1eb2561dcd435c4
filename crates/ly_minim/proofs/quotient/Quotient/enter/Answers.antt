use Rattle.std.proofs.Common.{◌∙◌, ◌++◌, ◌∷◌, [], ap, refl, subst, sym}
use Rattle.ly_base.specs.Entry.{target_of}
use Rattle.ly_minim.specs.Private.Quotient.{AreNumbered, IsEntered, IsMet}
use Rattle.ly_minim.specs.declared.quotient.Quotient.{Quotient}
use Rattle.ly_minim.proofs.QuotientLemmas.{entered_none, entered_some}
use Rattle.ly_minim.proofs.quotient.Quotient.enter.Goals as goal
use Rattle.ly_minim.proofs.quotient.Quotient.enter.Goals.{in-Some+in_ok-number-in-Some, in-None}

pub returns-clause-entered : goal.returns-clause-entered
returns-clause-entered c =
    let of = c.args.blocks.now.of.items in
    let old = c.args.self.now in
    let mid = c.match-target.self in
    let new : Quotient = record { numbers = mid.numbers; picked = mid.picked; entries = c.push.new.self } in
    elim c.match-target.branch [
      | in-Some+in_ok-number-in-Some w ↦ subst (λ o. IsEntered of old o new) (sym w.in-Some.is)
          (entered_some of old mid new w.in-Some.state w.in_ok-number-in-Some.field-0 c.match-target.entry
          (subst (λ q. IsMet of old w.in-Some.state q w.in_ok-number-in-Some.field-0) (sym w.self-is)
          w.in_ok-number-in-Some.ensures.met)
          (ap (λ (q : Quotient). q.entries.items) w.self-is ∙ ap (λ v. v.items) w.in_ok-number-in-Some.ensures.entries)
          refl c.in_ok-push.ensures.items (ap target_of w.entry-is ∙ w.to-entry.ensures))
      | in-None w ↦ subst (λ o. IsEntered of old o new) (sym w.in-None.is)
          (entered_none of old new c.match-target.entry (ap (λ (q : Quotient). q.picked.items) w.self-is)
          (c.in_ok-push.ensures.items ∙ ap (λ (q : Quotient). q.entries.items ++ c.match-target.entry ∷ []) w.self-is)
          (ap target_of w.entry-is ∙ w.none-entry.ensures))
    ]

pub returns-clause-numbered : goal.returns-clause-numbered
returns-clause-numbered c =
    let kept : AreNumbered c.args.blocks.now c.match-target.self = elim c.match-target.branch [
      | in-Some+in_ok-number-in-Some w ↦ subst (λ q. AreNumbered c.args.blocks.now q) (sym w.self-is)
          w.in_ok-number-in-Some.ensures.numbered
      | in-None w ↦ subst (λ q. AreNumbered c.args.blocks.now q) (sym w.self-is) c.requires.numbered
    ] in
    record { by = kept.by; fits = kept.fits }
