use Rattle.std.specs.Prelude.{Contains, ◌↔◌}
use Rattle.std.proofs.Common.{◌∙◌, ◌++◌, ℕ, ap, inl, inr, subst, sym}
use Rattle.std.proofs.lemmas.List.Elements.{Contains-append_cases, Contains-append_left, Contains-append_right}
use Rattle.ly_base.proofs.MemberLemmas.{Contains-none}
use Rattle.ly_lr0.specs.Private.Items.{IsEntered}
use Rattle.ly_lr0.proofs.ClosingLemmas.{listed_closed}
use Rattle.ly_lr0.proofs.core_items.closed.Goals as goal

pub returns : goal.returns
returns c =
    let G = c.args.reduced.now.grammar in
    let kernel = c.args.kernel.now in
    let others = c.list_items.new.items.items in
    let entered : (A : ℕ) → Contains c.members.result.now A ↔ IsEntered G kernel A
    = subst (λ ms. (A : ℕ) → Contains ms A ↔ IsEntered G kernel A) (sym c.members.ensures.these)
    c.close.ensures.entered in
    λ i.
    let l = listed_closed G c.args.by_left.now kernel c.requires.by_left c.members.result.now entered i in
    let n = c.in_ok-list_items.ensures i in
    let is = c.in_ok-extend_from_slice.ensures.items
    ∙ (ap (λ w. w ++ c.deref.result.now) c.in_ok-items.ensures.items ∙ ap (λ w. kernel ++ w) c.deref.ensures.value) in (
      λ h. elim (Contains-append_cases kernel others i (subst (λ w. Contains w i) is h)) [
        | inl own ↦ l.0 (inl own)
        | inr other ↦ elim (n.0 other) [
          | inl none ↦ absurd (Contains-none i none)
          | inr listed ↦ l.0 (inr listed)
        ]
      ],
      λ h. subst (λ w. Contains w i) (sym is) (elim (l.1 h) [
        | inl own ↦ Contains-append_left kernel others i own
        | inr listed ↦ Contains-append_right kernel others i (n.1 (inr listed))
      ]),
    )
