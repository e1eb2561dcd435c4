use Rattle.std.proofs.Common.{◌≡◌, ◌∙◌, length, arith, subst, sym, vec_len}
use Rattle.ly_subset.proofs.ClassLemmas.{IsLeastOf, least_all, least_new, least_none, least_old}
use Rattle.ly_subset.proofs.classes.least_bytes.Goals as goal
use Rattle.ly_subset.proofs.classes.least_bytes.Goals.{then-from-len+in_ok-push, else-from-len}

pub loop-byte-init : goal.loop-byte-init
loop-byte-init c = subst (λ l. IsLeastOf c.args.class_of.now 0 l) (sym c.new-least.ensures.items)
    (least_none c.args.class_of.now)

pub loop-byte-preserved : goal.loop-byte-preserved
loop-byte-preserved c =
    let class_of = c.args.class_of.now in
    let n = c.loop-byte.byte in
    let least = c.loop-byte.least in
    let was = c.loop-byte.invariant in
    let len : length least.items ≡ vec_len least = sym least.ok.0 in
    elim c.if-from-len.branch [
      | then-from-len+in_ok-push w ↦ rw (w.least-is, w.in_ok-push.ensures.items)
          (least_new class_of n least.items was (sym c.from.ensures ∙ w.if-from-len.true ∙ c.len.ensures ∙ sym len))
      | else-from-len w ↦ rw w.least-is (least_old class_of n least.items (omega (arith, c.requires.bytes))
          c.requires.order was (λ e. w.if-from-len.false (c.from.ensures ∙ e ∙ len ∙ sym c.len.ensures)))
    ]

pub returns : goal.returns
returns c = least_all c.args.class_of.now c.loop-byte.byte c.loop-byte.least.items
    (let e = c.loop-byte.auto.byte-end in omega arith) c.loop-byte.invariant
