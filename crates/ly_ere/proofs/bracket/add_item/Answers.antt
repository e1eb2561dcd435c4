use Rattle.std.proofs.Common.{◌≡◌, ◌∙◌, [], ◌∷◌, drop, false, sym}
use Rattle.std.proofs.lemmas.Result.{IfErr-weaker, IfOk-weaker, MatchResult-from_err}
use Rattle.ly_ere.specs.Elements.{begins_range, class, points}
use Rattle.ly_ere.proofs.ItemLemmas.{item_class, item_equivalent, named_item}
use Rattle.ly_ere.proofs.RangeLemmas.{added_byte}
use Rattle.ly_ere.proofs.bracket.add_item.Goals as goal
use Rattle.ly_ere.proofs.bracket.add_item.Goals.{else-not-is_first-via-then-not-is_first+else-begins_range}
use Rattle.ly_ere.proofs.bracket.add_item.Goals.{else-not-is_first-via-else-not-is_first}

pub returns-then-begins-clause-item : goal.returns-then-begins-clause-item
returns-then-begins-clause-item c
    = IfOk-weaker c.add_class.result _ _
    (λ taken k. (k.0, class c.args.is_first c.args.text.now (drop taken c.args.text.now) k.0 k.1, k.2))
    c.add_class.ensures.item

pub returns-then-begins-clause-refused : goal.returns-then-begins-clause-refused
returns-then-begins-clause-refused c
    = IfErr-weaker c.add_class.result _ _
    (λ _ none rs rest h. none rs rest (item_class h (sym c.begins.ensures ∙ c.if-begins.true)))
    c.add_class.ensures.refused

pub returns-in_err-byte-clause-refused : goal.returns-in_err-byte-clause-refused
returns-in_err-byte-clause-refused c = MatchResult-from_err c.from_residual.result _ _ c.from_residual.ensures.0
    (λ _ rs rest h.
    let k = item_equivalent h (sym c.begins-2.ensures ∙ c.if-begins-2.true) in
    let none = c.in_err-byte.ensures.refused in
    absurd (cc (k.1, none)))

pub returns-then-begins-2-clause-item : goal.returns-then-begins-2-clause-item
returns-then-begins-2-clause-item c = (
  (c.in_ok-byte.byte, c.in_ok-byte.byte) ∷ [],
  named_item c.args.is_first c.args.text.now c.in_ok-byte.byte c.in_ok-byte.length (sym c.begins-2.ensures
      ∙ c.if-begins-2.true) c.in_ok-byte.ensures.named c.in_ok-byte.ensures.length.0,
  added_byte c.args.set.now c.insert.new.self c.in_ok-byte.byte c.insert.ensures,
)

pub returns-clause-item : goal.returns-clause-item
returns-clause-item c =
    let alone : c.args.is_first ≡ false → begins_range c.args.text.now ≡ false = elim c.else-not-is_first.branch [
      | else-not-is_first-via-then-not-is_first+else-begins_range w ↦ λ _. sym w.begins_range.ensures
          ∙ w.if-begins_range.false
      | else-not-is_first-via-else-not-is_first w ↦ λ e. let first = w.if-not-is_first.false in absurd (cc)
    ] in
    IfOk-weaker c.add_range.result _ _
    (λ taken k. (k.0, points c.args.is_first c.args.text.now (drop taken c.args.text.now) k.0 alone k.1, k.2))
    c.add_range.ensures.points
