use Rattle.std.proofs.Common.{◌≡◌, ◌<◌, ◌+◌, ◌++◌, ◌∷◌, [], ℕ, List, Option, Some, None, length, get_or, take, ◌∙◌, sym}
use Rattle.std.proofs.Common.{subst, arith, refl}
use Rattle.std.proofs.lemmas.List.{get_or_read, take_more}
use Rattle.std.specs.Prelude.{slice_get, All}
use Rattle.std.proofs.lemmas.Option.{slice_get_read}
use Rattle.ly_position.specs.Private.Plain.{IsPlainPart}
use Rattle.ly_position.proofs.StartLemmas.{roots_skip, roots_more}
use Rattle.ly_position.proofs.starts.roots.Goals as goal
use Rattle.ly_position.proofs.starts.roots.Goals.{in-Some+in_ok-add_rule, in_default}

pub loop-number-preserved : goal.loop-number-preserved
loop-number-preserved c =
    let entries = c.args.program.now.entries.items in
    let rules = c.args.rules.now in
    let order = c.deref-number-items.result.now in
    let k = c.loop-number.number-index in
    let n = get_or order k 0 in
    let done = take k order in
    let more : take (k + 1) order ≡ done ++ n ∷ [] = take_more order k 0 c.loop-number-test.true in
    let within = subst (λ (ns : List ℕ). All (λ i. i < length rules) ns) (sym c.deref-number-items.ensures.value)
    c.in_ok-order.ensures.within in
    let below : n < length rules = within k 0 c.loop-number-test.true in
    let here : n < length entries = omega (arith, c.requires.count) in
    let at : c.index.result.now ≡ get_or entries n None
    = get_or_read entries n c.index.result.now here c.index.ensures None in
    elim c.match-index.branch [
      | in-Some+in_ok-add_rule w ↦
          let r = w.index-rules-number.result in
          let x = w.in-Some.entry in
          let is : slice_get rules n ≡ Some r
          = slice_get_read rules (length rules) n r refl below w.index-rules-number.is in
          let some : get_or entries n None ≡ Some x = sym at ∙ w.in-Some.is in
          let bound : x < length c.args.program.now.instructions.items = let P : Option ℕ
          → Type 0 = IsPlainPart (length c.args.program.now.instructions.items)
          in subst P some (c.requires.within n None here) in
          rw (w.roots-is, more) (roots_more rules entries done n c.args.conditions
          (length c.args.program.now.instructions.items) c.loop-number.roots w.add_rule.new.roots r x
          c.loop-number.invariant is some bound w.in_ok-add_rule.ensures.count w.in_ok-add_rule.ensures.within
          w.in_ok-add_rule.ensures.added)
      | in_default w ↦
          rw (w.roots-is, more) (roots_skip rules entries done n c.args.conditions
          (length c.args.program.now.instructions.items) c.loop-number.roots c.loop-number.invariant
          (sym at ∙ w.in_default.is))
    ]
