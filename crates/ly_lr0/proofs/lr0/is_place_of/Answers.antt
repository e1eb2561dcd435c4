use Rattle.std.proofs.Common.{rules, ◌≡◌, ◌<◌, ◌-◌, Bool, true, false, arith, length, refl, subst}
use Rattle.std.specs.Prelude.{not}
use Rattle.ly_join.specs.Grammar.{symbol_of}
use Rattle.ly_lr0.specs.Private.Places.{IsPlace}
use Rattle.ly_lr0.proofs.GotoLemmas.{less_any, place_at, place_between}
use Rattle.ly_lr0.proofs.lr0.is_place_of.Goals as goal
use Rattle.ly_lr0.proofs.lr0.is_place_of.Goals.{then-place-gt0+else-not-comes_before, else-place-gt0}

true_not : (b : Bool) → (b ≡ true → ⊥) → not b ≡ true
true_not true off = absurd (off refl)
true_not false off = refl

not_both : (b : Bool) → not b ≡ true → b ≡ true → ⊥
not_both true a b = cc
not_both false a b = cc

pub returns-then-place-transitions-2 : goal.returns-then-place-transitions-2
returns-then-place-transitions-2 c =
    let ts = c.args.transitions.now in
    let X = symbol_of c.args.symbol in
    let place = c.args.place in
    let end = c.if-place-transitions-2.true in
    let within = c.if-place-transitions.false in (
      λ _. place_between ts c.requires X place within
          (λ l d. elim c.if-place-gt0.branch [
            | then-place-gt0+else-not-comes_before w ↦ less_any ts c.requires X (place - 1) d _
                (omega (arith, l, within))
                (w.comes_before.ensures.0 (let off = w.if-not-comes_before.false in search rules))
            | else-place-gt0 w ↦ absurd (let low = w.if-place-gt0.false in omega (arith, l, low))
          ])
          (λ l d less. omega (arith, l, end)),
      λ _. refl,
    )

pub returns : goal.returns
returns c =
    let ts = c.args.transitions.now in
    let X = symbol_of c.args.symbol in
    let place = c.args.place in
    let within = c.if-place-transitions.false in
    let other = c.if-place-transitions-2.false in
    let inside : place < length ts = omega arith in (
      λ held. place_between ts c.requires X place within
          (λ l d. elim c.if-place-gt0.branch [
            | then-place-gt0+else-not-comes_before w ↦ less_any ts c.requires X (place - 1) d _
                (omega (arith, l, within))
                (w.comes_before.ensures.0 (let off = w.if-not-comes_before.false in search rules))
            | else-place-gt0 w ↦ absurd (let low = w.if-place-gt0.false in omega (arith, l, low))
          ])
          (λ l d less. not_both c.comes_before-2.result held
          (c.comes_before-2.ensures.1 (less_any ts c.requires X place _ d l less))),
      λ is. true_not c.comes_before-2.result
          (λ held. is.behind place _ (omega arith) inside (c.comes_before-2.ensures.0 held)),
    )

pub returns-then-has_symbol_at : goal.returns-then-has_symbol_at
returns-then-has_symbol_at c = (
  λ _.
      let there = c.has_symbol_at.ensures c.if-has_symbol_at.true in
      subst (λ X. IsPlace c.args.transitions.now (symbol_of X) c.args.place) there.2
      (place_at c.args.transitions.now c.requires c.args.place there.0 there.1),
  λ _. refl,
)
