use Rattle.std.proofs.Common.{◌≡◌, ◌+◌, ◌-◌, ◌∙◌, ◌++◌, ◌∷◌, [], ap, arith, length, refl, set, subst, sym}
use Rattle.std.proofs.lemmas.Option.{slice_get_within}
use Rattle.ly_resolve.specs.Private.Conflicts.{AreRuns, GoesOn, end_from, items_from}
use Rattle.ly_resolve.specs.declared.conflicts.Run.{Run}
use Rattle.ly_resolve.proofs.KeptRunLemmas.{items_begun, items_gone_on, runs_begun, runs_gone_on}
use Rattle.ly_resolve.proofs.conflicts.Conflicts.push.Goals as goal

pub invariant_of-self-in-Continue-1 : goal.invariant_of-self-in-Continue-1
invariant_of-self-in-Continue-1 c =
    let rs = c.self.inside.runs.items in
    let one : Run = record { last = c.args.conflict; end = c.in-Some.end } in
    let before : c.end_of.result ≡ end_from 0 rs = c.end_of.ensures ∙ ap (end_from 0) c.deref.ensures.value in
    let end : one.end ≡ end_from 0 rs + 1 = omega (arith, before, c.in-Some.ensures) in
    subst (AreRuns 0) (sym c.in_ok-push.ensures.items) (runs_begun 0 rs one c.self.invariant end)

pub returns-in_ok-push : goal.returns-in_ok-push
returns-in_ok-push c =
    let rs = c.self.inside.runs.items in
    let one : Run = record { last = c.args.conflict; end = c.in-Some.end } in
    let before : c.end_of.result ≡ end_from 0 rs = c.end_of.ensures ∙ ap (end_from 0) c.deref.ensures.value in
    let end : one.end ≡ end_from 0 rs + 1 = omega (arith, before, c.in-Some.ensures) in
    ap (items_from 0) c.in_ok-push.ensures.items ∙ items_begun 0 rs one c.self.invariant end
    ∙ ap (λ l. l ++ c.args.conflict ∷ []) c.self.view_is

pub returns-then-goes_on : goal.returns-then-goes_on
returns-then-goes_on c =
    let rs = c.self.inside.runs.items in
    let k = length rs - 1 in
    let one : Run = record { last = c.args.conflict; end = c.in-Some.end } in
    let before : c.end_of.result ≡ end_from 0 rs = c.end_of.ensures ∙ ap (end_from 0) c.deref.ensures.value in
    let end : one.end ≡ end_from 0 rs + 1 = omega (arith, before, c.in-Some.ensures) in
    let on = subst (λ l. GoesOn l c.args.conflict) c.deref-2.ensures.value (c.if-goes_on.ensures refl) in
    let last : k + 1 ≡ length rs = omega (arith, slice_get_within rs k on.0 on.1) in
    let place : c.len-place.result - 1 ≡ k = let e = c.len-place.ensures in let ok = c.self.inside.runs.ok.0 in
    omega (arith, e, ok) in
    ap (λ n. items_from 0 (set rs n one)) place
    ∙ items_gone_on 0 rs k on.0 one c.self.invariant last on.1 on.3 end
    ∙ ap (λ l. l ++ c.args.conflict ∷ []) c.self.view_is

pub invariant_of-self : goal.invariant_of-self
invariant_of-self c =
    let rs = c.self.inside.runs.items in
    let k = length rs - 1 in
    let one : Run = record { last = c.args.conflict; end = c.in-Some.end } in
    let before : c.end_of.result ≡ end_from 0 rs = c.end_of.ensures ∙ ap (end_from 0) c.deref.ensures.value in
    let end : one.end ≡ end_from 0 rs + 1 = omega (arith, before, c.in-Some.ensures) in
    let on = subst (λ l. GoesOn l c.args.conflict) c.deref-2.ensures.value (c.if-goes_on.ensures refl) in
    let last : k + 1 ≡ length rs = omega (arith, slice_get_within rs k on.0 on.1) in
    let place : c.len-place.result - 1 ≡ k = let e = c.len-place.ensures in let ok = c.self.inside.runs.ok.0 in
    omega (arith, e, ok) in
    subst (λ n. AreRuns 0 (set rs n one)) (sym place)
    (runs_gone_on 0 rs k on.0 one c.self.invariant last on.1 on.3 on.2 end)
