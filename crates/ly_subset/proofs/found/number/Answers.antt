use Rattle.std.proofs.Common.{◌≡◌, ◌∙◌, ◌++◌, ◌∷◌, [], ℕ, List, ap, arith, subst, sym, Some}
use Rattle.ly_base.specs.Entry.{target_of}
use Rattle.ly_subset.specs.Private.Found.{AreKept, IsNumbered}
use Rattle.ly_base.specs.Keys.{IsAbsent}
use Rattle.ly_subset.specs.Private.Packed.{unpack}
use Rattle.ly_subset.proofs.FoundLemmas.{full_of, kept_more, key_of_itself, numbered_known, numbered_new}
use Rattle.ly_subset.proofs.found.number.Goals as goal

-- a key that was shrunk is the same list
grown : (keys : List (List ℕ)) (key shrunk : List ℕ) (new : List (List ℕ)) → new ≡ keys ++ unpack shrunk ∷ []
    → shrunk ≡ key → new ≡ keys ++ unpack key ∷ []
grown keys key shrunk new e same = e ∙ ap (λ k. keys ++ unpack k ∷ []) same

pub returns-in-Some-clause-numbered : goal.returns-in-Some-clause-numbered
returns-in-Some-clause-numbered c =
    let set = unpack c.args.key.items in
    numbered_known c.args.keys.now set set c.in-Some.known (target_of c.to.result) (key_of_itself set c.requires.set)
    c.in-Some.ensures.0 (c.in-Some.ensures.1 ∙ ap unpack c.deref.ensures.value) c.to.ensures

pub returns-then-count-limit-clause-full : goal.returns-then-count-limit-clause-full
returns-then-count-limit-clause-full c =
    let set = unpack c.args.key.items in
    λ _. full_of c.requires.kept.0 c.args.limit c.args.keys.now set set c.requires.kept.1
    (key_of_itself set c.requires.set)
    (subst (λ k. IsAbsent c.args.keys.now (unpack k)) c.deref.ensures.value c.in_default.ensures) c.requires.set.some
    (let all = c.len-count.ensures in let full = c.if-count-limit.true in omega arith)

pub returns-clause-numbered : goal.returns-clause-numbered
returns-clause-numbered c =
    let set = unpack c.args.key.items in
    subst (λ ks. IsNumbered c.args.keys.now set ks (target_of c.to-2.result))
    (sym (grown c.args.keys.now c.args.key.items _ _ c.in_ok-push.ensures c.shrink_to_fit.ensures.items))
    (numbered_new c.requires.kept.0 c.args.limit c.args.keys.now set set c.requires.kept.1
    (key_of_itself set c.requires.set)
    (subst (λ k. IsAbsent c.args.keys.now (unpack k)) c.deref.ensures.value c.in_default.ensures)
    (target_of c.to-2.result) (c.to-2.ensures ∙ ap (λ n. Some n) c.len-count.ensures))

pub returns-clause-kept : goal.returns-clause-kept
returns-clause-kept c = λ below kept within.
    let set = unpack c.args.key.items in
    subst (λ ks. AreKept below c.args.limit ks)
    (sym (grown c.args.keys.now c.args.key.items _ _ c.in_ok-push.ensures c.shrink_to_fit.ensures.items))
    (kept_more below c.args.limit c.args.keys.now set set kept (key_of_itself set c.requires.set)
    (subst (λ k. IsAbsent c.args.keys.now (unpack k)) c.deref.ensures.value c.in_default.ensures) c.requires.set.some
    within (let all = c.len-count.ensures in let room = c.if-count-limit.false in omega arith))
