use Rattle.std.proofs.Common.{◌≡◌, ◌∙◌, ◌⊎◌, ◌↔◌, ◌+◌, ◌++◌, ◌∷◌, [], inl, inr, ℕ, List, ap, refl, slice_index_or}
use Rattle.std.proofs.Common.{subst, sym}
use Rattle.std.proofs.Common.{take, Contains}
use Rattle.std.proofs.lemmas.List.{take_all}
use Rattle.std.proofs.lemmas.List.Elements.{Contains-append_left, Contains-get_or, Contains-push, Contains-push_cases}
use Rattle.ly_relate.specs.Private.Groups.{BeginsSolid}
use Rattle.ly_relate.proofs.UnionLemmas.{take_Contains}
use Rattle.ly_relate.proofs.parted_rules.parted.Goals as goal
use Rattle.ly_relate.proofs.parted_rules.parted.Goals.{then-begins_solid+in_ok-push, else-begins_solid+in_ok-push-2}

-- one more of a list
pushed : (xs new : List ℕ) (x q : ℕ) → new ≡ xs ++ x ∷ [] → Contains new q ↔ (Contains xs q ⊎ (x ≡ q))
pushed xs new x q e = (
  (λ has. Contains-push_cases xs x q (subst (λ w. Contains w q) e has)),
  (λ either. subst (λ w. Contains w q) (sym e) (elim either [
    | inl was ↦ Contains-append_left xs (x ∷ []) q was
    | inr same ↦ subst (Contains (xs ++ x ∷ [])) same (Contains-push xs x)
  ])),
)

-- one more of two lists, in the first, or in the second
one_more : {A B T New More E : Type 0} → (A ⊎ B) ↔ T → New ↔ (A ⊎ E) → More ↔ (T ⊎ E) → (New ⊎ B) ↔ More
one_more {A} {B} {T} {New} {More} {E} before new more = (to, back) where
  to : New ⊎ B → More
  to (inl n) = elim (new.0 n) [ inl a ↦ more.1 (inl (before.0 (inl a))) | inr e ↦ more.1 (inr e) ]
  to (inr b) = more.1 (inl (before.0 (inr b)))

  back : More → New ⊎ B
  back m = elim (more.0 m) [
    | inl t ↦ elim (before.1 t) [ inl a ↦ inl (new.1 (inl a)) | inr b ↦ inr b ]
    | inr e ↦ inl (new.1 (inr e))
  ]

one_behind : {A B T New More E : Type 0} → (A ⊎ B) ↔ T → New ↔ (B ⊎ E) → More ↔ (T ⊎ E) → (A ⊎ New) ↔ More
one_behind {A} {B} {T} {New} {More} {E} before new more = (to, back) where
  to : A ⊎ New → More
  to (inl a) = more.1 (inl (before.0 (inl a)))
  to (inr n) = elim (new.0 n) [ inl b ↦ more.1 (inl (before.0 (inr b))) | inr e ↦ more.1 (inr e) ]

  back : More → A ⊎ New
  back m = elim (more.0 m) [
    | inl t ↦ elim (before.1 t) [ inl a ↦ inl a | inr b ↦ inr (new.1 (inl b)) ]
    | inr e ↦ inr (new.1 (inr e))
  ]

pub begins_solid-requires : goal.begins_solid-requires
begins_solid-requires c =
    let rules = c.rules_of-rule-items.result.now in
    let is = (c.rules_of-rule-items.ensures (slice_index_or rules c.loop-rule.rule-index 0)).0
    (Contains-get_or rules c.loop-rule.rule-index 0 c.loop-rule-test.true) in
    (is.0, is.1)

pub loop-rule-preserved : goal.loop-rule-preserved
loop-rule-preserved c =
    let rules = c.rules_of-rule-items.result.now in
    let i = c.loop-rule.rule-index in
    let rule = slice_index_or rules i 0 in
    elim c.if-begins_solid.branch [
      | then-begins_solid+in_ok-push w ↦
          let solid = ap (λ v. v.items) w.solid-is ∙ w.in_ok-push.ensures.items in
          let others = ap (λ v. v.items) w.others-is in
          record {
            all = λ q. subst (λ o. (Contains c.if-begins_solid.solid.items q ⊎ Contains o q)
                ↔ Contains (take (i + 1) rules) q) (sym others)
                (one_more (c.loop-rule.invariant.all q)
                (pushed c.loop-rule.solid.items c.if-begins_solid.solid.items rule q solid)
                (take_Contains rules i 0 q c.loop-rule-test.true));
            begin = λ q has. elim ((pushed c.loop-rule.solid.items c.if-begins_solid.solid.items rule q solid).0 has) [
              | inl was ↦ c.loop-rule.invariant.begin q was
              | inr same ↦ subst (BeginsSolid c.args.lr0.now.grammar) same (w.if-begins_solid.ensures refl)
            ];
          }
      | else-begins_solid+in_ok-push-2 w ↦
          let solid = ap (λ v. v.items) w.solid-is in
          let others = ap (λ v. v.items) w.others-is ∙ w.in_ok-push-2.ensures.items in
          record {
            all = λ q. subst (λ s. (Contains s q ⊎ Contains c.if-begins_solid.others.items q)
                ↔ Contains (take (i + 1) rules) q) (sym solid)
                (one_behind (c.loop-rule.invariant.all q)
                (pushed c.loop-rule.others.items c.if-begins_solid.others.items rule q others)
                (take_Contains rules i 0 q c.loop-rule-test.true));
            begin = λ q has. c.loop-rule.invariant.begin q (subst (λ s. Contains s q) solid has);
          }
    ]

pub returns : goal.returns
returns c =
    let rules = c.rules_of-rule-items.result.now in
    let all = take_all c.loop-rule.rule-index rules c.loop-rule-test.false in
    record {
      all = λ q. (
        (λ either. (c.rules_of-rule-items.ensures q).0
            (subst (λ l. Contains l q) all ((c.loop-rule.invariant.all q).0 either))),
        (λ is. (c.loop-rule.invariant.all q).1
            (subst (λ l. Contains l q) (sym all) ((c.rules_of-rule-items.ensures q).1 is))),
      );
      begin = c.loop-rule.invariant.begin;
    }
