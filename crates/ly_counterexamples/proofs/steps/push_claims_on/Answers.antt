use Rattle.std.proofs.Common.{◌≡◌, ◌∙◌, ◌↔◌, inl, inr, ap, subst, sym, All, true, refl}
use Rattle.ly_base.specs.Trees.{Trees}
use Rattle.ly_grammar.specs.Derivations.{AreTrees, BeginsYield, IsNullable}
use Rattle.ly_relate.specs.Private.Walks.{HasNumberTo}
use Rattle.ly_counterexamples.proofs.BackLemmas.{kept_is}
use Rattle.ly_counterexamples.proofs.ClaimLemmas.{pushed_claims, rest_room, rest_shown, rest_trees, rest_within}
use Rattle.ly_counterexamples.proofs.steps.push_claims_on.Goals as goal
use Rattle.ly_counterexamples.proofs.steps.push_claims_on.Goals.{then-begins+in_ok-push, else-begins}

pub behind-rest-requires : goal.behind-rest-requires
behind-rest-requires c =
    let G = c.args.reduced.now.grammar in
    let (X, rest, a) = c.requires.ahead in
    let same = kept_is c.grammar.result.now G G c.args.item.rule c.rule.result.now a.rule c.grammar.ensures.keeps refl
    c.rule.ensures.there a.is_rule in
    rest_room G c.args.item X rest a c.body-body.result.now c.rule.result.now c.body-body.ensures same

pub begins-requires-clause-within : goal.begins-requires-clause-within
begins-requires-clause-within c =
    let G = c.args.reduced.now.grammar in
    let (X, rest, a) = c.requires.ahead in
    let same = kept_is c.grammar.result.now G G c.args.item.rule c.rule.result.now a.rule c.grammar.ensures.keeps refl
    c.rule.ensures.there a.is_rule in
    let is = rest_shown G c.args.item X rest a c.body-body.result.now c.rule.result.now c.body-body.ensures same
    c.behind-rest.result.now c.behind-rest.ensures in
    subst (All (HasNumberTo G.accept)) (sym is) (rest_within G c.args.item X rest a c.grammar.ensures.augmented)

pub are_nullable-requires : goal.are_nullable-requires
are_nullable-requires c =
    let G = c.args.reduced.now.grammar in
    let (X, rest, a) = c.requires.ahead in
    let same = kept_is c.grammar.result.now G G c.args.item.rule c.rule.result.now a.rule c.grammar.ensures.keeps refl
    c.rule.ensures.there a.is_rule in
    let is = rest_shown G c.args.item X rest a c.body-body.result.now c.rule.result.now c.body-body.ensures same
    c.behind-rest.result.now c.behind-rest.ensures in
    subst (All (HasNumberTo G.accept)) (sym is) (rest_within G c.args.item X rest a c.grammar.ensures.augmented)

pub begins-requires-clause-trees : goal.begins-requires-clause-trees
begins-requires-clause-trees c =
    let G = c.args.reduced.now.grammar in
    let (X, rest, a) = c.requires.ahead in
    let same = kept_is c.grammar.result.now G G c.args.item.rule c.rule.result.now a.rule c.grammar.ensures.keeps refl
    c.rule.ensures.there a.is_rule in
    let is = rest_shown G c.args.item X rest a c.body-body.result.now c.rule.result.now c.body-body.ensures same
    c.behind-rest.result.now c.behind-rest.ensures in
    subst (λ w. (ts : Trees) × AreTrees G w ts) (sym is)
    (rest_trees G c.args.item X rest a c.grammar.ensures.augmented c.grammar.ensures.reduced)

pub returns-in_ok-push-2 : goal.returns-in_ok-push-2
returns-in_ok-push-2 c =
    let G = c.args.reduced.now.grammar in
    let (X, rest, a) = c.requires.ahead in
    let same = kept_is c.grammar.result.now G G c.args.item.rule c.rule.result.now a.rule c.grammar.ensures.keeps refl
    c.rule.ensures.there a.is_rule in
    let is = rest_shown G c.args.item X rest a c.body-body.result.now c.rule.result.now c.body-body.ensures same
    c.behind-rest.result.now c.behind-rest.ensures in
    pushed_claims G c.args.item X rest a c.args.terminal.0 c.begins.result c.are_nullable.result c.args.claims.now.items
    c.if-begins.claims.items c.push-then-are_nullable.new.self.items
    (subst (λ w. (c.begins.result ≡ true) ↔ BeginsYield G w c.args.terminal.0) is c.begins.ensures)
    (subst (λ w. (c.are_nullable.result ≡ true) ↔ IsNullable G w) is c.are_nullable.ensures)
    (elim c.if-begins.branch [
      | then-begins+in_ok-push w ↦ inl (w.if-begins.true, ap (λ v. v.items) w.claims-is ∙ w.in_ok-push.ensures.items)
      | else-begins w ↦ inr (w.if-begins.false, ap (λ v. v.items) w.claims-is)
    ])
    (inl (c.if-are_nullable.true, c.in_ok-push-2.ensures.items))

pub returns-else-are_nullable : goal.returns-else-are_nullable
returns-else-are_nullable c =
    let G = c.args.reduced.now.grammar in
    let (X, rest, a) = c.requires.ahead in
    let same = kept_is c.grammar.result.now G G c.args.item.rule c.rule.result.now a.rule c.grammar.ensures.keeps refl
    c.rule.ensures.there a.is_rule in
    let is = rest_shown G c.args.item X rest a c.body-body.result.now c.rule.result.now c.body-body.ensures same
    c.behind-rest.result.now c.behind-rest.ensures in
    pushed_claims G c.args.item X rest a c.args.terminal.0 c.begins.result c.are_nullable.result c.args.claims.now.items
    c.if-begins.claims.items c.if-begins.claims.items
    (subst (λ w. (c.begins.result ≡ true) ↔ BeginsYield G w c.args.terminal.0) is c.begins.ensures)
    (subst (λ w. (c.are_nullable.result ≡ true) ↔ IsNullable G w) is c.are_nullable.ensures)
    (elim c.if-begins.branch [
      | then-begins+in_ok-push w ↦ inl (w.if-begins.true, ap (λ v. v.items) w.claims-is ∙ w.in_ok-push.ensures.items)
      | else-begins w ↦ inr (w.if-begins.false, ap (λ v. v.items) w.claims-is)
    ])
    (inr (c.if-are_nullable.false, refl))
