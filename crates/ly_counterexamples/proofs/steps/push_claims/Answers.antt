use Rattle.std.proofs.Common.{◌∙◌, ◌↔◌, inl, inr, ap, subst, sym, slice_index_or}
use Rattle.std.proofs.Common.{Contains}
use Rattle.std.proofs.lemmas.List.Elements.{Contains-get_or}
use Rattle.ly_join.specs.Grammar.{nonterminal}
use Rattle.ly_counterexamples.specs.Demands.{ClimbsTo}
use Rattle.ly_counterexamples.specs.declared.claim.Claim.TheVariants.{With}
use Rattle.ly_counterexamples.specs.Private.Met.{item_at}
use Rattle.ly_counterexamples.specs.Private.Steps.{HasAhead, IsRelated, IsClaimOn}
use Rattle.ly_counterexamples.proofs.BackLemmas.{all_related, kept_is, related_beside}
use Rattle.ly_counterexamples.proofs.ClaimLemmas.{claims_climb, waiting_exact}
use Rattle.ly_counterexamples.proofs.steps.push_claims.Goals as goal

pub push_claims_on-requires-clause-ahead : goal.push_claims_on-requires-clause-ahead
push_claims_on-requires-clause-ahead c =
    let G = c.args.ground.now.lr0.now.grammar in
    let k = c.requires.kept in
    let same = kept_is c.grammar.result.now c.reduced-reduced.result.now.grammar G
    c.args.rule c.rule.result.now k.0 c.grammar.ensures.keeps c.reduced-reduced.ensures c.rule.ensures.there k.1 in
    let xs = c.of-item-items.result.now in
    let item = slice_index_or xs c.loop-item.item-index (item_at 0 0) in
    let there = (waiting_exact G c.args.ground.now.waiting c.args.rule c.left-left.result.0 k.0 xs
    c.requires.ground.lawful.augmented c.requires.ground.waiting k.1 (c.left-left.ensures ∙ ap (λ r. r.left) same)
    c.of-item-items.ensures item).0 (Contains-get_or xs c.loop-item.item-index (item_at 0 0) c.loop-item-test.true) in
    subst (λ A. HasAhead A item) (sym c.reduced-reduced.ensures) (nonterminal k.0.left, there.0, there.1)

pub loop-item-preserved : goal.loop-item-preserved
loop-item-preserved c =
    related_beside (IsClaimOn c.reduced-reduced.result.now.grammar c.args.terminal.0) c.of-item-items.result.now
    (λ e. Contains c.args.claims.now.items e) c.loop-item.item-index (item_at 0 0) c.loop-item-test.true
    c.loop-item.claims.items c.push_claims_on.new.claims.items c.in_ok-push_claims_on.ensures c.loop-item.invariant

pub returns : goal.returns
returns c e =
    let M = c.args.ground.now.lr0.now in
    let t = c.args.terminal.0 in
    let k = c.requires.kept in
    let same = kept_is c.grammar.result.now c.reduced-reduced.result.now.grammar M.grammar
    c.args.rule c.rule.result.now k.0 c.grammar.ensures.keeps c.reduced-reduced.ensures c.rule.ensures.there k.1 in
    let xs = c.of-item-items.result.now in
    let are = subst (λ A. IsRelated (IsClaimOn A t) xs e ↔ ClimbsTo M t 0 (With (item_at c.args.rule 0)) e)
    (sym c.reduced-reduced.ensures)
    (claims_climb M t c.args.rule k.0 xs k.1 (waiting_exact M.grammar c.args.ground.now.waiting c.args.rule
    c.left-left.result.0 k.0 xs c.requires.ground.lawful.augmented c.requires.ground.waiting k.1
    (c.left-left.ensures ∙ ap (λ r. r.left) same) c.of-item-items.ensures) e) in
    let all = all_related (IsClaimOn c.reduced-reduced.result.now.grammar t) xs c.loop-item.item-index
    c.loop-item-test.false e in
    let inv = c.loop-item.invariant e in (
      λ has. elim (inv.0 has) [ inl was ↦ inl was | inr some ↦ inr (are.0 (all.0 some)) ],
      λ either. inv.1 (elim either [ inl was ↦ inl was | inr climbs ↦ inr (all.1 (are.1 climbs)) ]),
    )
