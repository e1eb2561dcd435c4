use Rattle.std.proofs.Common.{rules, ◌≡◌, ◌∙◌, ◌<◌, ◌-◌, Some, sym, ap, subst, arith, length, map, slice_get}
use Rattle.std.proofs.Common.{slice_index_or}
use Rattle.std.proofs.lemmas.List.{length-map}
use Rattle.ly_join.specs.Grammar.{symbol_of}
use Rattle.ly_lr0.proofs.GroupLemmas.{symbol_one}
use Rattle.ly_relate.proofs.WalkLemmas.{no_symbol, shown_symbol}
use Rattle.ly_counterexamples.proofs.BackLemmas.{is_before, kept_is, not_before}
use Rattle.ly_counterexamples.proofs.steps.before.Goals as goal

pub bounds-body-dot : goal.bounds-body-dot
bounds-body-dot c =
    let k = c.requires in
    let same = kept_is c.grammar.result.now c.reduced.result.now.grammar c.args.ground.now.lr0.now.grammar
    c.args.item.rule c.rule.result.now k.0 c.grammar.ensures.keeps c.reduced.ensures c.rule.ensures.there k.1 in
    let long : length c.body-body.result.now ≡ length k.0.body
    = sym (length-map c.body-body.result.now symbol_of) ∙ ap length c.body-body.ensures ∙ ap (λ r. length r.body) same
    in
    let le = k.2 in
    let some = c.if-item-eq0.false in
    omega (arith, long, le, some)

pub returns-then-eq : goal.returns-then-eq
returns-then-eq c =
    let k = c.requires in
    let d = c.args.item.dot - 1 in
    let body = c.body-body.result.now in
    let same = kept_is c.grammar.result.now c.reduced.result.now.grammar c.args.ground.now.lr0.now.grammar
    c.args.item.rule c.rule.result.now k.0 c.grammar.ensures.keeps c.reduced.ensures c.rule.ensures.there k.1 in
    let is : map symbol_of body ≡ k.0.body = c.body-body.ensures ∙ ap (λ r. r.body) same in
    let long : length body ≡ length k.0.body = sym (length-map body symbol_of) ∙ ap length is in
    let le = k.2 in
    let some = c.if-item-eq0.false in
    let lt : d < length body = omega (arith, long, le, some) in
    let here : slice_index_or body d no_symbol ≡ c.args.symbol = search rules in
    is_before c.args.ground.now.lr0.now.grammar c.args.item k.0 k.1 (symbol_of c.args.symbol) (omega (arith, some))
    (subst (λ w. slice_get w d ≡ Some (symbol_of c.args.symbol)) is
    (shown_symbol body d lt ∙ ap (λ s. Some (symbol_of s)) here))

pub returns-else-eq : goal.returns-else-eq
returns-else-eq c =
    let k = c.requires in
    let d = c.args.item.dot - 1 in
    let body = c.body-body.result.now in
    let same = kept_is c.grammar.result.now c.reduced.result.now.grammar c.args.ground.now.lr0.now.grammar
    c.args.item.rule c.rule.result.now k.0 c.grammar.ensures.keeps c.reduced.ensures c.rule.ensures.there k.1 in
    let is : map symbol_of body ≡ k.0.body = c.body-body.ensures ∙ ap (λ r. r.body) same in
    let long : length body ≡ length k.0.body = sym (length-map body symbol_of) ∙ ap length is in
    let le = k.2 in
    let some = c.if-item-eq0.false in
    let lt : d < length body = omega (arith, long, le, some) in
    let other : slice_index_or body d no_symbol ≡ c.args.symbol → ⊥ = search rules in
    not_before c.args.ground.now.lr0.now.grammar c.args.item k.0 k.1 (symbol_of c.args.symbol)
    (symbol_of (slice_index_or body d no_symbol))
    (subst (λ w. slice_get w d ≡ Some (symbol_of (slice_index_or body d no_symbol))) is (shown_symbol body d lt))
    (λ e. other (symbol_one (slice_index_or body d no_symbol) c.args.symbol e))

pub offset_bounds-body-dot : goal.offset_bounds-body-dot
offset_bounds-body-dot c =
    let k = c.requires in
    let same = kept_is c.grammar.result.now c.reduced.result.now.grammar c.args.ground.now.lr0.now.grammar
    c.args.item.rule c.rule.result.now k.0 c.grammar.ensures.keeps c.reduced.ensures c.rule.ensures.there k.1 in
    let long : length c.body-body.result.now ≡ length k.0.body
    = sym (length-map c.body-body.result.now symbol_of) ∙ ap length c.body-body.ensures ∙ ap (λ r. length r.body) same
    in
    let le = k.2 in
    let small = c.body-body.type_inv.1 in
    omega (arith, long, le, small)
