use Rattle.std.proofs.Common.{◌≡◌, ◌+◌, ◌∙◌, ◌↔◌, ℕ, sym, ap, subst, arith, length, true, false, Some}
use Rattle.std.proofs.Common.{slice_index_or, replicate}
use Rattle.std.proofs.lemmas.List.{length-map}
use Rattle.std.proofs.lemmas.Option.{slice_get_within}
use Rattle.ly_join.specs.Grammar.{Grammar, GrammarRule, IsRule, nonterminal}
use Rattle.ly_grammar.specs.Reduction.{restricted}
use Rattle.ly_grammar.specs.Private.Search.{SymbolsPass, HasTree}
use Rattle.ly_grammar.proofs.CloseLemmas.{found_passes}
use Rattle.ly_grammar.proofs.MarkedLemmas.{marked_all}
use Rattle.ly_grammar.proofs.MarksLemmas.{AreMarks, marked_more}
use Rattle.ly_grammar.proofs.SearchLemmas.{body_trees, rule_is_one}
use Rattle.ly_grammar.proofs.useful.productive_rules.Goals as goal

pub loop-number-preserved : goal.loop-number-preserved
loop-number-preserved c =
    let G : Grammar = c.args.grammar.now in
    let n = c.loop-number.number in
    let P : ℕ → GrammarRule → Type 0 = λ p r. SymbolsPass c.in_ok-found.found.items true r.body in
    let here : (r : GrammarRule) → IsRule G n r → (c.body_passes.result ≡ true) ↔ P n r
    = λ r rule. subst (λ x. (c.body_passes.result ≡ true) ↔ P n x)
    (rule_is_one G n c.rule.result.now r c.rule.ensures.there rule)
    (subst (λ found. (c.body_passes.result ≡ true) ↔ SymbolsPass found true c.rule.result.now.body)
    c.deref-in-loop-number.ensures.value c.body_passes.ensures) in
    subst (λ marks. AreMarks G P marks (n + 1)) (sym c.in_ok-push.ensures.items)
    (marked_more G P c.loop-number.productive.items n c.body_passes.result c.loop-number.invariant here)

pub returns-clause-exact : goal.returns-clause-exact
returns-clause-exact c =
    let G : Grammar = c.args.grammar.now in
    let rules = c.rules-rules.result.now in
    let found = c.in_ok-found.found.items in
    let long : length rules ≡ length G.rules
    = sym (length-map rules Some) ∙ ap length c.rules-rules.ensures.these in
    let kept : c.deref.result.now ≡ replicate (length G.rules) true
    = c.deref.ensures.value ∙ c.in_ok-all.ensures.items_if_clones_equal (λ y e. e) ∙ ap (λ k. replicate k true) long in
    let same : restricted c.deref.result.now G ≡ G
    = ap (λ marks. restricted marks G) kept ∙ ap (λ rs. let g : Grammar = record G { rules = rs } in g)
    (marked_all G.rules) in
    let exact : (A : ℕ) → (slice_index_or found A false ≡ true) ↔ HasTree G true (nonterminal A)
    = subst (λ g. (A : ℕ) → (slice_index_or found A false ≡ true) ↔ HasTree g true (nonterminal A)) same
    c.in_ok-found.ensures.exact in
    λ p r rule.
    let lt = slice_get_within G.rules p (Some r) rule in
    let past = c.loop-number-test.false in
    let here = c.loop-number.invariant.exact p r rule (omega (arith, lt, past, long)) in (
      λ e. body_trees G found true r.body (λ A f. (exact A).0 f) (here.0 e),
      λ trees. here.1 (found_passes G found r.body (λ A t. (exact A).1 t) trees),
    )

pub returns-clause-lawful : goal.returns-clause-lawful
returns-clause-lawful c = c.rules-rules.ensures.lawful
