use Rattle.std.proofs.Common.{◌≡◌, ◌<◌, ◌+◌, ◌∙◌, ◌⊎◌, ◌↔◌, ℕ, List, Bool, sym, ap, subst, arith, length, true, false}
use Rattle.std.proofs.Common.{inl, inr, slice_index_or, Some}
use Rattle.std.proofs.lemmas.List.{get_or_default}
use Rattle.std.proofs.lemmas.Option.{slice_get_within}
use Rattle.std.specs.FinSet as set
use Rattle.std.proofs.lemmas.Bool.{eq-eqb}
use Rattle.ly_join.specs.Grammar.{Grammar, GrammarRule, IsGrammar, IsRule, accept_rule}
use Rattle.ly_sets.specs.NumberSet.{Member}
use Rattle.ly_sets.specs.SetMatrix.{row}
use Rattle.ly_grammar.specs.Reduction.{restricted}
use Rattle.ly_grammar.specs.Private.Reach.{IsReachedBy}
use Rattle.ly_grammar.proofs.MarksLemmas.{AreMarks, marked_more}
use Rattle.ly_grammar.proofs.SearchLemmas.{rule_is_one}
use Rattle.ly_grammar.proofs.UsefulLemmas.{AreProductive, useful_reached, whole_trees, start_tree}
use Rattle.ly_grammar.proofs.useful.useful_rules.Goals as goal
use Rattle.ly_grammar.proofs.useful.useful_rules.Goals.{then-number-eq0, else-number-eq0+then-index}
use Rattle.ly_grammar.proofs.useful.useful_rules.Goals.{else-number-eq0+else-index}

-- a mark that was read
mark_at : (marks : List Bool) (n : ℕ) (b : Bool) → n < length marks → b ≡ slice_index_or marks n b
    → slice_index_or marks n false ≡ b
mark_at marks n b lt e = get_or_default marks n false b lt ∙ sym e

-- the mark of rule 0
first_mark : (G : Grammar) (marks : List Bool) (b : Bool) → length marks ≡ length G.rules → IsGrammar G
    → b ≡ slice_index_or marks 0 b → slice_index_or marks 0 false ≡ b
first_mark G marks b long is e =
    let lt = slice_get_within G.rules 0 (Some (accept_rule G.accept G.start)) is.augmented.rule_0 in
    mark_at marks 0 b (omega (arith, lt, long)) e

pub returns-then-not-index-clause-unproductive : goal.returns-then-not-index-clause-unproductive
returns-then-not-index-clause-unproductive c e d is =
    let G : Grammar = c.args.grammar.now in
    let known = c.in_ok-productive.ensures in
    let rule = known.lawful.augmented.rule_0 in
    let off : slice_index_or c.in_ok-productive.productive.items 0 false ≡ false
    = first_mark G c.in_ok-productive.productive.items c.index.result.now known.long known.lawful c.index.ensures
    ∙ c.if-not-index.true in
    let on = (known.exact 0 (accept_rule G.accept G.start) rule).1 (whole_trees G d is) in
    let no : true ≡ false = sym on ∙ off in
    absurd (cc)

pub loop-number-preserved : goal.loop-number-preserved
loop-number-preserved c =
    let G : Grammar = c.args.grammar.now in
    let marks = c.in_ok-productive.productive.items in
    let n = c.loop-number.number in
    let P : ℕ → GrammarRule → Type 0 = λ p r. (p ≡ 0) ⊎ ((slice_index_or marks p false ≡ true)
    × IsReachedBy (restricted marks G) r.left) in
    let r : GrammarRule = c.rule.result.now in
    let lt : n < length marks = (let e = c.in_ok-productive.productive.ok.0 in let l = c.len-number-end.ensures in
    let t = c.loop-number-test.true in omega (arith, e, l, t)) in
    let exact : (A : ℕ) → Member (row c.in_ok-sets.sets.sets A) 0 ↔ IsReachedBy (restricted marks G) A
    = subst (λ ms. (A : ℕ) → Member (row c.in_ok-sets.sets.sets A) 0 ↔ IsReachedBy (restricted ms G) A)
    c.deref.ensures.value c.in_ok-sets.ensures.exact in
    let here : (c.if-number-eq0.push ≡ true) ↔ P n r = elim c.if-number-eq0.branch [
      | then-number-eq0 w ↦ (λ on. inl w.if-number-eq0.true, λ is. w.push-is ∙ eq-eqb n 0 w.if-number-eq0.true)
      | else-number-eq0+then-index w ↦
          let on : slice_index_or marks n false ≡ true = mark_at marks n w.index-else-number-eq0.result.now lt
          w.index-else-number-eq0.ensures ∙ w.if-index.true in
          let there : w.contains.result ≡ set.contains (row c.in_ok-sets.sets.sets r.left) 0
          = w.contains.ensures ∙ ap (λ A. set.contains (row c.in_ok-sets.sets.sets A) 0) c.left.ensures in
          let led : (w.contains.result ≡ true) ↔ IsReachedBy (restricted marks G) r.left
          = subst (λ b. (b ≡ true) ↔ IsReachedBy (restricted marks G) r.left) (sym there) (exact r.left) in
          let a : c.if-number-eq0.push ≡ w.contains.result = w.push-is in (
            λ e. inr (on, led.0 (sym a ∙ e)),
            λ is. a ∙ elim is [
              | inl zero ↦ absurd (w.if-number-eq0.false zero)
              | inr both ↦ led.1 both.1
            ],
          )
      | else-number-eq0+else-index w ↦
          let off : slice_index_or marks n false ≡ false = mark_at marks n w.index-else-number-eq0.result.now lt
          w.index-else-number-eq0.ensures ∙ w.if-index.false in
          let no = w.push-is ∙ w.if-index.false in (
            λ e. let f : true ≡ false = sym e ∙ no in absurd (cc),
            λ is. elim is [
              | inl zero ↦ absurd (w.if-number-eq0.false zero)
              | inr both ↦ let f : true ≡ false = sym both.0 ∙ off in absurd (cc)
            ],
          )
    ] in
    let each : (q : GrammarRule) → IsRule G n q → (c.if-number-eq0.push ≡ true) ↔ P n q
    = λ q rule. subst (λ x. (c.if-number-eq0.push ≡ true) ↔ P n x)
    (rule_is_one G n r q c.rule.ensures.there rule) here in
    subst (λ ms. AreMarks G P ms (n + 1)) (sym c.in_ok-push.ensures.items)
    (marked_more G P c.loop-number.useful.items n c.if-number-eq0.push c.loop-number.invariant each)

pub returns-clause-exact : goal.returns-clause-exact
returns-clause-exact c p r rule =
    let G : Grammar = c.args.grammar.now in
    let marks = c.in_ok-productive.productive.items in
    let known = c.in_ok-productive.ensures in
    let productive : AreProductive G marks = known.exact in
    let within = slice_get_within G.rules p (Some r) rule in
    let past = c.loop-number-test.false in
    let long = c.len-number-end.ensures in
    let here = c.loop-number.invariant.exact p r rule (let e = c.in_ok-productive.productive.ok.0 in
    let l = known.long in omega (arith, within, past, long, e, l)) in (
      λ on. elim (here.0 on) [
        | inl zero ↦ inl zero
        | inr led ↦ inr ((useful_reached G marks productive p r rule).1 led)
      ],
      λ is. here.1 (elim is [
        | inl zero ↦ inl zero
        | inr is_useful ↦ inr ((useful_reached G marks productive p r rule).0 is_useful)
      ]),
    )

pub returns-clause-productive : goal.returns-clause-productive
returns-clause-productive c =
    let G : Grammar = c.args.grammar.now in
    let known = c.in_ok-productive.ensures in
    let rule = known.lawful.augmented.rule_0 in
    let on : slice_index_or c.in_ok-productive.productive.items 0 false ≡ true
    = first_mark G c.in_ok-productive.productive.items c.index.result.now known.long known.lawful c.index.ensures
    ∙ c.if-not-index.false in
    start_tree G ((known.exact 0 (accept_rule G.accept G.start) rule).0 on)

pub returns-clause-lawful : goal.returns-clause-lawful
returns-clause-lawful c = c.in_ok-productive.ensures.lawful
