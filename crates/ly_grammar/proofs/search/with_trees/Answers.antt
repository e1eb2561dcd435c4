use Rattle.std.proofs.Common.{◌≡◌, ◌<◌, ◌+◌, ◌∙◌, ℕ, List, [], sym, ap, subst, arith, length, Contains}
use Rattle.std.proofs.Common.{slice_index_or, true, false, drop, map, Some, ◌↔◌}
use Rattle.std.proofs.lemmas.List.{drop_more, drop_all, length-map}
use Rattle.std.proofs.lemmas.Option.{slice_get_within}
use Rattle.std.proofs.lemmas.List.Elements.{Contains-get_or}
use Rattle.ly_join.specs.Grammar.{Grammar, GrammarRule, IsRule, nonterminal}
use Rattle.ly_grammar.specs.Reduction.{restricted}
use Rattle.ly_grammar.specs.Private.Search.{Progress, IsSearch, HasTree, Advances, SymbolsPass, Settled, was_found}
use Rattle.ly_grammar.proofs.MarkedLemmas.{at_marked, marked_at, length-marked}
use Rattle.ly_grammar.proofs.StartLemmas.{begun, is_begun, kept_rule, places_of}
use Rattle.ly_grammar.proofs.CloseLemmas.{AreSettledBelow, IsTaken, closed, tree_passes, taken, one_less, settled_to}
use Rattle.ly_grammar.proofs.CloseLemmas.{settled_past}
use Rattle.ly_grammar.proofs.search.with_trees.Goals as goal
use Rattle.ly_grammar.proofs.search.with_trees.Goals.{then-kept-number+in_ok-advance, else-kept-number}

pub loop-number-init : goal.loop-number-init
loop-number-init c =
    let G : Grammar = c.args.grammar.now in
    let R = restricted c.args.kept.now G in
    let rules : length R.rules ≡ length G.rules = length-marked c.args.kept.now G.rules c.requires in
    let e = c.in_ok-search.ensures in
    record {
      search = subst (IsSearch R) (sym (e ∙ ap (λ n. begun c.args.terminals (G.accept + 1) n) (sym rules)))
          (is_begun R c.args.terminals);
      terminals = ap (λ s. s.terminals) e;
      settled = λ p r rule lt. absurd (omega (arith, lt));
    }

-- a number below that of the rules
rule_within : (G : Grammar) (rules : List GrammarRule) (p : ℕ) → map Some rules ≡ G.rules → p < length rules
    → p < length G.rules
rule_within G rules p these lt = subst (λ n. p < n) (sym (length-map rules Some) ∙ ap length these) lt

pub rule-requires : goal.rule-requires
rule-requires c = rule_within c.args.grammar.now c.rules-number-end.result.now c.loop-number.number
    c.rules-number-end.ensures.these c.loop-number-test.true

pub advance-requires : goal.advance-requires
advance-requires c =
    let G : Grammar = c.args.grammar.now in
    let kept = c.args.kept.now in
    let p = c.loop-number.number in
    let r : GrammarRule = c.rule.result.now in
    places_of G kept c.loop-number.search p r c.rules-number-end.ensures.lawful c.loop-number.invariant.search
    (at_marked kept G.rules p r c.rule.ensures.there c.if-kept-number.true)

pub loop-number-preserved : goal.loop-number-preserved
loop-number-preserved c =
    let G : Grammar = c.args.grammar.now in
    let kept = c.args.kept.now in
    let R = restricted kept G in
    let n = c.loop-number.number in
    let s : Progress = c.loop-number.search in
    let known = c.loop-number.invariant in
    let below : AreSettledBelow R s n = record { search = known.search; settled = known.settled } in
    let After : Progress → Type 0 = λ t. AreSettledBelow R t (n + 1) × (t.terminals ≡ c.args.terminals) in
    elim c.if-kept-number.branch [
      | then-kept-number+in_ok-advance w ↦
          let r : GrammarRule = w.rule.result.now in
          let rule : IsRule R n r = at_marked kept G.rules n r w.rule.ensures.there w.if-kept-number.true in
          let next : Advances R s w.advance.new.self n r = w.in_ok-advance.ensures R known.search rule in
          let now = settled_to R s w.advance.new.self n r below rule next in
          let both = subst After (sym w.search-is) (now, next.on.terminals ∙ known.terminals) in
          record { search = both.0.search; terminals = both.1; settled = both.0.settled }
      | else-kept-number w ↦
          let off = w.if-kept-number.false in
          let now = settled_past R s n below (λ r rule.
          let on : slice_index_or kept n false ≡ true = (marked_at kept G.rules n r rule).1 in
          let no : true ≡ false = sym on ∙ off in absurd (cc)) in
          let both = subst After (sym w.search-is) (now, known.terminals) in
          record { search = both.0.search; terminals = both.1; settled = both.0.settled }
    ]

pub loop-waiting-init : goal.loop-waiting-init
loop-waiting-init c =
    let R = restricted c.args.kept.now c.args.grammar.now in
    record {
      search = c.loop-number.invariant.search;
      terminals = c.loop-number.invariant.terminals;
      settled = λ p r rule. c.loop-number.invariant.settled p r rule
          (let lt = slice_get_within R.rules p (Some r) rule in
          let there = marked_at c.args.kept.now c.args.grammar.now.rules p r rule in
          let within = slice_get_within c.args.grammar.now.rules p (Some r) there.0 in
          let long = sym (length-map c.rules-number-end.result.now Some)
          ∙ ap length c.rules-number-end.ensures.these in
          let past = c.loop-number-test.false in
          omega (arith, within, long, past));
    }

pub next-requires : goal.next-requires
next-requires c k d lt =
    let search = c.loop-waiting.invariant.search in
    let queue = c.loop-waiting.search.queue in
    subst (λ n. slice_index_or queue k d < n) (sym search.waiting_long)
    (search.queue_within (slice_index_or queue k d) (Contains-get_or queue k d lt))

pub loop-number-2-init : goal.loop-number-2-init
loop-number-2-init c =
    let R = restricted c.args.kept.now c.args.grammar.now in
    let s : Progress = c.loop-waiting.search in
    let next : Progress = c.next.new.self in
    let t : IsTaken R s next c.in-Some.waiting.items
    = taken R s next c.in-Some.waiting.items c.loop-waiting.invariant.search c.in-Some.ensures in
    record {
      search = t.search;
      terminals = t.terminals ∙ c.loop-waiting.invariant.terminals;
      settled = λ p r rule. subst (λ ps. Settled next ps p r) (sym c.deref-number-items.ensures.value)
          (t.settled p r (c.loop-waiting.invariant.settled p r rule));
      work = omega arith;
    }

-- a member of a list at a place below its length
here : (G : Grammar) (s next : Progress) (rules items : List ℕ) (at : ℕ) → IsTaken G s next rules → items ≡ rules
    → at < length items → (r : GrammarRule) × IsRule G (slice_index_or items at 0) r
here G s next rules items at is same lt
    = is.known (slice_index_or items at 0) (subst (λ ps. Contains ps (slice_index_or items at 0)) same
    (Contains-get_or items at 0 lt))

pub rule-requires-in-loop-number-2 : goal.rule-requires-in-loop-number-2
rule-requires-in-loop-number-2 c =
    let G : Grammar = c.args.grammar.now in
    let R = restricted c.args.kept.now G in
    let rules = c.in-Some.waiting.items in
    let items = c.deref-number-items.result.now in
    let at = c.loop-number-2.number-index in
    let t = taken R c.loop-waiting.search c.next.new.self rules c.loop-waiting.invariant.search c.in-Some.ensures in
    let known = here R c.loop-waiting.search c.next.new.self rules items at t c.deref-number-items.ensures.value
    c.loop-number-2-test.true in
    slice_get_within G.rules (slice_index_or items at 0) (Some known.0)
    (marked_at c.args.kept.now G.rules (slice_index_or items at 0) known.0 known.1).0

pub advance-requires-in-loop-number-2 : goal.advance-requires-in-loop-number-2
advance-requires-in-loop-number-2 c =
    let G : Grammar = c.args.grammar.now in
    let kept = c.args.kept.now in
    let R = restricted kept G in
    let rules = c.in-Some.waiting.items in
    let items = c.deref-number-items.result.now in
    let at = c.loop-number-2.number-index in
    let t = taken R c.loop-waiting.search c.next.new.self rules c.loop-waiting.invariant.search c.in-Some.ensures in
    let known = here R c.loop-waiting.search c.next.new.self rules items at t c.deref-number-items.ensures.value
    c.loop-number-2-test.true in
    let p = slice_index_or items at 0 in
    let r : GrammarRule = c.rule-in-loop-number-2.result.now in
    places_of G kept c.loop-number-2.search p r c.rules-number-end.ensures.lawful c.loop-number-2.invariant.search
    (kept_rule G kept p r c.rule-in-loop-number-2.ensures.there known)

pub loop-number-2-preserved : goal.loop-number-2-preserved
loop-number-2-preserved c =
    let G : Grammar = c.args.grammar.now in
    let kept = c.args.kept.now in
    let R = restricted kept G in
    let rules = c.in-Some.waiting.items in
    let items = c.deref-number-items.result.now in
    let at = c.loop-number-2.number-index in
    let t = taken R c.loop-waiting.search c.next.new.self rules c.loop-waiting.invariant.search c.in-Some.ensures in
    let known = here R c.loop-waiting.search c.next.new.self rules items at t c.deref-number-items.ensures.value
    c.loop-number-2-test.true in
    let p = slice_index_or items at 0 in
    let s : Progress = c.loop-number-2.search in
    let next : Progress = c.advance-in-loop-number-2.new.self in
    let was = c.loop-number-2.invariant in
    let r : GrammarRule = c.rule-in-loop-number-2.result.now in
    let rule : IsRule R p r = kept_rule G kept p r c.rule-in-loop-number-2.ensures.there known in
    let step : Advances R s next p r = c.in_ok-advance-2.ensures R was.search rule in
    let rest = drop (at + 1) items in
    record {
      search = step.on.search;
      terminals = step.on.terminals ∙ was.terminals;
      settled = λ q r2 rule2. one_less R next p rest r rule (step.settled rest) q r2 rule2
          (subst (λ ps. Settled next ps q r2) (drop_more items at 0 c.loop-number-2-test.true)
          (step.on.others (drop at items) q r2 (was.settled q r2 rule2)));
      work = (let one = step.on.work in let two = was.work in omega (arith, one, two));
    }

pub loop-waiting-preserved : goal.loop-waiting-preserved
loop-waiting-preserved c =
    let s : Progress = c.loop-number-2.search in
    let items = c.deref-number-items.result.now in
    let at = c.loop-number-2.number-index in
    let none : drop at items ≡ [] = drop_all at items (let past = c.loop-number-2-test.false in omega (arith, past)) in
    record {
      search = c.loop-number-2.invariant.search;
      terminals = c.loop-number-2.invariant.terminals;
      settled = λ p r rule. subst (λ ps. Settled s ps p r) none (c.loop-number-2.invariant.settled p r rule);
    }

pub returns-clause-exact : goal.returns-clause-exact
returns-clause-exact c =
    let R = restricted c.args.kept.now c.args.grammar.now in
    let s : Progress = c.loop-waiting.search in
    let known = c.loop-waiting.invariant in
    let over = c.in_default.ensures in
    let same : c.search-2.inside.found.items ≡ s.found = ap (λ n. n.found) (c.search-2.view_is ∙ over.1) in
    let close : (p : ℕ) (r : GrammarRule) → IsRule R p r → SymbolsPass s.found s.terminals r.body
    → was_found s r.left ≡ true
    = λ p r rule. closed s p r over.0 (known.settled p r rule) in
    let exact : (A : ℕ) → (was_found s A ≡ true) ↔ HasTree R s.terminals (nonterminal A)
    = λ A. (known.search.sound A, λ t. tree_passes R s close (nonterminal A) t.0 t.1 t.2) in
    subst (λ found. (A : ℕ) → (slice_index_or found A false ≡ true) ↔ HasTree R c.args.terminals (nonterminal A))
    (sym same) (subst (λ b. (A : ℕ) → (was_found s A ≡ true) ↔ HasTree R b (nonterminal A)) known.terminals exact)
