use Rattle.std.proofs.Common.{◌≡◌, ◌≢◌, ◌∙◌, ◌+◌, ap, arith, drop, map, subst, sym, [], ◌∷◌, ◌++◌, slice_index_or}
use Rattle.std.proofs.Common.{eqb, not, true}
use Rattle.std.proofs.lemmas.Bool.{eq-eqb, eqb-true, not-false}
use Rattle.std.proofs.lemmas.List.{drop_all}
use Rattle.ly_counterexamples.specs.declared.moves.Ahead.TheVariants.{Known, Open}
use Rattle.ly_counterexamples.specs.declared.moves.Move.TheVariants.{Reduce}
use Rattle.ly_counterexamples.specs.Moves.{reduces}
use Rattle.ly_join.specs.Grammar.{symbol_of}
use Rattle.ly_counterexamples.specs.Private.Leftmost.{ahead_from, ahead_of, IsUnderWay, known, moves_from, next_of}
use Rattle.ly_counterexamples.specs.Private.Leftmost.{open_at}
use Rattle.ly_counterexamples.proofs.SentenceLemmas.{at_start, kept_last, mapped_twice, next_rule, no_rule_kept}
use Rattle.ly_counterexamples.proofs.SentenceLemmas.{only_moves, rule_kept}
use Rattle.ly_counterexamples.proofs.SentenceLemmas.{rule_left_same}
use Rattle.ly_counterexamples.proofs.SentenceLemmas.{way_end, way_next, way_on, way_other, way_out}
use Rattle.ly_counterexamples.proofs.SentenceLemmas.{way_over, way_short, way_taken}
use Rattle.ly_counterexamples.proofs.moves.moves_by.Goals as goal

pub loop-number-init : goal.loop-number-init
loop-number-init c =
    let G = c.args.grammar.now in
    let rules = c.args.rules.now in
    let kept : c.push.new.self.items ≡ Open c.start.result ∷ []
    = c.in_ok-push.ensures.items ∙ ap (λ xs. xs ++ Open c.start.result ∷ []) c.new-ahead.ensures.items in
    subst (λ d. IsUnderWay G rules d (next_of c.push.new.self.items) rules)
    (sym (ap moves_from c.new-moves.ensures.items))
    (subst (λ w. IsUnderWay G rules [] w rules)
    (sym (ap next_of kept ∙ ap (λ n. open_at n ∷ []) c.start.ensures.value)) (at_start G rules))

pub returns-in_default : goal.returns-in_default
returns-in_default c =
    let G = c.args.grammar.now in
    let rules = c.args.rules.now in
    let l = c.loop-number in
    let on = subst (IsUnderWay G rules (moves_from l.moves.items) (next_of l.ahead.items))
    (next_rule rules l.number-index c.loop-number-test.true) l.invariant in
    way_over G rules (moves_from c.next_left.new.moves.items) (slice_index_or rules l.number-index 0)
    (drop (l.number-index + 1) rules)
    (way_out G rules (next_of l.ahead.items) (next_of c.next_left.new.ahead.items) (moves_from l.moves.items)
    (moves_from c.next_left.new.moves.items) c.in_ok-left.field-0
    (slice_index_or rules l.number-index 0 ∷ drop (l.number-index + 1) rules) on c.in_ok-left.ensures c.in_default.is)

pub returns-in_default-get : goal.returns-in_default-get
returns-in_default-get c =
    let G = c.args.grammar.now in
    let rules = c.args.rules.now in
    let l = c.loop-number in
    let p = slice_index_or rules l.number-index 0 in
    let behind = moves_from c.next_left.new.moves.items in
    let new = next_of c.next_left.new.ahead.items in
    way_other G rules behind c.in-Some.left.0 new p (drop (l.number-index + 1) rules)
    (λ r is same. no_rule_kept G c.rules.result.now c.rules.ensures.these p
    (omega (arith, c.in_default-get.ensures.lookup)) r is)
    (way_next G rules l.number-index (next_of l.ahead.items) new (moves_from l.moves.items) behind
    c.in_ok-left.field-0 c.in-Some.left c.loop-number-test.true l.invariant c.in_ok-left.ensures c.in-Some.is)

pub returns-then-ne : goal.returns-then-ne
returns-then-ne c =
    let G = c.args.grammar.now in
    let rules = c.args.rules.now in
    let l = c.loop-number in
    let p = slice_index_or rules l.number-index 0 in
    let r = c.in-Some-get.rule.now in
    let behind = moves_from c.next_left.new.moves.items in
    let new = next_of c.next_left.new.ahead.items in
    let is = rule_kept G c.rules.result.now c.rules.ensures.these p r c.in-Some-get.ensures.lookup.3.0
    c.in-Some-get.ensures.lookup.1 in
    let differ : not (eqb c.left.result.0 c.in-Some.left.0) ≡ true = sym c.ne.ensures ∙ c.if-ne.true in
    let apart : r.left ≢ c.in-Some.left.0
    = λ e. (let one = ap not (eq-eqb c.left.result.0 c.in-Some.left.0 (c.left.ensures ∙ e)) in cc) in
    way_other G rules behind c.in-Some.left.0 new p (drop (l.number-index + 1) rules)
    (λ q is_q same. apart (rule_left_same G p q r is_q is same))
    (way_next G rules l.number-index (next_of l.ahead.items) new (moves_from l.moves.items) behind
    c.in_ok-left.field-0 c.in-Some.left c.loop-number-test.true l.invariant c.in_ok-left.ensures c.in-Some.is)

pub loop-number-preserved : goal.loop-number-preserved
loop-number-preserved c =
    let G = c.args.grammar.now in
    let rules = c.args.rules.now in
    let l = c.loop-number in
    let p = slice_index_or rules l.number-index 0 in
    let rest = drop (l.number-index + 1) rules in
    let r = c.in-Some-get.rule.now in
    let behind = moves_from c.next_left.new.moves.items in
    let new = next_of c.next_left.new.ahead.items in
    let way = way_next G rules l.number-index (next_of l.ahead.items) new (moves_from l.moves.items) behind
    c.in_ok-left.field-0 c.in-Some.left c.loop-number-test.true l.invariant c.in_ok-left.ensures c.in-Some.is in
    let is = rule_kept G c.rules.result.now c.rules.ensures.these p r c.in-Some-get.ensures.lookup.3.0
    c.in-Some-get.ensures.lookup.1 in
    let same : r.left ≡ c.in-Some.left.0
    = sym c.left.ensures ∙ eqb-true c.left.result.0 c.in-Some.left.0
    (not-false (eqb c.left.result.0 c.in-Some.left.0) (sym c.ne.ensures ∙ c.if-ne.false)) in
    let body = c.body.result.now in
    let kept : next_of c.push-in-loop-number.new.self.items ≡ known (reduces p) ∷ new
    = ap next_of c.in_ok-push-2.ensures.items ∙ kept_last ahead_from c.next_left.new.ahead.items (Known (Reduce p)) in
    let front : map ahead_of r.body ≡ map (λ x. ahead_of (symbol_of x)) body
    = ap (map ahead_of) (sym c.body.ensures) ∙ mapped_twice symbol_of ahead_of body in
    subst (λ w. IsUnderWay G rules behind w rest)
    (ap (λ w. w ++ known (reduces p) ∷ new) front ∙ ap (λ w. map (λ x. ahead_of (symbol_of x)) body ++ w) (sym kept)
    ∙ sym c.in_ok-push_body.ensures)
    (way_taken G rules behind c.in-Some.left.0 new p r rest is same way)

pub returns-in-None : goal.returns-in-None
returns-in-None c =
    let G = c.args.grammar.now in
    let rules = c.args.rules.now in
    let l = c.loop-number in
    let done = moves_from c.next_left-2.new.moves.items in
    let way = way_out G rules (next_of l.ahead.items) (next_of c.next_left-2.new.ahead.items)
    (moves_from l.moves.items) done c.in_ok-next_left.field-0 [] (subst
    (IsUnderWay G rules (moves_from l.moves.items) (next_of l.ahead.items))
    (drop_all l.number-index rules c.loop-number-test.false) l.invariant) c.in_ok-next_left.ensures c.in-None.is in
    (way_end G rules done way, only_moves G rules done way)

pub returns : goal.returns
returns c =
    let G = c.args.grammar.now in
    let rules = c.args.rules.now in
    let l = c.loop-number in
    let new = next_of c.next_left-2.new.ahead.items in
    let done = moves_from c.next_left-2.new.moves.items in
    way_short G rules done c.in-Some-2.field-0.0 new (way_on G rules (next_of l.ahead.items) new
    (moves_from l.moves.items) done c.in_ok-next_left.field-0 c.in-Some-2.field-0 [] (subst
    (IsUnderWay G rules (moves_from l.moves.items) (next_of l.ahead.items))
    (drop_all l.number-index rules c.loop-number-test.false) l.invariant) c.in_ok-next_left.ensures c.in-Some-2.is)
