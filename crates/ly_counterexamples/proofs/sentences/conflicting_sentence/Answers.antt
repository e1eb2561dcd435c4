use Rattle.std.proofs.Common.{◌≡◌, ◌∙◌, ℕ, List, Option, ap, false, nat_eq, subst, sym, true}
use Rattle.std.proofs.lemmas.Bool.{not-false, not-true}
use Rattle.std.specs.Cmp.Derive.Mapped.{pointwise-map}
use Rattle.std.specs.Cmp.Lexicographic.{other_text, pointwise, same_text}
use Rattle.std.specs.Global.{Vec}
use Rattle.std.specs.Prelude.{MatchOption}
use Rattle.ly_join.specs.Grammar.{Grammar}
use Rattle.ly_resolve.specs.Values.{conflict_from}
use Rattle.ly_counterexamples.specs.declared.moves.Move.{Move}
use Rattle.ly_counterexamples.specs.Moves.{shifted}
use Rattle.ly_counterexamples.specs.Sentences.{numbers_of}
use Rattle.ly_counterexamples.specs.Private.Leftmost.{AreOfNone, AreOnlyMoves, moves_from}
use Rattle.ly_counterexamples.proofs.AmbiguousLemmas.{ambiguous, none_apart, none_by_one, none_by_other, none_takes}
use Rattle.ly_counterexamples.proofs.AmbiguousLemmas.{same_shifted}
use Rattle.ly_counterexamples.proofs.AmbiguousLemmas.{with_end}
use Rattle.ly_counterexamples.proofs.sentences.conflicting_sentence.Goals as goal

-- what is answered of the rules of a tree
abbrev IsAnswered : Grammar → List ℕ → Option (Vec Move) → Type 0
IsAnswered G rules o = MatchOption o (AreOfNone G rules) (λ moves. AreOnlyMoves G rules (moves_from moves.items))

pub returns-in_default : goal.returns-in_default
returns-in_default c =
    let r = c.args.resolved.now in
    let d = conflict_from r.automaton c.args.conflict.now in
    let one = c.args.one.now in
    let other = c.args.other.now in
    let G : c.grammar-grammar.result.now ≡ r.spec.grammar
    = c.grammar-grammar.ensures.grammar ∙ ap (λ s. s.grammar) c.spec.ensures.these in
    none_by_one r d one other (subst (λ g. AreOfNone g one) G
    (subst (IsAnswered c.grammar-grammar.result.now one) c.in_default.is c.in_ok-first.ensures))

pub returns-in_default-2 : goal.returns-in_default-2
returns-in_default-2 c =
    let r = c.args.resolved.now in
    let d = conflict_from r.automaton c.args.conflict.now in
    let one = c.args.one.now in
    let other = c.args.other.now in
    let G : c.grammar-grammar.result.now ≡ r.spec.grammar
    = c.grammar-grammar.ensures.grammar ∙ ap (λ s. s.grammar) c.spec.ensures.these in
    none_by_other r d one other (subst (λ g. AreOfNone g other) G
    (subst (IsAnswered c.grammar-grammar.result.now other) c.in_default-2.is c.in_ok-second.ensures))

pub returns-then-ne : goal.returns-then-ne
returns-then-ne c =
    let r = c.args.resolved.now in
    let d = conflict_from r.automaton c.args.conflict.now in
    let one = c.args.one.now in
    let other = c.args.other.now in
    let G : c.grammar-grammar.result.now ≡ r.spec.grammar
    = c.grammar-grammar.ensures.grammar ∙ ap (λ s. s.grammar) c.spec.ensures.these in
    let xs = c.in-Some.first.items in
    let ys = c.in-Some-2.second.items in
    let first = subst (λ g. AreOnlyMoves g one (moves_from xs)) G
    (subst (IsAnswered c.grammar-grammar.result.now one) c.in-Some.is c.in_ok-first.ensures) in
    let second = subst (λ g. AreOnlyMoves g other (moves_from ys)) G
    (subst (IsAnswered c.grammar-grammar.result.now other) c.in-Some-2.is c.in_ok-second.ensures) in
    let sentence = c.in_ok-sentence.sentence.items in
    let again = c.in_ok-shifted.field-0.items in
    let is : numbers_of sentence ≡ shifted (moves_from xs)
    = c.in_ok-sentence.ensures ∙ ap (λ ms. shifted (moves_from ms)) c.deref.ensures.value in
    let too : numbers_of again ≡ shifted (moves_from ys)
    = c.in_ok-shifted.ensures ∙ ap (λ ms. shifted (moves_from ms)) c.deref-2.ensures.value in
    let differ : false ≡ pointwise nat_eq (numbers_of again) (numbers_of sentence)
    = sym (not-true _ (sym c.ne.ensures ∙ c.if-ne.true)) ∙ sym (pointwise-map (λ t. t.0) nat_eq again sentence) in
    none_apart r d one other (moves_from xs) (moves_from ys) first second
    (λ e. other_text (numbers_of again) (numbers_of sentence) differ (too ∙ sym e ∙ sym is))

pub take_both-requires-clause-same : goal.take_both-requires-clause-same
take_both-requires-clause-same c =
    let r = c.args.resolved.now in
    let d = conflict_from r.automaton c.args.conflict.now in
    let one = c.args.one.now in
    let other = c.args.other.now in
    let G : c.grammar-grammar.result.now ≡ r.spec.grammar
    = c.grammar-grammar.ensures.grammar ∙ ap (λ s. s.grammar) c.spec.ensures.these in
    let xs = c.in-Some.first.items in
    let ys = c.in-Some-2.second.items in
    let first = subst (λ g. AreOnlyMoves g one (moves_from xs)) G
    (subst (IsAnswered c.grammar-grammar.result.now one) c.in-Some.is c.in_ok-first.ensures) in
    let second = subst (λ g. AreOnlyMoves g other (moves_from ys)) G
    (subst (IsAnswered c.grammar-grammar.result.now other) c.in-Some-2.is c.in_ok-second.ensures) in
    let sentence = c.in_ok-sentence.sentence.items in
    let again = c.in_ok-shifted.field-0.items in
    let is : numbers_of sentence ≡ shifted (moves_from xs)
    = c.in_ok-sentence.ensures ∙ ap (λ ms. shifted (moves_from ms)) c.deref.ensures.value in
    let too : numbers_of again ≡ shifted (moves_from ys)
    = c.in_ok-shifted.ensures ∙ ap (λ ms. shifted (moves_from ms)) c.deref-2.ensures.value in
    let equal : numbers_of again ≡ numbers_of sentence
    = same_text (numbers_of again) (numbers_of sentence)
    (sym (not-false _ (sym c.ne.ensures ∙ c.if-ne.false)) ∙ sym (pointwise-map (λ t. t.0) nat_eq again sentence)) in
    let us = c.deref-3.result.now in
    let vs = c.deref-4.result.now in
    let us_are = c.deref-3.ensures.value ∙ c.in_ok-push.ensures.items in
    let vs_are = c.deref-4.ensures.value ∙ c.in_ok-push-2.ensures.items in
    same_shifted xs ys us vs (sym is ∙ sym equal ∙ too) us_are vs_are

pub returns-then-not-branch : goal.returns-then-not-branch
returns-then-not-branch c =
    let r = c.args.resolved.now in
    let d = conflict_from r.automaton c.args.conflict.now in
    let one = c.args.one.now in
    let other = c.args.other.now in
    let G : c.grammar-grammar.result.now ≡ r.spec.grammar
    = c.grammar-grammar.ensures.grammar ∙ ap (λ s. s.grammar) c.spec.ensures.these in
    let xs = c.in-Some.first.items in
    let ys = c.in-Some-2.second.items in
    let first = subst (λ g. AreOnlyMoves g one (moves_from xs)) G
    (subst (IsAnswered c.grammar-grammar.result.now one) c.in-Some.is c.in_ok-first.ensures) in
    let second = subst (λ g. AreOnlyMoves g other (moves_from ys)) G
    (subst (IsAnswered c.grammar-grammar.result.now other) c.in-Some-2.is c.in_ok-second.ensures) in
    let sentence = c.in_ok-sentence.sentence.items in
    let again = c.in_ok-shifted.field-0.items in
    let is : numbers_of sentence ≡ shifted (moves_from xs)
    = c.in_ok-sentence.ensures ∙ ap (λ ms. shifted (moves_from ms)) c.deref.ensures.value in
    let too : numbers_of again ≡ shifted (moves_from ys)
    = c.in_ok-shifted.ensures ∙ ap (λ ms. shifted (moves_from ms)) c.deref-2.ensures.value in
    let us = c.deref-3.result.now in
    let vs = c.deref-4.result.now in
    let us_are = c.deref-3.ensures.value ∙ c.in_ok-push.ensures.items in
    let vs_are = c.deref-4.ensures.value ∙ c.in_ok-push-2.ensures.items in
    none_takes r d one other (moves_from xs) (moves_from ys) first second (moves_from us) (moves_from vs)
    (with_end xs us us_are) (with_end ys vs vs_are)
    (λ t. let off : false ≡ true = sym c.if-not-branch.true ∙ c.in_ok-take_both.ensures.1 t in absurd (cc))

pub returns : goal.returns
returns c =
    let r = c.args.resolved.now in
    let d = conflict_from r.automaton c.args.conflict.now in
    let one = c.args.one.now in
    let other = c.args.other.now in
    let G : c.grammar-grammar.result.now ≡ r.spec.grammar
    = c.grammar-grammar.ensures.grammar ∙ ap (λ s. s.grammar) c.spec.ensures.these in
    let xs = c.in-Some.first.items in
    let ys = c.in-Some-2.second.items in
    let first = subst (λ g. AreOnlyMoves g one (moves_from xs)) G
    (subst (IsAnswered c.grammar-grammar.result.now one) c.in-Some.is c.in_ok-first.ensures) in
    let second = subst (λ g. AreOnlyMoves g other (moves_from ys)) G
    (subst (IsAnswered c.grammar-grammar.result.now other) c.in-Some-2.is c.in_ok-second.ensures) in
    let sentence = c.in_ok-sentence.sentence.items in
    let again = c.in_ok-shifted.field-0.items in
    let is : numbers_of sentence ≡ shifted (moves_from xs)
    = c.in_ok-sentence.ensures ∙ ap (λ ms. shifted (moves_from ms)) c.deref.ensures.value in
    let too : numbers_of again ≡ shifted (moves_from ys)
    = c.in_ok-shifted.ensures ∙ ap (λ ms. shifted (moves_from ms)) c.deref-2.ensures.value in
    let equal : numbers_of again ≡ numbers_of sentence
    = same_text (numbers_of again) (numbers_of sentence)
    (sym (not-false _ (sym c.ne.ensures ∙ c.if-ne.false)) ∙ sym (pointwise-map (λ t. t.0) nat_eq again sentence)) in
    let us = c.deref-3.result.now in
    let vs = c.deref-4.result.now in
    let us_are = c.deref-3.ensures.value ∙ c.in_ok-push.ensures.items in
    let vs_are = c.deref-4.ensures.value ∙ c.in_ok-push-2.ensures.items in
    ambiguous r d one other (moves_from xs) (moves_from ys) first second (moves_from us) (moves_from vs)
    (with_end xs us us_are) (with_end ys vs vs_are) (numbers_of sentence) is (sym too ∙ equal ∙ is)
    (c.in_ok-take_both.ensures.0 c.if-not-branch.false)
