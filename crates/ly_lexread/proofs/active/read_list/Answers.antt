use Rattle.std.proofs.Common.{None, Some, [], ◌∷◌, ◌++◌, subst, sym}
use Rattle.std.proofs.lemmas.Bool.Decides.{Decides-eqb}
use Rattle.std.proofs.lemmas.Slice.Eq.{strip_prefix_is}
use Rattle.ly_base.proofs.GapLemmas.{at_none}
use Rattle.ly_lexread.specs.Rules.{Listed}
use Rattle.ly_lexread.proofs.ActiveLemmas.{listed_behind, listed_last, listed_more, none_listed, not_listed}
use Rattle.ly_lexread.proofs.active.read_list.Goals as goal

pub returns-in-Some-strip_prefix : goal.returns-in-Some-strip_prefix
returns-in-Some-strip_prefix c =
    let cs = c.args.conditions.now in
    let rest = c.in-Some-strip_prefix.rest.now in
    let here = strip_prefix_is Decides-eqb c.in-Some.behind.now (62 ∷ []) (Some c.in-Some-strip_prefix.rest)
    c.in-Some-strip_prefix.ensures.cases in
    rw c.in_ok-push.ensures.items
    (c.loop-number.invariant.sound (c.loop-number.numbers.items ++ c.in-Some.number ∷ []) rest
    (listed_last cs c.loop-number.numbers.items c.loop-number.left.now c.in-Some.behind.now rest c.in-Some.number
    c.in-Some.ensures.these here))

pub returns-in_default-strip_prefix-2 : goal.returns-in_default-strip_prefix-2
returns-in_default-strip_prefix-2 c = λ all rest h.
    not_listed c.args.conditions.now c.loop-number.numbers.items c.loop-number.left.now c.in-Some.behind.now all rest
    c.in-Some.number c.in-Some.ensures.these
    (strip_prefix_is Decides-eqb c.in-Some.behind.now (62 ∷ []) None c.in_default-strip_prefix.ensures.cases)
    (strip_prefix_is Decides-eqb c.in-Some.behind.now (44 ∷ []) None c.in_default-strip_prefix-2.ensures.cases)
    (c.loop-number.invariant.complete all rest h)

pub loop-number-preserved : goal.loop-number-preserved
loop-number-preserved c =
    let cs = c.args.conditions.now in
    let ns = c.loop-number.numbers.items in
    let left = c.loop-number.left.now in
    let behind = c.in-Some.behind.now in
    let n = c.in-Some.number in
    let u = c.in-Some-strip_prefix-2.more.now in
    let here = strip_prefix_is Decides-eqb behind (44 ∷ []) (Some c.in-Some-strip_prefix-2.more)
    c.in-Some-strip_prefix-2.ensures.cases in
    record {
      sound = λ all rest h. c.loop-number.invariant.sound all rest
          (listed_more cs ns left behind all rest n c.in-Some.ensures.these u here
          (subst (λ i. Listed cs i u all rest) c.in_ok-push.ensures.items h));
      complete = λ all rest h. subst (λ i. Listed cs i u all rest) (sym c.in_ok-push.ensures.items)
          (listed_behind cs ns left behind all rest n c.in-Some.ensures.these u here
          (c.loop-number.invariant.complete all rest h));
    }

pub returns : goal.returns
returns c = λ all rest h. none_listed c.args.conditions.now c.loop-number.numbers.items c.loop-number.left.now all rest
    (at_none c.leading_condition.result _ _ c.in_default.not-Some c.leading_condition.ensures.these)
    (c.loop-number.invariant.complete all rest h)
