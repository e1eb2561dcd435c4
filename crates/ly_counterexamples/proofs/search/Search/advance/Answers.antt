use Rattle.std.proofs.Common.{◌≡◌, ◌<◌, ◌≤◌, ◌+◌, arith, length, subst, sym, refl, slice_get}
use Rattle.std.proofs.lemmas.Bool.{both_ways}
use Rattle.ly_counterexamples.specs.declared.search.Search.{Search}
use Rattle.ly_counterexamples.specs.Private.Searches.{IsUnderway}
use Rattle.ly_counterexamples.proofs.SearchLemmas.{same_first}
use Rattle.ly_counterexamples.proofs.UnderwayLemmas.{climbs_none, climbs_on, pops_none, pops_on}
use Rattle.ly_counterexamples.proofs.search.Search.advance.Goals.{then-may_serve+in_ok-climb, else-may_serve}
use Rattle.ly_counterexamples.proofs.search.Search.advance.Goals.{then-may_serve-2+in_ok-pop, else-may_serve-2}
use Rattle.ly_counterexamples.proofs.search.Search.advance.Goals as goal

pub returns-after-may_serve-clause-underway : goal.returns-after-may_serve-clause-underway
returns-after-may_serve-clause-underway c =
    let less : c.args.self.now.climbed < length c.args.self.now.found
    = omega (arith, c.if-self-len.true, c.len.ensures.count) in
    let P : Search → Type 0
    = λ s. IsUnderway c.args.sought.now (record s { climbed = c.args.self.now.climbed + 1 }) in
    elim c.if-may_serve.branch [
      | then-may_serve+in_ok-climb w ↦ subst P (sym w.self-is)
          (climbs_on c.args.sought.now c.args.self.now c.requires.underway w.climb.new.self w.in_ok-climb.ensures.on
          w.in_ok-climb.ensures.climbs less w.climb.ensures.popped)
      | else-may_serve w ↦ subst P (sym w.self-is) (climbs_none c.args.sought.now c.args.self.now c.requires.underway
          (λ none. both_ways c.may_serve.result w.if-may_serve.false (c.may_serve.ensures none)) less)
    ]

pub returns-after-may_serve-clause-first : goal.returns-after-may_serve-clause-first
returns-after-may_serve-clause-first c =
    let P : Search → Type 0 = λ s. slice_get s.found 0 ≡ slice_get c.args.self.now.found 0 in
    elim c.if-may_serve.branch [
      | then-may_serve+in_ok-climb w ↦ subst P (sym w.self-is)
          (same_first c.args.sought.now c.args.self.now.found c.args.self.now.links.items c.requires.underway.search
          w.climb.new.self.found w.climb.new.self.links.items w.in_ok-climb.ensures.on)
      | else-may_serve w ↦ subst P (sym w.self-is) refl
    ]

pub returns-after-may_serve-2-clause-underway : goal.returns-after-may_serve-2-clause-underway
returns-after-may_serve-2-clause-underway c =
    let past : length c.args.self.now.found ≤ c.args.self.now.climbed
    = omega (arith, c.if-self-len.false, c.len.ensures.count) in
    let P : Search → Type 0
    = λ s. IsUnderway c.args.sought.now (record s { popped = c.args.self.now.popped + 1 }) in
    elim c.if-may_serve-2.branch [
      | then-may_serve-2+in_ok-pop w ↦ subst P (sym w.self-is)
          (pops_on c.args.sought.now c.args.self.now c.requires.underway w.pop.new.self w.in_ok-pop.ensures.on
          w.in_ok-pop.ensures.pops w.pop.ensures.climbed w.pop.ensures.best past c.requires.left)
      | else-may_serve-2 w ↦ subst P (sym w.self-is) (pops_none c.args.sought.now c.args.self.now c.requires.underway
          (λ none. both_ways c.may_serve-else-self-len.result w.if-may_serve-2.false
          (c.may_serve-else-self-len.ensures none)) past
          c.requires.left)
    ]

pub returns-after-may_serve-2-clause-first : goal.returns-after-may_serve-2-clause-first
returns-after-may_serve-2-clause-first c =
    let P : Search → Type 0 = λ s. slice_get s.found 0 ≡ slice_get c.args.self.now.found 0 in
    elim c.if-may_serve-2.branch [
      | then-may_serve-2+in_ok-pop w ↦ subst P (sym w.self-is)
          (same_first c.args.sought.now c.args.self.now.found c.args.self.now.links.items c.requires.underway.search
          w.pop.new.self.found w.pop.new.self.links.items w.in_ok-pop.ensures.on)
      | else-may_serve-2 w ↦ subst P (sym w.self-is) refl
    ]
