use Rattle.std.proofs.Common.{◌≡◌, ◌<◌, ◌∙◌, ℕ, All, ap, arith, refl, subst, sym, Contains, length, Err}
use Rattle.std.specs.Prelude.{AllPairs, ◌↔◌}
use Rattle.std.proofs.lemmas.Result.{err_from_is_err_and}
use Rattle.ly_position.specs.Nfa.{Stepped}
use Rattle.ly_subset.specs.declared.fault.SubsetFault.TheVariants.{TooManyStates}
use Rattle.ly_subset.specs.Subsets.{set_at}
use Rattle.ly_subset.specs.Private.Found.{IsPast}
use Rattle.ly_subset.proofs.FoundLemmas.{both_ways, count_entered, entered_kept, entered_longer}
use Rattle.ly_subset.proofs.FoundLemmas.{past_row, row_found, stepped_same}
use Rattle.ly_subset.proofs.RuleLemmas.{set_within}
use Rattle.ly_subset.proofs.construct.SetSteps.row.Goals as goal

pub loop-byte-init : goal.loop-byte-init
loop-byte-init c = record {
  room = c.requires.room;
  found = c.requires.found;
  state = c.requires.state;
  from = c.in_ok-from.ensures;
  kept = refl;
  at = let next = c.requires.next in omega arith;
  longer = omega arith;
  starts = refl;
  limit = refl;
}

pub lead-requires-clause-from : goal.lead-requires-clause-from
lead-requires-clause-from c =
    let count = length c.args.self.nfa.now.positions in
    subst (λ ps. All (λ p. p < count) ps) (sym c.loop-byte.invariant.from)
    (set_within count c.args.found.now.keys c.args.state c.requires.found.kept.are_sets)

pub lead-requires-clause-rising : goal.lead-requires-clause-rising
lead-requires-clause-rising c = subst (λ ps. AllPairs (λ p q. p < q) ps)
    (sym c.loop-byte.invariant.from) (c.requires.found.kept.rising c.args.state c.requires.state)

pub returns-in_err-lead-clause-past : goal.returns-in_err-lead-clause-past
returns-in_err-lead-clause-past c = λ failed.
    let p = err_from_is_err_and c.from_residual-in_err-lead.result c.from_residual-in_err-lead.ensures.1 in
    let was = c.loop-byte.invariant in
    let nfa = c.args.self.nfa.now in
    let set = subst (λ xs. (q : ℕ) → Contains xs q ↔ Contains (set_at c.loop-byte.found.keys c.args.state) q)
    (was.kept ∙ sym was.from) (λ q. (λ h. h, λ h. h)) in
    let same : c.in_err-lead.field-0.0 ≡ TooManyStates = let a = p.1 in let b = p.2 in cc in
    let past = c.in_err-lead.ensures.full (ap (λ e. Err e) same) in
    subst (λ n. IsPast nfa n c.args.self.least.now c.args.found.now.limit) was.starts
    (subst (λ n. IsPast nfa c.loop-byte.found.starts c.args.self.least.now n) was.limit
    (past_row nfa c.args.self.least.now c.loop-byte.found past.members c.args.state c.loop-byte.byte-index was.found
    past.full was.state c.loop-byte-test.true
    (both_ways (Contains past.members) (Stepped nfa _ _) (Stepped nfa (set_at c.loop-byte.found.keys c.args.state) _)
    past.stepped (stepped_same nfa _ (set_at c.loop-byte.found.keys c.args.state) _ set))))

pub loop-byte-preserved : goal.loop-byte-preserved
loop-byte-preserved c =
    let nfa = c.args.self.nfa.now in
    let least = c.args.self.least.now in
    let was = c.loop-byte.invariant in
    let led = c.in_ok-lead.ensures.led in
    let members = led.members in
    let set = subst (λ xs. (q : ℕ) → Contains xs q ↔ Contains (set_at c.loop-byte.found.keys c.args.state) q)
    (was.kept ∙ sym was.from) (λ q. (λ h. h, λ h. h)) in
    let entered = led.entered in
    let more = count_entered nfa least c.loop-byte.found c.lead.new.found members was.found entered
    c.in_ok-lead.ensures.starts c.in_ok-lead.ensures.limit in
    let longer = entered_longer nfa least c.loop-byte.found c.lead.new.found members was.found entered
    c.in_ok-lead.ensures.starts c.in_ok-lead.ensures.limit in
    record {
      room = c.in_ok-lead.ensures.room;
      found = row_found nfa least c.loop-byte.found c.lead.new.found members was.found entered
          c.in_ok-lead.ensures.starts c.in_ok-lead.ensures.limit c.args.state c.loop-byte.byte-index
          c.in_ok-lead.ensures.kept was.state c.loop-byte-test.true was.at
          (both_ways (Contains members) (Stepped nfa _ _)
          (Stepped nfa (set_at c.loop-byte.found.keys c.args.state) _) led.stepped
          (stepped_same nfa _ (set_at c.loop-byte.found.keys c.args.state) _
          set));
      state = let less = was.state in omega (arith, longer);
      from = was.from;
      kept = entered_kept nfa least c.loop-byte.found c.lead.new.found members was.found entered
          c.in_ok-lead.ensures.starts c.in_ok-lead.ensures.limit c.args.state was.state ∙ was.kept;
      at = let at = was.at in let same = c.in_ok-lead.ensures.starts in omega (arith, more);
      longer = let before = was.longer in omega (arith, longer);
      starts = c.in_ok-lead.ensures.starts ∙ was.starts;
      limit = c.in_ok-lead.ensures.limit ∙ was.limit;
    }
