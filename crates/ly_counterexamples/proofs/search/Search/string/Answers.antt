use Rattle.std.proofs.Common.{◌≡◌, ◌<◌, ◌-◌, ◌∙◌, ap, arith, length, subst, sym, option_map}
use Rattle.std.proofs.lemmas.Option.{slice_get_within}
use Rattle.ly_join.specs.Grammar.{symbol_of}
use Rattle.ly_lr0.specs.Automaton.{prefix_of}
use Rattle.ly_counterexamples.specs.Private.Met.{IsMet}
use Rattle.ly_counterexamples.specs.Private.Searches.{automaton_of}
use Rattle.ly_counterexamples.proofs.StepLemmas.{with_popped}
use Rattle.ly_counterexamples.proofs.UnderwayLemmas.{from_before, met_before, prefix_meets, read_at, state_within, told}
use Rattle.ly_counterexamples.proofs.UnderwayLemmas.{told_more, told_turned}
use Rattle.ly_counterexamples.proofs.search.Search.string.Goals as goal

pub prefix-requires : goal.prefix-requires
prefix-requires c = state_within c.args.sought.now c.args.self.now.found c.args.self.now.links.items
    c.requires.underway.search c.args.place c.at.result c.at.ensures

pub loop-place-init : goal.loop-place-init
loop-place-init c =
    let M = automaton_of c.args.sought.now in
    let g = c.in_ok-string.string.items in
    let turned : told c.reverse.new.self.items ≡ prefix_of M c.at.result.state.0
    = ap told c.reverse.ensures.items ∙ told_turned g ∙ c.in_ok-string.ensures in (
      c.at.result,
      c.at.ensures,
      subst (λ h. IsMet M c.args.sought.now.terminal.0 h c.at.result) (sym turned)
          (prefix_meets c.args.sought.now c.args.self.now c.args.place c.requires.underway c.requires.best c.at.result
          c.at.ensures),
    )

pub index-link-requires : goal.index-link-requires
index-link-requires c =
    let found = c.args.self.now.found in
    let within = slice_get_within found c.loop-place.place c.loop-place.invariant.0 c.loop-place.invariant.1 in
    omega (
      arith,
      c.loop-place-test.true,
      within,
      c.requires.underway.search.count,
      c.args.self.now.links.ok.0,
    )

pub loop-place-smaller-in_ok-push : goal.loop-place-smaller-in_ok-push
loop-place-smaller-in_ok-push c =
    let s = c.args.self.now in
    let k = c.loop-place.place - 1 in
    let i = c.loop-place.invariant in
    let within = slice_get_within s.found c.loop-place.place i.0 i.1 in
    let less : k < length s.links.items
    = omega (arith, c.loop-place-test.true, within, c.requires.underway.search.count) in
    let l = c.index-link.result.now in
    from_before c.args.sought.now s.found s.links.items c.requires.underway.search c.loop-place.place l
    c.loop-place-test.true (read_at s.links.items k l l less c.index-link.ensures)

pub loop-place-preserved-in_ok-push : goal.loop-place-preserved-in_ok-push
loop-place-preserved-in_ok-push c =
    let s = c.args.self.now in
    let w = c.args.sought.now in
    let k = c.loop-place.place - 1 in
    let i = c.loop-place.invariant in
    let within = slice_get_within s.found c.loop-place.place i.0 i.1 in
    let less : k < length s.links.items
    = omega (arith, c.loop-place-test.true, within, c.requires.underway.search.count) in
    let l = c.index-link.result.now in
    let met = met_before w s.found s.links.items c.requires.underway.search c.loop-place.place l
    c.loop-place-test.true (read_at s.links.items k l l less c.index-link.ensures) i.0
    (told c.loop-place.string.items) i.1 i.2 in
    let more : with_popped (option_map symbol_of l.symbol) (told c.loop-place.string.items) ≡ told c.push.new.self.items
    = ap (λ o. with_popped (option_map symbol_of o) (told c.loop-place.string.items)) c.in-Some.is
    ∙ sym (told_more c.loop-place.string.items c.in-Some.symbol) ∙ ap told (sym c.in_ok-push.ensures.items) in
    (met.0, met.1, subst (λ h. IsMet (automaton_of w) w.terminal.0 h met.0) more met.2)

pub loop-place-smaller : goal.loop-place-smaller
loop-place-smaller c =
    let s = c.args.self.now in
    let k = c.loop-place.place - 1 in
    let i = c.loop-place.invariant in
    let within = slice_get_within s.found c.loop-place.place i.0 i.1 in
    let less : k < length s.links.items
    = omega (arith, c.loop-place-test.true, within, c.requires.underway.search.count) in
    let l = c.index-link.result.now in
    from_before c.args.sought.now s.found s.links.items c.requires.underway.search c.loop-place.place l
    c.loop-place-test.true (read_at s.links.items k l l less c.index-link.ensures)

pub loop-place-preserved : goal.loop-place-preserved
loop-place-preserved c =
    let s = c.args.self.now in
    let w = c.args.sought.now in
    let k = c.loop-place.place - 1 in
    let i = c.loop-place.invariant in
    let within = slice_get_within s.found c.loop-place.place i.0 i.1 in
    let less : k < length s.links.items
    = omega (arith, c.loop-place-test.true, within, c.requires.underway.search.count) in
    let l = c.index-link.result.now in
    let met = met_before w s.found s.links.items c.requires.underway.search c.loop-place.place l
    c.loop-place-test.true (read_at s.links.items k l l less c.index-link.ensures) i.0
    (told c.loop-place.string.items) i.1 i.2 in
    let same : with_popped (option_map symbol_of l.symbol) (told c.loop-place.string.items)
    ≡ told c.loop-place.string.items
    = ap (λ o. with_popped (option_map symbol_of o) (told c.loop-place.string.items)) c.in_default.is in
    (met.0, met.1, subst (λ h. IsMet (automaton_of w) w.terminal.0 h met.0) same met.2)
