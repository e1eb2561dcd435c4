use Rattle.std.proofs.Common.{◌≡◌, ◌<◌, subst, sym, ◌∙◌, arith, length, map, slice_index_or, true, false, List}
use Rattle.std.proofs.Math.ListN.{get_or-map}
use Rattle.std.proofs.lemmas.List.{length-map}
use Rattle.std.proofs.lemmas.Option.{get_or_from_slice_get, slice_get_within}
use Rattle.ly_join.specs.Grammar.{symbol_of}
use Rattle.ly_join.specs.declared.symbol.Symbol.{Symbol}
use Rattle.ly_join.specs.declared.symbol.Symbol.TheVariants.{Terminal}
use Rattle.ly_grammar.specs.Private.Search.{passes, HasNumberBelow}
use Rattle.ly_grammar.proofs.PassLemmas.{pass_more}
use Rattle.ly_grammar.proofs.search.passing_until.Goals as goal

-- what stands where no symbol does
abbrev nowhere : Symbol
nowhere = Terminal (record { 0 = 0 })

-- a place of the body is one of its symbols as they are shown
within_map : (body : List Symbol) (at : _) → at < length body → at < length (map symbol_of body)
within_map body at lt = subst (λ n. at < n) (sym (length-map body symbol_of)) lt

pub symbol_passes-requires : goal.symbol_passes-requires
symbol_passes-requires c =
    let body = c.args.body.now in
    subst (HasNumberBelow (length c.args.found.now)) (get_or-map symbol_of body c.loop-at.at nowhere)
    (c.requires.numbered c.loop-at.at (symbol_of nowhere) (within_map body c.loop-at.at c.loop-at-test.true))

pub loop-at-preserved : goal.loop-at-preserved
loop-at-preserved c =
    let body = c.args.body.now in
    let at = c.loop-at.at in
    let lt = c.loop-at-test.true in
    let here : passes c.args.found.now c.args.terminals (slice_index_or (map symbol_of body) at (symbol_of nowhere))
    ≡ true
    = subst (λ X. passes c.args.found.now c.args.terminals X ≡ true) (sym (get_or-map symbol_of body at nowhere))
    (sym c.symbol_passes.ensures ∙ c.if-symbol_passes.true) in
    record {
      within = omega (arith, lt);
      passing = λ before. pass_more c.args.found.now c.args.terminals (map symbol_of body) at (symbol_of nowhere)
          (within_map body at lt) (c.loop-at.invariant.passing before) here;
    }

pub returns-else-symbol_passes-clause-stops : goal.returns-else-symbol_passes-clause-stops
returns-else-symbol_passes-clause-stops c X here =
    let body = c.args.body.now in
    let at = c.loop-at.at in
    let same : X ≡ symbol_of (slice_index_or body at nowhere)
    = sym (get_or_from_slice_get (map symbol_of body) at X (symbol_of nowhere) here)
    ∙ get_or-map symbol_of body at nowhere in
    subst (λ Y. passes c.args.found.now c.args.terminals Y ≡ false) (sym same)
    (sym c.symbol_passes.ensures ∙ c.if-symbol_passes.false)

pub returns-after-loop-at-clause-stops : goal.returns-after-loop-at-clause-stops
returns-after-loop-at-clause-stops c X here =
    let body = c.args.body.now in
    let at = c.loop-at.at in
    let lt : at < length (map symbol_of body) = slice_get_within (map symbol_of body) at X here in
    let within : at < length body = subst (λ n. at < n) (length-map body symbol_of) lt in
    absurd (omega (arith, within, c.loop-at-test.false))
