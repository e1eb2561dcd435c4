use Rattle.std.proofs.Common.{◌∙◌, ◌+◌, ap, option_map, refl, slice_index_or, sym, take}
use Rattle.ly_join.specs.declared.symbol.Symbol as code
use Rattle.ly_join.specs.declared.symbol.Symbol.TheVariants.{Terminal}
use Rattle.ly_lr0.proofs.LawLemmas.{reached_within}
use Rattle.ly_counterexamples.specs.Private.Parses.{string_of}
use Rattle.ly_counterexamples.proofs.ParseLemmas.{reach_more, reach_stops}
use Rattle.ly_counterexamples.proofs.parses.state_behind.Goals as goal

-- what stands where no symbol does
abbrev no_symbol : code.Symbol
no_symbol = Terminal (record { 0 = 0 })

pub returns-in_err-state : goal.returns-in_err-state
returns-in_err-state c =
    let string = c.args.string.now in
    let n = c.loop-symbol.symbol-index in
    rw c.from_residual.ensures
    (reach_stops c.args.lr0.now string n no_symbol (slice_index_or string n no_symbol) c.loop-symbol.state.0
    c.loop-symbol-test.true refl c.loop-symbol.invariant.leads
    (sym c.goto.ensures ∙ ap (option_map (λ s. s.0)) c.in_err-state.was))

pub loop-symbol-preserved : goal.loop-symbol-preserved
loop-symbol-preserved c =
    let M = c.args.lr0.now in
    let string = c.args.string.now in
    let n = c.loop-symbol.symbol-index in
    let t = c.in_ok-state.state.0 in
    let leads = reach_more M string n no_symbol (slice_index_or string n no_symbol) c.loop-symbol.state.0 t
    c.loop-symbol-test.true refl c.loop-symbol.invariant.leads
    (sym c.goto.ensures ∙ ap (option_map (λ s. s.0)) c.in_ok-state.was) in
    record { inside = reached_within M c.requires (string_of (take (n + 1) string)) t leads; leads = leads }
