use Rattle.std.proofs.Common.{rules, ◌≡◌, ◌<◌, ◌≤◌, ◌∙◌, Some, option_map, ap, arith, length, map, sym, slice_index_or}
use Rattle.std.specs.Prelude.{slice_get}
use Rattle.ly_join.specs.Grammar.{symbol_of}
use Rattle.ly_lr0.specs.Automaton.{target_of}
use Rattle.ly_lr0.specs.Transitions.{transition_of}
use Rattle.ly_lr0.proofs.GotoLemmas.{leads_at, leads_nowhere}
use Rattle.ly_lr0.proofs.GroupLemmas.{symbol_one}
use Rattle.std.proofs.lemmas.Option.{slice_get-get_or}
use Rattle.ly_lr0.proofs.lr0.target_at.Goals as goal

pub returns-in_err-transition-clause-target : goal.returns-in_err-transition-clause-target
returns-in_err-transition-clause-target c =
    let ts = c.args.transitions.now in
    let X = symbol_of c.args.symbol in
    let past : length ts ≤ c.args.place = let look = c.in_err-transition.ensures.lookup in look.3 in
    ap (option_map (λ s. s.0)) c.from_residual.ensures ∙ sym (leads_nowhere ts c.requires.ordered X c.args.place
    (record { symbol = c.args.symbol; target = record { 0 = 0 } }) c.requires.place (λ l same. omega (arith, l, past)))

pub returns-then-eq-clause-target : goal.returns-then-eq-clause-target
returns-then-eq-clause-target c =
    let ts = c.args.transitions.now in
    let t = c.in_ok-transition.transition.now in
    let look = c.in_ok-transition.ensures.lookup in
    let inside : c.args.place < length ts = look.3.0 in
    let there : slice_get ts c.args.place ≡ Some t =
    slice_get-get_or ts c.args.place t inside ∙ ap (λ x. Some x) (sym (look.3.1 t)) in
    let same : t.symbol ≡ c.args.symbol = search rules in
    sym (leads_at ts c.requires.ordered c.args.place t there)
    ∙ ap (λ s. target_of (map transition_of ts) (symbol_of s)) same

pub returns-else-eq-clause-target : goal.returns-else-eq-clause-target
returns-else-eq-clause-target c =
    let ts = c.args.transitions.now in
    let t = c.in_ok-transition.transition.now in
    let look = c.in_ok-transition.ensures.lookup in
    let here : t ≡ slice_index_or ts c.args.place t = look.3.1 t in
    let other : t.symbol ≡ c.args.symbol → ⊥ = search rules in
    sym (leads_nowhere ts c.requires.ordered (symbol_of c.args.symbol) c.args.place t c.requires.place
    (λ l same. other (symbol_one t.symbol c.args.symbol (ap (λ u. symbol_of u.symbol) here ∙ same))))
