use Rattle.std.proofs.Common.{◌++◌, ◌∙◌, [], ◌∷◌, List, sym, ap, arith, append_assoc, append-nil, map, take}
use Rattle.std.proofs.Common.{slice_index_or}
use Rattle.std.proofs.lemmas.List.{map-append, take_all}
use Rattle.ly_join.specs.Grammar.{symbol_of}
use Rattle.ly_lr0.specs.Automaton.{state_at}
use Rattle.ly_lr0.specs.Transitions.{transition_of}
use Rattle.ly_relate.specs.Private.Gotos.{goto_over, row_gotos}
use Rattle.ly_relate.specs.Related.{Goto}
use Rattle.ly_relate.specs.Values.{goto_from}
use Rattle.ly_relate.specs.declared.gotos.Goto as code
use Rattle.ly_relate.proofs.GotoLemmas.{nowhere, row_alone, row_step}
use Rattle.ly_relate.proofs.gotos.push_row.Goals as goal
use Rattle.ly_relate.proofs.gotos.push_row.Goals.{in-Nonterminal+in_ok-push, in_default}

pub loop-transition-preserved : goal.loop-transition-preserved
loop-transition-preserved c =
    let ts = c.gotos-transition-items.result.now in
    let i = c.loop-transition.transition-index in
    let s = c.args.from.0 in
    let old = map goto_from c.args.gotos.now.items in
    let row : List Goto = row_gotos s (map transition_of (take i ts)) in
    let t = slice_index_or ts i nowhere in
    let more = row_step s ts i c.loop-transition-test.true in
    elim c.match-transition.branch [
      | in-Nonterminal+in_ok-push w ↦
          let v : code.Goto = record { from = c.args.from; symbol = w.in-Nonterminal.symbol; target = t.target } in
          ap (λ g. map goto_from g.items) w.gotos-is
          ∙ ap (map goto_from) w.in_ok-push.ensures.items
          ∙ map-append goto_from c.loop-transition.gotos.items (v ∷ [])
          ∙ ap (λ xs. xs ++ goto_from v ∷ []) c.loop-transition.invariant
          ∙ append_assoc old row (goto_from v ∷ [])
          ∙ ap (λ xs. old ++ xs) (ap (λ X. row ++ goto_over s (symbol_of X) t.target.0) (sym w.in-Nonterminal.is)
          ∙ sym more)
      | in_default w ↦
          ap (λ g. map goto_from g.items) w.gotos-is ∙ c.loop-transition.invariant
          ∙ ap (λ xs. old ++ xs) (sym (append-nil row)
          ∙ ap (λ X. row ++ goto_over s (symbol_of X) t.target.0) (sym w.in_default.is) ∙ sym more)
    ]

pub returns : goal.returns
returns c =
    let s = c.args.from.0 in
    let items = c.gotos-transition-items.result.now in
    let past = c.loop-transition-test.false in
    let all = take_all c.loop-transition.transition-index items (omega (arith, past)) in
    c.loop-transition.invariant
    ∙ ap (λ xs. map goto_from c.args.gotos.now.items ++ xs) (ap (λ ts. row_gotos s (map transition_of ts)) all
    ∙ ap (row_gotos s) c.gotos-transition-items.ensures
    ∙ row_alone s (state_at c.args.lr0.now s).transitions)
