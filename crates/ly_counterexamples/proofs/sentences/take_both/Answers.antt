use Rattle.std.proofs.Common.{◌≡◌, ◌∙◌, ◌-◌, ◌∷◌, [], List, Option, Some, ap, arith, drop, eqb, false, length}
use Rattle.std.proofs.Common.{not, option_map, refl, subst, sym, take, true}
use Rattle.std.proofs.lemmas.Bool.{both_ways, eq-eqb, eqb-true, iff_false, not-false}
use Rattle.std.proofs.lemmas.List.{length-drop, take-map, take_all}
use Rattle.std.proofs.lemmas.Option.{slice_get-get_or}
use Rattle.std.specs.Global.{Vec}
use Rattle.std.specs.List.{drop-map}
use Rattle.std.specs.Prelude.{MatchOption}
use Rattle.ly_base.specs.declared.numbers.StateNo.{StateNo}
use Rattle.ly_join.specs.Grammar.{Grammar}
use Rattle.ly_join.specs.declared.symbol.Symbol.{Symbol}
use Rattle.ly_lr0.specs.Automaton.{IsLr0Automaton, Lr0Automaton, Reaches, goto_of}
use Rattle.ly_counterexamples.specs.Moves.{Lead, Move, shifted}
use Rattle.ly_counterexamples.specs.Private.Leftmost.{move_from, moves_from}
use Rattle.ly_counterexamples.specs.Private.Parses.{IsNext, LeadNowhere, ReachesNone, string_of}
use Rattle.ly_counterexamples.proofs.BothLemmas.{are_both, is_one, is_other, lead_there, next_is, reaches_one}
use Rattle.ly_counterexamples.proofs.BothLemmas.{reaches_some}
use Rattle.ly_counterexamples.proofs.BothLemmas.{take_them}
use Rattle.ly_counterexamples.proofs.sentences.take_both.Goals as goal

-- what is answered of the string behind moves
abbrev IsBehind : Grammar → List Move → Option (Vec Symbol) → Type 0
IsBehind G moves o = MatchOption o (LeadNowhere G [] moves) (λ string. Lead G [] moves (string_of string.items))

-- and of the state behind a string
abbrev IsStateBehind : Lr0Automaton → List Symbol → Option StateNo → Type 0
IsStateBehind M string o = MatchOption o (ReachesNone M (string_of string))
    (λ s. Reaches (goto_of M) 0 (string_of string) s.0)

pub returns-in_default : goal.returns-in_default
returns-in_default c =
    let r = c.args.resolved.now in
    let conflict = c.args.conflict.now in
    let one = c.args.one.now in
    let other = c.args.other.now in
    let n = c.shared_length-shared.result in
    let told = c.shared_length-shared.ensures in
    let lawful = subst IsLr0Automaton c.lr0-lr0.ensures.these c.states-states.ensures.lawful in (
      λ yes. absurd (both_ways false refl yes),
      λ t. absurd (is_one r lawful conflict c.requires.inside one other n
          told.same told.within told.apart t (omega (arith, c.in_default.ensures.lookup))),
    )

pub returns-in_default-get : goal.returns-in_default-get
returns-in_default-get c =
    let r = c.args.resolved.now in
    let conflict = c.args.conflict.now in
    let one = c.args.one.now in
    let other = c.args.other.now in
    let n = c.shared_length-shared.result in
    let told = c.shared_length-shared.ensures in
    let lawful = subst IsLr0Automaton c.lr0-lr0.ensures.these c.states-states.ensures.lawful in (
      λ yes. absurd (both_ways false refl yes),
      λ t. absurd (is_other r lawful conflict c.requires.inside one other n
          told.same told.within told.apart t (omega (arith, c.in_default-get.ensures.lookup))),
    )

pub returns-then-not-are_actions : goal.returns-then-not-are_actions
returns-then-not-are_actions c =
    let r = c.args.resolved.now in
    let conflict = c.args.conflict.now in
    let one = c.args.one.now in
    let other = c.args.other.now in
    let n = c.shared_length-shared.result in
    let told = c.shared_length-shared.ensures in
    let lawful = subst IsLr0Automaton c.lr0-lr0.ensures.these c.states-states.ensures.lawful in (
      λ yes. absurd (both_ways false refl yes),
      λ t. absurd (iff_false c.are_actions.ensures c.if-not-are_actions.true
          (are_both r lawful conflict c.requires.inside one other n told.same told.within told.apart t
          c.in-Some.first.now c.in-Some-get.second.now
          (slice_get-get_or one n c.in-Some.first.now c.in-Some.ensures.lookup.3.0 ∙ ap Some (sym
          c.in-Some.ensures.lookup.1))
          (slice_get-get_or other n c.in-Some-get.second.now c.in-Some-get.ensures.lookup.3.0
          ∙ ap Some (sym c.in-Some-get.ensures.lookup.1)))),
    )

pub returns-in_default-next_shifted : goal.returns-in_default-next_shifted
returns-in_default-next_shifted c =
    let r = c.args.resolved.now in
    let conflict = c.args.conflict.now in
    let one = c.args.one.now in
    let other = c.args.other.now in
    let n = c.shared_length-shared.result in
    let told = c.shared_length-shared.ensures in
    let lawful = subst IsLr0Automaton c.lr0-lr0.ensures.these c.states-states.ensures.lawful in
    let rest : drop n (moves_from one) ≡ moves_from (take (length one - n) (drop n one))
    = drop-map move_from n one ∙ ap moves_from (sym (take_all (length one - n) (drop n one) (omega (
      arith,
      length-drop n one,
    )))) in
    let none : shifted (moves_from (take (length one - n) (drop n one))) ≡ []
    = subst (λ o. IsNext (moves_from (take (length one - n) (drop n one))) (option_map (λ t. t.0) o))
    c.in_default-next_shifted.is
    c.next_shifted.ensures in (
      λ yes. absurd (both_ways false refl yes),
      λ t. absurd
          (let off : [] ≡ conflict.terminal.0 ∷ t.left
          = sym none ∙ ap shifted (sym rest) ∙ next_is r lawful conflict c.requires.inside one other n told.same
          told.within told.apart t in
          cc),
    )

pub returns-then-ne : goal.returns-then-ne
returns-then-ne c =
    let r = c.args.resolved.now in
    let conflict = c.args.conflict.now in
    let one = c.args.one.now in
    let other = c.args.other.now in
    let n = c.shared_length-shared.result in
    let told = c.shared_length-shared.ensures in
    let lawful = subst IsLr0Automaton c.lr0-lr0.ensures.these c.states-states.ensures.lawful in
    let rest : drop n (moves_from one) ≡ moves_from (take (length one - n) (drop n one))
    = drop-map move_from n one ∙ ap moves_from (sym (take_all (length one - n) (drop n one) (omega (
      arith,
      length-drop n one,
    )))) in
    let next = c.in-Some-next_shifted.next in
    let it = subst (λ o. IsNext (moves_from (take (length one - n) (drop n one))) (option_map (λ t. t.0) o))
    c.in-Some-next_shifted.is
    c.next_shifted.ensures in
    let differ : not (eqb next.0 conflict.terminal.0) ≡ true = sym c.ne.ensures ∙ c.if-ne.true in (
      λ yes. absurd (both_ways false refl yes),
      λ t. absurd
          (let one : next.0 ∷ it.0 ≡ conflict.terminal.0 ∷ t.left
          = sym it.1 ∙ ap shifted (sym rest) ∙ next_is r lawful conflict c.requires.inside c.args.one.now other n
          told.same told.within told.apart t in
          let same : next.0 ≡ conflict.terminal.0 = cc in
          let off = ap not (eq-eqb next.0 conflict.terminal.0 same) in
          cc),
    )

pub returns-in_default-2 : goal.returns-in_default-2
returns-in_default-2 c =
    let r = c.args.resolved.now in
    let conflict = c.args.conflict.now in
    let one = c.args.one.now in
    let other = c.args.other.now in
    let n = c.shared_length-shared.result in
    let told = c.shared_length-shared.ensures in
    let lawful = subst IsLr0Automaton c.lr0-lr0.ensures.these c.states-states.ensures.lawful in
    let front : take n (moves_from one) ≡ moves_from (take n one)
    = take-map move_from n one in
    let G : c.grammar-grammar.result.now ≡ r.spec.grammar
    = c.grammar-grammar.ensures.grammar ∙ ap (λ s. s.grammar) c.spec.ensures.these in
    let never = subst (λ g. LeadNowhere g [] (moves_from (take n one))) G
    (subst (IsBehind c.grammar-grammar.result.now (moves_from (take n one))) c.in_default-2.is
    c.in_ok-string.ensures) in (
      λ yes. absurd (both_ways false refl yes),
      λ t. absurd (never t.string
          (subst (λ ms. Lead r.spec.grammar [] ms t.string) front (lead_there r lawful conflict c.requires.inside one
          other n told.same told.within told.apart t))),
    )

pub returns-in-Some-state_behind : goal.returns-in-Some-state_behind
returns-in-Some-state_behind c =
    let r = c.args.resolved.now in
    let conflict = c.args.conflict.now in
    let one = c.args.one.now in
    let other = c.args.other.now in
    let n = c.shared_length-shared.result in
    let told = c.shared_length-shared.ensures in
    let lawful = subst IsLr0Automaton c.lr0-lr0.ensures.these c.states-states.ensures.lawful in
    let rest : drop n (moves_from one) ≡ moves_from (take (length one - n) (drop n one))
    = drop-map move_from n one ∙ ap moves_from (sym (take_all (length one - n) (drop n one) (omega (
      arith,
      length-drop n one,
    )))) in
    let front : take n (moves_from one) ≡ moves_from (take n one)
    = take-map move_from n one in
    let next = c.in-Some-next_shifted.next in
    let it = subst (λ o. IsNext (moves_from (take (length one - n) (drop n one))) (option_map (λ t. t.0) o))
    c.in-Some-next_shifted.is
    c.next_shifted.ensures in
    let G : c.grammar-grammar.result.now ≡ r.spec.grammar
    = c.grammar-grammar.ensures.grammar ∙ ap (λ s. s.grammar) c.spec.ensures.these in
    let string = c.in-Some-2.string.items in
    let leads = subst (λ ms. Lead r.spec.grammar [] ms (string_of string)) (sym front)
    (subst (λ g. Lead g [] (moves_from (take n one)) (string_of string)) G
    (subst (IsBehind c.grammar-grammar.result.now (moves_from (take n one))) c.in-Some-2.is c.in_ok-string.ensures))
    in
    let state = c.in-Some-state_behind.state.0 in
    let reaches = subst (λ w. Reaches (goto_of r.automaton) 0 (string_of w) state) c.deref.ensures.value
    (subst (λ M. Reaches (goto_of M) 0 (string_of c.deref.result.now) state) c.lr0-lr0.ensures.these
    (subst (IsStateBehind c.lr0-lr0.result.now c.deref.result.now) c.in-Some-state_behind.is c.state_behind.ensures))
    in
    let acts = c.are_actions.ensures.0 c.if-not-are_actions.false in
    let same : next.0 ≡ conflict.terminal.0
    = eqb-true next.0 conflict.terminal.0 (not-false (eqb next.0 conflict.terminal.0)
    (sym c.ne.ensures ∙ c.if-ne.false)) in (
      λ yes.
          let here : state ≡ conflict.state.0 = eqb-true state conflict.state.0 (sym c.eq.ensures ∙ yes) in
          take_them r lawful conflict c.requires.inside one other n told.same told.within told.apart c.requires.same
          c.in-Some.first.now c.in-Some-get.second.now
          (slice_get-get_or one n c.in-Some.first.now c.in-Some.ensures.lookup.3.0 ∙ ap Some (sym
          c.in-Some.ensures.lookup.1))
          (slice_get-get_or other n c.in-Some-get.second.now c.in-Some-get.ensures.lookup.3.0
          ∙ ap Some (sym c.in-Some-get.ensures.lookup.1)) acts.0 acts.1 it.0 (ap shifted rest ∙ it.1 ∙
          ap (λ k. k ∷ it.0)
          same) (string_of string) leads
          (subst (Reaches (goto_of r.automaton) 0 (string_of string)) here reaches),
      λ t. c.eq.ensures ∙ eq-eqb state conflict.state.0 (reaches_one r lawful conflict c.requires.inside one other n
          told.same told.within told.apart t (string_of string) leads state reaches),
    )

pub returns : goal.returns
returns c =
    let r = c.args.resolved.now in
    let conflict = c.args.conflict.now in
    let one = c.args.one.now in
    let other = c.args.other.now in
    let n = c.shared_length-shared.result in
    let told = c.shared_length-shared.ensures in
    let lawful = subst IsLr0Automaton c.lr0-lr0.ensures.these c.states-states.ensures.lawful in
    let front : take n (moves_from one) ≡ moves_from (take n one)
    = take-map move_from n one in
    let G : c.grammar-grammar.result.now ≡ r.spec.grammar
    = c.grammar-grammar.ensures.grammar ∙ ap (λ s. s.grammar) c.spec.ensures.these in
    let string = c.in-Some-2.string.items in
    let leads = subst (λ ms. Lead r.spec.grammar [] ms (string_of string)) (sym front)
    (subst (λ g. Lead g [] (moves_from (take n one)) (string_of string)) G
    (subst (IsBehind c.grammar-grammar.result.now (moves_from (take n one))) c.in-Some-2.is c.in_ok-string.ensures))
    in
    let never = subst (λ w. ReachesNone r.automaton (string_of w)) c.deref.ensures.value
    (subst (λ M. ReachesNone M (string_of c.deref.result.now)) c.lr0-lr0.ensures.these
    (subst (IsStateBehind c.lr0-lr0.result.now c.deref.result.now) c.in-None.is c.state_behind.ensures)) in (
      λ yes. absurd (both_ways false refl yes),
      λ t. absurd
          (reaches_some r lawful conflict c.requires.inside one other n told.same told.within told.apart t (string_of
          string) leads never),
    )
