use Rattle.std.proofs.Common.{◌≡◌, ◌≢◌, ◌∙◌, ◌<◌, ◌≤◌, ◌⊎◌, inl, inr, ℕ, List, true, false, Option, Some, None, arith}
use Rattle.std.proofs.Common.{slice_get, sym, ap, subst, refl}
use Rattle.std.proofs.lemmas.Bool.{cases_order, eq-eqb, eqb-true}
use Rattle.ly_join.specs.Grammar.{nonterminal}
use Rattle.ly_lr0.specs.Automaton.{goto_of}
use Rattle.ly_relate.specs.Private.Gotos.{IsNumbering, Numbering}
use Rattle.ly_relate.specs.Related.{Goto}
use Rattle.ly_relate.specs.Values.{goto_from}
use Rattle.ly_relate.proofs.GotoLemmas.{are_gotos, at_number, numbered_rising}
use Rattle.ly_relate.proofs.gotos.Gotos.find.Goals as goal
use Rattle.ly_relate.proofs.gotos.Gotos.find.Goals.{else-place-end-via-else-place-end}
use Rattle.ly_relate.proofs.gotos.Gotos.find.Goals.{else-place-end-via-then-place-end+else-eq}

-- where no transition of a state is over a symbol, the symbol leads nowhere
leads_nowhere : (n : Numbering) (s A : ℕ) → IsNumbering n
    → ((k : ℕ) (x : Goto) → slice_get n.gotos k ≡ Some x → x.from ≡ s → x.symbol ≢ A)
    → goto_of n.automaton s (nonterminal A) ≡ None
leads_nowhere n s A law lacks = at (goto_of n.automaton s (nonterminal A)) refl where
  at : (o : Option ℕ) → goto_of n.automaton s (nonterminal A) ≡ o → o ≡ None
  at None e = refl
  at (Some r) e =
      let there = (are_gotos n.automaton law.lawful).all s A r e in
      absurd (lacks there.0 (record { from = s; symbol = A; target = r })
      (subst (λ w. slice_get w there.0 ≡ Some (record { from = s; symbol = A; target = r }))
      (sym law.gotos) there.1) refl refl)

-- where those before a place are less and those from it on aren't, only the one there may be over the symbol
only_there : (gotos : List Goto) (start end place A : ℕ)
    → ((n : ℕ) (x : Goto) → start ≤ n → n < place → slice_get gotos n ≡ Some x → x.symbol < A)
    → ((n : ℕ) (x y : Goto) → place < n → n < end → slice_get gotos place ≡ Some y → slice_get gotos n ≡ Some x
    → y.symbol < x.symbol)
    → ((n : ℕ) (x : Goto) → place ≤ n → n < end → slice_get gotos n ≡ Some x → A ≤ x.symbol)
    → (place < end → (y : Goto) × (slice_get gotos place ≡ Some y) × (y.symbol ≢ A))
    → (n : ℕ) (x : Goto) → start ≤ n → n < end → slice_get gotos n ≡ Some x → x.symbol ≢ A
only_there gotos start end place A less rise not_less there n x le lt is same = cases (cases_order n place) where
  cases : (n ≡ place) ⊎ ((n < place) ⊎ (place < n)) → ⊥
  cases (inl e) =
      let y = there (omega (arith, e, lt)) in
      let one : Some x ≡ Some y.0 = sym is ∙ (ap (slice_get gotos) e ∙ y.1) in
      let known : x ≡ y.0 = cc in
      y.2 (ap (λ z. z.symbol) (sym known) ∙ same)
  cases (inr (inl early)) = let first = less n x le early is in omega (arith, first, same)
  cases (inr (inr late)) =
      let inside : place < end = omega (arith, late, lt) in
      let y = there inside in
      let up = rise n x y.0 late lt y.1 is in
      let down = not_less place y.0 (omega arith) inside y.1 in
      omega (arith, up, down, same)

pub first_from-place-requires-clause-one_state : goal.first_from-place-requires-clause-one_state
first_from-place-requires-clause-one_state c =
    let law = c.leaving-range.ensures.lawful in
    λ n m x y start lt end at_x at_y.
    let is_x = (c.leaving-range.ensures.these n x at_x).1 (start, omega (arith, lt, end)) in
    let is_y = (c.leaving-range.ensures.these m y at_y).1 (omega (arith, start, lt), end) in
    numbered_rising c.args.self.now law n m x y lt at_x at_y (is_x ∙ sym is_y)

pub returns-then-eq : goal.returns-then-eq
returns-then-eq c =
    let k = c.first_from-place.result in
    let g = c.index.result.now in
    let at = at_number c.args.self.now c.self.inside.gotos.items k c.leaving-range.result.end g
    (ap (λ n. n.gotos) c.self.view_is) c.leaving-range.ensures.within c.if-place-end.true c.index.ensures in
    let from = (c.leaving-range.ensures.these k (goto_from g) at).1
    (c.first_from-place.ensures.start, c.if-place-end.true) in
    (goto_from g, at, from, eqb-true g.symbol.0 c.args.symbol.0 (sym c.eq.ensures ∙ c.if-eq.true))

pub returns-else-place-end : goal.returns-else-place-end
returns-else-place-end c =
    let law = c.leaving-range.ensures.lawful in
    let gotos = c.args.self.now.gotos in
    let start = c.leaving-range.result.start in
    let end = c.leaving-range.result.end in
    let place = c.first_from-place.result in
    let A = c.args.symbol.0 in
    let rise : (n : ℕ) (x y : Goto) → place < n → n < end → slice_get gotos place ≡ Some y → slice_get gotos n ≡ Some x
    → y.symbol < x.symbol
    = λ n x y lt inside at_y at_x.
    let first = c.first_from-place.ensures.start in
    let is_y = (c.leaving-range.ensures.these place y at_y).1 (first, omega (arith, lt, inside)) in
    let is_x = (c.leaving-range.ensures.these n x at_x).1 (omega (arith, first, lt), inside) in
    numbered_rising c.args.self.now law place n y x lt at_y at_x (is_y ∙ sym is_x) in
    let there : place < end → (y : Goto) × (slice_get gotos place ≡ Some y) × (y.symbol ≢ A)
    = elim c.else-place-end.branch [
      | else-place-end-via-then-place-end+else-eq w ↦ λ lt.
          let g = w.index.result.now in (
            goto_from g,
            at_number c.args.self.now c.self.inside.gotos.items place end g
                (ap (λ n. n.gotos) c.self.view_is)
                c.leaving-range.ensures.within lt w.index.ensures,
            λ e. let both : true ≡ false = sym (eq-eqb g.symbol.0 A e) ∙ (sym w.eq.ensures ∙ w.if-eq.false) in cc,
          )
      | else-place-end-via-else-place-end w ↦ λ lt.
          (let past = w.if-place-end.false in absurd (omega (arith, lt, past)))
    ] in
    leads_nowhere c.args.self.now c.args.state.0 A law (λ k x at from.
    let both = (c.leaving-range.ensures.these k x at).0 from in
    only_there gotos start end place A c.first_from-place.ensures.less rise c.first_from-place.ensures.not_less there
    k x
    both.0 both.1 at)
