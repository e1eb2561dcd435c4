-- What leaves a state: the terminals of its transitions, and the end behind the start symbol.
use Rattle.std.proofs.Common.{◌≡◌, ◌≢◌, ◌∙◌, inl, inr, ℕ, zero, suc, List, [], ◌∷◌, ◌++◌, All, Some, arith}
use Rattle.std.proofs.Common.{refl, sym, ap, subst, ◌≤◌, ◌<◌}
use Rattle.std.proofs.lemmas.List.Elements.{All-head}
use Rattle.ly_join.specs.Grammar.{Grammar, IsAugmented, IsRule, GrammarRule, Symbol, SymbolWithin, accept_rule}
use Rattle.ly_join.specs.Grammar.{nonterminal}
use Rattle.ly_join.specs.Grammar.{terminal}
use Rattle.ly_grammar.specs.Derivations.{IsReduced}
use Rattle.ly_grammar.specs.Items.{HasNoEnd, IsNextSymbol, Valid, at_start, closed, moved, onto}
use Rattle.ly_grammar.proofs.ItemLemmas.{All-onto, body_of, closes, read_on, zero_item}
use Rattle.ly_grammar.proofs.SearchLemmas.{rule_is_one}
use Rattle.ly_lr0.specs.Automaton.{Gotos, HasCores, Reaches}
use Rattle.ly_relate.specs.Relations.{Leaves}
use Rattle.ly_relate.proofs.ReachLemmas.{Reaches-split, Reaches_one, apart, back}

-- a symbol of a rule, but of rule 0, is one that rules may name
pub symbol_within : {G : Grammar} {p : ℕ} {r : GrammarRule} (before after : List Symbol) (X : Symbol) → IsAugmented G
    → IsRule G p r → 1 ≤ p → onto before (X ∷ after) ≡ r.body → SymbolWithin G.terminals G.accept X
symbol_within {G} {p} {r} before after X augmented is le e =
    let all = (augmented.within p r is le).body in
    let within = SymbolWithin G.terminals G.accept in
    All-head within X after (All-onto within before (X ∷ after) (subst (All within) (sym e) all))

-- no item has the whole text behind its dot
pub no_accept : {G : Grammar} {g : List Symbol} {p : ℕ} {before after : List Symbol} {t : ℕ} → IsAugmented G
    → Valid G g p before (nonterminal G.accept ∷ after) t → ⊥
no_accept {G} {p = zero} augmented v = elim (zero_item augmented v) [
  | inl x ↦
      let e : nonterminal G.accept ≡ nonterminal G.start = x.1 in
      let same : G.accept ≡ G.start = cc in
      omega (arith, same, augmented.start_within)
  | inr x ↦ apart x.1
]
no_accept {G} {p = suc p} {before = before} {after = after} augmented v =
    let body = body_of v in
    let lt : G.accept < G.accept
    = symbol_within before after (nonterminal G.accept) augmented body.1 (omega arith) body.2 in
    omega (arith, lt)

-- an item of rule 0 is valid only at what stands before its dot
pub zero_at : {G : Grammar} {g : List Symbol} {p : ℕ} {before after : List Symbol} {t : ℕ} → IsAugmented G → p ≡ 0
    → Valid G g p before after t → g ≡ before
zero_at augmented z (at_start is e) = refl
zero_at {G} augmented z (closed {g = g} {p = p} {before = before} {after = after} {B = B} {t = t} {r = r} v is left w
    f) =
    let zeroth = rule_is_one G 0 r (accept_rule G.accept G.start) (subst (λ k. IsRule G k r) z is) augmented.rule_0 in
    let accept : B ≡ G.accept = sym left ∙ ap (λ r. r.left) zeroth in
    absurd (no_accept {G = G} {before = before} {after = after} augmented
    (subst (λ A. Valid G g p before (nonterminal A ∷ after) t) accept v))
zero_at augmented z (moved {X = X} v) = ap (λ w. X ∷ w) (zero_at augmented z v)

module _ (G : Grammar) (goto : Gotos) (augmented : IsAugmented G) (automaton : HasCores G goto) where
  -- an item of a core waits for the symbol of a transition
  pub waits_for : {s : ℕ} {X : Symbol} {r : ℕ} → goto s X ≡ Some r
      → (g : List Symbol) × Reaches goto 0 g s × IsNextSymbol G g X × (X ≢ terminal 0)
  waits_for {s} {X} {r} e =
      let g = automaton.is_reached s X r e in
      let viable = automaton.only (X ∷ g.0) r (s, g.1, e) in
      let w = back viable.4.1 in
      (g.0, g.1, (w.number, w.before, w.rest, (w.behind, w.valid)), viable.0.0)

  -- the terminal of a transition leaves its state
  pub shift_leaves : {s t r : ℕ} → goto s (terminal t) ≡ Some r → Leaves G goto s t
  shift_leaves e = let w = waits_for e in (w.0, w.1, w.2)

  -- and isn't the end
  pub shift_some : {s t r : ℕ} → goto s (terminal t) ≡ Some r → t ≢ 0
  shift_some e z = (waits_for e).3 (ap terminal z)

  -- a symbol behind the dot of an item is that of a transition, if it isn't the end
  pub next_leads : {g : List Symbol} {s : ℕ} {X : Symbol} → Reaches goto 0 g s → IsNextSymbol G g X → X ≢ terminal 0
      → (r : ℕ) × (goto s X ≡ Some r)
  next_leads {g} {s} {X} reaches (p, before, after, (u, v)) differs =
      let there = automaton.has (X ∷ g) ((differs, (automaton.only g s reaches).0), p, X ∷ before, after, (u, moved v))
      in
      let same = Reaches_one goto 0 g there.1.0 s there.1.1 reaches in
      (there.0, ap (λ q. goto q X) (sym same) ∙ there.1.2)

  pub leaves_shift : {s t : ℕ} → Leaves G goto s t → t ≢ 0 → (r : ℕ) × (goto s (terminal t) ≡ Some r)
  leaves_shift {t = t} (g, reaches, next) differs =
      next_leads reaches next (λ e. let same : t ≡ 0 = cc in differs same)

  -- the end leaves the state behind the start symbol
  pub end_leaves : {s : ℕ} → goto 0 (nonterminal G.start) ≡ Some s → Leaves G goto s 0
  end_leaves e = (
    nonterminal G.start ∷ [],
    (0, refl, e),
    (0, nonterminal G.start ∷ [], [], (0, moved (at_start augmented.rule_0 refl))),
  )

  -- and no other
  pub leaves_end : {s : ℕ} → Leaves G goto s 0 → goto 0 (nonterminal G.start) ≡ Some s
  leaves_end {s} (g, reaches, (suc p, before, after, (u, v))) =
      let body = body_of v in
      let within = symbol_within before after (terminal 0) augmented body.1 (omega arith) body.2 in
      absurd (omega (arith, within.0))
  leaves_end {s} (g, reaches, (zero, before, after, (u, v))) = elim (zero_item augmented v) [
    | inl x ↦ absurd (apart (sym x.1))
    | inr x ↦
        let at : Reaches goto 0 (nonterminal G.start ∷ []) s
        = subst (λ w. Reaches goto 0 w s) (zero_at augmented refl v ∙ x.0) reaches in
        subst (λ q. goto q (nonterminal G.start) ≡ Some s) at.1 at.2
  ]

  -- it is the transition over the start symbol alone that leads there
  pub end_from : {p A r : ℕ} → goto p (nonterminal A) ≡ Some r → Leaves G goto r 0 → (p ≡ 0) × (A ≡ G.start)
  end_from {p} {A} {r} e (g, reaches, (suc q, before, after, (u, v))) =
      let body = body_of v in
      let within = symbol_within before after (terminal 0) augmented body.1 (omega arith) body.2 in
      absurd (omega (arith, within.0))
  end_from {p} {A} {r} e (g, reaches, (zero, before, after, (u, v))) =
      let under = automaton.is_reached p (nonterminal A) r e in
      let there = (automaton.same g (nonterminal A ∷ under.0) r reaches (p, under.1, e) 0 before (terminal 0 ∷ after)).0
      (u, v) in
      let at = zero_at augmented refl there.1 in
      elim (zero_item augmented v) [
        | inl x ↦ absurd (apart (sym x.1))
        | inr x ↦
            let whole : nonterminal A ∷ under.0 ≡ nonterminal G.start ∷ [] = at ∙ x.0 in
            let none : under.0 ≡ [] = cc in
            let symbol : A ≡ G.start = cc in
            (subst (λ w. Reaches goto 0 w p) none under.1, symbol)
      ]

  -- no transition is over the whole text
  pub no_accept_transition : {s r : ℕ} → goto s (nonterminal G.accept) ≡ Some r → ⊥
  no_accept_transition e =
      let w = waits_for e in
      no_accept augmented w.2.3.1

  -- a transition's nonterminal is one that rules name
  pub symbol_named : {s A r : ℕ} → goto s (nonterminal A) ≡ Some r → A ≤ G.accept
  symbol_named {s} {A} {r} e =
      let w = waits_for e in
      named w.2.0 w.2.1 w.2.2 w.2.3.0 w.2.3.1
    where
      named : (p : ℕ) (before after : List Symbol) (t : ℕ) {g : List Symbol}
          → Valid G g p before (nonterminal A ∷ after) t → A ≤ G.accept
      named zero before after t v = elim (zero_item augmented v) [
        | inl x ↦
            let e : nonterminal A ≡ nonterminal G.start = x.1 in
            let same : A ≡ G.start = cc in
            omega (arith, same, augmented.start_within)
        | inr x ↦ absurd (apart x.1)
      ]
      named (suc p) before after t v =
          let body = body_of v in
          let lt : A < G.accept = symbol_within before after (nonterminal A) augmented body.1 (omega arith) body.2 in
          omega (arith, lt)

  -- a rule of a transition's nonterminal isn't rule 0
  pub rule_past_zero : {s r : ℕ} (p : ℕ) (rule : GrammarRule) → IsRule G p rule
      → goto s (nonterminal rule.left) ≡ Some r
      → 1 ≤ p
  rule_past_zero {s} {r} zero rule is e =
      let zeroth = rule_is_one G 0 rule (accept_rule G.accept G.start) is augmented.rule_0 in
      absurd (no_accept_transition {s = s} {r = r} (ap (λ x. goto s (nonterminal x.left)) (sym zeroth) ∙ e))
  rule_past_zero {s} {r} (suc p) rule is e = omega arith

  -- what stands before another in a rule has no end in it
  no_end_before : (p : ℕ) (r : GrammarRule) (w rest : List Symbol) → IsRule G p r → 1 ≤ p → onto w rest ≡ r.body
      → HasNoEnd w
  no_end_before p r [] rest is le e = tt
  no_end_before p r (X ∷ w) rest is le e = (
    (λ z. let within = symbol_within w rest X augmented is le e in
        let at : SymbolWithin G.terminals G.accept (terminal 0) = subst (SymbolWithin G.terminals G.accept) z within in
        omega (arith, at.0)),
    no_end_before p r w (X ∷ rest) is le e,
  )

  -- strings without the end, one behind the other, have no end in them
  no_end_both : (w g : List Symbol) → HasNoEnd w → HasNoEnd g → HasNoEnd (w ++ g)
  no_end_both [] g a b = b
  no_end_both (X ∷ w) g a b = (a.0, no_end_both w g a.1 b)

  -- the body of a rule leads on from where a transition over its left side begins
  pub body_leads : IsReduced G → (q : ℕ) (rule : GrammarRule) → IsRule G q rule → (w rest : List Symbol)
      → onto w rest ≡ rule.body → (p r : ℕ) → goto p (nonterminal rule.left) ≡ Some r → (s : ℕ) × Reaches goto p w s
  body_leads reduced q rule is w rest e p r goes =
      let waits = waits_for goes in
      let le = rule_past_zero q rule is goes in
      let at = closes q rule augmented reduced waits.2.3.1 is refl in
      let read = read_on w rest (subst (λ b. Valid G waits.0 q [] b at.0) (sym e) at.1) in
      let no_end = no_end_both w waits.0 (no_end_before q rule w rest is le e)
      (automaton.only waits.0 p waits.1).0 in
      let there = automaton.has (w ++ waits.0) (no_end, q, w, rest, (at.0, read)) in
      let parts = Reaches-split goto 0 w waits.0 there.0 there.1 in
      let same = Reaches_one goto 0 waits.0 parts.0 p parts.1 waits.1 in
      (there.0, subst (λ k. Reaches goto k w there.0) same parts.2)
