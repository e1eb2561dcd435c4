-- A rule that is walked from where a transition begins.
use Rattle.std.proofs.Common.{◌≡◌, ◌∙◌, ◌⊎◌, ◌↔◌, ◌<◌, inl, inr, ℕ, List, [], ◌∷◌, ◌++◌, Some}
use Rattle.std.proofs.Common.{map, sym, ap, subst, length, slice_get, Contains}
use Rattle.std.proofs.lemmas.Option.{slice_get_within}
use Rattle.std.proofs.lemmas.List.Elements.{Contains-append_cases, Contains-append_left, Contains-append_right}
use Rattle.ly_base.proofs.MemberLemmas.{Contains-first, Contains-one}
use Rattle.ly_digraph.specs.Digraph.{Digraph}
use Rattle.ly_join.specs.Grammar.{Grammar, IsRule, GrammarRule, Symbol, symbol_of}
use Rattle.ly_join.specs.declared.symbol.Symbol as symbol
use Rattle.ly_grammar.specs.Reduction.{KeepsUseful}
use Rattle.ly_grammar.proofs.SearchLemmas.{rule_is_one}
use Rattle.ly_relate.specs.Private.Gotos.{IsNumbering, Numbering}
use Rattle.ly_relate.specs.Private.Walks.{AreBack, AreEdgesTo, IsIncludingBy, IsLookingBack, IsPassed, IsStopped}
use Rattle.ly_relate.specs.Related.{Goto, Lookback}
use Rattle.ly_relate.specs.Values.{goto_from}
use Rattle.ly_relate.specs.declared.gotos.Goto as goto
use Rattle.ly_relate.proofs.IncludeLemmas.{Included, edges_same, includes_by, looks_back, never_stopped}

-- The body is that of a rule of the nonterminal of transition m, which begins there.
pub record IsWalked (n : Numbering) (m rule : ℕ) (body : List Symbol) (from : ℕ) : Type 0 where
  pub goto : Goto
  pub at : slice_get n.gotos m ≡ Some goto
  pub own : GrammarRule
  pub is_rule : IsRule n.automaton.grammar rule own
  pub is_left : own.left ≡ goto.symbol
  pub is_body : body ≡ own.body
  pub begins : from ≡ goto.from

pub walked : (n : Numbering) (m rule : ℕ) (g : goto.Goto) (G R : Grammar) (q : GrammarRule) (body : List Symbol)
    → slice_get n.gotos m ≡ Some (goto_from g)
    → (x : Goto) × (slice_get n.gotos m ≡ Some x) × (r : GrammarRule) × IsRule n.automaton.grammar rule r ×
    (r.left ≡ x.symbol)
    → KeepsUseful G R → R ≡ n.automaton.grammar → IsRule G rule q → body ≡ q.body → IsWalked n m rule body g.from.0
walked n m rule g G R q body here (x, at, r, is_rule, is_left) keeps same is e =
    let one : Some (goto_from g) ≡ Some x = sym here ∙ at in
    let begins : goto_from g ≡ x = cc in
    let kept = ((keeps.rules rule r).0 (subst (λ A. IsRule A rule r) (sym same) is_rule)).0 in
    record {
      goto = x;
      at = at;
      own = r;
      is_rule = is_rule;
      is_left = is_left;
      is_body = e ∙ ap (λ w. w.body) (rule_is_one G rule q r is kept);
      begins = ap (λ w. w.from) begins;
    }

-- the body of a rule of a reduced grammar, read from the grammar that was reduced
pub body_is : (rule : ℕ) (G R K : Grammar) (q r : GrammarRule) (body : List Symbol) → KeepsUseful G R → R ≡ K
    → IsRule G rule q → body ≡ q.body → IsRule K rule r → r.body ≡ body
body_is rule G R K q r body keeps same is e is_rule =
    let kept = ((keeps.rules rule r).0 (subst (λ A. IsRule A rule r) (sym same) is_rule)).0 in
    ap (λ w. w.body) (rule_is_one G rule r q kept is) ∙ sym e

-- a rule of a reduced grammar has its number in the grammar that was reduced
pub rule_within : (rule : ℕ) (G R K : Grammar) → KeepsUseful G R → R ≡ K → (r : GrammarRule) × IsRule K rule r
    → rule < length G.rules
rule_within rule G R K keeps same (r, is_rule) =
    slice_get_within G.rules rule (Some r) ((keeps.rules rule r).0 (subst (λ A. IsRule A rule r) (sym same) is_rule)).0

-- what stands first in a body, as contracts see it
pub first_seen : (body : List symbol.Symbol) (X : symbol.Symbol) → slice_get body 0 ≡ Some X
    → (rest : List Symbol) × (map symbol_of body ≡ symbol_of X ∷ rest)
first_seen [] X is = absurd (cc)
first_seen (Y ∷ body) X is = (map symbol_of body, (let e : Y ≡ X = cc in ap (λ Z. symbol_of Z ∷ map symbol_of body) e))

-- what was passed of the body, as that of the rule
own_passed : (n : Numbering) (m rule from : ℕ) (body : List Symbol) (count : ℕ) (path : List ℕ) (s : ℕ)
    → (w : IsWalked n m rule body from) → count ≡ length body → IsPassed n.automaton from body count path s
    → IsPassed n.automaton w.goto.from w.own.body (length w.own.body) path s
own_passed n m rule from body count path s w long passed =
    subst (λ f. IsPassed n.automaton f w.own.body (length w.own.body) path s) w.begins
    (subst (λ b. IsPassed n.automaton from b (length b) path s) w.is_body
    (subst (λ k. IsPassed n.automaton from body k path s) long passed))

-- what was included is what includes by the rule
pub included_by : (n : Numbering) → IsNumbering n → (m o rule from : ℕ) (body : List Symbol) (count : ℕ)
    (path : List ℕ) (s : ℕ) (old new : Digraph) → IsWalked n m rule body from → count ≡ length body
    → IsPassed n.automaton from body count path s
    → AreEdgesTo old new o (Included n.automaton.grammar n.gotos body path)
    → AreEdgesTo old new o (λ i. IsIncludingBy n.automaton n.gotos rule i m)
included_by n law m o rule from body count path s old new w long passed are =
    edges_same old new o (Included n.automaton.grammar n.gotos w.own.body path)
    (λ i. IsIncludingBy n.automaton n.gotos rule i m)
    (includes_by n law m rule w.goto w.own w.at w.is_rule w.is_left path s
    (own_passed n m rule from body count path s w long passed))
    (subst (λ b. AreEdgesTo old new o (Included n.automaton.grammar n.gotos b path)) w.is_body are)

-- one more lookback
back_more : (old new : List Lookback) (m rule s : ℕ) (P : ℕ → ℕ → Type 0)
    → ((q p : ℕ) → P q p ↔ ((q ≡ s) × (p ≡ rule)))
    → new ≡ old ++ record { state = s; rule = rule; node = m } ∷ [] → AreBack old new m P
back_more old new m rule s P one e q p k = (to, back) where
  to : Contains new (record { state = q; rule = p; node = k })
      → Contains old (record { state = q; rule = p; node = k }) ⊎ ((k ≡ m) × P q p)
  to has = elim (Contains-append_cases old (record { state = s; rule = rule; node = m } ∷ [])
      (record { state = q; rule = p; node = k })
      (subst (λ w. Contains w (record { state = q; rule = p; node = k })) e has)) [
        | inl was ↦ inl was
        | inr last ↦
            let same = Contains-one (record { state = s; rule = rule; node = m })
            (record { state = q; rule = p; node = k }) last in
            inr (sym (ap (λ l. l.node) same), (one q p).1 (sym (ap (λ l. l.state) same), sym (ap (λ l. l.rule) same)))
      ]

  back : Contains old (record { state = q; rule = p; node = k }) ⊎ ((k ≡ m) × P q p)
      → Contains new (record { state = q; rule = p; node = k })
  back (inl was) = subst (λ w. Contains w (record { state = q; rule = p; node = k })) (sym e)
      (Contains-append_left old (record { state = s; rule = rule; node = m } ∷ [])
      (record { state = q; rule = p; node = k }) was)
  back (inr (place, is)) =
      let both = (one q p).0 is in
      let at : ℕ → ℕ → ℕ → Lookback = λ a b c. record { state = a; rule = b; node = c } in
      let same : at s rule m ≡ at q p k
      = ap (λ a. at a rule m) (sym both.0) ∙ (ap (λ b. at q b m) (sym both.1) ∙ ap (at q p) (sym place)) in
      subst (λ w. Contains w (record { state = q; rule = p; node = k })) (sym e)
      (subst (Contains (old ++ record { state = s; rule = rule; node = m } ∷ [])) same
      (Contains-append_right old (record { state = s; rule = rule; node = m } ∷ [])
      (record { state = s; rule = rule; node = m }) (Contains-first (record { state = s; rule = rule; node = m }) [])))

-- the lookback of the rule
pub back_by : (n : Numbering) → IsNumbering n
    → (m o rule from : ℕ) (body : List Symbol) (count : ℕ) (path : List ℕ) (s : ℕ)
    (old new : List Lookback) → IsWalked n m rule body from → count ≡ length body
    → IsPassed n.automaton from body count path s
    → new ≡ old ++ record { state = s; rule = rule; node = o } ∷ []
    → AreBack old new o (λ q p. (p ≡ rule) × IsLookingBack n.automaton n.gotos m q p)
back_by n law m o rule from body count path s old new w long passed e =
    back_more old new o rule s (λ q p. (p ≡ rule) × IsLookingBack n.automaton n.gotos m q p) one e
  where
    one : (q p : ℕ) → ((p ≡ rule) × IsLookingBack n.automaton n.gotos m q p) ↔ ((q ≡ s) × (p ≡ rule))
    one q p =
        let is = looks_back n law m rule w.goto w.own w.at w.is_rule w.is_left path s
        (own_passed n m rule from body count path s w long passed) q p in
        ((λ both. is.0 (both.1, both.0)), (λ both. let there = is.1 both in (there.1, there.0)))

-- a walk isn't stopped
pub not_stopped : (n : Numbering) → IsNumbering n → (m rule from : ℕ) (body : List Symbol) → IsWalked n m rule body from
    → IsStopped n.automaton from body → ⊥
not_stopped n law m rule from body w stop =
    never_stopped n law m rule w.goto w.own w.at w.is_rule w.is_left
    (subst (λ f. IsStopped n.automaton f w.own.body) w.begins (subst (IsStopped n.automaton from) w.is_body stop))
