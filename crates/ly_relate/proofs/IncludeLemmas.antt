-- Transitions that are included, found from the end of a body on.
use Rattle.std.proofs.Common.{◌≡◌, ◌∙◌, ◌⊎◌, ◌↔◌, inl, inr, ℕ, ◌+◌, ◌<◌, ◌≤◌, List, [], ◌∷◌, ◌++◌, Some, None, arith}
use Rattle.std.proofs.Common.{refl, sym, ap, subst, length, drop, slice_get, slice_index_or, Contains}
use Rattle.std.proofs.lemmas.Bool.{cases_order}
use Rattle.std.proofs.lemmas.List.Elements.{Contains-append_cases, Contains-append_left, Contains-append_right}
use Rattle.ly_base.proofs.MemberLemmas.{Contains-first, Contains-one}
use Rattle.ly_join.specs.Grammar.{Grammar, Symbol, nonterminal, terminal}
use Rattle.ly_digraph.specs.Digraph.{Digraph, IsEdge}
use Rattle.ly_grammar.specs.Derivations.{IsNullable}
use Rattle.ly_lr0.specs.Automaton.{Lr0Automaton, goto_of}
use Rattle.ly_relate.specs.Private.Walks.{AreEdgesTo, IsIncludedAt}
use Rattle.ly_relate.specs.Related.{AreGotos, Goto}
use Rattle.ly_relate.proofs.ReachLemmas.{apart}
use Rattle.ly_relate.proofs.WalkLemmas.{drop_at, nullable_behind, onto_is, onto_take, parted, slice_at_drop}
use Rattle.ly_relate.proofs.WalkLemmas.{terminal_not_nullable}
use Rattle.ly_relate.proofs.WalkLemmas.{turned_more}
use Rattle.std.proofs.Common.{take, append-nil}
use Rattle.std.specs.Prelude.{reverse}
use Rattle.std.proofs.lemmas.List.{reverse-reverse, take_all}
use Rattle.ly_join.specs.Grammar.{IsRule, GrammarRule}
use Rattle.ly_grammar.specs.Items.{onto}
use Rattle.ly_grammar.proofs.ItemLemmas.{length-onto}
use Rattle.ly_grammar.proofs.SearchLemmas.{rule_is_one}
use Rattle.ly_lr0.specs.Automaton.{Reaches}
use Rattle.ly_relate.specs.Private.Gotos.{IsNumbering, Numbering}
use Rattle.ly_relate.specs.Private.Walks.{IsIncludingBy, IsLookingBack, IsPassed, IsStopped}
use Rattle.ly_relate.proofs.GotoLemmas.{goto_is, numbered_are}
use Rattle.ly_relate.proofs.LeaveLemmas.{body_leads}
use Rattle.ly_relate.proofs.ReachLemmas.{Reaches_one}

-- the same edges, said otherwise
pub edges_same : (old new : Digraph) (n : ℕ) (P Q : ℕ → Type 0) → ((i : ℕ) → P i ↔ Q i) → AreEdgesTo old new n P
    → AreEdgesTo old new n Q
edges_same old new n P Q same are i j = (to, back) where
  to : IsEdge new i j → IsEdge old i j ⊎ ((j ≡ n) × Q i)
  to has = elim ((are i j).0 has) [
    | inl was ↦ inl was
    | inr (e, is) ↦ inr (e, (same i).0 is)
  ]

  back : IsEdge old i j ⊎ ((j ≡ n) × Q i) → IsEdge new i j
  back (inl was) = (are i j).1 (inl was)
  back (inr (e, is)) = (are i j).1 (inr (e, (same i).1 is))

-- no edges
pub edges_none : (g : Digraph) (n : ℕ) (P : ℕ → Type 0) → ((i : ℕ) → P i → ⊥) → AreEdgesTo g g n P
edges_none g n P never i j = ((λ has. inl has), back) where
  back : IsEdge g i j ⊎ ((j ≡ n) × P i) → IsEdge g i j
  back (inl was) = was
  back (inr (e, is)) = absurd (never i is)

-- those of one more node
pub edges_more : (old g new : Digraph) (n m : ℕ) (P Q : ℕ → Type 0) → ((i : ℕ) → Q i ↔ (P i ⊎ (i ≡ m)))
    → AreEdgesTo g new n (λ i. i ≡ m) → AreEdgesTo old g n P → AreEdgesTo old new n Q
edges_more old g new n m P Q one added are i j = (to, back) where
  to : IsEdge new i j → IsEdge old i j ⊎ ((j ≡ n) × Q i)
  to has = elim ((added i j).0 has) [
    | inl here ↦ elim ((are i j).0 here) [
      | inl was ↦ inl was
      | inr (same, is) ↦ inr (same, (one i).1 (inl is))
    ]
    | inr (same, is) ↦ inr (same, (one i).1 (inr is))
  ]

  back : IsEdge old i j ⊎ ((j ≡ n) × Q i) → IsEdge new i j
  back (inl was) = (added i j).1 (inl ((are i j).1 (inl was)))
  back (inr (same, is)) = elim ((one i).0 is) [
    | inl was ↦ (added i j).1 (inl ((are i j).1 (inr (same, was))))
    | inr here ↦ (added i j).1 (inr (same, here))
  ]

-- a node that is led to another
pub edges_one : (g new : Digraph) (n m : ℕ) → new.edges ≡ g.edges ++ (m, n) ∷ [] → AreEdgesTo g new n (λ i. i ≡ m)
edges_one g new n m e i j = (to, back) where
  to : IsEdge new i j → IsEdge g i j ⊎ ((j ≡ n) × (i ≡ m))
  to has = elim (Contains-append_cases g.edges ((m, n) ∷ []) (i, j) (subst (λ w. Contains w (i, j)) e has)) [
    | inl here ↦ inl here
    | inr last ↦ let same = Contains-one (m, n) (i, j) last in
        inr (sym (ap (λ p. p.1) same), sym (ap (λ p. p.0) same))
  ]

  back : IsEdge g i j ⊎ ((j ≡ n) × (i ≡ m)) → IsEdge new i j
  back (inl was) = subst (λ w. Contains w (i, j)) (sym e) (Contains-append_left g.edges ((m, n) ∷ []) (i, j) was)
  back (inr (same, here)) = subst (λ w. Contains w (i, j)) (sym e)
      (subst (λ k. Contains (g.edges ++ (m, n) ∷ []) (k, j)) (sym here)
      (subst (λ k. Contains (g.edges ++ (m, n) ∷ []) (m, k)) (sym same)
      (Contains-append_right g.edges ((m, n) ∷ []) (m, n) (Contains-first (m, n) []))))

-- and where it was led there already
pub edges_still : (g : Digraph) (n m : ℕ) → IsEdge g m n → AreEdgesTo g g n (λ i. i ≡ m)
edges_still g n m is i j = ((λ has. inl has), back) where
  back : IsEdge g i j ⊎ ((j ≡ n) × (i ≡ m)) → IsEdge g i j
  back (inl was) = was
  back (inr (same, here)) = subst (λ k. IsEdge g k j) (sym here) (subst (IsEdge g m) (sym same) is)

-- a transition is included from some place on
abbrev pub IncludedFrom : Grammar → List Goto → List Symbol → List ℕ → ℕ → ℕ → Type 0
IncludedFrom G gotos body path least i = (place : ℕ) × (least ≤ place) × IsIncludedAt G gotos body path place i

abbrev pub Included : Grammar → List Goto → List Symbol → List ℕ → ℕ → Type 0
Included G gotos body path i = (place : ℕ) × IsIncludedAt G gotos body path place i

-- none behind the end
pub included_past : (G : Grammar) (gotos : List Goto) (body : List Symbol) (path : List ℕ) (i : ℕ)
    → IncludedFrom G gotos body path (length body) i → ⊥
included_past G gotos body path i (place, le, is) = let lt = is.within in omega (arith, le, lt)

-- two transitions of one state over one symbol have one number
one_goto : (M : Lr0Automaton) (gotos : List Goto) → AreGotos M gotos → (i j : ℕ) (x y : Goto)
    → slice_get gotos i ≡ Some x
    → slice_get gotos j ≡ Some y → x.from ≡ y.from → x.symbol ≡ y.symbol → i ≡ j
one_goto M gotos are i j x y at_x at_y from symbol =
    let same : Some x.target ≡ Some y.target
    = sym (are.are i x at_x) ∙ (ap (λ p. goto_of M p (nonterminal x.symbol)) from
    ∙ (ap (λ A. goto_of M y.from (nonterminal A)) symbol ∙ are.are j y at_y)) in
    let target : x.target ≡ y.target = cc in
    are.once i j y (subst (λ z. slice_get gotos i ≡ Some z) (goto_is x y from symbol target) at_x) at_y

-- those from a place on are those behind it, and the one there
pub included_more : (M : Lr0Automaton) (gotos : List Goto) (body : List Symbol) (path : List ℕ) (k A m : ℕ) (x : Goto)
    → AreGotos M gotos → k < length body → slice_get body k ≡ Some (nonterminal A) → slice_get gotos m ≡ Some x
    → x.from ≡ slice_index_or path k 0 → x.symbol ≡ A → IsNullable M.grammar (drop (k + 1) body)
    → (i : ℕ) → IncludedFrom M.grammar gotos body path k i
    ↔ (IncludedFrom M.grammar gotos body path (k + 1) i ⊎ (i ≡ m))
included_more M gotos body path k A m x are lt is at from symbol null i = (to, back) where
  to : IncludedFrom M.grammar gotos body path k i → IncludedFrom M.grammar gotos body path (k + 1) i ⊎ (i ≡ m)
  to (place, le, there) = elim (cases_order place k) [
    | inl same ↦
        let own : Some (nonterminal there.goto.symbol) ≡ Some (nonterminal A)
        = sym there.symbol ∙ (ap (slice_get body) same ∙ is) in
        let named : there.goto.symbol ≡ A = cc in
        let begins : there.goto.from ≡ x.from
        = sym there.state ∙ (ap (λ p. slice_index_or path p 0) same ∙ sym from) in
        inr (one_goto M gotos are i m there.goto x there.is at begins (named ∙ sym symbol))
    | inr (inl less) ↦ absurd (omega (arith, le, less))
    | inr (inr above) ↦ inl (place, omega (arith, above), there)
  ]

  back : IncludedFrom M.grammar gotos body path (k + 1) i ⊎ (i ≡ m) → IncludedFrom M.grammar gotos body path k i
  back (inl (place, le, there)) = (place, omega (arith, le), there)
  back (inr same) = (
    k,
    omega arith,
    record {
      within = lt;
      goto = x;
      is = ap (slice_get gotos) same ∙ at;
      symbol = is ∙ ap (λ B. Some (nonterminal B)) (sym symbol);
      state = sym from;
      nullable = null;
    },
  )

-- where nothing leaves by the nonterminal, none is there
pub included_none : (M : Lr0Automaton) (gotos : List Goto) (body : List Symbol) (path : List ℕ) (k A : ℕ)
    → AreGotos M gotos
    → slice_get body k ≡ Some (nonterminal A) → goto_of M (slice_index_or path k 0) (nonterminal A) ≡ None
    → (i : ℕ) → IncludedFrom M.grammar gotos body path (k + 1) i ↔ IncludedFrom M.grammar gotos body path k i
included_none M gotos body path k A are is lacks i = (to, back) where
  to : IncludedFrom M.grammar gotos body path (k + 1) i → IncludedFrom M.grammar gotos body path k i
  to (place, le, there) = (place, omega (arith, le), there)

  back : IncludedFrom M.grammar gotos body path k i → IncludedFrom M.grammar gotos body path (k + 1) i
  back (place, le, there) = elim (cases_order place k) [
    | inl same ↦
        let own : Some (nonterminal there.goto.symbol) ≡ Some (nonterminal A)
        = sym there.symbol ∙ (ap (slice_get body) same ∙ is) in
        let named : there.goto.symbol ≡ A = cc in
        let begins : there.goto.from ≡ slice_index_or path k 0
        = sym there.state ∙ ap (λ p. slice_index_or path p 0) same in
        let leads : None ≡ Some there.goto.target
        = sym lacks ∙ (ap (λ p. goto_of M p (nonterminal A)) (sym begins)
        ∙ (ap (λ B. goto_of M there.goto.from (nonterminal B)) (sym named) ∙ are.are i there.goto there.is)) in
        absurd (cc)
    | inr (inl less) ↦ absurd (omega (arith, le, less))
    | inr (inr above) ↦ (place, omega (arith, above), there)
  ]

-- before a symbol that isn't nullable none is there
pub included_all : (G : Grammar) (gotos : List Goto) (body : List Symbol) (path : List ℕ) (k : ℕ) (X : Symbol)
    → slice_get body k ≡ Some X → (IsNullable G (X ∷ []) → ⊥)
    → (i : ℕ) → IncludedFrom G gotos body path k i ↔ Included G gotos body path i
included_all G gotos body path k X is lacks i = (to, back) where
  to : IncludedFrom G gotos body path k i → Included G gotos body path i
  to (place, le, there) = (place, there)

  at : (place : ℕ) → IsIncludedAt G gotos body path place i → (place ≡ k) ⊎ ((place < k) ⊎ (k < place))
      → IncludedFrom G gotos body path k i
  at place there (inl same) = (place, omega (arith, same), there)
  at place there (inr (inl less)) = absurd (lacks (nullable_behind G body place k X there.nullable less is))
  at place there (inr (inr above)) = (place, omega (arith, above), there)

  back : Included G gotos body path i → IncludedFrom G gotos body path k i
  back (place, there) = at place there (cases_order place k)

-- and at a terminal neither
pub included_behind : (G : Grammar) (gotos : List Goto) (body : List Symbol) (path : List ℕ) (k t : ℕ)
    → slice_get body k ≡ Some (terminal t)
    → (i : ℕ) → IncludedFrom G gotos body path (k + 1) i ↔ Included G gotos body path i
included_behind G gotos body path k t is i = (to, back) where
  to : IncludedFrom G gotos body path (k + 1) i → Included G gotos body path i
  to (place, le, there) = (place, there)

  at : (place : ℕ) → IsIncludedAt G gotos body path place i → (place ≡ k) ⊎ ((place < k) ⊎ (k < place))
      → IncludedFrom G gotos body path (k + 1) i
  at place there (inl same) =
      let one : Some (nonterminal there.goto.symbol) ≡ Some (terminal t)
      = sym there.symbol ∙ (ap (slice_get body) same ∙ is) in
      let other : nonterminal there.goto.symbol ≡ terminal t = cc in
      absurd (apart other)
  at place there (inr (inl less)) =
      absurd (terminal_not_nullable G t (nullable_behind G body place k (terminal t) there.nullable less is))
  at place there (inr (inr above)) = (place, omega (arith, above), there)

  back : Included G gotos body path i → IncludedFrom G gotos body path (k + 1) i
  back (place, there) = at place there (cases_order place k)

-- and from the first place on all are
pub included_whole : (G : Grammar) (gotos : List Goto) (body : List Symbol) (path : List ℕ) (k : ℕ) → k ≡ 0
    → (i : ℕ) → IncludedFrom G gotos body path k i ↔ Included G gotos body path i
included_whole G gotos body path k e i = (
  (λ (place, le, there). (place, there)),
  (λ (place, there). (place, omega (arith, e), there)),
)

-- What is known of a place of a body: its nonterminal, what stands behind it, and the state before it.
pub record IsAt (G : Grammar) (body : List Symbol) (path : List ℕ) (k A q : ℕ) : Type 0 where
  pub within : k < length body
  pub symbol : slice_get body k ≡ Some (nonterminal A)
  pub state : slice_index_or path k 0 ≡ q
  pub nullable : IsNullable G (drop (k + 1) body)

-- the edges from a place on, where the transition that leaves there was found
pub edges_found : (M : Lr0Automaton) (gotos : List Goto) (body : List Symbol) (path : List ℕ) (old g new : Digraph)
    (n k A q m : ℕ) (x : Goto) → AreGotos M gotos → IsAt M.grammar body path k A q → slice_get gotos m ≡ Some x
    → x.from ≡ q → x.symbol ≡ A → AreEdgesTo g new n (λ i. i ≡ m)
    → AreEdgesTo old g n (IncludedFrom M.grammar gotos body path (k + 1))
    → AreEdgesTo old new n (IncludedFrom M.grammar gotos body path k)
edges_found M gotos body path old g new n k A q m x are place at from symbol e before =
    edges_more old g new n m (IncludedFrom M.grammar gotos body path (k + 1)) (IncludedFrom M.grammar gotos body path k)
    (included_more M gotos body path k A m x are place.within place.symbol at
    (from ∙ sym place.state) symbol place.nullable)
    e before

-- and where there was none
pub edges_lacking : (M : Lr0Automaton) (gotos : List Goto) (body : List Symbol) (path : List ℕ) (old g : Digraph)
    (n k A q : ℕ) → AreGotos M gotos → IsAt M.grammar body path k A q → goto_of M q (nonterminal A) ≡ None
    → AreEdgesTo old g n (IncludedFrom M.grammar gotos body path (k + 1))
    → AreEdgesTo old g n (IncludedFrom M.grammar gotos body path k)
edges_lacking M gotos body path old g n k A q are place lacks before =
    edges_same old g n (IncludedFrom M.grammar gotos body path (k + 1)) (IncludedFrom M.grammar gotos body path k)
    (included_none M gotos body path k A are place.symbol
    (ap (λ p. goto_of M p (nonterminal A)) place.state ∙ lacks)) before

-- WALKS

-- Where the symbols of a rule's body lead from where a transition begins, its lookback and what it includes are known.
module _ (n : Numbering) (law : IsNumbering n) (m rule : ℕ) (y : Goto) (r : GrammarRule)
    (at : slice_get n.gotos m ≡ Some y)
    (is_rule : IsRule n.automaton.grammar rule r) (is_left : r.left ≡ y.symbol) (path : List ℕ) (s : ℕ)
    (passed : IsPassed n.automaton y.from r.body (length r.body) path s) where
  -- a whole body, last symbol first
  whole : reverse (take (length r.body) r.body) ≡ reverse r.body
  whole = ap reverse (take_all (length r.body) r.body (omega arith))

  pub looks_back : (q p : ℕ) → (IsLookingBack n.automaton n.gotos m q p × (p ≡ rule)) ↔ ((q ≡ s) × (p ≡ rule))
  looks_back q p = (to, back) where
    to : IsLookingBack n.automaton n.gotos m q p × (p ≡ rule) → (q ≡ s) × (p ≡ rule)
    to ((x, here, b), same) =
        let one : Some x ≡ Some y = sym here ∙ at in
        let is : x ≡ y = cc in
        let rules = rule_is_one n.automaton.grammar rule b.rule r
        (subst (λ k. IsRule n.automaton.grammar k b.rule) same b.is_rule) is_rule in
        let parts = parted b.before [] r.body (b.is_body ∙ ap (λ w. w.body) rules) in
        let long : length b.before ≡ length r.body
        = (let e = ap length (b.is_body ∙ ap (λ w. w.body) rules) in let o
        = length-onto b.before [] in omega (arith, e, o)) in
        let read : b.before ≡ reverse (take (length r.body) r.body)
        = parts.0 ∙ ap (λ k. reverse (take k r.body)) long in
        let leads : Reaches (goto_of n.automaton) y.from (reverse (take (length r.body) r.body)) q
        = subst (λ z. Reaches (goto_of n.automaton) z.from (reverse (take (length r.body) r.body)) q) is
        (subst (λ w. Reaches (goto_of n.automaton) x.from w q) read b.leads) in
        (Reaches_one (goto_of n.automaton) y.from (reverse (take (length r.body) r.body)) q s leads passed.end, same)

    back : (q ≡ s) × (p ≡ rule) → IsLookingBack n.automaton n.gotos m q p × (p ≡ rule)
    back (here, same) = (
      (
        y,
        at,
        record {
          rule = r;
          is_rule = subst (λ k. IsRule n.automaton.grammar k r) (sym same) is_rule;
          is_left = is_left;
          before = reverse (take (length r.body) r.body);
          is_body = onto_is (reverse (take (length r.body) r.body)) []
              ∙ (append-nil (reverse (reverse (take (length r.body) r.body)))
              ∙ (reverse-reverse (take (length r.body) r.body) ∙ take_all (length r.body) r.body (omega arith)));
          leads = subst (λ t. Reaches (goto_of n.automaton) y.from (reverse (take (length r.body) r.body)) t)
              (sym here) passed.end;
          from = (y.target, (numbered_are n law).are m y at);
        },
      ),
      same,
    )

  pub includes_by : (i : ℕ) → Included n.automaton.grammar n.gotos r.body path i
      ↔ IsIncludingBy n.automaton n.gotos rule i m
  includes_by i = (to, back) where
    to : Included n.automaton.grammar n.gotos r.body path i → IsIncludingBy n.automaton n.gotos rule i m
    to (place, there) = (
      there.goto,
      y,
      there.is,
      at,
      record {
        number = rule;
        rule = r;
        is_rule = is_rule;
        is_left = is_left;
        before = reverse (take place r.body);
        after = drop (place + 1) r.body;
        is_body = ap (onto (reverse (take place r.body)))
            (sym (drop_at r.body place (nonterminal there.goto.symbol) there.symbol)) ∙ onto_take r.body place;
        nullable = there.nullable;
        leads = subst (λ t. Reaches (goto_of n.automaton) y.from (reverse (take place r.body)) t) there.state
            (passed.states place there.within);
        from = (there.goto.target, (numbered_are n law).are i there.goto there.is);
        to = (y.target, (numbered_are n law).are m y at);
      },
      refl,
    )

    back : IsIncludingBy n.automaton n.gotos rule i m → Included n.automaton.grammar n.gotos r.body path i
    back (x, z, here, there, b, same) =
        let one : Some z ≡ Some y = sym there ∙ at in
        let is : z ≡ y = cc in
        let rules = rule_is_one n.automaton.grammar rule b.rule r
        (subst (λ k. IsRule n.automaton.grammar k b.rule) same b.is_rule) is_rule in
        let body : onto b.before (nonterminal x.symbol ∷ b.after) ≡ r.body = b.is_body ∙ ap (λ w. w.body) rules in
        let parts = parted b.before (nonterminal x.symbol ∷ b.after) r.body body in
        let long : length r.body ≡ length b.before + length (nonterminal x.symbol ∷ b.after)
        = sym (ap length body) ∙ length-onto b.before (nonterminal x.symbol ∷ b.after) in
        let lt : length b.before < length r.body = omega (arith, long) in
        let X = slice_at_drop r.body (length b.before) (nonterminal x.symbol) b.after (sym parts.1) in
        let leads : Reaches (goto_of n.automaton) y.from (reverse (take (length b.before) r.body)) x.from
        = subst (λ w. Reaches (goto_of n.automaton) w.from (reverse (take (length b.before) r.body)) x.from) is
        (subst (λ w. Reaches (goto_of n.automaton) z.from w x.from) parts.0 b.leads) in (
          length b.before,
          record {
            within = lt;
            goto = x;
            is = here;
            symbol = X.0;
            state = Reaches_one (goto_of n.automaton) y.from (reverse (take (length b.before) r.body))
                (slice_index_or path (length b.before) 0) x.from (passed.states (length b.before) lt) leads;
            nullable = subst (IsNullable n.automaton.grammar) X.1 b.nullable;
          },
        )

-- the body of a transition's rule leads on to its end
pub never_stopped : (n : Numbering) → IsNumbering n → (m rule : ℕ) (y : Goto) (r : GrammarRule)
    → slice_get n.gotos m ≡ Some y
    → IsRule n.automaton.grammar rule r → r.left ≡ y.symbol → IsStopped n.automaton y.from r.body → ⊥
never_stopped n law m rule y r at is_rule is_left stop =
    let goes = (numbered_are n law).are m y at in
    let own : goto_of n.automaton y.from (nonterminal r.left) ≡ Some y.target
    = ap (λ A. goto_of n.automaton y.from (nonterminal A)) is_left ∙ goes in
    let turned = turned_more r.body stop.place stop.symbol stop.is in
    let there = body_leads n.automaton.grammar
    (goto_of n.automaton) law.lawful.augmented law.lawful.cores law.lawful.reduced
    rule r is_rule (reverse (take (stop.place + 1) r.body)) (drop (stop.place + 1) r.body)
    (onto_take r.body (stop.place + 1)) y.from y.target own in
    let on = subst (λ w. Reaches (goto_of n.automaton) y.from w there.0) turned there.1 in
    let same = Reaches_one (goto_of n.automaton) y.from
    (reverse (take stop.place r.body)) on.0 stop.state on.1 stop.leads in
    let no : None ≡ Some there.0 = sym stop.stops ∙ (ap (λ q. goto_of n.automaton q stop.symbol) (sym same) ∙ on.2) in
    cc
