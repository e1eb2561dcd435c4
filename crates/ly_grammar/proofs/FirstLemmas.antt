-- Openings of bodies, and the rows and edges that come of them.
use Rattle.std.proofs.Common.{◌≡◌, ◌<◌, ◌≤◌, ◌+◌, ◌∙◌, ◌⊎◌, ◌↔◌, ◌∷◌, ◌++◌, ℕ, zero, suc, List, [], Bool, true, false}
use Rattle.std.proofs.Common.{sym, ap}
use Rattle.std.proofs.Common.{subst, arith, inl, inr, refl, length, map, take, Contains, slice_index_or, slice_get}
use Rattle.std.proofs.Common.{slice_set, Some, None, add-one, if◌then◌else◌, nat_eq, replicate, ◌||◌}
use Rattle.std.proofs.lemmas.Bool.{cases_lt, eq-eqb, eqb-true, or_cases}
use Rattle.std.specs.FinSet as set
use Rattle.std.proofs.Math.Seq.{take-suc}
use Rattle.std.proofs.lemmas.List.{append-nil, take_all, map-append, length-replicate, length-set}
use Rattle.std.proofs.lemmas.List.{get_or-set_same, get_or-set_other}
use Rattle.std.specs.FinSet.{contains-empty}
use Rattle.std.specs.Ordering.{nat_cmp}
use Rattle.std.proofs.lemmas.Option.{slice_get_within}
use Rattle.std.proofs.lemmas.List.Elements.{Contains-append_cases, Contains-append_left, Contains-append_right}
use Rattle.ly_base.proofs.MemberLemmas.{Contains-none, Contains-first, Contains-later, Contains-cons_cases}
use Rattle.ly_base.proofs.MemberLemmas.{Contains-one}
use Rattle.ly_digraph.specs.Digraph.{Digraph, Reaches, here, along}
use Rattle.ly_digraph.specs.Least.{IsLeast, IsBetween}
use Rattle.ly_join.specs.Grammar.{Grammar, GrammarRule, IsRule, Symbol, symbol_of, terminal, nonterminal}
use Rattle.ly_sets.specs.NumberSet.{NumberSet, Member}
use Rattle.ly_sets.specs.SetMatrix.{Matrix, row, with_row}
use Rattle.ly_sets.proofs.NumberSetLemmas.{contains-insert_nat}
use Rattle.ly_join.specs.declared.symbol.Symbol as code
use Rattle.ly_grammar.proofs.SearchLemmas.{rule_is_one, same_or_not}
use Rattle.ly_grammar.specs.Private.First.{opening, parts, turned, AreAdded, Starts, at_once, by_part}
use Rattle.ly_grammar.specs.Private.Reach.{uses, of_rules}
use Rattle.ly_grammar.specs.Private.Search.{SymbolsPass, passes}
use Rattle.ly_grammar.proofs.ReachLemmas.{use_of, is_use, uses_append, of_rule, of_rules_more, by_rule, way_grows}
use Rattle.ly_grammar.proofs.StartLemmas.{default_everywhere}

-- the opening of a string whose symbols all pass is the string
pub opening_all : (marks : List Bool) (w : List Symbol) → SymbolsPass marks false w → opening marks w ≡ w
opening_all marks [] all = refl
opening_all marks (X ∷ w) all =
    let here : passes marks false X ≡ true = all X (Contains-first X w) in
    ap (λ b. X ∷ (if b then opening marks w else [])) here
    ∙ ap (λ v. X ∷ v) (opening_all marks w (λ Y m. all Y (Contains-later X w Y m)))

-- that of another ends with the first that doesn't pass
pub opening_to : (marks : List Bool) (w : List Symbol) (at : ℕ) (X : Symbol) → SymbolsPass marks false (take at w)
    → slice_get w at ≡ Some X → passes marks false X ≡ false → opening marks w ≡ take (suc at) w
opening_to marks [] at X all there stop = absurd (cc)
opening_to marks (Y ∷ w) zero X all there stop =
    let same : Y ≡ X = cc in
    ap (λ b. Y ∷ (if b then opening marks w else [])) (ap (passes marks false) same ∙ stop)
opening_to marks (Y ∷ w) (suc at) X all there stop =
    let here : passes marks false Y ≡ true = all Y (Contains-first Y (take at w)) in
    ap (λ b. Y ∷ (if b then opening marks w else [])) here
    ∙ ap (λ v. Y ∷ v) (opening_to marks w at X (λ Z m. all Z (Contains-later Y (take at w) Z m)) there stop)

-- symbols of an opening are of the string
pub opening_in : (marks : List Bool) (w : List Symbol) (X : Symbol) → Contains (opening marks w) X → Contains w X
opening_in marks [] X member = Contains-none X member
opening_in marks (Y ∷ w) X member =
    elim (Contains-cons_cases Y (if passes marks false Y then opening marks w else []) X member) [
      | inl same ↦ subst (Contains (Y ∷ w)) same (Contains-first Y w)
      | inr later ↦ Contains-later Y w X (rest (opening_in marks w X) (passes marks false Y) later)
    ] where
      rest : (Contains (opening marks w) X → Contains w X) → (b : Bool) → Contains (if b then opening marks w else []) X
          → Contains w X
      rest recur true m = recur m
      rest recur false m = Contains-none X m

-- terminals of strings one after another
pub added_more : (old mid new : Matrix) (left : ℕ) (v w : List Symbol) → AreAdded old mid left v
    → AreAdded mid new left w → AreAdded old new left (v ++ w)
added_more old mid new left v w one two = record {
  width = two.width ∙ one.width;
  rows = two.rows ∙ one.rows;
  exact = λ j t. (
    λ member. elim ((two.exact j t).0 member) [
      | inl before ↦ elim ((one.exact j t).0 before) [
        | inl first ↦ inl first
        | inr new ↦ inr (new.0, Contains-append_left v w (terminal t) new.1)
      ]
      | inr new ↦ inr (new.0, Contains-append_right v w (terminal t) new.1)
    ],
    λ is. (two.exact j t).1 (elim is [
      | inl first ↦ inl ((one.exact j t).1 (inl first))
      | inr new ↦ elim (Contains-append_cases v w (terminal t) new.1) [
        | inl early ↦ inl ((one.exact j t).1 (inr (new.0, early)))
        | inr later ↦ inr (new.0, later)
      ]
    ]),
  );
}

-- nothing was added
pub added_none : (m : Matrix) (left : ℕ) → AreAdded m m left []
added_none m left = record {
  width = refl;
  rows = refl;
  exact = λ j t. (
    λ member. inl member,
    λ is. elim is [
      | inl member ↦ member
      | inr new ↦ Contains-none
          (terminal t) new.1
    ],
  );
}

-- what the openings of the rules below a number say
pub record AreFirsts (G : Grammar) (marks : List Bool) (g : Digraph) (sets : Matrix) (n : ℕ) : Type 0 where
  pub graph : g ≡ record {
    nodes = G.accept + 1;
    edges = of_rules (λ r. parts r.left (opening marks r.body)) (take n G.rules);
  }
  pub width : sets.width ≡ G.terminals
  pub rows : length sets.sets ≡ G.accept + 1
  pub exact : (j t : ℕ) → Member (row sets.sets j) t
      ↔ ((p : ℕ) × (r : GrammarRule) × (p < n) × IsRule G p r × (r.left ≡ j)
      × Contains (opening marks r.body) (terminal t))

-- an edge of parts is one to a nonterminal
pub part_of : (left : ℕ) (w : List Symbol) (A B : ℕ) → Contains (parts left w) (A, B)
    → (A ≡ left) × Contains w (nonterminal B)
part_of left w A B member = let back = of_turned (uses left w) A B member in use_of left w B A back where
  of_turned : (es : List (ℕ × ℕ)) (a b : ℕ) → Contains (map turned es) (a, b) → Contains es (b, a)
  of_turned [] a b m = Contains-none (a, b) m
  of_turned (e ∷ es) a b m = elim (Contains-cons_cases (turned e) (map turned es) (a, b) m) [
    | inl same ↦ let f : e.1 ≡ a = ap (λ x. x.0) same in let g : e.0 ≡ b = ap (λ x. x.1) same in
        subst (λ x. Contains (e ∷ es) (x, a)) g (subst (λ y. Contains (e ∷ es) (e.0, y)) f (Contains-first e es))
    | inr later ↦ Contains-later e es (b, a) (of_turned es a b later)
  ]

pub is_part : (left : ℕ) (w : List Symbol) (A : ℕ) → Contains w (nonterminal A) → Contains (parts left w) (left, A)
is_part left w A member = turned_in (uses left w) A left (is_use left w A member) where
  turned_in : (es : List (ℕ × ℕ)) (a b : ℕ) → Contains es (a, b) → Contains (map turned es) (b, a)
  turned_in [] a b m = Contains-none (a, b) m
  turned_in (e ∷ es) a b m = elim (Contains-cons_cases e es (a, b) m) [
    | inl same ↦ subst (λ x. Contains (map turned (e ∷ es)) (turned x)) same (Contains-first (turned e) (map turned es))
    | inr later ↦ Contains-later (turned e) (map turned es) (b, a) (turned_in es a b later)
  ]

-- edges lead from a left side to what stands in its openings
abbrev pub part_graph : Grammar → List Bool → Digraph
part_graph G marks = record {
  nodes = G.accept + 1;
  edges = of_rules (λ r. parts r.left (opening marks r.body)) G.rules;
}

-- what the openings say at once, along the edges
pub way_starts : (G : Grammar) (marks : List Bool) (i j t : ℕ) → Reaches (part_graph G marks) i j
    → Starts G marks j t → Starts G marks i t
way_starts G marks i j t (here k) starts = starts
way_starts G marks i j t (along a b c edge way) starts =
    let it = of_rule (λ r. parts r.left (opening marks r.body)) G.rules (a, b) edge in
    let part = part_of it.1.left (opening marks it.1.body) a b it.3 in
    subst (λ A. Starts G marks A t) (sym part.0)
    (by_part it.0 it.1 b t it.2 part.1 (way_starts G marks b c t way starts))

-- The rows that come of the openings of all rules are what the nonterminals start with.
pub start_rows : (G : Grammar) (marks : List Bool) (graph : Digraph) (old : Matrix) (new : List NumberSet) (n : ℕ)
    → AreFirsts G marks graph old n → length G.rules ≤ n → IsLeast graph old.sets new → IsBetween graph old.sets new
    → (A t : ℕ) → Member (row new A) t ↔ Starts G marks A t
start_rows G marks graph old new n firsts past least between A t = (to, back A) where
  all : graph ≡ part_graph G marks
  all = firsts.graph ∙ ap (λ rs. let g : Digraph = record {
    nodes = G.accept + 1;
    edges = of_rules (λ r. parts r.left (opening marks r.body)) rs;
  } in g) (take_all n G.rules past)

  to : Member (row new A) t → Starts G marks A t
  to member =
      let from = between.reached A t member in
      let it = (firsts.exact from.0 t).0 from.2 in
      way_starts G marks A from.0 t (subst (λ g. Reaches g A from.0) all from.1)
      (subst (λ B. Starts G marks B t) it.4 (at_once it.0 it.1 t it.3 it.5))

  below : (p : ℕ) (r : GrammarRule) → IsRule G p r → p < n
  below p r rule = let lt = slice_get_within G.rules p (Some r) rule in omega (arith, lt, past)

  back : (B : ℕ) → Starts G marks B t → Member (row new B) t
  back B (at_once p r u rule member) = least.holds.holds r.left u
      ((firsts.exact r.left u).1 (p, r, below p r rule, rule, refl, member))
  back B (by_part p r C u rule member starts) = way_grows graph old.sets new r.left C u least
      (along r.left C C (subst (λ g. Contains g.edges (r.left, C)) (sym all)
      (by_rule (λ r. parts r.left (opening marks r.body)) G.rules p r (r.left, C) rule
      (is_part r.left (opening marks r.body) C member))) (here C))
      (back C starts)

-- one symbol more of a list as it is shown
pub shown_more : (xs : List code.Symbol) (n : ℕ) (d : code.Symbol) → n < length xs
    → map symbol_of (take (n + 1) xs) ≡ map symbol_of (take n xs) ++ symbol_of (slice_index_or xs n d) ∷ []
shown_more xs n d lt = ap (λ k. map symbol_of (take k xs)) (add-one n)
    ∙ ap (map symbol_of) (take-suc xs n d lt) ∙ map-append symbol_of (take n xs) (slice_index_or xs n d ∷ [])

-- the parts of strings one after another
pub parts_append : (left : ℕ) (v w : List Symbol) → parts left (v ++ w) ≡ parts left v ++ parts left w
parts_append left v w = ap (map turned) (uses_append left v w) ∙ map-append turned (uses left v) (uses left w)

or_second : (a b : Bool) → b ≡ true → (a || b) ≡ true
or_second true b e = refl
or_second false b e = e

-- a number is a member after another was put in where it is that, or was one before
pub member_inserted : (s : NumberSet) (k q : ℕ) → Member (set.insert s k) q ↔ ((q ≡ k) ⊎ Member s q)
member_inserted s k q =
    let c = contains-insert_nat s k q in (
      λ member. elim (or_cases (nat_eq q k) (set.contains s q) (sym c ∙ member)) [
        | inl same ↦ inl (eqb-true q k same)
        | inr before ↦ inr before
      ],
      λ is. c ∙ elim is [
        | inl same ↦ ap (λ b. b || set.contains s q) (eq-eqb q k same)
        | inr before ↦ or_second (nat_eq q k) (set.contains s q) before
      ],
    )

-- a terminal that is put into a row
pub inserted : (m : Matrix) (left t : ℕ) → left < length m.sets
    → AreAdded m (with_row m left (set.insert (row m.sets left) t)) left (terminal t ∷ [])
inserted m left t lt = record {
  width = refl;
  rows = length-set m.sets left (set.insert (row m.sets left) t);
  exact = λ j u. elim (same_or_not j left) [
    | inl same ↦ (
      λ member. elim ((member_inserted (row m.sets left) t u).0 (subst (λ s. Member s u) (here_now j same) member)) [
        | inl new ↦ inr (
          same,
          subst (λ k. Contains (terminal t ∷ []) (terminal k)) (sym new)
              (Contains-first (terminal t) []),
        )
        | inr before ↦ inl (subst (λ k. Member (row m.sets k) u) (sym same) before)
      ],
      λ is. subst (λ s. Member s u) (sym (here_now j same)) ((member_inserted (row m.sets left) t u).1 (elim is [
        | inl before ↦ inr (subst (λ k. Member (row m.sets k) u) same before)
        | inr new ↦ let f : terminal t ≡ terminal u = Contains-one (terminal t) (terminal u) new.1 in
            let g : u ≡ t = cc in inl g
      ])),
    )
    | inr other ↦
        let e = get_or-set_other m.sets left j (set.insert (row m.sets left) t) set.empty other in (
          λ member. inl (subst (λ s. Member s u) e member),
          λ is. elim is [
            | inl before ↦ subst (λ s. Member s u) (sym e) before
            | inr new ↦ absurd (other new.0)
          ],
        )
  ];
} where
  here_now : (j : ℕ) → j ≡ left → row (slice_set m.sets left (set.insert (row m.sets left) t)) j
      ≡ set.insert (row m.sets left) t
  here_now j same = ap (row (slice_set m.sets left (set.insert (row m.sets left) t))) same
      ∙ get_or-set_same m.sets left (set.insert (row m.sets left) t) set.empty lt

-- the edges of openings
abbrev pub opening_edges : List Bool → GrammarRule → List (ℕ × ℕ)
opening_edges marks r = parts r.left (opening marks r.body)

-- no rule was looked at
pub firsts_none : (G : Grammar) (marks : List Bool) (g : Digraph) (sets : Matrix)
    → g ≡ record { nodes = G.accept + 1; edges = [] }
    → sets.width ≡ G.terminals → sets.sets ≡ replicate (G.accept + 1) set.empty → AreFirsts G marks g sets 0
firsts_none G marks g sets graph width empty = record {
  graph = graph;
  width = width;
  rows = ap length empty ∙ length-replicate (G.accept + 1) set.empty;
  exact = λ j t. (
    λ member. let no : false ≡ true = sym (contains-empty nat_cmp t)
        ∙ ap (λ s. set.contains s t) (sym (ap (λ rows. row rows j) empty
        ∙ default_everywhere (G.accept + 1) j set.empty))
        ∙ member in absurd (cc),
    λ is. let lt = is.2 in absurd (omega (arith, lt)),
  );
}

-- one rule more was
pub firsts_more : (G : Grammar) (marks : List Bool) (g now : Digraph) (sets new : Matrix) (n : ℕ) (r : GrammarRule)
    → AreFirsts G marks g sets n → IsRule G n r → now ≡ record g { edges = g.edges ++ opening_edges marks r }
    → AreAdded sets new r.left (opening marks r.body) → AreFirsts G marks now new (n + 1)
firsts_more G marks g now sets new n r are rule graph added = record {
  graph = graph
      ∙ ap (λ h. let it : Digraph = record h { edges = h.edges ++ opening_edges marks r } in it) are.graph
      ∙ ap (λ es. let it : Digraph = record { nodes = G.accept + 1; edges = es } in it)
      (ap (λ xs. of_rules (opening_edges marks) (take n G.rules) ++ xs) (sym (append-nil (opening_edges marks r)))
      ∙ sym (of_rules_more (opening_edges marks) G.rules n (Some r) rule));
  width = added.width ∙ are.width;
  rows = added.rows ∙ are.rows;
  exact = λ j t. (
    λ member. elim ((added.exact j t).0 member) [
      | inl before ↦ let it = (are.exact j t).0 before in
          (it.0, it.1, (let lt = it.2 in omega (arith, lt)), it.3, it.4, it.5)
      | inr fresh ↦ (n, r, omega arith, rule, sym fresh.0, fresh.1)
    ],
    λ (p, q, lt, there, left, opens). (added.exact j t).1 (elim (cases_lt p n) [
      | inl below ↦ inl ((are.exact j t).1 (p, q, below, there, left, opens))
      | inr above ↦
          let same : p ≡ n = omega (arith, lt, above) in
          let e : q ≡ r = rule_is_one G n q r (subst (λ k. IsRule G k q) same there) rule in
          inr (sym (sym (ap (λ x. x.left) e) ∙ left), subst (λ x. Contains (opening marks x.body) (terminal t)) e opens)
    ]),
  );
}

-- a number without a rule was
pub firsts_past : (G : Grammar) (marks : List Bool) (g : Digraph) (sets : Matrix) (n : ℕ) → AreFirsts G marks g sets n
    → slice_get G.rules n ≡ Some None → AreFirsts G marks g sets (n + 1)
firsts_past G marks g sets n are none = record {
  graph = are.graph ∙ ap (λ es. let it : Digraph = record { nodes = G.accept + 1; edges = es } in it)
      (sym (of_rules_more (opening_edges marks) G.rules n None none
      ∙ append-nil (of_rules (opening_edges marks) (take n G.rules))));
  width = are.width;
  rows = are.rows;
  exact = λ j t. (
    λ member. let it = (are.exact j t).0 member in
        (it.0, it.1, (let lt = it.2 in omega (arith, lt)), it.3, it.4, it.5),
    λ (p, q, lt, there, left, opens). (are.exact j t).1 (
      p,
      q,
      elim (cases_lt p n) [
        | inl below ↦ below
        | inr above ↦
            let same : p ≡ n = omega (arith, lt, above) in
            let no : Some None ≡ Some (Some q) = sym none ∙ subst (λ k. IsRule G k q) same there in absurd (cc)
      ],
      there,
      left,
      opens,
    ),
  );
}
