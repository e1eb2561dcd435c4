-- What nonterminals start with by rules is what begins the strings of their trees.
use Rattle.std.proofs.Common.{◌≡◌, ◌∙◌, ◌↔◌, ◌∷◌, ◌++◌, ℕ, List, [], Bool, true, false, sym, ap, subst, inl, inr, refl}
use Rattle.std.proofs.Common.{Contains, if◌then◌else◌, slice_index_or}
use Rattle.std.proofs.lemmas.List.{append-nil}
use Rattle.ly_base.proofs.MemberLemmas.{Contains-none, Contains-first, Contains-later, Contains-cons_cases}
use Rattle.ly_base.specs.Lexed.{Token}
use Rattle.ly_base.specs.Trees.{Tree, Trees, leaf, node, none, more, yield_of, yields_of}
use Rattle.ly_join.specs.Grammar.{Grammar, GrammarRule, IsRule, Symbol, terminal, nonterminal}
use Rattle.ly_grammar.specs.Derivations.{IsTree, AreTrees, BeginsYield}
use Rattle.ly_grammar.specs.Private.First.{Starts, at_once, by_part, opening}
use Rattle.ly_grammar.specs.Private.Search.{HasTree, HaveTrees, passes}

-- lists that begin alike have one first member
first_is_one : {X : Type 0} (x y : X) (xs ys : List X) → x ∷ xs ≡ y ∷ ys → x ≡ y
first_is_one x y xs ys e = cc

-- a terminal begins itself
pub terminal_begins : (G : Grammar) (t : ℕ) → BeginsYield G (terminal t ∷ []) t
terminal_begins G t =
    let x : Token ℕ = record { terminal = t; at = 0; bytes = [] } in
    (more (leaf x) none, (refl, tt), x, [], refl, refl)

-- what a symbol starts with: a terminal with itself
abbrev pub SymbolStarts : Grammar → List Bool → Symbol → ℕ → Type 0
SymbolStarts G marks (terminal k) t = k ≡ t
SymbolStarts G marks (nonterminal A) t = Starts G marks A t

-- A symbol of the opening starts with the terminal.
pub record IsOpened (G : Grammar) (marks : List Bool) (w : List Symbol) (t : ℕ) : Type 0 where
  pub symbol : Symbol
  pub member : Contains (opening marks w) symbol
  pub starts : SymbolStarts G marks symbol t

-- so does a string with one symbol before it that passes
later_opened : (G : Grammar) (marks : List Bool) (Y : Symbol) (w : List Symbol) (t : ℕ) → passes marks false Y ≡ true
    → IsOpened G marks w t → IsOpened G marks (Y ∷ w) t
later_opened G marks Y w t pass is = record {
  symbol = is.symbol;
  member = subst (λ v. Contains v is.symbol) (sym (ap (λ b. Y ∷ (if b then opening marks w else [])) pass))
      (Contains-later Y (opening marks w) is.symbol is.member);
  starts = is.starts;
}

module _ (G : Grammar) (marks : List Bool)
    (nullable : (A : ℕ) → (slice_index_or marks A false ≡ true) ↔ HasTree G false (nonterminal A)) where
  -- what begins a symbol of an opening begins the string
  pub opening_begins : (w : List Symbol) (ts : Trees) (X : Symbol) (t : ℕ) → AreTrees G w ts
      → Contains (opening marks w) X → BeginsYield G (X ∷ []) t → BeginsYield G w t
  opening_begins [] ts X t are member begins = Contains-none X member
  opening_begins (Y ∷ w) none X t are member begins = absurd are
  opening_begins (Y ∷ w) (more d ts) X t are member (none, x_are, x, rest, yields, kind) = absurd x_are
  opening_begins (Y ∷ w) (more d ts) X t are member (more e (more f fs), x_are, x, rest, yields, kind) = absurd x_are.1
  opening_begins (Y ∷ w) (more d ts) X t are member (more e none, x_are, x, rest, yields, kind) =
      elim (Contains-cons_cases Y (if passes marks false Y then opening marks w else []) X member) [
        | inl same ↦ (
          more e ts,
          (subst (λ Z. IsTree G Z e) (sym same) x_are.0, are.1),
          x,
          rest ++ yields_of ts,
          ap (λ ys. ys ++ yields_of ts) (sym (append-nil (yield_of e)) ∙ yields),
          kind,
        )
        | inr later ↦ behind (passes marks false Y) refl later
            (λ there. opening_begins w ts X t are.1 there (more e none, x_are, x, rest, yields, kind))
      ] where
        empty_before : (Z : Symbol) → passes marks false Z ≡ true → BeginsYield G w t → BeginsYield G (Z ∷ w) t
        empty_before (terminal k) pass b = absurd (cc)
        empty_before (nonterminal B) pass (us, us_are, y, ys, e2, k2) =
            let gone = (nullable B).0 pass in
            (more gone.0 us, (gone.1, us_are), y, ys, ap (λ zs. zs ++ yields_of us) (gone.2 refl) ∙ e2, k2)

        behind : (b : Bool) → passes marks false Y ≡ b → Contains (if b then opening marks w else []) X
            → (Contains (opening marks w) X → BeginsYield G w t) → BeginsYield G (Y ∷ w) t
        behind true pass there recur = empty_before Y pass (recur there)
        behind false pass there recur = Contains-none X there

  -- one that starts with a terminal by rules has a tree whose string begins with it, where all bodies have trees
  pub starts_begins : ((p : ℕ) (r : GrammarRule) → IsRule G p r → HaveTrees G true r.body) → (A t : ℕ)
      → Starts G marks A t
      → BeginsYield G (nonterminal A ∷ []) t
  starts_begins trees A t (at_once p r u rule member) =
      let b = opening_begins r.body (trees p r rule).0 (terminal u) u (trees p r rule).1 member (terminal_begins G u) in
      (more (node p b.0) none, ((r, rule, refl, b.1), tt), b.2, b.3, append-nil (yields_of b.0) ∙ b.4, b.5)
  starts_begins trees A t (by_part p r B u rule member starts) =
      let b = opening_begins r.body (trees p r rule).0 (nonterminal B) u (trees p r rule).1 member
      (starts_begins trees B u starts) in
      (more (node p b.0) none, ((r, rule, refl, b.1), tt), b.2, b.3, append-nil (yields_of b.0) ∙ b.4, b.5)

  -- the rule of a tree starts with what its body does
  rule_starts : (p : ℕ) (r : GrammarRule) (A t : ℕ) → IsRule G p r → r.left ≡ A → IsOpened G marks r.body t
      → Starts G marks A t
  rule_starts p r A t rule left is = subst (λ B. Starts G marks B t) left
      (by_symbol is.symbol is.member is.starts) where
        by_symbol : (X : Symbol) → Contains (opening marks r.body) X → SymbolStarts G marks X t
            → Starts G marks r.left t
        by_symbol (terminal k) m s = subst (λ u. Starts G marks r.left u) s (at_once p r k rule m)
        by_symbol (nonterminal B) m s = by_part p r B t rule m s

  -- trees whose string begins with a token, where a symbol's tree stands in front: with that of this tree, or else with
  -- that of the others, and the symbol passes
  front_starts : (Y : Symbol) (w : List Symbol) (d : Tree) (ts : Trees) → IsTree G Y d → (x : Token ℕ)
      (rest : List (Token ℕ))
      → ((ys : List (Token ℕ)) → yield_of d ≡ x ∷ ys → SymbolStarts G marks Y x.terminal)
      → (yields_of ts ≡ x ∷ rest → IsOpened G marks w x.terminal)
      → (zs : List (Token ℕ)) → yield_of d ≡ zs → zs ++ yields_of ts ≡ x ∷ rest
      → IsOpened G marks (Y ∷ w) x.terminal
  front_starts Y w d ts is x rest one others (y ∷ ys) here e =
      let same : y ≡ x = first_is_one y x (ys ++ yields_of ts) rest e in
      record {
        symbol = Y;
        member = Contains-first Y (if passes marks false Y then opening marks w else []);
        starts = one ys (here ∙ ap (λ z. z ∷ ys) same);
      }
  front_starts (terminal k) w (leaf y) ts is x rest one others [] here e = absurd (cc)
  front_starts (terminal k) w (node p us) ts is x rest one others [] here e = absurd is
  front_starts (nonterminal A) w d ts is x rest one others [] here e
      = later_opened G marks (nonterminal A) w x.terminal ((nullable A).1 (d, is, λ _. here)) (others e)

  mutual
    -- a tree whose string begins with a token
    pub tree_starts : (X : Symbol) (d : Tree) → IsTree G X d → (x : Token ℕ) (rest : List (Token ℕ))
        → yield_of d ≡ x ∷ rest → SymbolStarts G marks X x.terminal
    tree_starts (terminal k) (leaf y) is x rest e = sym is ∙ ap (λ z. z.terminal) (first_is_one y x [] rest e)
    tree_starts (nonterminal A) (leaf y) is x rest e = absurd is
    tree_starts (terminal k) (node p ts) is x rest e = absurd is
    tree_starts (nonterminal A) (node p ts) (r, rule, left, are) x rest e
        = rule_starts p r A x.terminal rule left (trees_start r.body ts are x rest e)

    -- trees whose string does
    pub trees_start : (w : List Symbol) (ts : Trees) → AreTrees G w ts → (x : Token ℕ) (rest : List (Token ℕ))
        → yields_of ts ≡ x ∷ rest → IsOpened G marks w x.terminal
    trees_start [] none are x rest e = absurd (cc)
    trees_start [] (more d ts) are x rest e = absurd are
    trees_start (Y ∷ w) none are x rest e = absurd are
    trees_start (Y ∷ w) (more d ts) are x rest e = front_starts Y w d ts are.0 x rest
        (λ ys h. tree_starts Y d are.0 x ys h) (λ h. trees_start w ts are.1 x rest h) (yield_of d) refl e

  -- so what a nonterminal starts with is what begins its strings
  pub starts_are_begun : ((p : ℕ) (r : GrammarRule) → IsRule G p r → HaveTrees G true r.body) → (A t : ℕ)
      → Starts G marks A t ↔ BeginsYield G (nonterminal A ∷ []) t
  starts_are_begun trees A t = (starts_begins trees A t, back) where
    back : BeginsYield G (nonterminal A ∷ []) t → Starts G marks A t
    back (none, are, x, rest, e, kind) = absurd are
    back (more d (more f fs), are, x, rest, e, kind) = absurd are.1
    back (more d none, are, x, rest, e, kind) = subst (λ u. Starts G marks A u) kind
        (tree_starts (nonterminal A) d are.0 x rest (sym (append-nil (yield_of d)) ∙ e))
