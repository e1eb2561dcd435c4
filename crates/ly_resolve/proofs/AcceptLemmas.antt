-- Without conflicts the machine goes through each tree.
use Rattle.std.proofs.Common.{◌≡◌, ◌≢◌, inl, inr, ℕ, zero, suc, ◌≤◌, List, [], ◌∷◌, ◌++◌, All, refl, sym, ◌∙◌, ap}
use Rattle.std.proofs.Common.{subst, arith, append_assoc, le_of_eq}
use Rattle.std.proofs.lemmas.List.Elements.{All-head, All-tail}
use Rattle.ly_base.specs.Lexed.{Token}
use Rattle.ly_base.specs.Trees.{Tree, Trees, leaf, node, none, more, yield_of, yields_of}
use Rattle.ly_join.specs.Grammar.{Grammar, IsAugmented, IsRule, GrammarRule, Symbol, SymbolWithin, accept_rule}
use Rattle.ly_join.specs.Grammar.{nonterminal}
use Rattle.ly_join.specs.Grammar.{terminal}
use Rattle.ly_grammar.specs.Derivations.{AreTrees, First, IsTree}
use Rattle.ly_grammar.specs.Items.{HasNoEnd, IsViable, Merges, Valid, at_start, closed, moved, onto}
use Rattle.ly_grammar.proofs.SearchLemmas.{rule_is_one}
use Rattle.ly_relate.proofs.LeaveLemmas.{no_accept}
use Rattle.ly_resolve.specs.Actions.{IsAction, IsConflictFree, IsRaw, Judge, reduce, shift}
use Rattle.ly_resolve.specs.Machine.{AcceptsWith, Configuration, Leads, Pushed, Reduces, here, onward, symbols_of}
use Rattle.ly_resolve.specs.Machine.{trees_onto}

-- trees put onto a stack, the last on top
abbrev pushed : List Symbol → Trees → List Pushed → List Pushed
pushed [] ts stack = stack
pushed (X ∷ w) none stack = stack
pushed (X ∷ w) (more d ts) stack = pushed w ts (record { symbol = X; tree = d } ∷ stack)

pushed-append : (w : List Symbol) (ts : Trees) (top below : List Pushed)
    → pushed w ts (top ++ below) ≡ pushed w ts top ++ below
pushed-append [] ts top below = refl
pushed-append (X ∷ w) none top below = refl
pushed-append (X ∷ w) (more d ts) top below = pushed-append w ts (record { symbol = X; tree = d } ∷ top) below

-- taken off again they are the same
trees_onto-pushed : (G : Grammar) (w : List Symbol) (ts : Trees) (top : List Pushed) → AreTrees G w ts
    → trees_onto (pushed w ts top) none ≡ trees_onto top ts
trees_onto-pushed G [] none top are = refl
trees_onto-pushed G [] (more d ts) top are = absurd are
trees_onto-pushed G (X ∷ w) none top are = absurd are
trees_onto-pushed G (X ∷ w) (more d ts) top are =
    trees_onto-pushed G w ts (record { symbol = X; tree = d } ∷ top) are.1

-- and so are their symbols
onto-pushed : (G : Grammar) (w : List Symbol) (ts : Trees) (top : List Pushed) → AreTrees G w ts
    → onto (symbols_of (pushed w ts top)) [] ≡ onto (symbols_of top) w
onto-pushed G [] none top are = refl
onto-pushed G [] (more d ts) top are = absurd are
onto-pushed G (X ∷ w) none top are = absurd are
onto-pushed G (X ∷ w) (more d ts) top are = onto-pushed G w ts (record { symbol = X; tree = d } ∷ top) are.1

pub Leads-append : {G : Grammar} {judge : Judge} {c d e : Configuration} → Leads G judge c d → Leads G judge d e
    → Leads G judge c e
Leads-append here rest = rest
Leads-append (onward s l) rest = onward s (Leads-append l rest)

-- The token that is next where trees come first, and the tokens behind it.
record Begins (G : Grammar) (w : List Symbol) (t : ℕ) (tokens : List (Token ℕ)) : Type 0 where
  token : Token ℕ
  behind : List (Token ℕ)
  is_next : tokens ≡ token ∷ behind
  first : First G w t token.terminal

begins : (G : Grammar) (w : List Symbol) (ts : Trees) (t : ℕ) (y : Token ℕ) (rest : List (Token ℕ)) → AreTrees G w ts
    → y.terminal ≡ t → Begins G w t (yields_of ts ++ y ∷ rest)
begins G w ts t y rest are is = by_yield (yields_of ts) refl where
  by_yield : (u : List (Token ℕ)) → yields_of ts ≡ u → Begins G w t (yields_of ts ++ y ∷ rest)
  by_yield [] e = record {
    token = y;
    behind = rest;
    is_next = ap (λ z. z ++ y ∷ rest) e;
    first = inr ((ts, are, e), is);
  }
  by_yield (x ∷ u) e = record {
    token = x;
    behind = u ++ y ∷ rest;
    is_next = ap (λ z. z ++ y ∷ rest) e;
    first = inl (ts, are, x, u, e, refl);
  }

pub merges_self : (G : Grammar) (g : List Symbol) → IsViable G g → Merges G g g
merges_self G g viable = record { left = viable; right = viable; cores = λ p before after. (λ x. x, λ x. x) }

-- a symbol that rules may name isn't the end
not_end : (G : Grammar) (X : Symbol) → SymbolWithin G.terminals G.accept X → X ≢ terminal 0
not_end G (terminal k) within e = let zero_is : k ≡ 0 = cc in omega (arith, within.0, zero_is)
not_end G (nonterminal A) within e = cc

apart : {p : ℕ} → shift ≢ reduce p
apart e = cc

module _ (G : Grammar) (judge : Judge) (augmented : IsAugmented G) (free : IsConflictFree G) where
  abbrev Within : Symbol → Type 0
  Within = SymbolWithin G.terminals G.accept

  shift_alone : (g : List Symbol) (t : ℕ) → IsViable G g → IsRaw G g t shift → IsAction G judge g t shift
  shift_alone g t viable raw = (raw, λ p r. absurd (apart (free g t shift (reduce p) viable raw r)))

  reduce_alone : (g : List Symbol) (t p : ℕ) → IsViable G g → IsRaw G g t (reduce p) → IsAction G judge g t (reduce p)
  reduce_alone g t p viable raw = (
    (raw, λ s. absurd (apart (free g t shift (reduce p) viable s raw))),
    λ q r.
        let e = free g t (reduce p) (reduce q) viable raw r.0 in
        let same : p ≡ q = cc in
        le_of_eq same,
  )

  -- a rule whose left side stands behind a dot isn't rule 0
  past_zero : {g : List Symbol} {p : ℕ} {before after : List Symbol} {A t : ℕ} (q : ℕ) (r : GrammarRule)
      → Valid G g p before (nonterminal A ∷ after) t → IsRule G q r → r.left ≡ A → 1 ≤ q
  past_zero {g} {p} {before} {after} {A} {t} zero r v is left =
      let zeroth = rule_is_one G 0 r (accept_rule G.accept G.start) is augmented.rule_0 in
      let accept : A ≡ G.accept = sym left ∙ ap (λ x. x.left) zeroth in
      absurd (no_accept augmented (subst (λ B. Valid G g p before (nonterminal B ∷ after) t) accept v))
  past_zero (suc q) r v is left = omega arith

  mutual
    -- before a symbol the machine comes to have its tree on the stack
    tree_leads : (d : Tree) (stack : List Pushed) (p : ℕ) (before : List Symbol) (X : Symbol) (after : List Symbol)
        (t : ℕ) (y : Token ℕ) (rest : List (Token ℕ)) → IsTree G X d → HasNoEnd (symbols_of stack) → Within X
        → Valid G (symbols_of stack) p before (X ∷ after) t → First G after t y.terminal
        → Leads G judge (record { stack = stack; rest = yield_of d ++ y ∷ rest })
        (record { stack = record { symbol = X; tree = d } ∷ stack; rest = y ∷ rest })
    tree_leads (leaf x) stack p before (terminal k) after t y rest is ends within v f =
        let viable : IsViable G (symbols_of stack) = (ends, p, before, terminal k ∷ after, (t, v)) in
        let raw : IsRaw G (symbols_of stack) x.terminal shift
        = (p, before, after, (t, subst (λ n. Valid G (symbols_of stack) p before (terminal n ∷ after) t) (sym is) v)) in
        onward (inl (record {
          token = x;
          is_next = refl;
          action = shift_alone (symbols_of stack) x.terminal viable raw;
          not_end = λ e. omega (arith, e, is, within.0);
          pushed = ap (λ n. record { symbol = terminal n; tree = leaf x } ∷ stack) (sym is);
        })) here
    tree_leads (leaf x) stack p before (nonterminal A) after t y rest is ends within v f = absurd is
    tree_leads (node q ts) stack p before (terminal k) after t y rest is ends within v f = absurd is
    tree_leads (node q ts) stack p before (nonterminal A) after t y rest (r, rule, left, are) ends within v f =
        let le = past_zero q r v rule left in
        let l = trees_lead ts stack q [] r.body y.terminal y rest are ends (augmented.within q r rule le).body
        (closed v rule left refl f) refl in
        let top : List Pushed = pushed r.body ts stack in
        let viable : IsViable G (symbols_of top) = (l.1, q, l.2, [], (y.terminal, l.3)) in
        let raw : IsRaw G (symbols_of top) y.terminal (reduce q) = (
          le,
          record {
            at = symbols_of top;
            merges = merges_self G (symbols_of top) viable;
            before = l.2;
            valid = l.3;
          },
        ) in
        let step : Reduces G judge (record { stack = top; rest = y ∷ rest })
        (record { stack = record { symbol = nonterminal A; tree = node q ts } ∷ stack; rest = y ∷ rest }) =
        record {
          token = y;
          behind = rest;
          is_next = refl;
          kept = refl;
          number = q;
          rule = r;
          is_rule = rule;
          action = reduce_alone (symbols_of top) y.terminal q viable raw;
          popped = pushed r.body ts [];
          below = stack;
          split = pushed-append r.body ts [] stack;
          is_body = onto-pushed G r.body ts [] are;
          pushed = ap (λ n. record { symbol = nonterminal n; tree = node q ts } ∷ stack) (sym left)
              ∙ ap (λ us. record { symbol = nonterminal r.left; tree = node q us } ∷ stack)
              (sym (trees_onto-pushed G r.body ts [] are));
        } in
        Leads-append l.0 (onward (inr step) here)

    -- before symbols it comes to have their trees on the stack
    trees_lead : (ts : Trees) (stack : List Pushed) (p : ℕ) (before after : List Symbol) (t : ℕ) (y : Token ℕ)
        (rest : List (Token ℕ)) → AreTrees G after ts → HasNoEnd (symbols_of stack) → All Within after
        → Valid G (symbols_of stack) p before after t → y.terminal ≡ t
        → Leads G judge (record { stack = stack; rest = yields_of ts ++ y ∷ rest })
        (record { stack = pushed after ts stack; rest = y ∷ rest })
        × HasNoEnd (symbols_of (pushed after ts stack))
        × (b : List Symbol) × Valid G (symbols_of (pushed after ts stack)) p b [] t
    trees_lead none stack p before [] t y rest are ends within v is = (here, ends, before, v)
    trees_lead none stack p before (X ∷ w) t y rest are ends within v is = absurd are
    trees_lead (more d ts) stack p before [] t y rest are ends within v is = absurd are
    trees_lead (more d ts) stack p before (X ∷ w) t y rest are ends within v is =
        let b = begins G w ts t y rest are.1 is in
        let head : Within X = All-head Within X w within in
        let x : Pushed = record { symbol = X; tree = d } in
        let one = tree_leads d stack p before X w t b.token b.behind are.0 ends head v b.first in
        let two = trees_lead ts (x ∷ stack) p (X ∷ before) w t y rest are.1 (not_end G X head, ends)
        (All-tail Within X w within) (moved v) is in
        let first : Leads G judge (record { stack = stack; rest = yield_of d ++ (yields_of ts ++ y ∷ rest) })
        (record { stack = x ∷ stack; rest = yields_of ts ++ y ∷ rest })
        = subst (λ z. Leads G judge (record { stack = stack; rest = yield_of d ++ z })
        (record { stack = x ∷ stack; rest = z })) (sym b.is_next) one in
        let whole = subst (λ z. Leads G judge (record { stack = stack; rest = z })
        (record { stack = pushed w ts (x ∷ stack); rest = y ∷ rest }))
        (sym (append_assoc (yield_of d) (yields_of ts) (y ∷ rest))) (Leads-append first two.0) in
        (whole, two.1, two.2, two.3)

  pub accepts_all : (d : Tree) (end : Token ℕ) → IsTree G (nonterminal G.start) d → end.terminal ≡ 0
      → AcceptsWith G judge (yield_of d ++ end ∷ []) d
  accepts_all d end is is_end =
      let v : Valid G [] 0 [] (nonterminal G.start ∷ terminal 0 ∷ []) 0 = at_start augmented.rule_0 refl in
      let f : First G (terminal 0 ∷ []) 0 end.terminal = inl (more (leaf end) none, (is_end, tt), end, [], refl, refl)
      in
      let l = tree_leads d [] 0 [] (nonterminal G.start) (terminal 0 ∷ []) 0 end [] is tt augmented.start_within v f in
      let ends : HasNoEnd (nonterminal G.start ∷ []) = (not_end G (nonterminal G.start) augmented.start_within, tt) in
      let viable : IsViable G (nonterminal G.start ∷ [])
      = (ends, 0, nonterminal G.start ∷ [], terminal 0 ∷ [], (0, moved v)) in (
        record { stack = record { symbol = nonterminal G.start; tree = d } ∷ []; rest = end ∷ [] },
        l,
        record {
          token = end;
          behind = [];
          is_next = refl;
          is_end = is_end;
          action = shift_alone (nonterminal G.start ∷ []) 0 viable (0, nonterminal G.start ∷ [], [], (0, moved v));
          symbol = nonterminal G.start;
          below = [];
          is_top = refl;
        },
      )
