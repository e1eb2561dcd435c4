-- Actions that are asked for at strings of one core, and by what stands in an automaton.
use Rattle.std.proofs.Common.{◌≡◌, ◌≢◌, ◌∙◌, ◌⊎◌, inl, inr, ◌↔◌, ℕ, zero, suc, ◌<◌, ◌≤◌, List, [], ◌∷◌, ◌++◌, Some}
use Rattle.std.proofs.Common.{◌+◌, All, Contains, ap, arith, length, map, option_map, refl, slice_get}
use Rattle.std.proofs.Common.{subst, sym}
use Rattle.std.proofs.Common.{Bool, IsTrue, None, Option, false, is_some, nat_eq, true}
use Rattle.std.proofs.lemmas.Bool.{cases_eq, eq-eqb, ne_eqb}
use Rattle.ly_base.specs.declared.numbers.StateNo.{StateNo}
use Rattle.std.proofs.lemmas.List.Elements.{All-head, All-tail, Contains-append_cases, Contains-append_left}
use Rattle.std.proofs.lemmas.List.Elements.{Contains-append_right}
use Rattle.std.specs.List.{AllPairs}
use Rattle.ly_base.proofs.MemberLemmas.{Contains-first, Contains-none, Contains-one}
use Rattle.std.proofs.lemmas.Option.{get_or_from_slice_get, slice_get-map, slice_get_within}
use Rattle.ly_base.specs.Lexed.{Token}
use Rattle.ly_base.specs.Trees.{Tree, Trees, leaf, node, none, more, yield_of, yields_of}
use Rattle.ly_base.proofs.ListLemmas.{AllPairs-append}
use Rattle.ly_join.specs.Grammar.{Grammar, IsAugmented, IsRule, GrammarRule, Symbol, SymbolWithin, nonterminal}
use Rattle.ly_join.specs.Grammar.{terminal}
use Rattle.ly_join.specs.Grammar.{accept_rule}
use Rattle.ly_join.proofs.ListLemmas.{placed}
use Rattle.ly_grammar.specs.Derivations.{AreTrees, IsTree}
use Rattle.ly_grammar.specs.Items.{InLookahead, IsComplete, IsViable, Merges, SameCore, Valid, at_start}
use Rattle.ly_grammar.specs.Items.{closed}
use Rattle.ly_grammar.specs.Items.{moved, onto}
use Rattle.ly_grammar.proofs.ItemLemmas.{body_of}
use Rattle.ly_grammar.proofs.SearchLemmas.{rule_is_one}
use Rattle.ly_sets.specs.NumberSet.{Member}
use Rattle.ly_lr0.specs.Automaton.{Lr0Automaton, IsLr0Automaton, Reaches, State, goto_of, prefix_of, state_at}
use Rattle.ly_lr0.proofs.StateLemmas.{state_there}
use Rattle.ly_relate.specs.Relations.{Leaves}
use Rattle.ly_relate.proofs.LeaveLemmas.{end_leaves, leaves_end, leaves_shift, shift_leaves}
use Rattle.ly_lookahead.specs.Lookaheads.{AreLookaheads, Lookaheads, set_at}
use Rattle.ly_lookahead.proofs.LookaheadLemmas.{no_zero}
use Rattle.ly_resolve.specs.Actions.{Action, IsRaw, error, reduce, shift}

-- STRINGS OF ONE CORE

same_back : {G : Grammar} {g h : List Symbol} → SameCore G g h → SameCore G h g
same_back same p before after = ((same p before after).1, (same p before after).0)

same_on : {G : Grammar} {g h k : List Symbol} → SameCore G g h → SameCore G h k → SameCore G g k
same_on a b p before after = (
  λ x. (b p before after).0 ((a p before after).0 x),
  λ x. (a p before after).1 ((b p before after).1 x),
)

pub merges_back : {G : Grammar} {g h : List Symbol} → Merges G g h → Merges G h g
merges_back m = record { left = m.right; right = m.left; cores = same_back m.cores }

-- at strings of one core the same is asked for
pub raw_too : {G : Grammar} {g h : List Symbol} → Merges G g h → (t : ℕ) (a : Action) → IsRaw G g t a → IsRaw G h t a
raw_too m t shift (p, before, after, core) = (p, before, after, (m.cores p before (terminal t ∷ after)).0 core)
raw_too m t (reduce p) (some, la) = (
  some,
  record {
    at = la.at;
    merges = record { left = m.right; right = la.merges.right; cores = same_on (same_back m.cores) la.merges.cores };
    before = la.before;
    valid = la.valid;
  },
)
raw_too m t error raw = raw

-- TERMINALS ARE THOSE OF THE GRAMMAR

-- the symbol is one of the grammar
abbrev IsBelow : ℕ → Symbol → Type 0
IsBelow n (terminal t) = t < n
IsBelow n (nonterminal A) = Unit {0}

all_below : (G : Grammar) (w : List Symbol) → All (SymbolWithin G.terminals G.accept) w → All (IsBelow G.terminals) w
all_below G [] all = λ k d l. absurd (omega (arith, l))
all_below G (X ∷ w) all = below_cons X w (symbol X (All-head (SymbolWithin G.terminals G.accept) X w all))
    (all_below G w (All-tail (SymbolWithin G.terminals G.accept) X w all))
  where
    symbol : (X : Symbol) → SymbolWithin G.terminals G.accept X → IsBelow G.terminals X
    symbol (terminal t) is = is.1
    symbol (nonterminal A) is = tt

    below_cons : (X : Symbol) (w : List Symbol) → IsBelow G.terminals X → All (IsBelow G.terminals) w
        → All (IsBelow G.terminals) (X ∷ w)
    below_cons X w x all zero d l = x
    below_cons X w x all (suc k) d l = all k d (omega (arith, l))

rule_below : (G : Grammar) → IsAugmented G → (p : ℕ) (r : GrammarRule) → IsRule G p r → All (IsBelow G.terminals) r.body
rule_below G augmented zero r is =
    subst (λ x. All (IsBelow G.terminals) x.body)
    (sym (rule_is_one G 0 r (accept_rule G.accept G.start) is augmented.rule_0))
    both
  where
    both : All (IsBelow G.terminals) (nonterminal G.start ∷ terminal 0 ∷ [])
    both zero d l = tt
    both (suc zero) d l = augmented.end_within
    both (suc (suc k)) d l = absurd (omega (arith, l))
rule_below G augmented (suc p) r is = all_below G r.body (augmented.within (suc p) r is (omega arith)).body

-- the first of two texts one after another is that of one of them
first_of : (u v : List (Token ℕ)) (x : Token ℕ) (rest : List (Token ℕ)) → u ++ v ≡ x ∷ rest
    → ((u ≡ []) × (v ≡ x ∷ rest)) ⊎ ((w : List (Token ℕ)) × (u ≡ x ∷ w))
first_of [] v x rest e = inl (refl, e)
first_of (y ∷ u) v x rest e = inr (u, (let same : y ≡ x = cc in ap (λ z. z ∷ u) same))

module _ (G : Grammar) (augmented : IsAugmented G) where
  mutual
    -- the first token of a tree has a terminal of the grammar
    tree_below : (X : Symbol) (d : Tree) → IsTree G X d → IsBelow G.terminals X → (x : Token ℕ) (rest : List (Token ℕ))
        → yield_of d ≡ x ∷ rest → x.terminal < G.terminals
    tree_below (terminal k) (leaf t) is below x rest e =
        let same : t ≡ x = cc in subst (λ y. y < G.terminals) (sym is ∙ ap (λ u. u.terminal) same) below
    tree_below (nonterminal A) (leaf t) is below x rest e = absurd is
    tree_below (terminal k) (node p ts) is below x rest e = absurd is
    tree_below (nonterminal A) (node p ts) (r, rule, left, trees) below x rest e =
        trees_below r.body ts trees (rule_below G augmented p r rule) x rest e

    trees_below : (w : List Symbol) (ts : Trees) → AreTrees G w ts → All (IsBelow G.terminals) w → (x : Token ℕ)
        (rest : List (Token ℕ)) → yields_of ts ≡ x ∷ rest → x.terminal < G.terminals
    trees_below [] none is all x rest e = absurd (let no : [] ≡ x ∷ rest → ⊥ = λ z. cc in no e)
    trees_below [] (more t ts) is all x rest e = absurd is
    trees_below (X ∷ w) none is all x rest e = absurd is
    trees_below (X ∷ w) (more t ts) (here, later) all x rest e =
        elim (first_of (yield_of t) (yields_of ts) x rest e) [
          | inl both ↦ trees_below w ts later (All-tail (IsBelow G.terminals) X w all) x rest both.1
          | inr w' ↦ tree_below X t here (All-head (IsBelow G.terminals) X w all) x w'.0 w'.1
        ]

  onto_tail : (before w : List Symbol) → All (IsBelow G.terminals) (onto before w) → All (IsBelow G.terminals) w
  onto_tail [] w all = all
  onto_tail (X ∷ before) w all = All-tail (IsBelow G.terminals) X w (onto_tail before (X ∷ w) all)

  -- a lookahead is a terminal of the grammar
  valid_below : {g : List Symbol} {p : ℕ} {before after : List Symbol} {t : ℕ} → Valid G g p before after t
      → t < G.terminals
  valid_below (at_start is e) = augmented.end_within
  valid_below (closed {before = before} {after = after} {B = B} v is left e (inl (ts, trees, x, rest, yields, u))) =
      let body = body_of v in
      let all = rule_below G augmented _ body.0 body.1 in
      let behind = onto_tail before (nonterminal B ∷ after) (subst (All (IsBelow G.terminals)) (sym body.2) all) in
      subst (λ n. n < G.terminals) u
      (trees_below after ts trees (All-tail (IsBelow G.terminals) (nonterminal B) after behind) x rest yields)
  valid_below (closed v is left e (inr (nullable, same))) = subst (λ n. n < G.terminals) (sym same) (valid_below v)
  valid_below (moved v) = valid_below v

  -- what is asked for is so before a terminal of the grammar
  pub raw_within : (g : List Symbol) (t : ℕ) (a : Action) → IsRaw G g t a → t < G.terminals
  raw_within g t shift (p, before, after, (u, v)) =
      let body = body_of v in
      let all = rule_below G augmented p body.0 body.1 in
      let behind = onto_tail before (terminal t ∷ after) (subst (All (IsBelow G.terminals)) (sym body.2) all) in
      All-head (IsBelow G.terminals) (terminal t) after behind
  raw_within g t (reduce p) (some, la) = valid_below la.valid
  raw_within g t error raw = absurd raw

-- BY WHAT STANDS IN AN AUTOMATON

pub prefix_at : (M : Lr0Automaton) (s : ℕ) (q : State) → slice_get M.states s ≡ Some q → prefix_of M s ≡ q.prefix
prefix_at M s q at = get_or_from_slice_get (map (λ q. q.prefix) M.states) s q.prefix []
    (slice_get-map (λ q. q.prefix) M.states s ∙ ap (option_map (λ q. q.prefix)) at)

module _ (M : Lr0Automaton) (is : IsLr0Automaton M) where
  -- the prefix of a state is viable
  pub viable : (s : ℕ) → s < length M.states → IsViable M.grammar (prefix_of M s)
  viable s lt = is.cores.only (prefix_of M s) s (is.numbered.leads s lt)

  -- a string that leads to a state has the core of its prefix
  pub reached_merges : (g : List Symbol) (s : ℕ) → s < length M.states → Reaches (goto_of M) 0 g s
      → Merges M.grammar (prefix_of M s) g
  reached_merges g s lt reaches = record {
    left = viable s lt;
    right = is.cores.only g s reaches;
    cores = is.cores.same (prefix_of M s) g s (is.numbered.leads s lt) reaches;
  }

  raw_leaves : (s t : ℕ) → s < length M.states → IsRaw M.grammar (prefix_of M s) t shift
      → Leaves M.grammar (goto_of M) s t
  raw_leaves s t lt raw = (prefix_of M s, is.numbered.leads s lt, raw)

  leaves_raw : (s t : ℕ) → s < length M.states → Leaves M.grammar (goto_of M) s t
      → IsRaw M.grammar (prefix_of M s) t shift
  leaves_raw s t lt (g, reaches, next) = raw_too (merges_back (reached_merges g s lt reaches)) t shift next

  -- the end is shifted behind the start symbol
  pub end_shifted : (s : ℕ) → s < length M.states
      → (goto_of M 0 (nonterminal M.grammar.start) ≡ Some s) ↔ IsRaw M.grammar (prefix_of M s) 0 shift
  end_shifted s lt = (
    λ e. leaves_raw s 0 lt (end_leaves M.grammar (goto_of M) is.augmented is.cores e),
    λ raw. leaves_end M.grammar (goto_of M) is.augmented is.cores (raw_leaves s 0 lt raw),
  )

  -- and any other terminal where it leads somewhere
  pub terminal_shifted : (s t : ℕ) → s < length M.states → t ≢ 0
      → ((r : ℕ) × (goto_of M s (terminal t) ≡ Some r)) ↔ IsRaw M.grammar (prefix_of M s) t shift
  terminal_shifted s t lt some = (
    λ w. leaves_raw s t lt (shift_leaves M.grammar (goto_of M) is.augmented is.cores w.1),
    λ raw. leaves_shift M.grammar (goto_of M) is.augmented is.cores (raw_leaves s t lt raw) some,
  )

  -- by what is found there
  pub asks_end : (s t A r : ℕ) (b : Bool) → s < length M.states → t ≡ 0 → A ≡ M.grammar.start
      → Some r ≡ goto_of M 0 (nonterminal A) → b ≡ nat_eq r s → IsTrue b ↔ IsRaw M.grammar (prefix_of M s) t shift
  asks_end s t A r b lt z start goes e = subst (λ u. IsTrue b ↔ IsRaw M.grammar (prefix_of M s) u shift) (sym z)
      (to, back)
    where
      there : goto_of M 0 (nonterminal M.grammar.start) ≡ Some r
      there = ap (λ B. goto_of M 0 (nonterminal B)) (sym start) ∙ sym goes

      to : IsTrue b → IsRaw M.grammar (prefix_of M s) 0 shift
      to held = (end_shifted s lt).0 (elim (cases_eq r s) [
        | inl same ↦ there ∙ ap Some same
        | inr off ↦ absurd (let no : false ≡ true → ⊥ = λ z. cc in no (sym (ne_eqb r s off) ∙ (sym e ∙ held)))
      ])

      back : IsRaw M.grammar (prefix_of M s) 0 shift → IsTrue b
      back raw =
          let one : Some r ≡ Some s = sym there ∙ (end_shifted s lt).1 raw in
          let same : r ≡ s = cc in
          e ∙ eq-eqb r s same

  pub asks_no_end : (s t A : ℕ) → s < length M.states → t ≡ 0 → A ≡ M.grammar.start
      → None ≡ goto_of M 0 (nonterminal A) → IsRaw M.grammar (prefix_of M s) t shift → ⊥
  asks_no_end s t A lt z start nowhere raw =
      let there = (end_shifted s lt).1 (subst (λ u. IsRaw M.grammar (prefix_of M s) u shift) z raw) in
      let no : None ≡ Some s = nowhere ∙ (ap (λ B. goto_of M 0 (nonterminal B)) start ∙ there) in
      cc

  pub asks_terminal : (s t : ℕ) (o : Option StateNo) (b : Bool) → s < length M.states → t ≢ 0
      → option_map (λ r. r.0) o ≡ goto_of M s (terminal t) → b ≡ is_some o
      → IsTrue b ↔ IsRaw M.grammar (prefix_of M s) t shift
  asks_terminal s t (Some r) b lt some goes e = (
    λ held. (terminal_shifted s t lt some).0 (r.0, sym goes),
    λ raw. e,
  )
  asks_terminal s t None b lt some goes e = (
    λ held. absurd (let no : false ≡ true → ⊥ = λ z. cc in no (sym e ∙ held)),
    λ raw. absurd (let w = (terminal_shifted s t lt some).1 raw in let no : None ≡ Some w.0 = goes ∙ w.1 in cc),
  )

  -- a rule by which a reduction is asked for is complete
  pub reduction_complete : (s t p : ℕ) → s < length M.states → IsRaw M.grammar (prefix_of M s) t (reduce p)
      → Contains (state_at M s).complete p
  reduction_complete s t p lt (some, la) =
      let there = state_there M s lt in
      let complete : IsComplete M.grammar (prefix_of M s) p
      = (la.before, (la.merges.cores p la.before []).1 (t, la.valid)) in
      ((is.each s (state_at M s) there).complete p).1
      (subst (λ g. IsComplete M.grammar g p) (prefix_at M s (state_at M s) there) complete)

  -- A reduction is asked for by the rules that are complete and have the terminal among their lookaheads.
  module _ (L : Lookaheads) (are : AreLookaheads M L) (s : ℕ) (lt : s < length M.states) (t : ℕ) where
    pub reduced_at : (k p : ℕ) → slice_get (state_at M s).complete k ≡ Some p → Member (set_at L s k) t
        → IsRaw M.grammar (prefix_of M s) t (reduce p)
    reduced_at k p at member =
        let there = state_there M s lt in
        let la = subst (λ g. InLookahead M.grammar g p t) (sym (prefix_at M s (state_at M s) there))
        ((are.are s k p t (state_at M s) there at).0 member) in
        (some p la, la)
      where
        some : (p : ℕ) → InLookahead M.grammar (prefix_of M s) p t → 1 ≤ p
        some zero la = absurd (no_zero is.augmented refl la.merges.right.0 la.valid)
        some (suc p) la = omega arith

    pub reduction_at : (p : ℕ) → IsRaw M.grammar (prefix_of M s) t (reduce p)
        → (k : ℕ) × (slice_get (state_at M s).complete k ≡ Some p) × Member (set_at L s k) t
    reduction_at p raw =
        let there = state_there M s lt in
        let same = prefix_at M s (state_at M s) there in
        let k = placed (state_at M s).complete p (reduction_complete s t p lt raw) in (
          k.0,
          k.1,
          (are.are s k.0 p t (state_at M s) there k.1).1 (subst (λ g. InLookahead M.grammar g p t) same raw.1),
        )

-- RULE BY RULE

-- the rules of a list before a place that meet a condition on their places, rising
pub record AreFoundTo (complete : List ℕ) (P : ℕ → Type 0) (i : ℕ) (found : List ℕ) : Type 0 where
  pub these : (p : ℕ) → Contains found p ↔ ((k : ℕ) × (k < i) × (slice_get complete k ≡ Some p) × P k)
  pub rising : AllPairs (λ p q. p < q) found

pub found_none : (complete : List ℕ) (P : ℕ → Type 0) → AreFoundTo complete P 0 []
found_none complete P = record {
  these = λ p. ((λ has. Contains-none p has), λ w. absurd (let lt = w.1 in omega (arith, lt)));
  rising = λ i j d l m. absurd (omega (arith, m));
}

module _ (complete : List ℕ) (P : ℕ → Type 0) (i x : ℕ) (at : slice_get complete i ≡ Some x)
    (sorted : AllPairs (λ p q. p < q) complete) where
  pub found_more : (found new : List ℕ) → new ≡ found ++ x ∷ [] → P i → AreFoundTo complete P i found
      → AreFoundTo complete P (i + 1) new
  found_more found new e here before = subst (AreFoundTo complete P (i + 1)) (sym e) (record {
    these = λ p. (
      λ has. elim (Contains-append_cases found (x ∷ []) p has) [
        | inl old ↦ let w = (before.these p).0 old in (w.0, (let lt = w.1 in omega (arith, lt)), w.2, w.3)
        | inr now ↦ (i, omega arith, at ∙ ap Some (Contains-one x p now), here)
      ],
      λ w. elim (cases_eq w.0 i) [
        | inl same ↦
            let one : Some p ≡ Some x = sym w.2 ∙ (ap (slice_get complete) same ∙ at) in
            let e : x ≡ p = cc in
            Contains-append_right found (x ∷ []) p (subst (Contains (x ∷ [])) e (Contains-first x []))
        | inr off ↦ Contains-append_left found (x ∷ []) p
            ((before.these p).1 (w.0, (let lt = w.1 in omega (arith, lt, off)), w.2, w.3))
      ],
    );
    rising = AllPairs-append (λ p q. p < q) found (x ∷ []) before.rising
        (λ j k d l m. absurd (omega (arith, l, m)))
        (λ p q hp hq. subst (λ y. p < y) (Contains-one x q hq)
        (let w = (before.these p).0 hp in
        let less = sorted w.0 i 0 w.1 (slice_get_within complete i x at) in
        let a = get_or_from_slice_get complete w.0 p 0 w.2 in
        let b = get_or_from_slice_get complete i x 0 at in
        omega (arith, less, a, b)));
  })

  pub found_past : (found : List ℕ) → (P i → ⊥) → AreFoundTo complete P i found → AreFoundTo complete P (i + 1) found
  found_past found off before = record {
    these = λ p. (
      λ has. let w = (before.these p).0 has in (w.0, (let lt = w.1 in omega (arith, lt)), w.2, w.3),
      λ w. elim (cases_eq w.0 i) [
        | inl same ↦ absurd (off (subst P same w.3))
        | inr differs ↦ (before.these p).1 (w.0, (let lt = w.1 in omega (arith, lt, differs)), w.2, w.3)
      ],
    );
    rising = before.rising;
  }
