-- What stands behind and before the dots of items, as the code looks it up.
use Rattle.std.proofs.Common.{◌≡◌, ◌∙◌, ◌⊎◌, ◌↔◌, inl, inr, ℕ, suc, ◌+◌, ◌-◌, ◌<◌, ◌≤◌, List, [], ◌∷◌, ◌++◌}
use Rattle.std.proofs.Common.{Bool, true, Option, Some, None, option_map, refl, sym, ap, subst, arith}
use Rattle.std.proofs.Common.{length, take, drop, slice_get, slice_index_or, Contains}
use Rattle.std.specs.Option.{is_some}
use Rattle.std.proofs.lemmas.List.{take_more, take_all}
use Rattle.std.proofs.lemmas.List.Elements.{Contains-append_cases, Contains-append_left, Contains-append_right}
use Rattle.std.proofs.lemmas.Option.{slice_get_within}
use Rattle.ly_base.specs.declared.numbers.StateNo.{StateNo}
use Rattle.ly_base.proofs.MemberLemmas.{Contains-first, Contains-none, Contains-one}
use Rattle.ly_join.specs.Grammar.{Grammar, IsRule, GrammarRule, Symbol, nonterminal}
use Rattle.ly_grammar.specs.Reduction.{KeepsUseful}
use Rattle.ly_grammar.proofs.SearchLemmas.{rule_is_one}
use Rattle.ly_lr0.specs.Automaton.{Lr0Automaton, goto_of}
use Rattle.ly_relate.proofs.WalkLemmas.{drop_at, slice_at_drop}
use Rattle.ly_counterexamples.specs.Demands.{IsAhead, IsBefore, IsBegun, PopsTo}
use Rattle.ly_lr0.specs.declared.item.Item.{Item}
use Rattle.ly_counterexamples.specs.declared.claim.Claim.{Claim}
use Rattle.ly_counterexamples.specs.declared.claim.Claim.TheVariants.{InCore, Settled, With}
use Rattle.ly_counterexamples.specs.Private.Met.{item_at}
use Rattle.ly_counterexamples.specs.Private.Steps.{IsRelated}

-- the rule of a number in the whole grammar is the one that is kept
pub kept_is : (H R G : Grammar) (p : ℕ) (s r : GrammarRule) → KeepsUseful H R → R ≡ G → IsRule H p s → IsRule G p r
    → s ≡ r
kept_is H R G p s r keeps same whole kept =
    rule_is_one H p s r whole ((keeps.rules p r).0 (subst (λ A. IsRule A p r) (sym same) kept)).0

pub kept_number : (H R G : Grammar) (p : ℕ) (r : GrammarRule) → KeepsUseful H R → R ≡ G → IsRule G p r
    → p < length H.rules
kept_number H R G p r keeps same kept =
    slice_get_within H.rules p (Some r) ((keeps.rules p r).0 (subst (λ A. IsRule A p r) (sym same) kept)).0

-- what stands at the dot is ahead of it
pub ahead_at : (G : Grammar) (i : Item) (X : Symbol) (r : GrammarRule) → IsRule G i.rule r
    → slice_get r.body i.dot ≡ Some X
    → IsAhead G i X (drop (i.dot + 1) r.body)
ahead_at G i X r is at = record { rule = r; is_rule = is; ahead = drop_at r.body i.dot X at }

pub at_ahead : (G : Grammar) (i : Item) (X : Symbol) (rest : List Symbol) (r : GrammarRule) → IsRule G i.rule r
    → IsAhead G i X rest → (slice_get r.body i.dot ≡ Some X) × (rest ≡ drop (i.dot + 1) r.body)
at_ahead G i X rest r is a = slice_at_drop r.body i.dot X rest
    (ap (λ x. drop i.dot x.body) (rule_is_one G i.rule r a.rule is a.is_rule) ∙ a.ahead)

-- The item whose dot is one symbol before that of another.
module _ (G : Grammar) (i : Item) (r : GrammarRule) (is : IsRule G i.rule r) where
  -- the two items are apart by that symbol
  before_of : (X : Symbol) (j : Item) → IsBefore G X i j
      → (item_at i.rule (i.dot - 1) ≡ j) × (slice_get r.body (i.dot - 1) ≡ Some X)
  before_of X j (rule, dot, rest, ahead) =
      let less : i.dot - 1 ≡ j.dot = omega (arith, dot) in
      let at = at_ahead G j X rest r (subst (λ p. IsRule G p r) rule is) ahead in (
        ap (λ p. item_at p (i.dot - 1)) rule ∙ ap (item_at j.rule) less,
        subst (λ d. slice_get r.body d ≡ Some X) (sym less) at.0,
      )

  pub is_before : (X : Symbol) → 0 < i.dot → slice_get r.body (i.dot - 1) ≡ Some X
      → (j : Item) → IsBefore G X i j ↔ (Some (item_at i.rule (i.dot - 1)) ≡ Some j)
  is_before X some at j = (
    λ before. ap (λ k. Some k) (before_of X j before).0,
    λ e.
        let same : item_at i.rule (i.dot - 1) ≡ j = cc in
        subst (IsBefore G X i) same (
          refl,
          (let e : i.dot ≡ suc (i.dot - 1) = omega (arith, some) in e),
          drop (i.dot - 1 + 1) r.body,
          ahead_at G (item_at i.rule (i.dot - 1)) X r is at,
        ),
  )

  pub not_before : (X Y : Symbol) → slice_get r.body (i.dot - 1) ≡ Some Y → (Y ≡ X → ⊥)
      → (j : Item) → IsBefore G X i j ↔ (None ≡ Some j)
  not_before X Y at other j = (
    λ before.
        let there = (before_of X j before).1 in
        let same : Y ≡ X = cc in
        absurd (other same),
    λ e. absurd (cc),
  )

-- what a claim pops to is made of the item before its own
pub popped_core : (G : Grammar) (X : Symbol) (i : Item) (o : Option Item)
    → ((j : Item) → IsBefore G X i j ↔ (o ≡ Some j))
    → (c : Claim) → PopsTo G X (InCore i) c ↔ (option_map (λ j. InCore j) o ≡ Some c)
popped_core G X i None one Settled = ((λ pops. absurd pops), (λ e. absurd (cc)))
popped_core G X i None one (With j) = ((λ pops. absurd pops), (λ e. absurd (cc)))
popped_core G X i None one (InCore j) =
    ((λ pops. let e = (one j).0 pops in absurd (cc)), (λ e. absurd (cc)))
popped_core G X i (Some k) one Settled = ((λ pops. absurd pops), (λ e. absurd (cc)))
popped_core G X i (Some k) one (With j) = ((λ pops. absurd pops), (λ e. absurd (cc)))
popped_core G X i (Some k) one (InCore j) = (
  λ pops. let e = (one j).0 pops in let same : k ≡ j = cc in ap (λ x. Some (InCore x)) same,
  λ e. let same : k ≡ j = cc in (one j).1 (ap (λ x. Some x) same),
)

pub popped_with : (G : Grammar) (X : Symbol) (i : Item) (o : Option Item)
    → ((j : Item) → IsBefore G X i j ↔ (o ≡ Some j))
    → (c : Claim) → PopsTo G X (With i) c ↔ (option_map (λ j. With j) o ≡ Some c)
popped_with G X i None one Settled = ((λ pops. absurd pops), (λ e. absurd (cc)))
popped_with G X i None one (InCore j) = ((λ pops. absurd pops), (λ e. absurd (cc)))
popped_with G X i None one (With j) =
    ((λ pops. let e = (one j).0 pops in absurd (cc)), (λ e. absurd (cc)))
popped_with G X i (Some k) one Settled = ((λ pops. absurd pops), (λ e. absurd (cc)))
popped_with G X i (Some k) one (InCore j) = ((λ pops. absurd pops), (λ e. absurd (cc)))
popped_with G X i (Some k) one (With j) = (
  λ pops. let e = (one j).0 pops in let same : k ≡ j = cc in ap (λ x. Some (With x)) same,
  λ e. let same : k ≡ j = cc in (one j).1 (ap (λ x. Some x) same),
)

-- a rule is begun where its left side leaves the state
pub leaves : (M : Lr0Automaton) (s q : ℕ) (r : GrammarRule) (o : Option StateNo) (b : Bool) → IsRule M.grammar q r
    → option_map (λ x. x.0) o ≡ goto_of M s (nonterminal r.left) → (q ≡ 0 → s ≡ 0 → ⊥) → b ≡ is_some o
    → (b ≡ true) ↔ IsBegun M s q
leaves M s q r None b is goes never test = (
  λ yes. absurd (cc),
  λ begun. elim begun [
    | inl both ↦ absurd (never both.0 both.1)
    | inr (r', is', x, goes') ↦
        let same = rule_is_one M.grammar q r r' is is' in
        let there : None ≡ Some x = goes ∙ ap (λ w. goto_of M s (nonterminal w.left)) same ∙ goes' in
        absurd (cc)
  ],
)
leaves M s q r (Some x) b is goes never test = ((λ yes. inr (r, is, x.0, sym goes)), (λ begun. test))

-- ONE MORE OF A LIST

-- one more at the end of a list
pub pushed_one : {X : Type 0} (old new : List X) (x : X) → new ≡ old ++ x ∷ []
    → (y : X) → Contains new y ↔ (Contains old y ⊎ (x ≡ y))
pushed_one old new x e y = (
  λ has. elim (Contains-append_cases old (x ∷ []) y (subst (λ w. Contains w y) e has)) [
    | inl was ↦ inl was
    | inr last ↦ inr (Contains-one x y last)
  ],
  λ either. subst (λ w. Contains w y) (sym e) (elim either [
    | inl was ↦ Contains-append_left old (x ∷ []) y was
    | inr same ↦ Contains-append_right old (x ∷ []) y (subst (Contains (x ∷ [])) same (Contains-first x []))
  ]),
)

pub pushed_as : {X : Type 0} (P : X → Type 0) (old new : List X) (x : X) → new ≡ old ++ x ∷ []
    → ((y : X) → P y ↔ (x ≡ y)) → (y : X) → Contains new y ↔ (Contains old y ⊎ P y)
pushed_as P old new x e is y = (
  λ has. elim ((pushed_one old new x e y).0 has) [ inl was ↦ inl was | inr same ↦ inr ((is y).1 same) ],
  λ either. (pushed_one old new x e y).1 (elim either [ inl was ↦ inl was | inr p ↦ inr ((is y).0 p) ]),
)

-- a list that was empty has just what is added
module _ {Y : Type 0} (P : Y → Type 0) (old new : List Y) (empty : old ≡ []) where
  pub only_none : new ≡ old → ((y : Y) → P y → ⊥) → (y : Y) → Contains new y ↔ P y
  only_none e never y = (
    λ has. Contains-none y (subst (λ w. Contains w y) (e ∙ empty) has),
    λ p. absurd (never y p),
  )

  pub only_one : (x : Y) → new ≡ old ++ x ∷ [] → ((y : Y) → (x ≡ y) ↔ P y) → (y : Y) → Contains new y ↔ P y
  only_one x e is y = (
    λ has. elim ((pushed_one old new x e y).0 has) [
      | inl was ↦ Contains-none y (subst (λ w. Contains w y) empty was)
      | inr same ↦ (is y).0 same
    ],
    λ p. (pushed_one old new x e y).1 (inr ((is y).1 p)),
  )

  pub only_those : (Q : Y → Type 0) → ((y : Y) → Contains new y ↔ (Contains old y ⊎ Q y)) → ((y : Y) → Q y ↔ P y)
      → (y : Y) → Contains new y ↔ P y
  only_those Q e is y = (
    λ has. elim ((e y).0 has) [
      | inl was ↦ Contains-none y (subst (λ w. Contains w y) empty was)
      | inr those ↦ (is y).0 those
    ],
    λ p. (e y).1 (inr ((is y).1 p)),
  )

-- what holds of what an option has, holds of that alone
pub some_alone : {Y : Type 0} (P : Y → Type 0) (o : Option Y) → ((y : Y) → P y ↔ (o ≡ Some y)) → (z : Y) → o ≡ Some z
    → (y : Y) → P y ↔ (z ≡ y)
some_alone P o one z is y = (
  λ p. let e = (one y).0 p in cc,
  λ e. (one y).1 (is ∙ ap (λ x. Some x) e),
)

pub none_at_all : {Y : Type 0} (P : Y → Type 0) (o : Option Y) → ((y : Y) → P y ↔ (o ≡ Some y)) → o ≡ None
    → (y : Y) → P y → ⊥
none_at_all P o one is y p = let e = (one y).0 p in cc

module _ {X Y : Type 0} (R : X → Y → Type 0) (xs : List X) where
  pub none_related : (y : Y) → IsRelated R (take 0 xs) y → ⊥
  none_related y (x, among, related) = Contains-none x among

  pub more_related : (k : ℕ) (x : X) → k < length xs → (y : Y)
      → IsRelated R (take (k + 1) xs) y ↔ (IsRelated R (take k xs) y ⊎ R (slice_index_or xs k x) y)
  more_related k x lt y = (
    λ (z, among, related).
        elim ((pushed_one (take k xs) (take (k + 1) xs) (slice_index_or xs k x) (take_more xs k x lt) z).0 among) [
          | inl was ↦ inl (z, was, related)
          | inr same ↦ inr (subst (λ w. R w y) (sym same) related)
        ],
    λ either. elim either [
      | inl (z, among, related) ↦ (
        z,
        (pushed_one (take k xs) (take (k + 1) xs) (slice_index_or xs k x) (take_more xs k x lt) z).1 (inl among),
        related,
      )
      | inr related ↦ (
        slice_index_or xs k x,
        (pushed_one (take k xs) (take (k + 1) xs) (slice_index_or xs k x)
            (take_more xs k x lt) (slice_index_or xs k x)).1 (inr refl),
        related,
      )
    ],
  )

  pub all_related : (k : ℕ) → length xs ≤ k → (y : Y) → IsRelated R (take k xs) y ↔ IsRelated R xs y
  all_related k past y =
      let e = take_all k xs past in
      ((λ has. subst (λ w. IsRelated R w y) e has), (λ has. subst (λ w. IsRelated R w y) (sym e) has))

  pub nothing_yet : (found : List Y) → found ≡ [] → (y : Y) → Contains found y ↔ IsRelated R (take 0 xs) y
  nothing_yet found empty y = (
    λ has. Contains-none y (subst (λ w. Contains w y) empty has),
    λ has. absurd (none_related y has),
  )

  pub related_skip : (k : ℕ) (x : X) → k < length xs → ((y : Y) → R (slice_index_or xs k x) y → ⊥) → (found : List Y)
      → ((y : Y) → Contains found y ↔ IsRelated R (take k xs) y) → (y : Y)
      → Contains found y ↔ IsRelated R (take (k + 1) xs) y
  related_skip k x lt never found are y = (
    λ has. (more_related k x lt y).1 (inl ((are y).0 has)),
    λ has. elim ((more_related k x lt y).0 has) [ inl was ↦ (are y).1 was | inr is ↦ absurd (never y is) ],
  )

  pub related_on : (k : ℕ) (x : X) → k < length xs → (z : Y) → ((y : Y) → R (slice_index_or xs k x) y ↔ (z ≡ y))
      → (found new : List Y) → new ≡ found ++ z ∷ [] → ((y : Y) → Contains found y ↔ IsRelated R (take k xs) y)
      → (y : Y) → Contains new y ↔ IsRelated R (take (k + 1) xs) y
  related_on k x lt z one found new e are y = (
    λ has. (more_related k x lt y).1 (elim ((pushed_one found new z e y).0 has) [
      | inl was ↦ inl ((are y).0 was)
      | inr is ↦ inr ((one y).1 is)
    ]),
    λ has. (pushed_one found new z e y).1 (elim ((more_related k x lt y).0 has) [
      | inl was ↦ inl ((are y).1 was)
      | inr is ↦ inr ((one y).0 is)
    ]),
  )

  -- the same, beside what was there before
  pub related_beside : (P : Y → Type 0) (k : ℕ) (x : X) → k < length xs → (found new : List Y)
      → ((y : Y) → Contains new y ↔ (Contains found y ⊎ R (slice_index_or xs k x) y))
      → ((y : Y) → Contains found y ↔ (P y ⊎ IsRelated R (take k xs) y)) → (y : Y)
      → Contains new y ↔ (P y ⊎ IsRelated R (take (k + 1) xs) y)
  related_beside P k x lt found new one are y = (
    λ has. elim ((one y).0 has) [
      | inl was ↦ elim ((are y).0 was) [ inl p ↦ inl p | inr some ↦ inr ((more_related k x lt y).1 (inl some)) ]
      | inr is ↦ inr ((more_related k x lt y).1 (inr is))
    ],
    λ has. (one y).1 (elim has [
      | inl p ↦ inl ((are y).1 (inl p))
      | inr some ↦ elim ((more_related k x lt y).0 some) [
        | inl was ↦ inl ((are y).1 (inr was))
        | inr is ↦ inr is
      ]
    ]),
  )
