-- Claims by which a rule with nothing before its dot is valid, and demands that are popped to, one by one.
use Rattle.std.proofs.Common.{◌≡◌, ◌∙◌, ◌⊎◌, ◌↔◌, inl, inr, ℕ, zero, suc, ◌+◌, ◌<◌, ◌≤◌, List, [], ◌∷◌, ◌++◌}
use Rattle.std.proofs.Common.{Bool, true, false, Option, Some, None, option_map, refl, sym, ap, subst, arith}
use Rattle.std.proofs.Common.{length, map, drop, slice_index_or, All, Contains}
use Rattle.std.proofs.lemmas.List.{drop-map, get_or-drop, length-drop, length-map}
use Rattle.std.proofs.lemmas.Option.{slice_get_within}
use Rattle.ly_base.specs.declared.numbers.StateNo.{StateNo}
use Rattle.ly_base.specs.Lexed.{Token}
use Rattle.ly_base.specs.Trees.{Trees, leaf, none, more}
use Rattle.ly_join.specs.Grammar.{Grammar, IsAugmented, IsRule, GrammarRule, Symbol, SymbolWithin, accept_rule}
use Rattle.ly_join.specs.Grammar.{nonterminal, symbol_of, terminal}
use Rattle.ly_join.specs.declared.symbol.Symbol as code
use Rattle.ly_grammar.specs.Derivations.{AreTrees, BeginsYield, IsNullable, IsReduced}
use Rattle.ly_grammar.proofs.ReduceLemmas.{occurs_body}
use Rattle.ly_grammar.proofs.SearchLemmas.{rule_is_one}
use Rattle.ly_lr0.specs.Automaton.{Lr0Automaton, goto_of}
use Rattle.ly_lr0.proofs.GroupLemmas.{symbol_one}
use Rattle.ly_relate.specs.Private.Walks.{HasNumberTo}
use Rattle.ly_relate.proofs.WalkLemmas.{slice_at_drop}
use Rattle.ly_counterexamples.specs.Demands.{ClimbsTo, IsAhead, IsBegun, IsClimb, IsPop, PopsTo}
use Rattle.ly_lr0.specs.declared.item.Item.{Item}
use Rattle.ly_counterexamples.specs.declared.steps.Pop.{Pop}
use Rattle.ly_counterexamples.specs.declared.claim.Claim.{Claim}
use Rattle.ly_counterexamples.specs.declared.claim.Claim.TheVariants.{InCore, Settled, With}
use Rattle.ly_counterexamples.specs.declared.claim.Demand.{Demand}
use Rattle.ly_counterexamples.specs.Private.Grounds.{AreWaiting}
use Rattle.ly_counterexamples.specs.Private.Met.{item_at}
use Rattle.ly_counterexamples.specs.Private.Steps.{ArePopped, IsClaimOn, IsClimbOfFirst, IsRelated, IsWithFirst}
use Rattle.ly_counterexamples.specs.Private.Steps.{IsWithSecond}
use Rattle.ly_counterexamples.proofs.BackLemmas.{at_ahead, pushed_one}
use Rattle.ly_counterexamples.proofs.RestLemmas.{trees_from}

-- THE REST OF A BODY

number_to : (terminals accept : ℕ) (X : Symbol) → SymbolWithin terminals accept X → HasNumberTo accept X
number_to terminals accept (terminal k) within = tt
number_to terminals accept (nonterminal A) within = omega (arith, within)

module _ (G : Grammar) (augmented : IsAugmented G) where
  -- the symbols of a body have numbers
  pub body_within : (p : ℕ) (r : GrammarRule) → IsRule G p r → All (HasNumberTo G.accept) r.body
  body_within zero r is = subst (λ x. All (HasNumberTo G.accept) x.body)
      (rule_is_one G 0 (accept_rule G.accept G.start) r augmented.rule_0 is) start
    where
      start : All (HasNumberTo G.accept) (nonterminal G.start ∷ terminal 0 ∷ [])
      start zero d lt = omega (arith, augmented.start_within)
      start (suc zero) d lt = tt
      start (suc (suc k)) d lt = absurd (omega (arith, lt))
  body_within (suc p) r is = λ k d lt. number_to G.terminals G.accept (slice_index_or r.body k d)
      ((augmented.within (suc p) r is (omega arith)).body k d lt)

  -- a body has trees
  body_trees : IsReduced G → (p : ℕ) (r : GrammarRule) → IsRule G p r → (ts : Trees) × AreTrees G r.body ts
  body_trees reduced zero r is =
      let start = reduced.start_tree in
      let end : Token ℕ = record { terminal = 0; at = 0; bytes = [] } in
      subst (λ x. (ts : Trees) × AreTrees G x.body ts)
      (rule_is_one G 0 (accept_rule G.accept G.start) r augmented.rule_0 is)
      (more start.0 (more (leaf end) none), (start.1, (refl, tt)))
  body_trees reduced (suc p) r is =
      let useful = reduced.useful (suc p) r is (omega arith) in
      let has = occurs_body G (nonterminal G.start) useful.0 (suc p) useful.1 useful.2 in
      (has.trees, subst (λ x. AreTrees G x.body has.trees) (rule_is_one G (suc p) has.rule r has.is is) has.are)

-- What stands behind the symbol ahead of an item's dot.
module _ (G : Grammar) (i : Item) (X : Symbol) (rest : List Symbol) (a : IsAhead G i X rest) where
  rest_of : rest ≡ drop (i.dot + 1) a.rule.body
  rest_of = (slice_at_drop a.rule.body i.dot X rest a.ahead).1

  pub rest_within : IsAugmented G → All (HasNumberTo G.accept) rest
  rest_within augmented = subst (All (HasNumberTo G.accept)) (sym rest_of) (λ k d lt.
      subst (HasNumberTo G.accept) (sym (get_or-drop (i.dot + 1) a.rule.body k d))
      (body_within G augmented i.rule a.rule a.is_rule (i.dot + 1 + k) d
      (omega (arith, lt, length-drop (i.dot + 1) a.rule.body))))

  pub rest_trees : IsAugmented G → IsReduced G → (ts : Trees) × AreTrees G rest ts
  rest_trees augmented reduced = subst (λ w. (ts : Trees) × AreTrees G w ts) (sym rest_of)
      (trees_from G a.rule.body (i.dot + 1) (body_trees G augmented reduced i.rule a.rule a.is_rule))

  -- as the code has it
  module _ (body : List code.Symbol) (s : GrammarRule) (is : map symbol_of body ≡ s.body) (same : s ≡ a.rule) where
    pub rest_room : i.dot < length body
    rest_room =
        let lt = slice_get_within a.rule.body i.dot X (slice_at_drop a.rule.body i.dot X rest a.ahead).0 in
        let long : length body ≡ length a.rule.body
        = sym (length-map body symbol_of) ∙ ap length is ∙ ap (λ r. length r.body) same in
        omega (arith, lt, long)

    pub rest_shown : (w : List code.Symbol) → w ≡ drop (i.dot + 1) body → map symbol_of w ≡ rest
    rest_shown w e = ap (map symbol_of) e ∙ sym (drop-map symbol_of (i.dot + 1) body)
        ∙ ap (drop (i.dot + 1)) (is ∙ ap (λ r. r.body) same) ∙ sym rest_of

  -- the claims on the item
  pub claim_is : (t : ℕ) (c : Claim) → IsClaimOn G t i c
      ↔ ((BeginsYield G rest t × (InCore i ≡ c)) ⊎ (IsNullable G rest × (With i ≡ c)))
  claim_is t Settled = (
    (λ by_item. absurd by_item),
    (λ either. elim either [
      | inl begins ↦ let e = begins.1 in absurd (cc)
      | inr null ↦ let e = null.1 in absurd (cc)
    ]),
  )
  claim_is t (InCore j) = (
    λ (same, Y, w, b, begins).
        let at = at_ahead G j Y w a.rule (subst (λ k. IsRule G k.rule a.rule) same a.is_rule) b in
        let e : w ≡ rest = at.1 ∙ ap (λ k. drop (k.dot + 1) a.rule.body) (sym same) ∙ sym rest_of in
        inl (subst (λ u. BeginsYield G u t) e begins, ap (λ k. InCore k) same),
    λ either. elim either [
      | inl begins ↦
          let e = begins.1 in
          let same : i ≡ j = cc in
          (same, X, rest, subst (λ k. IsAhead G k X rest) same a, begins.0)
      | inr null ↦ let e = null.1 in absurd (cc)
    ],
  )
  claim_is t (With j) = (
    λ (same, Y, w, b, null).
        let at = at_ahead G j Y w a.rule (subst (λ k. IsRule G k.rule a.rule) same a.is_rule) b in
        let e : w ≡ rest = at.1 ∙ ap (λ k. drop (k.dot + 1) a.rule.body) (sym same) ∙ sym rest_of in
        inr (subst (IsNullable G) e null, ap (λ k. With k) same),
    λ either. elim either [
      | inl begins ↦ let e = begins.1 in absurd (cc)
      | inr null ↦
          let e = null.1 in
          let same : i ≡ j = cc in
          (same, X, rest, subst (λ k. IsAhead G k X rest) same a, null.0)
    ],
  )

  -- one claim is pushed where a test holds
  abbrev pub IsPushedIf : Bool → Claim → List Claim → List Claim → Type 0
  IsPushedIf b c old new = ((b ≡ true) × (new ≡ old ++ c ∷ [])) ⊎ ((b ≡ false) × (new ≡ old))

  pushed_if : (P : Type 0) (b : Bool) (c : Claim) (old new : List Claim) → (b ≡ true) ↔ P → IsPushedIf b c old new
      → (e : Claim) → Contains new e ↔ (Contains old e ⊎ (P × (c ≡ e)))
  pushed_if P b c old new test (inl (held, longer)) e = (
    λ has. elim ((pushed_one old new c longer e).0 has) [ inl was ↦ inl was | inr same ↦ inr (test.0 held, same) ],
    λ either. (pushed_one old new c longer e).1 (elim either [ inl was ↦ inl was | inr both ↦ inr both.1 ]),
  )
  pushed_if P b c old new test (inr (missed, same)) e = (
    λ has. inl (subst (λ w. Contains w e) same has),
    λ either. elim either [
      | inl was ↦ subst (λ w. Contains w e) (sym same) was
      | inr both ↦ (let held = test.1 both.0 in absurd (cc))
    ],
  )

  pub pushed_claims : (t : ℕ) (b n : Bool) (old mid new : List Claim) → (b ≡ true) ↔ BeginsYield G rest t
      → (n ≡ true) ↔ IsNullable G rest → IsPushedIf b (InCore i) old mid → IsPushedIf n (With i) mid new
      → (c : Claim) → Contains new c ↔ (Contains old c ⊎ IsClaimOn G t i c)
  pushed_claims t b n old mid new begins nullable first second c =
      let one = pushed_if (BeginsYield G rest t) b (InCore i) old mid begins first c in
      let two = pushed_if (IsNullable G rest) n (With i) mid new nullable second c in
      let by_item = claim_is t c in (
        λ has. elim (two.0 has) [
          | inl was ↦ elim (one.0 was) [ inl before ↦ inl before | inr core ↦ inr (by_item.1 (inl core)) ]
          | inr null ↦ inr (by_item.1 (inr null))
        ],
        λ either. elim either [
          | inl before ↦ two.1 (inl (one.1 (inl before)))
          | inr some ↦ elim (by_item.0 some) [
            | inl core ↦ two.1 (inl (one.1 (inr core)))
            | inr null ↦ two.1 (inr null)
          ]
        ],
      )

-- the claims on the items that wait for the left side of a rule are those that it climbs to
pub claims_climb : (M : Lr0Automaton) (t q : ℕ) (r : GrammarRule) (is : List Item) → IsRule M.grammar q r
    → ((i : Item) → Contains is i ↔ ((rest : List Symbol) × IsAhead M.grammar i (nonterminal r.left) rest))
    → (c : Claim) → IsRelated (IsClaimOn M.grammar t) is c ↔ ClimbsTo M t 0 (With (item_at q 0)) c
claims_climb M t q r is rule exact Settled = ((λ (i, among, by_item). absurd by_item), (λ climbs. absurd climbs))
claims_climb M t q r is rule exact (InCore j) = (
  λ (i, among, (same, Y, w, b, begins)).
      let there = (exact j).0 (subst (Contains is) same among) in
      let at = at_ahead M.grammar j Y w there.1.rule there.1.is_rule b in
      let at' = at_ahead M.grammar j (nonterminal r.left) there.0 there.1.rule there.1.is_rule there.1 in
      (refl, there.0, (r, rule, there.1), subst (λ u. BeginsYield M.grammar u t) (at.1 ∙ sym at'.1) begins),
  λ (dot, rest, (r', rule', ahead), begins).
      let same = rule_is_one M.grammar q r' r rule' rule in
      let ahead' = subst (λ x. IsAhead M.grammar j (nonterminal x.left) rest) same ahead in
      (j, (exact j).1 (rest, ahead'), (refl, nonterminal r.left, rest, ahead', begins)),
)
claims_climb M t q r is rule exact (With j) = (
  λ (i, among, (same, Y, w, b, null)).
      let there = (exact j).0 (subst (Contains is) same among) in
      let at = at_ahead M.grammar j Y w there.1.rule there.1.is_rule b in
      let at' = at_ahead M.grammar j (nonterminal r.left) there.0 there.1.rule there.1.is_rule there.1 in
      (refl, there.0, (r, rule, there.1), subst (IsNullable M.grammar) (at.1 ∙ sym at'.1) null),
  λ (dot, rest, (r', rule', ahead), null).
      let same = rule_is_one M.grammar q r' r rule' rule in
      let ahead' = subst (λ x. IsAhead M.grammar j (nonterminal x.left) rest) same ahead in
      (j, (exact j).1 (rest, ahead'), (refl, nonterminal r.left, rest, ahead', null)),
)

-- the items that wait for the left side of a rule, as they are looked up
pub waiting_exact : (G : Grammar) (lists : List (List Item)) (q n : ℕ) (r : GrammarRule) (xs : List Item)
    → IsAugmented G → AreWaiting G lists → IsRule G q r → n ≡ r.left → xs ≡ slice_index_or lists n [] → (i : Item)
    → Contains xs i ↔ ((rest : List Symbol) × IsAhead G i (nonterminal r.left) rest)
waiting_exact G lists q n r xs augmented are rule left e i =
    subst (λ w. Contains w i ↔ ((rest : List Symbol) × IsAhead G i (nonterminal r.left) rest))
    (sym (e ∙ ap (λ m. slice_index_or lists m []) left)) (are.exact r.left i (within q rule))
  where
    within : (p : ℕ) → IsRule G p r → r.left ≤ G.accept
    within zero is =
        let same = rule_is_one G 0 (accept_rule G.accept G.start) r augmented.rule_0 is in
        omega (arith, ap (λ x. x.left) same)
    within (suc p) is = omega (arith, (augmented.within (suc p) r is (omega arith)).left)

-- what a rule with nothing before its dot climbs to doesn't depend on the state
pub climb_anywhere : (M : Lr0Automaton) (t s : ℕ) (i : Item) → i.dot ≡ 0 → (c : Claim)
    → ClimbsTo M t 0 (With (item_at i.rule 0)) c ↔ ClimbsTo M t s (With i) c
climb_anywhere M t s i dot Settled = ((λ no_climb. absurd no_climb), (λ no_climb. absurd no_climb))
climb_anywhere M t s i dot (InCore j) = (
  λ (e, rest, waits, begins). (dot, rest, waits, begins),
  λ (e, rest, waits, begins). (refl, rest, waits, begins),
)
climb_anywhere M t s i dot (With j) = (
  λ (e, rest, waits, null). (dot, rest, waits, null),
  λ (e, rest, waits, null). (refl, rest, waits, null),
)

-- a rule in the core climbs to nothing more where it is begun
pub climb_core : (M : Lr0Automaton) (t s : ℕ) (i : Item) → i.dot ≡ 0 → IsBegun M s i.rule → (c : Claim)
    → (Settled ≡ c) ↔ ClimbsTo M t s (InCore i) c
climb_core M t s i dot begun Settled = ((λ e. (dot, begun)), (λ climbs. refl))
climb_core M t s i dot begun (InCore j) = ((λ e. absurd (cc)), (λ climbs. absurd climbs))
climb_core M t s i dot begun (With j) = ((λ e. absurd (cc)), (λ climbs. absurd climbs))

-- what climbs nowhere
pub climb_settled : (M : Lr0Automaton) (t s : ℕ) (c : Claim) → ClimbsTo M t s Settled c → ⊥
climb_settled M t s Settled climbs = climbs
climb_settled M t s (InCore j) climbs = climbs
climb_settled M t s (With j) climbs = climbs

pub climb_far : (M : Lr0Automaton) (t s : ℕ) (i : Item) → (i.dot ≡ 0 → ⊥) → (c : Claim) → ClimbsTo M t s (With i) c → ⊥
climb_far M t s i far Settled climbs = climbs
climb_far M t s i far (InCore j) climbs = far climbs.0
climb_far M t s i far (With j) climbs = far climbs.0

pub climb_not_begun : (M : Lr0Automaton) (t s : ℕ) (i : Item) → (i.dot ≡ 0 → IsBegun M s i.rule → ⊥) → (c : Claim)
    → ClimbsTo M t s (InCore i) c → ⊥
climb_not_begun M t s i never Settled climbs = never climbs.0 climbs.1
climb_not_begun M t s i never (InCore j) climbs = climbs
climb_not_begun M t s i never (With j) climbs = climbs

-- CLIMBS

-- the demand with another claim
pub with_first : (d : Demand) (c : Claim) (e : Demand) → IsWithFirst d c e ↔ (record d { first = c } ≡ e)
with_first d c e = (
  λ (state, first, second).
      let at : StateNo → Claim → Claim → Demand = λ s a b. record { state = s; first = a; second = b } in
      ap (λ s. at s c d.second) (sym state) ∙ ap (λ a. at e.state a d.second) (sym first)
      ∙ ap (at e.state e.first) (sym second),
  λ same. subst (IsWithFirst d c) same (refl, refl, refl),
)

pub with_second : (d : Demand) (c : Claim) (e : Demand) → IsWithSecond d c e ↔ (record d { second = c } ≡ e)
with_second d c e = (
  λ (state, second, first).
      let at : StateNo → Claim → Claim → Demand = λ s a b. record { state = s; first = a; second = b } in
      ap (λ s. at s d.first c) (sym state) ∙ ap (λ a. at e.state a c) (sym first)
      ∙ ap (at e.state e.first) (sym second),
  λ same. subst (IsWithSecond d c) same (refl, refl, refl),
)

module _ (M : Lr0Automaton) (t : ℕ) (d : Demand) (cs : List Claim) where
  pub firsts_are : ((c : Claim) → Contains cs c ↔ ClimbsTo M t d.state.0 d.first c) → (e : Demand)
      → IsRelated (IsWithFirst d) cs e ↔ IsClimbOfFirst M t d e
  firsts_are exact e = (
    λ (c, among, (state, first, second)).
        (state, subst (ClimbsTo M t d.state.0 d.first) (sym first) ((exact c).0 among), second),
    λ (state, climbs, second). (e.first, (exact e.first).1 climbs, (state, refl, second)),
  )

  pub climbs_are : ((c : Claim) → Contains cs c ↔ ClimbsTo M t d.state.0 d.second c) → (e : Demand)
      → (IsClimbOfFirst M t d e ⊎ IsRelated (IsWithSecond d) cs e) ↔ IsClimb M t d e
  climbs_are exact e = (
    λ either. elim either [
      | inl (state, climbs, second) ↦ (state, inl (climbs, second))
      | inr (c, among, (state, second, first)) ↦
          (state, inr (subst (ClimbsTo M t d.state.0 d.second) (sym second) ((exact c).0 among), first))
    ],
    λ (state, either). elim either [
      | inl (climbs, second) ↦ inl (state, climbs, second)
      | inr (climbs, first) ↦ inr (e.second, (exact e.second).1 climbs, (state, refl, first))
    ],
  )

-- POPS

module _ (G : Grammar) (X : Symbol) (d : Demand) (first second : Option Claim)
    (one : (c : Claim) → PopsTo G X d.first c ↔ (first ≡ Some c))
    (two : (c : Claim) → PopsTo G X d.second c ↔ (second ≡ Some c)) where
  -- the demand with the claims that its own pop to
  pub both_popped : (a b : Claim) → first ≡ Some a → second ≡ Some b → (e : Demand) → ArePopped G X d e
      ↔ (Some (record d { first = a; second = b }) ≡ Some e)
  both_popped a b is_a is_b e = (
    λ (state, pops, pops').
        let same : a ≡ e.first = (let f = (one e.first).0 pops in cc) in
        let same' : b ≡ e.second = (let f = (two e.second).0 pops' in cc) in
        let at : StateNo → Claim → Claim → Demand = λ s u v. record { state = s; first = u; second = v } in
        ap (λ y. Some y) (ap (λ s. at s a b) (sym state) ∙ ap (λ u. at e.state u b) same
        ∙ ap (at e.state e.first) same'),
    λ f.
        let same : record d { first = a; second = b } ≡ e = cc in
        subst (ArePopped G X d) same (refl, (one a).1 is_a, (two b).1 is_b),
  )

  pub no_first : first ≡ None → (e : Demand) → ArePopped G X d e ↔ (None ≡ Some e)
  no_first nothing e = (
    λ (state, pops, pops'). let f = (one e.first).0 pops in absurd (cc),
    λ f. absurd (cc),
  )

  pub no_second : second ≡ None → (e : Demand) → ArePopped G X d e ↔ (None ≡ Some e)
  no_second nothing e = (
    λ (state, pops, pops'). let f = (two e.second).0 pops' in absurd (cc),
    λ f. absurd (cc),
  )

-- to the demand with another state, over the symbol
abbrev pub pop_from : code.Symbol → Demand → StateNo → Pop
pop_from X e q = record { symbol = X; demand = record e { state = q } }

-- All transitions to the state of a demand are over one symbol, so it pops over that alone, from each predecessor of
-- the state.
module _ (M : Lr0Automaton) (d : Demand) (symbol : Option code.Symbol)
    (only : (q : ℕ) (X : Symbol) → goto_of M q X ≡ Some d.state.0 → option_map symbol_of symbol ≡ Some X) where
  module _ (X : code.Symbol) (there : symbol ≡ Some X) where
    leads_over : (q : ℕ) (Y : Symbol) → goto_of M q Y ≡ Some d.state.0 → symbol_of X ≡ Y
    leads_over q Y goes =
        let over : Some (symbol_of X) ≡ Some Y = ap (option_map symbol_of) (sym there) ∙ only q Y goes in
        cc

    popped_over : (p : Pop) → IsPop M (symbol_of p.symbol) d p.demand
        → (X ≡ p.symbol) × ArePopped M.grammar (symbol_of X) d (record p.demand { state = d.state })
    popped_over p (goes, first, second) =
        let same = symbol_one X p.symbol (leads_over p.demand.state.0 (symbol_of p.symbol) goes) in (
          same,
          subst (λ Y. ArePopped M.grammar (symbol_of Y) d (record p.demand { state = d.state })) (sym same)
              (refl, first, second),
        )

    pub pops_never : ((e : Demand) → ArePopped M.grammar (symbol_of X) d e → ⊥) → (p : Pop)
        → IsPop M (symbol_of p.symbol) d p.demand → ⊥
    pops_never never p pops = never (record p.demand { state = d.state }) (popped_over p pops).1

    pub pops_are : (e : Demand) → ((f : Demand) → ArePopped M.grammar (symbol_of X) d f ↔ (e ≡ f))
        → (qs : List StateNo) → ((q : StateNo) → Contains qs q ↔ ((Y : Symbol) × (goto_of M q.0 Y ≡ Some d.state.0)))
        → (p : Pop) → IsRelated (λ q r. pop_from X e q ≡ r) qs p ↔ IsPop M (symbol_of p.symbol) d p.demand
    pops_are e one qs exact p = (
      λ (q, among, is).
          let (Y, goes) = (exact q).0 among in
          let popped = (one e).1 refl in
          subst (λ r. IsPop M (symbol_of r.symbol) d r.demand) is
          (subst (λ Z. goto_of M q.0 Z ≡ Some d.state.0) (sym (leads_over q.0 Y goes)) goes, popped.1, popped.2),
      λ pops.
          let over = popped_over p pops in
          let same = (one (record p.demand { state = d.state })).0 over.1 in
          let q = p.demand.state in
          let is : pop_from X e q ≡ p
          = ap (λ f. pop_from X f q) same ∙ ap (λ Y. pop_from Y p.demand q) over.0 in
          (q, (exact q).1 (symbol_of p.symbol, pops.0), is),
    )
