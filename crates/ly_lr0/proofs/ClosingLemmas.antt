-- How what a kernel closes to is found.
use Rattle.std.proofs.Common.{◌≡◌, inl, inr, ℕ, zero, suc, ◌+◌, ◌<◌, ◌≤◌, List, [], ◌∷◌, ◌++◌, Some}
use Rattle.std.proofs.Common.{refl, sym, ◌∙◌, ap, subst, arith, length, map}
use Rattle.std.specs.Prelude.{◌↔◌, Bool, Contains, nat_eq, not, slice_get, slice_index_or}
use Rattle.std.specs.List.{list_any}
use Rattle.std.proofs.lemmas.Bool.{cases_Bool, cases_lt}
use Rattle.std.proofs.lemmas.List.{append-nil, append_assoc, get_or_default, get_or-map, get_or_append_left}
use Rattle.std.proofs.lemmas.List.{length-append, length-map}
use Rattle.std.proofs.lemmas.List.Elements.{Contains-append_left, Contains-get_or, Contains-push, Contains-push_cases}
use Rattle.std.proofs.lemmas.Option.{get_or_from_slice_get, slice_get-get_or, slice_get_within}
use Rattle.ly_base.proofs.MemberLemmas.{Contains-none}
use Rattle.ly_base.proofs.SparseSetLemmas.{inserted_new, inserted_old}
use Rattle.ly_base.specs.SparseSet.{Chosen, with_member}
use Rattle.ly_join.specs.Grammar.{Grammar, IsAugmented, IsRule, GrammarRule, Symbol, SymbolWithin, accept_rule}
use Rattle.ly_join.specs.Grammar.{nonterminal}
use Rattle.ly_join.specs.Grammar.{symbol_of}
use Rattle.ly_join.specs.declared.symbol.Symbol as code
use Rattle.ly_grammar.specs.Reduction.{IsReduction, Reduction}
use Rattle.ly_grammar.proofs.SearchLemmas.{rule_is_one}
use Rattle.ly_lr0.specs.declared.item.Item.{Item}
use Rattle.ly_lr0.specs.Private.Closing.{AreAdded, AreByLeft, IsAdded, IsAtEnd, IsKept, IsListed, IsMove}
use Rattle.ly_lr0.specs.Private.Items.{IsBehind, IsClosed, IsEntered, added, given}

-- a rule that is kept is the grammar's
pub kept_one : (F : Grammar) (R : Reduction) (p : ℕ) (s : GrammarRule) → IsReduction F R → IsKept R.grammar p
    → IsRule F p s
    → IsRule R.grammar p s
kept_one F R p s is kept here =
    let there = (is.keeps.rules p kept.0).0 kept.1 in
    let same : kept.0 ≡ s = rule_is_one F p kept.0 s there.0 here in
    subst (IsRule R.grammar p) same kept.1

module _ (F : Grammar) (R : Reduction) (i : Item) (s : GrammarRule) (body : List code.Symbol) (is : IsReduction F R)
    (kept : IsKept R.grammar i.rule) (here : IsRule F i.rule s) (same : map symbol_of body ≡ s.body) where
  pub at_end : length body ≤ i.dot → IsAtEnd R.grammar i
  at_end long = (
    s,
    kept_one F R i.rule s is kept here,
    omega (arith, long, length-map body symbol_of, ap length same),
  )

  pub is_move : (X : code.Symbol) → i.dot < length body → X ≡ slice_index_or body i.dot X
      → IsMove R.grammar i (record { symbol = X; item = record { rule = i.rule; dot = i.dot + 1 } })
  is_move X less at =
      let within : i.dot < length s.body = omega (arith, less, length-map body symbol_of, ap length same) in
      let symbol : slice_index_or s.body i.dot (symbol_of X) ≡ symbol_of X
      = ap (λ w. slice_index_or w i.dot (symbol_of X)) (sym same) ∙ get_or-map symbol_of body i.dot X (symbol_of X) less
      ∙ ap symbol_of (sym at) in
      record {
        rule = refl;
        dot = omega arith;
        behind = (
          s,
          kept_one F R i.rule s is kept here,
          slice_get-get_or s.body i.dot (symbol_of X) within ∙ ap (λ Y. Some Y) symbol,
        );
      }

-- one symbol stands behind a dot
pub behind_one : (G : Grammar) (p d : ℕ) (X Y : Symbol) → IsBehind G p d X → IsBehind G p d Y → X ≡ Y
behind_one G p d X Y a b =
    let same : a.0 ≡ b.0 = rule_is_one G p a.0 b.0 a.1 b.1 in
    let e : Some X ≡ Some Y = sym a.2 ∙ ap (λ r. slice_get r.body d) same ∙ b.2 in
    cc

-- and none behind one at the end
pub end_off : (G : Grammar) (i : Item) (X : Symbol) → IsAtEnd G i → IsBehind G i.rule i.dot X → ⊥
end_off G i X e b =
    let same : e.0 ≡ b.0 = rule_is_one G i.rule e.0 b.0 e.1 b.1 in
    let less = slice_get_within b.0.body i.dot X b.2 in
    omega (arith, e.2, less, ap (λ r. length r.body) same)

-- nonterminals behind dots are less than that of the whole text
pub behind_within : (G : Grammar) (p d A : ℕ) → IsAugmented G → IsBehind G p d (nonterminal A) → A < G.accept
behind_within G zero d A is b =
    let same : b.0 ≡ accept_rule G.accept G.start = rule_is_one G 0 b.0 _ b.1 is.rule_0 in
    at_zero d (ap (λ r. slice_get r.body d) (sym same) ∙ b.2)
  where
    at_zero : (d : ℕ) → slice_get (accept_rule G.accept G.start).body d ≡ Some (nonterminal A) → A < G.accept
    at_zero zero e =
        let same : G.start ≡ A = cc in
        let less = is.start_within in omega arith
    at_zero (suc zero) e = absurd (cc)
    at_zero (suc (suc d)) e = absurd (cc)
behind_within G (suc p) d A is b =
    let within = is.within (suc p) b.0 b.1 (omega arith) in
    let here = within.body d (nonterminal A) (slice_get_within b.0.body d (nonterminal A) b.2) in
    subst (SymbolWithin G.terminals G.accept) (get_or_from_slice_get b.0.body d (nonterminal A) (nonterminal A) b.2)
    here

-- nothing was added
pub added_none : (G : Grammar) (i : Item) (old : Chosen) → ((A : ℕ) → IsBehind G i.rule i.dot (nonterminal A) → ⊥)
    → IsAdded G i old old
added_none G i old none = record {
  below = refl;
  few = λ l. l;
  more = [];
  grown = sym (append-nil old.members);
  sound = λ A c. inl c;
  there = λ A b. absurd (none A b);
}

-- the nonterminal behind the dot was
pub added_one : (G : Grammar) (i : Item) (old new : Chosen) (A : ℕ) (is_new : Bool)
    → IsBehind G i.rule i.dot (nonterminal A)
    → new ≡ record old { members = with_member old.members A }
    → is_new ≡ not (list_any (nat_eq A) old.members) → length new.members ≤ new.below → IsAdded G i old new
added_one G i old new A is_new here same answered few = elim (cases_Bool is_new) [
  | inl is_one ↦
      let grown = inserted_new old new A is_new same answered is_one in
      record {
        below = ap (λ s. s.below) same;
        few = λ _. few;
        more = A ∷ [];
        grown = grown;
        sound = λ B c. elim (Contains-push_cases old.members A B (subst (λ ms. Contains ms B) grown c)) [
          | inl was ↦ inl was
          | inr last ↦ inr (subst (λ C. IsBehind G i.rule i.dot (nonterminal C)) last here)
        ];
        there = λ B b. subst (Contains new.members) (one B b) (subst (λ ms. Contains ms A) (sym grown)
            (Contains-push old.members A));
      }
  | inr is_none ↦
      let was = inserted_old old new A is_new same answered is_none in
      record {
        below = ap (λ s. s.below) same;
        few = λ _. few;
        more = [];
        grown = was.1 ∙ sym (append-nil old.members);
        sound = λ B c. inl (subst (λ ms. Contains ms B) was.1 c);
        there = λ B b. subst (Contains new.members) (one B b) (subst (λ ms. Contains ms A) (sym was.1) was.0);
      }
]
  where
    one : (B : ℕ) → IsBehind G i.rule i.dot (nonterminal B) → A ≡ B
    one B b = let e = behind_one G i.rule i.dot (nonterminal A) (nonterminal B) here b in cc

members_kept : (G : Grammar) (i : Item) (old new : Chosen) (A : ℕ) → IsAdded G i old new → Contains old.members A
    → Contains new.members A
members_kept G i old new A a c = subst (λ ms. Contains ms A) (sym a.grown) (Contains-append_left old.members a.more A c)

pub are_added_none : (G : Grammar) (old : Chosen) → AreAdded G [] old old
are_added_none G old = record {
  below = refl;
  few = λ l. l;
  more = [];
  grown = sym (append-nil old.members);
  sound = λ A c. inl c;
  there = λ A q c. Contains-none q c;
}

pub are_added_more : (G : Grammar) (rs : List ℕ) (q : ℕ) (old mid new : Chosen) → AreAdded G rs old mid
    → IsAdded G (record { rule = q; dot = 0 }) mid new → AreAdded G (rs ++ q ∷ []) old new
are_added_more G rs q old mid new a b = record {
  below = b.below ∙ a.below;
  few = λ l. b.few (a.few l);
  more = a.more ++ b.more;
  grown = b.grown ∙ ap (λ ms. ms ++ b.more) a.grown ∙ append_assoc old.members a.more b.more;
  sound = λ A c. elim (b.sound A c) [
    | inl was ↦ elim (a.sound A was) [
      | inl older ↦ inl older
      | inr x ↦ inr (x.0, Contains-append_left rs (q ∷ []) x.0 x.1, x.2)
    ]
    | inr here ↦ inr (q, Contains-push rs q, here)
  ];
  there = λ A p c h. elim (Contains-push_cases rs q p c) [
    | inl was ↦ members_kept G (record { rule = q; dot = 0 }) mid new A b (a.there A p was h)
    | inr same ↦ b.there A (subst (λ n. IsBehind G n 0 (nonterminal A)) (sym same) h)
  ];
}

-- A closing under way: the nonterminals behind the dots of some items of a kernel are entered, and those that the rules
-- of the first entered ones begin with.
pub record IsClosing (G : Grammar) (lists : List (List ℕ)) (kernel items : List Item) (next : ℕ)
    (s : Chosen) : Type 0 where
  pub few : length s.members ≤ s.below
  pub sound : (A : ℕ) → Contains s.members A → IsEntered G kernel A
  pub there : (i : Item) (A : ℕ) → Contains items i → IsBehind G i.rule i.dot (nonterminal A) → Contains s.members A
  pub within : next ≤ length s.members
  pub done : (j q B : ℕ) → j < next → Contains (slice_index_or lists (slice_index_or s.members j 0) []) q
      → IsBehind G q 0 (nonterminal B) → Contains s.members B

module _ (G : Grammar) (lists : List (List ℕ)) (kernel : List Item) where
  pub closing_start : (s : Chosen) → s.members ≡ [] → IsClosing G lists kernel [] 0 s
  closing_start s none = record {
    few = let e = ap length none in omega arith;
    sound = λ A c. Contains-none A (subst (λ ms. Contains ms A) none c);
    there = λ i A c. Contains-none i c;
    within = omega arith;
    done = λ j q B l. absurd (omega (arith, l));
  }

  pub closing_item : (items : List Item) (i : Item) (s t : Chosen) → IsClosing G lists kernel items 0 s
      → Contains kernel i
      → IsAdded G i s t → IsClosing G lists kernel (items ++ i ∷ []) 0 t
  closing_item items i s t was here a = record {
    few = a.few was.few;
    sound = λ A c. elim (a.sound A c) [
      | inl old ↦ was.sound A old
      | inr behind ↦ (i.rule, i.dot, given here, behind)
    ];
    there = λ j A c b. elim (Contains-push_cases items i j c) [
      | inl old ↦ members_kept G i s t A a (was.there j A old b)
      | inr same ↦ a.there A (subst (λ k. IsBehind G k.rule k.dot (nonterminal A)) (sym same) b)
    ];
    within = omega arith;
    done = λ j q B l. absurd (omega (arith, l));
  }

  module _ (by : AreByLeft G lists) where
    pub entered_within : (A : ℕ) → IsEntered G kernel A → A < G.accept
    entered_within A e = behind_within G e.0 e.1 A by.augmented e.3

    pub closing_next : (items : List Item) (next : ℕ) (s t : Chosen) → IsClosing G lists kernel items next s
        → next < length s.members → AreAdded G (slice_index_or lists (slice_index_or s.members next 0) []) s t
        → IsClosing G lists kernel items (next + 1) t
    closing_next items next s t was less a = record {
      few = a.few was.few;
      sound = λ A c. elim (a.sound A c) [
        | inl old ↦ was.sound A old
        | inr x ↦
            let left = slice_index_or s.members next 0 in
            let from = was.sound left (Contains-get_or s.members next 0 less) in
            let rule = (by.rules left x.0 (let w = entered_within left from in omega arith)).0 x.1 in
            (x.0, 0, added from.2 from.3 rule.1 rule.2, x.2)
      ];
      there = λ i A c b. kept A (was.there i A c b);
      within = omega (arith, less, longer);
      done = λ j q B l c b. elim (cases_lt j next) [
        | inl low ↦ kept B (was.done j q B low (subst (λ A. Contains (slice_index_or lists A []) q)
            (same j (omega (arith, low, less))) c) b)
        | inr past ↦
            let here : j ≡ next = omega (arith, l, past) in
            a.there B q (subst (λ A. Contains (slice_index_or lists A []) q) (same j (omega (arith, here, less))
            ∙ ap (λ k. slice_index_or s.members k 0) here) c) b
      ];
    }
      where
        kept : (A : ℕ) → Contains s.members A → Contains t.members A
        kept A c = subst (λ ms. Contains ms A) (sym a.grown) (Contains-append_left s.members a.more A c)

        longer : length s.members ≤ length t.members
        longer = omega (arith, ap length a.grown, length-append s.members a.more)

        same : (j : ℕ) → j < length s.members → slice_index_or t.members j 0 ≡ slice_index_or s.members j 0
        same j l = ap (λ ms. slice_index_or ms j 0) a.grown ∙ get_or_append_left s.members a.more 0 j l

    closed_there : (s : Chosen) → IsClosing G lists kernel kernel (length s.members) s → {p d : ℕ}
        → IsClosed G kernel p d
        → (B : ℕ) → IsBehind G p d (nonterminal B) → Contains s.members B
    closed_there s was (given {p = p} {d = d} c) B b = was.there (record { rule = p; dot = d }) B c b
    closed_there s was (added {p = p} {d = d} {B = A} {q = q} {r = r} c h is left) B b =
        let at = closed_there s was c A h in
        was.done at.0 q B (default_length s A at)
        (subst (λ A. Contains (slice_index_or lists A []) q) (sym (default_at s A at))
        ((by.rules A q (let w = behind_within G p d A by.augmented h in omega arith)).1 (r, is, left))) b
      where
        default_length : (s : Chosen) (A : ℕ) (at : Contains s.members A) → at.0 < length s.members
        default_length s A at = at.1

        default_at : (s : Chosen) (A : ℕ) (at : Contains s.members A) → slice_index_or s.members at.0 0 ≡ A
        default_at s A at = get_or_default s.members at.0 0 A at.1 ∙ at.2

    pub closing_end : (s : Chosen) (next : ℕ) → IsClosing G lists kernel kernel next s → length s.members ≤ next
        → (A : ℕ) → Contains s.members A ↔ IsEntered G kernel A
    closing_end s next was end A = (
      was.sound A,
      λ e. closed_there s (subst (λ n. IsClosing G lists kernel kernel n s) (let w = was.within in omega arith) was) e.2
          A e.3,
    )

    -- the items that are listed are those that the kernel closes to
    pub listed_closed : (entered : List ℕ) → ((A : ℕ) → Contains entered A ↔ IsEntered G kernel A) → (i : Item)
        → IsListed lists kernel entered i ↔ IsClosed G kernel i.rule i.dot
    listed_closed entered are i = (
      λ l. elim l [
        | inl c ↦ given c
        | inr x ↦
            let e = (are x.0).0 x.1 in
            let rule = (by.rules x.0 i.rule (let w = entered_within x.0 e in omega arith)).0 x.2 in
            subst (λ n. IsClosed G kernel i.rule n) (sym x.3) (added e.2 e.3 rule.1 rule.2)
      ],
      λ c. back c,
    )
      where
        back : {p d : ℕ} → IsClosed G kernel p d → IsListed lists kernel entered (record { rule = p; dot = d })
        back (given c) = inl c
        back (added {p = p} {d = d} {B = A} {q = q} {r = r} c b is left) = inr (
          A,
          (are A).1 (p, d, c, b),
          (by.rules A q (let w = behind_within G p d A by.augmented b in omega arith)).1 (r, is, left),
          refl,
        )
