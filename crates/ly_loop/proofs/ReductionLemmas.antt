-- The rules by which states reduce, as rows list them.
use Rattle.std.proofs.Common.{◌≡◌, ◌∙◌, ◌⊎◌, ◌-◌, inl, inr, ◌++◌, ◌∷◌, [], ℕ, List, Option, Some, None, Contains}
use Rattle.std.proofs.Common.{Bool, Bor, ap, arith, eqb-true, false, is_some, length, refl, slice_get, subst, sym, true}
use Rattle.std.specs.BTreeMap.{BTreeMap, is_at}
use Rattle.std.specs.BTreeMap as tree
use Rattle.std.specs.Map.{lookup}
use Rattle.std.specs.Option.{option_copied}
use Rattle.std.specs.Prelude.{cond, nat_eq}
use Rattle.std.specs.List.{list_any}
use Rattle.std.specs.Global.{Vec}
use Rattle.std.proofs.lemmas.List.Elements.{Contains-append_left, Contains-push, Contains-push_cases}
use Rattle.std.specs.Cmp.{nat_eq_equiv}
use Rattle.std.proofs.lemmas.Map.Views.{Contains-from_any, list_any-from_Contains}
use Rattle.ly_base.proofs.ListLemmas.{some_at}
use Rattle.ly_base.specs.SparseSet.{with_member}
use Rattle.ly_base.specs.declared.numbers.RuleNo.{RuleNo}
use Rattle.ly_pack.specs.Machine.{IsMachine, IsRuleNumber, IsTableRule, Machine, TableAction, TableRule, action_of}
use Rattle.ly_pack.specs.Machine.{entry_at, or_default, reduce}
use Rattle.ly_pack.specs.Steady.{rule_at}
use Rattle.ly_pack.specs.Values.{action_from}
use Rattle.ly_pack.specs.declared.action.TableAction as code
use Rattle.ly_pack.specs.declared.action.TableAction.TheVariants.{Shift, Reduce, Accept, Error}
use Rattle.ly_pack.specs.declared.cell.Cell.{Cell}
use Rattle.ly_pack.proofs.OrderLemmas.{slice_get-push_cases}
use Rattle.ly_pack.proofs.LegalLemmas.{legal_reduction}
use Rattle.ly_pack.proofs.WithinLemmas.{rule_known}
use Rattle.ly_loop.specs.Private.Entries.{AreEntries}
use Rattle.ly_loop.specs.Private.Pairs.{pair_cmp}
use Rattle.ly_loop.proofs.PairLemmas.{same_pair}
use Rattle.ly_loop.specs.Private.Reductions.{AreAlike, AreFirsts, AreReducing, AreReductions, AreSeen, EndsAtOnce}
use Rattle.ly_loop.specs.Private.Reductions.{IsIn, IsKeptOn, IsNoted, IsCovered}

in_push : (row : List RuleNo) (r : RuleNo) (n : ℕ) → IsIn row n → IsIn (row ++ r ∷ []) n
in_push row r n is = (is.0, Contains-append_left row (r ∷ []) is.0 is.1, is.2)

-- a rule that wasn't seen
pub noted_new : (rule : RuleNo) (seen : List ℕ) (row : List RuleNo) → list_any (nat_eq rule.0) seen ≡ false
    → IsNoted rule seen row (with_member seen rule.0) (row ++ rule ∷ [])
noted_new rule seen row not = record {
  kept = λ r h. Contains-append_left row (rule ∷ []) r h;
  cases = λ r h. Contains-push_cases row rule r h;
  seen = λ all n h. by_member all n (rw not at h);
  there = λ all. (rule, Contains-push row rule, refl);
}
  where
    by_member : AreSeen seen row → (n : ℕ) → list_any (nat_eq n) (seen ++ rule.0 ∷ []) ≡ true
        → IsIn (row ++ rule ∷ []) n
    by_member all n h =
        let has = Contains-from_any eqb-true n (seen ++ rule.0 ∷ []) h in
        elim (Contains-push_cases seen rule.0 n has) [
          | inl old ↦ in_push row rule n (all n (list_any-from_Contains nat_eq_equiv n seen old))
          | inr same ↦ (rule, Contains-push row rule, same)
        ]

-- a rule that was seen
pub noted_old : (rule : RuleNo) (seen : List ℕ) (row : List RuleNo) → list_any (nat_eq rule.0) seen ≡ true
    → IsNoted rule seen row (with_member seen rule.0) row
noted_old rule seen row has = record {
  kept = λ r h. h;
  cases = λ r h. inl h;
  seen = λ all n h. all n (rw has at h);
  there = λ all. all rule.0 has;
}

-- The row of a state, by its default and the entries so far.
pub record IsRow (m : Machine) (state : ℕ) (entries : List (Cell code.TableAction)) (seen : List ℕ)
    (row : List RuleNo) : Type 0
  where
    pub rules : (r : RuleNo) → Contains row r → IsRuleNumber m r.0
    pub default : (p : ℕ) → slice_get m.defaults state ≡ Some (Some p) → IsIn row p
    pub own : (e : Cell code.TableAction) (p : RuleNo) → Contains entries e → e.entry ≡ Reduce p → IsIn row p.0
    pub all : AreSeen seen row

-- an entry that reduces
pub row_more : (m : Machine) (state : ℕ) (entries : List (Cell code.TableAction)) (seen : List ℕ) (row : List RuleNo)
    (e : Cell code.TableAction) (rule : RuleNo) (new : List ℕ) (row' : List RuleNo) → IsRow m state entries seen row
    → e.entry ≡ Reduce rule → IsRuleNumber m rule.0 → IsNoted rule seen row new row'
    → IsRow m state (entries ++ e ∷ []) new row'
row_more m state entries seen row e rule new row' was is known noted = record {
  rules = λ r h. elim (noted.cases r h) [
    | inl old ↦ was.rules r old
    | inr same ↦ subst (λ (x : RuleNo). IsRuleNumber m x.0) same known
  ];
  default = λ p at. kept p (was.default p at);
  own = λ x p h reduces. elim (Contains-push_cases entries e x h) [
    | inl old ↦ kept p.0 (was.own x p old reduces)
    | inr same ↦
        let both : Reduce rule ≡ Reduce p = sym is ∙ (ap (λ (y : Cell code.TableAction). y.entry) same ∙ reduces) in
        let one : rule ≡ p = cc in
        subst (λ (y : RuleNo). IsIn row' y.0) one (noted.there was.all)
  ];
  all = noted.seen was.all;
}
  where
    kept : (n : ℕ) → IsIn row n → IsIn row' n
    kept n is = (is.0, noted.kept is.0 is.1, is.2)

-- one that doesn't
pub row_same : (m : Machine) (state : ℕ) (entries : List (Cell code.TableAction)) (seen : List ℕ) (row : List RuleNo)
    (e : Cell code.TableAction) → IsRow m state entries seen row → ((p : RuleNo) → e.entry ≡ Reduce p → ⊥)
    → IsRow m state (entries ++ e ∷ []) seen row
row_same m state entries seen row e was not = record {
  rules = was.rules;
  default = was.default;
  own = λ x p h reduces. elim (Contains-push_cases entries e x h) [
    | inl old ↦ was.own x p old reduces
    | inr same ↦ absurd (not p (ap (λ (y : Cell code.TableAction). y.entry) same ∙ reduces))
  ];
  all = was.all;
}

-- no entry so far, and no default
pub row_none : (m : Machine) (state : ℕ) → slice_get m.defaults state ≡ Some None → IsRow m state [] [] []
row_none m state none = record {
  rules = λ r h. absurd (omega (arith, h.1));
  default = λ p is. let no : Some None ≡ Some (Some p) = sym none ∙ is in absurd (cc);
  own = λ e p h is. absurd (omega (arith, h.1));
  all = λ n h. absurd (cc);
}

-- no entry so far, and a default
pub row_default : (m : Machine) (state : ℕ) (rule : RuleNo) (seen : List ℕ) (none_yet : List RuleNo) (new : List ℕ)
    (row : List RuleNo) → slice_get m.defaults state ≡ Some (Some rule.0) → IsRuleNumber m rule.0 → seen ≡ []
    → none_yet ≡ [] → IsNoted rule seen none_yet new row → IsRow m state [] new row
row_default m state rule seen none_yet new row is known e0 e1 said = record {
  rules = λ r h. elim (noted.cases r h) [
    | inl old ↦ absurd (omega (arith, old.1))
    | inr same ↦ subst (λ (x : RuleNo). IsRuleNumber m x.0) same known
  ];
  default = λ p at. let both : Some (Some rule.0) ≡ Some (Some p) = sym is ∙ at in
      let one : rule.0 ≡ p = cc in
      subst (IsIn row) one (noted.there none);
  own = λ e p h reduces. absurd (omega (arith, h.1));
  all = noted.seen none;
}
  where
    noted : IsNoted rule [] [] new row
    noted = subst (λ s. IsNoted rule s [] new row) e0 (subst (λ r. IsNoted rule seen r new row) e1 said)

    none : AreSeen [] []
    none n h = absurd (cc)

reduce_from : (a : code.TableAction) (p : ℕ) → action_from a ≡ reduce p → (q : RuleNo) × (a ≡ Reduce q) × (q.0 ≡ p)
reduce_from (Shift s) p e = absurd (cc)
reduce_from (Reduce q) p e = (q, refl, cc)
reduce_from Accept p e = absurd (cc)
reduce_from Error p e = absurd (cc)

-- the row of all entries
pub row_whole : (m : Machine) (state : ℕ) (entries : List (Cell code.TableAction)) (seen : List ℕ) (row : List RuleNo)
    → AreEntries m state entries → IsRow m state entries seen row → AreReducing m state row
row_whole m state entries seen row are is = record {
  rules = is.rules;
  whole = λ t p action. by_entry t p (entry_at m state t) refl action;
}
  where
    by_default : (p : ℕ) (d : Option (Option ℕ)) → slice_get m.defaults state ≡ d → or_default None d ≡ reduce p
        → IsIn row p
    by_default p None at e = absurd (cc)
    by_default p (Some None) at e = absurd (cc)
    by_default p (Some (Some q)) at e = let same : q ≡ p = cc in subst (IsIn row) same (is.default q at)

    by_entry : (t p : ℕ) (o : Option TableAction) → entry_at m state t ≡ o → action_of m state t ≡ reduce p → IsIn row p
    by_entry t p None at e =
        by_default p (slice_get m.defaults state) refl
        (sym (ap (λ o. or_default o (slice_get m.defaults state)) at) ∙ e)
    by_entry t p (Some a) at e =
        let same : a ≡ reduce p = sym (ap (λ o. or_default o (slice_get m.defaults state)) at) ∙ e in
        let found = are.whole t a at in
        let q = reduce_from found.0.entry p (found.3 ∙ same) in
        subst (IsIn row) q.2 (is.own found.0 q.0 found.1 q.1)

-- an entry that reduces names a rule
pub entry_rule : (m : Machine) (state : ℕ) (entries : List (Cell code.TableAction)) (e : Cell code.TableAction)
    (rule : RuleNo) → IsMachine m → AreEntries m state entries → Contains entries e → e.entry ≡ Reduce rule
    → IsRuleNumber m rule.0
entry_rule m state entries e rule ok are h is =
    legal_reduction m state e.column rule.0 ok (ap (λ o. or_default o (slice_get m.defaults state))
    (are.sound e h).1 ∙ ap action_from is)

-- one row more
pub rows_more : (m : Machine) (rows : List (Vec RuleNo)) (n : ℕ) (row : Vec RuleNo)
    → ((state : ℕ) (r : Vec RuleNo) → slice_get rows state ≡ Some r → AreReductions m state r.items) → length rows ≡ n
    → AreReductions m n row.items → (state : ℕ) (r : Vec RuleNo) → slice_get (rows ++ row ∷ []) state ≡ Some r
    → AreReductions m state r.items
rows_more m rows n row was long now state r at = elim (slice_get-push_cases rows row r state at) [
  | inl old ↦ was state r old
  | inr last ↦ subst (λ k. AreReductions m k r.items) (sym (last.0 ∙ long))
      (subst (λ (x : Vec RuleNo). AreReductions m n x.items) last.1 now)
]

-- a row under other names
pub at_join : (m : Machine) (state : ℕ) (entries : List (Cell code.TableAction)) (seen seen' : List ℕ)
    (row row' : List RuleNo) → seen' ≡ seen → row' ≡ row → IsRow m state entries seen row
    → IsRow m state entries seen' row'
at_join m state entries seen seen' row row' e0 e1 is =
    subst (λ s. IsRow m state entries s row') (sym e0) (subst (IsRow m state entries seen) (sym e1) is)

-- a rule says the same as itself
pub alike_itself : (m : Machine) (p : ℕ) → IsRuleNumber m p → AreAlike m p p
alike_itself m p is =
    let found = some_at m.rules (p - 1) (omega (arith, is)) in
    record {
      rule = found.0;
      other = found.0;
      is_rule = found.1;
      is_other = found.1;
      left = refl;
      size = refl;
    }

-- a row more has what was said
said_push : (m : Machine) (row : List RuleNo) (r : RuleNo) (p : ℕ) → IsCovered m row p → IsCovered m (row ++ r ∷ []) p
said_push m row r p is = (is.0, Contains-append_left row (r ∷ []) is.0 is.1, is.2)

-- nothing is looked up
pub firsts_none : (m : Machine) (firsts : BTreeMap (ℕ × ℕ) RuleNo) (row : List RuleNo) → tree.IsEmpty firsts
    → AreFirsts m firsts row
firsts_none m firsts row empty left size r found =
    let no : tree.get pair_cmp firsts (left, size) ≡ None = ap (lookup (is_at (pair_cmp (left, size)))) empty in
    let both : None ≡ Some r = sym no ∙ found in
    absurd (cc)

-- one that is kept is looked up as well
pub firsts_put : (m : Machine) (old new : BTreeMap (ℕ × ℕ) RuleNo) (row : List RuleNo) (rule : RuleNo) (x : TableRule)
    → IsTableRule m rule.0 x → ((q : ℕ × ℕ) → tree.get pair_cmp new q
    ≡ cond (is_at (pair_cmp (x.left, x.body_length)) q) (Some rule) (tree.get pair_cmp old q))
    → AreFirsts m old row → AreFirsts m new (row ++ rule ∷ [])
firsts_put m old new row rule x is put was left size r found =
    by_test (is_at (pair_cmp (x.left, x.body_length)) (left, size)) refl (sym (put (left, size)) ∙ found)
  where
    by_test : (b : Bool) → is_at (pair_cmp (x.left, x.body_length)) (left, size) ≡ b
        → cond b (Some rule) (tree.get pair_cmp old (left, size)) ≡ Some r
        → Contains (row ++ rule ∷ []) r
        × ((y : TableRule) × (rule_at m r.0 ≡ Some y) × (y.left ≡ left) × (y.body_length ≡ size))
    by_test true at same =
        let pair = same_pair (x.left, x.body_length) (left, size) at in
        let that : rule ≡ r = cc in
        subst (λ (n : RuleNo). Contains (row ++ rule ∷ []) n
        × ((y : TableRule) × (rule_at m n.0 ≡ Some y) × (y.left ≡ left) × (y.body_length ≡ size))) that (
          Contains-push row rule,
          (
            x,
            rule_known m rule.0 x is,
            ap (λ (q : ℕ × ℕ). q.0) pair,
            ap (λ (q : ℕ × ℕ). q.1) pair,
          ),
        )
    by_test false at same =
        let there = was left size r same in
        (Contains-append_left row (rule ∷ []) r there.0, there.1)

-- what is looked up says the same
pub first_said : (m : Machine) (firsts : BTreeMap (ℕ × ℕ) RuleNo) (row : List RuleNo) (rule : RuleNo) (x : TableRule)
    (found : Option (Bor RuleNo)) → IsTableRule m rule.0 x → AreFirsts m firsts row
    → option_copied found ≡ tree.get pair_cmp firsts (x.left, x.body_length) → is_some found ≡ true
    → IsCovered m row rule.0
first_said m firsts row rule x None is all at some = absurd (cc)
first_said m firsts row rule x (Some r) is all at some =
    let there = all x.left x.body_length r.now (sym at) in (
      r.now,
      there.0,
      record {
        rule = there.1.0;
        other = x;
        is_rule = there.1.1;
        is_other = rule_known m rule.0 x is;
        left = there.1.2;
        size = there.1.3;
      },
    )

-- The rules of a row so far are kept, but for those by which a run ends at once, and those that say the same.
pub record AreKeptOn (m : Machine) (state : ℕ) (row kept : List RuleNo) : Type 0 where
  pub rules : (r : RuleNo) → Contains kept r → IsRuleNumber m r.0
  pub whole : (r : RuleNo) → Contains row r → IsCovered m kept r.0 ⊎ EndsAtOnce m state r.0

pub kept_none : (m : Machine) (state : ℕ) → AreKeptOn m state [] []
kept_none m state = record {
  rules = λ r h. absurd (omega (arith, h.1));
  whole = λ r h. absurd (omega (arith, h.1));
}

pub kept_more : (m : Machine) (state : ℕ) (row kept : List RuleNo) (rule : RuleNo) (new : List RuleNo)
    → IsRuleNumber m rule.0 → AreKeptOn m state row kept → IsKeptOn m state rule kept new
    → AreKeptOn m state (row ++ rule ∷ []) new
kept_more m state row kept rule new known was (inl pushed) = record {
  rules = λ r h. elim (Contains-push_cases kept rule r (subst (λ rs. Contains rs r) pushed h)) [
    | inl old ↦ was.rules r old
    | inr same ↦ subst (λ (x : RuleNo). IsRuleNumber m x.0) same known
  ];
  whole = λ r h. elim (Contains-push_cases row rule r h) [
    | inl old ↦ elim (was.whole r old) [
      | inl there ↦ inl (subst (λ rs. IsCovered m rs r.0) (sym pushed) (said_push m kept rule r.0 there))
      | inr ends ↦ inr ends
    ]
    | inr same ↦ inl (subst (λ rs. IsCovered m rs r.0) (sym pushed) (
      rule,
      Contains-push kept rule,
      subst (λ (x : RuleNo). AreAlike m rule.0 x.0) same
          (alike_itself m rule.0 known),
    ))
  ];
}
kept_more m state row kept rule new known was (inr left) = record {
  rules = λ r h. was.rules r (subst (λ rs. Contains rs r) left.0 h);
  whole = λ r h. elim (Contains-push_cases row rule r h) [
    | inl old ↦ elim (was.whole r old) [
      | inl there ↦ inl (subst (λ rs. IsCovered m rs r.0) (sym left.0) there)
      | inr ends ↦ inr ends
    ]
    | inr same ↦ elim left.1 [
      | inl ends ↦ inr (subst (λ (x : RuleNo). EndsAtOnce m state x.0) same ends)
      | inr said ↦ inl (subst (λ rs. IsCovered m rs r.0) (sym left.0)
          (subst (λ (x : RuleNo). IsCovered m kept x.0) same said))
    ]
  ];
}

pub kept_all : (m : Machine) (state : ℕ) (row kept : List RuleNo) → AreReducing m state row
    → AreKeptOn m state row kept → AreReductions m state kept
kept_all m state row kept are is = record {
  rules = is.rules;
  whole = λ t p action.
      let found = are.whole t p action in
      elim (is.whole found.0 found.1) [
        | inl there ↦ inl (subst (IsCovered m kept) found.2 there)
        | inr ends ↦ inr (subst (EndsAtOnce m state) found.2 ends)
      ];
}
