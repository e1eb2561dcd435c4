-- How often a rule stands among those by which a state reduces.
use Rattle.std.proofs.Common.{◌≡◌, ◌≢◌, ◌∙◌, ◌<◌, ◌≤◌, ◌+◌, ◌++◌, ◌∷◌, [], ℕ, zero, suc, List, length, take, All}
use Rattle.std.proofs.Common.{Option, Some, None}
use Rattle.std.proofs.Common.{refl, sym, ap, subst, arith, inl, inr, get_or, nat_eq, Bool, true, false, not}
use Rattle.std.specs.Prelude.{filter, if◌then◌else◌, option_map}
use Rattle.std.specs.List.{range_with_len}
use Rattle.std.proofs.lemmas.Bool.{cases_Bool, eqb-true, eq-eqb}
use Rattle.std.proofs.lemmas.List.{length-append, length-map, length-take, length_push}
use Rattle.std.proofs.lemmas.List.Elements.{filter-append}
use Rattle.std.proofs.lemmas.List.Filters.{length-filter_both}
use Rattle.std.proofs.lemmas.Option.{slice_get_within}
use Rattle.ly_pack.specs.Defaults.{is_by}
use Rattle.ly_pack.specs.Private.Tally.{HaveDefaults, IsChosen, cells_by, left_out, out_by, reductions, times}
use Rattle.ly_pack.specs.Rows.{AreCellsOf, Dense, Entries, dense_entry}
use Rattle.ly_pack.specs.Values.{action_from, actions_from}
use Rattle.ly_pack.specs.declared.action.TableAction as code
use Rattle.ly_pack.specs.declared.action.TableAction.TheVariants.{Accept, Error, Reduce, Shift}
use Rattle.ly_pack.specs.declared.cell.Cell.{Cell}
use Rattle.ly_base.specs.declared.numbers.RuleNo.{RuleNo}
use Rattle.ly_pack.proofs.CellLemmas.{columns_pass_of, kept}
use Rattle.ly_pack.proofs.OrderLemmas.{range_from_none, slice_get-push_cases}

abbrev one_if : Bool → ℕ
one_if b = if b then 1 else 0

length-one : (b : Bool) (x : ℕ) → length (if b then x ∷ [] else []) ≡ one_if b
length-one true x = refl
length-one false x = refl

-- one rule more
pub times-push : (p r : ℕ) (rules : List ℕ) → times p (rules ++ r ∷ []) ≡ times p rules + (if nat_eq p r then 1 else 0)
times-push p r rules = ap length (filter-append (nat_eq p) rules (r ∷ []))
    ∙ length-append (filter (nat_eq p) rules) (filter (nat_eq p) (r ∷ []))
    ∙ ap (λ n. times p rules + n) (length-one (nat_eq p r) r)

-- one entry more
pub reductions-more : (entries : Entries code.TableAction) (n state p : ℕ) → reductions entries (n + 1) state p
    ≡ reductions entries n state p + (if is_by p (actions_from entries state n) then 1 else 0)
reductions-more entries n state p = ap (λ ts. length (filter (λ t. is_by p (actions_from entries state t)) ts))
    (range_from_none n)
    ∙ ap length (filter-append (λ t. is_by p (actions_from entries state t)) (range_with_len 0 n) (n ∷ []))
    ∙ length-append (filter (λ t. is_by p (actions_from entries state t)) (range_with_len 0 n))
    (filter (λ t. is_by p (actions_from entries state t)) (n ∷ []))
    ∙ ap (λ m. reductions entries n state p + m) (length-one (is_by p (actions_from entries state n)) n)

-- a rule that is counted stands there, and one that stands there is counted
pub times_in : (rules : List ℕ) (p : ℕ) → 1 ≤ times p rules → (j : ℕ) × (j < length rules)
    × ((d : ℕ) → get_or rules j d ≡ p)
times_in [] p some = absurd (omega (arith, some))
times_in (r ∷ rules) p some = elim (cases_Bool (nat_eq p r)) [
  | inl same ↦ (0, omega arith, λ d. sym (eqb-true p r same))
  | inr other ↦ let rest = times_in rules p (subst (λ b. 1 ≤ length (if b then r ∷ filter (nat_eq p) rules else filter
      (nat_eq p) rules)) other some) in
      (suc rest.0, omega (arith, rest.1), rest.2)
]

pub times_some : (rules : List ℕ) (k d : ℕ) → k < length rules → 1 ≤ times (get_or rules k d) rules
times_some [] k d lt = absurd (omega (arith, lt))
times_some (r ∷ rules) zero d lt = subst (λ b. 1 ≤ length (if b then r ∷ filter (nat_eq r) rules else filter (nat_eq r)
    rules)) (sym (eq-eqb r r refl)) (omega arith)
times_some (r ∷ rules) (suc k) d lt = let rest = times_some rules k d (omega (arith, lt)) in
    elim (cases_Bool (nat_eq (get_or rules k d) r)) [
      | inl same ↦ subst (λ b. 1 ≤ length (if b then r ∷ filter (nat_eq (get_or rules k d)) rules else filter (nat_eq
          (get_or rules k d)) rules)) (sym same) (omega arith)
      | inr other ↦ subst (λ b. 1 ≤ length (if b then r ∷ filter (nat_eq (get_or rules k d)) rules else filter (nat_eq
          (get_or rules k d)) rules)) (sym other) rest
    ]

pub times_few : (p n : ℕ) (rules : List ℕ) → times p (take n rules) ≤ n
times_few p n rules = omega (
  arith,
  length-filter_both (nat_eq p) (λ r. not (nat_eq p r)) (λ r. refl) (take n rules),
  length-take n rules,
)

-- where something is counted there is an entry
pub reductions_in : (entries : Entries code.TableAction) (state p n : ℕ) → 1 ≤ reductions entries n state p
    → (t : ℕ) × (t < n) × (is_by p (actions_from entries state t) ≡ true)
reductions_in entries state p zero some = absurd (omega (arith, some))
reductions_in entries state p (suc n) some = elim (cases_Bool (is_by p (actions_from entries state n))) [
  | inl here ↦ (n, omega arith, here)
  | inr other ↦ let more = reductions-more entries n state p in
      let last = ap one_if other in
      let same = ap (λ m. reductions entries m state p) (next n) in
      let rest = reductions_in entries state p n (omega (arith, some, more, last, same)) in
      (rest.0, omega (arith, rest.1), rest.2)
]
  where
    next : (n : ℕ) → suc n ≡ n + 1
    next n = omega arith

-- counts that are equal have the same greatest
pub chosen_same : (f g : ℕ → ℕ) (d : Option RuleNo) → ((p : ℕ) → f p ≡ g p) → IsChosen f d → IsChosen g d
chosen_same f g None same is = λ p. sym (same p) ∙ is p
chosen_same f g (Some r) same is = record {
  some = subst (λ n. 1 ≤ n) (same r.0) is.some;
  most = λ q. let a = same q in let b = same r.0 in elim (is.most q) [
    | inl less ↦ inl (omega (arith, less, a, b))
    | inr (inl tie) ↦ inr (inl (omega (arith, tie.0, a, b), tie.1))
    | inr (inr none) ↦ inr (inr (omega (arith, none, a)))
  ];
}

-- one cell more
pub cells_by-push : (p : ℕ) (cells : List (Cell code.TableAction)) (c : Cell code.TableAction)
    → cells_by p (cells ++ c ∷ []) ≡ cells_by p cells + (if is_by p (Some (action_from c.entry)) then 1 else 0)
cells_by-push p cells c = ap length (filter-append (λ x. is_by p (Some (action_from x.entry))) cells (c ∷ []))
    ∙ length-append (filter (λ x. is_by p (Some (action_from x.entry))) cells)
    (filter (λ x. is_by p (Some (action_from x.entry))) (c ∷ []))
    ∙ ap (λ n. cells_by p cells + n) (length-one_cell (is_by p (Some (action_from c.entry))) c)
  where
    length-one_cell : (b : Bool) (x : Cell code.TableAction) → length (if b then x ∷ [] else []) ≡ one_if b
    length-one_cell true x = refl
    length-one_cell false x = refl

-- a cell that doesn't reduce, and one that does
pub cells_by-other : (p : ℕ) (cells : List (Cell code.TableAction)) (c : Cell code.TableAction)
    → ((q : RuleNo) → c.entry ≡ Reduce q → ⊥) → cells_by p (cells ++ c ∷ []) ≡ cells_by p cells
cells_by-other p cells c other = cells_by-push p cells c
    ∙ ap (λ (b : Bool). cells_by p cells + one_if b) (by_entry c.entry other) ∙ plus_none (cells_by p cells)
  where
    by_entry : (a : code.TableAction) → ((q : RuleNo) → a ≡ Reduce q → ⊥) → is_by p (Some (action_from a)) ≡ false
    by_entry (Shift s) other = refl
    by_entry (Reduce q) other = absurd (other q refl)
    by_entry Accept other = refl
    by_entry Error other = refl

    plus_none : (n : ℕ) → n + 0 ≡ n
    plus_none n = omega arith

pub cells_by-rule : (p : ℕ) (cells : List (Cell code.TableAction)) (c : Cell code.TableAction) (q : RuleNo)
    (rules : List ℕ) → c.entry ≡ Reduce q → times p rules ≡ cells_by p cells
    → times p (rules ++ q.0 ∷ []) ≡ cells_by p (cells ++ c ∷ [])
cells_by-rule p cells c q rules is so = times-push p q.0 rules
    ∙ ap (λ n. n + (if nat_eq p q.0 then 1 else 0)) so
    ∙ ap (λ (a : code.TableAction). cells_by p cells + (if is_by p (Some (action_from a)) then 1 else 0)) (sym is)
    ∙ sym (cells_by-push p cells c)

-- the cells of a state are its entries
pub cells_by-all : (d : Dense code.TableAction) (state p : ℕ) (cells : List (Cell code.TableAction))
    → AreCellsOf (dense_entry d state) cells → All (λ c. c.column < d.width) cells
    → cells_by p cells ≡ reductions (dense_entry d) d.width state p
cells_by-all d state p cells so within =
    sym (length-map (filter (λ c. is_by p (Some (action_from c.entry))) cells)
    (λ (c : Cell code.TableAction). c.column))
    ∙ ap length (sym (columns_pass_of (λ a. is_by p (option_map action_from a)) refl (dense_entry d state) d.width cells
    so within))

-- a state that has no default yet is as it was
pub counts_old : (old mid : Dense code.TableAction) (defaults : List (Option RuleNo))
    → HaveDefaults old.width old mid defaults → (state : ℕ) → length defaults ≤ state → (p : ℕ)
    → reductions (dense_entry mid) mid.width state p ≡ reductions (dense_entry old) old.width state p
counts_old old mid defaults so state later p = ap (λ n. reductions (dense_entry mid) n state p) so.width
    ∙ ap (λ (f : ℕ → Option code.TableAction). length (filter (λ t. is_by p (option_map action_from (f t)))
    (range_with_len 0 old.width))) (λ i t. so.left state t later i)

-- one state more has its default
module _ (old mid new : Dense code.TableAction) (defaults : List (Option RuleNo)) (d : Option RuleNo)
    (so : HaveDefaults old.width old mid defaults) (rows : new.rows ≡ mid.rows) (width : new.width ≡ mid.width)
    (row : (t : ℕ) → dense_entry new (length defaults) t ≡ out_by d (dense_entry mid (length defaults) t))
    (others : (r t : ℕ) → r ≢ length defaults → dense_entry new r t ≡ dense_entry mid r t)
    (chosen : IsChosen (reductions (dense_entry mid) mid.width (length defaults)) d) where
  pub defaults_more : HaveDefaults old.width old new (defaults ++ d ∷ [])
  defaults_more = record {
    rows = rows ∙ so.rows;
    width = width ∙ so.width;
    chosen = λ state e at. elim (slice_get-push_cases defaults d e state at) [
      | inl earlier ↦ so.chosen state e earlier
      | inr last ↦ subst (λ s. IsChosen (reductions (dense_entry old) old.width s) e) (sym last.0)
          (subst (IsChosen (reductions (dense_entry old) old.width (length defaults))) last.1
          (chosen_same (reductions (dense_entry mid) mid.width (length defaults))
          (reductions (dense_entry old) old.width (length defaults)) d
          (counts_old old mid defaults so (length defaults) (omega arith)) chosen))
    ];
    taken = λ state t e at lt. elim (slice_get-push_cases defaults d e state at) [
      | inl earlier ↦ let within = slice_get_within defaults state e earlier in
          others state t (λ same. omega (arith, within, same)) ∙ so.taken state t e earlier lt
      | inr last ↦ ap (λ s. dense_entry new s t) last.0 ∙ row t
          ∙ ap (out_by d) (so.left (length defaults) t (omega arith))
          ∙ ap (λ f. out_by f (dense_entry old (length defaults) t)) last.1
          ∙ ap (λ s. out_by e (dense_entry old s t)) (sym last.0)
    ];
    left = λ state t le. let long = length_push defaults d in
        others state t (λ same. omega (arith, same, le)) ∙ so.left state t (omega (arith, le, long));
  }

-- what is kept where reductions by a rule are left out
pub kept_out : (p : ℕ) (o : Option code.TableAction) → kept (λ a. not (is_by p (Some (action_from a)))) o ≡ left_out p o
kept_out p None = refl
kept_out p (Some (Shift s)) = refl
kept_out p (Some (Reduce q)) = by_test (nat_eq p q.0)
  where
    by_test : (b : Bool) → (if not b then Some (Reduce q) else None) ≡ (if b then None else Some (Reduce q))
    by_test true = refl
    by_test false = refl
kept_out p (Some Accept) = refl
kept_out p (Some Error) = refl
