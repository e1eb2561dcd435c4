-- What the lists of a kernel say of what it closes to.
use Rattle.std.proofs.Common.{◌≡◌, ◌⊎◌, inl, inr, ℕ, ◌<◌, ◌≤◌, List, [], ◌∷◌, ◌++◌, Some, refl, sym, ◌∙◌, ap}
use Rattle.std.proofs.Common.{arith, subst}
use Rattle.std.proofs.Common.{length, map}
use Rattle.std.specs.Prelude.{◌↔◌, AllPairs, Contains, slice_get, slice_index_or}
use Rattle.std.proofs.lemmas.Bool.{cases_lt}
use Rattle.std.proofs.lemmas.List.{get_or_append_left, get_or_push, length-map, length_push}
use Rattle.std.proofs.lemmas.Option.{get_or_from_slice_get, slice_get-get_or, slice_get_within}
use Rattle.ly_join.specs.Grammar.{Grammar, GrammarRule, IsAugmented, IsRule, symbol_of}
use Rattle.ly_grammar.specs.Derivations.{IsReduced}
use Rattle.ly_lr0.specs.declared.transition.Row.{Row}
use Rattle.ly_lr0.specs.declared.transition.Link as link
use Rattle.ly_lr0.specs.Private.Built.{AreFound, IsBuilt, IsRowOf, link_of, transitions_of}
use Rattle.ly_lr0.specs.Private.Kernels.{kernel_at}
use Rattle.ly_lr0.proofs.FinalLemmas.{is_automaton}
use Rattle.ly_lr0.specs.declared.item.Item.{Item}
use Rattle.ly_lr0.specs.declared.item.Move.{Move}
use Rattle.ly_base.proofs.MemberLemmas.{Contains-none}
use Rattle.ly_lr0.specs.Private.Closing.{AreByLeft, AreComplete, AreKept, AreMoves, IsKept, IsListed, IsMoveOfOne}
use Rattle.ly_lr0.specs.Private.Closing.{IsRuleAtEnd, MoveIsLess}
use Rattle.ly_lr0.specs.Private.Items.{IsBehind, IsClosed, IsEntered, added, given}
use Rattle.ly_lr0.specs.Private.Nonkernel.{AreNonkernel, IsNonkernel}
use Rattle.ly_lr0.specs.declared.nonkernel.Nonkernel.{Nonkernel}
use Rattle.ly_lr0.proofs.ClosingLemmas.{entered_within, listed_closed}
use Rattle.ly_lr0.proofs.ListLemmas.{listed_kernel, moves_of_both, rules_of_both}

module _ (G : Grammar) (kernel items : List Item)
    (are : (i : Item) → Contains items i ↔ IsClosed G kernel i.rule i.dot) where
  closed_kept : AreKept G kernel → {p d : ℕ} → IsClosed G kernel p d → IsKept G p
  closed_kept kept (given {p = p} {d = d} c) = kept (record { rule = p; dot = d }) c
  closed_kept kept (added {r = r} c b is left) = (r, is)

  -- the rules of listed items are kept
  pub items_kept : AreKept G kernel → AreKept G items
  items_kept kept i h = closed_kept kept ((are i).0 h)

  -- the listed moves are those of the kernel
  pub are_moves : (moves : List Move) → ((m : Move) → Contains moves m ↔ IsMoveOfOne G items m)
      → AllPairs MoveIsLess moves
      → AreMoves G kernel moves
  are_moves moves each rising = record {
    each = λ m. (
      λ h. let o = (each m).0 h in
          let i = o.1.0 in
          let is = o.1.2 in (
            o.0,
            (
              i.dot,
              is.dot,
              subst (λ p. IsClosed G kernel p i.dot) (sym is.rule) ((are i).0 o.1.1),
              subst (λ p. IsBehind G p i.dot (symbol_of m.symbol)) (sym is.rule) is.behind,
            ),
          ),
      λ h.
          let i : Item = record { rule = m.item.rule; dot = h.1.0 } in
          (each m).1 (h.0, (i, (are i).1 h.1.2, record { rule = refl; dot = h.1.1; behind = h.1.3 })),
    );
    rising = rising;
  }

  -- and so the rules whose items are at the end
  pub are_complete : (rules : List ℕ) → ((p : ℕ) → Contains rules p ↔ IsRuleAtEnd G items p)
      → AllPairs (λ p q. p < q) rules → AreComplete G kernel rules
  are_complete rules each rising = record {
    each = λ p. (
      λ h. let e = (each p).0 h in (
        e.3.0,
        e.0.dot,
        subst (λ q. IsRule G q e.3.0) e.2 e.3.1,
        subst (λ q. IsClosed G kernel q e.0.dot) e.2 ((are e.0).0 e.1),
        e.3.2,
      ),
      λ h.
          let i : Item = record { rule = p; dot = h.1 } in
          (each p).1 (i, (are i).1 h.3, refl, (h.0, h.2, h.4)),
    );
    rising = rising;
  }

-- the rules that are listed by their left sides are the nonkernel items
pub nonkernel_listed : (G : Grammar) (lists : List (List ℕ)) (entered : List ℕ) → AreByLeft G lists
    → ((A : ℕ) → Contains entered A → A < length lists) → (i : Item) → IsListed lists [] entered i
    ↔ IsNonkernel G entered i
nonkernel_listed G lists entered by within i = (
  λ h. elim h [
    | inl none ↦ absurd (Contains-none i none)
    | inr x ↦ let rule = (rules x.0 x.1).0 x.2 in (x.0, x.1, rule.0, rule.1, rule.2, x.3)
  ],
  λ x. inr (x.0, x.1, (rules x.0 x.1).1 (x.2, x.3, x.4), x.5),
)
  where
    rules : (A : ℕ) → Contains entered A → Contains (slice_index_or lists A []) i.rule
        ↔ ((r : GrammarRule) × IsRule G i.rule r × (r.left ≡ A))
    rules A c = by.rules A i.rule (let w = within A c in let n = by.count in omega arith)

-- the rules of nonkernel items are kept
pub nonkernel_kept : (G : Grammar) (entered : List ℕ) (items : List Item)
    → ((i : Item) → Contains items i ↔ IsNonkernel G entered i) → AreKept G items
nonkernel_kept G entered items are i h = let x = (are i).0 h in (x.2, x.3)

-- what the lists of a kernel and of its nonkernel items say together
module _ (G : Grammar) (lists : List (List ℕ)) (kernel : List Item) (entered : List ℕ) (n : Nonkernel)
    (by : AreByLeft G lists) (are : AreNonkernel G entered n)
    (is : (A : ℕ) → Contains entered A ↔ IsEntered G kernel A) where
  within_lists : (A : ℕ) → Contains entered A → A < length lists
  within_lists A c = let w = entered_within G lists kernel by A ((is A).0 c) in let n = by.count in omega arith

  all_closed : (i : Item) → Contains (n.items.items ++ kernel) i ↔ IsClosed G kernel i.rule i.dot
  all_closed i =
      let listed = listed_kernel lists kernel n.items.items (n.items.items ++ kernel) entered
      (λ j. let s = nonkernel_listed G lists entered by within_lists j in (
        λ h. s.1 ((are.items j).0 h),
        λ h. (are.items j).1 (s.0 h),
      )) refl i in
      let closed = listed_closed G lists kernel by entered is i in (
        λ h. closed.0 (listed.0 h),
        λ h. listed.1 (closed.1 h),
      )

  pub kernel_moves : (moves : List Move)
      → ((m : Move) → Contains moves m ↔ (Contains n.moves.items m ⊎ IsMoveOfOne G kernel m))
      → AllPairs MoveIsLess moves → AreMoves G kernel moves
  kernel_moves moves each rising = are_moves G kernel (n.items.items ++ kernel) all_closed moves
      (moves_of_both G n.items.items kernel n.moves.items moves are.moves each) rising

  pub kernel_complete : (rules : List ℕ)
      → ((p : ℕ) → Contains rules p ↔ (Contains n.complete.items p ⊎ IsRuleAtEnd G kernel p))
      → AllPairs (λ p q. p < q) rules → AreComplete G kernel rules
  kernel_complete rules each rising = are_complete G kernel (n.items.items ++ kernel) all_closed rules
      (rules_of_both G n.items.items kernel n.complete.items rules are.complete each) rising

-- what holds of each row and of one more
pub rows_more : (rows rows' : List Row) (row : Row) (P : ℕ → Row → Type 0) → rows' ≡ rows ++ row ∷ []
    → ((s : ℕ) (r : Row) → slice_get rows s ≡ Some r → P s r) → P (length rows) row
    → (s : ℕ) (r : Row) → slice_get rows' s ≡ Some r → P s r
rows_more rows rows' row P same old new s r e =
    let f = subst (λ xs. slice_get xs s ≡ Some r) same e in
    let less = slice_get_within (rows ++ row ∷ []) s r f in
    let at = get_or_from_slice_get (rows ++ row ∷ []) s r r f in
    elim (cases_lt s (length rows)) [
      | inl low ↦ old s r (slice_get-get_or rows s r low ∙ ap (λ x. Some x)
          (sym (get_or_append_left rows (row ∷ []) r s low) ∙ at))
      | inr past ↦
          let last : length rows ≡ s = omega (arith, less, past, length_push rows row) in
          subst (λ x. P s x) (sym (get_or_push rows row r s last) ∙ at) (subst (λ n. P n row) last new)
    ]

-- once all rows are there it is an automaton
pub built_of : (G : Grammar) → IsAugmented G → IsReduced G → (kernels : List (List Item)) (links : List link.Link)
    (rows : List Row) → AreFound G kernels (map link_of links) (map transitions_of rows) → length rows ≡ length kernels
    → ((s : ℕ) (r : Row) → slice_get rows s ≡ Some r → IsRowOf G (kernel_at kernels s) r) → length kernels ≤ 4294967295
    → (lists : List (List ℕ)) → AreByLeft G lists → IsBuilt G links rows lists
built_of G augmented reduced kernels links rows found full each few lists by_left = record {
  automaton = is_automaton G augmented reduced kernels (map link_of links) rows found full each;
  count = let c = found.count in omega (arith, full, c, length-map links link_of);
  few = omega (arith, full, few);
  by_left = by_left;
  back = λ k l. found.back k (omega (arith, l, length-map links link_of));
}
