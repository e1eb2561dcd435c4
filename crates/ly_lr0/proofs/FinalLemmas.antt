-- What was found is the automaton once all rows are there, and a kernel too many is a core too many.
use Rattle.std.proofs.Common.{◌≡◌, ◌≢◌, ◌⊎◌, inl, inr, ℕ, suc, ◌<◌, List, [], ◌∷◌, ◌++◌, Some}
use Rattle.std.proofs.Common.{sym, ◌∙◌, ap, subst, arith, length, map}
use Rattle.std.specs.Prelude.{◌↔◌, Contains, AllPairs, slice_get, slice_index_or}
use Rattle.std.proofs.lemmas.Bool.{cases_lt}
use Rattle.std.proofs.lemmas.List.{get_or_default, get_or-map, get_or_append_left, get_or_push, length-map, length_push}
use Rattle.std.proofs.lemmas.Option.{get_or_from_slice_get, slice_get_within}
use Rattle.ly_base.proofs.ListLemmas.{some_at}
use Rattle.ly_base.specs.Keys.{IsAbsent}
use Rattle.ly_join.specs.Grammar.{Grammar, IsAugmented, Symbol, terminal}
use Rattle.ly_grammar.specs.Derivations.{IsReduced}
use Rattle.ly_grammar.specs.Items.{HasMoreCores, IsComplete, IsViable, SameCore}
use Rattle.ly_lr0.specs.Automaton.{AreNumbered, Lr0Automaton, ComesBefore, HasCores, IsLr0Automaton, IsLess, IsState}
use Rattle.ly_lr0.specs.Automaton.{Reaches}
use Rattle.ly_lr0.specs.Automaton.{State, Transition, goto_of, prefix_of}
use Rattle.ly_lr0.specs.declared.item.Item.{Item}
use Rattle.ly_lr0.specs.declared.transition.Row.{Row}
use Rattle.ly_lr0.specs.Private.Built.{AreFound, IsRowOf, Link, prefixes_of, states_of, transitions_of}
use Rattle.ly_lr0.specs.Private.Items.{AreRising, IsKernel, IsMoved, moved}
use Rattle.ly_lr0.specs.Private.Kernels.{kernel_at}
use Rattle.ly_lr0.proofs.AutomatonLemmas.{AreWhole, ArePrefixes, IsAt, IsGoto, at_reached, has_cores, least_prefix}
use Rattle.ly_lr0.proofs.AutomatonLemmas.{leads_to, rising_prefixes}
use Rattle.ly_lr0.proofs.CoreLemmas.{complete_of_item, item_of_complete, same_items, viable_of}
use Rattle.ly_lr0.proofs.KernelLemmas.{closed_of_item, item_of_closed, kernel_one}
use Rattle.ly_lr0.proofs.OrderLemmas.{kernels_one}
use Rattle.ly_lr0.proofs.StateLemmas.{IsStateAt, are_prefixes, goto_by, goto_of-rows, is_goto_by, length-fold}
use Rattle.ly_lr0.proofs.StateLemmas.{length-states, prefixes-states, state_parts}

module _ (G : Grammar) (augmented : IsAugmented G) (reduced : IsReduced G) (kernels : List (List Item))
    (links : List Link)
    (rs : List Row) (found : AreFound G kernels links (map transitions_of rs)) (full : length rs ≡ length kernels)
    (each : (s : ℕ) (r : Row) → slice_get rs s ≡ Some r → IsRowOf G (kernel_at kernels s) r) where
  abbrev M : Lr0Automaton
  M = record { grammar = G; states = states_of (prefixes_of links) rs }

  abbrev prefix : ℕ → List Symbol
  prefix s = slice_index_or (prefixes_of links) s []

  as_many : length (prefixes_of links) ≡ length rs
  as_many = let count = found.count in omega (arith, length-fold ([] ∷ []) links, full)

  pub count_states : length M.states ≡ length kernels
  count_states = length-states (prefixes_of links) rs as_many ∙ full

  is_goto : IsGoto (map transitions_of rs) (goto_of M)
  is_goto =
      let by = is_goto_by (map transitions_of rs) found.sorted in
      record {
        leads = λ s X t e. by.leads s X t (sym (goto_of-rows G (prefixes_of links) rs as_many s X) ∙ e);
        goes = λ s t l. goto_of-rows G (prefixes_of links) rs as_many s t.symbol ∙ by.goes s t l;
      }

  row_at : (s : ℕ) (r : Row) → slice_get rs s ≡ Some r → slice_index_or (map transitions_of rs) s [] ≡ transitions_of r
  row_at s r e = get_or-map transitions_of rs s r [] (slice_get_within rs s r e)
      ∙ ap transitions_of (get_or_from_slice_get rs s r r e)

  whole : AreWhole G kernels (map transitions_of rs)
  whole = record {
    all = λ s l X other p d c b.
        let r = some_at rs s (omega (arith, l, full)) in
        let t = (each s r.0 r.1).whole X other p d c b in (
          t.0,
          (
            omega (arith, l, full, length-map rs transitions_of),
            subst (λ ts. Contains ts t.0) (sym (row_at s r.0 r.1)) t.1,
          ),
          t.2,
        );
  }

  prefixes : ArePrefixes links prefix
  prefixes = are_prefixes links found.back

  prefix_same : (s : ℕ) → prefix_of M s ≡ prefix s
  prefix_same s = ap (λ ps. slice_index_or ps s []) (prefixes-states (prefixes_of links) rs as_many)

  at : (g : List Symbol) (s : ℕ) → Reaches (goto_of M) 0 g s → IsAt G augmented reduced kernels links
      (map transitions_of rs) found (goto_of M) is_goto g s
  at = at_reached G augmented reduced kernels links (map transitions_of rs) found (goto_of M) is_goto

  leads : (s : ℕ) → s < length kernels → Reaches (goto_of M) 0 (prefix s) s
  leads = leads_to G augmented reduced kernels links (map transitions_of rs) found (goto_of M) is_goto prefix prefixes

  cores : HasCores G (goto_of M)
  cores = has_cores G augmented reduced kernels links (map transitions_of rs) found (goto_of M) is_goto whole
      (λ s l. (prefix s, leads s l))

  numbered : AreNumbered M
  numbered = record {
    leads = λ s l. subst (λ g. Reaches (goto_of M) 0 g s) (sym (prefix_same s))
        (leads s (omega (arith, l, count_states)));
    least = λ s g r. subst (λ w. (g ≡ w) ⊎ ComesBefore w g) (sym (prefix_same s))
        (least_prefix G augmented reduced kernels links (map transitions_of rs) found (goto_of M) is_goto prefix
        prefixes
        g s r);
    rising = λ s t l m. subst (λ w. ComesBefore w (prefix_of M t)) (sym (prefix_same s))
        (subst (ComesBefore (prefix s)) (sym (prefix_same t))
        (rising_prefixes G augmented reduced kernels links (map transitions_of rs) found (goto_of M) is_goto prefix
        prefixes s t l (omega (arith, m, count_states))));
  }

  state : (s : ℕ) (q : State) → IsStateAt (prefixes_of links) rs s q → IsState G (length M.states) q
  state s q parts =
      let l : s < length rs = slice_get_within rs s parts.row parts.is_row in
      let row = row_at s parts.row parts.is_row in
      let rows : s < length (map transitions_of rs) = omega (arith, l, length-map rs transitions_of) in
      let here = at (prefix s) s (leads s (omega (arith, l, full))) in
      let done = (each s parts.row parts.is_row).complete in
      let same : slice_index_or (map transitions_of rs) s [] ≡ q.transitions = row ∙ sym parts.transitions in
      record {
        ordered = subst (λ ts. AllPairs (λ t u. IsLess t.symbol u.symbol) ts) same (found.sorted s rows);
        within = λ t c. omega
            (arith, count_states, (found.led s t (rows, subst (λ ts. Contains ts t) (sym same) c)).within);
        complete = λ p. (
          λ c. let r = (done.each p).0 (subst (λ ps. Contains ps p) parts.complete c) in
              subst (λ g. IsComplete G g p) (sym parts.prefix)
              (complete_of_item G augmented reduced (prefix s) p r.1 r.0 r.2
              r.4 (item_of_closed G (prefix s) _ here.kernel r.3)),
          λ h. let i = item_of_complete G augmented reduced (prefix s) p
              (subst (λ g. IsComplete G g p) parts.prefix h) in
              subst (λ ps. Contains ps p) (sym parts.complete)
              ((done.each p).1 (i.0, length i.0.body, i.1, closed_of_item G (prefix s) _ here.kernel i.2, omega arith)),
        );
        rising = subst (λ ps. AllPairs (λ p q. p < q) ps) (sym parts.complete) done.rising;
      }

  pub is_automaton : IsLr0Automaton M
  is_automaton = record {
    augmented = augmented;
    reduced = reduced;
    some = let more = found.count in omega (arith, count_states, more);
    cores = cores;
    numbered = numbered;
    each = λ s q e. state s q (state_parts (prefixes_of links) rs s q e);
  }

-- a kernel that isn't there, of what a state moves to
module _ (G : Grammar) (augmented : IsAugmented G) (reduced : IsReduced G) (kernels : List (List Item))
    (links : List Link)
    (rows : List (List Transition)) (found : AreFound G kernels links rows) where
  abbrev before : ℕ → List Symbol
  before s = slice_index_or (prefixes_of links) s []

  goes : IsGoto rows (goto_by rows)
  goes = is_goto_by rows found.sorted

  here : (s : ℕ) → s < length kernels
      → IsAt G augmented reduced kernels links rows found (goto_by rows) goes (before s) s
  here s l = at_reached G augmented reduced kernels links rows found (goto_by rows) goes (before s) s
      (leads_to G augmented reduced kernels links rows found (goto_by rows) goes before (are_prefixes links found.back)
      s l)

  pub more_cores : (limit s : ℕ) (X : Symbol) (kernel : List Item) → limit ≡ length kernels → s < length kernels
      → X ≢ terminal 0 → ((i : Item) → Contains kernel i ↔ IsMoved G (kernel_at kernels s) X i) → (i : Item)
      → Contains kernel i
      → AreRising kernel → IsAbsent kernels kernel → HasMoreCores G limit
  more_cores limit s X kernel is l other moves some c rising absent = record {
    strings = prefixes_of links ++ (X ∷ before s) ∷ [];
    count = omega (arith, length_push (prefixes_of links) (X ∷ before s), many, is);
    viable = λ k d m. elim (cases_lt k (length (prefixes_of links))) [
      | inl less ↦
          let at = here k (omega (arith, less, many)) in
          subst (IsViable G) (sym (old k d less))
          (viable_of G augmented reduced (before k) at.free at.some.0 at.some.1 at.some.2)
      | inr past ↦ subst (IsViable G) (sym (new k d (omega (
        arith,
        past,
        m,
        length_push (prefixes_of links) (X ∷ before s),
      )))) viable
    ];
    apart = λ i j d less m same. elim (cases_lt j (length (prefixes_of links))) [
      | inl low ↦
          let first : i < length (prefixes_of links) = omega (arith, less, low) in
          apart i j less (omega (arith, low, many)) (subst (λ g. SameCore G g (before j)) (old i d first)
          (subst (SameCore G _) (old j d low) same))
      | inr past ↦
          let last : j ≡ length (prefixes_of links) =
          omega (arith, past, m, length_push (prefixes_of links) (X ∷ before s)) in
          let first : i < length (prefixes_of links) = omega (arith, less, last) in
          off i (omega (arith, first, many)) (subst (λ g. SameCore G g (X ∷ before s)) (old i d first)
          (subst (SameCore G _) (new j d last) same))
    ];
  }
    where
      many : length (prefixes_of links) ≡ length kernels
      many = let count = found.count in omega (arith, length-fold ([] ∷ []) links)

      old : (k : ℕ) (d : List Symbol) → k < length (prefixes_of links)
          → slice_index_or (prefixes_of links ++ (X ∷ before s) ∷ []) k d ≡ before k
      old k d l = get_or_append_left (prefixes_of links) ((X ∷ before s) ∷ []) d k l ∙ get_or_default _ k d [] l

      new : (k : ℕ) (d : List Symbol) → k ≡ length (prefixes_of links)
          → slice_index_or (prefixes_of links ++ (X ∷ before s) ∷ []) k d ≡ X ∷ before s
      new k d e = get_or_push (prefixes_of links) (X ∷ before s) d k (sym e)

      from : IsAt G augmented reduced kernels links rows found (goto_by rows) goes (before s) s
      from = here s l

      is_kernel : IsKernel G (X ∷ before s) kernel
      is_kernel i = (
        λ h. let m = (moves i).0 h in (m.0, m.1, item_of_closed G (before s) _ from.kernel m.2, m.3),
        λ m. (moves i).1 (m.0, m.1, closed_of_item G (before s) _ from.kernel m.2, m.3),
      )

      viable : IsViable G (X ∷ before s)
      viable = let m = (is_kernel some).0 c in
          viable_of G augmented reduced (X ∷ before s) (other, from.free) some.rule (suc m.0) (moved m.2 m.3)

      apart : (i j : ℕ) → i < j → j < length kernels → SameCore G (before i) (before j) → ⊥
      apart i j less m same =
          let a = here i (omega (arith, less, m)) in
          let b = here j m in
          let items = same_items G augmented reduced (before i) (before j) same in
          let one = found.apart i j (omega (arith, less, m)) m (kernels_one (kernel_at kernels i) (kernel_at kernels j)
          (found.rising i a.within) (found.rising j b.within)
          (kernel_one G augmented (before i) (before j) _ _ a.kernel b.kernel items)
          (kernel_one G augmented (before j) (before i) _ _ b.kernel a.kernel
          (λ p d. ((items p d).1, (items p d).0)))) in
          omega (arith, less, one)

      off : (i : ℕ) → i < length kernels → SameCore G (before i) (X ∷ before s) → ⊥
      off i m same =
          let a = here i m in
          let items = same_items G augmented reduced (before i) (X ∷ before s) same in
          absent i m (kernels_one (kernel_at kernels i) kernel (found.rising i m) rising
          (kernel_one G augmented (before i) (X ∷ before s) _ _ a.kernel is_kernel items)
          (kernel_one G augmented (X ∷ before s) (before i) _ _ is_kernel a.kernel
          (λ p d. ((items p d).1, (items p d).0))))
