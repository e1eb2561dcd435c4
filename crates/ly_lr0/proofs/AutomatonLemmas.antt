-- Kernels that were found, with all their rows, are the states of the automaton.
use Rattle.std.proofs.Common.{◌≡◌, ◌≢◌, ◌⊎◌, inl, inr, ℕ, zero, suc, ◌<◌, List, [], ◌∷◌, Some}
use Rattle.std.proofs.Common.{refl, sym, ◌∙◌, ap, subst, arith, length}
use Rattle.std.specs.Prelude.{Contains}
use Rattle.ly_base.proofs.MemberLemmas.{Contains-first, Contains-one}
use Rattle.ly_join.specs.Grammar.{Grammar, IsAugmented, Symbol, terminal}
use Rattle.ly_grammar.specs.Derivations.{IsReduced}
use Rattle.ly_grammar.specs.Items.{HasNoEnd, SameCore}
use Rattle.ly_lr0.specs.Automaton.{ComesBefore, Gotos, HasCores, Reaches, Transition}
use Rattle.ly_lr0.specs.declared.item.Item.{Item}
use Rattle.ly_lr0.specs.Private.Built.{AreFound, HasTransition, Link, link_at}
use Rattle.ly_lr0.specs.Private.Items.{HasItem, IsBehind, IsClosed, IsKernel, at_start, moved}
use Rattle.ly_lr0.specs.Private.Kernels.{kernel_at}
use Rattle.ly_lr0.proofs.CoreLemmas.{item_of_viable, same_core, same_items, viable_of}
use Rattle.ly_lr0.proofs.KernelLemmas.{closed_of_item, item_before, item_of_closed, kernel_one, kernel_same}
use Rattle.ly_lr0.proofs.OrderLemmas.{before_trans, kernels_one}

-- where states lead is what their rows say
pub record IsGoto (rows : List (List Transition)) (goto : Gotos) : Type 0 where
  pub leads : (s : ℕ) (X : Symbol) (t : ℕ) → goto s X ≡ Some t
      → HasTransition rows s (record { symbol = X; target = t })
  pub goes : (s : ℕ) (t : Transition) → HasTransition rows s t → goto s t.symbol ≡ Some t.target

-- each row has all transitions of its kernel
pub record AreWhole (G : Grammar) (kernels : List (List Item)) (rows : List (List Transition)) : Type 0 where
  pub all : (s : ℕ) → s < length kernels → (X : Symbol) → X ≢ terminal 0 → (p d : ℕ)
      → IsClosed G (kernel_at kernels s) p d
      → IsBehind G p d X → (t : Transition) × HasTransition rows s t × (t.symbol ≡ X)

-- the prefixes are those of the links
pub record ArePrefixes (links : List Link) (prefix : ℕ → List Symbol) : Type 0 where
  pub first : prefix 0 ≡ []
  pub later : (k : ℕ) → k < length links → prefix (suc k) ≡ (link_at links k).symbol ∷ prefix (link_at links k).from

module _ (G : Grammar) (augmented : IsAugmented G) (reduced : IsReduced G) (kernels : List (List Item))
    (links : List Link)
    (rows : List (List Transition)) (found : AreFound G kernels links rows) (goto : Gotos)
    (is_goto : IsGoto rows goto) where
  -- what a string leads to
  pub record IsAt (g : List Symbol) (s : ℕ) : Type 0 where
    pub within : s < length kernels
    pub kernel : IsKernel G g (kernel_at kernels s)
    pub free : HasNoEnd g
    pub some : (p : ℕ) × (d : ℕ) × HasItem G g p d

  pub at_reached : (g : List Symbol) (s : ℕ) → Reaches goto 0 g s → IsAt g s
  at_reached [] s e = record {
    within = let count = found.count in omega arith;
    kernel = subst (λ n. IsKernel G [] (kernel_at kernels n)) (sym e) (subst (IsKernel G []) (sym found.start) (λ i. (
      λ c. let same = Contains-one (record { rule = 0; dot = 0 }) i c in
          (sym (ap (λ j. j.rule) same), sym (ap (λ j. j.dot) same)),
      λ h. subst (Contains (record { rule = 0; dot = 0 } ∷ [])) (start_one i h.0 h.1) (Contains-first _ []),
    )));
    free = tt;
    some = (0, 0, at_start);
  }
    where
      start_one : (i : Item) → i.rule ≡ 0 → i.dot ≡ 0 → record { rule = 0; dot = 0 } ≡ i
      start_one i a b = ap (λ n. record { rule = n; dot = 0 }) (sym a)
          ∙ ap (λ n. record { rule = i.rule; dot = n }) (sym b)
  at_reached (X ∷ g) s h =
      let was = at_reached g h.0 h.1 in
      let led = found.led h.0 _ (is_goto.leads h.0 X s h.2) in
      let kernel : IsKernel G (X ∷ g) (kernel_at kernels s) = λ i. (
        λ c. let m = (led.moved i).0 c in (m.0, m.1, item_of_closed G g _ was.kernel m.2, m.3),
        λ m. (led.moved i).1 (m.0, m.1, closed_of_item G g _ was.kernel m.2, m.3),
      ) in
      let one = (kernel led.some.0).0 led.some.1 in
      record {
        within = led.within;
        kernel = kernel;
        free = (led.symbol, was.free);
        some = (led.some.0.rule, suc one.0, moved one.2 one.3);
      }

  module _ (whole : AreWhole G kernels rows) where
    reach : (g : List Symbol) → HasNoEnd g → (p d : ℕ) → HasItem G g p d → (s : ℕ) × Reaches goto 0 g s
    reach [] free p d i = (0, refl)
    reach (X ∷ g) free p d i =
        let before = item_before G i in
        let was = reach g free.1 before.0 before.1 before.2 in
        let at = at_reached g was.0 was.1 in
        let t = whole.all was.0 at.within X free.0 before.0 before.1 (closed_of_item G g _ at.kernel before.2)
        before.3 in
        (t.0.target, (was.0, was.1, ap (goto was.0) (sym t.2) ∙ is_goto.goes was.0 t.0 t.1))

    state_one : (g h : List Symbol) (s t : ℕ) → IsAt g s → IsAt h t → SameCore G g h → s ≡ t
    state_one g h s t a b same =
        let items = same_items G augmented reduced g h same in
        found.apart s t a.within b.within (kernels_one (kernel_at kernels s) (kernel_at kernels t)
        (found.rising s a.within) (found.rising t b.within)
        (kernel_one G augmented g h _ _ a.kernel b.kernel items)
        (kernel_one G augmented h g _ _ b.kernel a.kernel (λ p d. ((items p d).1, (items p d).0))))

    pub has_cores : ((s : ℕ) → s < length kernels → (g : List Symbol) × Reaches goto 0 g s) → HasCores G goto
    has_cores reached = record {
      has = λ g v. let i = item_of_viable G augmented reduced g v in reach g v.0 i.0 i.1 i.2;
      only = λ g s r. let at = at_reached g s r in
          viable_of G augmented reduced g at.free at.some.0 at.some.1 at.some.2;
      is_reached = λ q X s e. reached q (let l = is_goto.leads q X s e in let w = found.within in omega (arith, l.0));
      same = λ g h s a b. same_core G augmented reduced g h
          (kernel_same G g h _ (at_reached g s a).kernel (at_reached h s b).kernel);
      one = λ g h s t a b. state_one g h s t (at_reached g s a) (at_reached h t b);
    }

  module _ (prefix : ℕ → List Symbol) (prefixes : ArePrefixes links prefix) where
    lead : (n s : ℕ) → s < n → s < length kernels → Reaches goto 0 (prefix s) s
    lead zero s l m = absurd (omega (arith, l))
    lead (suc n) zero l m = subst (λ g. Reaches goto 0 g 0) (sym prefixes.first) refl
    lead (suc n) (suc k) l m =
        let less : k < length links = let count = found.count in omega (arith, m) in
        let from = (link_at links k).from in
        let back = found.back k less in
        let was = lead n from (omega (arith, l, back)) (omega (arith, m, back)) in
        subst (λ g. Reaches goto 0 g (suc k)) (sym (prefixes.later k less))
        (from, was, is_goto.goes from _ (found.linked k less))

    pub leads_to : (s : ℕ) → s < length kernels → Reaches goto 0 (prefix s) s
    leads_to s l = lead (suc s) s (omega arith) l

    rise : (n s t : ℕ) → t < n → s < t → t < length kernels → ComesBefore (prefix s) (prefix t)
    rise zero s t a b c = absurd (omega (arith, a))
    rise (suc n) s zero a b c = absurd (omega (arith, b))
    rise (suc n) zero (suc l) a b c =
        let less : l < length links = let count = found.count in omega (arith, c) in
        subst (λ g. ComesBefore g (prefix (suc l))) (sym prefixes.first)
        (subst (ComesBefore []) (sym (prefixes.later l less)) tt)
    rise (suc n) (suc k) (suc l) a b c =
        let count = found.count in
        let less : l < length links = omega (arith, c) in
        let lower : k < length links = omega (arith, b, less) in
        let back = found.back l less in
        subst (λ g. ComesBefore g (prefix (suc l))) (sym (prefixes.later k lower))
        (subst (ComesBefore ((link_at links k).symbol ∷ prefix (link_at links k).from)) (sym (prefixes.later l less))
        (elim (found.ordered k l (omega (arith, b)) less) [
          | inl f ↦ inl (rise n (link_at links k).from (link_at links l).from (omega (arith, back, a)) f
              (omega (arith, back, c)))
          | inr e ↦ inr (ap prefix e.0, e.1)
        ]))

    pub rising_prefixes : (s t : ℕ) → s < t → t < length kernels → ComesBefore (prefix s) (prefix t)
    rising_prefixes s t = rise (suc t) s t (omega arith)

    pub least_prefix : (g : List Symbol) (s : ℕ) → Reaches goto 0 g s → (g ≡ prefix s) ⊎ ComesBefore (prefix s) g
    least_prefix [] s e = inl (sym (ap prefix e ∙ prefixes.first))
    least_prefix (X ∷ g) zero h = inr (subst (λ w. ComesBefore w (X ∷ g)) (sym prefixes.first) tt)
    least_prefix (X ∷ g) (suc k) h =
        let at = at_reached (X ∷ g) (suc k) h in
        let was = at_reached g h.0 h.1 in
        let less : k < length links = let count = found.count in let w = at.within in omega arith in
        let l = link_at links k in
        let by = prefixes.later k less in
        let leads = is_goto.leads h.0 X (suc k) h.2 in
        elim (found.first h.0 _ k leads refl) [
          | inl same ↦ elim (least_prefix g h.0 h.1) [
            | inl e ↦ inl (sym (by ∙ ap (λ m. m.symbol ∷ prefix m.from) same ∙ ap (λ w. X ∷ w) (sym e)))
            | inr c ↦ inr (subst (λ w. ComesBefore w (X ∷ g)) (sym (by ∙ ap (λ m. m.symbol ∷ prefix m.from) same))
                (inl c))
          ]
          | inr (inl f) ↦
              let c = rising_prefixes l.from h.0 f was.within in
              inr (subst (λ w. ComesBefore w (X ∷ g)) (sym by) (inl (elim (least_prefix g h.0 h.1) [
                | inl e ↦ subst (ComesBefore (prefix l.from)) (sym e) c
                | inr d ↦ before_trans (prefix l.from) (prefix h.0) g c d
              ])))
          | inr (inr e) ↦ inr (subst (λ w. ComesBefore w (X ∷ g)) (sym by) (elim (least_prefix g h.0 h.1) [
            | inl f ↦ inr (ap prefix e.0 ∙ sym f, e.1)
            | inr d ↦ inl (subst (λ w. ComesBefore w g) (sym (ap prefix e.0)) d)
          ]))
        ]
