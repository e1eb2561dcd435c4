-- A file has one set, and what is refused is no set's file.
use Rattle.std.proofs.Common.{◌≡◌, ◌∙◌, ◌++◌, ◌<◌, ◌≤◌, ◌+◌, ◌-◌, inl, inr, ℕ, List, []}
use Rattle.std.proofs.Common.{◌∷◌, length, map, refl, sym, ap}
use Rattle.std.proofs.Common.{subst, arith, All, Option, Some, None, slice_get, nat_eq}
use Rattle.std.proofs.Common.{true, false, codes}
use Rattle.std.proofs.Common.{append_assoc, take}
use Rattle.std.specs.Int.{Width, w16, to_be_bytes}
use Rattle.std.specs.List.{zip}
use Rattle.std.proofs.lemmas.Bool.{eq-eqb, ne_eqb}
use Rattle.std.proofs.lemmas.List.{append-nil, append_cancel_left, take_all}
use Rattle.std.proofs.lemmas.List.Elements.{All-head, All-tail}
use Rattle.std.proofs.lemmas.Option.{slice_get-get_or, slice_get_within}
use Rattle.ly_base.specs.Shape.{Shape, nil, place, node}
use Rattle.ly_base.specs.declared.cut.Cut.{Cut}
use Rattle.ly_base.specs.declared.cut.Cut.TheVariants.{Whole, Head, Tail}
use Rattle.ly_base.specs.declared.numbers.RuleNo.{RuleNo}
use Rattle.ly_base.specs.declared.numbers.StateNo.{StateNo}
use Rattle.ly_base.specs.declared.version.Version.{Version}
use Rattle.ly_base.specs.declared.version.Version.TheVariants.{V1, V2}
use Rattle.ly_base.specs.declared.scan_action.Emitted.{Emitted}
use Rattle.ly_base.specs.declared.scan_action.Emitted.TheVariants.{Nothing, Terminal, FirstByte}
use Rattle.ly_pack.specs.Machine.{IsLegal, TableRule}
use Rattle.ly_pack.specs.Rows.{Comb, Used}
use Rattle.ly_pack.specs.Steady.{IsSteady}
use Rattle.ly_pack.specs.Values.{action_from}
use Rattle.ly_pack.specs.declared.action.TableAction as code
use Rattle.ly_pack.specs.declared.action.TableAction.TheVariants.{Shift, Reduce, Accept, Error}
use Rattle.ly_tables.specs.Private.SectionOrder.{AreAllWithin, AreFileNumbers}
use Rattle.ly_tables.specs.Private.Meaning.{action_meant, comb_meant, counted_meant, cut_meant, default_meant}
use Rattle.ly_tables.specs.Private.Meaning.{emitted_meant, number_meant, rule_meant, scan_rule_meant, set_meant}
use Rattle.ly_tables.specs.Private.Meaning.{shape_meant, slot_meant, starts_meant, state_meant}
use Rattle.ly_tables.specs.Ranges.{AreRows, AreStartsWithin, IsScanRule, IsWithinVersion, counts_of, number_of}
use Rattle.ly_tables.specs.Ranges.{width_of}
use Rattle.ly_tables.specs.Reading.{raw_file}
use Rattle.ly_tables.specs.RawOf.{cut_kind, cut_length, from_one, kind_of, number_or_none, number_or_zero, raw_comb_of}
use Rattle.ly_tables.specs.RawOf.{raw_of, raw_rule_of, raw_scan_rule_of, raw_starts_of, terminal_of}
use Rattle.ly_tables.specs.RawSections.{IsSectionWithin}
use Rattle.ly_tables.specs.RawSet.{IsRawSet, RawSet, raw_parser_sections, raw_scanner_sections, raw_symbol_sections}
use Rattle.ly_tables.specs.Refusal.{IsRefusedAs}
use Rattle.ly_tables.specs.Spelling.{action_number, check_of, least_reduction, next_of, none_of}
use Rattle.ly_tables.specs.TableSet.{ScanRule, Starts, TableSet, machine_of}
use Rattle.ly_tables.specs.TableText.{TableText}
use Rattle.ly_tables.specs.declared.fault.TableFault.{TableFault}
use Rattle.ly_tables.specs.declared.fault.TableFault.TheVariants.{BadMagic, BadVersion, Endless, OutOfMemory}
use Rattle.ly_tables.specs.declared.fault.TableFault.TheVariants.{OutOfRange, Trailing, Truncated}
use Rattle.ly_tables.proofs.NumberLemmas.{numbers_fit, sections_within}
use Rattle.ly_tables.proofs.MeaningLemmas.{accept_meant, error_meant, reduction_meant, shift_meant}
use Rattle.ly_tables.proofs.RangeLemmas.{few_conditions, few_scan_states, few_states, used_legal}
use Rattle.ly_tables.proofs.RawOfLemmas.{spelling_same}
use Rattle.ly_tables.proofs.SetLemmas.{there_and_back}
use Rattle.ly_tables.proofs.ToldLemmas.{numbers_told, raw_is_one, shorts_told}
use Rattle.ly_tables.proofs.WidthLemmas.{of_version}

number_again : (w : Width) (o : Option ℕ) → ((c : ℕ) → o ≡ Some c → c < none_of w)
    → number_meant w (number_or_none w o) ≡ o
number_again w None below =
    let e : nat_eq (none_of w) (none_of w) ≡ true = eq-eqb (none_of w) (none_of w) refl in rw e refl
number_again w (Some c) below =
    let lt : c < none_of w = below c refl in
    let e : nat_eq c (none_of w) ≡ false = ne_eqb c (none_of w) (λ h. omega (arith, h, lt)) in rw e refl

emitted_again : (e : Emitted) → emitted_meant (kind_of e) (terminal_of e) ≡ e
emitted_again Nothing = refl
emitted_again (Terminal t) = refl
emitted_again FirstByte = refl

cut_again : (c : Cut) → cut_meant (cut_kind c) (cut_length c) ≡ c
cut_again Whole = refl
cut_again (Head n) = refl
cut_again (Tail n) = refl

counted_again : (o : Option ℕ) → counted_meant (from_one o) ≡ o
counted_again None = refl
counted_again (Some n) =
    let e : nat_eq (n + 1) 0 ≡ false = ne_eqb (n + 1) 0 (λ h. omega (arith, h)) in
    let same : n + 1 - 1 ≡ n = omega arith in rw e (ap Some same)

default_again : (o : Option ℕ) → ((p : ℕ) → o ≡ Some p → 1 ≤ p) → default_meant (number_or_zero o) ≡ o
default_again None one = refl
default_again (Some p) one =
    let le : 1 ≤ p = one p refl in
    let e : nat_eq p 0 ≡ false = ne_eqb p 0 (λ h. omega (arith, h, le)) in rw e refl

shape_again : (left body : ℕ) (s : Shape)
    → shape_meant (raw_rule_of (record { left = left; body_length = body; shape = s })) ≡ s
shape_again left body nil = refl
shape_again left body (place i) = refl
shape_again left body (node name places) = refl

action_again : (v : Version) (a : code.TableAction)
    → ((p : RuleNo) → a ≡ Reduce p → p.0 < least_reduction (width_of v))
    → action_meant (width_of v) (action_number (width_of v) (action_from a)) ≡ a
action_again v Accept few = accept_meant v
action_again v Error few = error_meant v
action_again v (Shift s) few = shift_meant v s.0
action_again v (Reduce p) few = reduction_meant v p.0 (few p refl)

module _ {E : Type 0} (w : Width) (meant : ℕ → E) (number : E → ℕ) where
  slot_again : (o : Option (Used E))
      → ((u : Used E) → o ≡ Some u → (u.row < none_of w) × (meant (number u.entry) ≡ u.entry))
      → slot_meant w meant (next_of number o) (check_of w o) ≡ o
  slot_again None holds =
      let e : nat_eq (none_of w) (none_of w) ≡ true = eq-eqb (none_of w) (none_of w) refl in rw e refl
  slot_again (Some u) holds =
      let at = holds u refl in
      let e : nat_eq u.row (none_of w) ≡ false = ne_eqb u.row (none_of w) (λ h. omega (arith, h, at.0)) in
      rw e (λ i. Some (record { row = u.row; entry = at.1 i }))

  slots_again : (slots : List (Option (Used E)))
      → All (λ o. slot_meant w meant (next_of number o) (check_of w o) ≡ o) slots
      → map (λ p. slot_meant w meant p.0 p.1) (zip (map (next_of number) slots) (map (check_of w) slots)) ≡ slots
  slots_again [] all = refl
  slots_again (o ∷ slots) all =
      let first : slot_meant w meant (next_of number o) (check_of w o) ≡ o
      = All-head (λ o. slot_meant w meant (next_of number o) (check_of w o) ≡ o) o slots all in
      let rest = slots_again slots (All-tail (λ o. slot_meant w meant (next_of number o) (check_of w o) ≡ o) o slots
      all) in
      λ i. first i ∷ rest i

  comb_again : (states columns : ℕ) (c : Comb E) → states ≤ none_of w → AreRows states columns c
      → ((k : ℕ) (u : Used E) → slice_get c.slots k ≡ Some (Some u) → meant (number u.entry) ≡ u.entry)
      → comb_meant w meant columns (raw_comb_of w number c) ≡ c
  comb_again states columns c few rows entries =
      let slots = slots_again c.slots (λ k d lt. slot_again _ (λ u e.
      let at = slice_get-get_or c.slots k d lt ∙ ap Some e in
      let lies = rows.is_comb.slots k u at in
      (omega (arith, few, rows.rows, slice_get_within c.bases u.row lies.0 lies.1), entries k u at))) in
      let width = sym rows.width in
      λ i. record { width = width i; bases = c.bases; slots = slots i }

scan_rule_again : (w : Width) (terminals conditions : ℕ) (x : ScanRule) → conditions ≤ none_of w
    → IsScanRule w terminals conditions x → scan_rule_meant w (raw_scan_rule_of w x) ≡ x
scan_rule_again w terminals conditions x few within =
    let begin = number_again w x.action.begin (λ c e. omega (arith, within.begin c e, few)) in
    let emits = emitted_again x.action.emits in
    let cut = cut_again x.cut in
    λ i. record { action = record { begin = begin i; emits = emits i }; cut = cut i }

starts_again : (w : Width) (states : ℕ) (c : Starts) → states ≤ none_of w → AreStartsWithin states c
    → starts_meant w (raw_starts_of w c) ≡ c
starts_again w states c few within =
    let elsewhere = number_again w c.elsewhere (λ s e. omega (arith, within.elsewhere s e, few)) in
    let at_line = number_again w c.at_line (λ s e. omega (arith, within.at_line s e, few)) in
    λ i. record { elsewhere = elsewhere i; at_line = at_line i }

-- what the numbers of a set mean is the set
pub set_again : (v : Version) (s : TableSet) → IsWithinVersion v s → set_meant (width_of v) (raw_of (width_of v) s) ≡ s
set_again v s r =
    let w = width_of v in
    let facts = of_version v in
    let scan_rules = there_and_back (raw_scan_rule_of w) (scan_rule_meant w) s.scan_rules (λ k d lt.
    scan_rule_again w (length s.terminals) (length s.conditions) _ (omega (arith, few_conditions v s r))
    (r.scan_rules k d lt)) in
    let conditions = there_and_back (raw_starts_of w) (starts_meant w) s.conditions (λ k d lt.
    starts_again w (length s.accepted) _ (omega (arith, few_scan_states v s r)) (r.conditions k d lt)) in
    let accepted = there_and_back from_one counted_meant s.accepted (λ k d lt. counted_again _) in
    let scan_rows = comb_again w state_meant (λ (n : StateNo). n.0) (length s.accepted) s.class_count s.scan_rows
    (omega (arith, few_scan_states v s r)) r.scan_rows (λ k u at. refl) in
    let rules = there_and_back raw_rule_of rule_meant s.rules (λ k d lt. rule_again _) in
    let defaults = there_and_back number_or_zero default_meant s.defaults (λ k d lt. default_again _ (λ p e.
    (r.machine.defaults k p (slice_get-get_or s.defaults k d lt ∙ ap Some e)).0)) in
    let actions = comb_again w (action_meant w) (λ a. action_number w (action_from a)) (length s.defaults)
    (length s.terminals) s.actions (omega (arith, few_states v s r)) r.actions (λ k u at.
    let lies = r.actions.is_comb.slots k u at in
    let legal = used_legal v s r k lies.0 u at lies.1 lies.2 lies.3 in
    action_again v u.entry (λ p e. let there = subst (λ a. IsLegal (machine_of s) (k - lies.0) (action_from a)) e legal
    in
    omega (arith, there.1, r.rule_count, facts.rules))) in
    let gotos = comb_again w state_meant (λ (n : StateNo). n.0) (length s.defaults) s.nonterminals s.gotos
    (omega (arith, few_states v s r)) r.gotos (λ k u at. refl) in
    λ i. record {
      terminals = s.terminals;
      nonterminals = s.nonterminals;
      literals = s.literals;
      scan_rules = scan_rules i;
      conditions = conditions i;
      class_count = s.class_count;
      classes = s.classes;
      accepted = accepted i;
      scan_rows = scan_rows i;
      rules = rules i;
      defaults = defaults i;
      actions = actions i;
      gotos = gotos i;
    }
  where
    rule_again : (x : TableRule) → rule_meant (raw_rule_of x) ≡ x
    rule_again x = let shape = shape_again x.left x.body_length x.shape in
        λ i. record { left = x.left; body_length = x.body_length; shape = shape i }

regrouped_two : (m v a b : List ℕ) → (m ++ (v ++ a)) ++ b ≡ m ++ (v ++ (a ++ b))
regrouped_two m v a b = simp append_assoc

regrouped : (m v a b c : List ℕ) → (((m ++ v) ++ a) ++ b) ++ c ≡ m ++ (v ++ ((a ++ b) ++ c))
regrouped m v a b c = simp append_assoc

-- a file begins with its header
headed : (v : Version) (bytes : List ℕ) (r : RawSet) → bytes ≡ raw_file v r
    → (rest : List ℕ) × (bytes ≡ codes "LYTB" ++ (to_be_bytes w16 (number_of v) ++ rest))
headed v bytes r is =
    let w = width_of v in (
      (raw_symbol_sections w r ++ raw_scanner_sections w r) ++ raw_parser_sections w r,
      is ∙ regrouped (codes "LYTB") (to_be_bytes w16 (number_of v)) (raw_symbol_sections w r)
          (raw_scanner_sections w r) (raw_parser_sections w r),
    )

magic_same : (bytes number rest : List ℕ) → bytes ≡ codes "LYTB" ++ (number ++ rest)
    → take 4 bytes ≡ take (length bytes) (codes "LYTB")
magic_same bytes number rest is =
    ap (take 4) is ∙ sym (take_all (length bytes) (codes "LYTB") (omega (arith, ap length is)))

-- the number of a version is one of two bytes
number_small : (v : Version) → number_of v < 65536
number_small V1 = omega arith
number_small V2 = omega arith

-- and that of no other version
number_told : (v u : Version) → number_of v ≡ number_of u → v ≡ u
number_told V1 V1 same = refl
number_told V1 V2 same = absurd (omega (arith, same))
number_told V2 V1 same = absurd (omega (arith, same))
number_told V2 V2 same = refl

-- two headers in front of the same bytes have the same number
version_one : (n m : ℕ) (x y : List ℕ) → n < 65536 → m < 65536
    → codes "LYTB" ++ (to_be_bytes w16 n ++ x) ≡ codes "LYTB" ++ (to_be_bytes w16 m ++ y) → n ≡ m
version_one n m x y small other same = (shorts_told n m x y small other (append_cancel_left (codes "LYTB")
    (to_be_bytes w16 n ++ x) (to_be_bytes w16 m ++ y) same)).0

module _ (v : Version) (bytes : List ℕ) (s : TableSet) (text : TableText bytes v s) where
  spelled : bytes ≡ raw_file v (raw_of (width_of v) s)
  spelled = text.1 ∙ spelling_same (width_of v) (number_of v) s

  header : (rest : List ℕ) × (bytes ≡ codes "LYTB" ++ (to_be_bytes w16 (number_of v) ++ rest))
  header = headed v bytes (raw_of (width_of v) s) spelled

  -- bytes before and behind which something stands have the version that those have
  same_version : (u : Version) (q : RawSet) (x y : List ℕ) → bytes ++ x ≡ raw_file u q ++ y → v ≡ u
  same_version u q x y is =
      let other = headed u (raw_file u q) q refl in
      number_told v u (version_one (number_of v) (number_of u) (header.0 ++ x) (other.0 ++ y) (number_small v)
      (number_small u) (sym (regrouped_two (codes "LYTB") (to_be_bytes w16 (number_of v)) header.0 x)
      ∙ ap (λ b. b ++ x) (sym header.1) ∙ is ∙ ap (λ b. b ++ y) other.1
      ∙ regrouped_two (codes "LYTB") (to_be_bytes w16 (number_of u)) other.0 y))

  one_raw : (u : Version) (q : RawSet) (x y : List ℕ) → AreFileNumbers u q → bytes ++ x ≡ raw_file u q ++ y
      → (v ≡ u) × (raw_of (width_of u) s ≡ q) × (x ≡ y)
  one_raw u q x y fits is =
      let same = same_version u q x y is in
      let told = subst (λ t. IsRawSet (width_of t) (raw_of (width_of t) s) × (bytes ≡ raw_file t (raw_of (width_of t)
      s))) same (numbers_fit v s text.0, spelled) in
      let one = raw_is_one (width_of u) (numbers_told u) (number_of u) (raw_of (width_of u) s) q x y told.0 fits
      (ap (λ b. b ++ x) (sym told.1) ∙ is) in
      (same, one.0, one.1)

  same_raw : (u : Version) (q : RawSet) → AreFileNumbers u q → bytes ≡ raw_file u q
      → (v ≡ u) × (raw_of (width_of u) s ≡ q)
  same_raw u q fits is = let one = one_raw u q [] [] fits (ap (λ b. b ++ []) is) in (one.0, one.1)

-- a file has one set, and one version
pub set_is_one : (bytes : List ℕ) (v u : Version) (a b : TableSet) → TableText bytes v a → TableText bytes u b
    → (v ≡ u) × (a ≡ b)
set_is_one bytes v u a b text other =
    let one = same_raw v bytes a text u (raw_of (width_of u) b) (numbers_fit u b other.0) (spelled u bytes b other) in
    let within = subst (λ t. IsWithinVersion t a) one.0 text.0 in
    (one.0, sym (set_again u a within) ∙ ap (set_meant (width_of u)) one.1 ∙ set_again u b other.0)

-- bytes that are refused, but for want of memory, are no set's whose tables are steady
pub refusal_exact : (bytes : List ℕ) (v : Version) (s : TableSet) (fault : TableFault) → IsRefusedAs bytes fault
    → (fault ≡ OutOfMemory → ⊥) → TableText bytes v s → IsSteady (machine_of s) → ⊥
refusal_exact bytes v s BadMagic other known text steady =
    let head = header v bytes s text in other (magic_same bytes (to_be_bytes w16 (number_of v)) head.0 head.1)
refusal_exact bytes v s BadVersion (other, rest, small, apart, is) known text steady =
    let head = header v bytes s text in
    apart v (version_one other (number_of v) rest head.0 small (number_small v)
    (sym (append_assoc (codes "LYTB") (to_be_bytes w16 other) rest) ∙ sym is ∙ head.1))
refusal_exact bytes v s Truncated (inl lacking) known text steady =
    let head = header v bytes s text in
    omega (arith, lacking.0, ap length head.1)
refusal_exact bytes v s Truncated (inr (u, q, missing, fits, some, is)) known text steady =
    some ((one_raw v bytes s text u q missing [] fits (is ∙ sym (append-nil (raw_file u q)))).2)
refusal_exact bytes v s Trailing (u, q, left, fits, some, is) known text steady =
    some (sym (one_raw v bytes s text u q [] left fits (append-nil bytes ∙ is)).2)
refusal_exact bytes v s (OutOfRange number) (u, q, section, fits, is, first, named) known text steady =
    let same = same_raw v bytes s text u q fits is in
    let within = subst (λ t. AreAllWithin t (raw_of (width_of t) s)) same.0 (sections_within v s text.0) in
    first.out (subst (λ (r : RawSet). IsSectionWithin (width_of u) (counts_of u) r section) same.1 (within section))
refusal_exact bytes v s Endless (u, other, said, endless) known text steady =
    endless (subst (λ (t : TableSet). IsSteady (machine_of t)) (set_is_one bytes v u s other text said).1 steady)
refusal_exact bytes v s OutOfMemory said known text steady = known refl
