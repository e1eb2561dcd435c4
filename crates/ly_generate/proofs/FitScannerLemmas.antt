-- What a lex file says of a scanner within the limits, a table file of a version can hold.
use Rattle.std.proofs.Common.{◌≡◌, ◌∙◌, ◌<◌, ◌≤◌, ◌*◌, ◌^◌, ℕ, zero, suc, List, [], ◌∷◌, ◌++◌, Option, Some, None}
use Rattle.std.proofs.Common.{Bool, true, false, ap, arith, inl, inr, length, length-append, map, option_map, refl}
use Rattle.std.proofs.Common.{slice_get, subst, sym}
use Rattle.std.specs.Prelude.{IsSome, if◌then◌else◌, nat_eq, slice_index_or}
use Rattle.std.specs.Int.{Width, byte_len}
use Rattle.std.specs.List.{AllZip}
use Rattle.std.specs.Rc.{rc_slice_items}
use Rattle.std.proofs.lemmas.Bool.Decides.{nat_tests}
use Rattle.std.proofs.lemmas.Option.{get_or_from_slice_get, same_Some, slice_get-get_or, slice_get-map}
use Rattle.std.proofs.lemmas.Option.{slice_get_within}
use Rattle.ly_base.specs.Limits.{AreBounded, Sizes, sizes_in}
use Rattle.ly_base.specs.declared.version.Version.{Version}
use Rattle.ly_base.specs.declared.cut.Cut.{Cut}
use Rattle.ly_base.specs.declared.scan_action.Emitted.{Emitted}
use Rattle.ly_base.specs.declared.scan_action.ScanAction.{ScanAction}
use Rattle.ly_emit.specs.FitsFile.{IsActionWithin, IsScannerWithin}
use Rattle.ly_emit.proofs.RangeLemmas.{literal_within, past_end}
use Rattle.ly_ere.specs.Expression.{Expression, IsAtMost, Concatenated, Matches, MatchesUnder, NamedUpTo}
use Rattle.ly_ere.specs.Expression.{concat, either, empty, name, optional, plus, repeat, set, star}
use Rattle.ly_ere.specs.Names.{defined}
use Rattle.ly_ere.specs.Patterns.{HasOneLength, IsCutOf}
use Rattle.ly_ere.specs.Weight.{named_weight, weight_of, weight_of_both, weight_under}
use Rattle.ly_ere.specs.declared.pattern.Rule.{Rule}
use Rattle.ly_ere.proofs.LengthLemmas.{copies, copies_joined, repeated_light}
use Rattle.ly_join.specs.Counts.{IsWithin}
use Rattle.ly_join.specs.Joined.{Joined, Spec}
use Rattle.ly_join.specs.Scanning.{Acting, IsEmitted, IsScanAction, acting_of, returning_of, scanning_of}
use Rattle.ly_join.specs.Terminals.{TerminalName, end, token, undefined}
use Rattle.ly_join.specs.declared.limit.Limit.TheVariants as limit
use Rattle.ly_lexread.specs.LexText.{LexText}
use Rattle.ly_lexread.specs.declared.action.LexAction.{LexAction}
use Rattle.ly_lexread.specs.declared.action.Returned.{Returned}
use Rattle.ly_lexread.specs.declared.action.Returned.TheVariants as lex
use Rattle.ly_lexread.specs.declared.file.LexFile.{LexFile}
use Rattle.ly_lexread.proofs.BeginLemmas.{begins_below, has_condition}
use Rattle.ly_lexread.proofs.FileLemmas.{rules_of}
use Rattle.ly_position.specs.TotalWeight.{total_weight}
use Rattle.ly_subset.specs.Automaton.{Automaton}
use Rattle.ly_tables.specs.Ranges.{IsCutWithin, IsEmittedWithin, counts_of, width_of}
use Rattle.ly_yaccread.specs.File.{Written}
use Rattle.ly_generate.proofs.VersionLemmas.{AreCounted, below_too, counted}

-- a string of L that is no longer than this
abbrev HasShort : (List ℕ → Type 0) → ℕ → Type 0
HasShort L most = (u : List ℕ) × L u × (length u ≤ most)

copies_short : (k : ℕ) (s : List ℕ) → length (copies k s) ≡ k * length s
copies_short zero s = omega arith
copies_short (suc k) s = omega (arith, copies_short k s, length-append s (copies k s))

at_most_none : (n : Option ℕ) → IsAtMost 0 n
at_most_none None = tt
at_most_none (Some n) = omega arith

at_most_less : (m k : ℕ) (n : Option ℕ) → m ≤ k → IsAtMost k n → IsAtMost m n
at_most_less m k None le most = tt
at_most_less m k (Some n) le most = omega (arith, le, most)

-- an expression with a string has one that is no longer than its weight
module _ (N : ℕ → List ℕ → Type 0) (named : ℕ → ℕ)
    (of_name : (x : ℕ) (u : List ℕ) → N x u → HasShort (N x) (named x)) where
  one_of : (L : List ℕ → Type 0) (k : ℕ) (u : List ℕ) → 1 ≤ k → Concatenated L k u → (v : List ℕ) × L v
  one_of L zero u some all = absurd (omega (arith, some))
  one_of L (suc k) u some all = (all.0, all.3)

  -- copies of the shortest
  repeated_short : (m : ℕ) (n : Option ℕ) (r : Expression) → ((u : List ℕ) → MatchesUnder N r u
      → HasShort (MatchesUnder N r) (weight_under named r)) → (k : ℕ) (u : List ℕ) → m ≤ k → IsAtMost k n
      → Concatenated (MatchesUnder N r) k u
      → HasShort (MatchesUnder N (repeat m n r)) (weight_under named (repeat m n r))
  repeated_short zero n r short k u le most all = ([], (0, omega arith, at_most_none n, refl), omega arith)
  repeated_short (suc m) n r short k u le most all =
      let one = one_of (MatchesUnder N r) k u (omega (arith, le)) all in
      let v = short one.0 one.1 in
      let fits = at_most_less (suc m) k n le most in
      let long = copies_short (suc m) v.0 in
      let light = repeated_light (suc m) n (length v.0) (weight_under named r) fits v.2 in (
        copies (suc m) v.0,
        (suc m, omega arith, fits, copies_joined (MatchesUnder N r) (suc m) v.0 v.1),
        subst (λ l. l ≤ weight_under named (repeat (suc m) n r)) (sym long) light,
      )

  short_under : (e : Expression) (u : List ℕ) → MatchesUnder N e u → HasShort (MatchesUnder N e) (weight_under named e)
  short_under (set bytes) u h = (h.0 ∷ [], (h.0, h.1, refl), omega arith)
  short_under empty u h = ([], refl, omega arith)
  short_under (concat r s) u h =
      let a = short_under r h.0 h.3 in
      let b = short_under s h.1 h.4 in (
        a.0 ++ b.0,
        (a.0, b.0, refl, a.1, b.1),
        omega (arith, length-append a.0 b.0, a.2, b.2),
      )
  short_under (either r s) u (inl h) = let a = short_under r u h in let le = a.2 in (a.0, inl a.1, omega (arith, le))
  short_under (either r s) u (inr h) = let a = short_under s u h in let le = a.2 in (a.0, inr a.1, omega (arith, le))
  short_under (star r) u h = ([], (0, refl), omega arith)
  short_under (plus r) u h =
      let one = one_of (MatchesUnder N r) h.0 u h.1 h.2 in
      let a = short_under r one.0 one.1 in (
        copies 1 a.0,
        (1, omega arith, copies_joined (MatchesUnder N r) 1 a.0 a.1),
        omega (arith, copies_short 1 a.0, a.2),
      )
  short_under (optional r) u h = ([], inl refl, omega arith)
  short_under (repeat m n r) u h = repeated_short m n r (λ v l. short_under r v l) h.0 u h.1 h.2 h.3
  short_under (name x) u h = of_name x u h

-- so has the definition of a name
named_short : (names : List Expression) (n x : ℕ) (u : List ℕ) → NamedUpTo names n x u
    → HasShort (NamedUpTo names n x) (named_weight names n x)
named_short names zero x u h = absurd h
named_short names (suc n) x u (inl h) =
    let a = short_under (NamedUpTo names n) (named_weight names n) (named_short names n) h.1 u h.3 in
    let same : nat_eq x n ≡ true = grind (arith, nat_tests, h.0) in
    let there : slice_index_or names n empty ≡ h.1 = get_or_from_slice_get names n h.1 empty h.2 in
    let weighs : named_weight names (suc n) x ≡ weight_under (named_weight names n) h.1
    = ap (λ (t : Bool). if t then weight_under (named_weight names n) (slice_index_or names n empty)
    else named_weight names n x) same ∙ ap (weight_under (named_weight names n)) there in
    (a.0, inl (h.0, h.1, h.2, a.1), subst (λ w. length a.0 ≤ w) (sym weighs) a.2)
named_short names (suc n) x u (inr h) =
    let a = named_short names n x u h.1 in
    let lt = h.0 in
    let other : nat_eq x n ≡ false = grind (arith, nat_tests, lt) in
    let weighs : named_weight names (suc n) x ≡ named_weight names n x
    = ap (λ (t : Bool). if t then weight_under (named_weight names n) (slice_index_or names n empty)
    else named_weight names n x) other in
    (a.0, inr (h.0, a.1), subst (λ w. length a.0 ≤ w) (sym weighs) a.2)

-- the one length of an expression is no greater than its weight
length_light : (names : List Expression) (e : Expression) (n : ℕ) → HasOneLength names e n → n ≤ weight_of names e
length_light names e n one =
    let short = short_under (NamedUpTo names (length names)) (named_weight names (length names))
    (named_short names (length names)) e one.string one.belongs in
    let same = one.all short.0 short.1 in
    let le = short.2 in
    omega (arith, same, le)

some_length : (names : List Expression) (e : Expression) (n : ℕ) → HasOneLength names e n → (Matches names e [] → ⊥)
    → 1 ≤ n
some_length names e zero one some = absurd (some (subst (Matches names e) (none one.string (one.all one.string
    one.belongs)) one.belongs))
  where
    none : (u : List ℕ) → length u ≡ 0 → u ≡ []
    none [] l = refl
    none (b ∷ u) l = absurd (omega (arith, l))
some_length names e (suc n) one some = omega arith

-- so what is cut is counted by a number that has room for the weight
cut_within : (width : Width) (names : List Expression) (head : Expression) (tail : Option Expression) (cut : Cut)
    → (IsSome tail → Matches names head [] → ⊥) → IsCutOf names head tail cut
    → weight_of_both names head tail < 2 ^ (8 * byte_len width) → IsCutWithin width cut
cut_within width names head None cut some is light = subst (IsCutWithin width) (sym is) tt
cut_within width names head (Some tail) cut some (inl h) light =
    let le = length_light names head h.0 h.1 in
    let lt = below_too h.0 (weight_of names head) (2 ^ (8 * byte_len width)) le (below_too (weight_of names head)
    (weight_of_both names head (Some tail)) (2 ^ (8 * byte_len width)) (omega arith) light) in
    subst (IsCutWithin width) (sym h.2) (some_length names head h.0 h.1 (some refl), lt)
cut_within width names head (Some tail) cut some (inr h) light =
    let le = length_light names tail h.1 h.2 in
    let lt = below_too h.1 (weight_of names tail) (2 ^ (8 * byte_len width)) le (below_too (weight_of names tail)
    (weight_of_both names head (Some tail)) (2 ^ (8 * byte_len width)) (omega arith) light) in
    subst (IsCutWithin width) (sym h.3) lt

-- a pattern is no heavier than all together
part_light : (names : List Expression) (rules : List Rule) (k : ℕ) (r : Rule) → slice_get rules k ≡ Some r
    → weight_of_both names r.pattern.head r.pattern.tail ≤ total_weight names rules
part_light names [] k r at = absurd cc
part_light names (q ∷ rules) zero r at = let same : q ≡ r = cc in
    subst (λ (p : Rule). weight_of_both names p.pattern.head p.pattern.tail ≤ total_weight names (q ∷ rules)) same
    (omega arith)
part_light names (q ∷ rules) (suc k) r at = let le = part_light names rules k r at in omega (arith, le)

-- what actions emit is there
emits_within : (ts : List TerminalName) (returns : Returned) (e : Emitted) → slice_get ts 0 ≡ Some end
    → slice_get ts 1 ≡ Some undefined → IsEmitted ts (returning_of returns) e → IsEmittedWithin (length ts) e
emits_within ts lex.Nothing e first second is = subst (IsEmittedWithin (length ts)) (sym is) tt
emits_within ts (lex.Token n) e first second is = subst (IsEmittedWithin (length ts)) (sym is.1)
    (let name = token (rc_slice_items n) in
    (past_end ts is.0 name first is.2 (λ e. absurd cc), slice_get_within ts is.0 name is.2))
emits_within ts (lex.Literal b) e first second is = subst (IsEmittedWithin (length ts)) (sym is.1)
    (literal_within ts b is.0 first second is.2)
emits_within ts lex.FirstByte e first second is = subst (IsEmittedWithin (length ts)) (sym is) tt

zip_at : {X Y : Type 0} (R : X → Y → Type 0) (xs : List X) (ys : List Y) (k : ℕ) (y : Y) → AllZip R xs ys
    → slice_get ys k ≡ Some y → (x : X) × (slice_get xs k ≡ Some x) × R x y
zip_at R [] [] k y all at = absurd cc
zip_at R [] (z ∷ ys) k y all at = absurd all
zip_at R (x ∷ xs) [] k y all at = absurd all
zip_at R (x ∷ xs) (z ∷ ys) zero y all at = let same : z ≡ y = cc in (x, refl, subst (R x) same all.0)
zip_at R (x ∷ xs) (z ∷ ys) (suc k) y all at = zip_at R xs ys k y all.1 at

module _ (v : Version) (limits : Sizes) (lex : List ℕ) (file : LexFile) (w : Written) (s : Spec)
    (bounded : AreBounded (sizes_in v) limits) (text : LexText lex file) (joined : Joined (scanning_of file) w s)
    (within : IsWithin limits (scanning_of file) w)
    (weight : total_weight (defined file.names) file.rules.items ≤ limits.total_weight) where
  counts : AreCounted v limits
  counts = counted v limits bounded

  action_within : (starts : ℕ) → starts ≡ 2 * file.conditions → (k : ℕ) (c : ScanAction)
      → slice_get s.scanner k ≡ Some c → IsActionWithin (length s.terminals) starts c
  action_within starts two k c at = by (slice_get file.actions.items k) refl
    where
      partner : (a : Acting) × (slice_get (map acting_of file.actions.items) k ≡ Some a)
          × IsScanAction s.terminals a c
      partner = zip_at (IsScanAction s.terminals) (map acting_of file.actions.items) s.scanner k c joined.scanner at

      mapped : option_map acting_of (slice_get file.actions.items k) ≡ Some partner.0
      mapped = sym (slice_get-map acting_of file.actions.items k) ∙ partner.1

      by : (o : Option LexAction) → slice_get file.actions.items k ≡ o → IsActionWithin (length s.terminals) starts c
      by None e = let none : None ≡ Some partner.0 = ap (option_map acting_of) (sym e) ∙ mapped in absurd cc
      by (Some a) e =
          let one : Some (acting_of a) ≡ Some partner.0 = ap (option_map acting_of) (sym e) ∙ mapped in
          let same = same_Some (acting_of a) partner.0 one in
          let does = subst (λ b. IsScanAction s.terminals b c) (sym same) partner.2 in
          record {
            emits = emits_within s.terminals a.returns c.emits (ap (λ ts. slice_get ts 0) joined.terminals)
                (ap (λ ts. slice_get ts 1) joined.terminals) does.emits;
            begin = λ n is. let lt = begins_below lex file text k a n e (sym does.begin ∙ is) in
                omega (arith, lt, two);
          }

  cut_short : (k : ℕ) (r : Rule) → slice_get file.rules.items k ≡ Some r → IsCutWithin (width_of v) r.pattern.cut
  cut_short k r at =
      let of_file = rules_of lex file text k r at in
      let light = part_light (defined file.names) file.rules.items k r at in
      cut_within (width_of v) (defined file.names) r.pattern.head r.pattern.tail r.pattern.cut of_file.some_head
      of_file.is_cut (below_too _ limits.total_weight (2 ^ (8 * byte_len (width_of v))) (omega (arith, light, weight))
      counts.total_weight)

  pub scanner_within : (walk : Automaton) → walk.starts ≡ 2 * file.conditions
      → length walk.rules ≤ limits.scanner_states
      → ((k p : ℕ) → slice_get walk.rules k ≡ Some (Some p) → p < length file.rules.items)
      → IsScannerWithin (width_of v) (counts_of v) s file.rules.items walk
  scanner_within walk two few accepted = record {
    rule_count =
        let most : length file.rules.items ≤ limits.lex_rules = within limit.LexRules in
        let bound = counts.lex_rules in
        omega (arith, most, bound);
    actions = λ k d lt. action_within walk.starts two k _ (slice_get-get_or s.scanner k d lt);
    cuts = λ k d lt. cut_short k _ (slice_get-get_or file.rules.items k d lt);
    some_condition = let some = has_condition lex file text in omega (arith, two, some);
    conditions =
        let most : file.conditions ≤ limits.conditions = within limit.Conditions in
        let bound = counts.conditions in
        omega (arith, two, most, bound);
    states = let bound = counts.scanner_states in omega (arith, few, bound);
    accepted = accepted;
  }
