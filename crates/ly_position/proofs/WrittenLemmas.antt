-- An expression written out has its strings.
use Rattle.std.proofs.Common.{◌≡◌, inl, inr, ◌⊎◌, ℕ, zero, suc, ◌+◌, ◌-◌, ◌<◌, ◌≤◌, List, [], ◌++◌, length}
use Rattle.std.proofs.Common.{false, Option, Some, None, refl, sym, ◌∙◌, ap, subst, arith}
use Rattle.std.specs.Prelude.{slice_get, nat_eq, nat_le, ◌↔◌}
use Rattle.std.proofs.lemmas.Bool.{cases_Bool, eqb-true, eq-eqb, leb-true, le-leb}
use Rattle.ly_base.proofs.MemberLemmas.{Contains-none}
use Rattle.ly_ere.specs.Expression.{Expression, set, empty, concat, either, star, plus, optional, repeat, name}
use Rattle.ly_ere.specs.Expression.{Concatenated}
use Rattle.ly_ere.specs.Expression.{IsAtMost, MatchesUnder, NamedUpTo}
use Rattle.ly_position.specs.Written.{Plain, one_of, some_times, Member, copies, up_to, times, written_under}
use Rattle.ly_position.specs.Written.{definition_under, named_up_to}
use Rattle.ly_position.specs.Laws.{WrittenMatches}
use Rattle.ly_position.proofs.JoinedLemmas.{InTurn, Same, AtMost, Plus, same_trans, in_turn_same, or_same, joined_same}
use Rattle.ly_position.proofs.JoinedLemmas.{star_same, plus_same, joined_more, at_most_more, between, or_more}

copies_strings : (m : ℕ) (r s : Plain) → Same (Member (copies m r s)) (InTurn (Concatenated (Member r) m) (Member s))
copies_strings zero r s w
    = (λ h. ([], w, refl, refl, h), λ h. subst (Member s) (sym (h.2 ∙ ap (λ z. z ++ h.1) h.3)) h.4)
copies_strings (suc m) r s w = same_trans (Member (copies (suc m) r s))
    (InTurn (Member r) (InTurn (Concatenated (Member r) m) (Member s)))
    (InTurn (Concatenated (Member r) (suc m)) (Member s))
    (in_turn_same (Member r) (Member r) (Member (copies m r s)) (InTurn (Concatenated (Member r) m) (Member s))
    (λ w. (λ h. h, λ h. h)) (copies_strings m r s))
    (let P : ℕ → Type 0 = λ n. Same (InTurn (Member r) (InTurn (Concatenated (Member r) m) (Member s)))
    (InTurn (Concatenated (Member r) n) (Member s)) in
    let e : m + 1 ≡ suc m = omega arith in subst P e (joined_more (Member r) (Member s) m)) w

up_to_strings : (n : ℕ) (r : Plain) → Same (Member (up_to n r)) (AtMost (Member r) n)
up_to_strings zero r w = (λ h. (0, omega arith, h), back)
  where
    back : AtMost (Member r) 0 w → w ≡ []
    back (zero, l, j) = j
    back (suc k, l, j) = absurd (omega (arith, l))
up_to_strings (suc n) r w = same_trans (Member (up_to (suc n) r))
    (λ w. (w ≡ []) ⊎ InTurn (Member r) (AtMost (Member r) n) w)
    (AtMost (Member r) (suc n))
    (or_same (λ w. w ≡ []) (λ w. w ≡ []) (InTurn (Member r) (Member (up_to n r)))
    (InTurn (Member r) (AtMost (Member r) n)) (λ w. (λ h. h, λ h. h))
    (in_turn_same (Member r) (Member r) (Member (up_to n r)) (AtMost (Member r) n) (λ w. (λ h. h, λ h. h))
    (up_to_strings n r)))
    (let P : ℕ → Type 0 = λ m. Same (λ w. (w ≡ []) ⊎ InTurn (Member r) (AtMost (Member r) n) w) (AtMost (Member r) m) in
    let e : n + 1 ≡ suc n = omega arith in subst P e (at_most_more (Member r) n)) w

-- how often an interval repeats
abbrev Times : ℕ → Option ℕ → (List ℕ → Type 0) → List ℕ → Type 0
Times m n L w = (k : ℕ) × (m ≤ k) × IsAtMost k n × Concatenated L k w

times_strings : (m : ℕ) (n : Option ℕ) (r : Plain) → Same (Member (times m n r)) (Times m n (Member r))
times_strings zero None r w = (λ h. (h.0, omega arith, tt, h.1), λ h. (h.0, h.3))
times_strings (suc m) None r w =
    let e : suc m - 1 ≡ m = omega arith in
    same_trans (Member (copies m r (some_times r))) (InTurn (Concatenated (Member r) m) (Plus (Member r)))
    (Times (suc m) None (Member r)) (copies_strings m r (some_times r))
    (let P : ℕ
    → Type 0 = λ k. Same (InTurn (Concatenated (Member r) k) (Plus (Member r))) (Times (suc m) None (Member r)) in
    subst P e (or_more (Member r) (suc m) (omega arith))) w
times_strings m (Some n) r w = elim (cases_Bool (nat_le m n)) [
  | inl fits ↦ rw fits (same_trans (Member (copies m r (up_to (n - m) r)))
      (InTurn (Concatenated (Member r) m) (AtMost (Member r) (n - m))) (Times m (Some n) (Member r))
      (same_trans (Member (copies m r (up_to (n - m) r)))
      (InTurn (Concatenated (Member r) m) (Member (up_to (n - m) r)))
      (InTurn (Concatenated (Member r) m) (AtMost (Member r) (n - m))) (copies_strings m r (up_to (n - m) r))
      (in_turn_same (Concatenated (Member r) m) (Concatenated (Member r) m) (Member (up_to (n - m) r))
      (AtMost (Member r) (n - m))
      (λ w. (λ h. h, λ h. h)) (up_to_strings (n - m) r)))
      (between (Member r) m n (leb-true m n fits)) w)
  | inr past ↦ rw past (
    λ h. Contains-none h.0 h.1,
    λ h. let le : m ≤ n = omega (arith, h.1, h.2) in let e = le-leb m n le in absurd cc,
  )
]

times_same : (m : ℕ) (n : Option ℕ) (L M : List ℕ → Type 0) → Same L M → Same (Times m n L) (Times m n M)
times_same m n L M f w = (
  λ h. (h.0, h.1, h.2, (joined_same L M f h.0 w).0 h.3),
  λ h. (h.0, h.1, h.2, (joined_same L M f h.0 w).1 h.3),
)

module _ (N : ℕ → List ℕ → Type 0) (P : ℕ → Plain) (f : (x : ℕ) → Same (N x) (Member (P x))) where
  written_strings : (e : Expression) → Same (MatchesUnder N e) (Member (written_under P e))
  written_strings (set bytes) w = (λ h. h, λ h. h)
  written_strings empty w = (λ h. h, λ h. h)
  written_strings (concat r s) w = in_turn_same (MatchesUnder N r) (Member (written_under P r)) (MatchesUnder N s)
      (Member (written_under P s)) (written_strings r) (written_strings s) w
  written_strings (either r s) w = or_same (MatchesUnder N r) (Member (written_under P r)) (MatchesUnder N s)
      (Member (written_under P s)) (written_strings r) (written_strings s) w
  written_strings (star r) w = star_same (MatchesUnder N r) (Member (written_under P r)) (written_strings r) w
  written_strings (plus r) w = plus_same (MatchesUnder N r) (Member (written_under P r)) (written_strings r) w
  written_strings (optional r) w = or_same (λ w. w ≡ []) (λ w. w ≡ []) (MatchesUnder N r) (Member (written_under P r))
      (λ w. (λ h. h, λ h. h)) (written_strings r) w
  written_strings (repeat m n r) w =
      let a = times_same m n (MatchesUnder N r) (Member (written_under P r)) (written_strings r) w in
      let b = times_strings m n (written_under P r) w in
      (λ h. b.1 (a.0 h), λ h. a.1 (b.0 h))
  written_strings (name x) w = f x w

named_below : (names : List Expression) (n x : ℕ) (w : List ℕ) → NamedUpTo names n x w → x < n
named_below names zero x w h = absurd h
named_below names (suc n) x w (inl h) = omega (arith, h.0)
named_below names (suc n) x w (inr h) = omega (arith, h.0)

named_one : (names : List Expression) (n : ℕ) → ((x : ℕ) → Same (NamedUpTo names n x) (Member (named_up_to names n x)))
    → (o : Option Expression) → slice_get names n ≡ o → (w : List ℕ)
    → NamedUpTo names (suc n) n w ↔ Member (definition_under (named_up_to names n) o) w
named_one names n f None is w = (there, λ h. Contains-none h.0 h.1)
  where
    there : NamedUpTo names (suc n) n w → Member (one_of []) w
    there (inl h) = let a = h.2 in absurd cc
    there (inr h) = absurd (omega (arith, h.0))
named_one names n f (Some d) is w
    = (there, λ h. inl (refl, d, is, (written_strings (NamedUpTo names n) (named_up_to names n) f d w).1 h))
  where
    there : NamedUpTo names (suc n) n w → Member (written_under (named_up_to names n) d) w
    there (inl h) =
        let e : h.1 ≡ d = let a = h.2 in cc in
        (written_strings (NamedUpTo names n) (named_up_to names n) f d w).0
        (subst (λ (x : Expression). MatchesUnder (NamedUpTo names n) x w) e h.3)
    there (inr h) = absurd (omega (arith, h.0))

named_next : (names : List Expression) (n : ℕ) → ((x : ℕ) → Same (NamedUpTo names n x) (Member (named_up_to names n x)))
    → (x : ℕ) (w : List ℕ) → NamedUpTo names (suc n) x w ↔ Member (named_up_to names (suc n) x) w
named_next names n f x w = elim (cases_Bool (nat_eq x n)) [
  | inl same ↦ rw same (subst (λ y. NamedUpTo names (suc n) y w
      ↔ Member (definition_under (named_up_to names n) (slice_get names n)) w) (sym (eqb-true x n same))
      (named_one names n f (slice_get names n) refl w))
  | inr other ↦ rw other (there other, λ h. inr (named_below names n x w ((f x w).1 h), (f x w).1 h))
]
  where
    there : nat_eq x n ≡ false → NamedUpTo names (suc n) x w → Member (named_up_to names n x) w
    there e (inl h) = let a = eq-eqb x n h.0 in absurd cc
    there e (inr h) = (f x w).0 h.1

named_strings : (names : List Expression) (n x : ℕ) → Same (NamedUpTo names n x) (Member (named_up_to names n x))
named_strings names zero x w = (λ h. absurd h, λ h. Contains-none h.0 h.1)
named_strings names (suc n) x w = named_next names n (named_strings names n) x w

pub written_matches : WrittenMatches
written_matches names e w
    = written_strings (NamedUpTo names (length names)) (named_up_to names (length names))
    (named_strings names (length names)) e w
