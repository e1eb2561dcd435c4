-- Lemmas on sets of bytes.
use Rattle.std.proofs.Common.{◌≡◌, ◌<◌, ◌≤◌, ◌+◌, ℕ, List, [], ◌∷◌, Bool, true, false, filter, zero, suc, nat_eq}
use Rattle.std.proofs.Common.{IsTrue, ◌↔◌, refl, ap, sym, ◌∙◌, arith, inl, inr, subst}
use Rattle.std.specs.List.{All, Contains, range_with_len}
use Rattle.std.proofs.lemmas.Bool.{cases_Bool, cases_eq, eq-eqb, false_from_ne_true, ne_eqb}
use Rattle.std.proofs.lemmas.List.Elements.{All-contains, All-cons, All-filter, All-nil, Contains-append_left}
use Rattle.std.proofs.lemmas.List.Elements.{Contains-append_right, Contains-push, filter_passes}
use Rattle.ly_base.specs.declared.byte_set.ByteSet.{ByteSet}
use Rattle.ly_base.specs.ByteSet.{all_bytes, bytes_where, has, members}
use Rattle.ly_base.proofs.MemberLemmas.{Contains-none, Contains-one}

-- two tests that agree in a range keep the same numbers of it
range_agree : (p q : ℕ → Bool) (a n : ℕ) → ((b : ℕ) → a ≤ b → b < a + n → p b ≡ q b)
    → filter p (range_with_len a n) ≡ filter q (range_with_len a n)
range_agree p q a zero h = refl
range_agree p q a (suc n) h =
    rw (h a (omega arith) (omega arith), range_agree p q (a + 1) n (λ b l m. h b (omega arith) (omega arith)))

-- two tests that agree below 256 keep the same bytes
pub bytes_agree : (p q : ℕ → Bool) → ((b : ℕ) → b < 256 → p b ≡ q b) → bytes_where p ≡ bytes_where q
unfolding all_bytes
bytes_agree p q h = range_agree p q 0 256 (λ b l m. h b (omega arith))

range_none : (p : ℕ → Bool) (a n : ℕ) → ((b : ℕ) → a ≤ b → b < a + n → p b ≡ false) → filter p (range_with_len a n) ≡ []
range_none p a zero h = refl
range_none p a (suc n) h
    = rw (h a (omega arith) (omega arith), range_none p (a + 1) n (λ b l m. h b (omega arith) (omega arith)))

-- a test that no byte passes keeps none
pub bytes_none : (p : ℕ → Bool) → ((b : ℕ) → b < 256 → p b ≡ false) → bytes_where p ≡ []
unfolding all_bytes
bytes_none p h = range_none p 0 256 (λ b l m. h b (omega arith))

range_one : (b a n : ℕ) → a ≤ b → b < a + n → filter (nat_eq b) (range_with_len a n) ≡ b ∷ []
range_one b a zero l m = absurd (omega arith)
range_one b a (suc n) l m = elim (cases_eq b a) [
  | inl same ↦ rw (eq-eqb b a same, range_none (nat_eq b) (a + 1) n (λ c j k. ne_eqb b c (λ e. absurd (omega arith))))
      (ap (λ x. x ∷ []) (sym same))
  | inr other ↦ rw (ne_eqb b a other) (range_one b (a + 1) n (omega arith) (omega arith))
]

-- the bytes that equal b
pub bytes_one : (b : ℕ) → b < 256 → bytes_where (nat_eq b) ≡ b ∷ []
unfolding all_bytes
bytes_one b h = range_one b 0 256 (omega arith) (omega arith)

range_below : (m a n : ℕ) → a + n ≤ m → All (λ x. x < m) (range_with_len a n)
range_below m a zero h = All-nil (λ x. x < m)
range_below m a (suc n) h = All-cons (λ x. x < m) a (range_with_len (a + 1) n) (omega arith)
    (range_below m (a + 1) n (omega arith))

kept : (p : ℕ → Bool) (x : ℕ) (xs : List ℕ) (b : ℕ) → Contains (filter p xs) b → Contains (filter p (x ∷ xs)) b
kept p x xs b h = elim (cases_Bool (p x)) [
  | inl passes ↦ rw passes (Contains-append_right (x ∷ []) (filter p xs) b h)
  | inr fails ↦ rw fails h
]

range_contains : (p : ℕ → Bool) (b a n : ℕ) → a ≤ b → b < a + n → p b ≡ true
    → Contains (filter p (range_with_len a n)) b
range_contains p b a zero l m h = absurd (omega arith)
range_contains p b a (suc n) l m h = elim (cases_eq b a) [
  | inl same ↦
      rw (← same) (rw h (Contains-append_left (b ∷ []) (filter p (range_with_len (b + 1) n)) b (Contains-push [] b)))
  | inr other ↦ kept p a (range_with_len (a + 1) n) b (range_contains p b (a + 1) n (omega arith) (omega arith) h)
]

-- what passes the test is what is below 256 and passes it
pub bytes_contain : (p : ℕ → Bool) (b : ℕ) → Contains (bytes_where p) b ↔ ((b < 256) × IsTrue (p b))
unfolding all_bytes
bytes_contain p b = (
  λ h. (
    All-contains (λ x. x < 256) (filter p (range_with_len 0 256)) b
        (All-filter p (λ x. x < 256) (range_with_len 0 256) (range_below 256 0 256 (omega arith))) h,
    All-contains (λ x. p x ≡ true) (filter p (range_with_len 0 256)) b (filter_passes p (range_with_len 0 256)) h,
  ),
  λ h. range_contains p b 0 256 (omega arith) (omega (arith, h.0)) h.1,
)

-- the members are the bytes of the set
pub members_contain : (s : ByteSet) (b : ℕ) → Contains (members s) b ↔ ((b < 256) × IsTrue (has s b))
members_contain s b = bytes_contain (has s) b

-- a set that has no members has no byte
pub none_from_empty : (s : ByteSet) → members s ≡ [] → (b : ℕ) → b < 256 → has s b ≡ false
none_from_empty s e b l = elim (cases_Bool (has s b)) [
  | inl held ↦ Contains-none b (let P : List ℕ → Type 0 = λ xs. Contains xs b
      in subst P e ((members_contain s b).1 (l, held)))
  | inr none ↦ none
]

-- the bytes of a set of one
pub one_has : (s : ByteSet) (b : ℕ) → members s ≡ b ∷ [] → (c : ℕ) → c < 256 → has s c ≡ nat_eq c b
one_has s b e c l = elim (cases_eq c b) [
  | inl same ↦ ((members_contain s c).0 (contained (sym e) (rw same (Contains-push [] b)))).1 ∙ sym (eq-eqb c b same)
  | inr other ↦
      false_from_ne_true (has s c)
      (λ held. other (sym (Contains-one b c (contained e ((members_contain s c).1 (l, held))))))
      ∙ sym (ne_eqb c b other)
]
  where
    contained : {xs ys : List ℕ} → xs ≡ ys → Contains xs c → Contains ys c
    contained same h = let P : List ℕ → Type 0 = λ xs. Contains xs c in subst P same h
