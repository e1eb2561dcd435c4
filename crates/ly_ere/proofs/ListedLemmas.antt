-- The bytes that a bracket expression lists, as a set.
use Rattle.std.proofs.Common.{◌≡◌, ◌≢◌, ℕ, ◌+◌, ◌<◌, List, [], drop, true, false, refl, sym, ap, ◌∙◌, arith}
use Rattle.std.specs.Prelude.{not}
use Rattle.std.proofs.lemmas.List.{drop-drop}
use Rattle.ly_base.proofs.ByteSetLemmas.{bytes_agree}
use Rattle.ly_base.specs.declared.byte_set.ByteSet.{ByteSet}
use Rattle.ly_base.specs.ByteSet.{bytes_where, has, members}
use Rattle.ly_ere.specs.Private.Brackets.{AreItems}
use Rattle.ly_ere.specs.Private.Front.{BeginsNo}
use Rattle.ly_ere.specs.Elements.{stands_at}
use Rattle.ly_ere.specs.Elements.{Bracketed, listed, excluded, in_ranges}
use Rattle.ly_ere.proofs.FrontLemmas.{first_is}
use Rattle.ly_ere.proofs.ItemLemmas.{excluded_items, items_one, listed_items}

module _ (t : List ℕ) (set : ByteSet) (rest : List ℕ) where
  module _ (here : stands_at t 0 94 ≡ false) (found : AreItems t (has set) rest) where
    bytes : members set ≡ bytes_where (in_ranges found.0)
    bytes = bytes_agree (has set) (in_ranges found.0) (λ b _. found.2 b)

    pub listed_ok : members set ≢ [] → Bracketed t (members set) rest
    listed_ok some = rw bytes (listed t rest found.0 here found.1 (rw bytes at some))

    pub listed_no : members set ≡ [] → BeginsNo Bracketed t
    listed_no none ms left h =
        let k = listed_items h here in
        let same = ap (λ x. bytes_where (in_ranges x)) (items_one k.1 found.1).0 in
        k.3 (k.2 ∙ same ∙ sym bytes ∙ none)

  module _ (old : ByteSet) (here : stands_at t 0 94 ≡ true) (found : AreItems (drop 1 t) (has old) rest)
      (other : (b : ℕ) → b < 256 → has set b ≡ not (has old b)) where
    other_bytes : members set ≡ bytes_where (λ b. not (in_ranges found.0 b))
    other_bytes = bytes_agree (has set) (λ b. not (in_ranges found.0 b)) (λ b l. other b l ∙ ap not (found.2 b))

    pub excluded_ok : members set ≢ [] → Bracketed t (members set) rest
    excluded_ok some
        = rw (first_is t 94 here, other_bytes) (excluded (drop 1 t) rest found.0 found.1 (rw other_bytes at some))

    pub excluded_no : members set ≡ [] → BeginsNo Bracketed t
    excluded_no none ms left h =
        let k = excluded_items h here in
        let same = ap (λ x. bytes_where (λ b. not (in_ranges x b))) (items_one k.1 found.1).0 in
        k.3 (k.2 ∙ same ∙ sym other_bytes ∙ none)

-- behind one byte, and behind two
pub drop_one : (n : ℕ) (t : List ℕ) → drop n (drop 1 t) ≡ drop (n + 1) t
drop_one n t = let e : 1 + n ≡ n + 1 = omega arith in rw (drop-drop n 1 t, e) refl

pub drop_two : (n : ℕ) (t : List ℕ) → drop n (drop 1 (drop 1 t)) ≡ drop (n + 2) t
drop_two n t = let e : n + 1 + 1 ≡ n + 2 = omega arith in rw (drop_one n (drop 1 t), drop_one (n + 1) t, e) refl
