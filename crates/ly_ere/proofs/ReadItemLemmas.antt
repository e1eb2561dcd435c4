-- The items of a bracket expression, one after another, as they are read.
use Rattle.std.proofs.Common.{◌≡◌, ℕ, ◌+◌, List, [], ◌++◌, drop, true, false, append_assoc, sym, ◌∙◌}
use Rattle.std.proofs.lemmas.List.{append-nil, drop-drop}
use Rattle.ly_base.specs.declared.byte_set.ByteSet.{ByteSet}
use Rattle.ly_base.specs.ByteSet.{has}
use Rattle.ly_ere.specs.Private.Brackets.{AreItems, IsAdded}
use Rattle.ly_ere.specs.Private.Front.{BeginsNo}
use Rattle.ly_ere.specs.Elements.{stands_at}
use Rattle.ly_ere.specs.Elements.{Item, Items, no_more, more, in_ranges}
use Rattle.ly_ere.proofs.FrontLemmas.{first_is, stands_drop}
use Rattle.ly_ere.proofs.ItemLemmas.{items_more, items_some}
use Rattle.ly_ere.proofs.RangeLemmas.{added_more}

-- Some items were read, whose bytes are the set: the items from here on follow them.
pub record AreSoFar (t : List ℕ) (at : ℕ) (set : ByteSet) : Type 0 where
  pub so_far : List (ℕ × ℕ)
  pub is : (b : ℕ) → has set b ≡ in_ranges so_far b
  pub forth : (rs : List (ℕ × ℕ)) (rest : List ℕ) → Items false (drop at t) rs rest → Items true t (so_far ++ rs) rest
  pub back : (rs : List (ℕ × ℕ)) (rest : List ℕ) → Items true t rs rest → (ss : List (ℕ × ℕ))
      × Items false (drop at t) ss rest

pub start_items : (t : List ℕ) (n : ℕ) (old new : ByteSet) (rs : List (ℕ × ℕ)) → ((b : ℕ) → has old b ≡ false)
    → Item true t rs (drop n t) → IsAdded old new rs → AreSoFar t n new
start_items t n old new rs none item added = record {
  so_far = rs;
  is = added_more old new [] rs none added;
  forth = λ ss rest k. more true t (drop n t) rest rs ss first item k;
  back = λ ss rest k. let h = items_more k rs (drop n t) first item in (h.0, h.1);
}
  where
    first : true ≡ false → stands_at t 0 93 ≡ false
    first e = absurd (cc)

pub next_items : {t : List ℕ} {at : ℕ} {old : ByteSet} → AreSoFar t at old → (n : ℕ) (new : ByteSet) (rs : List (ℕ × ℕ))
    → stands_at t at 93 ≡ false → Item false (drop at t) rs (drop n (drop at t)) → IsAdded old new rs
    → AreSoFar t (at + n) new
next_items {t} {at} {old} s n new rs no_end item added = record {
  so_far = s.so_far ++ rs;
  is = added_more old new s.so_far rs s.is added;
  forth = λ ss rest k. let left : Items false (drop n (drop at t)) ss rest = rw (drop-drop n at t) k
      in rw append_assoc
      (s.forth (rs ++ ss) rest (more false (drop at t) (drop n (drop at t)) rest rs ss here item left));
  back = λ ss rest k. let m = s.back ss rest k in let h = items_more m.1 rs (drop n (drop at t)) here item
      in (h.0, rw (← drop-drop n at t) h.1);
}
  where
    here : false ≡ false → stands_at (drop at t) 0 93 ≡ false
    here e = sym (stands_drop t at 93) ∙ no_end

pub end_items : {t : List ℕ} {at : ℕ} {set : ByteSet} → AreSoFar t at set → stands_at t at 93 ≡ true
    → AreItems t (has set) (drop (at + 1) t)
end_items {t} {at} s e =
    let close = first_is (drop at t) 93 (sym (stands_drop t at 93) ∙ e) in
    let k = s.forth [] (drop 1 (drop at t)) (rw close (no_more (drop 1 (drop at t)))) in
    (s.so_far, rw (drop-drop 1 at t, append-nil) at k, s.is)

-- no item stands here
pub no_next : {t : List ℕ} {at : ℕ} {set : ByteSet} → AreSoFar t at set → stands_at t at 93 ≡ false
    → BeginsNo (Item false) (drop at t) → BeginsNo (Items true) t
no_next {t} {at} s no_end none rs rest k =
    let m = s.back rs rest k in
    let h = items_some m.1 (λ _. sym (stands_drop t at 93) ∙ no_end) in
    none h.0 h.1 h.2
