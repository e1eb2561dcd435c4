use Rattle.std.proofs.Common.{◌≡◌, ◌+◌, ◌≤◌, ◌<◌, ◌^◌, ◌-◌, ◌⊎◌, ℕ, Bool, true, false, subst, arith, refl, inl, inr}
use Rattle.std.proofs.Common.{get_or}
use Rattle.std.proofs.lemmas.Nat.{le_or_l}
use Rattle.std.proofs.lemmas.Bool.{cases_lt}
use Rattle.ly_sets.proofs.RowLemmas.{row_set-union, row_set_same, row_words_same}
use Rattle.ly_sets.proofs.bits.union_rows.Goals as goal

pub returns-clause-united : goal.returns-clause-united
returns-clause-united c
    = row_set-union c.args.words.now c.union_words.new.words c.args.to c.args.from c.args.len
    c.union_words.ensures.united

pub returns-clause-grew : goal.returns-clause-grew
returns-clause-grew c =
    let united = c.union_words.ensures in
    let fits : (k : ℕ) → k < c.args.len → get_or c.union_words.new.words (c.args.to + k) 0 < 2 ^ 64
    = λ k lt. (c.type_inv.words (c.args.to + k)).fits in
    let fitted : (k : ℕ) → k < c.args.len → get_or c.args.words.now (c.args.to + k) 0 < 2 ^ 64 =
    λ k lt. (let new = fits k lt in let e = united.united k lt
    in let le = le_or_l (get_or c.args.words.now (c.args.to + k) 0) (get_or c.args.words.now (c.args.from + k) 0)
    in omega arith) in (
      λ h. row_set_same c.args.words.now c.union_words.new.words c.args.to c.args.len
          (λ k lt. united.stayed h (c.args.to + k)),
      λ same. by c.union_words.result refl (united.grew)
          (row_words_same c.args.words.now c.union_words.new.words c.args.to c.args.len fitted fits same) united.others,
    )
  where
    by : (b : Bool) → c.union_words.result ≡ b
        → (c.union_words.result ≡ true
        → ((k : ℕ) → k < c.args.to + c.args.len → get_or c.union_words.new.words k 0 ≡ get_or c.args.words.now k 0) → ⊥)
        → ((k : ℕ) → k < c.args.len → get_or c.union_words.new.words (c.args.to + k) 0
        ≡ get_or c.args.words.now (c.args.to + k) 0)
        → ((k : ℕ) → (k < c.args.to) ⊎ (c.args.to + c.args.len ≤ k)
        → get_or c.union_words.new.words k 0 ≡ get_or c.args.words.now k 0) → c.union_words.result ≡ false
    by false e grew same others = e
    by true e grew same others = absurd (grew e (λ k lt. elim (cases_lt k c.args.to) [
      | inl below ↦ others k (inl below)
      | inr above ↦ (let at : c.args.to + (k - c.args.to) ≡ k = omega arith
          in subst (λ i. get_or c.union_words.new.words i 0 ≡ get_or c.args.words.now i 0) at
          (same (k - c.args.to) (omega arith)))
    ]))
