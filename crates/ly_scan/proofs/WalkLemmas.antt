-- Lemmas on walks.
use Rattle.std.proofs.Common.{◌≡◌, ◌∙◌, ◌<◌, ◌≤◌, ◌+◌, ◌-◌, ◌++◌, ◌∷◌, [], ℕ, List, Option, Some, None, true, false}
use Rattle.std.proofs.Common.{take, drop, length, refl, sym, ap, subst, arith, rules, is_some, get_or, inl, inr, IfSome}
use Rattle.std.proofs.Common.{append_assoc, append-nil, length-append, take-append-drop}
use Rattle.std.specs.Prelude.{Bool, option_map}
use Rattle.ly_base.specs.declared.numbers.RuleNo.{RuleNo}
use Rattle.std.proofs.lemmas.Bool.{cases_lt}
use Rattle.std.proofs.lemmas.List.{take_more, take-append-le}
use Rattle.std.proofs.Math.Seq.{take-add, take-append-add}
use Rattle.ly_scan.specs.Pieces.{CanFollow}
use Rattle.ly_scan.specs.Walk.{Walk, IsBest, IsLongest, better_of}

-- an answer is not at once there and missing
clash : {A : Type 0} (o : Option A) (a : A) → o ≡ None → o ≡ Some a → ⊥
clash o a h k = search rules

-- two answers of one place
two_rules : (o : Option (Option ℕ)) (s : ℕ) → o ≡ Some None → o ≡ Some (Some s) → ⊥
two_rules o s h k = search rules

-- where each longer beginning has no rule, the best stays
pub best_stays : (walk : Walk) (text : List ℕ) (i n : ℕ) (best : Option (ℕ × RuleNo)) → i ≤ n
    → ((m s : ℕ) → i < m → m ≤ n → walk (take m text) ≡ Some (Some s) → ⊥) → IsBest walk text i best
    → IsBest walk text n best
best_stays walk text i n None le none h = λ m s one within rule. elim (cases_lt i m) [
  | inr a ↦ h m s one a rule
  | inl b ↦ none m s b within rule
]
best_stays walk text i n (Some p) le none h = record {
  some_byte = h.some_byte;
  within = omega (arith, h.within);
  has_rule = h.has_rule;
  longest = λ m s more within rule. elim (cases_lt i m) [
    | inr a ↦ h.longest m s more a rule
    | inl b ↦ none m s b within rule
  ];
}

-- one more byte with no rule
pub best_same : (walk : Walk) (text : List ℕ) (i : ℕ) (best : Option (ℕ × RuleNo))
    → walk (take (i + 1) text) ≡ Some None
    → IsBest walk text i best → IsBest walk text (i + 1) best
best_same walk text i best none h = best_stays walk text i (i + 1) best (omega arith)
    (λ m s more within rule. let same : m ≡ i + 1 = omega arith in
    let P : ℕ → Type 0 = λ k. walk (take k text) ≡ Some (Some s) in two_rules _ _ none (subst P same rule)) h

-- of the beginnings up to one that has a rule it is the longest
best_at : (walk : Walk) (text : List ℕ) (n r : ℕ) → 1 ≤ n → walk (take n text) ≡ Some (Some r)
    → IsLongest walk text n n r
best_at walk text n r some rule = record {
  some_byte = some;
  within = omega arith;
  has_rule = rule;
  longest = λ m s more within other. absurd (omega arith);
}

-- one more byte with a rule
pub best_more : (walk : Walk) (text : List ℕ) (i r : ℕ) → walk (take (i + 1) text) ≡ Some (Some r)
    → IsLongest walk text (i + 1) (i + 1) r
best_more walk text i r rule = best_at walk text (i + 1) r (omega arith) rule

-- a walk that has ended has no rule further on
pub best_ended : (walk : Walk) (text : List ℕ) (i : ℕ) (best : Option (ℕ × RuleNo)) → i ≤ length text
    → ((t u : List ℕ) → walk t ≡ None → walk (t ++ u) ≡ None) → walk (take (i + 1) text) ≡ None
    → IsBest walk text i best → IsBest walk text (length text) best
best_ended walk text i best le stays none h = best_stays walk text i (length text) best le
    (λ m s more within rule. let further : take m text ≡ take (i + 1) text ++ take (m - (i + 1)) (drop (i + 1) text)
    = ap (λ k. take k text) (omega arith) ∙ take-add (i + 1) (m - (i + 1)) text in
    clash _ _ (ap walk further ∙ stays _ _ none) rule) h

-- one more byte
pub best_next : (walk : Walk) (text : List ℕ) (i : ℕ) (rule : Option RuleNo) (best : Option (ℕ × RuleNo))
    → walk (take (i + 1) text) ≡ Some (option_map (λ r. r.0) rule)
    → IsBest walk text i best → IsBest walk text (i + 1) (better_of best (i + 1) rule)
best_next walk text i None best e h = best_same walk text i best e h
best_next walk text i (Some r) best e h = best_more walk text i r.0 e

-- after one more byte the walk stands behind it
pub stands_next : (walk here there : Walk) (text : List ℕ) (i : ℕ) → i < length text
    → ((more : List ℕ) → here more ≡ walk (take i text ++ more))
    → ((more : List ℕ) → there more ≡ here (get_or text i 0 ∷ more))
    → (more : List ℕ) → there more ≡ walk (take (i + 1) text ++ more)
stands_next walk here there text i lt h k more = k more ∙ h (get_or text i 0 ∷ more)
    ∙ ap walk (sym (append_assoc (take i text) (get_or text i 0 ∷ []) more)
    ∙ ap (λ t. t ++ more) (sym (take_more text i 0 lt)))

-- what is there but not missing
pub some_or_none : (o : Option (Option ℕ)) → false ≡ is_some o → o ≡ None
some_or_none None h = refl
some_or_none (Some a) h = search rules

-- what a walk that goes on says
pub told : (o : Option (Option ℕ)) (a : Option ℕ) → true ≡ is_some o → IfSome o (λ rule. a ≡ rule) → o ≡ Some a
told None a h k = search rules
told (Some b) a h k = ap (λ z. Some z) (sym k)

-- one more byte that a walk goes on over, and the best of the beginnings
pub best_stepped : (walk here there : Walk) (text : List ℕ) (i : ℕ) (rule : Option RuleNo)
    (best : Option (ℕ × RuleNo)) → i < length text → ((more : List ℕ) → here more ≡ walk (take i text ++ more))
    → ((more : List ℕ) → there more ≡ here (get_or text i 0 ∷ more)) → is_some (there []) ≡ true
    → IfSome (there []) (λ r. option_map (λ r. r.0) rule ≡ r) → IsBest walk text i best
    → IsBest walk text (i + 1) (better_of best (i + 1) rule)
best_stepped walk here there text i rule best lt stands on alive accepts h = best_next walk text i rule best
    (ap walk (sym (append-nil (take (i + 1) text))) ∙ sym (stands_next walk here there text i lt stands on [])
    ∙ told (there []) (option_map (λ r. r.0) rule) (sym alive) accepts) h

-- a walk that has ended before its first byte has no rule anywhere
pub none_from_start : (walk : Walk) (text : List ℕ) → ((t u : List ℕ) → walk t ≡ None → walk (t ++ u) ≡ None)
    → walk [] ≡ None → (m s : ℕ) → 1 ≤ m → m ≤ length text → walk (take m text) ≡ Some (Some s) → ⊥
none_from_start walk text stays none m s one within rule = clash _ _ (stays [] (take m text) none) rule

-- a walk that goes no further has a rule where it stands
pub ends_best : (walk start there : Walk) (text : List ℕ) (n : ℕ) (r : RuleNo)
    → ((t u : List ℕ) → walk t ≡ None → walk (t ++ u) ≡ None) → 0 < n → n ≤ length text
    → ((more : List ℕ) → start more ≡ walk more) → ((more : List ℕ) → there more ≡ start (take n text ++ more))
    → is_some (there []) ≡ true → IfSome (there []) (λ rule. Some r.0 ≡ rule)
    → (n < length text → start (take (n + 1) text) ≡ None) → IsLongest walk text (length text) n r.0
ends_best walk start there text n r stays some within begins on alive rule ended = elim (cases_lt n (length text)) [
  | inl less ↦ best_ended walk text n (Some (n, r)) within stays
      (sym (begins (take (n + 1) text)) ∙ ended less) best
  | inr whole ↦ let same : n ≡ length text = omega arith in
      subst (λ k. IsLongest walk text k n r.0) same best
]
  where
    best : IsLongest walk text n n r.0
    best = best_at walk text n r.0 some (sym (begins (take n text)) ∙ ap start (sym (append-nil (take n text)))
        ∙ sym (on []) ∙ told (there []) (Some r.0) (sym alive) rule)

-- a match has a byte
pub some_byte : (walk : Walk) (text : List ℕ) (n : ℕ) (best : Option (ℕ × RuleNo)) → IsBest walk text n best
    → IfSome best (λ b. 0 < b.0)
some_byte walk text n None h = tt
some_byte walk text n (Some p) h = omega (arith, h.some_byte)

-- of a text that goes on, the best of the beginnings so far
pub best_further : (walk : Walk) (text more : List ℕ) (n : ℕ) (best : Option (ℕ × RuleNo)) → n ≤ length text
    → IsBest walk text n best → IsBest walk (text ++ more) n best
best_further walk text more n None le h = λ m s low high rule. h m s low high
    (sym (ap walk (take-append-le m text more (omega (arith, le, high)))) ∙ rule)
best_further walk text more n (Some x) le h = record {
  some_byte = h.some_byte;
  within = h.within;
  has_rule = ap walk (take-append-le x.0 text more (omega (arith, le, h.within))) ∙ h.has_rule;
  longest = λ m s low high rule. h.longest m s low high
      (sym (ap walk (take-append-le m text more (omega (arith, le, high)))) ∙ rule);
}

-- where a walk has ended, the best of the beginnings stays, however the text goes on
pub best_fast : (walk : Walk) (text more : List ℕ) (best : Option (ℕ × RuleNo))
    → ((t u : List ℕ) → walk t ≡ None → walk (t ++ u) ≡ None) → walk text ≡ None
    → IsBest walk text (length text) best → IsBest walk (text ++ more) (length (text ++ more)) best
best_fast walk text more best stays ended h =
    best_stays walk (text ++ more) (length text) (length (text ++ more)) best (omega (arith, length-append text more))
    (λ m s past within rule. clash _ _ (ap walk (over m past) ∙ stays text (take (m - length text) more) ended) rule)
    (best_further walk text more (length text) best (omega arith) h)
  where
    over : (m : ℕ) → length text < m → take m (text ++ more) ≡ text ++ take (m - length text) more
    over m past = ap (λ k. take k (text ++ more)) (let e : m ≡ length text + (m - length text) = omega arith in e)
        ∙ take-append-add text more (m - length text)

-- so it stays where a walk or the text has ended
pub best_known : (walk : Walk) (text more : List ℕ) (ended : Bool) (best : Option (ℕ × RuleNo))
    → ((t u : List ℕ) → walk t ≡ None → walk (t ++ u) ≡ None) → CanFollow ended more
    → (ended ≡ false → walk text ≡ None) → IsBest walk text (length text) best
    → IsBest walk (text ++ more) (length (text ++ more)) best
best_known walk text more true best stays none over h =
    subst (λ t. IsBest walk t (length t) best)
    (sym (append-nil text) ∙ ap (λ xs. text ++ xs) (sym (none refl))) h
best_known walk text more false best stays none over h = best_fast walk text more best stays (over refl) h

-- a walk that ends within a text has ended behind it
pub ends_within : (walk start : Walk) (text : List ℕ) (n : ℕ)
    → ((t u : List ℕ) → walk t ≡ None → walk (t ++ u) ≡ None) → ((more : List ℕ) → start more ≡ walk more)
    → start (take n text) ≡ None → walk text ≡ None
ends_within walk start text n stays begins ended = ap walk (sym (take-append-drop n text))
    ∙ stays (take n text) (drop n text) (sym (begins (take n text)) ∙ ended)

-- A walk over a text stands behind some bytes, where it may stand, and goes on.
pub record IsBehind (walk there : Walk) (may_stand : Type 0) (text : List ℕ) (passed : ℕ) : Type 0 where
  pub stands : may_stand
  pub alive : is_some (there []) ≡ true
  pub ahead : (more : List ℕ) → there more ≡ walk (take passed text ++ more)
