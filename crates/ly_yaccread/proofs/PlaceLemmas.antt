-- What a place is.
use Rattle.std.proofs.Common.{◌≡◌, ℕ, ◌+◌, ◌*◌, ◌-◌, ◌<◌, ◌≤◌, List, [], ◌∷◌, ◌++◌, Bool, true, false, IsTrue, refl}
use Rattle.std.proofs.Common.{sym, ap, ◌∙◌, subst, drop, length, get_or, eqb, arith, add-one}
use Rattle.std.specs.Prelude.{MatchBool}
use Rattle.std.proofs.lemmas.Bool.Decides.{nat_tests}
use Rattle.std.proofs.lemmas.List.{append-nil}
use Rattle.std.proofs.Math.Seq.{drop-cons}
use Rattle.ly_base.specs.Escapes.{AllPass, digit, number, number_from}
use Rattle.ly_base.specs.Language.{IsName, NameBefore, is_decimal}
use Rattle.ly_base.specs.declared.language.Language.TheVariants.{Lex}
use Rattle.ly_base.proofs.NameLemmas.{name_one}
use Rattle.ly_base.proofs.EscapeLemmas.{number_grows}
use Rattle.ly_base.proofs.ListLemmas.{not_empty}
use Rattle.ly_yaccread.proofs.SymbolLemmas.{empty_list}
use Rattle.ly_yaccread.specs.Actions.{IsPlace, PlaceFirst}
use Rattle.ly_yaccread.specs.Words as words
use Rattle.ly_yaccread.specs.Words.{Word, mark}
use Rattle.ly_yaccread.specs.declared.words.Mark.TheVariants.{Dollar}

-- the name of a constructor is all there is
pub whole_name : (n f r : List ℕ) (t : Bool) → NameBefore Lex n f r → t ≡ eqb (length r) 0
    → MatchBool t (IsName Lex n) (IsName Lex n → ⊥)
whole_name n f r true h e
    = subst (IsName Lex) (sym (h.2 ∙ ap (λ u. f ++ u) (empty_list true r e refl) ∙ append-nil f)) h.0
whole_name n f r false h e
    = λ is. not_empty false r e refl (name_one Lex n f n r [] h (is, tt, sym (append-nil n))).1

pub no_name : (n : List ℕ) → ((f r : List ℕ) → NameBefore Lex n f r → ⊥) → IsName Lex n → ⊥
no_name n h is = h n [] (is, tt, sym (append-nil n))

-- the digits from here on make the number that all of them make
pub record DigitsGoOn (ds : List ℕ) (value at : ℕ) : Type 0 where
  pub same : number_from 10 value (drop at ds) ≡ number 10 ds
  pub sound : AllPass is_decimal (drop at ds) → AllPass is_decimal ds
  pub complete : AllPass is_decimal ds → AllPass is_decimal (drop at ds)

digit_value : (d : ℕ) → IsTrue (is_decimal d) → digit d ≡ d - 48
digit_value d h = grind (arith, nat_tests)

at_index : (ds : List ℕ) (i : ℕ) → i < length ds → drop i ds ≡ get_or ds i 0 ∷ drop (i + 1) ds
at_index ds i h = rw (add-one, drop-cons ds i 0) refl

-- a digit more
pub one_digit : (ds : List ℕ) (value at d : ℕ) → DigitsGoOn ds value at → at < length ds → d ≡ get_or ds at 0
    → IsTrue (is_decimal d) → DigitsGoOn ds (value * 10 + (d - 48)) (at + 1)
one_digit ds value at d h i e is =
    let f : drop at ds ≡ d ∷ drop (at + 1) ds = at_index ds at i ∙ ap (λ x. x ∷ drop (at + 1) ds) (sym e) in
    record {
      same = ap (λ v. number_from 10 (value * 10 + v) (drop (at + 1) ds)) (sym (digit_value d is))
          ∙ sym (ap (number_from 10 value) f) ∙ h.same;
      sound = λ k. h.sound (subst (AllPass is_decimal) (sym f) (is, k));
      complete = λ k. (subst (AllPass is_decimal) f (h.complete k)).1;
    }

pub digits_so_far : (ds : List ℕ) (value at : ℕ) → DigitsGoOn ds value at → value ≤ number 10 ds
digits_so_far ds value at h = omega (arith, number_grows value (drop at ds), h.same)

-- with a digit more the number is no less
more_so_far : (ds : List ℕ) (value at d : ℕ) → DigitsGoOn ds value at → at < length ds → d ≡ get_or ds at 0
    → IsTrue (is_decimal d) → value * 10 + (d - 48) ≤ number 10 ds
more_so_far ds value at d h i e is
    = digits_so_far ds (value * 10 + (d - 48)) (at + 1) (one_digit ds value at d h i e is)

pub next_so_far : (ds : List ℕ) (value at : ℕ) → DigitsGoOn ds value at → at < length ds → AllPass is_decimal ds
    → value * 10 + (get_or ds at 0 - 48) ≤ number 10 ds
next_so_far ds value at h i k = more_so_far ds value at (get_or ds at 0) h i refl
    (subst (AllPass is_decimal) (at_index ds at i) (h.complete k)).0

place_same : (k : ℕ) (ds es : List ℕ) (p q : ℕ) → ds ≡ es → IsPlace k ds p → IsPlace k es q → p ≡ q
place_same k ds es p q e a b = sym a.is_number ∙ ap (number 10) e ∙ b.is_number

behind_dollar : (ds es : List ℕ) (r s : List Word)
    → mark Dollar ∷ words.number ds ∷ r ≡ mark Dollar ∷ words.number es ∷ s → (ds ≡ es) × (r ≡ s)
behind_dollar ds es r s e = (cc, cc)

pub place_one : (k : ℕ) (ws : List Word) (p q : ℕ) (r s : List Word) → PlaceFirst k ws p r → PlaceFirst k ws q s
    → (p ≡ q) × (r ≡ s)
place_one k ws p q r s (ds, e, a) (es, f, b) =
    let same = behind_dollar ds es r s (sym e ∙ f) in (place_same k ds es p q same.0 a b, same.1)

pub place_shorter : (k : ℕ) (ws : List Word) (p : ℕ) (r : List Word) → PlaceFirst k ws p r → length r < length ws
place_shorter k ws p r (ds, e, a) = omega (arith, ap length e)
