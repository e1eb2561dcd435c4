-- Blanks at the front of a text.
use Rattle.std.specs.Bool.{MatchBool}
use Rattle.std.specs.List.{prefix_len}
use Rattle.std.proofs.lemmas.Bool.{eqb-true, false≢true}
use Rattle.std.proofs.Common.{◌≡◌, ℕ, suc, ◌+◌, ◌<◌, ◌≤◌, List, [], ◌∷◌, ◌++◌, Bool, true, false, cond}
use Rattle.std.proofs.Common.{refl, sym, ap, ◌∙◌, subst, length, take, drop, arith, eqb, take-append-drop, length-take}
use Rattle.std.proofs.lemmas.Bool.Decides.{nat_tests}
use Rattle.ly_base.specs.Blank.{is_blank}
use Rattle.ly_base.specs.Escapes.{AllPass}
use Rattle.ly_base.specs.Language.{DigitsBefore, NameBefore}
use Rattle.ly_base.specs.declared.language.Language.TheVariants.{Lex}
use Rattle.ly_base.proofs.NameLemmas.{Run, digits_one, run, runs_one}
use Rattle.ly_lexread.specs.Definitions.{BlanksBefore, IsNumber}

pub blanks_one : (text r s : List ℕ) → BlanksBefore text r → BlanksBefore text s → r ≡ s
blanks_one text r s a b = (runs_one is_blank a.0 b.0 r s a.1 b.1 a.3 b.3 (sym a.4 ∙ b.4)).1

-- as many as the count says
pub blanks_begin : (text rest : List ℕ) (n : ℕ) → n ≡ prefix_len is_blank text → 0 < n → n ≤ length text
    → rest ≡ drop n text → BlanksBefore text rest
blanks_begin text rest n e h w f =
    let r : Run is_blank n text = subst (λ m. Run is_blank m text) (sym e) (run is_blank text) in
    rw f (
      take n text,
      r.these,
      λ k. omega (arith, ap length k, length-take n text, h, w),
      r.ends,
      sym (take-append-drop n text),
    )

one_more : (t : Bool) (k : ℕ) → t ≡ true → cond t (1 + k) 0 ≡ 0 → ⊥
one_more true k e f = omega (arith, f)
one_more false k e f = false≢true e

pub no_blanks : (text rest : List ℕ) → prefix_len is_blank text ≡ 0 → BlanksBefore text rest → ⊥
no_blanks text rest e ([], a, some, s, f) = some refl
no_blanks text rest e (b ∷ bs, a, some, s, f)
    = one_more (is_blank b) (prefix_len is_blank (bs ++ rest)) a.0 (sym (ap (prefix_len is_blank) f) ∙ e)

-- all are blanks where the count is that of all
all_blanks : (text : List ℕ) → prefix_len is_blank text ≡ length text → AllPass is_blank text
all_blanks text e =
    let r = run is_blank text in
    let whole : take (length text) text ≡ text
    = whole_of text in
    subst (AllPass is_blank) whole (subst (λ n. AllPass is_blank (take n text)) e r.these)
  where
    whole_of : (text : List ℕ) → take (length text) text ≡ text
    whole_of [] = refl
    whole_of (b ∷ text) = ap (λ t. b ∷ t) (whole_of text)

step : (t : Bool) (m n : ℕ) → t ≡ true → m ≡ n → cond t (1 + m) 0 ≡ suc n
step true m n e f = omega (arith, f)
step false m n e f = absurd (false≢true e)

count_all : (text : List ℕ) → AllPass is_blank text → prefix_len is_blank text ≡ length text
count_all [] a = refl
count_all (b ∷ text) a = step (is_blank b) (prefix_len is_blank text) (length text) a.0 (count_all text a.1)

pub are_all_blanks : (text : List ℕ) (n : ℕ) (t : Bool) → n ≡ prefix_len is_blank text → t ≡ eqb n (length text)
    → MatchBool t (AllPass is_blank text) (AllPass is_blank text → ⊥)
are_all_blanks text n true e f = all_blanks text (sym e ∙ eqb-true n (length text) (sym f))
are_all_blanks text n false e f = λ a. other n (length text) (sym f) (e ∙ count_all text a)
  where
    other : (n m : ℕ) → eqb n m ≡ false → n ≡ m → ⊥
    other n m h k = grind (arith, nat_tests)

-- a number that stands behind blanks
pub number_in : (text number digits rest : List ℕ) (t : Bool) → BlanksBefore text number
    → DigitsBefore number digits rest
    → MatchBool t (AllPass is_blank rest) (AllPass is_blank rest → ⊥)
    → MatchBool t (IsNumber text) (IsNumber text → ⊥)
number_in text number digits rest true b d a = (number, digits, rest, b, d, a)
number_in text number digits rest false b d a = λ h.
    let same : h.0 ≡ number = blanks_one text h.0 number h.3 b in
    let there : DigitsBefore number h.1 h.2 = subst (λ i. DigitsBefore i h.1 h.2) same h.4 in
    a (subst (AllPass is_blank) (digits_one number h.1 digits h.2 rest there d).1 h.5)

-- no name behind the blanks
pub no_next_name : (text behind n m rest : List ℕ) → BlanksBefore text behind
    → ((n rest : List ℕ) → NameBefore Lex behind n rest → ⊥) → BlanksBefore text m → NameBefore Lex m n rest → ⊥
no_next_name text behind n m rest b none c h
    = none n rest (subst (λ i. NameBefore Lex i n rest) (blanks_one text m behind c b) h)

-- no digits behind the blanks
pub no_number : (text number : List ℕ) → BlanksBefore text number
    → ((digits rest : List ℕ) → DigitsBefore number digits rest → ⊥) → IsNumber text → ⊥
no_number text number b none h
    = none h.1 h.2 (subst (λ i. DigitsBefore i h.1 h.2) (blanks_one text h.0 number h.3 b) h.4)
