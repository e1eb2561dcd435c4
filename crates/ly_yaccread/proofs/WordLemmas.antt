-- The word at the front of a text is determined.
use Rattle.std.specs.Prelude.{if◌then◌else◌}
use Rattle.std.proofs.lemmas.Bool.{false≢true}
use Rattle.std.proofs.lemmas.Bool.Decides.{nat_tests}
use Rattle.std.proofs.lemmas.List.{append-nil, append_cancel_left}
use Rattle.std.proofs.Common.{◌≡◌, ℕ, List, [], ◌∷◌, ◌++◌, Bool, true, false, IsTrue, Option, Some, None}
use Rattle.std.proofs.Common.{refl, sym, ap, ◌∙◌, subst, arith, nat_eq, length, length-append, ◌<◌}
use Rattle.ly_base.specs.Gap.{Gap, GapBefore, GapEnds}
use Rattle.ly_base.specs.Language.{is_decimal, starts_name, NameBefore}
use Rattle.ly_base.specs.declared.language.Language.TheVariants.{Yacc}
use Rattle.ly_base.specs.Escapes.{Stops}
use Rattle.ly_base.proofs.NameLemmas.{name_one, digits_one}
use Rattle.ly_base.proofs.LiteralLemmas.{literal_one, literal_shorter}
use Rattle.ly_base.proofs.WordBeforeLemmas.{AreWords, IsSolid, name_solid, nothing_behind, word_at}
use Rattle.ly_yaccread.specs.Private.Words.{IsWordAt, IsFront}
use Rattle.ly_yaccread.specs.Words.{Word, mark, directive, name, number, literal, block, braces, other, spelling}
use Rattle.ly_yaccread.specs.Words.{MarkBefore, Begins}
use Rattle.ly_yaccread.specs.declared.words.Mark.{Mark}
use Rattle.ly_yaccread.specs.declared.words.Mark.TheVariants.{Section, Block, Whole, Dollar, Colon, Bar, Semicolon}
use Rattle.ly_yaccread.specs.declared.words.Mark.TheVariants.{OpenBrace, CloseBrace, OpenParenthesis}
use Rattle.ly_yaccread.specs.declared.words.Mark.TheVariants.{CloseParenthesis, OpenTag, CloseTag, Equals, Comma}
use Rattle.ly_yaccread.specs.declared.words.NextWord.{NextWord}
use Rattle.ly_yaccread.specs.declared.words.NextWord.TheVariants as next

spelled : (m : Mark) → (b : ℕ) × (s : List ℕ) × (spelling m ≡ b ∷ s) × IsSolid b
spelled Section = (37, 37 ∷ [], refl, record { no_space = refl; no_slash = λ e. omega (arith, e) })
spelled Block = (37, 123 ∷ [], refl, record { no_space = refl; no_slash = λ e. omega (arith, e) })
spelled Whole = (36, 36 ∷ [], refl, record { no_space = refl; no_slash = λ e. omega (arith, e) })
spelled Dollar = (36, [], refl, record { no_space = refl; no_slash = λ e. omega (arith, e) })
spelled Colon = (58, [], refl, record { no_space = refl; no_slash = λ e. omega (arith, e) })
spelled Bar = (124, [], refl, record { no_space = refl; no_slash = λ e. omega (arith, e) })
spelled Semicolon = (59, [], refl, record { no_space = refl; no_slash = λ e. omega (arith, e) })
spelled OpenBrace = (123, [], refl, record { no_space = refl; no_slash = λ e. omega (arith, e) })
spelled CloseBrace = (125, [], refl, record { no_space = refl; no_slash = λ e. omega (arith, e) })
spelled OpenParenthesis = (40, [], refl, record { no_space = refl; no_slash = λ e. omega (arith, e) })
spelled CloseParenthesis = (41, [], refl, record { no_space = refl; no_slash = λ e. omega (arith, e) })
spelled OpenTag = (60, [], refl, record { no_space = refl; no_slash = λ e. omega (arith, e) })
spelled CloseTag = (62, [], refl, record { no_space = refl; no_slash = λ e. omega (arith, e) })
spelled Equals = (61, [], refl, record { no_space = refl; no_slash = λ e. omega (arith, e) })
spelled Comma = (44, [], refl, record { no_space = refl; no_slash = λ e. omega (arith, e) })

digit_solid : (b : ℕ) → IsTrue (is_decimal b) → IsSolid b
digit_solid b h = record { no_space = grind (arith, nat_tests); no_slash = λ e. false≢true (sym (ap is_decimal e) ∙ h) }

begins_at : (text : List ℕ) (x : Word) (rest : List ℕ) → Begins text x rest → (b : ℕ) × (s : List ℕ) × (text ≡ b ∷ s)
    × IsSolid b
begins_at text (mark m) rest h = let p = spelled m in (p.0, p.1 ++ rest, h.0 ∙ ap (λ u. u ++ rest) p.2, p.3)
begins_at text (directive n) rest h
    = (37, h.0, h.1, record { no_space = refl; no_slash = λ e. omega (arith, e) })
begins_at text (name []) rest h = absurd h.0
begins_at text (name (b ∷ n)) rest h = (b, n ++ rest, h.2, name_solid Yacc b h.0.0)
begins_at text (number []) rest h = absurd (h.1 refl)
begins_at text (number (b ∷ ds)) rest h = (b, ds ++ rest, h.3, digit_solid b h.0.0)
begins_at text (literal c) rest h = (39, h.0, h.1, record { no_space = refl; no_slash = λ e. omega (arith, e) })
begins_at text block rest h = absurd h
begins_at text braces rest h = absurd h
begins_at text other rest h = absurd h

-- the mark of a byte that no other byte has to follow
abbrev single : ℕ → Option Mark
single b = if nat_eq b 58 then Some Colon else (if nat_eq b 124 then Some Bar else
    (if nat_eq b 59 then Some Semicolon else (if nat_eq b 123 then Some OpenBrace else
    (if nat_eq b 125 then Some CloseBrace else (if nat_eq b 40 then Some OpenParenthesis else
    (if nat_eq b 41 then Some CloseParenthesis else (if nat_eq b 60 then Some OpenTag else
    (if nat_eq b 62 then Some CloseTag else (if nat_eq b 61 then Some Equals else
    (if nat_eq b 44 then Some Comma else None))))))))))

-- the mark behind a `%`, and that behind a `$`
abbrev percent : List ℕ → Option Mark
percent [] = None
percent (b ∷ t) = if nat_eq b 37 then Some Section else (if nat_eq b 123 then Some Block else None)

abbrev dollar : List ℕ → Option Mark
dollar [] = Some Dollar
dollar (b ∷ t) = if nat_eq 36 b then Some Whole else Some Dollar

-- the mark that a text begins with
abbrev found_mark : List ℕ → Option Mark
found_mark [] = None
found_mark (b ∷ t) = if nat_eq b 37 then percent t else (if nat_eq b 36 then dollar t else single b)

dollar_found : (rest : List ℕ) → Stops (nat_eq 36) rest → dollar rest ≡ Some Dollar
dollar_found [] h = refl
dollar_found (b ∷ rest) h = rw h refl

mark_found : (m : Mark) (rest : List ℕ) → MarkBefore (spelling m ++ rest) m rest
    → found_mark (spelling m ++ rest) ≡ Some m
mark_found Section rest h = refl
mark_found Block rest h = refl
mark_found Whole rest h = refl
mark_found Dollar rest h = dollar_found rest h.1
mark_found Colon rest h = refl
mark_found Bar rest h = refl
mark_found Semicolon rest h = refl
mark_found OpenBrace rest h = refl
mark_found CloseBrace rest h = refl
mark_found OpenParenthesis rest h = refl
mark_found CloseParenthesis rest h = refl
mark_found OpenTag rest h = refl
mark_found CloseTag rest h = refl
mark_found Equals rest h = refl
mark_found Comma rest h = refl

found_at : (t : List ℕ) (m : Mark) (r : List ℕ) → MarkBefore t m r → found_mark t ≡ Some m
found_at t m r h = ap found_mark h.0 ∙ mark_found m r (refl, h.1)

some_one : (m k : Mark) → Some m ≡ Some k → m ≡ k
some_one m k e = cc

mark_one : (t : List ℕ) (m k : Mark) (r s : List ℕ) → MarkBefore t m r → MarkBefore t k s → (m ≡ k) × (r ≡ s)
mark_one t m k r s a b =
    let e = some_one m k (sym (found_at t m r a) ∙ found_at t k s b) in
    (e, append_cancel_left (spelling m) r s (sym a.0 ∙ b.0 ∙ ap (λ i. spelling i ++ s) (sym e)))

-- which sort of word a text begins with: 0 a mark, 1 a directive, 2 a name, 3 a number, 4 a literal
abbrev behind_percent : List ℕ → ℕ
behind_percent [] = 0
behind_percent (b ∷ t) = if starts_name Yacc b then 1 else 0

abbrev sort_at : List ℕ → ℕ
sort_at [] = 0
sort_at (b ∷ t) = if starts_name Yacc b then 2 else (if is_decimal b then 3 else (if nat_eq b 39 then 4 else
    (if nat_eq b 37 then behind_percent t else 0)))

abbrev sort_of : Word → ℕ
sort_of (mark m) = 0
sort_of (directive n) = 1
sort_of (name n) = 2
sort_of (number ds) = 3
sort_of (literal b) = 4
sort_of _ = 5

mark_sort : (m : Mark) (rest : List ℕ) → sort_at (spelling m ++ rest) ≡ 0
mark_sort Section rest = refl
mark_sort Block rest = refl
mark_sort Whole rest = refl
mark_sort Dollar rest = refl
mark_sort Colon rest = refl
mark_sort Bar rest = refl
mark_sort Semicolon rest = refl
mark_sort OpenBrace rest = refl
mark_sort CloseBrace rest = refl
mark_sort OpenParenthesis rest = refl
mark_sort CloseParenthesis rest = refl
mark_sort OpenTag rest = refl
mark_sort CloseTag rest = refl
mark_sort Equals rest = refl
mark_sort Comma rest = refl

digit_no_name : (b : ℕ) → IsTrue (is_decimal b) → starts_name Yacc b ≡ false
digit_no_name b h = grind (arith, nat_tests)

directive_sort : (behind n rest : List ℕ) → NameBefore Yacc behind n rest → behind_percent behind ≡ 1
directive_sort behind [] rest h = absurd h.0
directive_sort behind (b ∷ n) rest h = ap behind_percent h.2 ∙ at (starts_name Yacc b) h.0.0
  where
    at : (t : Bool) → t ≡ true → ◌≡◌ {A = ℕ} (if t then 1 else 0) 1
    at t e = rw e refl

sort_is : (text : List ℕ) (x : Word) (rest : List ℕ) → Begins text x rest → sort_at text ≡ sort_of x
sort_is text (mark m) rest h = ap sort_at h.0 ∙ mark_sort m rest
sort_is text (directive n) rest h = ap sort_at h.1 ∙ directive_sort h.0 n rest h.2
sort_is text (name []) rest h = absurd h.0
sort_is text (name (b ∷ n)) rest h = ap sort_at h.2 ∙ rw (h.0.0) refl
sort_is text (number []) rest h = absurd (h.1 refl)
sort_is text (number (b ∷ ds)) rest h = ap sort_at h.3 ∙ rw (digit_no_name b h.0.0, h.0.0) refl
sort_is text (literal b) rest h = ap sort_at h.1
sort_is text block rest h = absurd h
sort_is text braces rest h = absurd h
sort_is text other rest h = absurd h

sorted : (text : List ℕ) (x y : Word) (r s : List ℕ) → sort_of x ≡ sort_of y → Begins text x r → Begins text y s
    → (x ≡ y) × (r ≡ s)
sorted text (mark m) (mark k) r s e a b = let f = mark_one text m k r s a b in (ap mark f.0, f.1)
sorted text (directive n) (directive m) r s e a b =
    let behind : a.0 ≡ b.0 = append_cancel_left (37 ∷ []) a.0 b.0 (sym a.1 ∙ b.1) in
    let f = name_one Yacc b.0 n m r s (subst (λ t. NameBefore Yacc t n r) behind a.2) b.2 in (ap directive f.0, f.1)
sorted text (name n) (name m) r s e a b = let f = name_one Yacc text n m r s a b in (ap name f.0, f.1)
sorted text (number n) (number m) r s e a b = let f = digits_one text n m r s a b in (ap number f.0, f.1)
sorted text (literal c) (literal d) r s e a b = let f = literal_one text c d r s a b in (ap literal f.0, f.1)
sorted text block _ r s e a b = absurd a
sorted text braces _ r s e a b = absurd a
sorted text other _ r s e a b = absurd a
sorted text _ block r s e a b = absurd b
sorted text _ braces r s e a b = absurd b
sorted text _ other r s e a b = absurd b
sorted text _ _ r s e a b = absurd (omega (arith, e))

begins_one : (text : List ℕ) (x y : Word) (r s : List ℕ) → Begins text x r → Begins text y s → (x ≡ y) × (r ≡ s)
begins_one text x y r s a b = sorted text x y r s (sym (sort_is text x r a) ∙ sort_is text y s b) a b

-- a word has bytes
begins_shorter : (text : List ℕ) (x : Word) (rest : List ℕ) → Begins text x rest → length rest < length text
begins_shorter text (mark m) rest h = let p = spelled m in
    omega (arith, ap length h.0, length-append (spelling m) rest, ap length p.2)
begins_shorter text (directive n) rest h = omega (arith, ap length h.1, ap length h.2.2, length-append n rest)
begins_shorter text (name []) rest h = absurd h.0
begins_shorter text (name (b ∷ n)) rest h = omega (arith, ap length h.2, length-append n rest)
begins_shorter text (number []) rest h = absurd (h.1 refl)
begins_shorter text (number (b ∷ ds)) rest h = omega (arith, ap length h.3, length-append ds rest)
begins_shorter text (literal c) rest h = literal_shorter text rest c h
begins_shorter text block rest h = absurd h
begins_shorter text braces rest h = absurd h
begins_shorter text other rest h = absurd h

pub words : AreWords Begins
words = record { solid = begins_at; one = begins_one; shorter = begins_shorter }

-- what stands behind the gap stands at the front
pub behind_gap : (text word rest : List ℕ) (x : NextWord) → GapBefore Yacc text word → GapEnds Yacc word
    → IsWordAt word x rest → IsFront text x rest
behind_gap text word rest next.End before stops h
    = subst (Gap Yacc) (sym (before.2 ∙ ap (λ u. before.0 ++ u) h ∙ append-nil before.0)) before.1
behind_gap text word rest (next.Mark m) before stops h = (word, before, h)
behind_gap text word rest (next.Directive n) before stops h = (word, before, h)
behind_gap text word rest (next.Name n) before stops h = (word, before, h)
behind_gap text word rest (next.Number n) before stops h = (word, before, h)
behind_gap text word rest (next.Literal b) before stops h = (word, before, h)
behind_gap text word rest next.Block before stops h = absurd h
behind_gap text word rest next.Braces before stops h = absurd h
behind_gap text word rest next.Other before stops h = (
  λ g. h.0 (nothing_behind Yacc text word before stops g),
  λ x s f. h.1 x s (word_at words Yacc text word x s before stops f),
)
