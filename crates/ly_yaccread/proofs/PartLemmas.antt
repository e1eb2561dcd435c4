-- The word at the front of a text in a part of a file is determined.
use Rattle.std.proofs.Common.{◌≡◌, ◌≢◌, ℕ, List, ◌∷◌, codes, refl, sym, ap, subst, length, length-append, ◌<◌}
use Rattle.std.proofs.Common.{arith}
use Rattle.ly_base.specs.Gap.{Closes, EndBefore, Gap, HasNo, last, close, opening, other as plain_byte}
use Rattle.ly_base.specs.declared.language.Language.TheVariants.{Yacc}
use Rattle.ly_base.proofs.GapLemmas.{block_one, closes_one}
use Rattle.ly_base.proofs.WordBeforeLemmas.{word_at, word_none, word_one, word_shorter}
use Rattle.ly_yaccread.specs.Private.Words.{IsFront, IsPartWord, word_of}
use Rattle.ly_yaccread.specs.Words.{Word, mark, directive, name, number, literal, block, braces, other, HasInFront}
use Rattle.ly_yaccread.specs.Words.{GapPassed, Takes}
use Rattle.ly_yaccread.specs.Words.{IsPlain}
use Rattle.ly_yaccread.specs.declared.part.Part.{Part}
use Rattle.ly_yaccread.specs.declared.part.Part.TheVariants.{Declarations}
use Rattle.ly_yaccread.specs.declared.words.Mark.{Mark}
use Rattle.ly_yaccread.specs.declared.words.Mark.TheVariants.{Block, OpenBrace}
use Rattle.ly_yaccread.specs.declared.words.NextWord.{NextWord}
use Rattle.ly_yaccread.specs.declared.words.NextWord.TheVariants as next
use Rattle.ly_yaccread.proofs.WordLemmas.{words}

-- a word of a part begins with a word of one piece
pub takes_front : (p : Part) (text : List ℕ) (x : Word) (s : List ℕ) → Takes p text x s
    → (y : Word) × (t : List ℕ) × HasInFront text y t
takes_front p text (mark m) s h = (mark m, s, h.0)
takes_front p text (directive n) s h = (directive n, s, h)
takes_front p text (name n) s h = (name n, s, h)
takes_front p text (number n) s h = (number n, s, h)
takes_front p text (literal b) s h = (literal b, s, h)
takes_front p text block s h = (mark Block, h.1, h.2)
takes_front p text braces s h = (mark OpenBrace, h.1, h.2)
takes_front p text other s h = (other, s, h)

-- a word that is no mark
pub no_mark : (p : Part) (text rest : List ℕ) (w : NextWord) → IsFront text w rest → ((m : Mark) → w ≡ next.Mark m → ⊥)
    → IsPartWord p text w rest
no_mark p text rest next.End f n = f
no_mark p text rest (next.Mark m) f n = absurd (n m refl)
no_mark p text rest (next.Directive d) f n = f
no_mark p text rest (next.Name d) f n = f
no_mark p text rest (next.Number d) f n = f
no_mark p text rest (next.Literal b) f n = f
no_mark p text rest next.Block f n = absurd (at f)
  where
    at : IsFront text next.Block rest → ⊥
    at (u, g, b) = b
no_mark p text rest next.Braces f n = absurd (at f)
  where
    at : IsFront text next.Braces rest → ⊥
    at (u, g, b) = b
no_mark p text rest next.Other f n = (f.0, λ x s h. let g = takes_front p text x s h in f.1 g.0 g.1 g.2)

-- a word that isn't a mark, and another word of the same text
plain_one : (p : Part) (text : List ℕ) (x y : Word) (r s : List ℕ) → ((m : Mark) → x ≢ mark m) → HasInFront text x r
    → Takes p text y s → (x ≡ y) × (r ≡ s)
plain_one p text x (mark m) r s differs a b = word_one words Yacc text x (mark m) r s a b.0
plain_one p text x (directive n) r s differs a b = word_one words Yacc text x (directive n) r s a b
plain_one p text x (name n) r s differs a b = word_one words Yacc text x (name n) r s a b
plain_one p text x (number n) r s differs a b = word_one words Yacc text x (number n) r s a b
plain_one p text x (literal c) r s differs a b = word_one words Yacc text x (literal c) r s a b
plain_one p text x block r s differs a b =
    absurd (differs Block (word_one words Yacc text x (mark Block) r b.1 a b.2).0)
plain_one p text x braces r s differs a b =
    absurd (differs OpenBrace (word_one words Yacc text x (mark OpenBrace) r b.1 a b.2).0)
plain_one p text x other r s differs a b = word_one words Yacc text x other r s a b

not_block : (p : Part) (m : Mark) → p ≡ Declarations → m ≡ Block → IsPlain p m → ⊥
not_block p m e f h = (subst (λ i. IsPlain i m) e h).0 f

not_brace : (p : Part) (m : Mark) → p ≡ Declarations → m ≡ OpenBrace → IsPlain p m → ⊥
not_brace p m e f h = (subst (λ i. IsPlain i m) e h).1 f

same_mark : (m k : Mark) → mark m ≡ mark k → m ≡ k
same_mark m k e = cc

-- what is taken where a mark comes first, behind which the text goes on
data TakesMark (p : Part) (m : Mark) (inside : List ℕ) : Word → List ℕ → Type 0 where
  itself : IsPlain p m → TakesMark p m inside (mark m) inside
  a_block : (s : List ℕ) → p ≡ Declarations → m ≡ Block → EndBefore (codes "%}") inside s → TakesMark p m inside block s
  a_brace : (s : List ℕ) → p ≡ Declarations → m ≡ OpenBrace → Closes 0 inside s → TakesMark p m inside braces s

at_mark : (p : Part) (text : List ℕ) (m : Mark) (inside : List ℕ) (y : Word) (s : List ℕ)
    → HasInFront text (mark m) inside
    → Takes p text y s → TakesMark p m inside y s
at_mark p text m inside (mark k) s f t =
    let e = word_one words Yacc text (mark m) (mark k) inside s f t.0 in
    let same = same_mark m k e.0 in
    subst (λ i. TakesMark p m inside (mark i) s) same
    (subst (λ i. TakesMark p m inside (mark m) i) e.1 (itself (subst (IsPlain p) (sym same) t.1)))
at_mark p text m inside (directive n) s f t =
    absurd (cc (word_one words Yacc text (mark m) (directive n) inside s f t).0)
at_mark p text m inside (name n) s f t = absurd (cc (word_one words Yacc text (mark m) (name n) inside s f t).0)
at_mark p text m inside (number n) s f t = absurd (cc (word_one words Yacc text (mark m) (number n) inside s f t).0)
at_mark p text m inside (literal c) s f t = absurd (cc (word_one words Yacc text (mark m) (literal c) inside s f t).0)
at_mark p text m inside block s f (d, u, g, b) =
    let e = word_one words Yacc text (mark m) (mark Block) inside u f g in
    a_block s d (same_mark m Block e.0) (subst (λ i. EndBefore (codes "%}") i s) (sym e.1) b)
at_mark p text m inside braces s f (d, u, g, b) =
    let e = word_one words Yacc text (mark m) (mark OpenBrace) inside u f g in
    a_brace s d (same_mark m OpenBrace e.0) (subst (λ i. Closes 0 i s) (sym e.1) b)
at_mark p text m inside other s f t = absurd (cc (word_one words Yacc text (mark m) other inside s f t).0)

block_no_brace : (m : Mark) → m ≡ Block → m ≡ OpenBrace → ⊥
block_no_brace m e f = cc

mark_one : (p : Part) (m : Mark) (inside : List ℕ) (y : Word) (s : List ℕ) → IsPlain p m → TakesMark p m inside y s
    → (mark m ≡ y) × (inside ≡ s)
mark_one p m inside y s h (itself g) = (refl, refl)
mark_one p m inside y s h (a_block r d e b) = absurd (not_block p m d e h)
mark_one p m inside y s h (a_brace r d e b) = absurd (not_brace p m d e h)

one_block : (p : Part) (m : Mark) (inside : List ℕ) (y : Word) (r s : List ℕ) → p ≡ Declarations → m ≡ Block
    → EndBefore (codes "%}") inside r → TakesMark p m inside y s → (block ≡ y) × (r ≡ s)
one_block p m inside y r s d e b (itself g) = absurd (not_block p m d e g)
one_block p m inside y r s d e b (a_block q f g c) = (refl, block_one inside r q b c)
one_block p m inside y r s d e b (a_brace q f g c) = absurd (block_no_brace m e g)

one_brace : (p : Part) (m : Mark) (inside : List ℕ) (y : Word) (r s : List ℕ) → p ≡ Declarations → m ≡ OpenBrace
    → Closes 0 inside r → TakesMark p m inside y s → (braces ≡ y) × (r ≡ s)
one_brace p m inside y r s d e b (itself g) = absurd (not_brace p m d e g)
one_brace p m inside y r s d e b (a_block q f g c) = absurd (block_no_brace m g e)
one_brace p m inside y r s d e b (a_brace q f g c) = (refl, closes_one 0 inside r q b c)

-- the word at the front is determined, and so is the rest
pub takes_one : (p : Part) (text : List ℕ) (x y : Word) (r s : List ℕ) → Takes p text x r → Takes p text y s
    → (x ≡ y) × (r ≡ s)
takes_one p text (mark m) y r s a b = mark_one p m r y s a.1 (at_mark p text m r y s a.0 b)
takes_one p text (directive n) y r s a b = plain_one p text (directive n) y r s (λ m e. cc e) a b
takes_one p text (name n) y r s a b = plain_one p text (name n) y r s (λ m e. cc e) a b
takes_one p text (number n) y r s a b = plain_one p text (number n) y r s (λ m e. cc e) a b
takes_one p text (literal c) y r s a b = plain_one p text (literal c) y r s (λ m e. cc e) a b
takes_one p text block y r s (d, u, f, e) b
    = one_block p Block u y r s d refl e (at_mark p text Block u y s f b)
takes_one p text braces y r s (d, u, f, e) b
    = one_brace p OpenBrace u y r s d refl e (at_mark p text OpenBrace u y s f b)
takes_one p text other y r s a b = plain_one p text other y r s (λ m e. cc e) a b

-- a mark behind which nothing closes
open_mark : (p : Part) (m : Mark) (inside : List ℕ) (y : Word) (s : List ℕ) → (IsPlain p m → ⊥)
    → (m ≡ Block → HasNo (codes "%}") inside) → (m ≡ OpenBrace → (rest : List ℕ) → Closes 0 inside rest → ⊥)
    → TakesMark p m inside y s → ⊥
open_mark p m inside y s a b c (itself g) = a g
open_mark p m inside y s a b c (a_block q d e h) = b e h.0 q h.2
open_mark p m inside y s a b c (a_brace q d e h) = c e q h

abbrev Nothing : Part → List ℕ → Type 0
Nothing p text = (Gap Yacc text → ⊥) × ((x : Word) (s : List ℕ) → Takes p text x s → ⊥)

-- a block that isn't closed
pub open_block : (p : Part) (text inside : List ℕ) → HasInFront text (mark Block) inside → p ≡ Declarations
    → HasNo (codes "%}") inside → Nothing p text
open_block p text inside f d h = (
  λ g. word_none words Yacc text (mark Block) inside g f,
  λ x s t. open_mark p Block inside x s (not_block p Block d refl) (λ e. h) (λ e. absurd (block_no_brace Block refl e))
      (at_mark p text Block inside x s f t),
)

-- a brace that isn't closed
pub open_brace : (p : Part) (text inside : List ℕ) → HasInFront text (mark OpenBrace) inside → p ≡ Declarations
    → ((rest : List ℕ) → Closes 0 inside rest → ⊥) → Nothing p text
open_brace p text inside f d h = (
  λ g. word_none words Yacc text (mark OpenBrace) inside g f,
  λ x s t. open_mark p OpenBrace inside x s (not_brace p OpenBrace d refl)
      (λ e. absurd (block_no_brace OpenBrace e refl)) (λ e. h) (at_mark p text OpenBrace inside x s f t),
)

closes_shorter : (n : ℕ) (t r : List ℕ) → Closes n t r → length r < length t
closes_shorter n t r (last q) = omega arith
closes_shorter n t r (close m u q h) = omega (arith, closes_shorter m u q h)
closes_shorter n t r (opening m u q h) = omega (arith, closes_shorter _ u q h)
closes_shorter n t r (plain_byte m b u q x y h) = omega (arith, closes_shorter m u q h)

-- a word has bytes
pub takes_shorter : (p : Part) (text : List ℕ) (x : Word) (rest : List ℕ) → Takes p text x rest
    → length rest < length text
takes_shorter p text (mark m) rest h = word_shorter words Yacc text (mark m) rest h.0
takes_shorter p text (directive n) rest h = word_shorter words Yacc text (directive n) rest h
takes_shorter p text (name n) rest h = word_shorter words Yacc text (name n) rest h
takes_shorter p text (number n) rest h = word_shorter words Yacc text (number n) rest h
takes_shorter p text (literal b) rest h = word_shorter words Yacc text (literal b) rest h
takes_shorter p text block rest h =
    let f = word_shorter words Yacc text (mark Block) h.1 h.2 in
    omega (arith, f, ap length h.3.2, length-append h.3.0 (37 ∷ 125 ∷ rest))
takes_shorter p text braces rest h =
    let f = word_shorter words Yacc text (mark OpenBrace) h.1 h.2 in omega (arith, f, closes_shorter 0 h.1 rest h.3)
takes_shorter p text other rest h = word_shorter words Yacc text other rest h

front_shorter : (text from : List ℕ) (x : Word) (rest : List ℕ) → GapPassed text from → HasInFront text x rest
    → length rest < length from
front_shorter text from x rest passed h
    = words.shorter from x rest (word_at words Yacc text from x rest passed.0 passed.1 h)

-- and so behind the gap before it
pub takes_from : (p : Part) (text from : List ℕ) (x : Word) (rest : List ℕ) → GapPassed text from → Takes p text x rest
    → length rest < length from
takes_from p text from (mark m) rest g h = front_shorter text from (mark m) rest g h.0
takes_from p text from (directive n) rest g h = front_shorter text from (directive n) rest g h
takes_from p text from (name n) rest g h = front_shorter text from (name n) rest g h
takes_from p text from (number n) rest g h = front_shorter text from (number n) rest g h
takes_from p text from (literal b) rest g h = front_shorter text from (literal b) rest g h
takes_from p text from block rest g h =
    let f = front_shorter text from (mark Block) h.1 g h.2 in
    omega (arith, f, ap length h.3.2, length-append h.3.0 (37 ∷ 125 ∷ rest))
takes_from p text from braces rest g h =
    let f = front_shorter text from (mark OpenBrace) h.1 g h.2 in omega (arith, f, closes_shorter 0 h.1 rest h.3)
takes_from p text from other rest g h = front_shorter text from other rest g h

-- what is found is a word
pub taken : (p : Part) (text rest : List ℕ) (w : NextWord) → w ≢ next.End → w ≢ next.Other → IsPartWord p text w rest
    → Takes p text (word_of w) rest
taken p text rest next.End e o h = absurd (e refl)
taken p text rest (next.Mark m) e o h = h
taken p text rest (next.Directive n) e o h = h
taken p text rest (next.Name n) e o h = h
taken p text rest (next.Number n) e o h = h
taken p text rest (next.Literal b) e o h = h
taken p text rest next.Block e o h = h
taken p text rest next.Braces e o h = h
taken p text rest next.Other e o h = absurd (o refl)
