-- The words of an action are determined.
use Rattle.std.proofs.lemmas.Bool.{false≢true}
use Rattle.std.proofs.Common.{◌≡◌, ◌≢◌, ℕ, ◌<◌, List, [], ◌∷◌, ◌++◌, false, IsTrue, refl, sym, ap, ap₂}
use Rattle.std.proofs.Common.{◌∙◌, subst, arith, length, length-append, ◌⊎◌, inl, inr, drop, get_or}
use Rattle.std.specs.Prelude.{codes}
use Rattle.std.proofs.lemmas.Bool.Decides.{nat_tests}
use Rattle.ly_base.specs.Gap.{Gap, GapBefore, GapEnds}
use Rattle.ly_base.specs.Language.{NameBefore, starts_name}
use Rattle.ly_base.specs.Literals.{Literal}
use Rattle.ly_base.specs.declared.language.Language.{Language}
use Rattle.ly_base.specs.declared.language.Language.TheVariants.{Lex}
use Rattle.ly_base.proofs.LiteralLemmas.{literal_one, literal_shorter}
use Rattle.ly_base.proofs.NameLemmas.{name_one}
use Rattle.ly_base.proofs.WordBeforeLemmas.{AreWords, IsSolid, name_solid, nothing_behind, word_at, word_none, word_one}
use Rattle.ly_lexread.specs.Private.Words.{IsFound, IsFront, word_of}
use Rattle.ly_lexread.specs.Words.{Word, mark, text_byte, name, literal, Begins, HasInFront, IsNoTextByte}
use Rattle.ly_lexread.specs.Words.{TextByteBefore}
use Rattle.ly_lexread.specs.Words.{Wording, is_mark}
use Rattle.ly_lexread.specs.declared.words.NextWord.{NextWord}
use Rattle.ly_lexread.specs.declared.words.NextWord.TheVariants as next

mark_solid : (b : ℕ) → IsTrue (is_mark b) → IsSolid b
mark_solid b h = record {
  no_space = grind (arith, nat_tests);
  no_slash = λ e. false≢true (sym (ap is_mark e) ∙ h);
}

-- the byte that a word begins with
abbrev Starts : Word → ℕ → Type 0
Starts (mark m) b = (b ≡ m) × IsTrue (is_mark m)
Starts text_byte b = IsTrue (starts_name Lex b) ⊎ (b ≡ 42)
Starts (name n) b = IsTrue (starts_name Lex b)
Starts (literal c) b = b ≡ 39

begins_at : (text : List ℕ) (x : Word) (rest : List ℕ) → Begins text x rest → (b : ℕ) × (s : List ℕ) × (text ≡ b ∷ s)
    × Starts x b
begins_at text (mark m) rest h = (m, rest, h.1, (refl, h.0))
begins_at text text_byte rest (inl h) = (121, codes "ytext" ++ (codes "[0]" ++ rest), h.2, inl h.0.0)
begins_at text text_byte rest (inr h) = (42, h.0, h.1, inr refl)
begins_at text (name []) rest h = absurd h.0.0
begins_at text (name (b ∷ n)) rest h = (b, n ++ rest, h.0.2, h.0.0.0)
begins_at text (literal c) rest h = (39, h.0, h.1, refl)

starts_solid : (x : Word) (b : ℕ) → Starts x b → IsSolid b
starts_solid (mark m) b h = subst IsSolid (sym h.0) (mark_solid m h.1)
starts_solid text_byte b (inl e) = name_solid Lex b e
starts_solid text_byte b (inr e) = subst IsSolid (sym e) (record { no_space = refl; no_slash = λ f. omega (arith, f) })
starts_solid (name n) b e = name_solid Lex b e
starts_solid (literal c) b e = subst IsSolid (sym e) (record { no_space = refl; no_slash = λ f. omega (arith, f) })

apart : (u : List ℕ) (x y : Word) (r s : List ℕ) → ((b : ℕ) → Starts x b → Starts y b → ⊥) → Begins u x r → Begins u y s
    → ⊥
apart u x y r s h a b = at (begins_at u x r a) (begins_at u y s b)
  where
    at : (b : ℕ) × (t : List ℕ) × (u ≡ b ∷ t) × Starts x b → (b : ℕ) × (t : List ℕ) × (u ≡ b ∷ t) × Starts y b → ⊥
    at (b, t, e, p) (c, v, f, q) = let same : c ≡ b = cc in h b p (subst (Starts y) same q)

no_letter : (n b : ℕ) → starts_name Lex n ≡ false → b ≡ n → IsTrue (starts_name Lex b) → ⊥
no_letter n b h e s = false≢true (sym h ∙ ap (starts_name Lex) (sym e) ∙ s)

-- a mark is no byte that begins another word
mark_no_letter : (m : ℕ) → IsTrue (is_mark m) → IsTrue (starts_name Lex m) → ⊥
mark_no_letter m h s = grind (arith, nat_tests)

mark_not : (m b : ℕ) → IsTrue (is_mark m) → is_mark b ≡ false → m ≡ b → ⊥
mark_not m b h k e = false≢true (sym k ∙ ap is_mark (sym e) ∙ h)

mark_apart : (m b : ℕ) (x : Word) → ((k : ℕ) → x ≢ mark k) → Starts (mark m) b → Starts x b → ⊥
mark_apart m b (mark k) other h s = other k refl
mark_apart m b text_byte other h (inl s) = mark_no_letter m h.1 (subst (λ i. IsTrue (starts_name Lex i)) h.0 s)
mark_apart m b text_byte other h (inr s) = mark_not m 42 h.1 refl (sym h.0 ∙ s)
mark_apart m b (name n) other h s = mark_no_letter m h.1 (subst (λ i. IsTrue (starts_name Lex i)) h.0 s)
mark_apart m b (literal c) other h s = mark_not m 39 h.1 refl (sym h.0 ∙ s)

literal_apart : (b c : ℕ) (x : Word) → ((k : ℕ) → x ≢ mark k) → ((k : ℕ) → x ≢ literal k) → Starts (literal c) b
    → Starts x b → ⊥
literal_apart b c (mark k) p q h s = p k refl
literal_apart b c text_byte p q h (inl s) = no_letter 39 b refl h s
literal_apart b c text_byte p q h (inr s) = omega (arith, h, s)
literal_apart b c (name n) p q h s = no_letter 39 b refl h s
literal_apart b c (literal d) p q h s = q d refl

star_no_name : (u n r behind : List ℕ) → NameBefore Lex u n r → u ≡ 42 ∷ behind → ⊥
star_no_name u [] r behind h e = h.0
star_no_name u (b ∷ n) r behind h e = no_letter 42 b refl (ap (λ x. get_or x 0 0) (sym h.2 ∙ e)) h.0.0

text_byte_name : (u n r s : List ℕ) → TextByteBefore u s → NameBefore Lex u n r → IsNoTextByte n r → ⊥
text_byte_name u n r s (inl t) h other = let e = name_one Lex u (codes "yytext") n (codes "[0]" ++ s) r t h
    in other (sym e.0) s (sym e.1)
text_byte_name u n r s (inr t) h other = star_no_name u n r t.0 h t.1

text_byte_one : (u r s : List ℕ) → TextByteBefore u r → TextByteBefore u s → r ≡ s
text_byte_one u r s (inl a) (inl b)
    = ap (drop 3) (name_one Lex u (codes "yytext") (codes "yytext") (codes "[0]" ++ r) (codes "[0]" ++ s) a b).1
text_byte_one u r s (inl a) (inr b) = absurd (star_no_name u (codes "yytext") (codes "[0]" ++ r) b.0 a b.1)
text_byte_one u r s (inr a) (inl b) = absurd (star_no_name u (codes "yytext") (codes "[0]" ++ s) a.0 b a.1)
text_byte_one u r s (inr a) (inr b) =
    let same : b.0 ≡ a.0 = ap (drop 1) (sym b.1 ∙ a.1) in
    (name_one Lex a.0 (codes "yytext") (codes "yytext") r s a.2
    (subst (λ t. NameBefore Lex t (codes "yytext") s) same b.2)).1

begins_one : (u : List ℕ) (x y : Word) (r s : List ℕ) → Begins u x r → Begins u y s → (x ≡ y) × (r ≡ s)
begins_one u (mark m) (mark k) r s a b =
    let e : m ∷ r ≡ k ∷ s = sym a.1 ∙ b.1 in
    (ap mark (ap (λ t. get_or t 0 0) e), ap (drop 1) e)
begins_one u (mark m) text_byte r s a b
    = absurd (apart u (mark m) text_byte r s (λ i. mark_apart m i text_byte (λ k e. cc)) a b)
begins_one u (mark m) (name n) r s a b
    = absurd (apart u (mark m) (name n) r s (λ i. mark_apart m i (name n) (λ k e. cc)) a b)
begins_one u (mark m) (literal d) r s a b
    = absurd (apart u (mark m) (literal d) r s (λ i. mark_apart m i (literal d) (λ k e. cc)) a b)
begins_one u text_byte (mark k) r s a b
    = absurd (apart u (mark k) text_byte s r (λ i. mark_apart k i text_byte (λ k e. cc)) b a)
begins_one u text_byte text_byte r s a b = (refl, text_byte_one u r s a b)
begins_one u text_byte (name m) r s a b = absurd (text_byte_name u m s r a b.0 b.1)
begins_one u text_byte (literal d) r s a b
    = absurd (apart u (literal d) text_byte s r (λ i. literal_apart i d text_byte (λ k e. cc) (λ k e. cc)) b a)
begins_one u (name n) (mark k) r s a b
    = absurd (apart u (mark k) (name n) s r (λ i. mark_apart k i (name n) (λ k e. cc)) b a)
begins_one u (name n) text_byte r s a b = absurd (text_byte_name u n r s b a.0 a.1)
begins_one u (name n) (name m) r s a b = let e = name_one Lex u n m r s a.0 b.0 in (ap name e.0, e.1)
begins_one u (name n) (literal d) r s a b
    = absurd (apart u (literal d) (name n) s r (λ i. literal_apart i d (name n) (λ k e. cc) (λ k e. cc)) b a)
begins_one u (literal c) (mark k) r s a b
    = absurd (apart u (mark k) (literal c) s r (λ i. mark_apart k i (literal c) (λ k e. cc)) b a)
begins_one u (literal c) text_byte r s a b
    = absurd (apart u (literal c) text_byte r s (λ i. literal_apart i c text_byte (λ k e. cc) (λ k e. cc)) a b)
begins_one u (literal c) (name m) r s a b
    = absurd (apart u (literal c) (name m) r s (λ i. literal_apart i c (name m) (λ k e. cc) (λ k e. cc)) a b)
begins_one u (literal c) (literal d) r s a b = let e = literal_one u c d r s a b in (ap literal e.0, e.1)

begins_shorter : (text : List ℕ) (x : Word) (rest : List ℕ) → Begins text x rest → length rest < length text
begins_shorter text (mark m) rest h = omega (arith, ap length h.1)
begins_shorter text text_byte rest (inl h)
    = omega (
      arith,
      ap length h.2,
      length-append (codes "yytext") (codes "[0]" ++ rest),
      length-append
          (codes "[0]") rest,
    )
begins_shorter text text_byte rest (inr h)
    = omega (arith, ap length h.1, ap length h.2.2, length-append (codes "yytext") rest)
begins_shorter text (name []) rest h = absurd h.0.0
begins_shorter text (name (b ∷ n)) rest h = omega (arith, ap length h.0.2, length-append n rest)
begins_shorter text (literal c) rest h = literal_shorter text rest c h

pub words : AreWords Begins
words = record {
  solid = λ text x rest h. let at = begins_at text x rest h in (at.0, at.1, at.2, starts_solid x at.0 at.3);
  one = begins_one;
  shorter = begins_shorter;
}

-- whatever word stands in front is the one that was found there
pub front_is : (l : Language) (text : List ℕ) (w : NextWord) (rest : List ℕ) (x : Word) (s : List ℕ)
    → IsFront l text w rest → HasInFront l text x s → (x ≡ word_of w) × (s ≡ rest)
front_is l text next.End rest x s h f = absurd (word_none words l text x s h.0 f)
front_is l text next.Other rest x s h f = absurd (h.1 x s f)
front_is l text (next.Mark b) rest x s h f = word_one words l text x (mark b) s rest f h
front_is l text next.TextByte rest x s h f = word_one words l text x text_byte s rest f h
front_is l text (next.Name n) rest x s h f = word_one words l text x (name n.now) s rest f h
front_is l text (next.Literal b) rest x s h f = word_one words l text x (literal b) s rest f h

pub found_front : (l : Language) (text : List ℕ) (w : NextWord) (rest : List ℕ) → IsFront l text w rest → IsFound w
    → HasInFront l text (word_of w) rest
found_front l text next.End rest h f = absurd f
found_front l text next.Other rest h f = absurd f
found_front l text (next.Mark b) rest h f = h
found_front l text next.TextByte rest h f = h
found_front l text (next.Name n) rest h f = h
found_front l text (next.Literal b) rest h f = h

-- a gap alone is the end
pub front_end : (l : Language) (text : List ℕ) (w : NextWord) (rest : List ℕ) → IsFront l text w rest → Gap l text
    → w ≡ next.End
front_end l text next.End rest h g = refl
front_end l text next.Other rest h g = absurd (h.0 g)
front_end l text (next.Mark b) rest h g = absurd (word_none words l text (mark b) rest g h)
front_end l text next.TextByte rest h g = absurd (word_none words l text text_byte rest g h)
front_end l text (next.Name n) rest h g = absurd (word_none words l text (name n.now) rest g h)
front_end l text (next.Literal b) rest h g = absurd (word_none words l text (literal b) rest g h)

pub end_gap : (l : Language) (text : List ℕ) (w : NextWord) (rest : List ℕ) → IsFront l text w rest → w ≡ next.End
    → Gap l text × (rest ≡ [])
end_gap l text w rest h e = subst (λ i. IsFront l text i rest) e h

-- the mark that was found
pub mark_front : (l : Language) (text : List ℕ) (w : NextWord) (rest : List ℕ) (m : ℕ) → IsFront l text w rest
    → word_of w ≡ mark m → 0 < m → HasInFront l text (mark m) rest
mark_front l text w rest m h e some = subst (λ x. HasInFront l text x rest) e (found_front l text w rest h (at w e))
  where
    zero_mark : (k : ℕ) → mark 0 ≡ mark k → k ≡ 0
    zero_mark k f = cc

    at : (w : NextWord) → word_of w ≡ mark m → IsFound w
    at next.End f = absurd (omega (arith, zero_mark m f, some))
    at next.Other f = absurd (omega (arith, zero_mark m f, some))
    at (next.Mark b) f = tt
    at next.TextByte f = tt
    at (next.Name n) f = tt
    at (next.Literal b) f = tt

pub name_front : (l : Language) (text : List ℕ) (w : NextWord) (rest n : List ℕ) → IsFront l text w rest
    → word_of w ≡ name n → HasInFront l text (name n) rest
name_front l text w rest n h e = subst (λ x. HasInFront l text x rest) e (found_front l text w rest h (at w e))
  where
    at : (w : NextWord) → word_of w ≡ name n → IsFound w
    at next.End f = absurd (cc)
    at next.Other f = absurd (cc)
    at (next.Mark b) f = tt
    at next.TextByte f = tt
    at (next.Name k) f = tt
    at (next.Literal b) f = tt

-- no word and no end stands behind the gap
pub other_front : (l : Language) (text word : List ℕ) → GapBefore l text word → GapEnds l word
    → ((b : ℕ) (s : List ℕ) → Literal word b s → ⊥) → ((n s : List ℕ) → NameBefore Lex word n s → ⊥)
    → ((behind s : List ℕ) → word ≡ codes "*" ++ behind → NameBefore Lex behind (codes "yytext") s → ⊥)
    → (b : ℕ) (t : List ℕ) → word ≡ b ∷ t → is_mark b ≡ false
    → (Gap l text → ⊥) × ((x : Word) (s : List ℕ) → HasInFront l text x s → ⊥)
other_front l text word before stops a n f b t e m
    = (no_gap, λ x s k. none_at x s (word_at words l text word x s before stops k))
  where
    no_gap : Gap l text → ⊥
    no_gap g = let nothing = nothing_behind l text word before stops g in cc

    same_mark : (k : ℕ) (s : List ℕ) → IsTrue (is_mark k) → word ≡ k ∷ s → ⊥
    same_mark k s h g = let same : k ≡ b = cc in false≢true (sym m ∙ ap is_mark (sym same) ∙ h)

    none_at : (x : Word) (s : List ℕ) → Begins word x s → ⊥
    none_at (mark k) s h = same_mark k s h.0 h.1
    none_at text_byte s (inl h) = n (codes "yytext") (codes "[0]" ++ s) h
    none_at text_byte s (inr h) = f h.0 s h.1 h.2
    none_at (name k) s h = n k s h.0
    none_at (literal v) s h = a v s h

-- the words of a text are determined
pub wording_one : (l : Language) (text : List ℕ) (xs ys : List Word) → Wording l text xs → Wording l text ys → xs ≡ ys
wording_one l text [] [] a b = refl
wording_one l text [] (y ∷ ys) a b = absurd (word_none words l text y b.0 a b.1)
wording_one l text (x ∷ xs) [] a b = absurd (word_none words l text x a.0 b a.1)
wording_one l text (x ∷ xs) (y ∷ ys) a b =
    let e = word_one words l text x y a.0 b.0 a.1 b.1 in
    ap₂ ◌∷◌ e.0 (wording_one l b.0 xs ys (subst (λ r. Wording l r xs) e.1 a.2) b.2)
