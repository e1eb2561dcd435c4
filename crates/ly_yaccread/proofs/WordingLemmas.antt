-- The words of a text, as they are found, and that they are determined.
use Rattle.std.proofs.Common.{◌≡◌, ◌≢◌, ◌≤◌, ℕ, List, [], ◌∷◌, ◌++◌, Contains, length, refl, sym, ap, ap₂, ◌∙◌, subst}
use Rattle.std.proofs.Common.{arith, inl, inr, length-append, ◌-◌}
use Rattle.std.proofs.lemmas.List.{append-nil}
use Rattle.ly_base.proofs.GapLemmas.{gap_one}
use Rattle.ly_base.proofs.MemberLemmas.{Contains-cons_cases, Contains-none, Contains-one}
use Rattle.ly_base.specs.Gap.{Gap}
use Rattle.ly_base.specs.declared.language.Language.TheVariants.{Yacc}
use Rattle.ly_base.proofs.WordBeforeLemmas.{word_none}
use Rattle.ly_yaccread.specs.Private.Words.{IsPartWord, offsets_of, word_of, words_of}
use Rattle.ly_yaccread.specs.Words.{Word, other, BeginsAt, GapPassed, Takes, Wording, AreWordsOf, free, end, stuck}
use Rattle.ly_yaccread.specs.Words.{more}
use Rattle.ly_yaccread.specs.Words.{part_behind}
use Rattle.ly_yaccread.specs.declared.part.Part.{Part}
use Rattle.ly_yaccread.specs.declared.part.Part.TheVariants.{Programs}
use Rattle.ly_yaccread.specs.declared.words.FileWord.{FileWord}
use Rattle.ly_yaccread.specs.declared.words.NextWord.TheVariants as next
use Rattle.ly_yaccread.proofs.PartLemmas.{taken, takes_front, takes_one}
use Rattle.ly_yaccread.proofs.WordLemmas.{words}

words_push : (before : List FileWord) (p : FileWord) (ws : List Word)
    → words_of (before ++ p ∷ []) ++ ws ≡ words_of before ++ word_of p.word ∷ ws
words_push [] p ws = refl
words_push (q ∷ before) p ws = ap (λ xs. word_of q.word ∷ xs) (words_push before p ws)

offsets_push : (before : List FileWord) (p : FileWord) (os : List ℕ)
    → offsets_of (before ++ p ∷ []) ++ os ≡ offsets_of before ++ p.offset ∷ os
offsets_push [] p os = refl
offsets_push (q ∷ before) p os = ap (λ xs. q.offset ∷ xs) (offsets_push before p os)

-- the words so far and those of the rest are all words
abbrev pub GoesOn : List ℕ → List FileWord → Part → List ℕ → Type 0
GoesOn text before p rest = (ws : List Word) (os : List ℕ) → Wording (length text) p rest ws os
    → AreWordsOf text (words_of before ++ ws) (offsets_of before ++ os)

abbrev Are : List ℕ → List FileWord → Type 0
Are text ws = AreWordsOf text (words_of ws) (offsets_of ws)

module _ (text rest behind : List ℕ) (before longer : List FileWord) (p : Part) (w : FileWord)
    (so_far : GoesOn text before p rest) (goes : p ≢ Programs) (pushed : longer ≡ before ++ w ∷ [])
    (found : IsPartWord p rest w.word behind) (begins : BeginsAt (length text) rest w.offset) where
  -- with a word more
  with_more : (ws : List Word) (os : List ℕ)
      → Wording (length text) p rest (word_of w.word ∷ ws) (w.offset ∷ os)
      → AreWordsOf text (words_of longer ++ ws) (offsets_of longer ++ os)
  with_more ws os h = subst (λ l. AreWordsOf text (words_of l ++ ws) (offsets_of l ++ os)) (sym pushed)
      (subst (λ xs. AreWordsOf text xs (offsets_of (before ++ w ∷ []) ++ os)) (sym (words_push before w ws))
      (subst (λ xs. AreWordsOf text (words_of before ++ word_of w.word ∷ ws) xs) (sym (offsets_push before w os))
      (so_far (word_of w.word ∷ ws) (w.offset ∷ os) h)))

  -- a word more
  pub one_more : w.word ≢ next.End → w.word ≢ next.Other → GoesOn text longer (part_behind p (word_of w.word)) behind
  one_more a b ws os h = with_more ws os
      (more p rest behind (word_of w.word) w.offset ws os goes (taken p rest behind w.word a b found) begins h)

  -- no word stands there
  pub one_last : w.word ≡ next.Other → Are text longer
  one_last e =
      let none = subst (λ x. IsPartWord p rest x behind) e found in
      let all = with_more [] [] (subst (λ x. Wording (length text) p rest (word_of x ∷ []) (w.offset ∷ [])) (sym e)
      (stuck p rest w.offset goes none.0 none.1 begins)) in
      subst (λ xs. AreWordsOf text xs (offsets_of longer)) (append-nil (words_of longer))
      (subst (λ xs. AreWordsOf text (words_of longer ++ []) xs) (append-nil (offsets_of longer)) all)

-- what stands behind the gap in front of the rest of a text begins where the text has so many bytes more
pub begins : (text rest from : List ℕ) → GapPassed rest from → length rest ≤ length text
    → BeginsAt (length text) rest (length text - length from)
begins text rest from passed within =
    let less : length from ≤ length rest
    = omega (arith, ap length passed.0.2, length-append passed.0.0 from) in
    (from, passed, omega arith)

over : (text rest : List ℕ) (before : List FileWord) (p : Part) → GoesOn text before p rest
    → Wording (length text) p rest [] [] → Are text before
over text rest before p so_far h = subst (λ xs. AreWordsOf text xs (offsets_of before)) (append-nil (words_of before))
    (subst (λ xs. AreWordsOf text (words_of before ++ []) xs) (append-nil (offsets_of before)) (so_far [] [] h))

pub at_end : (text rest : List ℕ) (before : List FileWord) (p : Part) → GoesOn text before p rest → Gap Yacc rest
    → Are text before
at_end text rest before p so_far g = over text rest before p so_far (end p rest g)

pub at_programs : (text rest : List ℕ) (before : List FileWord) (p : Part) → GoesOn text before p rest
    → p ≡ Programs → Are text before
at_programs text rest before p so_far e = over text rest before p so_far
    (subst (λ q. Wording (length text) q rest [] []) (sym e) (free rest))

-- a gap has no word of any part
gap_takes : (p : Part) (text : List ℕ) (x : Word) (s : List ℕ) → Gap Yacc text → Takes p text x s → ⊥
gap_takes p text x s g h = let f = takes_front p text x s h in word_none words Yacc text f.0 f.1 g f.2

-- where what stands behind the gap begins is determined
pub begins_one : (bytes : ℕ) (text : List ℕ) (o q : ℕ) → BeginsAt bytes text o → BeginsAt bytes text q → o ≡ q
begins_one bytes text o q (r, a, e) (s, b, f) =
    let same : r ≡ s = gap_one Yacc a.0.0 b.0.0 r s a.0.1 b.0.1 a.1 b.1 (sym a.0.2 ∙ b.0.2) in
    omega (arith, e, f, ap length same)

-- a text has one list of words, and one of their offsets
pub wording_one : (n : ℕ) (p : Part) (text : List ℕ) (ws vs : List Word) (os qs : List ℕ) → Wording n p text ws os
    → Wording n p text vs qs → (ws ≡ vs) × (os ≡ qs)
wording_one n p text ws vs os qs (free t) b = free_one Programs t vs qs refl b
  where
    free_one : (q : Part) (t : List ℕ) (vs : List Word) (qs : List ℕ) → q ≡ Programs → Wording n q t vs qs
        → ([] ≡ vs) × ([] ≡ qs)
    free_one q t vs qs e (free u) = (refl, refl)
    free_one q t vs qs e (end r u g) = (refl, refl)
    free_one q t vs qs e (stuck r u o m g x b) = absurd (m e)
    free_one q t vs qs e (more r u rest x o xs os m h b i) = absurd (m e)
wording_one n p text ws vs os qs (end q t g) b = end_one q t vs qs g b
  where
    end_one : (q : Part) (t : List ℕ) (vs : List Word) (qs : List ℕ) → Gap Yacc t → Wording n q t vs qs
        → ([] ≡ vs) × ([] ≡ qs)
    end_one q t vs qs g (free u) = (refl, refl)
    end_one q t vs qs g (end r u h) = (refl, refl)
    end_one q t vs qs g (stuck r u o m h x b) = absurd (h g)
    end_one q t vs qs g (more r u rest x o xs os m h b i) = absurd (gap_takes r u x rest g h)
wording_one n p text ws vs os qs (stuck q t o m g none begins) b = stuck_one q t o vs qs m g none begins b
  where
    stuck_one : (q : Part) (t : List ℕ) (o : ℕ) (vs : List Word) (qs : List ℕ) → q ≢ Programs → (Gap Yacc t → ⊥)
        → ((x : Word) (s : List ℕ) → Takes q t x s → ⊥) → BeginsAt n t o → Wording n q t vs qs
        → (other ∷ [] ≡ vs) × (o ∷ [] ≡ qs)
    stuck_one q t o vs qs m g none begins (free u) = absurd (m refl)
    stuck_one q t o vs qs m g none begins (end r u h) = absurd (g h)
    stuck_one q t o vs qs m g none begins (stuck r u c k h x b) = (refl, ap (λ i. i ∷ []) (begins_one n u o c begins b))
    stuck_one q t o vs qs m g none begins (more r u rest x c xs os k h b i) = absurd (none x rest h)
wording_one n p text ws vs os qs (more q t rest x o xs cs m h begins i) b
    = more_one q t rest x o xs cs vs qs m h begins
    (λ ys ds j. wording_one n (part_behind q x) rest xs ys cs ds i j) b
  where
    more_one : (q : Part) (t rest : List ℕ) (x : Word) (o : ℕ) (xs : List Word) (cs : List ℕ) (vs : List Word)
        (qs : List ℕ) → q ≢ Programs → Takes q t x rest → BeginsAt n t o
        → ((ys : List Word) (ds : List ℕ) → Wording n (part_behind q x) rest ys ds → (xs ≡ ys) × (cs ≡ ds))
        → Wording n q t vs qs → (x ∷ xs ≡ vs) × (o ∷ cs ≡ qs)
    more_one q t rest x o xs cs vs qs m h begins one (free u) = absurd (m refl)
    more_one q t rest x o xs cs vs qs m h begins one (end r u g) = absurd (gap_takes q t x rest g h)
    more_one q t rest x o xs cs vs qs m h begins one (stuck r u c k g none b) = absurd (none x rest h)
    more_one q t rest x o xs cs vs qs m h begins one (more r u back y c ys ds k g b j) =
        let e = takes_one q t x y rest back h g in
        let both = one ys ds
        (subst (λ z. Wording n (part_behind q z) rest ys ds) (sym e.0)
        (subst (λ s. Wording n (part_behind q y) s ys ds) (sym e.1) j)) in
        (ap₂ ◌∷◌ e.0 both.0, ap₂ ◌∷◌ (begins_one n t o c begins b) both.1)

-- no word begins behind the end of the file
pub wording_within : (n : ℕ) (p : Part) (text : List ℕ) (ws : List Word) (os : List ℕ) → Wording n p text ws os
    → (o : ℕ) → Contains os o → o ≤ n
wording_within n p text ws os (free t) o there = Contains-none o there
wording_within n p text ws os (end q t g) o there = Contains-none o there
wording_within n p text ws os (stuck q t c m g none (s, a, e)) o there
    = omega (arith, e, Contains-one c o there)
wording_within n p text ws os (more q t rest x c xs cs m h (s, a, e) i) o there =
    elim (Contains-cons_cases c cs o there) [
      | inl same ↦ omega (arith, e, same)
      | inr later ↦ wording_within n (part_behind q x) rest xs cs i o later
    ]
