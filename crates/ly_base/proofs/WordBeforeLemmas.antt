-- The word at the front of a text is determined.
use Rattle.std.proofs.Common.{◌≡◌, ◌≢◌, ◌∙◌, ℕ, ◌<◌, List, [], ◌∷◌, false, true, IsTrue, sym, ap, subst, arith, length}
use Rattle.std.proofs.Common.{length-append}
use Rattle.std.proofs.lemmas.Bool.{false≢true}
use Rattle.std.proofs.lemmas.Bool.Decides.{nat_tests}
use Rattle.std.proofs.lemmas.List.{append-nil}
use Rattle.ly_base.specs.Gap.{Gap, GapBefore, GapEnds}
use Rattle.ly_base.specs.Language.{is_space, starts_name}
use Rattle.ly_base.specs.Words.{WordBefore}
use Rattle.ly_base.specs.declared.language.Language.{Language}
use Rattle.ly_base.specs.declared.language.Language.TheVariants.{Lex, Yacc}
use Rattle.ly_base.proofs.GapLemmas.{gap_one}

-- no gap begins with the byte
pub record IsSolid (b : ℕ) : Type 0 where
  pub no_space : is_space Yacc b ≡ false
  pub no_slash : b ≢ 47

pub name_solid : (l : Language) (b : ℕ) → IsTrue (starts_name l b) → IsSolid b
name_solid Lex b h = record {
  no_space = grind (arith, nat_tests);
  no_slash = λ e. false≢true (sym (ap (starts_name Lex) e) ∙ h);
}
name_solid Yacc b h = record {
  no_space = grind (arith, nat_tests);
  no_slash = λ e. false≢true (sym (ap (starts_name Yacc) e) ∙ h);
}

no_space_in : (l : Language) (b : ℕ) → IsSolid b → IsTrue (is_space l b) → ⊥
no_space_in Lex b h s = no_blank b h.no_space s
  where
    no_blank : (b : ℕ) → is_space Yacc b ≡ false → IsTrue (is_space Lex b) → ⊥
    no_blank b h s = grind (arith, nat_tests)
no_space_in Yacc b h s = false≢true (sym h.no_space ∙ s)

nothing_stops : (l : Language) → GapEnds l []
nothing_stops l = record { no_space = λ b s h e. cc; no_comment = λ i s e. cc }

-- behind what is a gap alone there is nothing
pub nothing_behind : (l : Language) (text word : List ℕ) → GapBefore l text word → GapEnds l word → Gap l text
    → word ≡ []
nothing_behind l text word before stops g =
    gap_one l before.0 text word [] before.1 g stops (nothing_stops l) (sym before.2 ∙ sym (append-nil text))

-- A word begins with a byte that begins no gap. A text begins with one word at most, and has fewer bytes behind it.
pub record AreWords {W : Type 0} (Begins : List ℕ → W → List ℕ → Type 0) : Type 0 where
  pub solid : (text : List ℕ) (x : W) (rest : List ℕ) → Begins text x rest
      → (b : ℕ) × (s : List ℕ) × (text ≡ b ∷ s) × IsSolid b
  pub one : (text : List ℕ) (x y : W) (r s : List ℕ) → Begins text x r → Begins text y s → (x ≡ y) × (r ≡ s)
  pub shorter : (text : List ℕ) (x : W) (rest : List ℕ) → Begins text x rest → length rest < length text

module _ {W : Type 0} {Begins : List ℕ → W → List ℕ → Type 0} (words : AreWords Begins) (l : Language) where
  word_stops : (text : List ℕ) (x : W) (rest : List ℕ) → Begins text x rest → GapEnds l text
  word_stops text x rest h = at (words.solid text x rest h)
    where
      at : (b : ℕ) × (s : List ℕ) × (text ≡ b ∷ s) × IsSolid b → GapEnds l text
      at (b, s, e, solid) = record {
        no_space = λ c t c_space f. let same : c ≡ b = cc
            in no_space_in l b solid (subst (λ i. is_space l i ≡ true) same c_space);
        no_comment = λ i t f. solid.no_slash (cc);
      }

  -- the word that stands behind a gap
  pub word_at : (text word : List ℕ) (x : W) (rest : List ℕ) → GapBefore l text word → GapEnds l word
      → WordBefore Begins l text x rest → Begins word x rest
  word_at text word x rest before stops (u, other, begins)
      = subst (λ w. Begins w x rest)
      (gap_one l other.0 before.0 u word other.1 before.1 (word_stops u x rest begins) stops
      (sym other.2 ∙ before.2))
      begins

  -- the word at the front is determined, and so is the rest
  pub word_one : (text : List ℕ) (x y : W) (r s : List ℕ) → WordBefore Begins l text x r → WordBefore Begins l text y s
      → (x ≡ y) × (r ≡ s)
  word_one text x y r s (u, before, a) f = words.one u x y r s a (word_at text u y s before (word_stops u x r a) f)

  -- a gap has no word
  pub word_none : (text : List ℕ) (x : W) (rest : List ℕ) → Gap l text → WordBefore Begins l text x rest → ⊥
  word_none text x rest g f =
      at (words.solid [] x rest (word_at text [] x rest (text, g, sym (append-nil text)) (nothing_stops l) f))
    where
      at : (b : ℕ) × (s : List ℕ) × ([] ≡ b ∷ s) × IsSolid b → ⊥
      at (b, s, e, solid) = cc

  -- a word takes a byte at least
  pub word_shorter : (text : List ℕ) (x : W) (rest : List ℕ) → WordBefore Begins l text x rest
      → length rest < length text
  word_shorter text x rest (u, before, h)
      = omega (arith, ap length before.2, length-append before.0 u, words.shorter u x rest h)
