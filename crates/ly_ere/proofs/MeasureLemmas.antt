-- The lengths of a node's expression, by those of its parts.
use Rattle.std.proofs.Common.{◌≡◌, ℕ, zero, suc, ◌+◌, ◌*◌, ◌<◌, ◌≤◌, ◌⊎◌, List, [], ◌∷◌, ◌++◌, length, Option, None}
use Rattle.std.proofs.Common.{refl, sym, ap}
use Rattle.std.proofs.Common.{subst, ◌∙◌, arith, inl, inr, length-append}
use Rattle.std.specs.Prelude.{max, min}
use Rattle.std.proofs.Math.ListN.{get_or-append}
use Rattle.std.proofs.Math.Seq.{get_or-append_seam}
use Rattle.std.proofs.lemmas.Bool.{cases_lt}
use Rattle.ly_ere.specs.Arena.{part_of}
use Rattle.ly_ere.specs.Expression.{Expression, IsAtMost, Matches, concat, either, empty, name, optional, plus, repeat}
use Rattle.ly_ere.specs.Expression.{Concatenated, star}
use Rattle.ly_ere.specs.Lengths.{AreLengths, AreNamedLengths, IsSound, far, lengths_at}
use Rattle.ly_ere.specs.Private.Lengths.{AreNear, IsNear, IsRepeated, Measures}
use Rattle.ly_ere.specs.Weight.{weight_of}
use Rattle.ly_ere.specs.declared.length.Lengths.{Lengths}
use Rattle.ly_ere.proofs.LengthLemmas.{either_lengths, lengths_same, optional_lengths, repeated_lengths}
use Rattle.ly_ere.proofs.LengthLemmas.{repeated_light, then_lengths}

-- lengths with the same least and greatest
lengths_as : (w : ℕ) (L : List ℕ → Type 0) (l r : Lengths) → l.least ≡ r.least → l.most ≡ r.most → AreLengths w L l
    → AreLengths w L r
lengths_as w L l r e f a = record {
  light = omega (arith, e, a.light);
  short = a.short;
  short_in = a.short_in;
  short_is = a.short_is ∙ e;
  long = a.long;
  long_in = a.long_in;
  long_is = a.long_is ∙ f;
  not_below = λ u h. omega (arith, e, a.not_below u h);
  not_above = λ u h. omega (arith, f, a.not_above u h);
}

-- lengths under another cap than `far` are what they are
near_as : (w : ℕ) (L : List ℕ → Type 0) (l r : Lengths) → r.least ≡ min l.least far → r.most ≡ min l.most far
    → AreLengths w L l → AreLengths w L r
near_as w L l r e f a = lengths_as w L l r (omega (arith, e, a.short_is)) (omega (arith, f, a.long_is)) a

module _ (names done : List Expression) (ls : List Lengths) (m : Measures names done ls)
    (count : length done ≡ length ls) where
  part : (a : ℕ) → a < length ls → IsSound (length names) (part_of done a)
      → AreLengths (weight_of names (part_of done a)) (Matches names (part_of done a)) (lengths_at ls a)
  part a less sound = m a (omega (arith, less, count)) sound

  module _ (a b : ℕ) (fits : (a < length ls) × (b < length ls)) (r : Lengths) where
    pub concat_measured : IsSound (length names) (concat (part_of done a) (part_of done b))
        → r ≡ record {
          least = min ((lengths_at ls a).least + (lengths_at ls b).least) far;
          most = min ((lengths_at ls a).most + (lengths_at ls b).most) far;
        }
        → AreLengths (weight_of names (concat (part_of done a) (part_of done b)))
        (Matches names (concat (part_of done a) (part_of done b))) r
    concat_measured sound e = subst
        (AreLengths (weight_of names (concat (part_of done a) (part_of done b)))
        (Matches names (concat (part_of done a) (part_of done b)))) (sym e)
        (then_lengths far (weight_of names (part_of done a)) (weight_of names (part_of done b))
        (Matches names (part_of done a)) (Matches names (part_of done b)) (lengths_at ls a) (lengths_at ls b)
        (part a fits.0 sound.0) (part b fits.1 sound.1))

    pub either_measured : IsSound (length names) (either (part_of done a) (part_of done b))
        → r ≡ record {
          least = min (lengths_at ls a).least (lengths_at ls b).least;
          most = max (lengths_at ls a).most (lengths_at ls b).most;
        }
        → AreLengths (weight_of names (either (part_of done a) (part_of done b)))
        (Matches names (either (part_of done a) (part_of done b))) r
    either_measured sound e = subst
        (AreLengths (weight_of names (either (part_of done a) (part_of done b)))
        (Matches names (either (part_of done a) (part_of done b)))) (sym e)
        (either_lengths far (weight_of names (part_of done a)) (weight_of names (part_of done b))
        (Matches names (part_of done a)) (Matches names (part_of done b)) (lengths_at ls a) (lengths_at ls b)
        (part a fits.0 sound.0) (part b fits.1 sound.1))

  module _ (a : ℕ) (fits : a < length ls) (r : Lengths) where
    pub optional_measured : IsSound (length names) (optional (part_of done a))
        → r ≡ record { least = 0; most = (lengths_at ls a).most }
        → AreLengths (weight_of names (optional (part_of done a))) (Matches names (optional (part_of done a))) r
    optional_measured sound e = subst
        (AreLengths (weight_of names (optional (part_of done a))) (Matches names (optional (part_of done a)))) (sym e)
        (optional_lengths far (weight_of names (part_of done a)) (Matches names (part_of done a)) (lengths_at ls a)
        (part a fits sound))

    module _ (k : ℕ) (n : Option ℕ) (v : ℕ) (sound : IsSound (length names) (part_of done a)) (within : IsAtMost k n)
        (light : (lengths_at ls a).least ≤ weight_of names (part_of done a) → k * (lengths_at ls a).least ≤ v)
        (is : IsRepeated k n (lengths_at ls a) r) where
      measured : AreLengths v
          (λ x. (j : ℕ) × (k ≤ j) × IsAtMost j n × Concatenated (Matches names (part_of done a)) j x) r
      measured =
          let here = part a fits sound in
          lengths_as v _ (record { least = min (k * (lengths_at ls a).least) far; most = r.most }) r (sym is.least) refl
          (repeated_lengths far (weight_of names (part_of done a)) (Matches names (part_of done a))
          (lengths_at ls a) here
          k n r.most is.none is.bounded is.unbounded v within (light here.light))

    pub star_measured : IsSound (length names) (star (part_of done a)) → IsRepeated 0 None (lengths_at ls a) r
        → AreLengths (weight_of names (star (part_of done a))) (Matches names (star (part_of done a))) r
    star_measured sound is =
        let w = weight_of names (part_of done a) in
        lengths_same far w w _ (Matches names (star (part_of done a))) r (omega arith) (λ u h. (h.0, h.3))
        (λ u h. (h.0, omega arith, tt, h.1))
        (measured 0 None w sound tt (λ le. omega arith) is)

    pub plus_measured : IsSound (length names) (plus (part_of done a)) → IsRepeated 1 None (lengths_at ls a) r
        → AreLengths (weight_of names (plus (part_of done a))) (Matches names (plus (part_of done a))) r
    plus_measured sound is =
        let w = weight_of names (part_of done a) in
        lengths_same far w w _ (Matches names (plus (part_of done a))) r (omega arith) (λ u h. (h.0, h.1, h.3))
        (λ u h. (h.0, h.1, tt, h.2))
        (measured 1 None w sound tt (λ le. omega (arith, le)) is)

    pub repeat_measured : (k : ℕ) (n : Option ℕ) → IsSound (length names) (repeat k n (part_of done a))
        → IsRepeated k n (lengths_at ls a) r
        → AreLengths (weight_of names (repeat k n (part_of done a))) (Matches names (repeat k n (part_of done a))) r
    repeat_measured k n sound is = measured k n (weight_of names (repeat k n (part_of done a))) sound.1 sound.0
        (λ le. repeated_light k n (lengths_at ls a).least (weight_of names (part_of done a)) sound.0 le) is

-- a definition
pub name_measured : (names : List Expression) (named : List Lengths) (x : ℕ) (r : Lengths)
    → AreNamedLengths names named → x < length names → r.least ≡ min (lengths_at named x).least far
    → r.most ≡ min (lengths_at named x).most far → AreLengths (weight_of names (name x)) (Matches names (name x)) r
name_measured names named x r a less e f
    = near_as (weight_of names (name x)) (Matches names (name x)) (lengths_at named x) r e f (a.measured x less)

-- one more expression
pub measures_push : (names done : List Expression) (ls : List Lengths) (e : Expression) (l : Lengths)
    → Measures names done ls → length done ≡ length ls
    → (IsSound (length names) e → AreLengths (weight_of names e) (Matches names e) l)
    → Measures names (done ++ e ∷ []) (ls ++ l ∷ [])
measures_push names done ls e l m count last k less sound = by (cases_lt k (length done))
  where
    none : Lengths
    none = record { least = 0; most = 0 }

    there : (x : Expression) (y : Lengths) → part_of (done ++ e ∷ []) k ≡ x → lengths_at (ls ++ l ∷ []) k ≡ y
        → (IsSound (length names) x → AreLengths (weight_of names x) (Matches names x) y)
        → AreLengths (weight_of names (part_of (done ++ e ∷ []) k)) (Matches names (part_of (done ++ e ∷ []) k))
        (lengths_at (ls ++ l ∷ []) k)
    there x y p q h = rw (p, q) (h (subst (IsSound (length names)) p sound))

    by : (k < length done) ⊎ (length done ≤ k)
        → AreLengths (weight_of names (part_of (done ++ e ∷ []) k)) (Matches names (part_of (done ++ e ∷ []) k))
        (lengths_at (ls ++ l ∷ []) k)
    by (inl before) = there (part_of done k) (lengths_at ls k) (get_or-append done (e ∷ []) empty k before)
        (get_or-append ls (l ∷ []) none k (omega (arith, count, before))) (m k before)
    by (inr after) =
        let here : k ≡ length done = omega (arith, after, less, length-append done (e ∷ [])) in
        there e l (ap (λ j. part_of (done ++ e ∷ []) j) here ∙ get_or-append_seam done e [] empty)
        (ap (λ j. lengths_at (ls ++ l ∷ []) j) (here ∙ count) ∙ get_or-append_seam ls l [] none) last

pub near_push : (ls : List Lengths) (l : Lengths) → AreNear ls → IsNear l → AreNear (ls ++ l ∷ [])
near_push [] l h n zero = n
near_push [] l h n (suc k) = (omega arith, omega arith)
near_push (m ∷ ls) l h n zero = h 0
near_push (m ∷ ls) l h n (suc k) = near_push ls l (λ j. h (suc j)) n k
