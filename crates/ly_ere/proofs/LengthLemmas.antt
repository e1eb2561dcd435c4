-- The least and the greatest length of strings that are made of others.
use Rattle.std.proofs.Common.{◌≡◌, ◌≢◌, ℕ, zero, suc, ◌+◌, ◌*◌, ◌<◌, ◌≤◌, ◌⊎◌, List, [], ◌∷◌, ◌++◌, length, Option}
use Rattle.std.proofs.Common.{Some, None}
use Rattle.std.proofs.Common.{refl, sym, ap, ◌∙◌, arith, inl, inr, length-append}
use Rattle.std.specs.Prelude.{Contains, max, min}
use Rattle.std.proofs.lemmas.Bool.{cases_lt}
use Rattle.ly_base.proofs.MemberLemmas.{Contains-first}
use Rattle.ly_ere.specs.Expression.{IsAtMost, Concatenated}
use Rattle.ly_ere.specs.Lengths.{AreLengthsUpTo}
use Rattle.ly_ere.specs.Weight.{repeated_weight}
use Rattle.ly_ere.specs.declared.length.Lengths.{Lengths}

-- a string so many times
abbrev pub copies : ℕ → List ℕ → List ℕ
copies zero s = []
copies (suc k) s = s ++ copies k s

copies_length : (k : ℕ) (s : List ℕ) → length (copies k s) ≡ k * length s
copies_length zero s = omega arith
copies_length (suc k) s = omega (arith, copies_length k s, length-append s (copies k s))

pub copies_joined : (L : List ℕ → Type 0) (k : ℕ) (s : List ℕ) → L s → Concatenated L k (copies k s)
copies_joined L zero s h = refl
copies_joined L (suc k) s h = (s, copies k s, refl, h, copies_joined L k s h)

times_mono : (m k l : ℕ) → m ≤ k → m * l ≤ k * l
times_mono zero k l le = omega arith
times_mono (suc m) zero l le = absurd (omega arith)
times_mono (suc m) (suc k) l le = omega (arith, times_mono m k l (omega arith))

times_one : (k l : ℕ) → 1 ≤ l → k ≤ k * l
times_one zero l le = omega arith
times_one (suc k) l le = omega (arith, times_one k l le)

times_mono_right : (k l r : ℕ) → l ≤ r → k * l ≤ k * r
times_mono_right zero l r le = omega arith
times_mono_right (suc k) l r le = omega (arith, times_mono_right k l r le)

module _ (c : ℕ) where
  min_times : (k s : ℕ) → min (k * s) c ≡ min (k * min s c) c
  min_times zero s = omega arith
  min_times (suc k) s = omega (arith, min_times k s)

  min_mono : (a b : ℕ) → a ≤ b → min a c ≤ min b c
  min_mono a b le = omega arith

  module _ (w v : ℕ) (L M : List ℕ → Type 0) (l : Lengths) where
    -- the same strings
    pub lengths_same : w ≤ v → ((u : List ℕ) → L u → M u) → ((u : List ℕ) → M u → L u) → AreLengthsUpTo c w L l
        → AreLengthsUpTo c v M l
    lengths_same le f g a = record {
      light = omega (arith, a.light, le);
      short = a.short;
      short_in = f a.short a.short_in;
      short_is = a.short_is;
      long = a.long;
      long_in = f a.long a.long_in;
      long_is = a.long_is;
      not_below = λ u h. a.not_below u (g u h);
      not_above = λ u h. a.not_above u (g u h);
    }

  pub set_lengths : (bytes : List ℕ) → bytes ≢ [] → 1 ≤ c
      → AreLengthsUpTo c 1 (λ w. (b : ℕ) × Contains bytes b × (w ≡ b ∷ [])) (record { least = 1; most = 1 })
  set_lengths [] some one = absurd (some refl)
  set_lengths (b ∷ bs) some one = record {
    light = omega arith;
    short = b ∷ [];
    short_in = (b, Contains-first b bs, refl);
    short_is = omega arith;
    long = b ∷ [];
    long_in = (b, Contains-first b bs, refl);
    long_is = omega arith;
    not_below = λ u h. omega (arith, ap length h.2);
    not_above = λ u h. omega (arith, ap length h.2);
  }

  pub empty_lengths : AreLengthsUpTo c 1 (λ w. w ≡ []) (record { least = 0; most = 0 })
  empty_lengths = record {
    light = omega arith;
    short = [];
    short_in = refl;
    short_is = omega arith;
    long = [];
    long_in = refl;
    long_is = omega arith;
    not_below = λ u h. omega arith;
    not_above = λ u h. omega (arith, ap length h);
  }

  module _ (v w : ℕ) (L M : List ℕ → Type 0) (l m : Lengths) (a : AreLengthsUpTo c v L l) (b : AreLengthsUpTo c w M m)
    where
      pub then_lengths : AreLengthsUpTo c (v + w) (λ x. (u : List ℕ) × (y : List ℕ) × (x ≡ u ++ y) × L u × M y)
          (record { least = min (l.least + m.least) c; most = min (l.most + m.most) c })
      then_lengths = record {
        light = omega (arith, a.light, b.light);
        short = a.short ++ b.short;
        short_in = (a.short, b.short, refl, a.short_in, b.short_in);
        short_is = omega (arith, length-append a.short b.short, a.short_is, b.short_is);
        long = a.long ++ b.long;
        long_in = (a.long, b.long, refl, a.long_in, b.long_in);
        long_is = omega (arith, length-append a.long b.long, a.long_is, b.long_is);
        not_below = λ u h.
            omega (arith, ap length h.2, length-append h.0 h.1, a.not_below h.0 h.3, b.not_below h.1 h.4);
        not_above = λ u h.
            omega (arith, ap length h.2, length-append h.0 h.1, a.not_above h.0 h.3, b.not_above h.1 h.4);
      }

      shorter : (s : List ℕ) × (L s ⊎ M s) × (min (length s) c ≡ min l.least m.least)
      shorter = elim (cases_lt l.least m.least) [
        | inl less ↦ (a.short, inl a.short_in, omega (arith, a.short_is, less))
        | inr more ↦ (b.short, inr b.short_in, omega (arith, b.short_is, more))
      ]

      longer : (s : List ℕ) × (L s ⊎ M s) × (min (length s) c ≡ max l.most m.most)
      longer = elim (cases_lt l.most m.most) [
        | inl less ↦ (b.long, inr b.long_in, omega (arith, b.long_is, less))
        | inr more ↦ (a.long, inl a.long_in, omega (arith, a.long_is, more))
      ]

      pub either_lengths : AreLengthsUpTo c (v + w) (λ x. L x ⊎ M x)
          (record { least = min l.least m.least; most = max l.most m.most })
      either_lengths = record {
        light = omega (arith, a.light);
        short = shorter.0;
        short_in = shorter.1;
        short_is = shorter.2;
        long = longer.0;
        long_in = longer.1;
        long_is = longer.2;
        not_below = λ u h. elim h [ inl k ↦ omega (arith, a.not_below u k) | inr k ↦ omega (arith, b.not_below u k) ];
        not_above = λ u h. elim h [ inl k ↦ omega (arith, a.not_above u k) | inr k ↦ omega (arith, b.not_above u k) ];
      }

  module _ (w : ℕ) (L : List ℕ → Type 0) (l : Lengths) (a : AreLengthsUpTo c w L l) where
    pub optional_lengths : AreLengthsUpTo c w (λ x. (x ≡ []) ⊎ L x) (record { least = 0; most = l.most })
    optional_lengths = record {
      light = omega arith;
      short = [];
      short_in = inl refl;
      short_is = omega arith;
      long = a.long;
      long_in = inr a.long_in;
      long_is = a.long_is;
      not_below = λ u h. omega arith;
      not_above = λ u h. elim h [ inl k ↦ omega (arith, ap length k) | inr k ↦ a.not_above u k ];
    }

    joined_least : (k : ℕ) (u : List ℕ) → Concatenated L k u → min (k * l.least) c ≤ min (length u) c
    joined_least zero u h = omega arith
    joined_least (suc k) u h = omega (
      arith,
      ap length h.2,
      length-append h.0 h.1,
      a.not_below h.0 h.3,
      joined_least k h.1 h.4,
    )

    joined_most : (k : ℕ) (u : List ℕ) → Concatenated L k u → min (length u) c ≤ min (k * l.most) c
    joined_most zero u h = omega (arith, ap length h)
    joined_most (suc k) u h = omega (
      arith,
      ap length h.2,
      length-append h.0 h.1,
      a.not_above h.0 h.3,
      joined_most k h.1 h.4,
    )

    none_long : (k : ℕ) → l.most ≡ 0 → (k * l.most ≡ 0)
    none_long zero e = omega arith
    none_long (suc k) e = omega (arith, e, none_long k e)

    module _ (m : ℕ) (n : Option ℕ) (most : ℕ) (none : l.most ≡ 0 → most ≡ 0)
        (bounded : (k : ℕ) → n ≡ Some k → most ≡ min (k * l.most) c)
        (unbounded : n ≡ None → 0 < l.most → most ≡ c) where
      abbrev pub Repeated : List ℕ → Type 0
      Repeated x = (k : ℕ) × (m ≤ k) × IsAtMost k n × Concatenated L k x

      -- a longest one
      longest : IsAtMost m n → (s : List ℕ) × Repeated s × (min (length s) c ≡ most)
      longest fits = by n refl fits
        where
          by : (o : Option ℕ) → n ≡ o → IsAtMost m o → (s : List ℕ) × Repeated s × (min (length s) c ≡ most)
          by (Some k) e le = (
            copies k a.long,
            (k, le, rw e (omega arith), copies_joined L k a.long a.long_in),
            ap (λ j. min j c) (copies_length k a.long) ∙ (min_times k (length a.long)
                ∙ (ap (λ j. min (k * j) c) a.long_is ∙ sym (bounded k e))),
          )
          by None e le = elim (cases_lt 0 l.most) [
            | inl less ↦ (
              copies (m + c) a.long,
              (m + c, omega arith, rw e tt, copies_joined L (m + c) a.long a.long_in),
              omega (
                arith,
                copies_length (m + c) a.long,
                times_one (m + c) (length a.long) (omega (arith, less, a.long_is)),
                unbounded e less,
              ),
            )
            | inr more ↦ (
              copies m a.long,
              (m, omega arith, rw e tt, copies_joined L m a.long a.long_in),
              omega (
                arith,
                joined_most m (copies m a.long) (copies_joined L m a.long a.long_in),
                none_long m (omega (arith, more)),
                none (omega (arith, more)),
              ),
            )
          ]

      not_longer : (u : List ℕ) → Repeated u → min (length u) c ≤ most
      not_longer u h = by n refl h.2
        where
          by : (o : Option ℕ) → n ≡ o → IsAtMost h.0 o → min (length u) c ≤ most
          by (Some k) e le = omega (
            arith,
            joined_most h.0 u h.3,
            min_mono (h.0 * l.most) (k * l.most) (times_mono h.0 k l.most le),
            bounded k e,
          )
          by None e le = elim (cases_lt 0 l.most) [
            | inl less ↦ omega (arith, unbounded e less)
            | inr more ↦ omega (
              arith,
              joined_most h.0 u h.3,
              none_long h.0 (omega (arith, more)),
              none (omega (arith, more)),
            )
          ]

      pub repeated_lengths : (v : ℕ) → IsAtMost m n → m * l.least ≤ v
          → AreLengthsUpTo c v Repeated (record { least = min (m * l.least) c; most = most })
      repeated_lengths v fits light = record {
        light = omega (arith, light);
        short = copies m a.short;
        short_in = (m, omega arith, fits, copies_joined L m a.short a.short_in);
        short_is = ap (λ j. min j c) (copies_length m a.short) ∙ (min_times m (length a.short)
            ∙ ap (λ j. min (m * j) c) a.short_is);
        long = (longest fits).0;
        long_in = (longest fits).1;
        long_is = (longest fits).2;
        not_below = λ u h. omega (
          arith,
          joined_least h.0 u h.3,
          min_mono (m * l.least) (h.0 * l.least) (times_mono m h.0 l.least h.1),
        );
        not_above = not_longer;
      }

-- a repetition weighs as much as its shortest string is long
pub repeated_light : (m : ℕ) (n : Option ℕ) (l w : ℕ) → IsAtMost m n → l ≤ w → m * l ≤ repeated_weight m n w
repeated_light m None l w fits le =
    omega (arith, times_mono_right m l w le, times_mono m (max m 1) w (omega arith))
repeated_light zero (Some zero) l w fits le = omega arith
repeated_light (suc m) (Some zero) l w fits le = absurd (omega (arith, fits))
repeated_light m (Some (suc n)) l w fits le = omega (arith, times_mono_right m l w le, times_mono m (suc n) w fits)
