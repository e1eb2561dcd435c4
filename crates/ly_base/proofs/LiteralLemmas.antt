-- A literal is determined by its text.
use Rattle.std.proofs.Common.{drop-drop, ◌≡◌, ◌≢◌, ◌↔◌, ℕ, ◌+◌, ◌<◌, List, ◌∷◌, length, drop, get_or, refl, sym, ap}
use Rattle.std.proofs.Common.{◌∙◌, subst, arith, length-append}
use Rattle.ly_base.specs.Escapes.{Escape, octal, hexadecimal, bare_x, letter}
use Rattle.ly_base.specs.Literals.{Inside, bare, escaped, line, Literal}
use Rattle.ly_base.proofs.EscapeLemmas.{byte_at, escape_one, newline_none}

inside_bare : {t rest : List ℕ} {b c : ℕ} → Inside (b ∷ t) c rest → b ≢ 92 → (c ≡ b) × (rest ≡ t)
inside_bare (bare b rest p q) n = (refl, refl)
inside_bare (escaped t rest c h) n = absurd (n refl)
inside_bare (line rest) n = absurd (n refl)

inside_escape : {t rest : List ℕ} {c : ℕ} → Inside (92 ∷ t) c rest → ((s : List ℕ) → t ≢ 10 ∷ s) → Escape t c rest
inside_escape (bare b rest p q) n = absurd (p refl)
inside_escape (escaped t rest c h) n = h
inside_escape (line rest) n = absurd (n rest refl)

inside_line : {t rest : List ℕ} {c : ℕ} → Inside (92 ∷ 10 ∷ t) c rest → (c ≡ 10) × (rest ≡ t)
inside_line (bare b rest p q) = absurd (p refl)
inside_line (escaped t rest c h) = absurd (newline_none _ _ _ h)
inside_line (line rest) = (refl, refl)

pub line_inside : (t u : List ℕ) → t ≡ 92 ∷ 10 ∷ u → (c : ℕ) (rest : List ℕ) → Inside t c rest ↔ ((c ≡ 10) × (rest ≡ u))
line_inside t u f c rest = (λ i. inside_line (rw f at i), λ k. rw (f, k.0, k.1) (line u))

module _ (t : List ℕ) (some : 0 < length t) where
  pub escape_inside : (b n : ℕ) → get_or t 0 0 ≡ 92 → Escape (drop 1 t) b (drop n t) → (c : ℕ) (rest : List ℕ)
      → Inside t c rest ↔ ((c ≡ b) × (rest ≡ drop n t))
  escape_inside b n e h c rest = let f : t ≡ 92 ∷ drop 1 t = byte_at t 0 92 some e in (
    λ i. escape_one (drop 1 t) c b rest (drop n t)
        (inside_escape (rw f at i) (λ s l. newline_none s b (drop n t) (subst (λ u. Escape u b (drop n t)) l h))) h,
    λ k. rw (f, k.0, k.1) (escaped (drop 1 t) (drop n t) b h),
  )

  pub no_escape_inside : get_or t 0 0 ≡ 92 → ((s : List ℕ) → t ≢ 92 ∷ 10 ∷ s)
      → ((b : ℕ) (rest : List ℕ) → Escape (drop 1 t) b rest → ⊥) → (c : ℕ) (rest : List ℕ) → Inside t c rest → ⊥
  no_escape_inside e other none c rest i = let f : t ≡ 92 ∷ drop 1 t = byte_at t 0 92 some e
      in none c rest (inside_escape (rw f at i) (λ s l. other s (f ∙ ap (λ u. 92 ∷ u) l)))

  pub bare_inside : (b : ℕ) → get_or t 0 0 ≡ b → b ≢ 92 → b ≢ 39 → (c : ℕ) (rest : List ℕ) → Inside t c rest
      ↔ ((c ≡ b) × (rest ≡ drop 1 t))
  bare_inside b e p q c rest = let f : t ≡ b ∷ drop 1 t = byte_at t 0 b some e in (
    λ i. inside_bare (rw f at i) p,
    λ k. rw (f, k.0, k.1) (bare b (drop 1 t) p q),
  )

two : (n : ℕ) → 1 + (n + 1) ≡ n + 2
two n = omega arith

-- a byte, and a quote behind it
module _ (t : List ℕ) (b n : ℕ) (some : 0 < length t) (quote : 39 ≡ get_or t 0 0) (inside : (c : ℕ) (rest : List ℕ)
    → Inside (drop 1 t) c rest ↔ ((c ≡ b) × (rest ≡ drop n (drop 1 t)))) where
  pub literal_ok : n < length (drop 1 t) → get_or (drop 1 t) n 0 ≡ 39 → b ≢ 0 → Literal t b (drop (n + 2) t)
  literal_ok l e ne
      = (
        drop 1 t,
        byte_at t 0 39 some (sym quote),
        (inside b (39 ∷ drop (n + 2) t)).1 (
          refl,
          sym (byte_at (drop 1 t) n 39 l e
              ∙ ap (λ u. 39 ∷ u) (drop-drop (n + 1) 1 t ∙ ap (λ k. drop k t) (two n))),
        ),
        ne,
      )

inside_at : (t u : List ℕ) (b c : ℕ) (r s : List ℕ) → t ≡ u → Inside t b r → Inside u c s → (b ≡ c) × (r ≡ s)
inside_at t u b c r s e (bare x rest h k) (bare y more i j) = (cc, cc)
inside_at t u b c r s e (bare x rest h k) (escaped v more y f) = absurd (h (cc))
inside_at t u b c r s e (bare x rest h k) (line more) = absurd (h (cc))
inside_at t u b c r s e (escaped v rest x f) (bare y more i j) = absurd (i (cc))
inside_at t u b c r s e (escaped v rest x f) (escaped w more y g) = let same : w ≡ v = cc
    in escape_one v x y rest more f (subst (λ i. Escape i y more) same g)
inside_at t u b c r s e (escaped v rest x f) (line more) = let newline : v ≡ 10 ∷ more = cc
    in absurd (newline_none more x rest (subst (λ i. Escape i x rest) newline f))
inside_at t u b c r s e (line rest) (bare y more i j) = absurd (i (cc))
inside_at t u b c r s e (line rest) (escaped w more y g) = let newline : w ≡ 10 ∷ rest = cc
    in absurd (newline_none rest y more (subst (λ i. Escape i y more) newline g))
inside_at t u b c r s e (line rest) (line more) = (refl, cc)

-- a literal is determined, and so is the rest
pub literal_one : (t : List ℕ) (b c : ℕ) (r s : List ℕ) → Literal t b r → Literal t c s → (b ≡ c) × (r ≡ s)
literal_one t b c r s l m =
    let behind : 39 ∷ l.0 ≡ 39 ∷ m.0 = sym l.1 ∙ m.1 in
    let e = inside_at l.0 m.0 b c (39 ∷ r) (39 ∷ s) (cc) l.2 m.2 in
    (e.0, cc e.1)

escape_shorter : (t rest : List ℕ) (b : ℕ) → Escape t b rest → length rest < length t
escape_shorter t rest b (octal ds r a some few stops small) = omega (arith, length-append ds r)
escape_shorter t rest b (hexadecimal ds r a some stops small) = omega (arith, length-append ds r)
escape_shorter t rest b (bare_x r stops) = omega arith
escape_shorter t rest b (letter c r x y z) = omega arith

inside_shorter : (t rest : List ℕ) (b : ℕ) → Inside t b rest → length rest < length t
inside_shorter t rest b (bare c r x y) = omega arith
inside_shorter t rest b (escaped u r c h) = omega (arith, escape_shorter u r c h)
inside_shorter t rest b (line r) = omega arith

-- a literal has bytes
pub literal_shorter : (t rest : List ℕ) (b : ℕ) → Literal t b rest → length rest < length t
literal_shorter t rest b h = omega (arith, ap length h.1, inside_shorter h.0 (39 ∷ rest) b h.2)
