-- What is quoted is determined, byte by byte.
use Rattle.std.proofs.Common.{◌≡◌, ◌≢◌, ℕ, ◌<◌, List, [], ◌∷◌, length, drop, get_or, refl, sym, ap, ◌∙◌}
use Rattle.ly_base.specs.Escapes.{Escape}
use Rattle.ly_base.proofs.EscapeLemmas.{byte_at, escape_one}
use Rattle.ly_ere.specs.Elements.{Quoted, closed, byte, escape}
use Rattle.ly_ere.specs.Private.Front.{IsMore, IsQuotedByte}

-- what is behind a quote that ends a string
pub quote_ends : {t bs rest : List ℕ} → Quoted (34 ∷ t) bs rest → (bs ≡ []) × (rest ≡ t)
quote_ends (closed rest) = (refl, refl)
quote_ends (byte b t bs rest q s n k) = absurd (q refl)

escape_more : {t bs rest : List ℕ} → Quoted (92 ∷ t) bs rest → (b : ℕ) (more : List ℕ) → Escape t b more
    → IsMore b more bs rest
escape_more (byte c t bs rest q s n k) b more h = absurd (s refl)
escape_more (escape t left c bs rest g k) b more h = let one = escape_one t b c more left h g
    in (bs, ap (λ x. x ∷ bs) (sym one.0), rw one.1 k)

pub plain_more : {b : ℕ} {t bs rest : List ℕ} → Quoted (b ∷ t) bs rest → b ≢ 34 → b ≢ 92 → IsMore b t bs rest
plain_more (closed rest) p q = absurd (p refl)
plain_more (byte b t bs rest p q r k) s n = (bs, refl, k)
plain_more (escape t left c bs rest g k) p q = absurd (q refl)

-- an escape, and what is quoted behind it
pub quoted_escape : (t : List ℕ) (b n : ℕ) → 0 < length t → get_or t 0 0 ≡ 92 → Escape (drop 1 t) b (drop n t)
    → IsQuotedByte t b n
quoted_escape t b n l e h bs rest = let f : t ≡ 92 ∷ drop 1 t = byte_at t 0 92 l e in (
  λ q. escape_more (rw f at q) b (drop n t) h,
  λ m. rw (f, m.1) (escape (drop 1 t) (drop n t) b m.0 rest h m.2),
)

-- a byte, and what is quoted behind it
pub quoted_plain : (t : List ℕ) (b : ℕ) → 0 < length t → b ≡ get_or t 0 0 → b ≢ 34 → b ≢ 92 → b ≢ 10
    → IsQuotedByte t b 1
quoted_plain t b l e p q r bs rest = let f : t ≡ b ∷ drop 1 t = byte_at t 0 b l (sym e) in (
  λ k. plain_more (rw f at k) p q,
  λ m. rw (f, m.1) (byte b (drop 1 t) m.0 rest p q r m.2),
)

-- what is quoted is determined
pub quoted_one : {t bs cs rest left : List ℕ} → Quoted t bs rest → Quoted t cs left → (bs ≡ cs) × (rest ≡ left)
quoted_one (closed rest) k = let e = quote_ends k in (sym e.0, sym e.1)
quoted_one (byte b t bs rest p q r h) k = let m = plain_more k p q in let e = quoted_one h m.2
    in (ap (λ x. b ∷ x) e.0 ∙ sym m.1, e.1)
quoted_one (escape t more b bs rest g h) k = let m = escape_more k b more g in let e = quoted_one h m.2
    in (ap (λ x. b ∷ x) e.0 ∙ sym m.1, e.1)
