-- A string's bytes, one after another, as they are read.
use Rattle.std.proofs.Common.{drop-drop, ◌≡◌, ℕ, ◌+◌, ◌≤◌, List, [], ◌∷◌, ◌++◌, length, drop, refl, append_assoc}
use Rattle.std.proofs.Common.{length-append, arith, Some}
use Rattle.std.specs.Prelude.{slice_get}
use Rattle.std.proofs.lemmas.List.{append-nil}
use Rattle.ly_ere.specs.Private.Front.{BeginsNo}
use Rattle.ly_ere.specs.Expression.{Expression, set, empty, concat}
use Rattle.ly_ere.specs.Grammar.{in_order, with_bytes}
use Rattle.ly_ere.specs.Elements.{Quoted, closed}
use Rattle.ly_ere.specs.Private.Front.{IsQuotedByte}

-- Some bytes were read: what is quoted from here on follows them.
pub record IsSoFar (t : List ℕ) (at : ℕ) (so_far : List ℕ) : Type 0 where
  pub forth : (bs rest : List ℕ) → Quoted (drop at t) bs rest → Quoted t (so_far ++ bs) rest
  pub back : (bs rest : List ℕ) → Quoted t bs rest → (cs : List ℕ) × Quoted (drop at t) cs rest

pub none_yet : (t : List ℕ) → IsSoFar t 0 []
none_yet t = record { forth = λ bs rest q. q; back = λ bs rest q. (bs, q) }

-- one more byte
pub one_more : {t : List ℕ} {at : ℕ} {so_far : List ℕ} → IsSoFar t at so_far → (b n : ℕ) → IsQuotedByte (drop at t) b n
    → IsSoFar t (at + n) (so_far ++ b ∷ [])
one_more {t} {at} s b n h = record {
  forth = λ bs rest q. let k : Quoted (drop n (drop at t)) bs rest = rw (drop-drop n at t) q
      in rw append_assoc (s.forth (b ∷ bs) rest ((h (b ∷ bs) rest).1 (bs, refl, k)));
  back = λ bs rest q. let m = s.back bs rest q in let k = (h m.0 rest).0 m.1 in (k.0, rw (drop-drop n at t) at k.2);
}

quote_here : (t : List ℕ) → slice_get t 0 ≡ Some 34 → Quoted t [] (drop 1 t)
quote_here [] e = absurd (cc)
quote_here (b ∷ t) e = let same : b ≡ 34 = cc in rw same (closed t)

-- the closing quote
pub quoted_so_far : {t : List ℕ} {at : ℕ} {so_far : List ℕ} → IsSoFar t at so_far → slice_get (drop at t) 0 ≡ Some 34
    → Quoted t so_far (drop (at + 1) t)
quoted_so_far {t} {at} s q
    = rw (append-nil, drop-drop 1 at t) at (s.forth [] (drop 1 (drop at t)) (quote_here (drop at t) q))

-- nothing is quoted from here on, and so nothing at all
pub none_quoted : {t : List ℕ} {at : ℕ} {so_far : List ℕ} → IsSoFar t at so_far → BeginsNo Quoted (drop at t)
    → BeginsNo Quoted t
none_quoted s none bs rest q = let m = s.back bs rest q in none m.0 rest m.1

-- Some bytes were read, which are the expression.
pub record IsString (t : List ℕ) (at : ℕ) (e : Expression) : Type 0 where
  pub so_far : List ℕ
  pub some : 1 ≤ length so_far
  pub is : e ≡ in_order so_far
  pub read : IsSoFar t at so_far

with_push : (e : Expression) (bs : List ℕ) (b : ℕ)
    → with_bytes e (bs ++ b ∷ []) ≡ concat (with_bytes e bs) (set (b ∷ []))
with_push e [] b = refl
with_push e (c ∷ bs) b = with_push (concat e (set (c ∷ []))) bs b

order_push : (bs : List ℕ) (b : ℕ) → 1 ≤ length bs → in_order (bs ++ b ∷ []) ≡ concat (in_order bs) (set (b ∷ []))
order_push [] b l = absurd (omega arith)
order_push (c ∷ bs) b l = with_push (set (c ∷ [])) bs b

pub start_string : (t : List ℕ) (b n : ℕ) (e : Expression) → e ≡ set (b ∷ []) → IsQuotedByte t b n → IsString t n e
start_string t b n e is h = let first : 0 + n ≡ n = omega arith
    in record { so_far = b ∷ []; some = omega arith; is = is; read = rw first at (one_more (none_yet t) b n h) }

pub next_string : {t : List ℕ} {at : ℕ} {e : Expression} → IsString t at e → (b n : ℕ) (f : Expression)
    → f ≡ concat e (set (b ∷ [])) → IsQuotedByte (drop at t) b n → IsString t (at + n) f
next_string s b n f is h = record {
  so_far = s.so_far ++ b ∷ [];
  some = omega (arith, length-append s.so_far (b ∷ []));
  is = rw (is, order_push s.so_far b s.some, ← s.is) refl;
  read = one_more s.read b n h;
}

pub end_string : {t : List ℕ} {at : ℕ} {e : Expression} → IsString t at e → slice_get (drop at t) 0 ≡ Some 34
    → (bs : List ℕ) × (rest : List ℕ) × Quoted t bs rest × (e ≡ in_order bs)
end_string {t} {at} s q = (s.so_far, drop (at + 1) t, quoted_so_far s.read q, s.is)

pub empty_string : (t : List ℕ) → slice_get t 0 ≡ Some 34 → (bs : List ℕ) × (rest : List ℕ) × Quoted t bs rest
    × (empty ≡ in_order bs)
empty_string t q = ([], drop 1 t, quote_here t q, refl)
