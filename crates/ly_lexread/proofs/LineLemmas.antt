-- A text's first line and what stands behind it.
use Rattle.std.proofs.Common.{◌≡◌, ℕ, ◌<◌, List, [], ◌∷◌, Bool, false, sym, ap, ◌∙◌}
use Rattle.std.proofs.Common.{subst, length, take, drop, arith, eqb, take-append-drop}
use Rattle.std.specs.List.{position_or_len}
use Rattle.std.proofs.lemmas.Bool.{false≢true}
use Rattle.ly_base.proofs.NameLemmas.{run, runs_one}
use Rattle.ly_lexread.specs.Lines.{BeginsWith, BlockEnds, LineBefore, LineOf, in_line, last, more}

-- the bytes before the first newline are a line
pub line_at : (text : List ℕ) (n : ℕ) → n ≡ position_or_len (λ b. eqb b 10) text → LineOf text (take n text)
    (drop n text)
line_at text n e =
    let r = run in_line text in
    rw e (r.these, r.ends, sym (take-append-drop (position_or_len (λ b. eqb b 10) text) text))

pub line_one : (text l m e f : List ℕ) → LineOf text l e → LineOf text m f → (l ≡ m) × (e ≡ f)
line_one text l m e f a b = runs_one in_line l m e f a.0 b.0 a.1 b.1 (sym a.2 ∙ b.2)

pub line_before_one : (text l m r s : List ℕ) → LineBefore text l r → LineBefore text m s → (l ≡ m) × (r ≡ s)
line_before_one text l m r s a b = let e = line_one text l m a.1 b.1 a.2 b.2
    in (e.0, a.3 ∙ ap (drop 1) e.1 ∙ sym b.3)

pub some_byte : (t : Bool) (xs : List ℕ) → t ≡ eqb (length xs) 0 → t ≡ false → 0 < length xs
some_byte t [] e f = absurd (false≢true (sym f ∙ e))
some_byte t (x ∷ xs) e f = omega arith

-- a block that ends: with the line in front, or behind it
pub block_here : (text line behind rest : List ℕ) → LineBefore text line behind → BeginsWith line (37 ∷ 125 ∷ [])
    → BlockEnds text rest → rest ≡ behind
block_here text line behind rest b w (last t l r c v) = (line_before_one text l line r behind c b).1
block_here text line behind rest b w (more t l h r c v d)
    = absurd (v (subst (λ i. BeginsWith i (37 ∷ 125 ∷ [])) (sym (line_before_one text l line h behind c b).0) w))

pub block_behind : (text line behind rest : List ℕ) → LineBefore text line behind → (BeginsWith line (37 ∷ 125 ∷ [])
    → ⊥)
    → BlockEnds text rest → BlockEnds behind rest
block_behind text line behind rest b w (last t l r c v)
    = absurd (w (subst (λ i. BeginsWith i (37 ∷ 125 ∷ [])) (line_before_one text l line r behind c b).0 v))
block_behind text line behind rest b w (more t l h r c v d)
    = subst (λ i. BlockEnds i r) (line_before_one text l line h behind c b).1 d

pub block_over : (text rest : List ℕ) → text ≡ [] → BlockEnds text rest → ⊥
block_over text rest e (last t l r c v) = c.0 e
block_over text rest e (more t l h r c v d) = c.0 e

pub block_one : (text r s : List ℕ) → BlockEnds text r → BlockEnds text s → r ≡ s
block_one text r s (last t l q c v) h = sym (block_here text l q s c v h)
block_one text r s (more t l b q c v d) h = block_one b q s d (block_behind text l b s c v h)

pub parted : (text line end : List ℕ) (n : ℕ) → n ≡ position_or_len (λ b. eqb b 10) text → line ≡ take n text
    → end ≡ drop n text → LineOf text line end
parted text line end n e f g = rw (f, g) (line_at text n e)
