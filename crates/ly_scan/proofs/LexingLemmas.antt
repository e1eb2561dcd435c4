-- Every text is taken apart by a scanner, and ends somehow.
use Rattle.std.proofs.Common.{◌≡◌, ◌∙◌, ◌<◌, ◌≤◌, ◌+◌, ◌-◌, ◌&&◌, ℕ, zero, suc, List, [], ◌∷◌, ◌++◌, Option, Some, None}
use Rattle.std.proofs.Common.{◌⊎◌, inl, inr, Bool, true, false, append_assoc, ap}
use Rattle.std.proofs.Common.{arith, drop, length, length-drop, refl, subst, sym, take}
use Rattle.std.specs.Prelude.{if◌then◌else◌, nat_le, nat_lt}
use Rattle.std.proofs.lemmas.Bool.Decides.{nat_tests}
use Rattle.ly_base.specs.Lexed.{LexedTo, Lexed, Place, place_after, token_if, tokens_from}
use Rattle.ly_base.specs.declared.cut.Cut.{Cut}
use Rattle.ly_base.specs.declared.cut.Cut.TheVariants.{Head, Tail, Whole}
use Rattle.ly_base.specs.declared.lexeme.End.{End}
use Rattle.ly_base.specs.declared.lexeme.End.TheVariants.{BadCut, Clean, Stuck}
use Rattle.ly_base.specs.declared.lexeme.Lexeme.{Lexeme}
use Rattle.ly_base.specs.declared.numbers.RuleNo.{RuleNo}
use Rattle.ly_scan.proofs.WalkLemmas.{best_more, best_stays}
use Rattle.ly_scan.specs.Cuts.{token_len}
use Rattle.ly_scan.specs.Lexer.{IsLexemeAt, ScanEndsAt, Scanner}
use Rattle.ly_scan.specs.Walk.{IsBest, Walk}

-- of the beginnings of a text one is the longest that has a rule, or none has one
best_of : (walk : Walk) (text : List ℕ) (n : ℕ) → (best : Option (ℕ × RuleNo)) × IsBest walk text n best
best_of walk text zero = (None, λ m s low high rule. absurd (omega arith))
best_of walk text (suc n) = subst (λ k. (best : Option (ℕ × RuleNo)) × IsBest walk text k best)
    (let e : n + 1 ≡ suc n = omega arith in e) (by_walk (walk (take (n + 1) text)) refl (best_of walk text n))
  where
    other : (o : Option (Option ℕ)) → walk (take (n + 1) text) ≡ o → ((s : ℕ) → o ≡ Some (Some s) → ⊥)
        → (m s : ℕ) → n < m → m ≤ n + 1 → walk (take m text) ≡ Some (Some s) → ⊥
    other o e never m s more within rule =
        let same : m ≡ n + 1 = omega arith in
        never s (sym e ∙ subst (λ k. walk (take k text) ≡ Some (Some s)) same rule)

    by_walk : (o : Option (Option ℕ)) → walk (take (n + 1) text) ≡ o
        → (best : Option (ℕ × RuleNo)) × IsBest walk text n best
        → (best : Option (ℕ × RuleNo)) × IsBest walk text (n + 1) best
    by_walk None e b = (b.0, best_stays walk text n (n + 1) b.0 (omega arith) (other None e (λ s no. cc)) b.1)
    by_walk (Some None) e b
        = (b.0, best_stays walk text n (n + 1) b.0 (omega arith) (other (Some None) e (λ s no. cc)) b.1)
    by_walk (Some (Some r)) e b = (Some (n + 1, record { 0 = r }), best_more walk text n r e)

-- what a cut leaves has a byte, and lies in the match
pub taken_within : (c : Cut) (n k : ℕ) → 1 ≤ n → token_len c n ≡ Some k → (1 ≤ k) × (k ≤ n)
taken_within Whole n k low e = let same : n ≡ k = cc in (omega (arith, low, same), omega (arith, same))
taken_within (Head len) n k low e = by_test (nat_lt 0 len && nat_le len n) refl e
  where
    by_test : (b : Bool) → (nat_lt 0 len && nat_le len n) ≡ b → (if b then Some len else None) ≡ Some k
        → (1 ≤ k) × (k ≤ n)
    by_test false t f = absurd cc
    by_test true t f =
        let same : len ≡ k = cc in (grind (arith, nat_tests, same, t), grind (arith, nat_tests, same, t))
taken_within (Tail len) n k low e = by_test (nat_lt len n) refl e
  where
    by_test : (b : Bool) → nat_lt len n ≡ b → (if b then Some (n - len) else None) ≡ Some k → (1 ≤ k) × (k ≤ n)
    by_test false t f = absurd cc
    by_test true t f =
        let same : n - len ≡ k = cc in (grind (arith, nat_tests, same, t), grind (arith, nat_tests, same, t))

-- A lexeme stands at a place, and a byte or more of it is its token.
record Stands (s : Scanner) (q : Place) : Type 0 where
  lexeme : Lexeme
  is_lexeme : IsLexemeAt s q lexeme
  goes_on : length (drop lexeme.taken q.rest) < length q.rest

-- at each place a lexeme stands, or a run ends there
stands_or_ends : (s : Scanner) (q : Place) → Stands s q ⊎ ((e : End) × ScanEndsAt s q e)
stands_or_ends s q = by_rest q.rest refl
  where
    by_cut : (n : ℕ) (r : RuleNo) → IsBest (s.walk q.condition q.line) q.rest (length q.rest) (Some (n, r))
        → (o : Option ℕ) → token_len (s.cut r.0) n ≡ o → Stands s q ⊎ ((e : End) × ScanEndsAt s q e)
    by_cut n r best None e = inr (BadCut q.at, (refl, (n, (r.0, best, e))))
    by_cut n r best (Some taken) e = inl (record {
      lexeme = record { rule = r; matched = n; taken = taken };
      is_lexeme = (best, e);
      goes_on = (let low = (taken_within (s.cut r.0) n taken best.some_byte e).0 in
          let some = best.some_byte in let within = best.within in
          omega (arith, length-drop taken q.rest, low, some, within));
    })

    by_best : (best : Option (ℕ × RuleNo)) → (q.rest ≡ [] → ⊥)
        → IsBest (s.walk q.condition q.line) q.rest (length q.rest) best → Stands s q ⊎ ((e : End) × ScanEndsAt s q e)
    by_best None some best = inr (Stuck q.at, (some, refl, best))
    by_best (Some x) some best = by_cut x.0 x.1 best (token_len (s.cut x.1.0) x.0) refl

    by_rest : (rest : List ℕ) → q.rest ≡ rest → Stands s q ⊎ ((e : End) × ScanEndsAt s q e)
    by_rest [] e = inr (Clean, e)
    by_rest (b ∷ bs) e =
        let best = best_of (s.walk q.condition q.line) q.rest (length q.rest) in
        by_best best.0 (λ none. (let same : b ∷ bs ≡ [] = sym e ∙ none in cc)) best.1

-- a text of no byte
pub no_bytes : (bytes : List ℕ) → length bytes ≤ 0 → bytes ≡ []
no_bytes [] h = refl
no_bytes (b ∷ bytes) h = absurd (omega arith)

-- from every place a text is some lexemes and an end
pub lexes : (s : Scanner) (next : ℕ → Option ℕ) (fuel : ℕ) (q : Place) → length q.rest ≤ fuel
    → (ts : List Lexeme) × (e : End) × Lexed (IsLexemeAt s) (ScanEndsAt s) next q ts e
lexes s next zero q within = ([], Clean, no_bytes q.rest within)
lexes s next (suc fuel) q within = elim (stands_or_ends s q) [
  | inl t ↦
      let on = lexes s next fuel (place_after next q t.lexeme) (let less = t.goes_on in omega (arith, less, within)) in
      (t.lexeme ∷ on.0, on.1, (t.is_lexeme, on.2))
  | inr e ↦ ([], e.0, e.1)
]

-- the tokens of a beginning, and those behind it
pub tokens_on : {T : Type 0} (naming : ℕ → List ℕ → Option T) (Is : Place → Lexeme → Type 0) (next : ℕ → Option ℕ)
    (p q : Place) (ts us : List Lexeme) → LexedTo Is next p ts q
    → tokens_from naming p.at p.rest (ts ++ us)
    ≡ tokens_from naming p.at p.rest ts ++ tokens_from naming q.at q.rest us
tokens_on naming Is next p q [] us h = ap (λ (x : Place). tokens_from naming x.at x.rest us) (sym h)
tokens_on naming Is next p q (t ∷ ts) us h =
    ap (λ z. token_if (naming t.rule.0 (take t.taken p.rest)) p.at (take t.taken p.rest) ++ z)
    (tokens_on naming Is next (place_after next p t) q ts us h.1) ∙ sym (append_assoc
    (token_if (naming t.rule.0 (take t.taken p.rest)) p.at (take t.taken p.rest))
    (tokens_from naming (p.at + t.taken) (drop t.taken p.rest) ts)
    (tokens_from naming q.at q.rest us))
