-- What a scanner that agrees with the rules takes is the winner, and its run is the lexing.
use Rattle.std.proofs.lemmas.Bool.{cases_lt}
use Rattle.std.proofs.Common.{inl, inr, ◌≡◌, ◌∙◌, ℕ, ◌+◌, ◌-◌, ◌<◌, ◌≤◌, List, [], ◌∷◌, ◌++◌, length, take, drop}
use Rattle.std.proofs.Common.{Option, Some, None, refl, sym, ap, subst, arith, rules, length-append, length-take}
use Rattle.std.specs.Prelude.{nat_lt, nat_le, ◌&&◌, if◌then◌else◌, IsSome}
use Rattle.std.proofs.Math.Seq.{take-add, take-append_seam}
use Rattle.std.proofs.lemmas.List.{append_cancel_left, take-take}
use Rattle.std.proofs.lemmas.Bool.Decides.{nat_tests}
use Rattle.ly_base.specs.declared.cut.Cut.{Cut}
use Rattle.ly_base.specs.declared.cut.Cut.TheVariants.{Whole, Head, Tail}
use Rattle.ly_ere.specs.Expression.{Expression, Matches}
use Rattle.ly_ere.specs.declared.pattern.Rule.{Rule}
use Rattle.ly_ere.specs.Winner.{InTail, IsString, CutHolds, FitsPattern, Candidate, Winner, HasNoWinner}
use Rattle.ly_scan.specs.Cuts.{token_len}
use Rattle.ly_scan.specs.Lexer.{Scanner, IsLexemeAt, IsLongestAt, ScanEndsAt}
use Rattle.ly_scan.specs.Walk.{HasNone}
use Rattle.ly_base.specs.Lexed.{Place, Lexed}
use Rattle.ly_base.specs.declared.lexeme.End.{End}
use Rattle.ly_base.specs.declared.lexeme.End.TheVariants.{Clean, Stuck, BadCut}
use Rattle.ly_base.specs.declared.lexeme.Lexeme.{Lexeme}
use Rattle.ly_base.proofs.LexedLemmas.{lexed_as}
use Rattle.ly_lexread.specs.Lexing.{EndsAt, IsWinnerAt, Lexing}
use Rattle.ly_tokens.specs.Agreement.{Agrees}

-- a head's length within the match is what its cut leaves
head_cut : (k n : ℕ) → 1 ≤ k → k ≤ n → (if nat_lt 0 k && nat_le k n then Some k else None) ≡ Some k
head_cut k n one le = grind (arith, nat_tests)

tail_cut : (k n : ℕ) → k < n → (if nat_lt k n then Some (n - k) else None) ≡ Some (n - k)
tail_cut k n less = grind (arith, nat_tests)

not_empty : (u : List ℕ) → (u ≡ [] → ⊥) → 1 ≤ length u
not_empty [] h = absurd (h refl)
not_empty (b ∷ u) h = search (rules, arith)

-- what a true cut leaves of a match is its head
cut_gives : (names : List Expression) (head : Expression) (tail : Option Expression) (cut : Cut) (w u v : List ℕ)
    → CutHolds names head tail cut
    → w ≡ u ++ v → 1 ≤ length w → Matches names head u → InTail names tail v → (IsSome tail → Matches names head [] → ⊥)
    → (token_len cut (length w) ≡ Some (length u)) × (1 ≤ length u)
cut_gives names head None Whole w u v c e one hu hv some =
    let whole : length w ≡ length u = omega (arith, ap length e, length-append u v, ap length hv)
    in (ap Some whole, omega arith)
cut_gives names head None (Head k) w u v c e one hu hv some = absurd c
cut_gives names head None (Tail k) w u v c e one hu hv some = absurd c
cut_gives names head (Some t) Whole w u v c e one hu hv some = absurd c
cut_gives names head (Some t) (Head k) w u v c e one hu hv some =
    let byte : 1 ≤ length u = not_empty u (λ z. some (search rules) (subst (Matches names head) z hu)) in
    let same : length u ≡ k = c u hu in
    let total : length w ≡ length u + length v = ap length e ∙ length-append u v in
    (head_cut k (length w) (omega arith) (omega arith) ∙ ap Some (sym same), byte)
cut_gives names head (Some t) (Tail k) w u v c e one hu hv some =
    let byte : 1 ≤ length u = not_empty u (λ z. some (search rules) (subst (Matches names head) z hu)) in
    let same : length v ≡ k = c v hv in
    let total : length w ≡ length u + length v = ap length e ∙ length-append u v in
    let left : length w - k ≡ length u = omega arith in
    (tail_cut k (length w) (omega arith) ∙ ap Some left, byte)

-- the parts of the front
parts_of : (rest u v : List ℕ) (n : ℕ) → n ≤ length rest → take n rest ≡ u ++ v → (take (length u) rest ≡ u)
    × (take (n - length u) (drop (length u) rest) ≡ v)
parts_of rest u v n within e =
    let long : length u + length v ≡ n = omega (arith, ap length e, length-append u v, length-take n rest) in
    let first : take (length u) rest ≡ u = sym (take-take (length u) n rest (omega arith)) ∙ ap (take (length u)) e
    ∙ take-append_seam u v in (
      first,
      append_cancel_left u (take (n - length u) (drop (length u) rest)) v
          (ap (λ s. s ++ take (n - length u) (drop (length u) rest)) (sym first)
          ∙ sym (take-add (length u) (n - length u) rest) ∙ ap (λ k. take k rest) (omega arith) ∙ e),
    )

module _ (names : List Expression) (rules : List Rule) (s : Scanner) (a : Agrees names rules s) (p : Place) where
  -- what is cut off a string of a rule is not its token
  string_cut : (i : ℕ) (w : List ℕ) → (f : IsString names rules p.condition p.line i w) → 1 ≤ length w
      → (token_len (s.cut i) (length w) ≡ Some (length f.spelled.0)) × (1 ≤ length f.spelled.0)
  string_cut i w f one =
      let u = f.spelled in
      rw (a.same_cut i f.rule f.is_active.is_rule)
      (cut_gives names f.rule.pattern.head f.rule.pattern.tail f.rule.pattern.cut w u.0 u.1
      (a.true_cuts i f.rule f.is_active.is_rule) u.2 one u.3 u.4 (a.with_bytes i f.rule f.is_active.is_rule))

  -- a candidate's match is a string of its rule
  string_of : (i n m : ℕ) → Candidate names rules p.condition p.line p.rest i n m
      → IsString names rules p.condition p.line i (take n p.rest)
  string_of i n m c = record {
    rule = c.rule;
    is_active = c.is_active;
    spelled = (
      take m p.rest,
      take (n - m) (drop m p.rest),
      (let le : m ≤ n = c.fits.token_within in let e : n ≡ m + (n - m)
          = omega arith in ap (λ k. take k p.rest) e ∙ take-add m (n - m) p.rest),
      c.fits.in_head,
      c.fits.in_tail,
    );
  }

  -- the longest match as a string of its rule, and what its cut leaves
  longest_string : (n i : ℕ) → IsLongestAt s p n i → (f : IsString names rules p.condition p.line i (take n p.rest))
      × (token_len (s.cut i) n ≡ Some (length f.spelled.0)) × (1 ≤ length f.spelled.0)
  longest_string n i l =
      let f = a.belongs p.condition p.line (take n p.rest) i l.has_rule in
      let long : length (take n p.rest) ≡ n = let h = l.within in omega (arith, length-take n p.rest) in
      let one = l.some_byte in
      let c = string_cut i (take n p.rest) f (omega arith) in
      (f, subst (λ k. token_len (s.cut i) k ≡ Some (length f.spelled.0)) long c.0, c.1)

  -- the longest match of the walk is the winner, cut down to its token
  pub winner_of : (n i len : ℕ) → IsLongestAt s p n i → token_len (s.cut i) n ≡ Some len
      → Winner names rules p.condition p.line p.rest i n len
  winner_of n i len l t =
      let w = longest_string n i l in
      let f = w.0 in
      let same : len ≡ length f.spelled.0 = let h = w.1 in cc in
      let q = parts_of p.rest f.spelled.0 f.spelled.1 n l.within f.spelled.2 in
      let long : length (take n p.rest) ≡ n = let h = l.within in omega (arith, length-take n p.rest) in
      let total : length f.spelled.0 + length f.spelled.1 ≡ n
      = omega (arith, ap length f.spelled.2, length-append f.spelled.0 f.spelled.1) in
      let fits : FitsPattern names f.rule.pattern p.rest n (length f.spelled.0) = record {
        some_byte = w.2;
        token_within = omega arith;
        within = l.within;
        in_head = subst (Matches names f.rule.pattern.head) (sym q.0) f.spelled.3;
        in_tail = subst (InTail names f.rule.pattern.tail) (sym q.1) f.spelled.4;
      } in
      record {
        is_candidate = record {
          rule = f.rule;
          is_active = f.is_active;
          fits = subst (λ k. FitsPattern names f.rule.pattern p.rest n k) (sym same) fits;
        };
        longest = λ j k m h. let g = a.found p.condition p.line (take k p.rest) j (string_of j k m h)
            in no_longer k g.0 h.fits.within g.1;
        first = λ j m h. a.least p.condition p.line (take n p.rest) i j l.has_rule (string_of j n m h);
      }
    where
      no_longer : (k g : ℕ) → k ≤ length p.rest → s.walk p.condition p.line (take k p.rest) ≡ Some (Some g) → k ≤ n
      no_longer k g within h = elim (cases_lt n k) [ inl less ↦ absurd (l.longest k g less within h) | inr le ↦ le ]

  -- where the walk has no rule there is no winner
  pub no_winner : HasNone (s.walk p.condition p.line) p.rest (length p.rest)
      → HasNoWinner names rules p.condition p.line p.rest
  no_winner none i n m c =
      let f = a.found p.condition p.line (take n p.rest) i (string_of i n m c) in
      let one = c.fits.some_byte in
      let le = c.fits.token_within in
      none n f.0 (omega arith) c.fits.within f.1

  -- the cut always leaves a token
  pub no_bad_cut : (n i : ℕ) → IsLongestAt s p n i → token_len (s.cut i) n ≡ None → ⊥
  no_bad_cut n i l t = let w = longest_string n i l in let h = w.1 in cc

-- what a scanner that agrees with the rules takes is the winner
taken_wins : (names : List Expression) (rules : List Rule) (s : Scanner) → Agrees names rules s → (p : Place)
    (t : Lexeme) → IsLexemeAt s p t → IsWinnerAt names rules p t
taken_wins names rules s a p t h = winner_of names rules s a p t.matched t.rule.0 t.taken h.0 h.1

-- and where it ends the lexing ends
ends_end : (names : List Expression) (rules : List Rule) (s : Scanner) → Agrees names rules s → (p : Place) (e : End)
    → ScanEndsAt s p e → EndsAt names rules p e
ends_end names rules s a p Clean h = h
ends_end names rules s a p (Stuck b) h = (h.0, h.1, no_winner names rules s a p h.2)
ends_end names rules s a p (BadCut b) h = no_bad_cut names rules s a p h.1.0 h.1.1.0 h.1.1.1 h.1.1.2

-- a run of the scanner is the lexing of the rules
pub lexing_of : (names : List Expression) (rules : List Rule) (s : Scanner) → Agrees names rules s
    → (next : ℕ → Option ℕ) (p : Place) (ts : List Lexeme) (e : End)
    → Lexed (IsLexemeAt s) (ScanEndsAt s) next p ts e → Lexing names rules next p ts e
lexing_of names rules s a next p ts e h
    = lexed_as (IsLexemeAt s) (IsWinnerAt names rules) (ScanEndsAt s) (EndsAt names rules) next
    (taken_wins names rules s a) (ends_end names rules s a) p ts e h
